-- What a switch does with a copy.
use Rattle.std.specs.Prelude.{ℕ, List}
use Rattle.snap_rows.specs.declared.head.Action.{Action as Answered}
use Rattle.snap_rows.specs.declared.head.Action.TheVariants as answered
use Rattle.snap_rows.specs.declared.head.Head.{Head}
use Rattle.snap_rows.specs.declared.head.Sent.{Sent}

pub data Action : Type 0 where
  -- it crosses the link to a switch, with this head
  Forward : ℕ → Head → Action
  -- it leaves at a port of the switch
  Deliver : ℕ → Action
  -- these copies take its place, by rising packets; so many packets were for no port
  Fork : List Sent → ℕ → Action

-- what a call answers of it
abbrev pub action_of : Answered → Action
action_of (answered.Forward to head) = Forward to head
action_of (answered.Deliver port) = Deliver port
action_of (answered.Fork copies lost) = Fork copies.items lost

-- How far a text has gone out.
use Rattle.std.specs.Prelude.{◌≡◌, ℕ, List, ◌++◌, Result, Ok, Err}
use Rattle.std.specs.declared.option.Option.{Option}
use Rattle.std.specs.Io.KnownBytes.{Appends}
use Rattle.snap_io.specs.Sinks.{AppendsPart}

-- the sink has taken a first part of the text, and the rest waits
pub record Waits (old new : Option (List ℕ)) (text waiting : List ℕ) : Type 0 where
  pub front : List ℕ
  pub taken : Appends old new front
  pub whole : text ≡ front ++ waiting

-- More was put behind what waited: the sink has taken a first part of both, and the rest waits. Or this was refused, and
-- the sink has taken some first bytes of both.
abbrev pub Puts : {E : Type 0} → (old new : Option (List ℕ))
    → (waiting more : List ℕ) → Result (Unit {0}) E → (now_waiting : List ℕ) → Type 0
Puts old new waiting more (Ok u) now_waiting = Waits old new (waiting ++ more) now_waiting
Puts old new waiting more (Err e) now_waiting = AppendsPart old new (waiting ++ more)

-- What a leaf does: its answer, and its outcome.
use Rattle.std.specs.Prelude.{ℕ, Option, Some, None, List, option_map}
use Rattle.snap_core.specs.Arrays.{Arrays, updates}
use Rattle.snap_core.specs.Packets.{PacketSet}
use Rattle.snap_core.specs.Meaning.{Meaning}
use Rattle.snap_core.specs.Tests.{results}
use Rattle.snap_diagrams.specs.declared.leaf.Leaf.{Leaf}
use Rattle.snap_diagrams.specs.declared.leaf.Leaf.TheVariants.{Race, Go as Goes}

-- packets and logs, and for every store what the updates make of it
pub record Answer : Type 0 where
  pub packets : PacketSet
  pub reads : ℕ
  pub writes : ℕ
  pub change : Arrays → Arrays

-- a leaf's answer on a packet. None where two parts race
abbrev pub answer_of : Leaf → List ℕ → Option Answer
answer_of Race k = None
answer_of (Goes g) k = Some (record { packets = results g.outs k; reads = g.reads; writes = g.writes; change = λ m. updates m g.ups k })

-- the outcome is the answer at the store itself
abbrev pub outcome_of : Option Answer → Arrays → Option Meaning
outcome_of a m = option_map (λ x. record { arrays = x.change m; packets = x.packets; reads = x.reads; writes = x.writes }) a

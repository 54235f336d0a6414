-- One big switch, one packet more.
use Rattle.std.proofs.Common.{◌∷◌}
use Rattle.snap_core.specs.Meaning.{Meaning}
use Rattle.snap_core.specs.Switch.{Switched}

-- what a packet became, before what those behind it became
abbrev pub in_front : Meaning → Switched → Switched
in_front o a = record { packets = o.packets ∷ a.packets; arrays = a.arrays }

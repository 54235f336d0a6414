-- What either of two tests is about.
use Rattle.std.specs.Prelude.{bit_or}
use Rattle.snap_context.specs.declared.tested.Tested.{Tested}

abbrev pub either_tested : Tested → Tested → Tested
either_tested a b = record { comps = bit_or a.comps b.comps; arrays = bit_or a.arrays b.arrays }

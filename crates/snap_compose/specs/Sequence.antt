-- One part after another.
use Rattle.std.specs.Prelude.{◌≢◌, ℕ, List, [], ◌∷◌, map, Option, option_map, option_and_then}
use Rattle.std.specs.List.{All}
use Rattle.snap_core.specs.Arrays.{Arrays}
use Rattle.snap_core.specs.Meaning.{Meaning, logged, all_together}
use Rattle.snap_core.specs.Packets.{listed}
use Rattle.snap_core.specs.Tests.{after_out}
use Rattle.snap_diagrams.specs.declared.leaf.Leaf.{Leaf}
use Rattle.snap_diagrams.specs.declared.leaf.Leaf.TheVariants.{Race, Go as Goes}

-- no two of the list are equal
abbrev pub AreDifferent : List (List ℕ) → Type 0
AreDifferent [] = Unit {0}
AreDifferent (k ∷ ks) = All (λ x. k ≢ x) ks × AreDifferent ks

-- no two outs of the leaf give equal packets
abbrev pub IsSettledLeaf : Leaf → List ℕ → Type 0
IsSettledLeaf Race k = Unit {0}
IsSettledLeaf (Goes g) k = AreDifferent (map (λ o. after_out o k) g.outs)

-- an outcome, and another part from its arrays on each of its packets
abbrev pub in_sequence : Option Meaning → (Arrays → List ℕ → Option Meaning) → Option Meaning
in_sequence first second =
    option_and_then
    (λ o. option_map (logged o.reads o.writes) (all_together o.arrays (map (λ k. second o.arrays k) (listed o.packets)))) first

-- Which unknown name is told: the least in byte order.
use Rattle.std.specs.Prelude.{◌≡◌, ◌≢◌, ℕ, true, List, All, Ok}
use Rattle.std.specs.Map.{keys_of}
use Rattle.std.specs.List.Sorted.{IsStrictlySortedBy}
use Rattle.std.specs.Ordering.{nat_cmp}
use Rattle.std.specs.Cmp.Lexicographic.{slice_cmp}
use Rattle.std.specs.declared.cmp.Ordering.TheVariants.{Greater}
use Rattle.snap_topology.specs.Spells.{document}
use Rattle.snap_placement.specs.declared.placement.PlaceFault.{PlaceFault}
use Rattle.snap_placement.specs.declared.placement.PlaceFault.TheVariants.{NoVariable}
use Rattle.snap_placement.specs.Answer.{is_unknown}
use Rattle.snap_placement.specs.Shape.{entries_of}

-- the names rise in byte order
abbrev pub InByteOrder : List (List ℕ × List ℕ) → Type 0
InByteOrder entries = IsStrictlySortedBy (slice_cmp nat_cmp) (keys_of entries)

-- no unknown name is before the one that is told
abbrev pub IsLeast : List (List ℕ) → List (List ℕ × List ℕ) → List ℕ → Type 0
IsLeast arrays entries name = All
    (λ (entry : List ℕ × List ℕ). is_unknown arrays entry ≡ true → slice_cmp nat_cmp name entry.0 ≢ Greater) entries

abbrev pub TellsLeastOf : List (List ℕ) → List (List ℕ × List ℕ) → PlaceFault → Type 0
TellsLeastOf arrays entries (NoVariable name) = IsLeast arrays entries name
TellsLeastOf arrays entries _ = Unit {0}

-- a name that is told as unknown is the least such name of the text
abbrev pub TellsLeast : List (List ℕ) → List ℕ → PlaceFault → Type 0
TellsLeast arrays text e = (entries : List (List ℕ × List ℕ)) → entries_of (document text) ≡ Ok entries → TellsLeastOf arrays entries e

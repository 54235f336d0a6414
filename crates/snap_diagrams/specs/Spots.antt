-- Places of one array that no store and packet make one.
use Rattle.std.specs.Prelude.{◌≡◌, ◌≢◌, ◌⊎◌, ℕ, ◌<◌, false, List, [], ◌∷◌, length, slice_index_or}
use Rattle.std.specs.List.{All}
use Rattle.snap_core.specs.declared.policy.Atom.{Atom}
use Rattle.snap_core.specs.declared.policy.Atom.TheVariants.{Num as Number, Comp}
use Rattle.snap_core.specs.declared.policy.Term.{Term}
use Rattle.snap_core.specs.Arrays.{has}
use Rattle.snap_core.specs.Terms.{IsNumber}
use Rattle.snap_diagrams.specs.declared.spots.Asked.{Asked}
use Rattle.snap_diagrams.specs.declared.spots.Asked.TheVariants.{Numbers, Only}
use Rattle.snap_diagrams.specs.declared.spots.TestedPlace.{TestedPlace}

abbrev pub AskedFor : Asked → Term → Type 0
AskedFor Numbers t = IsNumber t
AskedFor (Only u) t = t ≡ u

-- two atoms that differ wherever components outside of the set have numbers of their own
abbrev pub AtomsApart : ℕ → Atom → Atom → Type 0
AtomsApart values (Number n) (Number o) = n ≢ o
AtomsApart values (Number n) (Comp d) = has values d ≡ false
AtomsApart values (Comp c) (Number o) = has values c ≡ false
AtomsApart values (Comp c) (Comp d) = (c ≢ d) × ((has values c ≡ false) ⊎ (has values d ≡ false))

-- of other lengths, or apart at some atom
abbrev pub IndicesApart : ℕ → List Atom → List Atom → Type 0
IndicesApart values ix iy = (length ix ≢ length iy)
    ⊎ ((i : ℕ) × (i < length ix) × (i < length iy) × AtomsApart values (slice_index_or ix i (Number 0)) (slice_index_or iy i (Number 0)))

abbrev pub SpotsApart : ℕ → List TestedPlace → Type 0
SpotsApart values [] = Unit {0}
SpotsApart values (a ∷ spots) = All (λ (b : TestedPlace). IndicesApart values a.index b.index) spots × SpotsApart values spots

-- one of the spots is at the index, and tested for the term
abbrev pub IsAt : List TestedPlace → List Atom → Term → Type 0
IsAt [] ix t = ⊥
IsAt (a ∷ spots) ix t = ((a.index ≡ ix) × AskedFor a.asked t) ⊎ IsAt spots ix t

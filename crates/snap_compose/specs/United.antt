-- Outs of two leaves, each once.
use Rattle.std.specs.Prelude.{◌≡◌, ℕ, Bool, List, [], ◌∷◌, ◌++◌, is_some, if◌then◌else◌}
use Rattle.std.specs.List.{list_any}
use Rattle.std.specs.Str.{bytes_eq}
use Rattle.snap_core.specs.Cells.{Cells, cell}
use Rattle.snap_core.specs.declared.policy.Atom.{Atom}
use Rattle.snap_diagrams.specs.LeafCodes.{out_code}

-- whether one of the outs has this code
abbrev pub has_code : List ℕ → List (List (ℕ × Atom)) → Bool
has_code q os = list_any (λ o. bytes_eq (out_code o) q) os

-- outs with one more, where none is spelled as it is
abbrev pub with_out : List (List (ℕ × Atom)) → List (ℕ × Atom) → List (List (ℕ × Atom))
with_out os o = if has_code (out_code o) os then os else os ++ o ∷ []

abbrev pub with_outs : List (List (ℕ × Atom)) → List (List (ℕ × Atom)) → List (List (ℕ × Atom))
with_outs os [] = os
with_outs os (p ∷ ps) = with_outs (with_out os p) ps

-- the outs of two leaves: of those that are spelled the same, the first
abbrev pub united : List (List (ℕ × Atom)) → List (List (ℕ × Atom)) → List (List (ℕ × Atom))
united xs ys = with_outs (with_outs [] xs) ys

-- the cells tell which codes the outs have
abbrev pub Knows : Cells → List (List (ℕ × Atom)) → Type 0
Knows cells os = (q : List ℕ) → is_some (cell cells q) ≡ has_code q os

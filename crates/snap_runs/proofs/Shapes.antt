-- Names of arrays.
use Rattle.std.proofs.Common.{◌≡◌, ℕ, ◌<◌, List, length, get_or, sym, ap, ◌∙◌}
use Rattle.std.proofs.lemmas.List.{get_or-map}
use Rattle.snap_rows.specs.declared.tables.ArrayAt.{ArrayAt}
use Rattle.snap_runs.specs.Reports.{names_of}

-- the name of an array
pub name_of : (xs : List ArrayAt) (i : ℕ) (a : ArrayAt) → i < length xs → a ≡ get_or xs i a → a.name ≡ get_or (names_of xs) i a.name
name_of xs i a within is = ap (λ (x : ArrayAt). x.name) is ∙ sym (get_or-map (λ (x : ArrayAt). x.name) xs i a a.name within)

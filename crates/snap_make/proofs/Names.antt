-- The names of a program's fields and arrays.
use Rattle.std.proofs.Common.{ℕ, ◌+◌, List, [], ◌∷◌, ◌++◌, map, Option, Some, None, subst}
use Rattle.std.specs.Prelude.{codes}
use Rattle.std.specs.List.{All}
use Rattle.std.proofs.lemmas.List.{map-append}
use Rattle.std.proofs.lemmas.List.Elements.{All-nil, All-cons, All-head}
use Rattle.snap_core.proofs.Elements.{All-back, All-front}
use Rattle.snap_core.specs.declared.program.Field.{Field}
use Rattle.snap_core.specs.declared.program.Found.{Found}
use Rattle.snap_core.specs.Fields.{width, declared_at, declared_from}

-- what holds of the names that fields declare holds of the fields' own names
module _ (P : List ℕ → Type 0) where
  abbrev first_of : List (List ℕ × Found) → List (List ℕ)
  first_of es = map (λ (e : List ℕ × Found). e.0) es

  own : (c : ℕ) (name : List ℕ) (prefix : Option ℕ) → All P (first_of (declared_at c name prefix)) → P name
  own c name None h = All-head P name [] h
  own c name (Some n) h = All-head P name ((name ++ codes ".net") ∷ (name ++ codes ".host") ∷ []) h

  pub field_names : (c : ℕ) (fs : List Field) → All P (first_of (declared_from c fs)) → All (λ (f : Field). P f.name) fs
  field_names c [] h = All-nil (λ (f : Field). P f.name)
  field_names c (f ∷ fs) h =
      let parts : All P (first_of (declared_at c f.name f.prefix) ++ first_of (declared_from (c + width f.prefix) fs)) =
      subst (All P) (map-append (λ (e : List ℕ × Found). e.0) (declared_at c f.name f.prefix) (declared_from (c + width f.prefix) fs)) h in
      All-cons (λ (f : Field). P f.name) f fs
      (own c f.name f.prefix (All-front P (first_of (declared_at c f.name f.prefix)) (first_of (declared_from (c + width f.prefix) fs)) parts))
      (field_names (c + width f.prefix) fs (All-back P (first_of (declared_at c f.name f.prefix)) (first_of (declared_from (c + width f.prefix) fs)) parts))

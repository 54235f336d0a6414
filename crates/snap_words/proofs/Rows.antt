-- The rows of `clap`'s matches, looked up by their id.
use Rattle.std.proofs.Common.{unwrap_or, ◌≡◌, ◌∙◌, refl, sym, ap, Bool, true, false, cond, List, [], ◌∷◌, ◌++◌, Some, None, is_some, bytes_eq}
use Rattle.std.proofs.lemmas.Bool.{false≢true}
use Rattle.std.proofs.lemmas.Slice.Eq.{bytes_eq-Decides}
use Rattle.clap.specs.Words.{Row, Text}
use Rattle.clap.specs.Values.{read_as}
use Rattle.clap.specs.Walk.{all_of, has_row, more_values, one_of, with_values, without}
use Rattle.clap.specs.declared.parser.matches.ValueSource.{ValueSource}
use Rattle.clap.specs.declared.builder.value_parser.Reading.{Reading}

module _ (id other : Text) (how : Reading) (s : ValueSource) (vs : List Text) where
  row_other : (r : Row) (rs : List Row) (b c : Bool) → bytes_eq r.id id ≡ b → bytes_eq r.id other ≡ c → bytes_eq id other ≡ false → all_of other (with_values id how s vs rs) ≡ all_of other rs
      → all_of other (cond b (more_values s vs r ++ rs) (r ∷ with_values id how s vs rs)) ≡ all_of other (r ∷ rs)
  row_other r rs true true is at apart ih =
      let same : r.id ≡ id = (bytes_eq-Decides r.id id).0 is in
      absurd (false≢true (sym apart ∙ ap (λ t. bytes_eq t other) (sym same) ∙ at))
  row_other r rs true false is at apart ih = rw at refl
  row_other r rs false true is at apart ih = rw at refl
  row_other r rs false false is at apart ih = rw at ih

  pub all_of-other : (rows : List Row) → bytes_eq id other ≡ false → all_of other (with_values id how s vs rows) ≡ all_of other rows
  all_of-other [] apart = rw apart refl
  all_of-other (r ∷ rs) apart = row_other r rs _ _ refl refl apart (all_of-other rs apart)

module _ (id : Text) (how : Reading) (s : ValueSource) (vs : List Text) where
  row_same : (r : Row) (rs : List Row) (b : Bool) → bytes_eq r.id id ≡ b → all_of id (with_values id how s vs rs) ≡ Some (unwrap_or (all_of id rs) [] ++ vs)
      → all_of id (cond b (more_values s vs r ++ rs) (r ∷ with_values id how s vs rs)) ≡ Some (unwrap_or (all_of id (r ∷ rs)) [] ++ vs)
  row_same r rs true is ih = rw is refl
  row_same r rs false is ih = rw is ih

  pub all_of-same : (rows : List Row) → bytes_eq id id ≡ true → all_of id (with_values id how s vs rows) ≡ Some (unwrap_or (all_of id rows) [] ++ vs)
  all_of-same [] it = rw it refl
  all_of-same (r ∷ rs) it = row_same r rs _ refl (all_of-same rs it)

row_absent : (id : Text) (r : Row) (rs : List Row) (b : Bool) → bytes_eq r.id id ≡ b → all_of id (r ∷ rs) ≡ None → (all_of id rs ≡ None → without id rs ≡ rs) → cond b rs (r ∷ without id rs) ≡ r ∷ rs
row_absent id r rs true is none ih = absurd (let e : Some r.values ≡ None = (let f = rw is at none in f) in cc)
row_absent id r rs false is none ih = ap (λ t. r ∷ t) (ih (rw is at none))

pub without-absent : (id : Text) (rows : List Row) → all_of id rows ≡ None → without id rows ≡ rows
without-absent id [] none = refl
without-absent id (r ∷ rs) none = row_absent id r rs _ refl none (without-absent id rs)

has_by : (id : Text) (r : Row) (rs : List Row) (b : Bool) → bytes_eq r.id id ≡ b → has_row id rs ≡ is_some (all_of id rs) → has_row id (r ∷ rs) ≡ is_some (all_of id (r ∷ rs))
has_by id r rs true is ih = rw is refl
has_by id r rs false is ih = rw is ih

pub has_row-all_of : (id : Text) (rows : List Row) → has_row id rows ≡ is_some (all_of id rows)
has_row-all_of id [] = refl
has_row-all_of id (r ∷ rs) = has_by id r rs _ refl (has_row-all_of id rs)

module _ (id other : Text) (how : Reading) (s : ValueSource) (vs : List Text) where
  one_other : (r : Row) (rs : List Row) (b c : Bool) → bytes_eq r.id id ≡ b → bytes_eq r.id other ≡ c → bytes_eq id other ≡ false → one_of other (with_values id how s vs rs) ≡ one_of other rs
      → one_of other (cond b (more_values s vs r ++ rs) (r ∷ with_values id how s vs rs)) ≡ one_of other (r ∷ rs)
  one_other r rs true true is at apart ih =
      let same : r.id ≡ id = (bytes_eq-Decides r.id id).0 is in
      absurd (false≢true (sym apart ∙ ap (λ t. bytes_eq t other) (sym same) ∙ at))
  one_other r rs true false is at apart ih = rw at refl
  one_other r rs false true is at apart ih = rw at refl
  one_other r rs false false is at apart ih = rw at ih

  pub one_of-other : (rows : List Row) → bytes_eq id other ≡ false → one_of other (with_values id how s vs rows) ≡ one_of other rows
  one_of-other [] apart = rw apart refl
  one_of-other (r ∷ rs) apart = one_other r rs _ _ refl refl apart (one_of-other rs apart)

module _ (id : Text) (how : Reading) (s : ValueSource) (v : Text) where
  one_same : (r : Row) (rs : List Row) (b : Bool) → bytes_eq r.id id ≡ b → all_of id (r ∷ rs) ≡ None → (all_of id rs ≡ None → one_of id (with_values id how s (v ∷ []) rs) ≡ Some (read_as how v))
      → one_of id (cond b (more_values s (v ∷ []) r ++ rs) (r ∷ with_values id how s (v ∷ []) rs)) ≡ Some (read_as how v)
  one_same r rs true is none ih = absurd (let e : Some r.values ≡ None = (let f = rw is at none in f) in cc)
  one_same r rs false is none ih = rw is (ih (rw is at none))

  pub one_of-same : (rows : List Row) → bytes_eq id id ≡ true → all_of id rows ≡ None → one_of id (with_values id how s (v ∷ []) rows) ≡ Some (read_as how v)
  one_of-same [] it none = rw it refl
  one_of-same (r ∷ rs) it none = one_same r rs _ refl none (one_of-same rs it)

-- The rows of numbers.
use Rattle.std.proofs.Common.{◌≡◌, ℕ, ◌+◌, ◌<◌, Option, Some, None, length, get_or, sym, ap, subst, ◌∙◌, arith, ⊎_elim}
use Rattle.std.specs.Prelude.{◌↔◌, MatchOption, slice_get}
use Rattle.std.specs.List.{All}
use Rattle.std.proofs.lemmas.Bool.{cases_lt}
use Rattle.std.proofs.lemmas.Option.{slice_get-get_or, get_or_from_slice_get}
use Rattle.snap_rows.specs.declared.tables.RowAt.{RowAt}
use Rattle.snap_rows.specs.declared.tables.Tables.{Tables}
use Rattle.snap_rows.specs.Entries.{node_of}
use Rattle.snap_rows.specs.Rules.{IsFieldRow}
use Rattle.snap_rows.specs.Standing.{IsNodeFrom, AreNodesFrom, AreFieldsTo}

pub node_there : (t : Tables) (m : ℕ → Option ℕ) (n i : ℕ) → AreNodesFrom t 0 m → m n ≡ Some i → IsNodeFrom t 0 n i
node_there t m n i nodes e = subst (λ o. MatchOption o (node_of t n ≡ None) (IsNodeFrom t 0 n)) e (nodes n)

pub no_fields : (t : Tables) (m : ℕ → Option ℕ) → ((n : ℕ) → m n ≡ None) → AreFieldsTo t 0 m
no_fields t m none n = (λ e i r low. absurd (let h : i < 0 = low in omega arith), λ all. none n)

pub more_fields : (t : Tables) (m m' : ℕ → Option ℕ) (k : ℕ) (r : RowAt) → slice_get t.rows k ≡ Some r → AreFieldsTo t k m
    → ((n : ℕ) → (m' n ≡ None) ↔ ((m n ≡ None) × (r.number ≡ n → ¬ IsFieldRow r.row))) → AreFieldsTo t (k + 1) m'
more_fields t m m' k r is before more n = (
  λ e i s low there. ⊎_elim
      (λ lt. (before n).0 ((more n).0 e).0 i s lt there)
      (λ ge. let same : k ≡ i = omega arith in subst (λ (x : RowAt). x.number ≡ n → ¬ IsFieldRow x.row) (one (sym is ∙ ap (slice_get t.rows) same ∙ there)) ((more n).0 e).1)
      (cases_lt i k),
  λ all. (more n).1 ((before n).1 (λ i s low. all i s (omega arith)), all k r (omega arith) is),
)
  where
    one : {x y : RowAt} → Some x ≡ Some y → x ≡ y
    one {x} e = ap (λ (o : Option RowAt). elim o [ None ↦ x | Some z ↦ z ]) e

pub no_field : (t : Tables) (m : ℕ → Option ℕ) (n : ℕ) → AreFieldsTo t (length t.rows) m → (m n ≡ None) ↔ All (λ (r : RowAt). r.number ≡ n → ¬ IsFieldRow r.row) t.rows
no_field t m n fields = (
  λ e i d within. (fields n).0 e i (get_or t.rows i d) within (slice_get-get_or t.rows i d within),
  λ all. (fields n).1 (λ i r low is. subst (λ (x : RowAt). x.number ≡ n → ¬ IsFieldRow x.row) (get_or_from_slice_get t.rows i r r is) (all i r low)),
)

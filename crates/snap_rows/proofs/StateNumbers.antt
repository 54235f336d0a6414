-- State rows have different numbers, so there are no more of them than numbers that have one.
use Rattle.std.proofs.Common.{◌≡◌, ◌≢◌, ℕ, suc, ◌+◌, ◌*◌, ◌<◌, ◌≤◌, Bool, true, false, cond, List, [], ◌∷◌, Some, length, refl, sym, subst, ◌∙◌, arith, ⊎_elim}
use Rattle.std.specs.Prelude.{◌==◌, nat_eq, slice_get, Contains, Decides, count_by, if◌then◌else◌}
use Rattle.std.specs.List.{AllByRecursion, IsDistinct}
use Rattle.std.proofs.lemmas.Bool.{eqb-true, eq-eqb, false≢true}
use Rattle.std.proofs.lemmas.Cmp.{nat_eq_equiv}
use Rattle.std.proofs.lemmas.List.Elements.{Contains-append_cases, Contains-push_cases}
use Rattle.std.proofs.lemmas.Map.Keys.{IsDistinct-cons}
use Rattle.std.proofs.lemmas.Map.Made.{is_member-Decides, length-le_from_is_member}
use Rattle.std.proofs.lemmas.Option.{slice_get_within, get_or_from_slice_get}
use Rattle.std.proofs.Math.Nat.{mul-le-mul_right}
use Rattle.snap_rows.specs.declared.tables.Row.{Row}
use Rattle.snap_rows.specs.declared.tables.Row.TheVariants.{Field, State, Go, Leaf, Stop, Last}
use Rattle.snap_rows.specs.declared.tables.RowAt.{RowAt}
use Rattle.snap_rows.specs.declared.tables.Rule.TheVariants.{Kind, Owner}
use Rattle.snap_rows.specs.declared.tables.Tables.{Tables}
use Rattle.snap_rows.specs.Bound.{is_state, states, HaveStates, most_hops, most_hops_by, most_stages, longest}
use Rattle.snap_rows.specs.Entries.{row_at, ranks}
use Rattle.snap_rows.specs.Form.{IsWellFormed}
use Rattle.snap_rows.specs.Rules.{IsValid}
use Rattle.snap_rows.proofs.FallsOne.{Decided, one_decision, one_more}
use Rattle.snap_rows.proofs.Places.{row_here}
use Rattle.snap_rows.proofs.Rows.{row_keeps}
use Rattle.snap_rows.proofs.Search.{one_place}

abbrev numbers : List RowAt → List ℕ
numbers [] = []
numbers (r ∷ rs) = cond (is_state r.row) (r.number ∷ numbers rs) (numbers rs)

count_numbers : (rs : List RowAt) → length (numbers rs) ≡ count_by (λ (r : RowAt). is_state r.row) rs
count_numbers [] = refl
count_numbers (r ∷ rs) = by (is_state r.row) (count_numbers rs) ∙ sym (one_more (λ (r : RowAt). is_state r.row) r rs)
  where
    by : (b : Bool) → length (numbers rs) ≡ count_by (λ (r : RowAt). is_state r.row) rs → length (cond b (r.number ∷ numbers rs) (numbers rs)) ≡ cond b 1 0 + count_by (λ (r : RowAt). is_state r.row) rs
    by true e = omega arith
    by false e = omega arith

-- no state row among these has number n
abbrev NoneHas : ℕ → List RowAt → Type 0
NoneHas n rs = (j : ℕ) (s : RowAt) → slice_get rs j ≡ Some s → is_state s.row ≡ true → n ≢ s.number

other : (n k : ℕ) → n ≢ k → nat_eq n k ≡ false
other n k differ = by (nat_eq n k) refl
  where
    by : (b : Bool) → nat_eq n k ≡ b → nat_eq n k ≡ false
    by false e = e
    by true e = absurd (differ (eqb-true n k e))

none_equal : (n : ℕ) (rs : List RowAt) → NoneHas n rs → AllByRecursion (λ k. nat_eq n k ≡ false) (numbers rs)
none_equal n [] none = tt
none_equal n (r ∷ rs) none = by (is_state r.row) refl (none_equal n rs (λ j s is e. none (suc j) s is e))
  where
    by : (b : Bool) → is_state r.row ≡ b → AllByRecursion (λ k. nat_eq n k ≡ false) (numbers rs) → AllByRecursion (λ k. nat_eq n k ≡ false) (cond b (r.number ∷ numbers rs) (numbers rs))
    by true e rest = (other n r.number (none 0 r refl e), rest)
    by false e rest = rest

-- state rows have different numbers
abbrev Apart : List RowAt → Type 0
Apart rs = (i j : ℕ) (r s : RowAt) → i < j → slice_get rs i ≡ Some r → slice_get rs j ≡ Some s → is_state r.row ≡ true → is_state s.row ≡ true → r.number ≢ s.number

once : (rs : List RowAt) → Apart rs → IsDistinct nat_eq (numbers rs)
unfolding IsDistinct
once [] apart = tt
once (r ∷ rs) apart = by (is_state r.row) refl (once rs (λ i j a b below is js e f. apart (suc i) (suc j) a b (let h : i < j = below in omega arith) is js e f))
  where
    by : (b : Bool) → is_state r.row ≡ b → IsDistinct nat_eq (numbers rs) → IsDistinct nat_eq (cond b (r.number ∷ numbers rs) (numbers rs))
    by true e rest = IsDistinct-cons nat_eq r.number (numbers rs) (none_equal r.number rs (λ j s js f. apart 0 (suc j) r s (omega arith) refl js e f)) rest
    by false e rest = rest

-- a number that is listed has a state row
has_row : (rs : List RowAt) (n : ℕ) → Contains (numbers rs) n → (j : ℕ) × (s : RowAt) × (slice_get rs j ≡ Some s) × (is_state s.row ≡ true) × (s.number ≡ n)
has_row [] n c = absurd (let h : c.0 < 0 = c.1 in omega arith)
has_row (r ∷ rs) n c = by (is_state r.row) refl c (has_row rs n)
  where
    Found : List RowAt → Type 0
    Found rs = (j : ℕ) × (s : RowAt) × (slice_get rs j ≡ Some s) × (is_state s.row ≡ true) × (s.number ≡ n)

    later : Found rs → Found (r ∷ rs)
    later f = (suc f.0, f.1, f.2, f.3, f.4)

    by : (b : Bool) → is_state r.row ≡ b → Contains (cond b (r.number ∷ numbers rs) (numbers rs)) n → (Contains (numbers rs) n → Found rs) → Found (r ∷ rs)
    by true e c rest = ⊎_elim
        (λ first. ⊎_elim (λ none. absurd (let h : none.0 < 0 = none.1 in omega arith)) (λ same. (0, r, refl, e, same)) (Contains-push_cases [] r.number n first))
        (λ more. later (rest more))
        (Contains-append_cases (r.number ∷ []) (numbers rs) n c)
    by false e c rest = later (rest c)

-- ---- in valid tables of version 1
decides : (t : Tables) → IsValid t → t.version ≡ 1 → (w n : ℕ) (b : Row) → row_at t w n ≡ Some b → is_state b ≡ true → Decided t n w
decides t valid one w n (State test y z) row e = record { test = test; yes' = y; no' = z; row = row; node = (row_keeps t valid Kind w n (State test y z) row).0 one; own = row_keeps t valid Owner w n (State test y z) row one }
decides t valid one w n (Field test y z) row e = absurd (false≢true e)
decides t valid one w n (Go x) row e = absurd (false≢true e)
decides t valid one w n (Leaf ss os) row e = absurd (false≢true e)
decides t valid one w n Stop row e = absurd (false≢true e)
decides t valid one w n (Last us os) row e = absurd (false≢true e)

states_apart : (t : Tables) → IsValid t → IsWellFormed t → t.version ≡ 1 → Apart t.rows
states_apart t valid form one i j r s below is js e f same =
    let first = decides t valid one r.at r.number r.row (row_here t.rows form.rows_rise r.at r.number i r is refl refl) e in
    let second = decides t valid one s.at r.number s.row (row_here t.rows form.rows_rise s.at r.number j s js refl (sym same)) f in
    let at : r.at ≡ s.at = one_decision t r.number r.at s.at first second in
    let place : i ≡ j = one_place (λ (x : RowAt). x.at) (λ (x : RowAt). x.number) t.rows form.rows_rise i j r s is js at same in
    omega arith

few_states : (t : Tables) → IsValid t → IsWellFormed t → t.version ≡ 1 → (ns : List ℕ) → HaveStates t ns → states t ≤ length ns
few_states t valid form one ns have =
    let same : (a b : ℕ) → Decides (nat_eq a b) (a ≡ b) = λ a b. (eqb-true a b, eq-eqb a b) in
    let listed : (q : ℕ) → Contains (numbers t.rows) q → Contains ns q = λ q c.
    let f = has_row t.rows q c in
    subst (Contains ns) f.4 (have f.1 (f.0, slice_get_within t.rows f.0 f.1 f.2, get_or_from_slice_get t.rows f.0 f.1 f.1 f.2) f.3) in
    let few : length (numbers t.rows) ≤ length ns = length-le_from_is_member nat_eq_equiv (numbers t.rows) ns (once t.rows (states_apart t valid form one)) (λ q is. (is_member-Decides same ns q).1 (listed q ((is_member-Decides same (numbers t.rows) q).0 is))) in
    let count : length (numbers t.rows) ≡ states t = count_numbers t.rows in
    omega arith

pub enough : (t : Tables) → IsValid t → IsWellFormed t → (ns : List ℕ) → HaveStates t ns → most_hops t ≤ most_hops_by t ns
enough t valid form ns have = by (t.version == 1) refl
  where
    by : (b : Bool) → (t.version == 1) ≡ b → (if b then states t + most_stages t + 1 else ranks t + 1) * longest t ≤ (if b then length ns + most_stages t + 1 else ranks t + 1) * longest t
    by true e = let few : states t ≤ length ns = few_states t valid form (eqb-true t.version 1 e) ns have in mul-le-mul_right (longest t) (omega arith)
    by false e = omega arith

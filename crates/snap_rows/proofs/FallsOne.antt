-- What is left of a copy's way falls with each step of version 1.
use Rattle.std.proofs.Common.{◌≡◌, ◌≢◌, ℕ, zero, suc, ◌+◌, ◌-◌, ◌*◌, ◌<◌, ◌≤◌, Bool, true, false, cond, List, [], ◌∷◌, Option, Some, None, length, refl, sym, ap, subst, ◌∙◌, arith, inl, inr, ⊎_elim, ◌⊎◌}
use Rattle.std.specs.Prelude.{slice_get, get_or, IsSome, IfSome, is_some, option_map, ◌&&◌, nat_lt, count_by, if◌then◌else◌}
use Rattle.std.proofs.lemmas.Bool.{false≢true, ltb-true, lt-ltb, le-ltb, eq-eqb, and_parts, and_from, and_right}
use Rattle.std.proofs.lemmas.Option.{slice_get-get_or, same_Some}
use Rattle.std.proofs.lemmas.List.Sums.{sum_by-cons}
use Rattle.std.proofs.Math.Nat.{suc-mul, mul-le-mul_right}
use Rattle.snap_core.specs.declared.policy.Test.{Test}
use Rattle.snap_core.specs.Arrays.{Arrays}
use Rattle.snap_rows.specs.declared.tables.RowAt.{RowAt}
use Rattle.snap_rows.specs.declared.tables.Tables.{Tables}
use Rattle.snap_rows.specs.declared.tables.Rule.TheVariants.{Kind, Owner}
use Rattle.snap_rows.specs.declared.tables.Row.{Row}
use Rattle.snap_rows.specs.declared.tables.Row.TheVariants.{Field, State, Go, Leaf, Stop, Last}
use Rattle.snap_rows.specs.declared.tables.Stage.{Stage as LeafStage}
use Rattle.snap_rows.specs.declared.head.Head.{Head}
use Rattle.snap_rows.specs.declared.head.Head.TheVariants.{Walk, Stage as AtStage}
use Rattle.snap_rows.specs.Actions.{Action}
use Rattle.snap_rows.specs.Entries.{Parts, row_at, node_of, owner_of, port_at, next, ranks, var_of}
use Rattle.snap_rows.specs.Form.{IsWellFormed, switch_count}
use Rattle.snap_rows.specs.Rules.{IsValid, IsStateRow}
use Rattle.snap_rows.specs.Home.{AtHome}
use Rattle.snap_rows.specs.Handles.{Handles, asks, goes, forks, begins, passes_on, goes_on, completes, enters, enters_last, seeks, visits, concludes, delivers, carries}
use Rattle.snap_rows.specs.Bound.{distance, longest, is_state, states, states_above, stages_of, most_stages, most_stages_in, to_switch, to_decision, from_stage, left, most_hops}
use Rattle.snap_rows.proofs.Rows.{row_keeps, row_form, entry_of}
use Rattle.snap_rows.proofs.Ways.{side_goes}
use Rattle.snap_rows.proofs.Growing.{not_two}
use Rattle.snap_rows.proofs.Arrives.{same_leaf, arrives, stage_first, stage_next}
use Rattle.snap_rows.proofs.Bounded.{Falls, Measures, port_below, port_home, far_short, nearer, wider, fork_falls, carry_falls}
use Rattle.snap_rows.proofs.Falls.{visit_bound, conclude_bound}
use Rattle.snap_rows.proofs.Plans.{turn_below}

-- ---- counts
pub one_more : (p : RowAt → Bool) (x : RowAt) (xs : List RowAt) → count_by p (x ∷ xs) ≡ cond (p x) 1 0 + count_by p xs
one_more p x xs = sum_by-cons (λ x. cond (p x) 1 0) x xs

more_le : (p q : RowAt → Bool) (x : RowAt) (xs : List RowAt) → cond (p x) 1 0 + count_by p xs ≤ cond (q x) 1 0 + count_by q xs → count_by p (x ∷ xs) ≤ count_by q (x ∷ xs)
more_le p q x xs le = let e = one_more p x xs in let f = one_more q x xs in omega arith

more_lt : (p q : RowAt → Bool) (x : RowAt) (xs : List RowAt) → cond (p x) 1 0 + count_by p xs + 1 ≤ cond (q x) 1 0 + count_by q xs → count_by p (x ∷ xs) + 1 ≤ count_by q (x ∷ xs)
more_lt p q x xs le = let e = one_more p x xs in let f = one_more q x xs in omega arith

count_le : (p q : RowAt → Bool) (xs : List RowAt) → ((r : RowAt) → p r ≡ true → q r ≡ true) → count_by p xs ≤ count_by q xs
count_le p q [] h = omega arith
count_le p q (x ∷ xs) h = more_le p q x xs (by (p x) (q x) refl refl (count_le p q xs h))
  where
    by : (a b : Bool) → p x ≡ a → q x ≡ b → count_by p xs ≤ count_by q xs → cond a 1 0 + count_by p xs ≤ cond b 1 0 + count_by q xs
    by true true e f le = omega arith
    by true false e f le = absurd (false≢true (sym f ∙ h x e))
    by false true e f le = omega arith
    by false false e f le = omega arith

-- one at least is counted by q alone
count_lt : (p q : RowAt → Bool) (xs : List RowAt) (i : ℕ) (r : RowAt) → slice_get xs i ≡ Some r → p r ≡ false → q r ≡ true → ((r : RowAt) → p r ≡ true → q r ≡ true) → count_by p xs + 1 ≤ count_by q xs
count_lt p q [] i r is e f h = absurd (false≢true (ap (λ (o : Option RowAt). is_some o) is))
count_lt p q (x ∷ xs) zero r is e f h = more_lt p q x xs (by (p x) (q x) (ap p same ∙ e) (ap q same ∙ f) (count_le p q xs h))
  where
    same : x ≡ r
    same = same_Some _ _ is

    by : (a b : Bool) → a ≡ false → b ≡ true → count_by p xs ≤ count_by q xs → cond a 1 0 + count_by p xs + 1 ≤ cond b 1 0 + count_by q xs
    by false true e f le = omega arith
    by true b e f le = absurd (false≢true (sym e))
    by false false e f le = absurd (false≢true f)
count_lt p q (x ∷ xs) (suc i) r is e f h = more_lt p q x xs (by (p x) (q x) refl refl (count_lt p q xs i r is e f h))
  where
    by : (a b : Bool) → p x ≡ a → q x ≡ b → count_by p xs + 1 ≤ count_by q xs → cond a 1 0 + count_by p xs + 1 ≤ cond b 1 0 + count_by q xs
    by true true e f le = omega arith
    by true false e f le = absurd (false≢true (sym f ∙ h x e))
    by false true e f le = omega arith
    by false false e f le = omega arith

-- ---- the switch that decides a number
pub record Decided (t : Tables) (n x : ℕ) : Type 0 where
  pub test : Test
  pub yes' : ℕ
  pub no' : ℕ
  pub row : row_at t x n ≡ Some (State test yes' no')
  pub node : node_of t n ≡ Some (State test yes' no')
  pub own : owner_of t (var_of test) ≡ Some x

decided : (t : Tables) → IsValid t → t.version ≡ 1 → (w n x : ℕ) → row_at t w n ≡ Some (Go x) → (x ≢ w) × Decided t n x
decided t valid one w n x row = let g = (row_keeps t valid Kind w n (Go x) row).0 one in (g.0, by g.1.0 g.1.1 g.1.2)
  where
    by : (b : Row) → row_at t x n ≡ Some b → IsStateRow b → Decided t n x
    by (State test y z) e h = record { test = test; yes' = y; no' = z; row = e; node = (row_keeps t valid Kind x n (State test y z) e).0 one; own = row_keeps t valid Owner x n (State test y z) e one }
    by (Field test y z) e h = absurd h
    by (Go v) e h = absurd h
    by (Leaf ss os) e h = absurd h
    by Stop e h = absurd h
    by (Last us os) e h = absurd h

-- state rows of a number stand at one switch
pub one_decision : (t : Tables) (n x y : ℕ) → Decided t n x → Decided t n y → x ≡ y
one_decision t n x y d e =
    let same : State d.test d.yes' d.no' ≡ State e.test e.yes' e.no' = same_Some _ _ (sym d.node ∙ e.node) in
    let test : d.test ≡ e.test = cc in
    same_Some _ _ (sym d.own ∙ ap (λ (test : Test). owner_of t (var_of test)) test ∙ e.own)

above_more : (n x : ℕ) → n < x → (r : RowAt) → (is_state r.row && nat_lt x r.number) ≡ true → (is_state r.row && nat_lt n r.number) ≡ true
above_more n x less r e =
    let p = and_parts (is_state r.row) (nat_lt x r.number) e in
    and_from (is_state r.row) (nat_lt n r.number) p.0 (lt-ltb n r.number (let h : x < r.number = ltb-true x r.number p.1 in omega arith))

above_all : (x : ℕ) (r : RowAt) → (is_state r.row && nat_lt x r.number) ≡ true → is_state r.row ≡ true
above_all x r e = (and_parts (is_state r.row) (nat_lt x r.number) e).0

-- a number that is decided somewhere isn't counted above itself
above_less : (t : Tables) (n x y : ℕ) → n < x → Decided t x y → states_above t x + 1 ≤ states_above t n
above_less t n x y less d =
    let i = entry_of t.rows y x (State d.test d.yes' d.no') d.row in
    let is : is_state i.entry.row ≡ true = ap is_state i.body in
    let e : i.entry.number ≡ x = i.number in
    count_lt (λ r. is_state r.row && nat_lt x r.number) (λ r. is_state r.row && nat_lt n r.number) t.rows i.place i.entry i.is
    (and_right (is_state i.entry.row) (nat_lt x i.entry.number) (le-ltb x i.entry.number (omega arith)))
    (and_from (is_state i.entry.row) (nat_lt n i.entry.number) is (lt-ltb n i.entry.number (omega arith)))
    (above_more n x less)

above_some : (t : Tables) (x y : ℕ) → Decided t x y → states_above t x + 1 ≤ states t
above_some t x y d =
    let i = entry_of t.rows y x (State d.test d.yes' d.no') d.row in
    let is : is_state i.entry.row ≡ true = ap is_state i.body in
    let e : i.entry.number ≡ x = i.number in
    count_lt (λ r. is_state r.row && nat_lt x r.number) (λ r. is_state r.row) t.rows i.place i.entry i.is
    (and_right (is_state i.entry.row) (nat_lt x i.entry.number) (le-ltb x i.entry.number (omega arith)))
    is
    (above_all x)

-- ---- the way to the decision of a number
record Decision (t : Tables) (w n : ℕ) (o : Option Row) : Type 0 where
  pub short : to_decision t w o ≤ longest t
  pub some : (to_decision t w o ≡ 0) ⊎ ((x : ℕ) × Decided t n x)

decision : (t : Tables) → IsValid t → IsWellFormed t → t.version ≡ 1 → (w n : ℕ) → w < switch_count t → IsSome (row_at t w n) → Decision t w n (row_at t w n)
decision t valid form one w n low some = by (row_at t w n) refl some
  where
    here : (o : Option Row) → to_decision t w o ≡ 0 → Decision t w n o
    here o none = record { short = (let l = longest t in omega arith); some = inl none }

    by : (o : Option Row) → row_at t w n ≡ o → IsSome o → Decision t w n o
    by None e some = absurd (false≢true some)
    by (Some (Go x)) e some = record { short = far_short t valid form w x low (row_form t form w n (Go x) e).1; some = inr (x, (decided t valid one w n x e).1) }
    by (Some (Field test y z)) e some = here (Some (Field test y z)) refl
    by (Some (State test y z)) e some = here (Some (State test y z)) refl
    by (Some (Leaf ss os)) e some = here (Some (Leaf ss os)) refl
    by (Some Stop) e some = here (Some Stop) refl
    by (Some (Last us os)) e some = here (Some (Last us os)) refl

-- a number that is decided at x is no farther from its decision than from x
decided_near : (t : Tables) → IsValid t → t.version ≡ 1 → (w n x : ℕ) → Decided t n x → (o : Option Row) → row_at t w n ≡ o → to_decision t w o ≤ distance t w x
decided_near t valid one w n x there (Some (Go y)) e = let same : y ≡ x = one_decision t n y x (decided t valid one w n y e).1 there in subst (λ y. distance t w y ≤ distance t w x) (sym same) (omega arith)
decided_near t valid one w n x there None e = omega arith
decided_near t valid one w n x there (Some (Field test y z)) e = omega arith
decided_near t valid one w n x there (Some (State test y z)) e = omega arith
decided_near t valid one w n x there (Some (Leaf ss os)) e = omega arith
decided_near t valid one w n x there (Some Stop) e = omega arith
decided_near t valid one w n x there (Some (Last us os)) e = omega arith

-- ---- the stages of a leaf
stages_in : (rs : List RowAt) (i : ℕ) (r : RowAt) → slice_get rs i ≡ Some r → stages_of r.row ≤ most_stages_in rs
stages_in [] i r is = absurd (false≢true (ap (λ (o : Option RowAt). is_some o) is))
stages_in (x ∷ xs) zero r is = let e : stages_of x.row ≡ stages_of r.row = ap (λ (r : RowAt). stages_of r.row) (same_Some _ _ is) in omega arith
stages_in (x ∷ xs) (suc i) r is = let h : stages_of r.row ≤ most_stages_in xs = stages_in xs i r is in omega arith

few_stages : (t : Tables) (w n : ℕ) (ss : List LeafStage) (os : List Parts) → row_at t w n ≡ Some (Leaf ss os) → length ss ≤ most_stages t
few_stages t w n ss os row =
    let i = entry_of t.rows w n (Leaf ss os) row in
    subst (λ (b : Row). stages_of b ≤ most_stages t) i.body (stages_in t.rows i.place i.entry i.is)

-- ---- sums
walk_bound : (z l d d' s s' : ℕ) → d' ≤ l → s' ≤ s → (d' ≡ 0) ⊎ (s' + 1 ≤ s) → d' + (s' + z + 1) * l ≤ d + (s + z + 1) * l
walk_bound z l d d' s s' short less some = ⊎_elim
    (λ none. let p : (s' + z + 1) * l ≤ (s + z + 1) * l = mul-le-mul_right l (omega arith) in omega arith)
    (λ more.
    let p : suc (s' + z + 1) * l ≤ (s + z + 1) * l = mul-le-mul_right l (omega arith) in
    let q : suc (s' + z + 1) * l ≡ (s' + z + 1) * l + l = suc-mul (s' + z + 1) l in
    omega arith)
    some

leaf_bound : (z l d s : ℕ) → l ≤ d + (s + z + 1) * l
leaf_bound z l d s =
    let p : (s + z + 1) * l ≡ (s + z) * l + l = ap (λ n. n * l) (let q : s + z + 1 ≡ suc (s + z) = omega arith in q) ∙ suc-mul (s + z) l in
    omega arith

begin_bound : (z l d d' s c : ℕ) → d' ≤ l → c ≤ z → d' + (c - 0) * l ≤ d + (s + z + 1) * l
begin_bound z l d d' s c short few =
    let p : suc c * l ≤ (s + z + 1) * l = mul-le-mul_right l (omega arith) in
    let q : suc c * l ≡ c * l + l = suc-mul c l in
    let r : (c - 0) * l ≡ c * l = ap (λ n. n * l) (let r : c - 0 ≡ c = omega arith in r) in
    omega arith

-- ---- heads
walk_left : (t : Tables) → t.version ≡ 1 → (w n : ℕ) → left t w (Walk n) ≡ to_decision t w (row_at t w n) + (states_above t n + most_stages t + 1) * longest t
walk_left t one w n = ap (λ b. if b then to_decision t w (row_at t w n) + (states_above t n + most_stages t + 1) * longest t else (ranks t + 1) * longest t) (eq-eqb t.version 1 one)

stage_left : (t : Tables) (w n i : ℕ) (s : LeafStage) (ss : List LeafStage) (os : List Parts) → row_at t w n ≡ Some (Leaf ss os) → slice_get ss i ≡ Some s → left t w (AtStage n i) ≡ distance t w s.at + (length ss - i) * longest t
stage_left t w n i s ss os row is =
    ap (λ o. from_stage t w o i) row ∙ ap (λ (o : Option LeafStage). to_switch t w (option_map (λ (s : LeafStage). s.at) o) + (length ss - i) * longest t) is

-- ---- steps
falls : (t : Tables) → IsValid t → IsWellFormed t → t.version ≡ 1 → (w : ℕ) → w < switch_count t → (k : List ℕ) (m : Arrays) (h : Head) (m' : Arrays) (a : Action) → AtHome t w h → Handles t w k m h m' a → Falls t w (left t w h) a
falls t valid form one w low k m h m' a home (asks {n = n} {x = x} {b = body} one' row to f) =
    let side = subst (λ o. IfSome o (λ y. (n < y) × IsSome (row_at t w y))) to (side_goes t valid w n body row m k) in
    let d = decision t valid form one w x low side.1 in
    let z = most_stages t in
    let less : states_above t x ≤ states_above t n = count_le (λ r. is_state r.row && nat_lt x r.number) (λ r. is_state r.row && nat_lt n r.number) t.rows (above_more n x side.0) in
    let some = ⊎_elim {C = (to_decision t w (row_at t w x) ≡ 0) ⊎ (states_above t x + 1 ≤ states_above t n)} (λ none. inl none) (λ there. inr (above_less t n x there.0 side.0 there.1)) d.some in
    let le = walk_bound z (longest t) (to_decision t w (row_at t w n)) (to_decision t w (row_at t w x)) (states_above t n) (states_above t x) d.short less some in
    wider t w (left t w (Walk x)) (left t w (Walk n)) a (subst (λ b. b ≤ left t w (Walk n)) (sym (walk_left t one w x)) (subst (λ c. to_decision t w (row_at t w x) + (states_above t x + z + 1) * longest t ≤ c) (sym (walk_left t one w n)) le))
    (falls t valid form one w low k m (Walk x) m' a side.1 f)
falls t valid form one w low k m h m' a home (goes {n = n} {x = x} row) =
    let there = decided t valid one w n x row in
    let v = next t w x in
    let p = (states_above t n + most_stages t + 1) * longest t in
    let near = nearer t valid form w x low (row_form t form w n (Go x) row).1 there.0 in
    let d : to_decision t v (row_at t v n) ≤ distance t v x = decided_near t valid one v n x there.1 (row_at t v n) refl in
    let c : to_decision t w (row_at t w n) ≡ distance t w x = ap (to_decision t w) row in
    let e : left t w (Walk n) ≡ to_decision t w (row_at t w n) + p = walk_left t one w n in
    let f : left t v (Walk n) ≡ to_decision t v (row_at t v n) + p = walk_left t one v n in
    omega arith
falls t valid form one w low k m h m' a home (forks {n = n} {os = os} row) =
    subst (λ b. Falls t w b a) (sym (walk_left t one w n)) (fork_falls t valid form w _ os k low (leaf_bound (most_stages t) (longest t) (to_decision t w (row_at t w n)) (states_above t n)))
falls t valid form one w low k m h m' a home (begins {n = n} {s = s} {ss = ss} {os = os} row f) =
    let short = far_short t valid form w s.at low (turn_below t form w n 0 s (s ∷ ss) os row refl) in
    let le = begin_bound (most_stages t) (longest t) (to_decision t w (row_at t w n)) (distance t w s.at) (states_above t n) (length (s ∷ ss)) short (few_stages t w n (s ∷ ss) os row) in
    wider t w (left t w (AtStage n 0)) (left t w (Walk n)) a
    (subst (λ b. b ≤ left t w (Walk n)) (sym (stage_left t w n 0 s (s ∷ ss) os row refl)) (subst (λ c. distance t w s.at + (length (s ∷ ss) - 0) * longest t ≤ c) (sym (walk_left t one w n)) le))
    (falls t valid form one w low k m (AtStage n 0) m' a (one, stage_first t valid form one w n s ss os low row) f)
falls t valid form one w low k m h m' a home (passes_on {n = n} {i = i} {s = s} {ss = ss} {os = os} row is away) =
    let v = next t w s.at in
    let p = (length ss - i) * longest t in
    let near = nearer t valid form w s.at low (turn_below t form w n i s ss os row is) away in
    let there = arrives t valid form w low k m (AtStage n i) m a home (passes_on row is away) in
    let row' = same_leaf t (valid Kind) form one w v n ss os row (ap (λ (o : Option Row). is_some o) there.1.1.row) in
    let e : left t w (AtStage n i) ≡ distance t w s.at + p = stage_left t w n i s ss os row is in
    let f : left t v (AtStage n i) ≡ distance t v s.at + p = stage_left t v n i s ss os row' is in
    omega arith
falls t valid form one w low k m h m' a home (goes_on {n = n} {i = i} {s = s} {ss = ss} {os = os} row is stands more f) =
    let is' = slice_get-get_or ss (i + 1) s more in
    let s' = get_or ss (i + 1) s in
    let short = far_short t valid form w s'.at low (turn_below t form w n (i + 1) s' ss os row is') in
    let le = visit_bound (length ss) i (longest t) (distance t w s.at) (distance t w s'.at) more short in
    wider t w (left t w (AtStage n (i + 1))) (left t w (AtStage n i)) a
    (subst (λ b. b ≤ left t w (AtStage n i)) (sym (stage_left t w n (i + 1) s' ss os row is')) (subst (λ c. distance t w s'.at + (length ss - (i + 1)) * longest t ≤ c) (sym (stage_left t w n i s ss os row is)) le))
    (falls t valid form one w low k _ (AtStage n (i + 1)) m' a (one, stage_next t w n i s ss os row is stands more home.1) f)
falls t valid form one w low k m h m' a home (completes {n = n} {i = i} {s = s} {ss = ss} {os = os} row is stands last) =
    subst (λ b. Falls t w b a) (sym (stage_left t w n i s ss os row is)) (fork_falls t valid form w _ os k low (conclude_bound (length ss) i (longest t) (distance t w s.at) last))
falls t valid form one w low k m h m' a home (enters two some way f) = absurd (not_two t one two)
falls t valid form one w low k m h m' a home (enters_last two none way row) = absurd (not_two t one two)
falls t valid form one w low k m h m' a home (seeks rank away) = absurd (not_two t one home.0)
falls t valid form one w low k m h m' a home (visits rank visit more f) = absurd (not_two t one home.0)
falls t valid form one w low k m h m' a home (concludes rank visit last row) = absurd (not_two t one home.0)
falls t valid form one w low k m h m' a home (delivers at) = tt
falls t valid form one w low k m h m' a home (carries {p = p} {x = x} at away) = carry_falls t valid form w p x low at away

most_one : (t : Tables) → t.version ≡ 1 → most_hops t ≡ 0 + (states t + most_stages t + 1) * longest t
most_one t one =
    let e : most_hops t ≡ (states t + most_stages t + 1) * longest t = ap (λ b. (if b then states t + most_stages t + 1 else ranks t + 1) * longest t) (eq-eqb t.version 1 one) in
    omega arith

pub measures : (t : Tables) → IsValid t → IsWellFormed t → t.version ≡ 1 → Measures t
measures t valid form one = record { starts = starts; falls = falls t valid form one }
  where
    starts : (p w : ℕ) → port_at t p ≡ Some w → left t w (Walk 0) ≤ most_hops t
    starts p w at =
        let d = decision t valid form one w 0 (port_below t form p w at) (port_home t valid p w at) in
        let less : states_above t 0 ≤ states t = count_le (λ r. is_state r.row && nat_lt 0 r.number) (λ r. is_state r.row) t.rows (above_all 0) in
        let some = ⊎_elim {C = (to_decision t w (row_at t w 0) ≡ 0) ⊎ (states_above t 0 + 1 ≤ states t)} (λ none. inl none) (λ there. inr (above_some t 0 there.0 there.1)) d.some in
        subst (λ b. b ≤ most_hops t) (sym (walk_left t one w 0)) (subst (λ c. to_decision t w (row_at t w 0) + (states_above t 0 + most_stages t + 1) * longest t ≤ c) (sym (most_one t one))
        (walk_bound (most_stages t) (longest t) 0 (to_decision t w (row_at t w 0)) (states t) (states_above t 0) d.short less some))

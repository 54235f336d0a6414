-- A head at home can be handled.
use Rattle.std.proofs.Common.{◌≡◌, ℕ, zero, suc, ◌+◌, ◌<◌, ◌≤◌, Bool, true, false, List, [], ◌∷◌, Option, Some, None, length, refl, sym, ap, subst, ◌∙◌, arith, ⊎_elim, filter}
use Rattle.std.specs.Prelude.{slice_get, IsSome, IfSome, is_some, ◌==◌, max}
use Rattle.std.proofs.lemmas.Bool.{false≢true, cases_eq, cases_lt}
use Rattle.snap_core.specs.declared.policy.Update.{Update}
use Rattle.snap_core.specs.Arrays.{Arrays, updates}
use Rattle.snap_rows.specs.declared.tables.RowAt.{RowAt}
use Rattle.snap_rows.specs.declared.tables.Tables.{Tables}
use Rattle.snap_rows.specs.declared.tables.Row.{Row}
use Rattle.snap_rows.specs.declared.tables.Row.TheVariants.{Field, State, Go, Leaf, Stop, Last}
use Rattle.snap_rows.specs.declared.tables.Stage.{Stage as LeafStage}
use Rattle.snap_rows.specs.declared.head.Head.{Head}
use Rattle.snap_rows.specs.declared.head.Head.TheVariants.{Walk, Stage as AtStage, Out, Visit}
use Rattle.snap_rows.specs.Actions.{Action}
use Rattle.snap_rows.specs.Entries.{Parts, row_at, port_at, rank_at, ranks, rank_of}
use Rattle.snap_rows.specs.Form.{IsWellFormed}
use Rattle.snap_rows.specs.Rules.{IsValid}
use Rattle.snap_rows.specs.Home.{AtHome, IsVisited, IsVisitAtHome}
use Rattle.snap_rows.specs.Steps.{IsGoOrLeaf}
use Rattle.snap_rows.specs.Handles.{Handles, Follows, arrives, follows, Visits, is_field, is_test, is_ranked, side, cut, goes, forks, begins, passes_on, goes_on, completes, enters, enters_last, seeks, visits, concludes, delivers, carries}
use Rattle.std.proofs.lemmas.Option.{same_Some}
use Rattle.snap_rows.proofs.Rows.{row_form, entry_of, nodes}
use Rattle.snap_rows.proofs.Own.{past}
use Rattle.snap_rows.proofs.Ways.{side_goes, is_test-side}
use Rattle.snap_rows.proofs.Stages.{asked}
use Rattle.snap_rows.proofs.Visited.{visit_end}
use Rattle.snap_rows.proofs.Later.{next_home, enter_home, enter_last, only_last, rank_is_below}
use Rattle.snap_rows.proofs.Plans.{way_end, end_one, end_two}

-- this head can be handled at w, by the arrays m
abbrev pub IsAble : Tables → ℕ → List ℕ → Arrays → Head → Type 0
IsAble t w k m h = (m' : Arrays) × (a : Action) × Handles t w k m h m' a

-- ---- numbers of rows are below a number
above_rows : List RowAt → ℕ
above_rows [] = 0
above_rows (r ∷ rs) = max (r.number + 1) (above_rows rs)

number_below : (rs : List RowAt) (i : ℕ) (r : RowAt) → slice_get rs i ≡ Some r → r.number < above_rows rs
unfolding above_rows
number_below [] i r is = absurd (false≢true (ap (λ (o : Option RowAt). is_some o) is))
number_below (x ∷ xs) zero r is = let e : x.number ≡ r.number = ap (λ (r : RowAt). r.number) (same_Some _ _ is) in omega arith
number_below (x ∷ xs) (suc i) r is = let h : r.number < above_rows xs = number_below xs i r is in omega arith

row_below : (t : Tables) (w n : ℕ) (b : Row) → row_at t w n ≡ Some b → n < above_rows t.rows
row_below t w n b e = let i = entry_of t.rows w n b e in subst (λ n. n < above_rows t.rows) i.number (number_below t.rows i.place i.entry i.is)

-- ---- rows can be followed to one that the test doesn't pass
follows_on : (t : Tables) → IsValid t → (w : ℕ) (k : List ℕ) (p : Row → Bool) (m : Arrays) → ((b : Row) → p b ≡ true → is_test b ≡ true) → (fuel n : ℕ) → above_rows t.rows ≤ n + fuel → IsSome (row_at t w n) → (v : ℕ) × Follows t w k p m n v
follows_on t valid w k p m tests zero n enough some = by (row_at t w n) refl some
  where
    by : (o : Option Row) → row_at t w n ≡ o → IsSome o → (v : ℕ) × Follows t w k p m n v
    by None e some = absurd (false≢true some)
    by (Some b) e some = absurd (let h : n < above_rows t.rows = row_below t w n b e in let g : above_rows t.rows ≤ n + 0 = enough in omega arith)
follows_on t valid w k p m tests (suc fuel) n enough some = by (row_at t w n) refl some (follows_on t valid w k p m tests fuel)
  where
    Rest : Type 0
    Rest = (x : ℕ) → above_rows t.rows ≤ x + fuel → IsSome (row_at t w x) → (v : ℕ) × Follows t w k p m x v

    side_of : (b : Row) → row_at t w n ≡ Some b → p b ≡ true → (o : Option ℕ) → side b m k ≡ o → Rest → (v : ℕ) × Follows t w k p m n v
    side_of b e test None none rest = absurd (false≢true (sym (ap (λ (o : Option ℕ). is_some o) none) ∙ sym (is_test-side b m k) ∙ tests b test))
    side_of b e test (Some x) to rest =
        let there = subst (λ o. IfSome o (λ y. (n < y) × IsSome (row_at t w y))) to (side_goes t valid w n b e m k) in
        let f = rest x (let g : n < x = there.0 in let h : above_rows t.rows ≤ n + suc fuel = enough in omega arith) there.1 in
        (f.0, follows e test to f.1)

    test_of : (b : Row) → row_at t w n ≡ Some b → (c : Bool) → p b ≡ c → Rest → (v : ℕ) × Follows t w k p m n v
    test_of b e true test rest = side_of b e test (side b m k) refl rest
    test_of b e false test rest = (n, arrives e test)

    by : (o : Option Row) → row_at t w n ≡ o → IsSome o → Rest → (v : ℕ) × Follows t w k p m n v
    by None e some rest = absurd (false≢true some)
    by (Some b) e some rest = test_of b e (p b) refl rest

pub follows_some : (t : Tables) → IsValid t → (w : ℕ) (k : List ℕ) (p : Row → Bool) (m : Arrays) → ((b : Row) → p b ≡ true → is_test b ≡ true) → (n : ℕ) → IsSome (row_at t w n) → (v : ℕ) × Follows t w k p m n v
follows_some t valid w k p m tests n some = follows_on t valid w k p m tests (above_rows t.rows) n (omega arith) some

pub field_tests : (b : Row) → is_field b ≡ true → is_test b ≡ true
field_tests (Field test y z) e = refl
field_tests (State test y z) e = refl
field_tests (Go x) e = e
field_tests (Leaf ss os) e = e
field_tests Stop e = e
field_tests (Last us os) e = e

pub ranked_tests : (t : Tables) (r : ℕ) (b : Row) → is_ranked t r b ≡ true → is_test b ≡ true
ranked_tests t r (Field test y z) e = refl
ranked_tests t r (State test y z) e = refl
ranked_tests t r (Go x) e = e
ranked_tests t r (Leaf ss os) e = e
ranked_tests t r Stop e = e
ranked_tests t r (Last us os) e = e

-- ---- version 1
stage_able : (t : Tables) (w : ℕ) (k : List ℕ) (n : ℕ) (ss : List LeafStage) (os : List Parts) → row_at t w n ≡ Some (Leaf ss os) → (fuel i : ℕ) → i < length ss → length ss ≤ i + fuel → (m : Arrays) → IsAble t w k m (AtStage n i)
stage_able t w k n ss os row zero i within enough m = absurd (let h : length ss ≤ i + 0 = enough in omega arith)
stage_able t w k n ss os row (suc fuel) i within enough m = by (slice_get ss i) refl (stage_able t w k n ss os row fuel)
  where
    Rest : Type 0
    Rest = (j : ℕ) → j < length ss → length ss ≤ j + fuel → (m : Arrays) → IsAble t w k m (AtStage n j)

    done_here : (s : LeafStage) → slice_get ss i ≡ Some s → s.at ≡ w → Rest → IsAble t w k m (AtStage n i)
    done_here s is here rest = ⊎_elim
        (λ more. let f = rest (i + 1) more (let h : length ss ≤ i + suc fuel = enough in omega arith) (updates m s.ups k) in (f.0, f.1, goes_on row is here more f.2))
        (λ last. (_, _, completes row is here (omega arith)))
        (cases_lt (i + 1) (length ss))

    by : (o : Option LeafStage) → slice_get ss i ≡ o → Rest → IsAble t w k m (AtStage n i)
    by None e rest = absurd (past ss i within e)
    by (Some s) e rest = ⊎_elim (λ here. done_here s e here rest) (λ away. (_, _, passes_on row e away)) (cases_eq s.at w)

leaf_able : (t : Tables) (w : ℕ) (k : List ℕ) (m : Arrays) (n : ℕ) (ss : List LeafStage) (os : List Parts) → row_at t w n ≡ Some (Leaf ss os) → IsAble t w k m (Walk n)
leaf_able t w k m n [] os row = (_, _, forks row)
leaf_able t w k m n (s ∷ ss) os row =
    let f = stage_able t w k n (s ∷ ss) os row (length (s ∷ ss)) 0 (let l = length ss in omega arith) (omega arith) m in
    (f.0, f.1, begins row f.2)

walk_able_one : (t : Tables) → IsValid t → IsWellFormed t → t.version ≡ 1 → (w : ℕ) (k : List ℕ) (m : Arrays) (n : ℕ) → IsSome (row_at t w n) → IsAble t w k m (Walk n)
walk_able_one t valid form one w k m n some =
    let f = follows_some t valid w k is_test m (λ b e. e) n some in
    let end = by f.0 (row_at t w f.0) refl (end_one t form one w k m n f.0 f.1) in
    (end.0, end.1, asked t w k m end.0 n f.0 end.1 one f.1 end.2)
  where
    by : (v : ℕ) (o : Option Row) → row_at t w v ≡ o → IsGoOrLeaf o → IsAble t w k m (Walk v)
    by v (Some (Go x)) e h = (_, _, goes e)
    by v (Some (Leaf ss os)) e h = leaf_able t w k m v ss os e
    by v None e h = absurd h
    by v (Some (Field test y z)) e h = absurd h
    by v (Some (State test y z)) e h = absurd h
    by v (Some Stop) e h = absurd h
    by v (Some (Last us os)) e h = absurd h

-- ---- version 2
record Visited (t : Tables) (w : ℕ) (k : List ℕ) (m : Arrays) (r n : ℕ) : Type 0 where
  pub number : ℕ
  pub ups : List Update
  pub visit : Visits t w k m r n number ups
  pub body : Row
  pub row : row_at t w number ≡ Some body
  pub at : IsVisited t (r + 1) body

visited : (t : Tables) → IsValid t → IsWellFormed t → t.version ≡ 2 → (w : ℕ) (k : List ℕ) (m : Arrays) (r n : ℕ) (b : Row) → row_at t w n ≡ Some b → IsVisited t r b → Visited t w k m r n
visited t valid form two w k m r n b row at =
    let f = follows_some t valid w k (is_ranked t r) m (ranked_tests t r) n (ap (λ (o : Option Row). is_some o) row) in
    let end = visit_end t valid form two (nodes t form) w k r m n f.0 b row at f.1 in
    let g = follows_some t valid w k is_test (cut t r m) (λ b e. e) f.0 (ap (λ (o : Option Row). is_some o) end.1) in
    let last = end_two t valid form two w k (r + 1) (cut t r m) f.0 g.0 end.0 end.1 end.2 g.1 in
    record {
      number = f.0;
      ups = filter (λ (u : Update). rank_of t u.var == r) last.0;
      visit = record { leaf = g.0; ups = last.0; outs = last.1; number = f.1; walk = g.1; row = last.2; updates = refl {a = filter (λ (u : Update). rank_of t u.var == r) last.0} };
      body = end.0;
      row = end.1;
      at = end.2;
    }

visit_able : (t : Tables) → IsValid t → IsWellFormed t → t.version ≡ 2 → (w : ℕ) (k : List ℕ) (fuel r n : ℕ) → ranks t ≤ r + fuel → IsVisitAtHome t r n → (m : Arrays) → IsAble t w k m (Visit r n)
visit_able t valid form two w k zero r n enough home m = absurd (let h : r < ranks t = rank_is_below t r home.owner home.rank in let g : ranks t ≤ r + 0 = enough in omega arith)
visit_able t valid form two w k (suc fuel) r n enough home m = ⊎_elim (λ here. by here (visit_able t valid form two w k fuel)) (λ away. (_, _, seeks home.rank away)) (cases_eq home.owner w)
  where
    by : home.owner ≡ w → ((q v : ℕ) → ranks t ≤ q + fuel → IsVisitAtHome t q v → (m : Arrays) → IsAble t w k m (Visit q v)) → IsAble t w k m (Visit r n)
    by here rest =
        let rank : rank_at t r ≡ Some w = home.rank ∙ ap Some here in
        let low : r < ranks t = rank_is_below t r w rank in
        let v = visited t valid form two w k m r n home.body (subst (λ x. row_at t x n ≡ Some home.body) here home.row) home.visited in
        ⊎_elim
        (λ more.
        let f = rest (r + 1) v.number (let h : ranks t ≤ r + suc fuel = enough in omega arith) (next_home t valid two w v.number (r + 1) v.body v.row v.at more) (updates m v.ups k) in
        (f.0, f.1, visits rank v.visit more f.2))
        (λ top.
        let last : r + 1 ≡ ranks t = omega arith in
        let l = only_last t v.body (row_form t form w v.number v.body v.row) (subst (λ q. IsVisited t q v.body) last v.at) in
        (_, _, concludes rank v.visit last (v.row ∙ ap Some l.2)))
        (cases_lt (r + 1) (ranks t))

walk_able_two : (t : Tables) → IsValid t → IsWellFormed t → t.version ≡ 2 → (w : ℕ) (k : List ℕ) (m : Arrays) (n : ℕ) → IsSome (row_at t w n) → IsAble t w k m (Walk n)
walk_able_two t valid form two w k m n some =
    let f = follows_some t valid w k is_field m field_tests n some in
    let e = way_end t w k is_field m n f.0 f.1 in
    ⊎_elim
    (λ none. let l = enter_last t valid form two w f.0 e.0 e.1 e.2 none in (_, _, enters_last two none f.1 l.2))
    (λ some'.
    let g = visit_able t valid form two w k (ranks t) 0 f.0 (omega arith) (enter_home t valid form two w f.0 e.0 e.1 e.2 some') m in
    (g.0, g.1, enters two some' f.1 g.2))
    (cases_eq (ranks t) 0)

-- ---- both
out_able : (t : Tables) (w : ℕ) (k : List ℕ) (m : Arrays) (p : ℕ) → IsSome (port_at t p) → IsAble t w k m (Out p)
out_able t w k m p some = by (port_at t p) refl some
  where
    by : (o : Option ℕ) → port_at t p ≡ o → IsSome o → IsAble t w k m (Out p)
    by None e some = absurd (false≢true some)
    by (Some x) e some = ⊎_elim (λ here. (_, _, delivers (e ∙ ap Some here))) (λ away. (_, _, carries e away)) (cases_eq x w)

pub able : (t : Tables) → IsValid t → IsWellFormed t → (w : ℕ) (k : List ℕ) (m : Arrays) (h : Head) → AtHome t w h → IsAble t w k m h
able t valid form w k m (Walk n) home = ⊎_elim (λ one. walk_able_one t valid form one w k m n home) (λ two. walk_able_two t valid form two w k m n home) form.version
able t valid form w k m (AtStage n i) home = let h = home.1 in stage_able t w k n h.stages h.outs h.row (length h.stages) i h.more (omega arith) m
able t valid form w k m (Out p) home = out_able t w k m p home
able t valid form w k m (Visit r n) home = visit_able t valid form home.0 w k (ranks t) r n (omega arith) home.1 m

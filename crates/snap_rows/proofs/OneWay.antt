-- A head is handled in one way alone.
use Rattle.std.proofs.Common.{◌≡◌, ℕ, ◌+◌, Bool, List, [], ◌∷◌, Option, Some, None, length, refl, sym, ap, subst, ◌∙◌, arith, filter}
use Rattle.std.specs.Prelude.{slice_get, is_some, ◌==◌}
use Rattle.std.proofs.lemmas.Bool.{false≢true}
use Rattle.snap_core.specs.declared.policy.Update.{Update}
use Rattle.snap_core.specs.Arrays.{Arrays, updates}
use Rattle.snap_rows.specs.declared.tables.Tables.{Tables}
use Rattle.snap_rows.specs.declared.tables.Row.{Row}
use Rattle.snap_rows.specs.declared.tables.Row.TheVariants.{Go, Leaf, Last}
use Rattle.snap_rows.specs.declared.tables.Stage.{Stage as LeafStage}
use Rattle.snap_rows.specs.declared.head.Head.{Head}
use Rattle.snap_rows.specs.declared.head.Head.TheVariants.{Walk, Stage as AtStage, Out, Visit}
use Rattle.snap_rows.specs.Actions.{Action, Forward}
use Rattle.snap_rows.specs.Entries.{Parts, row_at, next, rank_of}
use Rattle.snap_rows.specs.Form.{IsWellFormed}
use Rattle.snap_rows.specs.Handles.{Handles, Follows, arrives, follows, Visits, side, forked, asks, goes, forks, begins, passes_on, goes_on, completes, enters, enters_last, seeks, visits, concludes, delivers, carries}
use Rattle.std.proofs.lemmas.Option.{same_Some}
use Rattle.snap_rows.proofs.Rows.{row_form}
use Rattle.snap_rows.proofs.Growing.{not_two}

-- ---- ways along rows
pub follows_one : (t : Tables) (w : ℕ) (k : List ℕ) (p : Row → Bool) (m : Arrays) (n n' v v' : ℕ) → n ≡ n' → Follows t w k p m n v → Follows t w k p m n' v' → v ≡ v'
follows_one t w k p m n n' v v' e (arrives row test) (arrives row' test') = e
follows_one t w k p m n n' v v' e (arrives {b = b} row test) (follows {b = b'} row' test' to f) =
    let same : b ≡ b' = same_Some _ _ (sym row ∙ ap (row_at t w) e ∙ row') in absurd (false≢true (sym test ∙ ap p same ∙ test'))
follows_one t w k p m n n' v v' e (follows {b = b} row test to f) (arrives {b = b'} row' test') =
    let same : b' ≡ b = same_Some _ _ (sym row' ∙ ap (row_at t w) (sym e) ∙ row) in absurd (false≢true (sym test' ∙ ap p same ∙ test))
follows_one t w k p m n n' v v' e (follows {x = x} {b = b} row test to f) (follows {x = x'} {b = b'} row' test' to' f') =
    let same : b ≡ b' = same_Some _ _ (sym row ∙ ap (row_at t w) e ∙ row') in
    follows_one t w k p m x x' v v' (same_Some _ _ (sym to ∙ ap (λ b. side b m k) same ∙ to')) f f'

pub visits_one : (t : Tables) (w : ℕ) (k : List ℕ) (m : Arrays) (r n v v' : ℕ) (us us' : List Update) → Visits t w k m r n v us → Visits t w k m r n v' us' → (v ≡ v') × (us ≡ us')
visits_one t w k m r n v v' us us' x y =
    let number : v ≡ v' = follows_one t w k _ m n n v v' refl x.number y.number in
    let leaf : x.leaf ≡ y.leaf = follows_one t w k _ _ v v' x.leaf y.leaf number x.walk y.walk in
    let same : Last x.ups x.outs ≡ Last y.ups y.outs = same_Some _ _ (sym x.row ∙ ap (row_at t w) leaf ∙ y.row) in
    let ups : x.ups ≡ y.ups = cc in
    (number, x.updates ∙ ap (filter (λ (u : Update). rank_of t u.var == r)) ups ∙ sym y.updates)

-- ---- steps
abbrev Same : Arrays → Arrays → Action → Action → Type 0
Same m m' a b = (m ≡ m') × (a ≡ b)

-- a row that isn't a test has no side
no_side : (o : Option Row) (b b' : Row) (m : Arrays) (k : List ℕ) (x : ℕ) → o ≡ Some b → o ≡ Some b' → side b m k ≡ Some x → side b' m k ≡ None → ⊥
no_side o b b' m k x e e' to none = false≢true (ap (λ (o : Option ℕ). is_some o) (sym none ∙ ap (λ b. side b m k) (same_Some _ _ (sym e' ∙ e)) ∙ to))

-- the row of a number is of version 1 alone
go_one : (t : Tables) → IsWellFormed t → (w n x : ℕ) → row_at t w n ≡ Some (Go x) → t.version ≡ 2 → ⊥
go_one t form w n x row = not_two t (row_form t form w n (Go x) row).0

leaf_one : (t : Tables) → IsWellFormed t → (w n : ℕ) (ss : List LeafStage) (os : List Parts) → row_at t w n ≡ Some (Leaf ss os) → t.version ≡ 2 → ⊥
leaf_one t form w n ss os row = not_two t (row_form t form w n (Leaf ss os) row).0

forked_same : (t : Tables) (k : List ℕ) (m : Arrays) (os os' : List Parts) → os ≡ os' → Same m m (forked t os k) (forked t os' k)
forked_same t k m os os' e = (refl, ap (λ os. forked t os k) e)

record SameStage (ss ss' : List LeafStage) (os os' : List Parts) (s s' : LeafStage) : Type 0 where
  pub stages : ss ≡ ss'
  pub outs : os ≡ os'
  pub turn : s ≡ s'

same_stage : (o : Option Row) (i : ℕ) (ss ss' : List LeafStage) (os os' : List Parts) (s s' : LeafStage) → o ≡ Some (Leaf ss os) → o ≡ Some (Leaf ss' os') → slice_get ss i ≡ Some s → slice_get ss' i ≡ Some s' → SameStage ss ss' os os' s s'
same_stage o i ss ss' os os' s s' e e' is is' =
    let same : Leaf ss os ≡ Leaf ss' os' = same_Some _ _ (sym e ∙ e') in
    let stages : ss ≡ ss' = cc in
    record { stages = stages; outs = cc; turn = same_Some _ _ (sym is ∙ ap (λ ss. slice_get ss i) stages ∙ is') }

pub one_way : (t : Tables) → IsWellFormed t → (w : ℕ) (k : List ℕ) (m : Arrays) (h : Head) (m' m'' : Arrays) (a b : Action) → Handles t w k m h m' a → Handles t w k m h m'' b → (m' ≡ m'') × (a ≡ b)
-- walks
one_way t form w k m h m' m'' a b (asks {n = n} {x = x} {b = c} one row to f) (asks {x = x'} {b = c'} one' row' to' g) =
    let same : x ≡ x' = same_Some _ _ (sym to ∙ ap (λ c. side c m k) (same_Some _ _ (sym row ∙ row')) ∙ to') in
    one_way t form w k m (Walk x) m' m'' a b f (subst (λ x. Handles t w k m (Walk x) m'' b) (sym same) g)
one_way t form w k m h m' m'' a b (asks {x = x} {b = c} one row to f) (goes {x = y} row') = absurd (no_side _ c (Go y) m k x row row' to refl)
one_way t form w k m h m' m'' a b (asks {x = x} {b = c} one row to f) (forks {os = os} row') = absurd (no_side _ c (Leaf [] os) m k x row row' to refl)
one_way t form w k m h m' m'' a b (asks {x = x} {b = c} one row to f) (begins {s = s} {ss = ss} {os = os} row' g) = absurd (no_side _ c (Leaf (s ∷ ss) os) m k x row row' to refl)
one_way t form w k m h m' m'' a b (asks one row to f) (enters two some way g) = absurd (not_two t one two)
one_way t form w k m h m' m'' a b (asks one row to f) (enters_last two none way row') = absurd (not_two t one two)
one_way t form w k m h m' m'' a b (goes {x = y} row) (asks {x = x} {b = c} one row' to g) = absurd (no_side _ c (Go y) m k x row' row to refl)
one_way t form w k m h m' m'' a b (goes {n = n} {x = x} row) (goes {x = y} row') =
    let same : Go x ≡ Go y = same_Some _ _ (sym row ∙ row') in
    let to : x ≡ y = cc in
    (refl, ap (λ x. Forward (next t w x) (Walk n)) to)
one_way t form w k m h m' m'' a b (goes {x = x} row) (forks {os = os} row') = let e : Some (Go x) ≡ Some (Leaf [] os) = sym row ∙ row' in absurd (cc)
one_way t form w k m h m' m'' a b (goes {x = x} row) (begins {s = s} {ss = ss} {os = os} row' g) = let e : Some (Go x) ≡ Some (Leaf (s ∷ ss) os) = sym row ∙ row' in absurd (cc)
one_way t form w k m h m' m'' a b (goes {n = n} {x = x} row) (enters two some way g) = absurd (go_one t form w n x row two)
one_way t form w k m h m' m'' a b (goes {n = n} {x = x} row) (enters_last two none way row') = absurd (go_one t form w n x row two)
one_way t form w k m h m' m'' a b (forks {os = os} row) (asks {x = x} {b = c} one row' to g) = absurd (no_side _ c (Leaf [] os) m k x row' row to refl)
one_way t form w k m h m' m'' a b (forks {os = os} row) (goes {x = x} row') = let e : Some (Leaf [] os) ≡ Some (Go x) = sym row ∙ row' in absurd (cc)
one_way t form w k m h m' m'' a b (forks {os = os} row) (forks {os = os'} row') =
    let same : Leaf [] os ≡ Leaf [] os' = same_Some _ _ (sym row ∙ row') in
    forked_same t k m os os' (cc)
one_way t form w k m h m' m'' a b (forks {os = os} row) (begins {s = s} {ss = ss} {os = os'} row' g) = let e : Some (Leaf [] os) ≡ Some (Leaf (s ∷ ss) os') = sym row ∙ row' in absurd (cc)
one_way t form w k m h m' m'' a b (forks {n = n} {os = os} row) (enters two some way g) = absurd (leaf_one t form w n [] os row two)
one_way t form w k m h m' m'' a b (forks {n = n} {os = os} row) (enters_last two none way row') = absurd (leaf_one t form w n [] os row two)
one_way t form w k m h m' m'' a b (begins {s = s} {ss = ss} {os = os} row f) (asks {x = x} {b = c} one row' to g) = absurd (no_side _ c (Leaf (s ∷ ss) os) m k x row' row to refl)
one_way t form w k m h m' m'' a b (begins {s = s} {ss = ss} {os = os} row f) (goes {x = x} row') = let e : Some (Leaf (s ∷ ss) os) ≡ Some (Go x) = sym row ∙ row' in absurd (cc)
one_way t form w k m h m' m'' a b (begins {s = s} {ss = ss} {os = os} row f) (forks {os = os'} row') = let e : Some (Leaf (s ∷ ss) os) ≡ Some (Leaf [] os') = sym row ∙ row' in absurd (cc)
one_way t form w k m h m' m'' a b (begins {n = n} row f) (begins row' g) = one_way t form w k m (AtStage n 0) m' m'' a b f g
one_way t form w k m h m' m'' a b (begins {n = n} {s = s} {ss = ss} {os = os} row f) (enters two some way g) = absurd (leaf_one t form w n (s ∷ ss) os row two)
one_way t form w k m h m' m'' a b (begins {n = n} {s = s} {ss = ss} {os = os} row f) (enters_last two none way row') = absurd (leaf_one t form w n (s ∷ ss) os row two)
one_way t form w k m h m' m'' a b (enters two some way f) (asks one row' to g) = absurd (not_two t one two)
one_way t form w k m h m' m'' a b (enters two some way f) (goes {n = n} {x = x} row') = absurd (go_one t form w n x row' two)
one_way t form w k m h m' m'' a b (enters two some way f) (forks {n = n} {os = os} row') = absurd (leaf_one t form w n [] os row' two)
one_way t form w k m h m' m'' a b (enters two some way f) (begins {n = n} {s = s} {ss = ss} {os = os} row' g) = absurd (leaf_one t form w n (s ∷ ss) os row' two)
one_way t form w k m h m' m'' a b (enters {n = n} {v = v} two some way f) (enters {v = v'} two' some' way' g) =
    let same : v ≡ v' = follows_one t w k _ m n n v v' refl way way' in
    one_way t form w k m (Visit 0 v) m' m'' a b f (subst (λ v. Handles t w k m (Visit 0 v) m'' b) (sym same) g)
one_way t form w k m h m' m'' a b (enters two some way f) (enters_last two' none way' row') = absurd (some none)
one_way t form w k m h m' m'' a b (enters_last two none way row) (asks one row' to g) = absurd (not_two t one two)
one_way t form w k m h m' m'' a b (enters_last two none way row) (goes {n = n} {x = x} row') = absurd (go_one t form w n x row' two)
one_way t form w k m h m' m'' a b (enters_last two none way row) (forks {n = n} {os = os} row') = absurd (leaf_one t form w n [] os row' two)
one_way t form w k m h m' m'' a b (enters_last two none way row) (begins {n = n} {s = s} {ss = ss} {os = os} row' g) = absurd (leaf_one t form w n (s ∷ ss) os row' two)
one_way t form w k m h m' m'' a b (enters_last two none way row) (enters two' some way' g) = absurd (some none)
one_way t form w k m h m' m'' a b (enters_last {n = n} {v = v} {us = us} {os = os} two none way row) (enters_last {v = v'} {us = us'} {os = os'} two' none' way' row') =
    let number : v ≡ v' = follows_one t w k _ m n n v v' refl way way' in
    let same : Last us os ≡ Last us' os' = same_Some _ _ (sym row ∙ ap (row_at t w) number ∙ row') in
    forked_same t k m os os' (cc)
-- stages
one_way t form w k m h m' m'' a b (passes_on {n = n} {i = i} {s = s} {ss = ss} {os = os} row is away) (passes_on {s = s'} {ss = ss'} {os = os'} row' is' away') =
    let e = same_stage _ i ss ss' os os' s s' row row' is is' in
    (refl, ap (λ (s : LeafStage). Forward (next t w s.at) (AtStage n i)) e.turn)
one_way t form w k m h m' m'' a b (passes_on {i = i} {s = s} {ss = ss} {os = os} row is away) (goes_on {s = s'} {ss = ss'} {os = os'} row' is' here more g) =
    let e = same_stage _ i ss ss' os os' s s' row row' is is' in absurd (away (ap (λ (s : LeafStage). s.at) e.turn ∙ here))
one_way t form w k m h m' m'' a b (passes_on {i = i} {s = s} {ss = ss} {os = os} row is away) (completes {s = s'} {ss = ss'} {os = os'} row' is' here last) =
    let e = same_stage _ i ss ss' os os' s s' row row' is is' in absurd (away (ap (λ (s : LeafStage). s.at) e.turn ∙ here))
one_way t form w k m h m' m'' a b (goes_on {i = i} {s = s} {ss = ss} {os = os} row is here more f) (passes_on {s = s'} {ss = ss'} {os = os'} row' is' away) =
    let e = same_stage _ i ss ss' os os' s s' row row' is is' in absurd (away (ap (λ (s : LeafStage). s.at) (sym e.turn) ∙ here))
one_way t form w k m h m' m'' a b (goes_on {n = n} {i = i} {s = s} {ss = ss} {os = os} row is here more f) (goes_on {s = s'} {ss = ss'} {os = os'} row' is' here' more' g) =
    let e = same_stage _ i ss ss' os os' s s' row row' is is' in
    one_way t form w k (updates m s.ups k) (AtStage n (i + 1)) m' m'' a b f (subst (λ (s : LeafStage). Handles t w k (updates m s.ups k) (AtStage n (i + 1)) m'' b) (sym e.turn) g)
one_way t form w k m h m' m'' a b (goes_on {i = i} {s = s} {ss = ss} {os = os} row is here more f) (completes {s = s'} {ss = ss'} {os = os'} row' is' here' last) =
    let e = same_stage _ i ss ss' os os' s s' row row' is is' in let l : length ss ≡ length ss' = ap length e.stages in absurd (omega arith)
one_way t form w k m h m' m'' a b (completes {i = i} {s = s} {ss = ss} {os = os} row is here last) (passes_on {s = s'} {ss = ss'} {os = os'} row' is' away) =
    let e = same_stage _ i ss ss' os os' s s' row row' is is' in absurd (away (ap (λ (s : LeafStage). s.at) (sym e.turn) ∙ here))
one_way t form w k m h m' m'' a b (completes {i = i} {s = s} {ss = ss} {os = os} row is here last) (goes_on {s = s'} {ss = ss'} {os = os'} row' is' here' more g) =
    let e = same_stage _ i ss ss' os os' s s' row row' is is' in let l : length ss ≡ length ss' = ap length e.stages in absurd (omega arith)
one_way t form w k m h m' m'' a b (completes {i = i} {s = s} {ss = ss} {os = os} row is here last) (completes {s = s'} {ss = ss'} {os = os'} row' is' here' last') =
    let e = same_stage _ i ss ss' os os' s s' row row' is is' in
    (ap (λ (s : LeafStage). updates m s.ups k) e.turn, ap (λ os. forked t os k) e.outs)
-- visits
one_way t form w k m h m' m'' a b (seeks {r = r} {n = n} rank away) (seeks rank' away') = (refl, ap (λ x. Forward (next t w x) (Visit r n)) (same_Some _ _ (sym rank ∙ rank')))
one_way t form w k m h m' m'' a b (seeks rank away) (visits rank' visit more g) = absurd (away (same_Some _ _ (sym rank ∙ rank')))
one_way t form w k m h m' m'' a b (seeks rank away) (concludes rank' visit last row') = absurd (away (same_Some _ _ (sym rank ∙ rank')))
one_way t form w k m h m' m'' a b (visits rank visit more f) (seeks rank' away) = absurd (away (same_Some _ _ (sym rank' ∙ rank)))
one_way t form w k m h m' m'' a b (visits {r = r} {n = n} {v = v} {us = us} rank visit more f) (visits {v = v'} {us = us'} rank' visit' more' g) =
    let e = visits_one t w k m r n v v' us us' visit visit' in
    one_way t form w k (updates m us k) (Visit (r + 1) v) m' m'' a b f
    (subst (λ us. Handles t w k (updates m us k) (Visit (r + 1) v) m'' b) (sym e.1) (subst (λ v. Handles t w k (updates m us' k) (Visit (r + 1) v) m'' b) (sym e.0) g))
one_way t form w k m h m' m'' a b (visits rank visit more f) (concludes rank' visit' last row') = absurd (omega arith)
one_way t form w k m h m' m'' a b (concludes rank visit last row) (seeks rank' away) = absurd (away (same_Some _ _ (sym rank' ∙ rank)))
one_way t form w k m h m' m'' a b (concludes rank visit last row) (visits rank' visit' more g) = absurd (omega arith)
one_way t form w k m h m' m'' a b (concludes {r = r} {n = n} {v = v} {us = us} {ups = ups} {os = os} rank visit last row) (concludes {v = v'} {us = us'} {ups = ups'} {os = os'} rank' visit' last' row') =
    let e = visits_one t w k m r n v v' us us' visit visit' in
    let same : Last ups os ≡ Last ups' os' = same_Some _ _ (sym row ∙ ap (row_at t w) e.0 ∙ row') in
    let outs : os ≡ os' = cc in
    (ap (λ us. updates m us k) e.1, ap (λ os. forked t os k) outs)
-- ways to ports
one_way t form w k m h m' m'' a b (delivers at) (delivers at') = (refl, refl)
one_way t form w k m h m' m'' a b (delivers at) (carries at' away) = absurd (away (same_Some _ _ (sym at' ∙ at)))
one_way t form w k m h m' m'' a b (carries at away) (delivers at') = absurd (away (same_Some _ _ (sym at ∙ at')))
one_way t form w k m h m' m'' a b (carries {p = p} at away) (carries at' away') = (refl, ap (λ x. Forward (next t w x) (Out p)) (same_Some _ _ (sym at ∙ at')))

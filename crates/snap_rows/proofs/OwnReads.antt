-- A step reads arrays of its switch alone.
use Rattle.std.proofs.Common.{◌≡◌, ℕ, ◌+◌, ◌<◌, Bool, true, List, [], ◌∷◌, Option, Some, length, refl, sym, ap, subst, ◌∙◌, arith}
use Rattle.std.specs.Prelude.{nat_eq, IfSome, IsSome, if◌then◌else◌}
use Rattle.std.specs.List.{All}
use Rattle.std.proofs.lemmas.List.Elements.{All-tail}
use Rattle.std.proofs.lemmas.Bool.{eqb-true, false≢true}
use Rattle.snap_core.specs.declared.policy.Test.{Test}
use Rattle.snap_core.specs.declared.policy.Test.TheVariants.{Value, Equal, State as StateTest}
use Rattle.snap_core.specs.declared.policy.Update.{Update}
use Rattle.snap_core.specs.Arrays.{Arrays, place_at, same_place, number_after, update, updates}
use Rattle.snap_core.specs.Tests.{passes, term_value}
use Rattle.snap_rows.specs.Actions.{Action}
use Rattle.snap_rows.specs.declared.head.Head.{Head}
use Rattle.snap_rows.specs.declared.head.Head.TheVariants.{Walk, Stage as AtStage, Visit}
use Rattle.snap_rows.specs.declared.tables.Row.{Row}
use Rattle.snap_rows.specs.declared.tables.Row.TheVariants.{Field, State, Go, Leaf, Stop, Last}
use Rattle.snap_rows.specs.declared.tables.Rule.TheVariants.{Owner}
use Rattle.snap_rows.specs.declared.tables.Tables.{Tables}
use Rattle.snap_rows.specs.Entries.{row_at, owner_of, rank_of, rank_at, var_of}
use Rattle.snap_rows.specs.Form.{IsWellFormed, IsFieldTest, switch_count}
use Rattle.snap_rows.specs.Handles.{Handles, Follows, arrives, follows, Visits, side, is_field, is_ranked, asks, goes, forks, begins, passes_on, goes_on, completes, enters, enters_last, seeks, visits, concludes, delivers, carries}
use Rattle.snap_rows.specs.Home.{AtHome, IsVisitAtHome}
use Rattle.snap_rows.specs.Laws.{AgreeAt}
use Rattle.snap_rows.specs.Rules.{IsValid}
use Rattle.snap_rows.proofs.Arrives.{stage_first, stage_next}
use Rattle.snap_rows.proofs.Later.{enter_home, next_home, var_ok}
use Rattle.snap_rows.proofs.Own.{rank_owner, stage_own, visit_own}
use Rattle.snap_rows.proofs.Plans.{way_end}
use Rattle.std.proofs.lemmas.Option.{same_Some}
use Rattle.snap_rows.proofs.Rows.{row_keeps, row_form, nodes}
use Rattle.snap_rows.proofs.Visited.{visit_end, walk_cut_same}
use Rattle.snap_rows.proofs.Ways.{side_goes}

-- ---- updates
one_agrees : (t : Tables) (w : ℕ) (u : Update) (m o : Arrays) (k : List ℕ) → owner_of t u.var ≡ Some w → AgreeAt t w m o → AgreeAt t w (update m u k) (update o u k)
one_agrees t w u m o k own agree p mine =
    let q = place_at u.var u.index k in
    ap (λ (n : ℕ). if same_place q p then number_after u.op n k else m p) (agree q own) ∙ ap (λ (n : ℕ). if same_place q p then number_after u.op (o q) k else n) (agree p mine)

updates_agree : (t : Tables) (w : ℕ) (us : List Update) (m o : Arrays) (k : List ℕ) → All (λ (u : Update). owner_of t u.var ≡ Some w) us → AgreeAt t w m o → AgreeAt t w (updates m us k) (updates o us k)
updates_agree t w [] m o k own agree = agree
updates_agree t w (u ∷ us) m o k own agree =
    updates_agree t w us (update m u k) (update o u k) k (All-tail (λ (u : Update). owner_of t u.var ≡ Some w) u us own) (one_agrees t w u m o k (own 0 u (let n = length us in omega arith)) agree)

-- ---- tests
passes_agree : (t : Tables) (w : ℕ) (m o : Arrays) (k : List ℕ) → AgreeAt t w m o → (test : Test) → owner_of t (var_of test) ≡ Some w → passes test m k ≡ passes test o k
passes_agree t w m o k agree (Value c n) own = refl
passes_agree t w m o k agree (Equal a b n) own = refl
passes_agree t w m o k agree (StateTest s es x) own = ap (λ n. nat_eq n (term_value x k)) (agree (place_at s es k) own)

pub field_passes : (m o : Arrays) (k : List ℕ) (test : Test) → IsFieldTest test → passes test m k ≡ passes test o k
field_passes m o k (Value c n) fits = refl
field_passes m o k (Equal a b n) fits = refl
field_passes m o k (StateTest s es x) fits = absurd fits

abbrev pub to : Bool → ℕ → ℕ → Option ℕ
to b y z = Some (if b then y else z)

side_agrees : (t : Tables) → IsValid t → IsWellFormed t → t.version ≡ 1 → (w : ℕ) (m o : Arrays) (k : List ℕ) → AgreeAt t w m o → (n : ℕ) (b : Row) → row_at t w n ≡ Some b → side b m k ≡ side b o k
side_agrees t valid form one w m o k agree n (Field test y z) row = ap (λ b. to b y z) (field_passes m o k test (row_form t form w n (Field test y z) row).1)
side_agrees t valid form one w m o k agree n (State test y z) row = ap (λ b. to b y z) (passes_agree t w m o k agree test (row_keeps t valid Owner w n (State test y z) row one))
side_agrees t valid form one w m o k agree n (Go x) row = refl
side_agrees t valid form one w m o k agree n (Leaf ss os) row = refl
side_agrees t valid form one w m o k agree n Stop row = refl
side_agrees t valid form one w m o k agree n (Last us os) row = refl

-- ---- ways of version 2
field_side : (t : Tables) → IsWellFormed t → (w : ℕ) (m o : Arrays) (k : List ℕ) (n : ℕ) (b : Row) → row_at t w n ≡ Some b → is_field b ≡ true → side b m k ≡ side b o k
field_side t form w m o k n (Field test y z) row e = ap (λ b. to b y z) (field_passes m o k test (row_form t form w n (Field test y z) row).1)
field_side t form w m o k n (State test y z) row e = absurd (false≢true e)
field_side t form w m o k n (Go x) row e = refl
field_side t form w m o k n (Leaf ss os) row e = refl
field_side t form w m o k n Stop row e = refl
field_side t form w m o k n (Last us os) row e = refl

field_way : (t : Tables) → IsWellFormed t → (w : ℕ) (k : List ℕ) (m o : Arrays) (n v : ℕ) → Follows t w k is_field m n v → Follows t w k is_field o n v
field_way t form w k m o n v (arrives row test) = arrives row test
field_way t form w k m o n v (follows {x = x} {b = b} row test side' f) = follows row test (sym (field_side t form w m o k n b row test) ∙ side') (field_way t form w k m o x v f)

ranked_side : (t : Tables) → IsValid t → IsWellFormed t → t.version ≡ 2 → (w r : ℕ) (m o : Arrays) (k : List ℕ) → rank_at t r ≡ Some w → AgreeAt t w m o → (n : ℕ) (b : Row) → row_at t w n ≡ Some b → is_ranked t r b ≡ true → side b m k ≡ side b o k
ranked_side t valid form two w r m o k at agree n (State test y z) row e =
    let within = var_ok t test (row_form t form w n (State test y z) row).1 in
    ap (λ b. to b y z) (passes_agree t w m o k agree test (rank_owner t valid two (var_of test) r w within (eqb-true (rank_of t (var_of test)) r e) at))
ranked_side t valid form two w r m o k at agree n (Field test y z) row e = absurd (false≢true e)
ranked_side t valid form two w r m o k at agree n (Go x) row e = refl
ranked_side t valid form two w r m o k at agree n (Leaf ss os) row e = refl
ranked_side t valid form two w r m o k at agree n Stop row e = refl
ranked_side t valid form two w r m o k at agree n (Last us os) row e = refl

ranked_way : (t : Tables) → IsValid t → IsWellFormed t → t.version ≡ 2 → (w : ℕ) (k : List ℕ) (r : ℕ) (m o : Arrays) → rank_at t r ≡ Some w → AgreeAt t w m o → (n v : ℕ) → Follows t w k (is_ranked t r) m n v → Follows t w k (is_ranked t r) o n v
ranked_way t valid form two w k r m o at agree n v (arrives row test) = arrives row test
ranked_way t valid form two w k r m o at agree n v (follows {x = x} {b = b} row test side' f) =
    follows row test (sym (ranked_side t valid form two w r m o k at agree n b row test) ∙ side') (ranked_way t valid form two w k r m o at agree x v f)

-- what a visit at its rank's owner comes to
visit_agrees : (t : Tables) → IsValid t → IsWellFormed t → t.version ≡ 2 → (w : ℕ) (k : List ℕ) (r n v : ℕ) (us : List Update) (m o : Arrays) → rank_at t r ≡ Some w → IsVisitAtHome t r n → AgreeAt t w m o → Visits t w k m r n v us → Visits t w k o r n v us
visit_agrees t valid form two w k r n v us m o at home agree visit =
    let owner : home.owner ≡ w = same_Some _ _ (sym home.rank ∙ at) in
    let row = subst (λ x. row_at t x n ≡ Some home.body) owner home.row in
    let end = visit_end t valid form two (nodes t form) w k r m n v home.body row home.visited visit.number in
    record {
      leaf = visit.leaf;
      ups = visit.ups;
      outs = visit.outs;
      number = ranked_way t valid form two w k r m o at agree n v visit.number;
      walk = walk_cut_same t valid form two (nodes t form) w k r m o v visit.leaf end.0 end.1 end.2 visit.walk;
      row = visit.row;
      updates = visit.updates;
    }

-- ---- a step
-- by stores that agree at the switch it does the same
abbrev pub DoesAlike : Tables → ℕ → List ℕ → Head → Arrays → Arrays → Action → Type 0
DoesAlike t w k h m' o a = (o' : Arrays) × Handles t w k o h o' a × AgreeAt t w m' o'

pub reads_own : (t : Tables) → IsValid t → IsWellFormed t → (w : ℕ) → w < switch_count t → (k : List ℕ) (h : Head) → AtHome t w h → (m o m' : Arrays) (a : Action) → AgreeAt t w m o → Handles t w k m h m' a → DoesAlike t w k h m' o a
reads_own t valid form w below k h home m o m' a agree (asks {n = n} {x = x} {b = b} one row goes' f) =
    let there : IsSome (row_at t w x) = (subst (λ o. IfSome o (λ y. (n < y) × IsSome (row_at t w y))) goes' (side_goes t valid w n b row m k)).1 in
    let rest = reads_own t valid form w below k (Walk x) there m o m' a agree f in
    (rest.0, asks one row (sym (side_agrees t valid form one w m o k agree n b row) ∙ goes') rest.1, rest.2)
reads_own t valid form w below k h home m o m' a agree (goes row) = (o, goes row, agree)
reads_own t valid form w below k h home m o m' a agree (forks row) = (o, forks row, agree)
reads_own t valid form w below k h home m o m' a agree (begins {n = n} {s = s} {ss = ss} {os = os} row f) =
    let one = (row_form t form w n (Leaf (s ∷ ss) os) row).0 in
    let rest = reads_own t valid form w below k (AtStage n 0) (one, stage_first t valid form one w n s ss os below row) m o m' a agree f in
    (rest.0, begins row rest.1, rest.2)
reads_own t valid form w below k h home m o m' a agree (passes_on row is away) = (o, passes_on row is away, agree)
reads_own t valid form w below k h home m o m' a agree (goes_on {n = n} {i = i} {s = s} {ss = ss} {os = os} row is stands more f) =
    let own = stage_own t valid form w n i ss os s row is stands in
    let rest = reads_own t valid form w below k (AtStage n (i + 1)) (home.0, stage_next t w n i s ss os row is stands more home.1) (updates m s.ups k) (updates o s.ups k) m' a (updates_agree t w s.ups m o k own agree) f in
    (rest.0, goes_on row is stands more rest.1, rest.2)
reads_own t valid form w below k h home m o m' a agree (completes {n = n} {i = i} {s = s} {ss = ss} {os = os} row is stands last) =
    (updates o s.ups k, completes row is stands last, updates_agree t w s.ups m o k (stage_own t valid form w n i ss os s row is stands) agree)
reads_own t valid form w below k h home m o m' a agree (enters {n = n} {v = v} two some way f) =
    let e = way_end t w k is_field m n v way in
    let rest = reads_own t valid form w below k (Visit 0 v) (two, enter_home t valid form two w v e.0 e.1 e.2 some) m o m' a agree f in
    (rest.0, enters two some (field_way t form w k m o n v way) rest.1, rest.2)
reads_own t valid form w below k h home m o m' a agree (enters_last {n = n} {v = v} two none way row) = (o, enters_last two none (field_way t form w k m o n v way) row, agree)
reads_own t valid form w below k h home m o m' a agree (seeks rank away) = (o, seeks rank away, agree)
reads_own t valid form w below k h home m o m' a agree (visits {r = r} {n = n} {v = v} {us = us} rank visit more f) =
    let there = home.1 in
    let owner : there.owner ≡ w = same_Some _ _ (sym there.rank ∙ rank) in
    let e = visit_end t valid form home.0 (nodes t form) w k r m n v there.body (subst (λ x. row_at t x n ≡ Some there.body) owner there.row) there.visited visit.number in
    let own = visit_own t valid form w k m r n v us rank visit in
    let rest = reads_own t valid form w below k (Visit (r + 1) v) (home.0, next_home t valid home.0 w v (r + 1) e.0 e.1 e.2 more) (updates m us k) (updates o us k) m' a (updates_agree t w us m o k own agree) f in
    (rest.0, visits rank (visit_agrees t valid form home.0 w k r n v us m o rank there agree visit) more rest.1, rest.2)
reads_own t valid form w below k h home m o m' a agree (concludes {r = r} {n = n} {v = v} {us = us} rank visit last row) =
    let own = visit_own t valid form w k m r n v us rank visit in
    (updates o us k, concludes rank (visit_agrees t valid form home.0 w k r n v us m o rank home.1 agree visit) last row, updates_agree t w us m o k own agree)
reads_own t valid form w below k h home m o m' a agree (delivers at) = (o, delivers at, agree)
reads_own t valid form w below k h home m o m' a agree (carries at away) = (o, carries at away, agree)

-- What steps do that make no visits, and where walks end.
use Rattle.std.proofs.Common.{◌≡◌, ◌≢◌, ℕ, ◌+◌, ◌<◌, ◌≤◌, Bool, false, List, [], Some, length, refl, sym, subst, ◌∙◌, arith, Bor}
use Rattle.std.specs.Prelude.{slice_get, ◌==◌}
use Rattle.std.specs.List.{All}
use Rattle.std.proofs.lemmas.Bool.{false≢true}
use Rattle.std.proofs.lemmas.List.Elements.{All-filter, All-append}
use Rattle.std.proofs.lemmas.List.Elements.{All-weaker}
use Rattle.snap_core.specs.declared.policy.Update.{Update}
use Rattle.snap_core.specs.Arrays.{Arrays, updates}
use Rattle.snap_core.specs.Fits.{UpdateReads}
use Rattle.snap_core.specs.Tests.{OutFits}
use Rattle.snap_rows.specs.declared.head.Head.{Head}
use Rattle.snap_rows.specs.declared.head.Head.TheVariants.{Stage as AtStage}
use Rattle.snap_rows.specs.Actions.{Action, Forward}
use Rattle.snap_rows.specs.declared.head.Fate.{Fate}
use Rattle.snap_rows.specs.declared.head.Fate.TheVariants.{Seek, Fork}
use Rattle.snap_rows.specs.declared.tables.Row.{Row}
use Rattle.snap_rows.specs.declared.tables.Row.TheVariants.{Field, State, Go, Leaf, Stop, Last}
use Rattle.snap_rows.specs.declared.tables.Stage.{Stage as LeafStage}
use Rattle.snap_rows.specs.declared.tables.Tables.{Tables}
use Rattle.snap_rows.specs.Entries.{Parts, row_at, rank_of, next}
use Rattle.snap_rows.specs.Form.{IsWellFormed, IsRowWellFormed, IsLeafStageWellFormed, IsUpdateWellFormed, comps, switch_count}
use Rattle.snap_rows.specs.Handles.{Handles, Follows, arrives, follows, is_test, forked, passes_on, goes_on, completes, Visits}
use Rattle.snap_rows.specs.Steps.{HasLast, IsGoOrLeaf, AppendsVisit}
use Rattle.snap_rows.specs.Stepping.{ActsAs, FateFits, GoesBy}
use Rattle.snap_rows.specs.Rules.{IsValid}
use Rattle.snap_rows.specs.Home.{IsVisited}
use Rattle.snap_rows.proofs.Visited.{next_visited, row_of}
use Rattle.std.proofs.lemmas.Option.{same_Some}
use Rattle.snap_rows.proofs.Rows.{All-get, row_form, nodes}
use Rattle.snap_rows.proofs.Stages.{alternates, outs_fit, reads_own, ups_fit}

pub no_updates : (n : ℕ) → All (UpdateReads n) []
no_updates n = λ i d within. absurd (let h : i < 0 = within in omega arith)

pub last_outs_fit : (t : Tables) → IsWellFormed t → (w n : ℕ) (us : List Update) (os : List Parts) → row_at t w n ≡ Some (Last us os) → All (OutFits (comps t)) os
last_outs_fit t form w n us os row = outs_fit t os (row_form t form w n (Last us os) row).3

pub leaf_outs_fit : (t : Tables) → IsWellFormed t → (w n : ℕ) (ss : List LeafStage) (os : List Parts) → row_at t w n ≡ Some (Leaf ss os) → All (OutFits (comps t)) os
leaf_outs_fit t form w n ss os row = outs_fit t os (row_form t form w n (Leaf ss os) row).4

-- a step without updates
pub bare_goes : (t : Tables) (w : ℕ) (k : List ℕ) (m : Arrays) (h : Head) (us : List Update) (f : Fate) (a : Action) → us ≡ [] → ActsAs t w k f a → FateFits t w f → Handles t w k m h m a → GoesBy t w k m h us f
bare_goes t w k m h us f a none acts fits step = record {
  action = a;
  acts = acts;
  handles = subst (λ us. Handles t w k m h (updates m us k) a) (sym none) step;
  reads = subst (All (UpdateReads (length k))) (sym none) (no_updates (length k));
  fits = fits;
}

-- a stage stands at a switch
pub turn_below : (t : Tables) → IsWellFormed t → (w n i : ℕ) (s : LeafStage) (ss : List LeafStage) (os : List Parts) → row_at t w n ≡ Some (Leaf ss os) → slice_get ss i ≡ Some s → s.at < switch_count t
turn_below t form w n i s ss os row is = (All-get (IsLeafStageWellFormed t) ss i s (row_form t form w n (Leaf ss os) row).2 is).at

-- a stage that isn't here
pub stage_away : (t : Tables) → IsWellFormed t → (w : ℕ) (k : List ℕ) (m : Arrays) (n i : ℕ) (s : LeafStage) (ss : List LeafStage) (os : List Parts) (us : List Update) → row_at t w n ≡ Some (Leaf ss os) → slice_get ss i ≡ Some s → s.at ≢ w → us ≡ []
    → GoesBy t w k m (AtStage n i) us (Seek s.at (AtStage n i))
stage_away t form w k m n i s ss os us row is away none = bare_goes t w k m (AtStage n i) us (Seek s.at (AtStage n i)) _ none refl (turn_below t form w n i s ss os row is, tt) (passes_on row is away)

stage_fits : (t : Tables) → IsWellFormed t → (w n i : ℕ) (k : List ℕ) (s : LeafStage) (ss : List LeafStage) (os : List Parts) → row_at t w n ≡ Some (Leaf ss os) → slice_get ss i ≡ Some s → length k ≡ comps t → All (UpdateReads (length k)) s.ups
stage_fits t form w n i k s ss os row is long = ups_fit t form ss i s (row_form t form w n (Leaf ss os) row).2 is (length k) long

-- a stage that is done here, with another one behind it
pub stage_on : (t : Tables) → IsWellFormed t → (w : ℕ) (k : List ℕ) (m : Arrays) (n i : ℕ) (s s' : LeafStage) (ss : List LeafStage) (os : List Parts) (us : List Update) → length k ≡ comps t → row_at t w n ≡ Some (Leaf ss os)
    → slice_get ss i ≡ Some s → slice_get ss (i + 1) ≡ Some s' → i + 1 < length ss → s.at ≡ w → us ≡ s.ups → GoesBy t w k m (AtStage n i) us (Seek s'.at (AtStage n (i + 1)))
stage_on t form w k m n i s s' ss os us long row is is' more here same =
    let other : s'.at ≢ s.at = alternates ss i s s' (row_form t form w n (Leaf ss os) row).3 is is' in
    let apart : s'.at ≢ w = λ e. other (e ∙ sym here) in
    record {
      action = Forward (next t w s'.at) (AtStage n (i + 1));
      acts = refl;
      handles =
          subst (λ us. Handles t w k m (AtStage n i) (updates m us k) (Forward (next t w s'.at) (AtStage n (i + 1)))) (sym same)
          (goes_on row is here more (passes_on row is' apart));
      reads = subst (All (UpdateReads (length k))) (sym same) (stage_fits t form w n i k s ss os row is long);
      fits = (turn_below t form w n (i + 1) s' ss os row is', tt);
    }

-- the last stage, here
pub stage_last : (t : Tables) → IsWellFormed t → (w : ℕ) (k : List ℕ) (m : Arrays) (n i : ℕ) (s : LeafStage) (ss : List LeafStage) (outs : Bor (List Parts)) (us : List Update) → length k ≡ comps t → row_at t w n ≡ Some (Leaf ss outs.now)
    → slice_get ss i ≡ Some s → i < length ss → length ss ≤ i + 1 → s.at ≡ w → us ≡ s.ups → GoesBy t w k m (AtStage n i) us (Fork outs)
stage_last t form w k m n i s ss outs us long row is within past here same = record {
  action = forked t outs.now k;
  acts = refl;
  handles =
      subst (λ us. Handles t w k m (AtStage n i) (updates m us k) (forked t outs.now k)) (sym same)
      (completes row is here (omega arith));
  reads = subst (All (UpdateReads (length k))) (sym same) (stage_fits t form w n i k s ss outs.now row is long);
  fits = leaf_outs_fit t form w n ss outs.now row;
}

-- where a way along test rows ends
pub way_end : (t : Tables) (w : ℕ) (k : List ℕ) (p : Row → Bool) (m : Arrays) (n v : ℕ) → Follows t w k p m n v → (b : Row) × (row_at t w v ≡ Some b) × (p b ≡ false)
way_end t w k p m n v (arrives row test) = (_, row, test)
way_end t w k p m n v (follows row test goes f) = way_end t w k p m _ v f

-- the updates of a visit fit
pub visit_fits : (t : Tables) → IsWellFormed t → (w : ℕ) (k : List ℕ) (m : Arrays) (r n v : ℕ) (us : List Update) → length k ≡ comps t → Visits t w k m r n v us → All (UpdateReads (length k)) us
visit_fits t form w k m r n v us long visit =
    let last = row_form t form w visit.leaf (Last visit.ups visit.outs) visit.row in
    let fits = All-filter (λ (u : Update). rank_of t u.var == r) (IsUpdateWellFormed t) visit.ups last.1 in
    subst (λ n. All (UpdateReads n) us) (sym long)
    (subst (All (UpdateReads (comps t))) (sym visit.updates)
    (All-weaker (IsUpdateWellFormed t) (UpdateReads (comps t)) (reads_own t) _ fits))

-- a walk of version 1 ends where its number is decided elsewhere, or at a leaf
pub end_one : (t : Tables) → IsWellFormed t → t.version ≡ 1 → (w : ℕ) (k : List ℕ) (m : Arrays) (n v : ℕ) → Follows t w k is_test m n v → IsGoOrLeaf (row_at t w v)
end_one t form one w k m n v f = let e = way_end t w k is_test m n v f in subst IsGoOrLeaf (sym e.1) (by e.0 e.2 (row_form t form w v e.0 e.1))
  where
    not_two : t.version ≡ 2 → ⊥
    not_two two = let h : 1 ≡ 2 = sym one ∙ two in omega arith

    by : (b : Row) → is_test b ≡ false → IsRowWellFormed t b → IsGoOrLeaf (Some b)
    by (Field test y z) q h = absurd (false≢true (sym q))
    by (State test y z) q h = absurd (false≢true (sym q))
    by (Go x) q h = tt
    by (Leaf ss os) q h = tt
    by Stop q h = absurd (not_two h)
    by (Last us os) q h = absurd (not_two h.0)

-- a walk from a row that can be visited ends at a leaf
pub end_two : (t : Tables) → IsValid t → IsWellFormed t → t.version ≡ 2 → (w : ℕ) (k : List ℕ) (r : ℕ) (m : Arrays) (n v : ℕ) (b : Row) → row_at t w n ≡ Some b → IsVisited t r b → Follows t w k is_test m n v → HasLast t w v
end_two t valid form two w k r m n v b row at (arrives {b = b'} row' test) = by b' row' test (subst (IsVisited t r) (same_Some _ _ (sym row ∙ row')) at)
  where
    by : (b : Row) → row_at t w n ≡ Some b → is_test b ≡ false → IsVisited t r b → HasLast t w n
    by (Field test y z) e q h = absurd h
    by (State test y z) e q h = absurd (false≢true (sym q))
    by (Go x) e q h = absurd h
    by (Leaf ss os) e q h = absurd h
    by Stop e q h = absurd h
    by (Last us os) e q h = (us, os, e)
end_two t valid form two w k r m n v b row at (follows {x = x} {b = b'} row' test goes f) =
    let at' : IsVisited t r b' = subst (IsVisited t r) (same_Some _ _ (sym row ∙ row')) at in
    let there = row_of t w k is_test m x v f in
    end_two t valid form two w k r m x v there.0 there.1 (next_visited t valid form two (nodes t form) w n r b' row' at' m k x goes there.0 there.1) f

pub append_fits : (t : Tables) → IsWellFormed t → (w : ℕ) (k : List ℕ) (m : Arrays) (r n v : ℕ) (before after : List Update) → length k ≡ comps t → All (UpdateReads (length k)) before → AppendsVisit t w k m r n v before after
    → All (UpdateReads (length k)) after
append_fits t form w k m r n v before after long fits appends =
    subst (All (UpdateReads (length k))) (sym appends.2) (All-append (UpdateReads (length k)) before appends.0 fits (visit_fits t form w k m r n v appends.0 long appends.1))

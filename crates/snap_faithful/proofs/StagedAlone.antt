-- Over single-owner tables of version 1: a copy that hasn't forked moves on, or does in one step all that the program does.
use Rattle.std.proofs.Common.{◌≡◌, ℕ, suc, Bool, true, false, cond, List, ◌∷◌, Some, None, refl, sym, ap, subst, ◌∙◌, arith}
use Rattle.std.specs.Prelude.{Contains}
use Rattle.std.proofs.lemmas.Bool.{both_ways}
use Rattle.snap_core.specs.declared.policy.Pol.{Pol}
use Rattle.snap_core.specs.Arrays.{Arrays}
use Rattle.snap_core.specs.Inputs.{IsStore, IsPacket}
use Rattle.snap_core.specs.Meaning.{Meaning, eval}
use Rattle.snap_core.specs.Tests.{passes}
use Rattle.snap_rows.specs.declared.tables.Tables.{Tables}
use Rattle.snap_rows.specs.declared.tables.Row.{Row}
use Rattle.snap_rows.specs.declared.tables.Row.TheVariants.{Field, State, Go, Leaf, Stop, Last}
use Rattle.snap_rows.specs.declared.tables.Stage.{Stage as LeafStage}
use Rattle.snap_rows.specs.Actions.{Action, Fork}
use Rattle.snap_rows.specs.declared.head.Head.{Head}
use Rattle.snap_rows.specs.declared.head.Head.TheVariants.{Walk, Stage}
use Rattle.snap_rows.specs.Entries.{Parts, row_at, node_of, owner_of}
use Rattle.snap_rows.specs.Form.{Alternate}
use Rattle.snap_rows.specs.Handles.{Handles, asks, goes, forks, begins, passes_on, goes_on, completes, enters, enters_last, side, is_field, is_test}
use Rattle.snap_rows.specs.SingleOwner.{Chain, field, state, leaf, IsSingleOwnerFrom}
use Rattle.snap_rows.proofs.Rows.{nodes}
use Rattle.snap_rows.proofs.Alone.{from_state}
use Rattle.snap_faithful.specs.Visits.{Comes, here, on}
use Rattle.snap_rows.proofs.OwnReads.{field_passes}
use Rattle.snap_rows.proofs.Able.{field_tests}
use Rattle.snap_faithful.proofs.Trips.{sends, splits}
use Rattle.snap_faithful.proofs.SingleOwnerRuns.{is_unforked, EarlyDoes, moves_on, does_all, Early}
use Rattle.snap_faithful.proofs.Walks.{joined}
use Rattle.snap_faithful.specs.StagedFacts.{HasStagedMeaning}
use Rattle.snap_faithful.proofs.StagedNodes.{IsOne, own_node, state_owner, goes_to, asks_fields}
use Rattle.snap_rows.specs.Laws.{AgreeAt}
use Rattle.snap_faithful.proofs.Steps.{CopyDoes, walk_does, stage_does}
use Rattle.snap_core.proofs.Members.{Contains-here, Contains-later}
use Rattle.snap_rows.proofs.Stages.{alternates_next}
use Rattle.snap_faithful.proofs.Chains.{has_chain, way_in, single_owner_on, turn_in, turn_at}

-- the copy has come to its head by field tests alone, whatever the arrays
pub data IsEarly (t : Tables) (k : List ℕ) : Head → Type 0 where
  walking : {n : ℕ} → ((m : Arrays) → Comes t k is_field m 0 n) → IsEarly t k (Walk n)
  staging : {n : ℕ} {ss : List LeafStage} {os : List Parts} → ((m : Arrays) → Comes t k is_field m 0 n) → node_of t n ≡ Some (Leaf ss os) → IsEarly t k (Stage n 0)

before_fork : (t : Tables) {k : List ℕ} {head : Head} → IsEarly t k head → is_unforked head ≡ true
before_fork t (walking comes) = refl
before_fork t (staging comes node) = refl

abbrev DoesEarly : Tables → List ℕ → Arrays → Meaning → ℕ → Arrays → Arrays → Action → Type 0
DoesEarly t k m o w s s' a = EarlyDoes t (owner_of t) (IsEarly t k) m o w s s' a

abbrev is_fork : Action → Bool
is_fork (Fork xs l) = true
is_fork _ = false

commit : {t : Tables} {k : List ℕ} {m : Arrays} {o : Meaning} {w : ℕ} {s s' : Arrays} {a : Action} → CopyDoes t k m o w m s' a → is_fork a ≡ true → DoesEarly t k m o w s s' a
commit (sends ahead now far) e = absurd (both_ways _ refl e)
commit (splits over now far) e = does_all over.packets (λ q own. now q own ∙ over.arrays q) (λ x ne q own. sym (over.arrays q) ∙ far x ne q own)

module _ (t : Tables) (one : IsOne t) (k : List ℕ) where
  tested : {m : Arrays} {a n : ℕ} → Comes t k is_field m a n → Comes t k is_test m a n
  tested here = here
  tested (on {b = b} node is way rest) = on node (field_tests b is) way (tested rest)

  -- all stages and state rows from a number on stand at w
  abbrev AllAt : ℕ → ℕ → Type 0
  AllAt w n = (ws : List ℕ) → Chain t n ws → (x : ℕ) → Contains ws x → x ≡ w

  alternate : (n : ℕ) (ss : List LeafStage) (os : List Parts) → node_of t n ≡ Some (Leaf ss os) → Alternate ss
  alternate n ss os node = (nodes t one.form n (Leaf ss os) node).0.3

  -- where all turns stand at w there is one at most
  stage_forks : {w n i : ℕ} {s s' : Arrays} {a : Action} → AllAt w n → Handles t w k s (Stage n i) s' a → is_fork a ≡ true
  stage_forks {w = w} {n = n} {i = i} all (passes_on {s = turn} {ss = ss} {os = os} row found away) =
      absurd (away (all _ (leaf (own_node t one w n (Leaf ss os) row refl)) turn.at (turn_in ss i turn found)))
  stage_forks {w = w} {n = n} {i = i} all (goes_on {s = turn} {ss = ss} {os = os} row found own more rest) =
      let node = own_node t one w n (Leaf ss os) row refl in
      let u = turn_at ss (suc i) (omega (arith, more)) in
      absurd (alternates_next ss i turn u.0 (alternate n ss os node) found u.1 (all _ (leaf node) u.0.at (turn_in ss (suc i) u.0 u.1) ∙ sym own))
  stage_forks all (completes row found own last) = refl

  walk_forks : {w n : ℕ} {s s' : Arrays} {a : Action} → AllAt w n → Handles t w k s (Walk n) s' a → is_fork a ≡ true
  walk_forks {w = w} {n = n} {s = s} all (asks {x = x} {b = b} version row way rest) = walk_forks (by b row way) rest
    where
      by : (b : Row) → row_at t w n ≡ Some b → side b s k ≡ Some x → AllAt w x
      by (Field test y z) row way = λ ws chain v inside. all ws (field (own_node t one w n (Field test y z) row refl) (way_in t one (passes test s k) y z x way) chain) v inside
      by (State test y z) row way = λ ws chain v inside.
          all (w ∷ ws) (state (own_node t one w n (State test y z) row refl) (state_owner t one w n y z test row) (way_in t one (passes test s k) y z x way) chain) v (Contains-later v w ws inside)
      by (Go v) row way = absurd (let f : None ≡ Some x = way in cc)
      by (Leaf ss os) row way = absurd (let f : None ≡ Some x = way in cc)
      by Stop row way = absurd (let f : None ≡ Some x = way in cc)
      by (Last us os) row way = absurd (let f : None ≡ Some x = way in cc)
  walk_forks {w = w} {n = n} all (goes {x = x} row) =
      let g = goes_to t one w n x row in
      let c = has_chain t one n _ g.1.node in
      let f = from_state t n x g.1.yes g.1.otherwise g.1.test c.0 g.1.node g.1.owner c.1 in
      absurd (g.0 (all c.0 c.1 x (subst (λ l. Contains l x) (sym f.is) (Contains-here x f.rest))))
  walk_forks all (forks row) = refl
  walk_forks all (begins row rest) = stage_forks all rest
  walk_forks all (enters version some follow rest) = absurd (let a = one.version in omega (arith, version, a))
  walk_forks all (enters_last version none follow row) = absurd (let a = one.version in omega (arith, version, a))

  module _ (p : Pol) (c : ℕ) (meaning : HasStagedMeaning p c t) (m : Arrays) (o : Meaning) (store : IsStore m) (packet : IsPacket c k) (outcome : eval p m k ≡ Some o) (single_owner : IsSingleOwnerFrom t 0) where
    -- ---- at the first stage
    early_stage : {w n : ℕ} {ss : List LeafStage} {os : List Parts} {s s' : Arrays} {a : Action} → ((m : Arrays) → Comes t k is_field m 0 n) → node_of t n ≡ Some (Leaf ss os) → AgreeAt t w s m
        → Handles t w k s (Stage n 0) s' a → DoesEarly t k m o w s s' a
    early_stage comes node held (passes_on row found away) = moves_on refl (staging comes node)
    early_stage {w = w} {n = n} comes node held (goes_on {s = turn} {ss = ss} {os = os} row found own more rest) =
        let node' = own_node t one w n (Leaf ss os) row refl in
        let u = turn_at ss 1 (omega (arith, more)) in
        absurd (alternates_next ss 0 turn u.0 (alternate n ss os node') found u.1
        (single_owner_on t one single_owner (comes m) _ (leaf node') u.0.at turn.at (turn_in ss 1 u.0 u.1) (turn_in ss 0 turn found)))
    early_stage {ss = ss} {os = os} comes node held (completes row found own last) =
        commit (stage_does t one k p c meaning m o store packet outcome {ss = ss} {os = os} (tested (comes m)) node held (λ x ne q own. refl) (completes row found own last)) refl

    -- ---- at a number
    early_walk : {w n : ℕ} {s s' : Arrays} {a : Action} → ((m : Arrays) → Comes t k is_field m 0 n) → AgreeAt t w s m → Handles t w k s (Walk n) s' a → DoesEarly t k m o w s s' a
    early_walk {w = w} {n = n} {s = s} {s' = s'} {a = a} comes held (asks {x = x} {b = b} version row way rest) = by b row way (λ come. early_walk come held rest)
      where
        by : (b : Row) → row_at t w n ≡ Some b → side b s k ≡ Some x → (((m : Arrays) → Comes t k is_field m 0 x) → DoesEarly t k m o w s s' a) → DoesEarly t k m o w s s' a
        by (Field test y z) row way go =
            let node = own_node t one w n (Field test y z) row refl in
            go (λ m'. joined t k is_field m' (comes m') (on node refl (ap (λ x. Some (cond x y z)) (field_passes m' s k test (asks_fields t one n (Field test y z) node)) ∙ way) here))
        by (State test y z) row way go =
            let node = own_node t one w n (State test y z) row refl in
            let own = state_owner t one w n y z test row in
            let from = way_in t one (passes test s k) y z x way in
            commit (walk_does t one k p c meaning m o store packet outcome (tested (comes m)) held (asks version row way rest))
            (walk_forks (λ ws chain v inside. single_owner_on t one single_owner (comes m) (w ∷ ws) (state node own from chain) v w (Contains-later v w ws inside) (Contains-here w ws)) rest)
        by (Go v) row way go = absurd (let f : None ≡ Some x = way in cc)
        by (Leaf ss os) row way go = absurd (let f : None ≡ Some x = way in cc)
        by Stop row way go = absurd (let f : None ≡ Some x = way in cc)
        by (Last us os) row way go = absurd (let f : None ≡ Some x = way in cc)
    early_walk comes held (goes row) = moves_on refl (walking comes)
    early_walk comes held (forks row) = commit (walk_does t one k p c meaning m o store packet outcome (tested (comes m)) held (forks row)) refl
    early_walk {w = w} {n = n} comes held (begins {s = turn} {ss = ss} {os = os} row rest) = early_stage {ss = turn ∷ ss} {os = os} comes (own_node t one w n (Leaf (turn ∷ ss) os) row refl) held rest
    early_walk comes held (enters version some follow rest) = absurd (let a = one.version in omega (arith, version, a))
    early_walk comes held (enters_last version none follow row) = absurd (let a = one.version in omega (arith, version, a))

    pub early_does : {w : ℕ} {head : Head} {s s' : Arrays} {a : Action} → IsEarly t k head → AgreeAt t w s m → Handles t w k s head s' a → DoesEarly t k m o w s s' a
    early_does (walking comes) held does = early_walk comes held does
    early_does (staging comes node) held does = early_stage comes node held does

module _ (p : Pol) (c : ℕ) (t : Tables) (one : IsOne t) (meaning : HasStagedMeaning p c t) (single_owner : IsSingleOwnerFrom t 0) where
  pub early : Early p c t (owner_of t)
  early = record {
    IsEarly = IsEarly t;
    enters = λ k. walking (λ m. here);
    before = before_fork t;
    does = λ k m o store packet outcome. early_does t one k p c meaning m o store packet outcome single_owner;
  }

-- What a step does with the one copy of a packet before its fork.
use Rattle.std.proofs.Common.{◌≡◌, ℕ, ◌+◌, true, List, [], ◌∷◌, length, Some, None, refl, sym, ap, subst, ◌∙◌, arith}
use Rattle.std.specs.Prelude.{slice_get, nat_eq}
use Rattle.std.specs.List.{All}
use Rattle.std.proofs.lemmas.Bool.{both_ways}
use Rattle.snap_core.specs.declared.place.Place.{Place}
use Rattle.snap_core.specs.declared.policy.Pol.{Pol}
use Rattle.snap_core.specs.declared.policy.Test.{Test}
use Rattle.snap_core.specs.declared.policy.Test.TheVariants.{Value, Equal, State as StateTest}
use Rattle.snap_core.specs.declared.policy.Update.{Update}
use Rattle.snap_core.specs.Arrays.{Arrays, updates, place_at}
use Rattle.snap_core.specs.Inputs.{IsStore, IsPacket}
use Rattle.snap_core.specs.Meaning.{Meaning, eval}
use Rattle.snap_core.specs.Packets.{PacketSet}
use Rattle.snap_core.specs.Tests.{passes, results, term_value}
use Rattle.snap_rows.specs.declared.tables.Tables.{Tables}
use Rattle.snap_rows.specs.declared.tables.Row.{Row}
use Rattle.snap_rows.specs.declared.tables.Row.TheVariants.{Field, State, Go, Leaf, Stop, Last}
use Rattle.snap_rows.specs.declared.tables.Stage.{Stage as LeafStage}
use Rattle.snap_rows.specs.Actions.{Action, Fork}
use Rattle.snap_rows.specs.declared.head.Head.{Head}
use Rattle.snap_rows.specs.declared.head.Head.TheVariants.{Walk, Stage}
use Rattle.snap_rows.specs.Entries.{Parts, row_at, node_of, owner_of, var_of}
use Rattle.snap_rows.specs.Handles.{Handles, asks, goes, forks, begins, passes_on, goes_on, completes, enters, enters_last, side, is_test}
use Rattle.std.proofs.lemmas.Option.{same_Some}
use Rattle.snap_faithful.specs.Agreement.{sent_of, lost_of}
use Rattle.snap_faithful.specs.Visits.{Comes, here, on}
use Rattle.snap_rows.proofs.OwnReads.{field_passes}
use Rattle.snap_faithful.proofs.Holding.{OthersOf}
use Rattle.snap_faithful.proofs.Trips.{Does, sends, splits, Way}
use Rattle.snap_faithful.proofs.Walks.{joined, same_side}
use Rattle.snap_faithful.specs.StagedFacts.{all_ups, HasStagedMeaning}
use Rattle.snap_faithful.proofs.StagedNodes.{IsOne, own_node, state_owner, stage_owners, asks_fields}
use Rattle.snap_rows.specs.Laws.{AgreeAt}
use Rattle.snap_faithful.proofs.StagedHolding.{updates_hold, updates_far, upto, upto_next, upto_all}

-- what the copy's head says of the walk on the arrays m: they are still so, or the stages before have been done
pub data Ahead (t : Tables) (k : List ℕ) (m : Arrays) : ℕ → Head → Arrays → Type 0 where
  at_walk : {w n : ℕ} → Comes t k is_test m 0 n → Ahead t k m w (Walk n) m
  at_stage : {w n i : ℕ} {ss : List LeafStage} {os : List Parts} → Comes t k is_test m 0 n → node_of t n ≡ Some (Leaf ss os) → Ahead t k m w (Stage n i) (upto m k ss i)

-- the outcome's packets, and its arrays wherever one stands
pub record IsOver (t : Tables) (o : Meaning) (set : PacketSet) (a : Arrays) : Type 0 where
  pub packets : o.packets ≡ set
  pub arrays : (q : Place) → a q ≡ o.arrays q

abbrev pub CopyDoes : Tables → List ℕ → Arrays → Meaning → ℕ → Arrays → Arrays → Action → Type 0
CopyDoes t k m o w a s' d = Does t (owner_of t) (Ahead t k m) (IsOver t o) w a s' d

module _ (t : Tables) (one : IsOne t) (k : List ℕ) where
  -- a test row at w goes by the arrays of w as by m
  pub same_way : (w n : ℕ) (b : Row) (s m : Arrays) → row_at t w n ≡ Some b → is_test b ≡ true → AgreeAt t w s m → side b s k ≡ side b m k
  same_way w n (Field test y z) s m row e held = same_side _ _ y z (field_passes s m k test (asks_fields t one n (Field test y z) (own_node t one w n (Field test y z) row refl)))
  same_way w n (State test y z) s m row e held = same_side _ _ y z (by test (state_owner t one w n y z test row))
    where
      by : (test : Test) → owner_of t (var_of test) ≡ Some w → passes test s k ≡ passes test m k
      by (Value c v) own = refl
      by (Equal a b v) own = refl
      by (StateTest v es x) own = ap (λ y. nat_eq y (term_value x k)) (held (place_at v es k) own)
  same_way w n (Go x) s m row e held = absurd (both_ways _ refl e)
  same_way w n (Leaf ss os) s m row e held = absurd (both_ways _ refl e)
  same_way w n Stop s m row e held = absurd (both_ways _ refl e)
  same_way w n (Last us os) s m row e held = absurd (both_ways _ refl e)

  -- only tests have sides
  pub asks_test : (b : Row) (s : Arrays) (x : ℕ) → side b s k ≡ Some x → is_test b ≡ true
  asks_test (Field test y z) s x e = refl
  asks_test (State test y z) s x e = refl
  asks_test (Go y) s x e = absurd (let f : None ≡ Some x = e in cc)
  asks_test (Leaf ss os) s x e = absurd (let f : None ≡ Some x = e in cc)
  asks_test Stop s x e = absurd (let f : None ≡ Some x = e in cc)
  asks_test (Last us os) s x e = absurd (let f : None ≡ Some x = e in cc)

  pub test_is_node : (w n : ℕ) (b : Row) → row_at t w n ≡ Some b → is_test b ≡ true → node_of t n ≡ Some b
  test_is_node w n (Field test y z) row e = own_node t one w n (Field test y z) row refl
  test_is_node w n (State test y z) row e = own_node t one w n (State test y z) row refl
  test_is_node w n (Go x) row e = absurd (both_ways _ refl e)
  test_is_node w n (Leaf ss os) row e = absurd (both_ways _ refl e)
  test_is_node w n Stop row e = absurd (both_ways _ refl e)
  test_is_node w n (Last us os) row e = absurd (both_ways _ refl e)

  same_leaf : (n : ℕ) (ss ss' : List LeafStage) (os os' : List Parts) → node_of t n ≡ Some (Leaf ss os) → node_of t n ≡ Some (Leaf ss' os') → (ss ≡ ss') × (os ≡ os')
  same_leaf n ss ss' os os' e f = let g : Leaf ss os ≡ Leaf ss' os' = same_Some _ _ (sym e ∙ f) in (cc, cc)

  module _ (p : Pol) (c : ℕ) (meaning : HasStagedMeaning p c t) (m : Arrays) (o : Meaning) (store : IsStore m) (packet : IsPacket c k) (outcome : eval p m k ≡ Some o) where
    walked_on : {n x : ℕ} (w : ℕ) (b : Row) (s : Arrays) → row_at t w n ≡ Some b → side b s k ≡ Some x → AgreeAt t w s m → Comes t k is_test m 0 n → Comes t k is_test m 0 x
    walked_on {n = n} {x = x} w b s row way held walk =
        let test = asks_test b s x way in
        joined t k is_test m walk (on (test_is_node w n b row test) test (sym (same_way w n b s m row test held) ∙ way) here)

    over : (n : ℕ) (ss : List LeafStage) (os : List Parts) (a : Arrays) → Comes t k is_test m 0 n → node_of t n ≡ Some (Leaf ss os) → a ≡ updates m (all_ups ss) k → IsOver t o (results os k) a
    over n ss os a walk node e =
        let means = meaning m k store packet n ss os walk node o outcome in
        record { packets = means.0; arrays = λ q. (λ i. e i q) ∙ sym (means.1 q) }

    -- ---- at a stage
    pub stage_does : {w n i : ℕ} {ss : List LeafStage} {os : List Parts} {s s' a0 : Arrays} {d : Action} → Comes t k is_test m 0 n → node_of t n ≡ Some (Leaf ss os)
        → AgreeAt t w s (upto m k ss i) → OthersOf (owner_of t) w a0 (upto m k ss i) → Handles t w k s (Stage n i) s' d → CopyDoes t k m o w a0 s' d
    stage_does walk node held far (passes_on row found away) = sends (at_stage walk node) held far
    stage_does {w = w} {n = n} {i = i} {ss = ss} {os = os} {s = s} {a0 = a0} walk node held far (goes_on {s = turn} {ss = ss'} {os = os'} row found own more rest) =
        let same = same_leaf n ss' ss os' os (own_node t one w n (Leaf ss' os') row refl) node in
        let found' = subst (λ l. slice_get l i ≡ Some turn) same.0 found in
        let at = subst (λ x. All (λ (u : Update). owner_of t u.var ≡ Some x) turn.ups) own (stage_owners t one w n i ss' os' turn row found) in
        let after = upto_next m k ss i turn found' in
        stage_does walk node
        (subst (AgreeAt t w (updates s turn.ups k)) after (updates_hold t w turn.ups s (upto m k ss i) k held))
        (subst (OthersOf (owner_of t) w a0) after (λ x ne q out. updates_far t w turn.ups (upto m k ss i) k at x ne q out ∙ far x ne q out))
        rest
    stage_does {w = w} {n = n} {i = i} {ss = ss} {os = os} {s = s} {a0 = a0} walk node held far (completes {s = turn} {ss = ss'} {os = os'} row found own last) =
        let same = same_leaf n ss' ss os' os (own_node t one w n (Leaf ss' os') row refl) node in
        let found' = subst (λ l. slice_get l i ≡ Some turn) same.0 found in
        let at = subst (λ x. All (λ (u : Update). owner_of t u.var ≡ Some x) turn.ups) own (stage_owners t one w n i ss' os' turn row found) in
        let after = upto_next m k ss i turn found' ∙ upto_all m k ss (i + 1) (last ∙ ap length same.0) in
        subst (λ l. CopyDoes t k m o w a0 (updates s turn.ups k) (Fork (sent_of t (results l k)) (lost_of t (results l k)))) (sym same.1)
        (splits (over n ss os (updates (upto m k ss i) turn.ups k) walk node after)
        (updates_hold t w turn.ups s (upto m k ss i) k held)
        (λ x ne q out. updates_far t w turn.ups (upto m k ss i) k at x ne q out ∙ far x ne q out))

    -- ---- at a number
    pub walk_does : {w n : ℕ} {s s' : Arrays} {d : Action} → Comes t k is_test m 0 n → AgreeAt t w s m → Handles t w k s (Walk n) s' d → CopyDoes t k m o w m s' d
    walk_does {w = w} {s = s} walk held (asks {b = b} version row way rest) = walk_does (walked_on w b s row way held walk) held rest
    walk_does walk held (goes row) = sends (at_walk walk) held (λ x ne q own. refl)
    walk_does {w = w} {n = n} walk held (forks {os = os} row) = splits (over n [] os m walk (own_node t one w n (Leaf [] os) row refl) refl) held (λ x ne q own. refl)
    walk_does {w = w} {n = n} walk held (begins {s = turn} {ss = ss} {os = os} row rest) =
        stage_does {ss = turn ∷ ss} {os = os} walk (own_node t one w n (Leaf (turn ∷ ss) os) row refl) held (λ x ne q own. refl) rest
    walk_does walk held (enters version some follow rest) = absurd (let a = one.version in omega (arith, version, a))
    walk_does walk held (enters_last version none follow row) = absurd (let a = one.version in omega (arith, version, a))

    pub ahead_does : {w : ℕ} {head : Head} {s s' a : Arrays} {d : Action} → Ahead t k m w head a → AgreeAt t w s a → Handles t w k s head s' d → CopyDoes t k m o w a s' d
    ahead_does (at_walk walk) held does = walk_does walk held does
    ahead_does (at_stage walk node) held does = stage_does walk node held (λ x ne q own. refl) does

    -- the way of a packet through staged tables
    abbrev pub staged : Way t (owner_of t) k
    staged = record { Ahead = Ahead t k m; IsOver = IsOver t o; does = ahead_does }

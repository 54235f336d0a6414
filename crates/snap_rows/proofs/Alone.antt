-- Where chains stand, and when they are single-owner.
use Rattle.std.proofs.Common.{◌≡◌, ◌≢◌, ℕ, zero, suc, ◌<◌, Bool, true, false, List, [], ◌∷◌, map, length, Some, refl, sym, ap, subst, ◌∙◌, arith, inl, inr, ⊎_elim, ◌⊎◌}
use Rattle.std.specs.Prelude.{◌==◌, if◌then◌else◌, slice_index_or, Contains}
use Rattle.std.proofs.lemmas.Bool.{eqb-true, eq-eqb, false≢true}
use Rattle.snap_core.specs.declared.policy.Test.{Test}
use Rattle.snap_rows.specs.declared.rules.alone.Standing.{Standing}
use Rattle.snap_rows.specs.declared.rules.alone.Standing.TheVariants.{Nowhere, At, Apart}
use Rattle.snap_rows.specs.declared.tables.Tables.{Tables}
use Rattle.snap_rows.specs.declared.tables.Row.TheVariants.{Field, State, Leaf}
use Rattle.snap_rows.specs.declared.tables.Stage.{Stage as LeafStage}
use Rattle.snap_rows.specs.Entries.{Parts, node_of, owner_of, var_of}
use Rattle.snap_rows.specs.Form.{Alternate}
use Rattle.snap_rows.specs.SingleOwner.{Chain, field, state, leaf, IsSingleOwnerFrom}
use Rattle.snap_rows.specs.Standing.{StandsAt, AreSo, beside, both, of_stages}
use Rattle.std.proofs.lemmas.Option.{same_Some}
use Rattle.snap_core.proofs.Members.{Contains-here, Contains-later}

-- ---- members
Contains-cases : (x y : ℕ) (xs : List ℕ) → Contains (y ∷ xs) x → (x ≡ y) ⊎ Contains xs x
Contains-cases x y xs h = by h.0 h.1 h.2
  where
    by : (k : ℕ) → k < length (y ∷ xs) → slice_index_or (y ∷ xs) k x ≡ x → (x ≡ y) ⊎ Contains xs x
    by zero within e = inl (sym e)
    by (suc k) within e = inr (k, (let h : suc k < suc (length xs) = within in omega arith), e)

-- ---- sets of switches
so_same : (P R : ℕ → Type 0) (s : Standing) → ((w : ℕ) → R w → P w) → ((w : ℕ) → P w → R w) → AreSo P s → AreSo R s
so_same P R Nowhere from to none = λ w r. none w (from w r)
so_same P R (At w) from to one = (to w one.0, λ v r. one.1 v (from v r))
so_same P R Apart from to two = (two.0, two.1, two.2, to two.0 two.3, to two.1 two.4)

beside_so : (w : ℕ) (Q R : ℕ → Type 0) (s : Standing) → R w → ((v : ℕ) → R v → (v ≡ w) ⊎ Q v) → ((v : ℕ) → Q v → R v) → AreSo Q s → AreSo R (beside w s)
beside_so w Q R Nowhere here from to none = (here, λ v r. ⊎_elim (λ e. e) (λ q. absurd (none v q)) (from v r))
beside_so w Q R (At v) here from to one = by (w == v) refl
  where
    by : (c : Bool) → (w == v) ≡ c → AreSo R (if c then At w else Apart)
    by true e = (here, λ u r. ⊎_elim (λ same. same) (λ q. one.1 u q ∙ sym (eqb-true w v e)) (from u r))
    by false e = (w, v, (λ same. false≢true (sym e ∙ eq-eqb w v same)), here, to v one.0)
beside_so w Q R Apart here from to two = (two.0, two.1, two.2, to two.0 two.3, to two.1 two.4)

both_so : (P Q R : ℕ → Type 0) (a b : Standing) → ((w : ℕ) → R w → P w ⊎ Q w) → ((w : ℕ) → P w ⊎ Q w → R w) → AreSo P a → AreSo Q b → AreSo R (both a b)
both_so P Q R Nowhere b from to none q = so_same Q R b (λ w r. ⊎_elim (λ p. absurd (none w p)) (λ h. h) (from w r)) (λ w h. to w (inr h)) q
both_so P Q R (At w) b from to one q = beside_so w Q R b (to w (inl one.0)) (λ v r. ⊎_elim (λ p. inl (one.1 v p)) (λ h. inr h) (from v r)) (λ v h. to v (inr h)) q
both_so P Q R Apart b from to two q = (two.0, two.1, two.2, to two.0 (inl two.3), to two.1 (inl two.4))

-- ---- chains from a number whose node is known
pub from_field : (t : Tables) (n y z : ℕ) (test : Test) (ws : List ℕ) → node_of t n ≡ Some (Field test y z) → Chain t n ws → Chain t y ws ⊎ Chain t z ws
from_field t n y z test ws node (field {y = y'} {z = z'} {test = test'} node' way c) =
    let same : Field test' y' z' ≡ Field test y z = same_Some _ _ (sym node' ∙ node) in
    let yes : y' ≡ y = cc in
    let else' : z' ≡ z = cc in
    ⊎_elim (λ e. inl (subst (λ x. Chain t x ws) (e ∙ yes) c)) (λ e. inr (subst (λ x. Chain t x ws) (e ∙ else') c)) way
from_field t n y z test ws node (state {y = y'} {z = z'} {test = test'} node' own way c) =
    let e : Some (State test' y' z') ≡ Some (Field test y z) = sym node' ∙ node in absurd (cc)
from_field t n y z test ws node (leaf {ss = ss} {os = os} node') =
    let e : Some (Leaf ss os) ≡ Some (Field test y z) = sym node' ∙ node in absurd (cc)

pub record AfterState (t : Tables) (w y z : ℕ) (ws : List ℕ) : Type 0 where
  pub rest : List ℕ
  pub is : ws ≡ w ∷ rest
  pub chain : Chain t y rest ⊎ Chain t z rest

pub from_state : (t : Tables) (n w y z : ℕ) (test : Test) (ws : List ℕ) → node_of t n ≡ Some (State test y z) → owner_of t (var_of test) ≡ Some w → Chain t n ws → AfterState t w y z ws
from_state t n w y z test ws node own (state {y = y'} {z = z'} {w = w'} {test = test'} {ws = vs} node' own' way c) =
    let same : State test' y' z' ≡ State test y z = same_Some _ _ (sym node' ∙ node) in
    let yes : y' ≡ y = cc in
    let else' : z' ≡ z = cc in
    let asked : test' ≡ test = cc in
    let at : w' ≡ w = same_Some _ _ (sym own' ∙ ap (λ (test : Test). owner_of t (var_of test)) asked ∙ own) in
    record {
      rest = vs;
      is = ap (λ w. w ∷ vs) at;
      chain = ⊎_elim (λ e. inl (subst (λ x. Chain t x vs) (e ∙ yes) c)) (λ e. inr (subst (λ x. Chain t x vs) (e ∙ else') c)) way;
    }
from_state t n w y z test ws node own (field {y = y'} {z = z'} {test = test'} node' way c) =
    let e : Some (Field test' y' z') ≡ Some (State test y z) = sym node' ∙ node in absurd (cc)
from_state t n w y z test ws node own (leaf {ss = ss} {os = os} node') =
    let e : Some (Leaf ss os) ≡ Some (State test y z) = sym node' ∙ node in absurd (cc)

pub from_leaf : (t : Tables) (n : ℕ) (ss : List LeafStage) (os : List Parts) (ws : List ℕ) → node_of t n ≡ Some (Leaf ss os) → Chain t n ws → ws ≡ map (λ (s : LeafStage). s.at) ss
from_leaf t n ss os ws node (leaf {ss = ss'} {os = os'} node') =
    let same : Leaf ss' os' ≡ Leaf ss os = same_Some _ _ (sym node' ∙ node) in
    let stages : ss' ≡ ss = cc in
    ap (map (λ (s : LeafStage). s.at)) stages
from_leaf t n ss os ws node (field {y = y'} {z = z'} {test = test'} node' way c) =
    let e : Some (Field test' y' z') ≡ Some (Leaf ss os) = sym node' ∙ node in absurd (cc)
from_leaf t n ss os ws node (state {y = y'} {z = z'} {test = test'} node' own way c) =
    let e : Some (State test' y' z') ≡ Some (Leaf ss os) = sym node' ∙ node in absurd (cc)

-- ---- where chains from a number stand, by where those after it do
pub field_so : (t : Tables) (n y z : ℕ) (test : Test) (a b : Standing) → node_of t n ≡ Some (Field test y z) → AreSo (StandsAt t y) a → AreSo (StandsAt t z) b → AreSo (StandsAt t n) (both a b)
field_so t n y z test a b node = both_so (StandsAt t y) (StandsAt t z) (StandsAt t n) a b from to
  where
    from : (w : ℕ) → StandsAt t n w → StandsAt t y w ⊎ StandsAt t z w
    from w s = ⊎_elim (λ c. inl (s.0, c, s.2)) (λ c. inr (s.0, c, s.2)) (from_field t n y z test s.0 node s.1)

    to : (w : ℕ) → StandsAt t y w ⊎ StandsAt t z w → StandsAt t n w
    to w s = ⊎_elim (λ p. (p.0, field node (inl refl) p.1, p.2)) (λ p. (p.0, field node (inr refl) p.1, p.2)) s

pub state_so : (t : Tables) (n w y z : ℕ) (test : Test) (a b : Standing) → node_of t n ≡ Some (State test y z) → owner_of t (var_of test) ≡ Some w → (us : List ℕ) → Chain t y us → AreSo (StandsAt t y) a → AreSo (StandsAt t z) b
    → AreSo (StandsAt t n) (beside w (both a b))
state_so t n w y z test a b node own us chain p q =
    let after : ℕ → Type 0 = λ v. StandsAt t y v ⊎ StandsAt t z v in
    beside_so w after (StandsAt t n) (both a b) (w ∷ us, state node own (inl refl) chain, Contains-here w us) from to (both_so (StandsAt t y) (StandsAt t z) after a b (λ v h. h) (λ v h. h) p q)
  where
    from : (v : ℕ) → StandsAt t n v → (v ≡ w) ⊎ (StandsAt t y v ⊎ StandsAt t z v)
    from v s =
        let f = from_state t n w y z test s.0 node own s.1 in
        ⊎_elim (λ e. inl e) (λ h. inr (⊎_elim (λ c. inl (f.rest, c, h)) (λ c. inr (f.rest, c, h)) f.chain)) (Contains-cases v w f.rest (subst (λ ws. Contains ws v) f.is s.2))

    to : (v : ℕ) → StandsAt t y v ⊎ StandsAt t z v → StandsAt t n v
    to v s = ⊎_elim
        (λ p. (w ∷ p.0, state node own (inl refl) p.1, Contains-later v w p.0 p.2))
        (λ p. (w ∷ p.0, state node own (inr refl) p.1, Contains-later v w p.0 p.2))
        s

pub leaf_so : (t : Tables) (n : ℕ) (ss : List LeafStage) (os : List Parts) → node_of t n ≡ Some (Leaf ss os) → Alternate ss → AreSo (StandsAt t n) (of_stages ss)
leaf_so t n [] os node turns = λ w s. let h = subst (λ ws. Contains ws w) (from_leaf t n [] os s.0 node s.1) s.2 in absurd (let below : h.0 < 0 = h.1 in omega arith)
leaf_so t n (s ∷ []) os node turns = (
  (s.at ∷ [], leaf node, Contains-here s.at []),
  λ v p. ⊎_elim (λ e. e) (λ h. absurd (let below : h.0 < 0 = h.1 in omega arith)) (Contains-cases v s.at [] (subst (λ ws. Contains ws v) (from_leaf t n (s ∷ []) os p.0 node p.1) p.2)),
)
leaf_so t n (s ∷ s' ∷ ss) os node turns =
    let ws = map (λ (s : LeafStage). s.at) ss in (
      s'.at,
      s.at,
      turns.0,
      (s.at ∷ s'.at ∷ ws, leaf node, Contains-later s'.at s.at (s'.at ∷ ws) (Contains-here s'.at ws)),
      (s.at ∷ s'.at ∷ ws, leaf node, Contains-here s.at (s'.at ∷ ws)),
    )

-- ---- single-owner chains
pub single_owner_from_so : (t : Tables) (n : ℕ) (s : Standing) → s ≢ Apart → AreSo (StandsAt t n) s → IsSingleOwnerFrom t n
single_owner_from_so t n Nowhere other none = λ ws c v w hv hw. absurd (none v (ws, c, hv))
single_owner_from_so t n (At u) other one = λ ws c v w hv hw. one.1 v (ws, c, hv) ∙ sym (one.1 w (ws, c, hw))
single_owner_from_so t n Apart other two = absurd (other refl)

pub field_single_owner : (t : Tables) (n y z : ℕ) (test : Test) → node_of t n ≡ Some (Field test y z) → IsSingleOwnerFrom t y → IsSingleOwnerFrom t z → IsSingleOwnerFrom t n
field_single_owner t n y z test node ly lz = λ ws c. ⊎_elim (λ c'. ly ws c') (λ c'. lz ws c') (from_field t n y z test ws node c)

-- each chain comes to the switch w
abbrev pub Share : Tables → ℕ → ℕ → Type 0
Share t n w = (ws : List ℕ) → Chain t n ws → Contains ws w

pub not_apart : (t : Tables) (n w : ℕ) → Share t n w → AreSo (StandsAt t n) Apart → IsSingleOwnerFrom t n → ⊥
not_apart t n w share two single_owner = two.2 (at two.0 two.3 ∙ sym (at two.1 two.4))
  where
    at : (v : ℕ) → StandsAt t n v → v ≡ w
    at v s = single_owner s.0 s.1 v w s.2 (share s.0 s.1)

pub state_share : (t : Tables) (n w y z : ℕ) (test : Test) → node_of t n ≡ Some (State test y z) → owner_of t (var_of test) ≡ Some w → Share t n w
state_share t n w y z test node own = λ ws c. let f = from_state t n w y z test ws node own c in subst (λ ws. Contains ws w) (sym f.is) (Contains-here w f.rest)

pub leaf_share : (t : Tables) (n : ℕ) (s : LeafStage) (ss : List LeafStage) (os : List Parts) → node_of t n ≡ Some (Leaf (s ∷ ss) os) → Share t n s.at
leaf_share t n s ss os node = λ ws c. subst (λ ws. Contains ws s.at) (sym (from_leaf t n (s ∷ ss) os ws node c)) (Contains-here s.at (map (λ (s : LeafStage). s.at) ss))

-- what comes after a state row is single-owner if all from it is
pub single_owner_after : (t : Tables) (n w x y z : ℕ) (test : Test) → node_of t n ≡ Some (State test y z) → owner_of t (var_of test) ≡ Some w → (x ≡ y) ⊎ (x ≡ z) → IsSingleOwnerFrom t n → IsSingleOwnerFrom t x
single_owner_after t n w x y z test node own way single_owner = λ ws c u v hu hv. single_owner (w ∷ ws) (state node own way c) u v (Contains-later u w ws hu) (Contains-later v w ws hv)

-- One number more: its own marks, and what it hands on.
use Rattle.std.proofs.Common.{◌≡◌, ◌≢◌, ℕ, zero, suc, ◌+◌, ◌<◌, ◌≤◌, inl, inr, ⊎_elim, Bool, true, false, List, [], ◌∷◌, map, length, Option, Some, None, replicate, slice_set, refl, sym, ap, subst, ◌∙◌, arith}
use Rattle.std.specs.Prelude.{nat_eq, slice_get, option_map, unwrap_or, ◌||◌, Contains}
use Rattle.std.specs.List.{list_any}
use Rattle.std.proofs.lemmas.Bool.{eqb-true, eqb-false, eq-eqb, ne_eqb, cond-true, cond-false, cases_lt, false≢true}
use Rattle.std.proofs.lemmas.List.{length-set, length-replicate}
use Rattle.std.proofs.lemmas.List.Elements.{All-contains}
use Rattle.std.proofs.lemmas.Option.{same_Some, slice_get_past}
use Rattle.snap_core.specs.declared.policy.Test.{Test}
use Rattle.snap_core.specs.declared.policy.Update.{Update}
use Rattle.snap_core.specs.declared.ports.PortAt.{PortAt}
use Rattle.snap_topology.specs.Tables.{Table, next_of}
use Rattle.snap_core.proofs.Members.{Contains-here}
use Rattle.snap_topology.proofs.Joined.{Contains-nil, Contains-cons_cases, Contains-tail}
use Rattle.snap_rows.specs.declared.tables.Tables.{Tables}
use Rattle.snap_rows.specs.declared.tables.Row.{Row}
use Rattle.snap_rows.specs.declared.tables.Row.TheVariants.{Field, State, Go, Leaf, Stop, Last}
use Rattle.snap_rows.specs.declared.tables.Stage.{Stage as LeafStage}
use Rattle.snap_rows.specs.Entries.{Parts, var_of, next}
use Rattle.snap_rows.specs.Form.{switch_count}
use Rattle.snap_rows.specs.Ways.{here as arrived, Route, leg, LeadsTo}
use Rattle.snap_make.specs.declared.switches.Switches.{Switches}
use Rattle.snap_faithful.specs.Closed.{IsClosed}
use Rattle.snap_make.specs.Demands.{IsSetting, GoesAlong, IsPassed, marked, along, Settles, has_pair, IsHanded, AreWaysBelow, HandsOn, IsClosedAt, AreDemanded}
use Rattle.snap_faithful.specs.Derived.{IsWanted, at_port, onward}
use Rattle.snap_make.specs.Marks.{has_switch, IsMarked, IsBehind, next_one, later_one, IsOnWalk}
use Rattle.snap_faithful.specs.OnDemand.{stages_of, row_on, place_of, HasNodes}
use Rattle.snap_make.proofs.Walking.{none_behind, switches_of, place_low, near, on_walk_low, walk_legs, legs_walk, first_stage}

-- ---- one number's set
get_set_same : {X : Type 0} (xs : List X) (i : ℕ) (a x : X) → slice_get xs i ≡ Some x → slice_get (slice_set xs i a) i ≡ Some a
get_set_same [] i a x e = absurd (cc)
get_set_same (y ∷ xs) zero a x e = refl
get_set_same (y ∷ xs) (suc i) a x e = get_set_same xs i a x e

get_set_other : {X : Type 0} (xs : List X) (i k : ℕ) (a : X) → k ≢ i → slice_get (slice_set xs i a) k ≡ slice_get xs k
get_set_other [] i k a ne = refl
get_set_other (x ∷ xs) zero zero a ne = absurd (ne refl)
get_set_other (x ∷ xs) zero (suc k) a ne = refl
get_set_other (x ∷ xs) (suc i) zero a ne = refl
get_set_other (x ∷ xs) (suc i) (suc k) a ne = get_set_other xs i k a (λ e. ne (ap suc e))

abbrev there : ℕ → Option Switches → Bool
there w o = unwrap_or (option_map (λ s. has_switch s w) o) false

-- the ways of numbered nodes are numbers
pub ways_below : (t : Tables) (bodies : List Row) → HasNodes t (slice_get bodies) → (n : ℕ) (b : Row) → slice_get bodies n ≡ Some b → AreWaysBelow (length bodies) b
ways_below t bodies good n b node = by b node
  where
    low : (x : ℕ) → slice_get bodies x ≢ None → x < length bodies
    low x some = ⊎_elim (λ l. l) (λ past. absurd (some (slice_get_past bodies x past))) (cases_lt x (length bodies))

    by : (b : Row) → slice_get bodies n ≡ Some b → AreWaysBelow (length bodies) b
    by (Field test y z) node = (low y (good.ways n y (Field test y z) node (inl refl)).1, low z (good.ways n z (Field test y z) node (inr refl)).1)
    by (State test y z) node = (low y (good.ways n y (State test y z) node (inl refl)).1, low z (good.ways n z (State test y z) node (inr refl)).1)
    by (Last us os) node = tt
    by (Go x) node = tt
    by (Leaf ss os) node = tt
    by Stop node = tt

-- ---- ports
any_port : (ps : List PortAt) (v : ℕ) → list_any (λ (p : PortAt). nat_eq v p.at) ps ≡ true → (p : ℕ) × Contains ps (record { port = p; at = v })
any_port [] v e = absurd (false≢true e)
any_port (q ∷ ps) v e = by (nat_eq v q.at) refl e (any_port ps v)
  where
    by : (b : Bool) → nat_eq v q.at ≡ b → (b || list_any (λ (p : PortAt). nat_eq v p.at) ps) ≡ true
        → (list_any (λ (p : PortAt). nat_eq v p.at) ps ≡ true → (p : ℕ) × Contains ps (record { port = p; at = v })) → (p : ℕ) × Contains (q ∷ ps) (record { port = p; at = v })
    by true same f rest = (q.port, subst (λ x. Contains (q ∷ ps) (record { port = q.port; at = x })) (sym (eqb-true v q.at same)) (Contains-here q ps))
    by false other f rest = let r = rest f in (r.0, Contains-tail q ps (record { port = r.0; at = v }) r.1)

port_any : (ps : List PortAt) (p v : ℕ) → Contains ps (record { port = p; at = v }) → list_any (λ (p : PortAt). nat_eq v p.at) ps ≡ true
port_any [] p v c = absurd (Contains-nil _ c)
port_any (q ∷ ps) p v c = ⊎_elim
    (λ e. ap (λ b. b || list_any (λ (p : PortAt). nat_eq v p.at) ps) (eq-eqb v q.at (sym (ap (λ (x : PortAt). x.at) e))))
    (λ more. ap (λ b. nat_eq v q.at || b) (port_any ps p v more) ∙ or_last (nat_eq v q.at))
    (Contains-cons_cases q ps (record { port = p; at = v }) c)
  where
    or_last : (b : Bool) → (b || true) ≡ true
    or_last true = refl
    or_last false = refl

none_pair : (none : Switches) → ((v : ℕ) → has_switch none v ≡ false) → (many w n : ℕ) → has_pair (replicate many none) w n ≡ false
none_pair none is zero w n = refl
none_pair none is (suc many) w zero = is w
none_pair none is (suc many) w (suc n) = none_pair none is many w n

module _ (t : Tables) (routes : Table) (s : IsSetting t routes) (nodes : ℕ → Option Row) where
  -- the marks of the ports
  pub begun : (many : ℕ) → 0 < many → (none ports : Switches) → ((v : ℕ) → has_switch none v ≡ false) → ((v : ℕ) → has_switch ports v ≡ list_any (λ (p : PortAt). nat_eq v p.at) t.ports)
      → AreDemanded t nodes many 0 (slice_set (replicate many none) 0 ports)
  begun many some none ports empty are = record {
    wide = length-set (replicate many none) 0 ports ∙ length-replicate many none;
    low = λ w n m. (let p = port w n m in All-contains (λ (p : PortAt). p.at < switch_count t) t.ports (record { port = p.1.0; at = w }) s.ports p.1.1);
    sound = λ w n m. (let p = port w n m in subst (IsWanted t nodes w) (sym p.0) (at_port p.1.1));
    ports = λ p w c. first w ∙ are w ∙ port_any t.ports p w c;
    closed = λ n l. absurd (omega (arith, l));
  }
    where
      first : (w : ℕ) → has_pair (slice_set (replicate many none) 0 ports) w 0 ≡ has_switch ports w
      first w = by many some
        where
          by : (many : ℕ) → 0 < many → has_pair (slice_set (replicate many none) 0 ports) w 0 ≡ has_switch ports w
          by zero l = absurd (omega (arith, l))
          by (suc k) l = refl

      port : (w n : ℕ) → has_pair (slice_set (replicate many none) 0 ports) w n ≡ true → (n ≡ 0) × ((p : ℕ) × Contains t.ports (record { port = p; at = w }))
      port w n m = by (nat_eq n 0) refl
        where
          by : (b : Bool) → nat_eq n 0 ≡ b → (n ≡ 0) × ((p : ℕ) × Contains t.ports (record { port = p; at = w }))
          by true e =
              let zero_is = eqb-true n 0 e in
              (zero_is, any_port t.ports w (sym (are w) ∙ sym (first w) ∙ sym (ap (has_pair (slice_set (replicate many none) 0 ports) w) zero_is) ∙ m))
          by false e = absurd (false≢true (sym (ap (there w) (get_set_other (replicate many none) 0 n ports (eqb-false n 0 e)) ∙ none_pair none empty many w n) ∙ m))

  -- marks of all numbers are closed
  pub ended : (many : ℕ) (marks : List Switches) → ((n : ℕ) (b : Row) → nodes n ≡ Some b → n < many) → AreDemanded t nodes many many marks → IsClosed t nodes (has_pair marks)
  ended many marks low d = record {
    ports = d.ports;
    fields = λ w n y z test node m. (d.closed n (low n _ node)).fields w y z test node m;
    owners = λ w n y z test node at m. (d.closed n (low n _ node)).owners w y z test node at m;
    others = λ w n y z test node apart m. (d.closed n (low n _ node)).others w y z test node apart m;
    first = λ w n us os x xs node is ne m. (d.closed n (low n _ node)).first w us os x xs node is ne m;
    rest = λ w n us os x xs node is m ws route v inside. (d.closed n (low n _ node)).rest w us os x xs node is m ws route v inside;
  }

  module _ (good : HasNodes t nodes) where
    -- a wanted pair, at a switch
    abbrev Stands : ℕ → ℕ → Type 0
    Stands w n = (w < switch_count t) × IsWanted t nodes w n

    hop : (n y z : ℕ) (test : Test) → nodes n ≡ Some (State test y z) → (w : ℕ) → Stands w n → w ≢ place_of t (var_of test) → Stands (next_of routes w (place_of t (var_of test))) n
    hop n y z test node w h apart = (
      (near t routes s w (place_of t (var_of test)) h.0 low apart).0,
      subst (λ x. IsWanted t nodes x n) (s.hops w (place_of t (var_of test)) h.0 low apart)
          (onward h.1 node (subst (λ b. LeadsTo t w n b (next t w (place_of t (var_of test))) n) (sym go) (refl, refl))),
    )
      where
        low : place_of t (var_of test) < switch_count t
        low = place_low t routes s (var_of test)

        go : row_on (place_of t) w (State test y z) ≡ Go (place_of t (var_of test))
        go = cond-false _ _ _ (ne_eqb (place_of t (var_of test)) w (λ e. apart (sym e)))

    behind_wanted : (n y z : ℕ) (test : Test) → nodes n ≡ Some (State test y z) → {w v : ℕ} → Stands w n → IsBehind routes (place_of t (var_of test)) w v → Stands v n
    behind_wanted n y z test node {w = w} h (next_one apart) = hop n y z test node w h apart
    behind_wanted n y z test node {w = w} h (later_one apart more) = behind_wanted n y z test node (hop n y z test node w h apart) more

    walk_wanted : (n : ℕ) (us : List Update) (os : List Parts) → nodes n ≡ Some (Last us os) → {w v : ℕ} → Stands w n → IsOnWalk routes (place_of t) w us v → Stands v n
    walk_wanted n us os node {w = w} {v = v} h on =
        let legs = walk_legs t routes s us w h.0 v on in
        (on_walk_low t routes s us w h.0 v on, onward h.1 node (refl, (legs.0, legs.1, legs.2)))

    along_wanted : (n : ℕ) (b : Row) → nodes n ≡ Some b → {w v : ℕ} → Stands w n → GoesAlong routes (place_of t) b w v → Stands v n
    along_wanted n (Field test y z) node h g = absurd g
    along_wanted n (State test y z) node h g = behind_wanted n y z test node h g
    along_wanted n (Last us os) node h g = walk_wanted n us os node h g
    along_wanted n (Go x) node h g = absurd g
    along_wanted n (Leaf ss os) node h g = absurd g
    along_wanted n Stop node h g = absurd g

    passed_wanted : (n : ℕ) (b : Row) → nodes n ≡ Some b → (old : Switches) → ((v : ℕ) → IsMarked old v → Stands v n) → {v : ℕ} → IsPassed (GoesAlong routes (place_of t) b) old v → Stands v n
    passed_wanted n b node old all {v = v} (marked m) = all v m
    passed_wanted n b node old all (along before g) = along_wanted n b node (passed_wanted n b node old all before) g

    handed_wanted : (n : ℕ) (b : Row) → nodes n ≡ Some b → (own : Switches) → ((v : ℕ) → IsMarked own v → Stands v n) → (w k : ℕ) → IsHanded (place_of t) b own w k → Stands w k
    handed_wanted n (Field test y z) node own all w k h = let x = all w h.1 in (x.0, onward x.1 node (refl, h.0))
    handed_wanted n (State test y z) node own all w k h =
        let x = all w h.2 in
        let same : row_on (place_of t) w (State test y z) ≡ State test y z = cond-true _ _ _ (eq-eqb (place_of t (var_of test)) w (sym h.1)) in
        (x.0, onward x.1 node (subst (λ b. LeadsTo t w n b w k) (sym same) (inl (refl, h.0))))
    handed_wanted n (Last us os) node own all w k h = absurd h
    handed_wanted n (Go x) node own all w k h = absurd h
    handed_wanted n (Leaf ss os) node own all w k h = absurd h
    handed_wanted n Stop node own all w k h = absurd h

    handed_later : (n : ℕ) (b : Row) → nodes n ≡ Some b → (own : Switches) (w k : ℕ) → IsHanded (place_of t) b own w k → n < k
    handed_later n (Field test y z) node own w k h = (good.ways n k (Field test y z) node h.0).0
    handed_later n (State test y z) node own w k h = (good.ways n k (State test y z) node h.0).0
    handed_later n (Last us os) node own w k h = absurd h
    handed_later n (Go x) node own w k h = absurd h
    handed_later n (Leaf ss os) node own w k h = absurd h
    handed_later n Stop node own w k h = absurd h

    module _ (many n : ℕ) (b : Row) (node : nodes n ≡ Some b) (marks new : List Switches) (here own : Switches) (at : slice_get marks n ≡ Some here)
        (before : AreDemanded t nodes many n marks) (settles : Settles routes (GoesAlong routes (place_of t) b) here own) (hands : HandsOn (place_of t) b own (slice_set marks n own) new) where
      here_is : (w : ℕ) → has_pair marks w n ≡ has_switch here w
      here_is w = ap (there w) at

      mid_own : (w : ℕ) → has_pair (slice_set marks n own) w n ≡ has_switch own w
      mid_own w = ap (there w) (get_set_same marks n own here at)

      mid_other : (w k : ℕ) → k ≢ n → has_pair (slice_set marks n own) w k ≡ has_pair marks w k
      mid_other w k ne = ap (there w) (get_set_other marks n k own ne)

      own_stands : (v : ℕ) → IsMarked own v → Stands v n
      own_stands v m = passed_wanted n b node here (λ u x. (before.low u n (here_is u ∙ x), before.sound u n (here_is u ∙ x))) (settles.sound v m)

      kept : (w k : ℕ) → has_pair marks w k ≡ true → has_pair new w k ≡ true
      kept w k m = hands.kept w k (by (nat_eq k n) refl)
        where
          by : (b : Bool) → nat_eq k n ≡ b → has_pair (slice_set marks n own) w k ≡ true
          by true e =
              let same = eqb-true k n e in
              ap (has_pair (slice_set marks n own) w) same ∙ mid_own w ∙ settles.kept w (sym (here_is w) ∙ sym (ap (has_pair marks w) same) ∙ m)
          by false e = mid_other w k (eqb-false k n e) ∙ m

      mid_stands : (w k : ℕ) → has_pair (slice_set marks n own) w k ≡ true → Stands w k
      mid_stands w k m = by (nat_eq k n) refl
        where
          by : (b : Bool) → nat_eq k n ≡ b → Stands w k
          by true e =
              let same = eqb-true k n e in
              subst (Stands w) (sym same) (own_stands w (sym (mid_own w) ∙ sym (ap (has_pair (slice_set marks n own) w) same) ∙ m))
          by false e = let o = sym (mid_other w k (eqb-false k n e)) ∙ m in (before.low w k o, before.sound w k o)

      new_stands : (w k : ℕ) → has_pair new w k ≡ true → Stands w k
      new_stands w k m = ⊎_elim (λ x. mid_stands w k x) (λ h. handed_wanted n b node own own_stands w k h) (hands.sound w k m)

      back : (w k : ℕ) → k ≤ n → has_pair new w k ≡ true → has_pair (slice_set marks n own) w k ≡ true
      back w k l m = ⊎_elim (λ x. x) (λ h. absurd (let later = handed_later n b node own w k h in omega (arith, later, l))) (hands.sound w k m)

      closed_below : (k : ℕ) → k < n → IsClosedAt t nodes (has_pair new) k
      closed_below k l = record {
        fields = λ w y z test nd m. (let r = c.fields w y z test nd (down w m) in (kept w y r.0, kept w z r.1));
        owners = λ w y z test nd own m. (let r = c.owners w y z test nd own (down w m) in (kept w y r.0, kept w z r.1));
        others = λ w y z test nd apart m. kept _ k (c.others w y z test nd apart (down w m));
        first = λ w us os x xs nd is ne m. kept _ k (c.first w us os x xs nd is ne (down w m));
        rest = λ w us os x xs nd is m ws route v inside. kept v k (c.rest w us os x xs nd is (down w m) ws route v inside);
      }
        where
          c : IsClosedAt t nodes (has_pair marks) k
          c = before.closed k l

          down : (w : ℕ) → has_pair new w k ≡ true → has_pair marks w k ≡ true
          down w m = sym (mid_other w k (λ e. omega (arith, e, l))) ∙ back w k (omega (arith, l)) m

      own_of : (w : ℕ) → has_pair new w n ≡ true → IsMarked own w
      own_of w m = sym (mid_own w) ∙ back w n (omega arith) m

      to_new : (w : ℕ) → IsMarked own w → has_pair new w n ≡ true
      to_new w m = hands.kept w n (mid_own w ∙ m)

      -- what goes along from a marked switch is marked
      passed : (c : Row) → nodes n ≡ Some c → (w v : ℕ) → has_pair new w n ≡ true → GoesAlong routes (place_of t) c w v → has_pair new v n ≡ true
      passed c nd w v m g =
          let o = own_of w m in
          let e : c ≡ b = same_Some c b (sym nd ∙ node) in
          let low = (own_stands w o).0 in
          to_new v (settles.closed w v (subst (λ x. w < x) (sym s.count) low) o (subst (λ r. GoesAlong routes (place_of t) r w v) e g))

      ways : (c : Row) → nodes n ≡ Some c → (w k : ℕ) → IsHanded (place_of t) c own w k → has_pair new w k ≡ true
      ways c nd w k h = hands.whole w k (subst (λ r. IsHanded (place_of t) r own w k) (same_Some c b (sym nd ∙ node)) h)

      leaf_first : (w : ℕ) (us : List Update) (os : List Parts) (x : LeafStage) (xs : List LeafStage) → nodes n ≡ Some (Last us os) → stages_of (place_of t) us ≡ x ∷ xs → w ≢ x.at → has_pair new w n ≡ true → has_pair new (next t w x.at) n ≡ true
      leaf_first w [] os x xs nd is ne m = absurd (let e : 0 ≡ suc (length xs) = ap length is in omega (arith, e))
      leaf_first w (u ∷ us) os x xs nd is ne m =
          let e : x.at ≡ place_of t u.var = first_stage (place_of t) u us x xs is in
          let apart : w ≢ place_of t u.var = λ f. ne (f ∙ sym e) in
          let low = (own_stands w (own_of w m)).0 in
          let hop_is : next t w x.at ≡ next_of routes w (place_of t u.var) = ap (next t w) e ∙ s.hops w (place_of t u.var) low (place_low t routes s u.var) apart in
          subst (λ y. has_pair new y n ≡ true) (sym hop_is) (passed (Last (u ∷ us) os) nd w (next_of routes w (place_of t u.var)) m (inl (next_one apart)))

      leaf_rest : (w : ℕ) (us : List Update) (os : List Parts) (x : LeafStage) (xs : List LeafStage) → nodes n ≡ Some (Last us os) → stages_of (place_of t) us ≡ x ∷ xs → has_pair new w n ≡ true
          → (ws : List ℕ) → Route t x.at (map (λ (u : LeafStage). u.at) xs) ws → (v : ℕ) → Contains ws v → has_pair new v n ≡ true
      leaf_rest w [] os x xs nd is m ws route v inside = absurd (let e : 0 ≡ suc (length xs) = ap length is in omega (arith, e))
      leaf_rest w (u ∷ us) os x xs nd is m ws route v inside = by (legs_walk t routes s (u ∷ us) x.at low ws (subst (λ l. Route t x.at (switches_of l) ws) (sym is) (leg arrived route)) v inside)
        where
          e : x.at ≡ place_of t u.var
          e = first_stage (place_of t) u us x xs is

          low : x.at < switch_count t
          low = subst (λ y. y < switch_count t) (sym e) (place_low t routes s u.var)

          by : IsOnWalk routes (place_of t) x.at (u ∷ us) v → has_pair new v n ≡ true
          by (inl b) = absurd (none_behind (subst (λ y. IsBehind routes (place_of t u.var) y v) e b))
          by (inr h) = passed (Last (u ∷ us) os) nd w v m (inr h)

      closed_here : IsClosedAt t nodes (has_pair new) n
      closed_here = record {
        fields = λ w y z test nd m. (ways (Field test y z) nd w y (inl refl, own_of w m), ways (Field test y z) nd w z (inr refl, own_of w m));
        owners = λ w y z test nd is m. (ways (State test y z) nd w y (inl refl, sym is, own_of w m), ways (State test y z) nd w z (inr refl, sym is, own_of w m));
        others = λ w y z test nd apart m.
            (let other : w ≢ place_of t (var_of test) = λ e. apart (sym e) in
            let low = (own_stands w (own_of w m)).0 in
            subst (λ x. has_pair new x n ≡ true) (sym (s.hops w (place_of t (var_of test)) low (place_low t routes s (var_of test)) other))
            (passed (State test y z) nd w (next_of routes w (place_of t (var_of test))) m (next_one other)));
        first = leaf_first;
        rest = leaf_rest;
      }

      pub turn : AreDemanded t nodes many (n + 1) new
      turn = record {
        wide = hands.wide ∙ length-set marks n own ∙ before.wide;
        low = λ w k m. (new_stands w k m).0;
        sound = λ w k m. (new_stands w k m).1;
        ports = λ p w c. kept w 0 (before.ports p w c);
        closed = λ k l. by k l (nat_eq k n) refl;
      }
        where
          by : (k : ℕ) → k < n + 1 → (b : Bool) → nat_eq k n ≡ b → IsClosedAt t nodes (has_pair new) k
          by k l true e = subst (IsClosedAt t nodes (has_pair new)) (sym (eqb-true k n e)) closed_here
          by k l false e = closed_below k (let ne = eqb-false k n e in omega (arith, l, ne))

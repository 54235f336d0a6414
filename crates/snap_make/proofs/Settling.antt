-- Sets of switches with all through which packets come from them.
use Rattle.std.proofs.Common.{◌≡◌, ◌≢◌, ℕ, zero, suc, ◌+◌, ◌<◌, ◌≤◌, ◌⊎◌, inl, inr, ⊎_elim, Bool, true, false, List, [], ◌∷◌, length, get_or, drop, refl, sym, ap, subst, ◌∙◌, arith}
use Rattle.std.specs.Prelude.{nat_eq, ◌||◌}
use Rattle.std.specs.List.{list_any}
use Rattle.std.proofs.Math.ListN.{drop_of_length-le}
use Rattle.std.proofs.Math.Seq.{drop-cons}
use Rattle.std.proofs.lemmas.List.{get_or_default}
use Rattle.std.proofs.lemmas.Bool.{eqb-true, eqb-false, false≢true}
use Rattle.snap_core.specs.declared.policy.Update.{Update}
use Rattle.snap_core.specs.declared.ports.PortAt.{PortAt}
use Rattle.snap_topology.specs.Tables as route
use Rattle.snap_topology.specs.Tables.{Table, distance_of, next_of}
use Rattle.snap_rows.specs.declared.tables.Tables.{Tables}
use Rattle.snap_rows.specs.Form.{switch_count}
use Rattle.snap_make.specs.declared.switches.Switches.{Switches}
use Rattle.snap_make.specs.Demands.{IsSetting, IsPassed, marked, along, Settles}
use Rattle.snap_make.specs.Marks.{has_switch, IsMarked, IsBehind, next_one, later_one, IsOnWalk, MarksLine, MarksWays, MarksWalk, WalksSoFar}
use Rattle.snap_faithful.specs.OnDemand.{place_of}
use Rattle.snap_make.proofs.Walking.{none_behind, place_low, near}

-- the element at a place, and what is behind it
pub drop_more : {X : Type 0} (xs : List X) (i : ℕ) (x : X) → i < length xs → x ≡ get_or xs i x → drop i xs ≡ x ∷ drop (i + 1) xs
drop_more xs i x low is = drop-cons xs i x low ∙ ap (λ y. y ∷ drop (suc i) xs) (sym is) ∙ ap (λ k. x ∷ drop k xs) (let e : suc i ≡ i + 1 = omega arith in e)

-- ---- the ports, one more
module _ (v : ℕ) where
  abbrev Is : PortAt → Bool
  Is p = nat_eq v p.at

  pub ports_more : (ps : List PortAt) (i : ℕ) (old new : Bool) → i < length ps → list_any Is ps ≡ (old || list_any Is (drop i ps)) → new ≡ (nat_eq v (get_or ps i (record { port = 0; at = 0 })).at || old)
      → list_any Is ps ≡ (new || list_any Is (drop (i + 1) ps))
  ports_more ps i old new low so_far more =
      so_far ∙ ap (λ l. old || list_any Is l) (drop_more ps i (get_or ps i (record { port = 0; at = 0 })) low (get_or_default ps i (record { port = 0; at = 0 }) _ low))
      ∙ turned old (nat_eq v (get_or ps i (record { port = 0; at = 0 })).at) (list_any Is (drop (i + 1) ps)) ∙ ap (λ b. b || list_any Is (drop (i + 1) ps)) (sym more)
    where
      turned : (a b c : Bool) → (a || (b || c)) ≡ ((b || a) || c)
      turned true true c = refl
      turned true false c = refl
      turned false true c = refl
      turned false false c = refl

  pub ports_all : (ps : List PortAt) (i : ℕ) (new : Bool) → length ps ≤ i → list_any Is ps ≡ (new || list_any Is (drop i ps)) → new ≡ list_any Is ps
  ports_all ps i new all so_far = sym (so_far ∙ ap (λ l. new || list_any Is l) (drop_of_length-le ps all) ∙ last new)
    where
      last : (b : Bool) → (b || false) ≡ b
      last true = refl
      last false = refl

-- ---- the walk, one update more
pub walk_begins : (routes : Table) (place : ℕ → ℕ) (from : ℕ) (us : List Update) (old : Switches) → from < route.switch_count routes → WalksSoFar routes place from us from us old old
walk_begins routes place from us old low = record { low = low; kept = λ v m. m; sound = λ v m. inl m; inside = λ v h. h; whole = λ v h. inr h }

module _ (routes : Table) (place : ℕ → ℕ) (from : ℕ) (us : List Update) (at : ℕ) (left : List Update) (old mid : Switches) (so_far : WalksSoFar routes place from us at left old mid) where
  pub walk_on : (u : Update) (rest : List Update) (to : ℕ) (new : Switches) → left ≡ u ∷ rest → to ≡ place u.var → to < route.switch_count routes → MarksLine routes to at mid new
      → WalksSoFar routes place from us to rest old new
  walk_on u rest to new is same low line = record {
    low = low;
    kept = λ v m. line.kept v (so_far.kept v m);
    sound = λ v m. ⊎_elim (λ b. so_far.sound v b) (λ b. inr (so_far.inside v (back v (inl (subst (λ x. IsBehind routes x at v) same b))))) (line.sound v m);
    inside = λ v h. so_far.inside v (back v (inr (subst (λ x. IsOnWalk routes place x rest v) same h)));
    whole = λ v h. ⊎_elim (λ m. inl (line.kept v m)) (λ x. by v (subst (λ l. IsOnWalk routes place at l v) is x)) (so_far.whole v h);
  }
    where
      back : (v : ℕ) → IsOnWalk routes place at (u ∷ rest) v → IsOnWalk routes place at left v
      back v h = subst (λ l. IsOnWalk routes place at l v) (sym is) h

      by : (v : ℕ) → IsOnWalk routes place at (u ∷ rest) v → IsMarked new v ⊎ IsOnWalk routes place to rest v
      by v (inl b) = inl (line.whole v (subst (λ x. IsBehind routes x at v) (sym same) b))
      by v (inr h) = inr (subst (λ x. IsOnWalk routes place x rest v) (sym same) h)

  pub walk_ends : left ≡ [] → MarksWalk routes place from us old mid
  walk_ends is = record {
    kept = so_far.kept;
    sound = so_far.sound;
    whole = λ v h. ⊎_elim (λ m. m) (λ x. absurd (subst (λ l. IsOnWalk routes place at l v) is x)) (so_far.whole v h);
  }

-- ---- nothing goes on
pub settled_still : (routes : Table) (goes : ℕ → ℕ → Type 0) → ((w v : ℕ) → goes w v → ⊥) → (old : Switches) → Settles routes goes old old
settled_still routes goes none old = record { kept = λ v m. m; sound = λ v m. marked m; closed = λ w v low m g. absurd (none w v g) }

pub settled_none : (routes : Table) (place : ℕ → ℕ) (us : List Update) → length us ≡ 0 → (old : Switches) → Settles routes (λ w v. IsOnWalk routes place w us v) old old
settled_none routes place [] e old = settled_still routes (λ w v. IsOnWalk routes place w [] v) (λ w v h. h) old
settled_none routes place (u ∷ us) e old = absurd (omega (arith, e))

module _ (t : Tables) (routes : Table) (s : IsSetting t routes) where
  pub place_routed : (v : ℕ) → place_of t v < route.switch_count routes
  place_routed v = subst (λ c. place_of t v < c) (sym s.count) (place_low t routes s v)

  pub place_small : (v : ℕ) → place_of t v < 256
  place_small v = let l = place_low t routes s v in let f = s.few in omega (arith, l, f)

  abbrev Hands : ℕ → Switches → Type 0
  Hands target new = (v : ℕ) → v < route.switch_count routes → IsMarked new v → (v ≡ target) ⊎ IsMarked new (next_of routes v target)

  routed : {w : ℕ} → w < switch_count t → w < route.switch_count routes
  routed {w = w} low = subst (λ c. w < c) (sym s.count) low

  unrouted : {w : ℕ} → w < route.switch_count routes → w < switch_count t
  unrouted {w = w} low = subst (λ c. w < c) s.count low

  handed : (target : ℕ) (new : Switches) → Hands target new → {w : ℕ} → w < switch_count t → IsMarked new w → w ≢ target → IsMarked new (next_of routes w target)
  handed target new hands {w = w} low m apart = ⊎_elim (λ e. absurd (apart e)) (λ x. x) (hands w (routed low) m)

  -- marks that each switch hands on are of all that is behind
  closed_behind : (target : ℕ) → target < switch_count t → (new : Switches) → Hands target new → {w v : ℕ} → w < switch_count t → IsMarked new w → IsBehind routes target w v → IsMarked new v
  closed_behind target lt new hands low m (next_one apart) = handed target new hands low m apart
  closed_behind target lt new hands {w = w} low m (later_one apart more) =
      closed_behind target lt new hands (near t routes s w target low lt apart).0 (handed target new hands low m apart) more

  -- and of the target
  reaches : (target : ℕ) → target < switch_count t → (new : Switches) → Hands target new → (fuel w : ℕ) → distance_of routes w target < fuel → w < switch_count t → IsMarked new w → (b : Bool) → nat_eq w target ≡ b → IsMarked new target
  reaches target lt new hands fuel w l low m true e = subst (IsMarked new) (eqb-true w target e) m
  reaches target lt new hands zero w l low m false e = absurd (omega (arith, l))
  reaches target lt new hands (suc fuel) w l low m false e =
      let apart = eqb-false w target e in
      let n = near t routes s w target low lt apart in
      reaches target lt new hands fuel (next_of routes w target) (let d = n.1 in omega (arith, d, l)) n.0 (handed target new hands low m apart) (nat_eq (next_of routes w target) target) refl

  pub state_settled : (target : ℕ) → target < switch_count t → (old new : Switches) → MarksWays routes target old new → Settles routes (IsBehind routes target) old new
  state_settled target lt old new r = record {
    kept = r.kept;
    sound = λ v m. ⊎_elim (λ o. marked o) (λ u. along (marked u.1) u.2) (r.sound v m);
    closed = λ w v low m b. closed_behind target lt new r.closed (unrouted low) m b;
  }

  module _ (u : Update) (us : List Update) (old come : Switches) (ways : MarksWays routes (place_of t u.var) old come) where
    abbrev first : ℕ
    first = place_of t u.var

    abbrev Goes : ℕ → ℕ → Type 0
    Goes w v = IsOnWalk routes (place_of t) w (u ∷ us) v

    come_sound : (v : ℕ) → IsMarked come v → IsPassed Goes old v
    come_sound v m = ⊎_elim (λ o. marked o) (λ x. along (marked x.1) (inl x.2)) (ways.sound v m)

    pub leaf_unmet : has_switch come first ≡ false → Settles routes Goes old come
    leaf_unmet none = record {
      kept = ways.kept;
      sound = come_sound;
      closed = λ w v low m g. absurd (false≢true (sym none ∙ reaches first (place_low t routes s u.var) come ways.closed (suc (distance_of routes w first)) w (omega arith) (unrouted low) m (nat_eq w first) refl));
    }

    module _ (met : IsMarked come first) (done new : Switches) (walk : MarksWalk routes (place_of t) first (u ∷ us) come done) (again : MarksWays routes first done new) where
      later : (v : ℕ) → IsOnWalk routes (place_of t) first (u ∷ us) v → IsPassed Goes old v
      later v (inl b) = absurd (none_behind b)
      later v (inr h) = along (come_sound first met) (inr h)

      done_sound : (v : ℕ) → IsMarked done v → IsPassed Goes old v
      done_sound v m = ⊎_elim (λ c. come_sound v c) (λ h. later v h) (walk.sound v m)

      all : (w v : ℕ) → w < route.switch_count routes → IsMarked new w → Goes w v → IsMarked new v
      all w v low m (inl b) = closed_behind first (place_low t routes s u.var) new again.closed (unrouted low) m b
      all w v low m (inr h) = again.kept v (walk.whole v (inr h))

      pub leaf_settled : Settles routes Goes old new
      leaf_settled = record {
        kept = λ v m. again.kept v (walk.kept v (ways.kept v m));
        sound = λ v m. ⊎_elim (λ d. done_sound v d) (λ x. along (done_sound x.0 x.1) (inl x.2)) (again.sound v m);
        closed = all;
      }

  -- the same, where the updates are named otherwise
  module _ (us : List Update) (u : Update) (rest : List Update) (is : us ≡ u ∷ rest) (first : ℕ) (at : first ≡ place_of t u.var) (old come : Switches) (ways : MarksWays routes first old come) where
    abbrev Along : ℕ → ℕ → Type 0
    Along w v = IsOnWalk routes (place_of t) w us v

    ways_at : MarksWays routes (place_of t u.var) old come
    ways_at = subst (λ f. MarksWays routes f old come) at ways

    pub leaf_far : has_switch come first ≡ false → Settles routes Along old come
    leaf_far none = subst (λ l. Settles routes (λ w v. IsOnWalk routes (place_of t) w l v) old come) (sym is) (leaf_unmet u rest old come ways_at (ap (has_switch come) (sym at) ∙ none))

    pub leaf_done : IsMarked come first → (done new : Switches) → MarksWalk routes (place_of t) first us come done → MarksWays routes first done new → Settles routes Along old new
    leaf_done met done new walk again =
        subst (λ l. Settles routes (λ w v. IsOnWalk routes (place_of t) w l v) old new) (sym is)
        (leaf_settled u rest old come ways_at (ap (has_switch come) (sym at) ∙ met) done new
        (subst (λ l. MarksWalk routes (place_of t) (place_of t u.var) l come done) is (subst (λ f. MarksWalk routes (place_of t) f us come done) at walk))
        (subst (λ f. MarksWays routes f done new) at again))

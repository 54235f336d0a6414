-- One more mark on the way to the target.
use Rattle.std.proofs.Common.{◌≡◌, ◌≢◌, ℕ, ◌+◌, ◌≤◌, ◌⊎◌, inl, inr, ⊎_elim, Bool, true, false, refl, sym, ap, subst, ◌∙◌, arith}
use Rattle.std.specs.Prelude.{nat_eq, ◌||◌}
use Rattle.std.proofs.lemmas.Bool.{eqb-true, eqb-false, eq-eqb, false≢true}
use Rattle.snap_topology.specs.Tables.{Table, next_of}
use Rattle.snap_make.specs.declared.switches.Switches.{Switches}
use Rattle.snap_make.specs.Marks.{has_switch, IsMarked, IsBehind, next_one, later_one, MarksWay, MarksSoFar, MarksLine}

-- one switch more
module _ (old mid : Switches) (i : ℕ) (more : (v : ℕ) → has_switch mid v ≡ (nat_eq v i || has_switch old v)) where
  more_is : (v : ℕ) → IsMarked mid v → (v ≡ i) ⊎ IsMarked old v
  more_is v m = by (nat_eq v i) refl (sym (more v) ∙ m)
    where
      by : (b : Bool) → nat_eq v i ≡ b → (b || has_switch old v) ≡ true → (v ≡ i) ⊎ IsMarked old v
      by true e f = inl (eqb-true v i e)
      by false e f = inr f

  more_keeps : (v : ℕ) → IsMarked old v → IsMarked mid v
  more_keeps v m = more v ∙ by (nat_eq v i)
    where
      by : (b : Bool) → (b || has_switch old v) ≡ true
      by true = refl
      by false = m

  more_has : IsMarked mid i
  more_has = more i ∙ ap (λ b. b || has_switch old i) (eq-eqb i i refl)

module _ (routes : Table) (target : ℕ) where
  pub way_none : (at : ℕ) (old : Switches) → at ≡ target → MarksWay routes target at old old
  way_none at old e = record { kept = λ v m. m; sound = λ v m. inl m; here = λ ne. absurd (ne e); closed = λ v m. inl m }

  pub way_met : (at : ℕ) (old : Switches) → IsMarked old (next_of routes at target) → MarksWay routes target at old old
  way_met at old met = record { kept = λ v m. m; sound = λ v m. inl m; here = λ ne. met; closed = λ v m. inl m }

  module _ (at : ℕ) (old mid new : Switches) (apart : at ≢ target) (more : (v : ℕ) → has_switch mid v ≡ (nat_eq v (next_of routes at target) || has_switch old v)) where
    way_more : MarksWay routes target (next_of routes at target) mid new → MarksWay routes target at old new
    way_more r = record {
      kept = λ v m. r.kept v (more_keeps old mid (next_of routes at target) more v m);
      sound = λ v m.
          ⊎_elim
          (λ before. ⊎_elim (λ e. inr (subst (IsBehind routes target at) (sym e) (next_one apart))) (λ o. inl o) (more_is old mid (next_of routes at target) more v before))
          (λ b. inr (later_one apart b))
          (r.sound v m);
      here = λ ne. r.kept (next_of routes at target) (more_has old mid (next_of routes at target) more);
      closed = λ v m.
          ⊎_elim
          (λ before. ⊎_elim (λ e. inr (subst (λ x. (x ≡ target) ⊎ IsMarked new (next_of routes x target)) (sym e) on_is)) (λ o. inl o) (more_is old mid (next_of routes at target) more v before))
          (λ x. inr x)
          (r.closed v m);
    }
      where
        on_is : (next_of routes at target ≡ target) ⊎ IsMarked new (next_of routes (next_of routes at target) target)
        on_is = by (nat_eq (next_of routes at target) target) refl
          where
            by : (b : Bool) → nat_eq (next_of routes at target) target ≡ b → (next_of routes at target ≡ target) ⊎ IsMarked new (next_of routes (next_of routes at target) target)
            by true e = inl (eqb-true (next_of routes at target) target e)
            by false e = inr (r.here (eqb-false (next_of routes at target) target e))

    line_more : MarksLine routes target (next_of routes at target) mid new → MarksLine routes target at old new
    line_more r = record {
      kept = λ v m. r.kept v (more_keeps old mid (next_of routes at target) more v m);
      sound = λ v m.
          ⊎_elim
          (λ before. ⊎_elim (λ e. inr (subst (IsBehind routes target at) (sym e) (next_one apart))) (λ o. inl o) (more_is old mid (next_of routes at target) more v before))
          (λ b. inr (later_one apart b))
          (r.sound v m);
      whole = λ v b. all b;
    }
      where
        all : {v : ℕ} → IsBehind routes target at v → IsMarked new v
        all (next_one ne) = r.kept (next_of routes at target) (more_has old mid (next_of routes at target) more)
        all (later_one ne rest) = r.whole _ rest

  module _ (at : ℕ) (old mid new : Switches) (apart : at ≢ target) (on : ℕ) (is : on ≡ next_of routes at target) (more : (v : ℕ) → has_switch mid v ≡ (nat_eq v on || has_switch old v)) where
    more' : (v : ℕ) → has_switch mid v ≡ (nat_eq v (next_of routes at target) || has_switch old v)
    more' v = more v ∙ ap (λ x. nat_eq v x || has_switch old v) is

    pub way_step : MarksWay routes target on mid new → MarksWay routes target at old new
    way_step r = way_more at old mid new apart more' (subst (λ x. MarksWay routes target x mid new) is r)

    pub line_step : MarksLine routes target on mid new → MarksLine routes target at old new
    line_step r = line_more at old mid new apart more' (subst (λ x. MarksLine routes target x mid new) is r)

  pub line_none : (at : ℕ) (old : Switches) → at ≡ target → MarksLine routes target at old old
  line_none at old e = record { kept = λ v m. m; sound = λ v m. inl m; whole = λ v b. absurd (none b) }
    where
      none : {v : ℕ} → IsBehind routes target at v → ⊥
      none (next_one apart) = apart e
      none (later_one apart more) = apart e

  -- ---- all ways
  pub behind_on : {a b c : ℕ} → IsBehind routes target a b → IsBehind routes target b c → IsBehind routes target a c
  behind_on (next_one apart) rest = later_one apart rest
  behind_on (later_one apart more) rest = later_one apart (behind_on more rest)

  pub so_far_start : (old : Switches) → MarksSoFar routes target old 0 old
  so_far_start old = record { kept = λ v m. m; sound = λ v m. inl m; closed = λ v m. inl (omega arith) }

  pub so_far_on : (i : ℕ) (old mid new : Switches) → IsMarked mid i → MarksSoFar routes target old i mid → MarksWay routes target i mid new → MarksSoFar routes target old (i + 1) new
  so_far_on i old mid new mark s r = record {
    kept = λ v m. r.kept v (s.kept v m);
    sound = λ v m.
        ⊎_elim (λ before. s.sound v before)
        (λ behind. ⊎_elim (λ o. inr (i, o, behind)) (λ u. inr (u.0, u.1, behind_on u.2 behind)) (s.sound i mark))
        (r.sound v m);
    closed = λ v m. ⊎_elim (λ before. by v (s.closed v before)) (λ x. inr x) (r.closed v m);
  }
    where
      own : (b : Bool) → nat_eq i target ≡ b → (i ≡ target) ⊎ IsMarked new (next_of routes i target)
      own true e = inl (eqb-true i target e)
      own false e = inr (r.here (eqb-false i target e))

      at : (v : ℕ) → i ≤ v → (b : Bool) → nat_eq v i ≡ b → (i + 1 ≤ v) ⊎ ((v ≡ target) ⊎ IsMarked new (next_of routes v target))
      at v l true e = inr (subst (λ x. (x ≡ target) ⊎ IsMarked new (next_of routes x target)) (sym (eqb-true v i e)) (own (nat_eq i target) refl))
      at v l false e = inl (let ne = eqb-false v i e in omega (arith, l, ne))

      by : (v : ℕ) → (i ≤ v) ⊎ ((v ≡ target) ⊎ IsMarked mid (next_of routes v target)) → (i + 1 ≤ v) ⊎ ((v ≡ target) ⊎ IsMarked new (next_of routes v target))
      by v (inl l) = at v l (nat_eq v i) refl
      by v (inr (inl e)) = inr (inl e)
      by v (inr (inr m)) = inr (inr (r.kept (next_of routes v target) m))

  pub so_far_off : (i : ℕ) (old mid : Switches) → has_switch mid i ≡ false → MarksSoFar routes target old i mid → MarksSoFar routes target old (i + 1) mid
  so_far_off i old mid none s = record { kept = s.kept; sound = s.sound; closed = λ v m. by v m (s.closed v m) }
    where
      at : (v : ℕ) → IsMarked mid v → i ≤ v → (b : Bool) → nat_eq v i ≡ b → (i + 1 ≤ v) ⊎ ((v ≡ target) ⊎ IsMarked mid (next_of routes v target))
      at v m l true e = absurd (false≢true (sym none ∙ subst (IsMarked mid) (eqb-true v i e) m))
      at v m l false e = inl (let ne = eqb-false v i e in omega (arith, l, ne))

      by : (v : ℕ) → IsMarked mid v → (i ≤ v) ⊎ ((v ≡ target) ⊎ IsMarked mid (next_of routes v target)) → (i + 1 ≤ v) ⊎ ((v ≡ target) ⊎ IsMarked mid (next_of routes v target))
      by v m (inl l) = at v m l (nat_eq v i) refl
      by v m (inr x) = inr x

-- Updates at one switch are one stage.
use Rattle.std.proofs.Common.{◌≡◌, ◌≢◌, ℕ, zero, suc, ◌+◌, ◌-◌, ◌<◌, ◌≤◌, ⊎_elim, Bool, true, false, cond, List, [], ◌∷◌, ◌++◌, length, get_or, take, drop, refl, sym, ap, subst, ◌∙◌, arith, append_assoc, append-nil}
use Rattle.std.specs.Prelude.{nat_eq}
use Rattle.std.proofs.lemmas.Bool.{eq-eqb, ne_eqb, cond-true, cond-false, cases_lt}
use Rattle.std.proofs.Math.ListN.{drop_of_length-le}
use Rattle.std.proofs.Math.Seq.{drop-cons}
use Rattle.std.proofs.lemmas.List.{get_or_default}
use Rattle.snap_core.specs.declared.policy.Update.{Update}
use Rattle.snap_rows.specs.declared.tables.Stage.{Stage as LeafStage}
use Rattle.snap_faithful.specs.OnDemand.{in_front, stages_of}
use Rattle.snap_make.specs.Runs.{IsRun}

module _ (place : ℕ → ℕ) where
  -- the next update, if any, is elsewhere
  abbrev pub IsApart : ℕ → List Update → Type 0
  IsApart w [] = Unit {0}
  IsApart w (u ∷ us) = place u.var ≢ w

  joins : (w : ℕ) (u : Update) (xs : List Update) (ss : List LeafStage) → place u.var ≡ w → in_front (place u.var) u (record { at = w; ups = xs } ∷ ss) ≡ record { at = w; ups = u ∷ xs } ∷ ss
  joins w u xs ss e = cond-true _ _ _ (eq-eqb w (place u.var) (sym e)) ∙ ap (λ (v : ℕ). record { at = v; ups = u ∷ xs } ∷ ss) e

  opens : (w : ℕ) (u : Update) (us : List Update) → place u.var ≡ w → IsApart w us → in_front (place u.var) u (stages_of place us) ≡ record { at = w; ups = u ∷ [] } ∷ stages_of place us
  opens w u [] e apart = ap (λ (v : ℕ). record { at = v; ups = u ∷ [] } ∷ []) e
  opens w u (x ∷ us) e apart = by (stages_of place us)
    where
      other : place x.var ≢ place u.var
      other f = apart (f ∙ e)

      as_front : (ss : List LeafStage) (s : LeafStage) → s.at ≡ place x.var → in_front (place u.var) u (s ∷ ss) ≡ record { at = w; ups = u ∷ [] } ∷ s ∷ ss
      as_front ss s f = cond-false _ _ _ (ne_eqb s.at (place u.var) (λ g. other (sym f ∙ g))) ∙ ap (λ (v : ℕ). record { at = v; ups = u ∷ [] } ∷ s ∷ ss) e

      by : (ss : List LeafStage) → in_front (place u.var) u (in_front (place x.var) x ss) ≡ record { at = w; ups = u ∷ [] } ∷ in_front (place x.var) x ss
      by [] = as_front [] (record { at = place x.var; ups = x ∷ [] }) refl
      by (s ∷ ss) = at (nat_eq s.at (place x.var))
        where
          at : (b : Bool) → in_front (place u.var) u (cond b (record { at = place x.var; ups = x ∷ s.ups } ∷ ss) (record { at = place x.var; ups = x ∷ [] } ∷ s ∷ ss))
              ≡ record { at = w; ups = u ∷ [] } ∷ cond b (record { at = place x.var; ups = x ∷ s.ups } ∷ ss) (record { at = place x.var; ups = x ∷ [] } ∷ s ∷ ss)
          at true = as_front ss (record { at = place x.var; ups = x ∷ s.ups }) refl
          at false = as_front (s ∷ ss) (record { at = place x.var; ups = x ∷ [] }) refl

  -- ---- a run so far
  abbrev pub AreAt : List Update → ℕ → ℕ → ℕ → Type 0
  AreAt us start at stop = (k : ℕ) (d : Update) → start ≤ k → k < stop → place (get_or us k d).var ≡ at

  pub run_begins : (us : List Update) (start at : ℕ) (e : Update) → start < length us → at ≡ place (get_or us start e).var → AreAt us start at (start + 1)
  run_begins us start at e low is = λ k d l m.
      (let same : k ≡ start = omega (arith, l, m) in
      ap (λ i. place (get_or us i d).var) same ∙ ap (λ (u : Update). place u.var) (get_or_default us start d e low) ∙ sym is)

  pub run_on : (us : List Update) (start at i : ℕ) (e : Update) → i < length us → place (get_or us i e).var ≡ at → AreAt us start at i → AreAt us start at (i + 1)
  run_on us start at i e low is before = λ k d l m.
      ⊎_elim (λ less. before k d l less)
      (λ more.
      (let same : k ≡ i = omega (arith, more, m) in
      ap (λ i. place (get_or us i d).var) same ∙ ap (λ (u : Update). place u.var) (get_or_default us i d e low) ∙ is))
      (cases_lt k i)

  pub run_ends : (us : List Update) (start at stop : ℕ) → start < stop → stop ≤ length us → AreAt us start at stop → ((d : Update) → stop < length us → place (get_or us stop d).var ≢ at) → IsRun place us start stop
  run_ends us start at stop more within are apart = record {
    more = more;
    within = within;
    same = λ k d l m. are k d l m ∙ sym (are start d (omega arith) more);
    apart = λ d l e. apart d l (e ∙ are start d (omega arith) more);
  }

  -- ---- a run is a stage
  -- what is behind the run
  apart_from : (us : List Update) (stop w : ℕ) (e : Update) → (stop < length us → place (get_or us stop e).var ≢ w) → IsApart w (drop stop us)
  apart_from us stop w e other = ⊎_elim
      (λ l. subst (IsApart w) (sym (drop-cons us stop e l)) (other l))
      (λ l. subst (IsApart w) (sym (drop_of_length-le us l)) tt)
      (cases_lt stop (length us))

  at_stage : (m start stop : ℕ) (us : List Update) (w : ℕ) (e : Update) → start + suc m ≡ stop → AreAt us start w stop → IsApart w (drop stop us) → stop ≤ length us
      → stages_of place (drop start us) ≡ record { at = w; ups = take (suc m) (drop start us) } ∷ stages_of place (drop stop us)
  at_stage zero start stop us w e is are apart within =
      let c = drop-cons us start e (omega (arith, is, within)) in
      let next : stop ≡ suc start = omega (arith, is) in
      ap (stages_of place) c ∙ opens w (get_or us start e) (drop (suc start) us) (are start e (omega arith) (omega (arith, is))) (subst (λ k. IsApart w (drop k us)) next apart)
      ∙ (λ i. record { at = w; ups = take 1 (sym c i) } ∷ stages_of place (drop (sym next i) us))
  at_stage (suc m) start stop us w e is are apart within =
      let c = drop-cons us start e (omega (arith, is, within)) in
      ap (stages_of place) c
      ∙ ap (in_front (place (get_or us start e).var) (get_or us start e)) (at_stage m (suc start) stop us w e (omega (arith, is)) (λ k d l h. are k d (omega (arith, l)) h) apart within)
      ∙ joins w (get_or us start e) (take (suc m) (drop (suc start) us)) (stages_of place (drop stop us)) (are start e (omega arith) (omega (arith, is)))
      ∙ (λ i. record { at = w; ups = take (suc (suc m)) (sym c i) } ∷ stages_of place (drop stop us))

  pub stages_more : (us : List Update) (start stop : ℕ) → IsRun place us start stop → (e : Update) (w : ℕ) → w ≡ place (get_or us start e).var → (part : List Update) → part ≡ take (stop - start) (drop start us)
      → (old new all : List LeafStage) → new ≡ old ++ record { at = w; ups = part } ∷ [] → old ++ stages_of place (drop start us) ≡ all → new ++ stages_of place (drop stop us) ≡ all
  stages_more us start stop run e w at part is old new all pushed so_far =
      ap (λ l. l ++ stages_of place (drop stop us)) pushed
      ∙ append_assoc old (record { at = w; ups = part } ∷ []) (stages_of place (drop stop us))
      ∙ ap (λ (l : List LeafStage). old ++ l) (ap (λ (us' : List Update). record { at = w; ups = us' } ∷ stages_of place (drop stop us)) (is ∙ ap (λ k. take k (drop start us)) long) ∙ sym stage)
      ∙ so_far
    where
      more : start < stop
      more = run.more

      long : stop - start ≡ suc (stop - start - 1)
      long = omega (arith, more)

      stage : stages_of place (drop start us) ≡ record { at = w; ups = take (suc (stop - start - 1)) (drop start us) } ∷ stages_of place (drop stop us)
      stage = at_stage (stop - start - 1) start stop us w e (omega (arith, more)) (λ k d l h. run.same k d l h ∙ first d)
          (apart_from us stop w e (λ l f. run.apart e l (f ∙ at))) run.within
        where
          first : (d : Update) → place (get_or us start d).var ≡ w
          first d = ap (λ (u : Update). place u.var) (get_or_default us start d e (let l = run.within in omega (arith, more, l))) ∙ sym at

  pub stages_end : (us : List Update) (start : ℕ) (old all : List LeafStage) → length us ≤ start → old ++ stages_of place (drop start us) ≡ all → old ≡ all
  stages_end us start old all l so_far = sym (append-nil old) ∙ ap (λ (x : List Update). old ++ stages_of place x) (sym (drop_of_length-le us l)) ∙ so_far

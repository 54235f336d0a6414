-- What workers made is put together step by step.
use Rattle.std.proofs.Common.{◌≡◌, ◌≢◌, ℕ, zero, suc, add-one, ◌+◌, ◌<◌, ◌≤◌, ◌%◌, Bool, true, false, Option, Some, None, List, [], ◌∷◌, ◌++◌, drop, get_or, length, map, refl, sym, ap, subst, ◌∙◌, arith, append_assoc, append-nil}
use Rattle.std.specs.Prelude.{nat_eq, IfSome, option_to_list}
use Rattle.std.specs.List.{flat_map}
use Rattle.std.proofs.Math.ListN.{set}
use Rattle.std.proofs.lemmas.Bool.{eqb-false, eqb-true}
use Rattle.std.proofs.lemmas.List.{drop_all, get_or-map, get_or-set_other, get_or-set_same, length-map, map-append, map-set}
use Rattle.std.proofs.lemmas.Grind.{flat_map-append}
use Rattle.snap_net.specs.declared.flying.Flying.{Flying}
use Rattle.snap_order.specs.declared.hand.Stepped.{Stepped}
use Rattle.snap_order.specs.declared.job.Job.{Job}
use Rattle.snap_net.specs.declared.happened.Moved.{Moved}
use Rattle.snap_order.specs.declared.weave.Web.{Web}
use Rattle.snap_order.specs.Hands.{Woven, over, next}
use Rattle.snap_order.specs.Weaving.{AreWoven, queues_of}

-- ---- queues
abbrev done_of : Job → List Stepped
done_of x = x.done.items

pub queue_at : (jobs : List Job) (i : ℕ) (d : Job) → i < length jobs → queues_of jobs i ≡ (get_or jobs i d).done.items
queue_at jobs i d within = get_or-map done_of jobs i d [] within

pub queue_here : (jobs : List Job) (i : ℕ) (y : Job) → i < length jobs → queues_of (set jobs i y) i ≡ y.done.items
queue_here jobs i y within =
    ap (λ (l : List (List Stepped)). get_or l i []) (map-set done_of jobs i y)
    ∙ get_or-set_same (map done_of jobs) i y.done.items [] (let long = length-map jobs done_of in omega (arith, long, within))

pub queue_away : (jobs : List Job) (i j : ℕ) (y : Job) → j ≢ i → queues_of (set jobs i y) j ≡ queues_of jobs j
queue_away jobs i j y ne = ap (λ (l : List (List Stepped)). get_or l j []) (map-set done_of jobs i y) ∙ get_or-set_other (map done_of jobs) i j y.done.items [] ne

-- the first is taken out of a queue
pub first_taken : (result : Option Stepped) (old new q q' : List Stepped) → old ≡ option_to_list result ++ new → q ≡ old → q' ≡ new → IfSome result (λ x. q ≡ x ∷ q')
first_taken None old new q q' is e e' = tt
first_taken (Some x) old new q q' is e e' = e ∙ is ∙ ap (λ (l : List Stepped). x ∷ l) (sym e')

-- ---- steps
-- the steps of the first n copies are put together
pub record WovenSo (workers : ℕ) (cs : List Flying) (n : ℕ) (start now : ℕ → List Stepped) (turns : List Moved) (left : List Flying) : Type 0 where
  pub steps : List Stepped
  pub on : (xs : List Stepped) → Woven workers (drop n cs) now xs → Woven workers cs start (steps ++ xs)
  pub done : turns ≡ map (λ (x : Stepped). x.moved) steps
  pub flying : left ≡ flat_map (λ (x : Stepped). x.left.items) steps

pub woven_first : (workers : ℕ) (cs : List Flying) (start : ℕ → List Stepped) → WovenSo workers cs 0 start start [] []
woven_first workers cs start = record { steps = []; on = λ xs w. w; done = refl; flying = refl }

pub nth : (cs : List Flying) (n : ℕ) → n < length cs → (c : Flying) × (drop n cs ≡ c ∷ drop (suc n) cs) × (get_or (map (λ (x : Flying). x.at) cs) n 0 ≡ c.at)
nth [] n low = absurd (let l : n < 0 = low in omega arith)
nth (c ∷ cs) zero low = (c, refl, refl)
nth (c ∷ cs) (suc n) low = let r = nth cs n (let l : suc n < suc (length cs) = low in omega arith) in (r.0, r.1, r.2)

module _ (workers : ℕ) (cs : List Flying) (n : ℕ) (start now later : ℕ → List Stepped) (done : List Moved) (flying : List Flying) (so : WovenSo workers cs n start now done flying)
    (at : ℕ) (within : n < length cs) (stands : at ≡ get_or (map (λ (x : Flying). x.at) cs) n 0) (x : Stepped) (took : now (at % workers) ≡ x ∷ later (at % workers)) (others : (j : ℕ) → j ≢ at % workers → later j ≡ now j) where
  pub woven_more : WovenSo workers cs (n + 1) start later (done ++ x.moved ∷ []) (flying ++ x.left.items)
  woven_more =
      let c = nth cs n within in
      let own : at ≡ c.0.at = stands ∙ c.2 in
      record {
        steps = so.steps ++ x ∷ [];
        on = λ xs w.
            subst (Woven workers cs start) (sym (append_assoc so.steps (x ∷ []) xs))
            (so.on (x ∷ xs) (subst (λ (l : List Flying). Woven workers l now (x ∷ xs)) (sym c.1)
            (next (subst (λ (k : ℕ). now (k % workers) ≡ x ∷ later (k % workers)) own took) (subst (λ (k : ℕ). (j : ℕ) → j ≢ k % workers → later j ≡ now j) own others)
            (subst (λ (m : ℕ). Woven workers (drop m cs) later xs) (add-one n) w))));
        done = ap (λ (l : List Moved). l ++ x.moved ∷ []) so.done ∙ sym (map-append (λ (y : Stepped). y.moved) so.steps (x ∷ []));
        flying = ap (λ (l : List Flying). l ++ x.left.items) so.flying
            ∙ ap (λ (l : List Flying). flat_map (λ (y : Stepped). y.left.items) so.steps ++ l) (sym (append-nil x.left.items))
            ∙ sym (flat_map-append (λ (y : Stepped). y.left.items) so.steps (x ∷ []));
      }

pub woven_all : (workers : ℕ) (cs : List Flying) (n : ℕ) (start now : ℕ → List Stepped) (web : Web) → length cs ≤ n → WovenSo workers cs n start now web.done.items web.flying.items → AreWoven workers cs start web
woven_all workers cs n start now web all so = record {
  steps = so.steps;
  woven = subst (Woven workers cs start) (append-nil so.steps) (so.on [] (subst (λ (l : List Flying). Woven workers l now []) (sym (drop_all n cs all)) over));
  done = so.done;
  flying = so.flying;
}

-- ---- counts
module _ (P : ℕ → ℕ → ℕ → Type 0) (old now : List ℕ) (n v : ℕ) (within : n < length now) (below : (r : ℕ) → r < n → P r (get_or old r 0) (get_or now r 0))
    (above : (r : ℕ) → n ≤ r → get_or now r 0 ≡ get_or old r 0) (last : P n (get_or now n 0) v) where
  counted_by : (r : ℕ) → r < n + 1 → (b : Bool) → nat_eq r n ≡ b → P r (get_or old r 0) (get_or (set now n v) r 0)
  counted_by r low true e =
      let at : r ≡ n = eqb-true r n e in
      subst (λ (k : ℕ). P k (get_or old k 0) (get_or (set now n v) k 0)) (sym at)
      (subst (P n (get_or old n 0)) (sym (get_or-set_same now n v 0 within)) (subst (λ (m : ℕ). P n m v) (above n (omega arith)) last))
  counted_by r low false e =
      let ne : r ≢ n = eqb-false r n e in
      subst (P r (get_or old r 0)) (sym (get_or-set_other now n r v 0 ne)) (below r (omega (arith, low, ne)))

  pub counted_more : (r : ℕ) → r < n + 1 → P r (get_or old r 0) (get_or (set now n v) r 0)
  counted_more r low = counted_by r low (nat_eq r n) refl

  pub uncounted_more : (r : ℕ) → n + 1 ≤ r → get_or (set now n v) r 0 ≡ get_or old r 0
  uncounted_more r high = get_or-set_other now n r v 0 (λ e. absurd (omega (arith, e, high))) ∙ above r (omega (arith, high))

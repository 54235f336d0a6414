use Rattle.std.proofs.Common.{◌≡◌, ℕ, ◌<◌, ◌/◌, List, [], ◌∷◌, ◌++◌, length, refl, sym, ap, subst, ◌∙◌, append_assoc, append-nil, arith, rules}
use Rattle.std.specs.List.{All}
use Rattle.std.proofs.lemmas.List.Elements.{All-head, All-tail}
use Rattle.snap_net.specs.declared.flying.Flying.{Flying}
use Rattle.snap_order.specs.declared.hand.Stepped.{Stepped}
use Rattle.snap_order.specs.Hands.{InPlace, Works, idles, works, part_of}
use Rattle.snap_order.specs.Jobs.{counts_after}
use Rattle.snap_order.proofs.Teams.{after_counted, after_same}
use Rattle.snap_order.proofs.job.step_all.Goals as goal

pub loop-copy-init : goal.loop-copy-init
loop-copy-init g c =
    let t = c.args.tables.now in
    let job = c.args.job.now in
    let n = job.workers in
    let is = c.requires.job in
    record {
      on = λ q xs w.
          subst (λ (d : List Stepped). Works t n (part_of n job.stores.items c.args.counts.now) job.copies.items q (d ++ xs)) (sym is.undone)
          (subst (λ (k : List ℕ). Works t n (part_of n job.stores.items k) job.copies.items q xs) c.in_ok-job.ensures w);
      counted = ap length c.in_ok-job.ensures ∙ c.requires.counts;
      long = refl;
      copies = is.copies;
      places = is.places;
    }

pub loop-copy-preserved : goal.loop-copy-preserved
loop-copy-preserved g c =
    let t = c.args.tables.now in
    let job = c.args.job.now in
    let n = job.workers in
    let l = c.loop-copy.job in
    let i = c.loop-copy.invariant in
    let copy = c.in-Some.copy in
    let rest = c.pop_front.new.self.items in
    let x = c.in_ok-stepped.stepped in
    let is : l.copies.items ≡ copy ∷ rest = c.in-Some.ensures.items in
    let steps = c.in_ok-stepped.ensures.steps in
    record {
      on = λ q xs w.
          subst (λ (d : List Stepped). Works t n (part_of n job.stores.items c.args.counts.now) job.copies.items q d) (sym (append_assoc l.done.items (x ∷ []) xs) ∙ ap (λ (d : List Stepped). d ++ xs) (sym c.in_ok-push_back.ensures.items))
          (i.on q (x ∷ xs) (subst (λ (cs : List Flying). Works t n (part_of n l.stores.items l.counts.items) cs q (x ∷ xs)) (sym is) (works steps w)));
      counted = steps.here.long ∙ i.counted;
      long = c.in_ok-stepped.ensures.long ∙ i.long;
      copies = All-tail (InPlace t) copy rest (subst (All (InPlace t)) is i.copies);
      places = All-tail (λ (c : Flying). c.at / n < length job.stores.items) copy rest (subst (All (λ (c : Flying). c.at / n < length job.stores.items)) is i.places);
    }

pub step_in-requires-clause-store : goal.step_in-requires-clause-store
step_in-requires-clause-store g c =
    let job = c.args.job.now in
    let n = job.workers in
    let i = c.loop-copy.invariant in
    let long = i.long in
    let low = All-head (λ (c : Flying). c.at / n < length job.stores.items) c.in-Some.copy c.pop_front.new.self.items (subst (All (λ (c : Flying). c.at / n < length job.stores.items)) c.in-Some.ensures.items i.places) in
    omega (arith, low, long)

pub returns : goal.returns
returns g c =
    let t = c.args.tables.now in
    let job = c.args.job.now in
    let n = job.workers in
    let counts = c.args.counts.now in
    let l = c.loop-copy.job in
    let i = c.loop-copy.invariant in
    let none : l.copies.items ≡ [] = first_of (search rules, cc) in
    let as_many : length l.counts.items ≡ length counts = i.counted ∙ sym c.requires.counts in
    record {
      works = subst (λ (d : List Stepped). Works t n (part_of n job.stores.items counts) job.copies.items (part_of n l.stores.items (counts_after counts l.counts.items)) d) (append-nil l.done.items)
          (i.on (part_of n l.stores.items (counts_after counts l.counts.items)) []
          (subst (λ (k : List ℕ). Works t n (part_of n l.stores.items l.counts.items) l.copies.items (part_of n l.stores.items k) []) (sym (after_same counts l.counts.items as_many))
          (subst (λ (cs : List Flying). Works t n (part_of n l.stores.items l.counts.items) cs (part_of n l.stores.items l.counts.items) []) (sym none) idles)));
      counted = after_counted counts l.counts.items as_many;
      long = i.long;
    }

use Rattle.std.proofs.Common.{◌≡◌, ℕ, ◌+◌, List, [], ◌∷◌, ◌++◌, get_or, length, map, sym, ap, subst, ◌∙◌, arith}
use Rattle.std.proofs.lemmas.List.{length-map}
use Rattle.snap_net.specs.declared.flying.Flying.{Flying}
use Rattle.snap_net.specs.declared.happened.Moved.{Moved}
use Rattle.snap_order.specs.Weaving.{queues_of}
use Rattle.snap_order.proofs.Webs.{WovenSo, woven_all, woven_more}
use Rattle.snap_order.proofs.weave.weave.Goals as goal

as_many : (cs : List Flying) (l : List ℕ) → map (λ (c : Flying). c.at) cs ≡ l → length cs ≡ length l
as_many cs l e = sym (length-map cs (λ (c : Flying). c.at)) ∙ ap length e

pub loop-at-preserved : goal.loop-at-preserved
loop-at-preserved c =
    let l = c.loop-at in
    let switches = c.args.switches.now in
    let n = l.at-index in
    let x = c.in-Some.stepped in
    let later = c.next_of.new.jobs.items in
    record {
      count = c.next_of.ensures.long ∙ l.invariant.count;
      woven = λ cs e.
          let many = as_many cs switches e in
          let test = c.loop-at-test.true in
          let more = woven_more c.args.workers cs n (queues_of c.args.jobs.now.items) (queues_of l.jobs.items) (queues_of later) l.done.items l.flying.items (l.invariant.woven cs e)
          (get_or switches n 0) (omega (arith, many, test)) (ap (λ (k : List ℕ). get_or k n 0) (sym e)) x c.in-Some.ensures.first c.next_of.ensures.others in
          subst (λ (d : List Moved). WovenSo c.args.workers cs (n + 1) (queues_of c.args.jobs.now.items) (queues_of later) d c.append.new.self.items) (sym c.in_ok-push.ensures.items)
          (subst (λ (f : List Flying). WovenSo c.args.workers cs (n + 1) (queues_of c.args.jobs.now.items) (queues_of later) (l.done.items ++ x.moved ∷ []) f) (sym c.in_ok-append.ensures.items) more);
    }

pub returns : goal.returns
returns c = λ cs e.
    let many = as_many cs c.args.switches.now e in
    let test = c.loop-at-test.false in
    woven_all c.args.workers cs c.loop-at.at-index (queues_of c.args.jobs.now.items) (queues_of c.loop-at.jobs.items) _ (omega (arith, many, test)) (c.loop-at.invariant.woven cs e)

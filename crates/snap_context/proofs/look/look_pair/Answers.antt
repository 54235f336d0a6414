-- The two facts are of one place.
use Rattle.std.proofs.Common.{◌≡◌, map, sym, ap, ◌∙◌, arith}
use Rattle.snap_core.specs.declared.policy.Test.{Test}
use Rattle.snap_context.specs.Classes.{atom_class, normal, is_state, var_of, index_of, left_of, SamePlace}
use Rattle.snap_context.proofs.Sound.{pair_found}
use Rattle.snap_context.proofs.look.look_pair.Goals as goal

pub returns : goal.returns
returns c =
    let f = c.args.first.now in
    let g = c.args.second.now in
    let cl = c.args.classes.now in
    let one = sym c.test.ensures ∙ c.in-State.is in
    let two = sym c.test-2.ensures ∙ c.in-State-test.is in
    let same : SamePlace c.args.classes.now c.args.first.now.test c.args.second.now.test = record {
      first = ap is_state one;
      second = ap is_state two;
      var = ap var_of one ∙ (omega arith) ∙ sym (ap var_of two);
      index = ap (λ (t : Test). map (atom_class c.args.classes.now) (index_of t)) one
          ∙ (rw (← c.items.ensures, ← c.items-else-var-other_var.ensures) (c.same_index.ensures.0 c.if-not-same_index.false))
          ∙ sym (ap (λ (t : Test). map (atom_class c.args.classes.now) (index_of t)) two);
    } in
    let left : c.normal_at-left.result ≡ normal c.args.classes.now (left_of c.args.first.now.test)
    = c.normal_at-left.ensures ∙ sym (ap (λ (t : Test). normal c.args.classes.now (left_of t)) one) in
    let right : c.normal_at-right.result ≡ normal c.args.classes.now (left_of c.args.second.now.test)
    = c.normal_at-right.ensures ∙ sym (ap (λ (t : Test). normal c.args.classes.now (left_of t)) two) in
    pair_found c.args.classes.now c.args.first.now c.args.second.now c.compare.result c.requires.classes c.requires.first c.requires.second same c.if-not-first.false
    (rw (← left, ← right) c.compare.ensures)

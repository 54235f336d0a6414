-- The parts of a sequence.
use Rattle.std.proofs.Common.{◌<◌, sym, ap, subst, ◌∙◌, rules}
use Rattle.snap_core.specs.declared.policy.Pol.{size-Pol, the_lemmas}
use Rattle.snap_core.specs.Laws.{PutsSmall}
use Rattle.snap_core.specs.Meaning.{eval}
use Rattle.snap_compose.specs.Sequence.{in_sequence}
use Rattle.snap_build.specs.Parts.{PolIn, IsSet}
use Rattle.snap_build.proofs.policies.last_set.Goals as goal

pub returns-then-is_set : goal.returns-then-is_set
returns-then-is_set c =
    let first = c.deref-then-is_set.ensures in let second = c.deref-then-is_set-2.ensures in
    let less : size-Pol c.deref-then-is_set.result.now < size-Pol c.args.pol.now = search (rules, the_lemmas) in
    record {
      set = subst IsSet (c.deref.ensures ∙ sym second) (c.is_set.ensures c.if-is_set.true);
      less = less;
      fits = λ s h. let parts = subst (PolIn s) c.in-Seq.is h in (subst (PolIn s) (sym first) parts.0, subst (PolIn s) (sym second) parts.1);
      small = λ p q. subst PutsSmall (sym c.in-Seq.is) (subst PutsSmall first p, subst PutsSmall second q);
      evals = λ m k. ap (λ x. eval x m k) c.in-Seq.is ∙ sym (λ i. in_sequence (eval (first i) m k) (eval (second i)));
    }

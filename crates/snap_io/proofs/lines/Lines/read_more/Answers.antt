use Rattle.std.proofs.Common.{refl, arith}
use Rattle.std.proofs.lemmas.Bool.{eqb-true}
use Rattle.snap_io.proofs.ReadLemmas.{many_told, AgreesWith-more}
use Rattle.snap_io.proofs.lines.Lines.read_more.Goals as goal

pub returns-then-branch-clause-many : goal.returns-then-branch-clause-many
returns-then-branch-clause-many g c =
    many_told _ _ c.args.self.now _ _ _ c.requires.agrees c.in_ok-goes_on.ensures.more c.deref.ensures.value c.if-branch.true c.requires.open (omega arith) c.if-left-eq0.true

pub returns-clause-agrees : goal.returns-clause-agrees
returns-clause-agrees g c =
    AgreesWith-more _ _ c.args.self.now _ _ _ c.in_ok-count.count c.in_ok-count.ensures.files c.requires.agrees c.in_ok-count.ensures.bytes c.deref-2.ensures.value refl (omega arith) refl c.in_ok-count.ensures.len (λ end. eqb-true _ _ end)

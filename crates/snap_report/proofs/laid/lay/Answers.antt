use Rattle.std.proofs.Common.{[], ◌∷◌, reverse, ap, sym, subst, ◌∙◌, All}
use Rattle.std.proofs.lemmas.List.{reverse-append}
use Rattle.std.proofs.lemmas.List.Elements.{All-push}
use Rattle.snap_core.specs.Fits.{PolFits}
use Rattle.snap_core.specs.Meaning.{eval}
use Rattle.snap_report.specs.Choices.{AreParts, IsPart, IsSequence}
use Rattle.snap_report.proofs.laid.lay.Goals as goal

pub loop-first-preserved : goal.loop-first-preserved
loop-first-preserved c =
    let whole = c.args.pol.now in let first = c.loop-first.first.now in let later = c.loop-first.later.items in
    let before = c.in-Seq.before.value in let last = c.in-Seq.last.value in
    let put = c.in_ok-put_part.ensures in
    let sequence : IsSequence first before last = record { fits = λ n v f. subst (PolFits n v) c.in-Seq.is f; same = λ m k. ap (λ p. eval p m k) c.in-Seq.is } in
    let parts : AreParts before (put.0 ∷ reverse later) whole = (first, subst (IsSequence first before) (sym (put.2 ∙ c.deref.ensures)) sequence, c.loop-first.invariant.are) in
    record {
      parts = subst (All IsPart) (sym put.1) (All-push IsPart later put.0 c.loop-first.invariant.parts put.3);
      are =
          subst (λ p. AreParts p (reverse c.put_part.new.parts.items) whole) (sym c.deref-first.ensures)
          (subst (λ l. AreParts before l whole) (sym (ap reverse put.1 ∙ reverse-append later (put.0 ∷ []))) parts);
    }

use Rattle.std.proofs.Common.{◌≡◌, ◌<◌, ◌≤◌, ◌+◌, None, All, ap, drop, length, subst, sym, ◌∙◌, rules, option_and_then}
use Rattle.std.proofs.lemmas.List.{drop_all}
use Rattle.snap_core.specs.Cells.{arrays_of}
use Rattle.snap_core.specs.Fits.{PolFits}
use Rattle.snap_core.specs.Meaning.{eval}
use Rattle.snap_core.specs.Packets.{AllLong}
use Rattle.snap_core.specs.Runs.{after_first, ran_with, set_after}
use Rattle.snap_report.specs.Choices.{AreParts, IsPart}
use Rattle.snap_report.proofs.ChoiceLemmas.{parts-fit, parts-next, parts-none}
use Rattle.snap_report.proofs.laid.run_laid_on.Goals as goal

pub run_on-requires-clause-fits : goal.run_on-requires-clause-fits
run_on-requires-clause-fits c =
    let inside = c.laid.inside in let n = length c.args.packet.now in
    parts-fit n 64 inside.first.pol.now inside.later.items inside.whole.now c.laid.invariant.2 (subst (PolFits n 64) (sym c.laid.view_is) c.requires)

pub returns-in_err-ran-clause-undefined : goal.returns-in_err-ran-clause-undefined
returns-in_err-ran-clause-undefined c = λ e.
    let inside = c.laid.inside in let m = arrays_of c.args.store.now in let k = c.args.packet.now in
    let none : eval inside.first.pol.now m k ≡ None = search (rules, c.in_err-ran.ensures.undefined) in
    ap (λ p. eval p m k) (sym c.laid.view_is) ∙ parts-none inside.first.pol.now inside.later.items inside.whole.now m k c.laid.invariant.2 none

pub loop-part-init : goal.loop-part-init
loop-part-init c =
    let inside = c.laid.inside in let xs = c.deref-part-items.result.now in
    let same = c.deref-part-items.ensures.value in
    record {
      done = inside.first.pol.now;
      are = subst (AreParts inside.first.pol.now xs) c.laid.view_is (subst (λ l. AreParts inside.first.pol.now l inside.whole.now) (sym same) c.laid.invariant.2);
      parts = subst (All IsPart) (sym same) c.laid.invariant.1;
      ok = c.in_ok-ran.ensures.ok;
      long = c.in_ok-ran.ensures.lengths;
      same = c.run_on.ensures.length;
    }

pub run_after-requires-clause-fits : goal.run_after-requires-clause-fits
run_after-requires-clause-fits c =
    let xs = c.deref-part-items.result.now in let i = c.loop-part.part-index in let x = c.part-item.result in
    let whole = c.args.laid.now in let n = length c.args.packet.now in
    let within : i < length xs = search rules in
    let next = parts-next xs i x c.loop-part.invariant.done whole within c.part-item.is c.loop-part.invariant.are in
    subst (λ l. PolFits l 64 x.pol.now) (sym c.loop-part.invariant.same) (next.1.fits n 64 (parts-fit n 64 next.0 (drop (i + 1) xs) whole next.2 c.requires)).1

pub run_after-requires-clause-lengths : goal.run_after-requires-clause-lengths
run_after-requires-clause-lengths c = subst (λ l. AllLong l (set_after c.loop-part.ran.flow c.loop-part.packet)) (sym c.loop-part.invariant.same) c.loop-part.invariant.long

pub returns-in_err-ran-2-clause-undefined : goal.returns-in_err-ran-2-clause-undefined
returns-in_err-ran-2-clause-undefined c = λ e.
    let xs = c.deref-part-items.result.now in let i = c.loop-part.part-index in let x = c.part-item.result in
    let whole = c.args.laid.now in let m = arrays_of c.args.store.now in let k = c.args.packet.now in
    let within : i < length xs = search rules in
    let next = parts-next xs i x c.loop-part.invariant.done whole within c.part-item.is c.loop-part.invariant.are in
    let none : after_first x.pol.now (ran_with (arrays_of c.loop-part.store) c.loop-part.packet c.loop-part.ran) ≡ None = search (rules, c.in_err-ran-2.ensures.undefined) in
    parts-none next.0 (drop (i + 1) xs) whole m k next.2 (next.1.same m k ∙ ap (option_and_then (after_first x.pol.now)) c.loop-part.invariant.ok ∙ none)

pub loop-part-preserved : goal.loop-part-preserved
loop-part-preserved c =
    let xs = c.deref-part-items.result.now in let i = c.loop-part.part-index in let x = c.part-item.result in
    let whole = c.args.laid.now in let m = arrays_of c.args.store.now in let k = c.args.packet.now in
    let within : i < length xs = search rules in
    let next = parts-next xs i x c.loop-part.invariant.done whole within c.part-item.is c.loop-part.invariant.are in
    let same = c.loop-part.invariant.same in
    record {
      done = next.0;
      are = next.2;
      parts = c.loop-part.invariant.parts;
      ok = next.1.same m k ∙ ap (option_and_then (after_first x.pol.now)) c.loop-part.invariant.ok ∙ c.in_ok-ran-2.ensures.ok;
      long = subst (λ l. AllLong l (set_after c.in_ok-ran-2.ran.flow c.run_after.new.packet)) same c.in_ok-ran-2.ensures.lengths;
      same = c.run_after.ensures.length ∙ same;
    }

pub returns-clause-ok : goal.returns-clause-ok
returns-clause-ok c =
    let xs = c.deref-part-items.result.now in let i = c.loop-part.part-index in
    let done = c.loop-part.invariant.done in let whole = c.args.laid.now in
    let m = arrays_of c.args.store.now in let k = c.args.packet.now in
    let past : length xs ≤ i = search rules in
    let is : whole ≡ done = subst (λ l. AreParts done l whole) (drop_all i xs past) c.loop-part.invariant.are in
    ap (λ p. eval p m k) is ∙ c.loop-part.invariant.ok

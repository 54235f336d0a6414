use Rattle.std.proofs.Common.{Err, map, subst, sym}
use Rattle.std.proofs.lemmas.Result.{err_from_is_err_and}
use Rattle.snap_core.specs.Cells.{arrays_of}
use Rattle.snap_core.specs.Listing.{IsListing, entry_of}
use Rattle.snap_report.specs.Reports.{end_text}
use Rattle.snap_report.specs.Runner.{PutsEnd}
use Rattle.snap_report.specs.Switching.{Reports}
use Rattle.snap_report.proofs.SwitchLemmas.{stands-listed}
use Rattle.snap_report.proofs.switch.SwitchMachine.put_end.Goals as goal

pub returns-in_err-put_end-clause-ends : goal.returns-in_err-put_end-clause-ends
returns-in_err-put_end-clause-ends g c = λ first packets blocks stood.
    let out = err_from_is_err_and c.from_residual-in_err-put_end.result c.from_residual-in_err-put_end.ensures.1 in
    let switch = c.args.self.now in
    let before = g.K.Sink.taken c.args.sink.now in
    let now = g.K.Sink.taken c.put_end.new.sink in
    let entries = map entry_of c.deref.result.now in
    let listing = subst (λ l. IsListing (arrays_of switch.store) (map entry_of l)) (sym c.deref.ensures.value) c.in_ok-listing.ensures in
    subst (PutsEnd (Reports first packets) blocks before now c.args.out.now.text.items c.put_end.new.out.text.items) (sym out.1)
    (subst (λ e. PutsEnd (Reports first packets) blocks before now c.args.out.now.text.items c.put_end.new.out.text.items (Err e)) (sym out.2)
    (end_text switch.program.now.arrays entries, stands-listed first packets blocks switch stood entries listing, c.in_err-put_end.ensures.puts))

pub returns-clause-ends : goal.returns-clause-ends
returns-clause-ends g c = λ first packets blocks stood.
    let switch = c.args.self.now in
    let entries = map entry_of c.deref.result.now in
    let listing = subst (λ l. IsListing (arrays_of switch.store) (map entry_of l)) (sym c.deref.ensures.value) c.in_ok-listing.ensures in
    (end_text switch.program.now.arrays entries, stands-listed first packets blocks switch stood entries listing, c.in_ok-put_end.ensures.puts)

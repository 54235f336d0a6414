use Rattle.std.proofs.Common.{Err, Ok, sym, subst}
use Rattle.std.proofs.lemmas.Result.{err_from_is_err_and}
use Rattle.snap_io.specs.Files.{file_of}
use Rattle.snap_io.specs.LineReaders.{lines_name}
use Rattle.snap_report.proofs.StepLemmas.{where_told}
use Rattle.snap_report.specs.Reading.{GivesNext, ReadsNext, next_for}
use Rattle.snap_report.proofs.Readers.{gives-bad, gives-fault, gives-said}
use Rattle.snap_report.proofs.packets.PacketLines.give.Goals as goal

pub returns-in_err-next_text-clause-next : goal.returns-in_err-next_text-clause-next
returns-in_err-next_text-clause-next g c =
    let out = err_from_is_err_and c.from_residual.result c.from_residual.ensures.1 in
    where_told (g.S.Shelf.files c.args.shelf.now) _ _ (λ files reads.
    let v = c.args.self.now in
    let new = c.next_text.new.self in
    let next = next_for (file_of files (lines_name v.lines)) v in
    subst (GivesNext c.args.fields.now v.read next new) (sym out.1)
    (subst (λ e. GivesNext c.args.fields.now v.read next new (Err e)) (sym out.2) (gives-fault c.args.fields.now v.read next new c.in_err-next_text.field-0.0 reads)))
    c.in_err-next_text.ensures.reads

pub returns-then-not-branch-clause-next : goal.returns-then-not-branch-clause-next
returns-then-not-branch-clause-next g c =
    where_told (g.S.Shelf.files c.args.shelf.now) _ _ (λ files reads.
    let v = c.args.self.now in
    subst (λ b. ReadsNext v.read (next_for (file_of files (lines_name v.lines)) v) c.next_text.new.self (Ok b)) c.if-not-branch.true reads)
    c.in_ok-next_text.ensures.reads

pub returns-in-Some-clause-next : goal.returns-in-Some-clause-next
returns-in-Some-clause-next g c =
    where_told (g.S.Shelf.files c.args.shelf.now) _ _ (λ files reads.
    let v = c.args.self.now in
    let new = record c.next_text.new.self { draft = c.read_line.new.draft } in
    let next = next_for (file_of files (lines_name v.lines)) v in
    let read = subst (λ b. ReadsNext v.read next new (Ok b)) c.if-not-branch.false reads in
    gives-said c.args.fields.now v.read next new c.line.result.now c.in-Some.line c.line.ensures.line read c.in-Some.ensures.said)
    c.in_ok-next_text.ensures.reads

pub returns-in-None-clause-next : goal.returns-in-None-clause-next
returns-in-None-clause-next g c =
    where_told (g.S.Shelf.files c.args.shelf.now) _ _ (λ files reads.
    let v = c.args.self.now in
    let new = record c.next_text.new.self { draft = c.read_line.new.draft } in
    let next = next_for (file_of files (lines_name v.lines)) v in
    let read = subst (λ b. ReadsNext v.read next new (Ok b)) c.if-not-branch.false reads in
    gives-bad c.args.fields.now v.read next new c.line.result.now c.line.ensures.line (c.in_ok-next_text.ensures.more c.if-not-branch.false) read c.in-None.ensures.said)
    c.in_ok-next_text.ensures.reads

pub returns-in-Some-clause-goes_on : goal.returns-in-Some-clause-goes_on
returns-in-Some-clause-goes_on g c = (c.in_ok-next_text.ensures.more c.if-not-branch.false, c.next_text.new.self.few)

use Rattle.std.proofs.Common.{◌<◌, ◌≤◌, Err, Ok, subst, arith}
use Rattle.snap_io.specs.Files.{file_of}
use Rattle.snap_io.specs.LineReaders.{AnswersNext, lines_given, lines_name}
use Rattle.snap_io.specs.Lines.{next_in}
use Rattle.snap_report.proofs.StepLemmas.{where_told}
use Rattle.snap_report.specs.Reading.{next_for}
use Rattle.snap_report.proofs.Readers.{read-fault, read-many}
use Rattle.snap_report.proofs.packets.PacketLines.next_text.Goals as goal

pub returns-then-self-eq-MOST_LINES-clause-reads : goal.returns-then-self-eq-MOST_LINES-clause-reads
returns-then-self-eq-MOST_LINES-clause-reads g c =
    where_told (g.S.Shelf.files c.args.shelf.now) _ _ (λ files next.
    let v = c.args.self.now in
    let file = file_of files (lines_name v.lines) in
    let lines = c.next.new.self in
    let stands = subst (λ b. AnswersNext (next_in 67108864 65536 file (lines_given v.lines)) lines (Ok b)) c.in-Ok-true.field-0-test (subst (λ x. AnswersNext x lines (Ok c.in-Ok-true.field-0)) (λ i. next_in (v.limit i) (v.most i) file (lines_given v.lines)) next) in
    read-many v.read (next_for file v) v lines c.if-self-eq-MOST_LINES.true stands c.many_lines.result c.many_lines.ensures)
    c.in-Ok-true.ensures.next

pub returns-else-self-eq-MOST_LINES-clause-reads : goal.returns-else-self-eq-MOST_LINES-clause-reads
returns-else-self-eq-MOST_LINES-clause-reads g c =
    where_told (g.S.Shelf.files c.args.shelf.now) _ _ (λ files next.
    let v = c.args.self.now in
    let file = file_of files (lines_name v.lines) in
    let lines = c.next.new.self in
    let stands = subst (λ b. AnswersNext (next_in 67108864 65536 file (lines_given v.lines)) lines (Ok b)) c.in-Ok-true.field-0-test (subst (λ x. AnswersNext x lines (Ok c.in-Ok-true.field-0)) (λ i. next_in (v.limit i) (v.most i) file (lines_given v.lines)) next) in
    let few : v.read ≤ 1000000 = v.few in
    let more : v.read < 1000000 = omega arith in
    (more, stands))
    c.in-Ok-true.ensures.next

pub returns-in-Ok-false-clause-reads : goal.returns-in-Ok-false-clause-reads
returns-in-Ok-false-clause-reads g c =
    where_told (g.S.Shelf.files c.args.shelf.now) _ _ (λ files next.
    let v = c.args.self.now in
    let file = file_of files (lines_name v.lines) in
    let lines = c.next.new.self in
    let none = subst (λ b. AnswersNext (next_in 67108864 65536 file (lines_given v.lines)) lines (Ok b)) c.in-Ok-false.field-0-test (subst (λ x. AnswersNext x lines (Ok c.in-Ok-false.field-0)) (λ i. next_in (v.limit i) (v.most i) file (lines_given v.lines)) next) in
    none)
    c.in-Ok-false.ensures.next

pub returns-in-Err-clause-reads : goal.returns-in-Err-clause-reads
returns-in-Err-clause-reads g c =
    where_told (g.S.Shelf.files c.args.shelf.now) _ _ (λ files next.
    let v = c.args.self.now in
    let file = file_of files (lines_name v.lines) in
    let lines = c.next.new.self in
    let answered = subst (λ x. AnswersNext x lines (Err c.in-Err.fault)) (λ i. next_in (v.limit i) (v.most i) file (lines_given v.lines)) next in
    read-fault v.read (next_for file v) v lines c.in-Err.fault v.few answered c.refused.result c.refused.ensures)
    c.in-Err.ensures.next

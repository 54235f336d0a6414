use Rattle.snap_io.specs.Files.{file_of}
use Rattle.snap_io.specs.LineReaders.{lines_name}
use Rattle.snap_report.proofs.StepLemmas.{where_told}
use Rattle.snap_report.proofs.Readers.{leaves_by}
use Rattle.snap_report.proofs.packets.PacketLines.next.Goals as goal

pub returns-clause-leaves : goal.returns-clause-leaves
returns-clause-leaves g c =
    where_told (g.S.Shelf.files c.args.shelf.now) _ _ (λ files next accepts before.
    let v = c.args.self.now in
    leaves_by c.args.fields.now accepts (file_of files (lines_name v.lines)) before v c.give.new.self c.give.ensures.few c.give.result c.give.ensures.goes_on next)
    c.give.ensures.next

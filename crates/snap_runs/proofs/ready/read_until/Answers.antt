use Rattle.std.proofs.Common.{◌≡◌, ◌≢◌, None, Ok, Err, ap, rules, arith, subst, sym, ◌∙◌}
use Rattle.std.specs.Prelude.{IfSome}
use Rattle.std.proofs.lemmas.Result.{err_from_is_err_and}
use Rattle.snap_core.specs.Fields.{count}
use Rattle.snap_io.specs.Files.{file_of}
use Rattle.snap_io.specs.LineReaders.{lines_name}
use Rattle.snap_rows.specs.declared.tables.Tables.{Tables}
use Rattle.snap_report.proofs.StepLemmas.{told-on, where_told}
use Rattle.snap_runs.specs.Plain.{at_ports}
use Rattle.snap_runs.specs.Playing.{AreAll, HasRead, TakesLine}
use Rattle.snap_report.specs.declared.fault.TraceFault.TheVariants.{NoMemory, Packets}
use Rattle.snap_report.specs.PacketLines.{bad}
use Rattle.snap_report.specs.Reading.{FitsLine, GoesOn, HasLine, packet_in, said_of}
use Rattle.snap_runs.specs.Reading.{GivesLine, left_of, said_at}
use Rattle.snap_runs.proofs.Readers.{gives-at}
use Rattle.snap_runs.proofs.ReadWhole.{AreRead, read-ended, read-more, read-refused, read-taken, ready-more, taken-few}
use Rattle.snap_runs.proofs.ready.read_until.Goals as goal

pub returns-in_err-line-clause-whole : goal.returns-in_err-line-clause-whole
returns-in_err-line-clause-whole g c =
    let t = c.args.tables.now in
    let l = c.loop-reader in
    let new = c.next.new.self in
    let fields = ap (λ (x : Tables). x.fields) c.tables.ensures.tables in
    let out = err_from_is_err_and c.from_residual-in_err-line.result c.from_residual-in_err-line.ensures.1 in
    let fault = c.in_err-line.field-0.0 in
    where_told (g.S.Shelf.files c.args.shelf.now) _ _ (λ files refuses.
    let file = file_of files c.args.name.now in
    subst (HasRead t file l.packets.items) (sym out.1) (subst (λ e. HasRead t file l.packets.items (Err e)) (sym out.2) refuses))
    (told-on (g.S.Shelf.files c.args.shelf.now) (g.S.Shelf.files l.shelf) c.args.name.now (lines_name l.reader.lines)
    (λ file. AreRead t file l.packets.items (left_of (said_at t) file l.reader)) (λ file. HasRead t file l.packets.items (Err fault))
    l.invariant.files l.invariant.name l.invariant.came
    (where_told (g.S.Shelf.files l.shelf) _ _ (λ files gives came. read-refused t (file_of files (lines_name l.reader.lines)) l.packets.items l.reader new came fault (gives-at t fields (file_of files (lines_name l.reader.lines)) l.reader new (Err fault) gives)) c.in_err-line.ensures.leaves))

pub returns-in_err-take_line-clause-whole : goal.returns-in_err-take_line-clause-whole
returns-in_err-take_line-clause-whole g c =
    let t = c.args.tables.now in
    let l = c.loop-reader in
    let new = c.next.new.self in
    let fields = ap (λ (x : Tables). x.fields) c.tables.ensures.tables in
    let out = err_from_is_err_and c.from_residual-in_err-take_line.result c.from_residual-in_err-take_line.ensures.1 in
    let fault = c.in_err-take_line.field-0.0 in
    let line = c.in-Some.line in
    let refused = subst (λ k. fault ≢ NoMemory → (fault ≡ Packets c.read.result) × (at_ports t (said_of k line) ≡ bad)) c.packet.ensures c.in_err-take_line.ensures.err in
    subst (λ rs. IfSome (g.S.Shelf.files c.args.shelf.now) (λ files. HasRead t (file_of files c.args.name.now) rs c.from_residual-in_err-take_line.result)) (sym c.in_err-take_line.ensures.refused)
    (where_told (g.S.Shelf.files c.args.shelf.now) _ _ (λ files refuses.
    let file = file_of files c.args.name.now in
    subst (HasRead t file l.packets.items) (sym out.1) (subst (λ e. HasRead t file l.packets.items (Err e)) (sym out.2) refuses))
    (told-on (g.S.Shelf.files c.args.shelf.now) (g.S.Shelf.files l.shelf) c.args.name.now (lines_name l.reader.lines)
    (λ file. AreRead t file l.packets.items (left_of (said_at t) file l.reader)) (λ file. HasRead t file l.packets.items (Err fault))
    l.invariant.files l.invariant.name l.invariant.came
    (where_told (g.S.Shelf.files l.shelf) _ _ (λ files gives came. (let file = file_of files (lines_name l.reader.lines) in read-taken t file l.packets.items l.reader new came line c.read.result fault c.read.ensures.read refused (subst (λ o. GivesLine t file l.reader new (Ok o)) c.in-Some.is (gives-at t fields (file_of files (lines_name l.reader.lines)) l.reader new (Ok c.in_ok-line.field-0) gives)))) c.in_ok-line.ensures.leaves)))

pub loop-reader-preserved : goal.loop-reader-preserved
loop-reader-preserved g c =
    let t = c.args.tables.now in
    let l = c.loop-reader in
    let new = c.next.new.self in
    let fields = ap (λ (x : Tables). x.fields) c.tables.ensures.tables in
    let i = l.invariant in
    let line = c.in-Some.line in
    let items = c.take_line.new.packets.items in
    let packet = packet_in new in
    let fits = subst (λ (x : Tables). FitsLine (count x.fields) packet line) c.tables.ensures.tables (subst (HasLine (count c.tables.result.now.fields) packet) c.in-Some.is c.in_ok-line.ensures.comps) in
    let takes = subst (λ k. TakesLine t k line l.packets.items items) c.packet.ensures c.in_ok-take_line.ensures.ok in
    let goes = subst (GoesOn l.reader.read new.read) c.in-Some.is c.in_ok-line.ensures.goes_on in
    record {
      came =
          (told-on (g.S.Shelf.files c.args.shelf.now) (g.S.Shelf.files l.shelf) c.args.name.now (lines_name l.reader.lines)
          (λ file. AreRead t file l.packets.items (left_of (said_at t) file l.reader)) (λ file. AreRead t file items (left_of (said_at t) file new))
          l.invariant.files l.invariant.name l.invariant.came
          (where_told (g.S.Shelf.files l.shelf) _ _ (λ files gives came. (let file = file_of files (lines_name l.reader.lines) in read-more t file l.packets.items l.reader new came line items fits (subst (λ o. GivesLine t file l.reader new (Ok o)) c.in-Some.is (gives-at t fields (file_of files (lines_name l.reader.lines)) l.reader new (Ok c.in_ok-line.field-0) gives)) takes)) c.in_ok-line.ensures.leaves));
      ready = ready-more t packet line l.packets.items items fits takes i.ready;
      long = c.next.ensures.long;
      few = (let more = goes in let m = more.0 in let e = taken-few t packet line l.packets.items items l.reader.read takes i.few in omega (arith, e, m));
      bound = goes.1;
      name = c.next.ensures.name ∙ i.name;
      agrees = c.next.ensures.agrees;
      files = c.next.ensures.files ∙ i.files;
      later = λ n. (let a = i.later n in let b = c.next.ensures.later n in omega (arith, a, b));
    }

pub returns-clause-whole : goal.returns-clause-whole
returns-clause-whole g c =
    let t = c.args.tables.now in
    let l = c.loop-reader in
    let new = c.next.new.self in
    let fields = ap (λ (x : Tables). x.fields) c.tables.ensures.tables in
    let none : c.in_ok-line.field-0 ≡ None = first_of (cc, search rules) in
    told-on (g.S.Shelf.files c.args.shelf.now) (g.S.Shelf.files l.shelf) c.args.name.now (lines_name l.reader.lines)
    (λ file. AreRead t file l.packets.items (left_of (said_at t) file l.reader)) (λ file. AreAll t file l.packets.items)
    l.invariant.files l.invariant.name l.invariant.came
    (where_told (g.S.Shelf.files l.shelf) _ _ (λ files gives came. (let file = file_of files (lines_name l.reader.lines) in read-ended t file l.packets.items l.reader new came (subst (λ o. GivesLine t file l.reader new (Ok o)) none (gives-at t fields (file_of files (lines_name l.reader.lines)) l.reader new (Ok c.in_ok-line.field-0) gives)))) c.in_ok-line.ensures.leaves)

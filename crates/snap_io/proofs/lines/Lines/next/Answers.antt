use Rattle.std.proofs.Common.{ap, refl}
use Rattle.snap_io.proofs.ReadLemmas.{IsReady, IsReady-held, IsReady-read, AnswersNext-ready, AgreesWith-kept}
use Rattle.snap_io.proofs.lines.Lines.next.Goals as goal
use Rattle.snap_io.proofs.lines.Lines.next.Goals.{then-not-holds_line+in_ok-read_line, else-not-holds_line}

pub give-requires : goal.give-requires
give-requires g c =
    let ready : IsReady (g.S.Shelf.files c.args.shelf.now) (g.S.Shelf.files c.if-not-holds_line.shelf) c.args.self.now c.if-not-holds_line.self = elim c.if-not-holds_line.branch [
      | then-not-holds_line+in_ok-read_line w ↦ let read = w.in_ok-read_line.ensures in IsReady-read _ _ _ _ _ _ w.self-is (ap g.S.Shelf.files w.shelf-is) read.reads read.agrees read.files read.settled
      | else-not-holds_line w ↦ IsReady-held _ _ _ _ w.self-is (ap g.S.Shelf.files w.shelf-is) c.requires (w.if-not-holds_line.ensures.0 refl)
    ] in
    ready.settled

pub returns-clause-next : goal.returns-clause-next
returns-clause-next g c =
    let ready : IsReady (g.S.Shelf.files c.args.shelf.now) (g.S.Shelf.files c.if-not-holds_line.shelf) c.args.self.now c.if-not-holds_line.self = elim c.if-not-holds_line.branch [
      | then-not-holds_line+in_ok-read_line w ↦ let read = w.in_ok-read_line.ensures in IsReady-read _ _ _ _ _ _ w.self-is (ap g.S.Shelf.files w.shelf-is) read.reads read.agrees read.files read.settled
      | else-not-holds_line w ↦ IsReady-held _ _ _ _ w.self-is (ap g.S.Shelf.files w.shelf-is) c.requires (w.if-not-holds_line.ensures.0 refl)
    ] in
    AnswersNext-ready _ _ _ _ c.give.new.self c.give.result ready c.give.ensures.next

pub returns-clause-agrees : goal.returns-clause-agrees
returns-clause-agrees g c =
    let ready : IsReady (g.S.Shelf.files c.args.shelf.now) (g.S.Shelf.files c.if-not-holds_line.shelf) c.args.self.now c.if-not-holds_line.self = elim c.if-not-holds_line.branch [
      | then-not-holds_line+in_ok-read_line w ↦ let read = w.in_ok-read_line.ensures in IsReady-read _ _ _ _ _ _ w.self-is (ap g.S.Shelf.files w.shelf-is) read.reads read.agrees read.files read.settled
      | else-not-holds_line w ↦ IsReady-held _ _ _ _ w.self-is (ap g.S.Shelf.files w.shelf-is) c.requires (w.if-not-holds_line.ensures.0 refl)
    ] in
    AgreesWith-kept _ _ _ c.give.ensures.name ready.agrees c.give.ensures.agrees

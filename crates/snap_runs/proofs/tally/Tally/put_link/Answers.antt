use Rattle.std.proofs.Common.{◌++◌, sym, ap, ◌∙◌}
use Rattle.std.proofs.lemmas.Result.{on_ok_weaker}
use Rattle.snap_rows.specs.declared.tables.Tables.{Tables}
use Rattle.snap_runs.specs.Crossings.{digits_of, line_text, link_of}
use Rattle.snap_runs.specs.Tallies.{name_in}
use Rattle.snap_runs.proofs.LineTexts.{line_text-split}
use Rattle.snap_runs.proofs.tally.Tally.put_link.Goals as goal

pub returns-clause-line : goal.returns-clause-line
returns-clause-line c =
    let t = c.args.tables.now in
    let from = c.args.from in
    let to = c.args.to in
    let i = c.args.number in
    let h = c.args.head in
    let k = c.args.packet.now in
    let before = c.args.self.now.hops.items in
    let digits = digits_of c.make_room.new.self.frames i h k in
    let names = ap (λ (t : Tables). link_of (name_in t.switches from) (name_in t.switches to)) c.tables.ensures.tables in
    on_ok_weaker c.put_line.result
    (λ line. line
    ∙ (λ j. c.make_room.ensures.hops j ++ (names j ++ c.in_ok-spell.ensures j))
    ∙ ap (λ l. before ++ l) (sym (line_text-split t.switches digits from to))
    ∙ ap (λ f. before ++ line_text t.switches (digits_of f i h k) from to) c.make_room.ensures.frames)
    c.put_line.ensures.line

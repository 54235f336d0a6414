use Rattle.std.proofs.Common.{◌++◌, ap, ◌∙◌}
use Rattle.std.proofs.lemmas.Result.{err_from_is_err_and}
use Rattle.std.specs.List.{flat_map}
use Rattle.snap_tables.specs.RowParts.{placed_line}
use Rattle.snap_tables.specs.Text.{first_line, last_line, names_text, ways_text}
use Rattle.snap_tables.proofs.Put.{ends-ok, ends-part, ends-short}
use Rattle.snap_tables.proofs.print.print_rows.Goals as goal

pub returns-in_err-put_sections-clause-part : goal.returns-in_err-put_sections-clause-part
returns-in_err-put_sections-clause-part g c =
    let t = c.args.tables.now in
    let rows = flat_map (placed_line c.args.parts.now c.args.bodies.now) c.args.rows.now in
    let out = err_from_is_err_and c.from_residual-in_err-put_sections.result c.from_residual-in_err-put_sections.ensures.1 in
    let first = c.in_ok-put_first.ensures ∙ ap (λ l. l ++ first_line t.version) c.in_ok-out.ensures in
    rw out.1 (ends-short _ _ c.put_first.new.out.items (first_line t.version) (names_text t ++ (ways_text t ++ rows)) last_line first c.in_err-put_sections.ensures.puts)

pub returns-clause-ok : goal.returns-clause-ok
returns-clause-ok g c =
    let t = c.args.tables.now in
    let rows = flat_map (placed_line c.args.parts.now c.args.bodies.now) c.args.rows.now in
    let first = c.in_ok-put_first.ensures ∙ ap (λ l. l ++ first_line t.version) c.in_ok-out.ensures in
    ends-ok _ _ c.put_first.new.out.items (first_line t.version) (names_text t ++ (ways_text t ++ rows)) last_line first _ c.put_sections.new.out.text.items c.in_ok-put_sections.ensures.puts c.put_end.result c.put_end.ensures.ok

pub returns-clause-part : goal.returns-clause-part
returns-clause-part g c =
    let t = c.args.tables.now in
    let rows = flat_map (placed_line c.args.parts.now c.args.bodies.now) c.args.rows.now in
    let first = c.in_ok-put_first.ensures ∙ ap (λ l. l ++ first_line t.version) c.in_ok-out.ensures in
    ends-part _ _ c.put_first.new.out.items (first_line t.version) (names_text t ++ (ways_text t ++ rows)) last_line first _ c.put_sections.new.out.text.items c.in_ok-put_sections.ensures.puts c.put_end.result c.put_end.ensures.part

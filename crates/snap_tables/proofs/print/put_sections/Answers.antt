use Rattle.std.proofs.Common.{Err, ◌++◌}
use Rattle.std.proofs.lemmas.Result.{err_from_is_err_and}
use Rattle.std.specs.List.{flat_map}
use Rattle.snap_tables.specs.RowParts.{placed_line}
use Rattle.snap_tables.specs.Text.{names_text, ways_text}
use Rattle.snap_io.proofs.OutputLemmas.{puts-short, puts-then}
use Rattle.snap_tables.proofs.print.put_sections.Goals as goal

pub returns-in_err-put_names-clause-puts : goal.returns-in_err-put_names-clause-puts
returns-in_err-put_names-clause-puts g c =
    let t = c.args.tables.now in
    let rows = flat_map (placed_line c.args.parts.now c.args.bodies.now) c.args.rows.now in
    let out = err_from_is_err_and c.from_residual.result c.from_residual.ensures.1 in
    rw out.1 (puts-short _ _ c.args.out.now.text.items (names_text t) ((ways_text t) ++ rows) c.in_err-put_names.ensures.puts)

pub returns-in_err-put_ways-clause-puts : goal.returns-in_err-put_ways-clause-puts
returns-in_err-put_ways-clause-puts g c =
    let t = c.args.tables.now in
    let rows = flat_map (placed_line c.args.parts.now c.args.bodies.now) c.args.rows.now in
    let out = err_from_is_err_and c.from_residual-in_err-put_ways.result c.from_residual-in_err-put_ways.ensures.1 in
    rw out.1 (puts-then _ _ _ c.args.out.now.text.items (names_text t) ((ways_text t) ++ rows) c.put_names.new.out.text.items c.put_ways.new.out.text.items (Err out.0) c.in_ok-put_names.ensures.puts
    (puts-short _ _ c.put_names.new.out.text.items (ways_text t) rows c.in_err-put_ways.ensures.puts))

pub returns-clause-puts : goal.returns-clause-puts
returns-clause-puts g c =
    let t = c.args.tables.now in
    let rows = flat_map (placed_line c.args.parts.now c.args.bodies.now) c.args.rows.now in
    puts-then _ _ _ c.args.out.now.text.items (names_text t) ((ways_text t) ++ rows) c.put_names.new.out.text.items c.put_rows.new.out.text.items c.put_rows.result c.in_ok-put_names.ensures.puts
    (puts-then _ _ _ c.put_names.new.out.text.items (ways_text t) rows c.put_ways.new.out.text.items c.put_rows.new.out.text.items c.put_rows.result c.in_ok-put_ways.ensures.puts c.put_rows.ensures.puts)

use Rattle.std.proofs.Common.{◌++◌, sym, ap, ◌∙◌}
use Rattle.snap_cli.specs.Routes.{line_between}
use Rattle.snap_cli.proofs.Parts.{parts_more}
use Rattle.snap_cli.proofs.routes.lines_from.Goals as goal

pub loop-b-preserved : goal.loop-b-preserved
loop-b-preserved c =
    let line = line_between c.args.switches.now c.args.routes.now c.args.a in
    c.in_ok-put_between.ensures ∙ ap (λ text. text ++ line c.loop-b.b) c.loop-b.invariant ∙ sym (parts_more line c.loop-b.b)

use Rattle.std.proofs.Common.{◌≡◌, ◌<◌, ◌≤◌, ◌∙◌, Err, length, sym, ap, subst, arith}
use Rattle.std.proofs.KnownBytes.{Appends-trans}
use Rattle.std.proofs.lemmas.Result.{err_from_is_err_and}
use Rattle.std.specs.Io.KnownBytes.{Appends}
use Rattle.std.specs.List.{flat_map, range_with_len}
use Rattle.snap_io.specs.Sinks.{AppendsPart}
use Rattle.snap_cli.specs.declared.refusal.Refusal.TheVariants as refused
use Rattle.snap_cli.specs.Routes.{end_text, lines_from, routes_text}
use Rattle.snap_cli.specs.RoutesSteps.{Writes}
use Rattle.snap_cli.proofs.Parts.{parts_cut, parts_more, parts_stopped, tail_cut}
use Rattle.snap_cli.proofs.routes.write_routes.Goals as goal

pub returns-in_err-lines-clause-writes : goal.returns-in_err-lines-clause-writes
returns-in_err-lines-clause-writes g c =
    let names = c.args.switches.now in
    let table = c.args.routes.now in
    let before = g.O.Sink.taken c.args.out.now in
    let now = g.O.Sink.taken c.loop-a.out in
    let p = err_from_is_err_and c.from_residual.result c.from_residual.ensures.1 in
    let is : c.from_residual.result ≡ Err refused.NoMemory = p.1 ∙ ap (λ e. Err e) p.2 in
    let few : c.loop-a.a ≤ length names = omega (arith, ap length c.items.ensures) in
    subst (λ r. Writes (routes_text names table) r before now) (sym is)
    (parts_stopped (lines_from names table) (length names) (end_text table.diameter) before now c.loop-a.a few c.loop-a.invariant.written)

pub returns-in_err-write_whole-clause-writes : goal.returns-in_err-write_whole-clause-writes
returns-in_err-write_whole-clause-writes g c =
    let names = c.args.switches.now in
    let table = c.args.routes.now in
    let before = g.O.Sink.taken c.args.out.now in
    let between = g.O.Sink.taken c.loop-a.out in
    let now = g.O.Sink.taken c.write_whole.new.sink in
    let p = err_from_is_err_and c.from_residual-in_err-write_whole.result c.from_residual-in_err-write_whole.ensures.1 in
    let is : c.from_residual-in_err-write_whole.result ≡ Err refused.Write = p.1 ∙ ap (λ e. Err e) p.2 in
    let few : c.loop-a.a < length names = omega (arith, ap length c.items.ensures) in
    let part : AppendsPart between now (lines_from names table c.loop-a.a) = subst (λ text. AppendsPart between now text) (c.deref.ensures.value ∙ c.in_ok-lines.ensures) c.in_err-write_whole.ensures.err in
    subst (λ r. Writes (routes_text names table) r before now) (sym is)
    (parts_cut (lines_from names table) (length names) (end_text table.diameter) before between now c.loop-a.a few c.loop-a.invariant.written part)

pub loop-a-preserved : goal.loop-a-preserved
loop-a-preserved g c =
    let before = g.O.Sink.taken c.args.out.now in
    let between = g.O.Sink.taken c.loop-a.out in
    let now = g.O.Sink.taken c.write_whole.new.sink in
    let lines = lines_from c.args.switches.now c.args.routes.now in
    let written : Appends between now (lines c.loop-a.a) = subst (Appends between now) (c.deref.ensures.value ∙ c.in_ok-lines.ensures) c.in_ok-write_whole.ensures.ok in
    record {
      written = subst (Appends before now) (sym (parts_more lines c.loop-a.a)) (Appends-trans before between now (flat_map lines (range_with_len 0 c.loop-a.a)) (lines c.loop-a.a) c.loop-a.invariant.written written);
      later = omega (arith, c.in_ok-write_whole.ensures.cause.later);
    }

pub returns-in_err-write_end-clause-writes : goal.returns-in_err-write_end-clause-writes
returns-in_err-write_end-clause-writes g c =
    let names = c.args.switches.now in
    let table = c.args.routes.now in
    let before = g.O.Sink.taken c.args.out.now in
    let between = g.O.Sink.taken c.loop-a.out in
    let now = g.O.Sink.taken c.write_end.new.out in
    let p = err_from_is_err_and c.from_residual-in_err-write_end.result c.from_residual-in_err-write_end.ensures.1 in
    let is : c.from_residual-in_err-write_end.result ≡ Err refused.Write = p.1 ∙ ap (λ e. Err e) p.2 in
    let all : c.loop-a.a ≡ length names = omega (arith, ap length c.items.ensures) in
    let written : Appends before between (flat_map (lines_from names table) (range_with_len 0 (length names))) = subst (λ n. Appends before between (flat_map (lines_from names table) (range_with_len 0 n))) all c.loop-a.invariant.written in
    let part : AppendsPart between now (end_text table.diameter) = subst (λ d. AppendsPart between now (end_text d)) c.diameter.ensures c.in_err-write_end.ensures.err in
    subst (λ r. Writes (routes_text names table) r before now) (sym is)
    (tail_cut (lines_from names table) (length names) (end_text table.diameter) before between now written part)

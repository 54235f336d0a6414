use Rattle.std.proofs.Common.{◌≡◌, Some, sym, subst, ◌∙◌}
use Rattle.std.specs.Prelude.{IsSome}
use Rattle.std.proofs.lemmas.Bool.{false≢true}
use Rattle.std.proofs.lemmas.Result.{on_ok_weaker}
use Rattle.snap_rows.specs.declared.head.Head.TheVariants.{Out}
use Rattle.snap_rows.specs.Entries.{port_at}
use Rattle.snap_rows.specs.Ways.{Way}
use Rattle.snap_rows.proofs.Bounded.{port_below}
use Rattle.std.proofs.lemmas.Option.{same_Some}
use Rattle.snap_runs.proofs.Passing.{sees-way}
use Rattle.snap_runs.proofs.tally.TallyWatch.go_out.Goals as goal

pub put_way-requires-clause-to : goal.put_way-requires-clause-to
put_way-requires-clause-to c = port_below c.args.tables.now c.tables-known.ensures.form c.args.port c.in-Some.to (sym c.port_at.ensures ∙ c.in-Some.is)

pub returns-in-Some : goal.returns-in-Some
returns-in-Some c =
    let t = c.args.tables.now in
    let w = c.args.from in
    let at : port_at t c.args.port ≡ Some c.in-Some.to = sym c.port_at.ensures ∙ c.in-Some.is in
    on_ok_weaker c.put_way.result
    (λ put x ws gs is way crosses. sees-way t c.args.self.now c.put_way.new.self c.args.number (Out c.args.port) c.args.packet.now w ws gs crosses c.put_way.ensures.frames (put ws (subst (λ v. Way t v w ws) (same_Some x c.in-Some.to (sym is ∙ at)) way)))
    c.put_way.ensures.lines

pub returns-in-None : goal.returns-in-None
returns-in-None c = absurd (false≢true (subst IsSome (sym c.port_at.ensures ∙ c.in-None.is) c.requires.port))

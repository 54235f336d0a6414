use Rattle.std.proofs.Common.{List, ap, reverse, sym, subst, ◌∙◌}
use Rattle.std.proofs.lemmas.Result.{on_ok_weaker}
use Rattle.snap_rows.specs.declared.tables.Tables.{Tables}
use Rattle.snap_runs.specs.declared.later.Later.{Later}
use Rattle.snap_runs.specs.declared.mover.Mover.{Mover}
use Rattle.snap_runs.specs.Changing.{IsAhead}
use Rattle.snap_runs.specs.Moving.{IsNotDue}
use Rattle.snap_rows.proofs.Following.{OnOk-both}
use Rattle.snap_runs.proofs.ChangesSettling.{keeps-changed, next-shape, settled-not_due, shape-count, stands-changed}
use Rattle.snap_runs.proofs.mover.Mover.make_due.Goals as goal

pub change-requires : goal.change-requires
change-requires c =
    let m = c.args.self.now in
    shape-count c.in-Some.next.tables m.tracer.net.tables (next-shape m c.next_due.new.later.items c.in-Some.next c.in-Some.ensures.0 c.requires)

pub returns-in-Some-clause-stands : goal.returns-in-Some-clause-stands
returns-in-Some-clause-stands c =
    let m = c.args.self.now in
    let m' : Mover = record { alloc = m.alloc; tracer = c.change.new.self; later = c.next_due.new.later } in
    let l = c.in-Some.next in
    OnOk-both c.change.result (λ tables shown. stands-changed m m' l c.in-Some.ensures.0 (c.in-Some.ensures.1 ∙ c.taken.ensures) tables c.change.ensures.injected c.requires shown) c.change.ensures.tables c.change.ensures.changed

pub returns-in-Some-clause-keeps : goal.returns-in-Some-clause-keeps
returns-in-Some-clause-keeps c =
    let m = c.args.self.now in
    let m' : Mover = record { alloc = m.alloc; tracer = c.change.new.self; later = c.next_due.new.later } in
    let l = c.in-Some.next in
    OnOk-both c.change.result (λ tables shown. keeps-changed m m' l c.in-Some.ensures.0 (c.in-Some.ensures.1 ∙ c.taken.ensures) tables c.change.ensures.injected c.requires) c.change.ensures.tables c.change.ensures.changed

pub returns-in-None-clause-settled : goal.returns-in-None-clause-settled
returns-in-None-clause-settled c =
    let m = c.args.self.now in
    subst (λ (items : List Later). IsAhead (reverse items) m.tracer.net.injected) (sym c.in-None.ensures.0)
    (settled-not_due m c.requires (subst (IsNotDue m.later.items) c.taken.ensures c.in-None.ensures.1))

pub returns-in-Some-clause-fields : goal.returns-in-Some-clause-fields
returns-in-Some-clause-fields c =
    let m = c.args.self.now in
    let l = c.in-Some.next in
    on_ok_weaker c.change.result (λ tables. ap (λ (t : Tables). t.fields) tables ∙ (next-shape m c.next_due.new.later.items l c.in-Some.ensures.0 c.requires).fields) c.change.ensures.tables

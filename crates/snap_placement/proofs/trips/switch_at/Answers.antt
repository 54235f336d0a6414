use Rattle.std.proofs.Common.{rules, sym}
use Rattle.std.proofs.lemmas.List.Sorted.{answers_always}
use Rattle.snap_core.specs.declared.ports.PortAt.{PortAt}
use Rattle.snap_placement.proofs.Ported.{found-at, found-none}
use Rattle.snap_placement.proofs.trips.switch_at.Goals as goal

-- the closure gives a port's number
pub returns-in-Ok : goal.returns-in-Ok
returns-in-Ok c =
    let found = c.in-Ok.ensures.position (λ (p : PortAt). p.port) (answers_always _ _ _ (λ f a r g called. search rules)) in
    sym (found-at c.args.ports.now c.requires c.args.port c.in-Ok.at c.in-Ok.ensures.bound found)

pub returns-in-Err : goal.returns-in-Err
returns-in-Err c =
    let found = c.in-Err.ensures.position (λ (p : PortAt). p.port) (answers_always _ _ _ (λ f a r g called. search rules)) in
    sym (found-none c.args.ports.now c.requires c.args.port c.in-Err.field-0 c.in-Err.ensures.bound found)

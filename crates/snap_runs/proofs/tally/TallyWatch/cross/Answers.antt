use Rattle.std.proofs.Common.{◌≡◌, ◌∷◌, [], sym, subst}
use Rattle.std.proofs.lemmas.Result.{on_ok_weaker}
use Rattle.snap_net.specs.Travels.{WayOf}
use Rattle.snap_runs.proofs.Passing.{sees-link, sees-way}
use Rattle.snap_runs.proofs.tally.TallyWatch.cross.Goals as goal

pub returns-in-Out : goal.returns-in-Out
returns-in-Out c =
    let t = c.args.tables.now in
    let w = c.args.from in
    let x = c.args.target in
    on_ok_weaker c.put_way.result
    (λ put ws gs way crosses. sees-way t c.args.self.now c.put_way.new.self c.args.number c.args.head c.args.packet.now w ws gs crosses c.put_way.ensures.frames (put ws (subst (λ h. WayOf t h w x ws) c.in-Out.is way)))
    c.put_way.ensures.lines

pub returns-in-Visit : goal.returns-in-Visit
returns-in-Visit c =
    let t = c.args.tables.now in
    let w = c.args.from in
    let x = c.args.target in
    on_ok_weaker c.put_way-in-Visit.result
    (λ put ws gs way crosses. sees-way t c.args.self.now c.put_way-in-Visit.new.self c.args.number c.args.head c.args.packet.now w ws gs crosses c.put_way-in-Visit.ensures.frames (put ws (subst (λ h. WayOf t h w x ws) c.in-Visit.is way)))
    c.put_way-in-Visit.ensures.lines

pub returns-in-Walk : goal.returns-in-Walk
returns-in-Walk c =
    let t = c.args.tables.now in
    let w = c.args.from in
    let x = c.args.target in
    on_ok_weaker c.put_link.result
    (λ line ws gs way crosses. sees-link t c.args.self.now c.put_link.new.self c.args.number c.args.head c.args.packet.now w c.next-to.result ws gs (subst (λ v. ws ≡ v ∷ []) (sym c.next-to.ensures) (subst (λ h. WayOf t h w x ws) c.in-Walk.is way)) crosses c.put_link.ensures.frames line)
    c.put_link.ensures.line

pub returns-in-Stage : goal.returns-in-Stage
returns-in-Stage c =
    let t = c.args.tables.now in
    let w = c.args.from in
    let x = c.args.target in
    on_ok_weaker c.put_link-in-Stage.result
    (λ line ws gs way crosses. sees-link t c.args.self.now c.put_link-in-Stage.new.self c.args.number c.args.head c.args.packet.now w c.next-to-in-Stage.result ws gs (subst (λ v. ws ≡ v ∷ []) (sym c.next-to-in-Stage.ensures) (subst (λ h. WayOf t h w x ws) c.in-Stage.is way)) crosses c.put_link-in-Stage.ensures.frames line)
    c.put_link-in-Stage.ensures.line

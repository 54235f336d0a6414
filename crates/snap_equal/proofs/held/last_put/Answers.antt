-- A put that is surely there tells what the place holds.
use Rattle.std.proofs.Common.{◌≡◌, ℕ, ◌<◌, ◌++◌, ◌∷◌, [], ◌-◌, length, take, sym, ap, ◌∙◌, subst, arith}
use Rattle.std.proofs.lemmas.List.{take_more}
use Rattle.snap_core.specs.declared.policy.Update.{Update}
use Rattle.snap_core.specs.Arrays.{place_at}
use Rattle.snap_core.specs.Fits.{OpFits}
use Rattle.snap_equal.proofs.Holding.{held_put}
use Rattle.snap_equal.proofs.Telling.{told_true}
use Rattle.snap_equal.proofs.held.last_put.Goals as goal

pub returns-in-Ok-true-clause-held : goal.returns-in-Ok-true-clause-held
returns-in-Ok-true-clause-held c =
    let u : Update = c.index-updates-i.result in
    let j : ℕ = c.loop-i.i - 1 in
    let l : j < length c.args.updates.now = omega arith in
    let whole = take_more c.args.updates.now j u l ∙ ap (λ (x : Update). take j c.args.updates.now ++ x ∷ []) (sym c.index-updates-i.is) in
    let fits : OpFits (length c.args.ctx.now.classes) u.op = rw (sym c.index-updates-i.is) at (c.requires.updates j u l).op in
    rw (whole, c.term_of.ensures)
    (held_put c.args.ctx.now (take j c.args.updates.now) u c.args.var c.args.index.now c.in-Put.atom c.in-Put.is (subst (OpFits (length c.args.ctx.now.classes)) c.in-Put.is fits)
    (told_true c.args.ctx.now (λ m k. place_at u.var u.index k ≡ place_at c.args.var c.args.index.now k) c.in-Ok-true.field-0 c.in-Ok-true.field-0-test c.in-Ok-true.ensures))

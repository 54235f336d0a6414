use Rattle.std.proofs.Common.{◌≡◌, ◌<◌, ◌+◌, ◌∷◌, length, get_or, drop, ap, sym, ◌∙◌, rules, add-one}
use Rattle.std.proofs.Math.Seq.{drop-cons}
use Rattle.snap_core.specs.Arrays.{updates, update}
use Rattle.snap_core.specs.Cells.{arrays_of, overlaid}
use Rattle.snap_core.proofs.store.Store.after_updates.Goals as goal

pub loop-change-preserved : goal.loop-change-preserved
loop-change-preserved c =
    let changes = c.args.changes.now in
    let i = c.loop-change.change-index in
    let k = c.args.packet.now in
    let m = overlaid (arrays_of c.args.self.now) c.loop-change.done in
    let within : i < length changes = search rules in
    let cut : drop i changes ≡ get_or changes i c.change-item.result ∷ drop (i + 1) changes = rw add-one (drop-cons changes i c.change-item.result within) in
    ap (λ n. updates n (drop (i + 1) changes) k) (c.in_ok-update.ensures ∙ ap (λ u. update m u k) c.change-item.is)
    ∙ sym (ap (λ us. updates m us k) cut)
    ∙ c.loop-change.invariant

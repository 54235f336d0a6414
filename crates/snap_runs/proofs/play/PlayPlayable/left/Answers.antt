use Rattle.std.proofs.Common.{◌≡◌, length, rules, sym, ◌∙◌}
use Rattle.snap_runs.proofs.Playing.{left-count}
use Rattle.snap_runs.proofs.play.PlayPlayable.left.Goals as goal

pub returns : goal.returns
returns c =
    let e : c.len.result ≡ length c.args.self.now.waiting.items = search rules in
    e ∙ sym (left-count c.args.self.now.waiting.items)

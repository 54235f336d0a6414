use Rattle.std.proofs.Common.{◌≡◌, [], rules, refl}
use Rattle.snap_runs.specs.declared.play.Play.{Play}
use Rattle.snap_runs.proofs.Playing.{left-first, plays-first}
use Rattle.snap_runs.proofs.play.PlayPlayable.open.Goals as goal

pub returns-clause-plays : goal.returns-clause-plays
returns-clause-plays c =
    let v : Play = record { alloc = c.args.alloc; net = c.in_ok-net.net; hops = c.args.hops; tallies = c.new.result; waiting = c.reversed-waiting.result } in
    let none : c.new.result.items ≡ [] = first_of (search rules, cc) in
    plays-first c.args.tables c.args.hops c.args.packets.items v c.in_ok-net.ensures.tables refl c.in_ok-net.ensures.start none c.reversed-waiting.ensures c.requires.ready

pub returns-clause-left : goal.returns-clause-left
returns-clause-left c = left-first c.args.packets.items c.reversed-waiting.result.items c.reversed-waiting.ensures

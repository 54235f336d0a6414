use Rattle.std.proofs.Common.{◌≡◌, ◌+◌, length}
use Rattle.snap_runs.specs.Playing.{SoPut}
use Rattle.snap_runs.proofs.play.put_blocks.Given as goal

abbrev pub invariant-loop-tally : goal.invariant-loop-tally
invariant-loop-tally l = record {
  put : SoPut l.fields l.fn.tallies.items l.tallies.items l.number l.fn.out.items l.out.items;
  bound : l.number + length l.tallies.items ≡ length l.fn.tallies.items;
}

abbrev pub decreases-loop-tally : goal.decreases-loop-tally
decreases-loop-tally l = length l.tallies.items

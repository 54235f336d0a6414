-- The numbers so far are marked.
use Rattle.std.proofs.Common.{◌≡◌, length}
use Rattle.snap_build.specs.Races.{AreRaceFree}
use Rattle.snap_build.proofs.races.race_free_ones.Given as goal

abbrev pub invariant-loop-id : goal.invariant-loop-id
invariant-loop-id l = record {
  count : length l.race_free.items ≡ l.id;
  marked : AreRaceFree l.nodes l.race_free.items;
}

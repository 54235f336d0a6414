use Rattle.std.proofs.Common.{◌≡◌, [], map}
use Rattle.std.specs.List.{range_with_len}
use Rattle.snap_demo.specs.Packets.{packet_of}
use Rattle.snap_demo.specs.Runs.{HasRun}
use Rattle.snap_demo.proofs.run.run.Given as goal

abbrev pub invariant-loop-number : goal.invariant-loop-number
invariant-loop-number l = record {
  run : HasRun (map (packet_of l.switches) (range_with_len 0 l.number)) l.net l.counts;
  rests : l.net.flying ≡ [];
  tables : l.net.tables ≡ l.initial.net.tables;
  injected : l.net.injected ≡ l.number;
}

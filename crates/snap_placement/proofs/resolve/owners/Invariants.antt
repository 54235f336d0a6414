use Rattle.std.proofs.Common.{◌≡◌, ◌++◌, drop, not}
use Rattle.std.specs.List.{position_from}
use Rattle.snap_placement.specs.Answer.{is_at_switch, no_switch, owners, place_of}
use Rattle.snap_placement.specs.Texts.{entry_texts}
use Rattle.snap_placement.proofs.resolve.owners.Given as goal

abbrev pub invariant-loop-var : goal.invariant-loop-var
invariant-loop-var l = record {
  all : l.owned.items ++ owners (drop l.var l.arrays) l.switches (entry_texts l.entries) ≡ owners l.arrays l.switches (entry_texts l.entries);
  known : position_from (λ name. not (is_at_switch l.switches (place_of (entry_texts l.entries) name))) l.var (drop l.var l.arrays) ≡ no_switch l.arrays l.switches (entry_texts l.entries);
}

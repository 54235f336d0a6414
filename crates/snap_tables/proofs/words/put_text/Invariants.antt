use Rattle.std.proofs.Common.{◌≡◌, ◌++◌, ◌+◌, ◌-◌, ◌≤◌, length, take}
use Rattle.std.specs.Vec.{vec_capacity, vec_len}
use Rattle.snap_tables.proofs.words.put_text.Given as goal

abbrev pub invariant-loop-byte : goal.invariant-loop-byte
invariant-loop-byte l =
    record {
      items : l.out.items ≡ l.initial.out.items ++ take l.byte-index l.text;
      room : vec_len l.out + (length l.text - l.byte-index) ≤ vec_capacity l.out;
    }

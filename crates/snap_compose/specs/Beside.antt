-- Two answers side by side.
use Rattle.std.specs.Prelude.{ℕ, Bool, ◌||◌, Option, Some, None, bit_or, if◌then◌else◌}
use Rattle.snap_core.specs.Arrays.{Arrays, taken, meets}
use Rattle.snap_core.specs.Packets.{union}
use Rattle.snap_diagrams.specs.Leaves.{Answer}

-- the logs of two answers clash: one writes what the other reads or writes
abbrev pub logs_clash : ℕ → ℕ → ℕ → ℕ → Bool
logs_clash r w r' w' = meets w (bit_or r' w') || meets w' (bit_or r w)

-- m, with the variables of w as n has them and those of w' as n' has them
abbrev pub merged : Arrays → Arrays → ℕ → Arrays → ℕ → Arrays
merged m n w n' w' = taken (taken m n w) n' w'

-- the parallel rule, for every store
abbrev pub beside : Option Answer → Option Answer → Option Answer
beside None b = None
beside (Some x) None = None
beside (Some x) (Some y) =
    if logs_clash x.reads x.writes y.reads y.writes then None else
    Some (record {
      packets = union x.packets y.packets;
      reads = bit_or x.reads y.reads;
      writes = bit_or x.writes y.writes;
      change = λ m. merged m (x.change m) x.writes (y.change m) y.writes;
    })

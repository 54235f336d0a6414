use Rattle.std.proofs.Common.{◌≡◌, ◌≤◌, ℕ, false, length}
use Rattle.std.specs.Prelude.{nat_eq}
use Rattle.std.specs.List.{list_any}
use Rattle.snap_core.specs.Cells.{arrays_of, changed_at, room_at}
use Rattle.snap_core.proofs.store.Store.make_room.Given as goal

-- there is room for each variable but those that are left
abbrev pub invariant-loop-var : goal.invariant-loop-var
invariant-loop-var l = record {
  same : arrays_of l.self ≡ arrays_of l.fn.self;
  room : (s : ℕ) → list_any (nat_eq s) l.var-iterator ≡ false → length (changed_at l.changes s) ≤ room_at l.self s;
}

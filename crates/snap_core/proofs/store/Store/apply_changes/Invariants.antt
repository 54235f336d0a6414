use Rattle.std.proofs.Common.{◌≡◌, ◌≤◌, ℕ, length}
use Rattle.std.specs.Prelude.{nat_eq}
use Rattle.std.specs.List.{IsDistinct}
use Rattle.std.specs.Map.{keys_of}
use Rattle.snap_core.specs.declared.place.Place.{Place}
use Rattle.snap_core.specs.Cells.{arrays_of, overlaid, changed_at, room_at}
use Rattle.snap_core.proofs.store.Store.apply_changes.Given as goal

-- the changes that are left lie over those done so far
abbrev pub invariant-loop-var : goal.invariant-loop-var
invariant-loop-var l = record {
  distinct : IsDistinct nat_eq (keys_of l.var-iterator);
  room : (s : ℕ) → length (changed_at l.var-iterator s) ≤ room_at l.self s;
  arrays : (p : Place) → overlaid (arrays_of l.self) l.var-iterator p ≡ overlaid (arrays_of l.fn.self) l.fn.changes p;
}

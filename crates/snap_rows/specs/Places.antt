-- Entries that rise by two numbers, and their places.
use Rattle.std.specs.Prelude.{◌≡◌, ℕ, Bool, true, false, ◌&&◌, ◌||◌, ◌==◌, nat_lt, Option, Some, None, List, slice_get, if◌then◌else◌}
use Rattle.std.specs.Ordering.{nat_cmp, ordering_then}
use Rattle.std.specs.List.Sorted.{IsStrictlySortedBy, IsPartitionPoint}
use Rattle.snap_core.specs.declared.ports.PortAt.{PortAt}
use Rattle.snap_rows.specs.declared.tables.Hop.{Hop}
use Rattle.snap_rows.specs.declared.tables.RowAt.{RowAt}

-- entries rise by f, and among those of equal f by g
abbrev pub Rising : {X : Type 0} → (X → ℕ) → (X → ℕ) → List X → Type 0
Rising f g xs = IsStrictlySortedBy (λ x y. ordering_then (nat_cmp (f x) (f y)) (nat_cmp (g x) (g y))) xs

-- an entry stands before those of the numbers a and b
abbrev pub is_before : {X : Type 0} → (X → ℕ) → (X → ℕ) → ℕ → ℕ → X → Bool
is_before f g a b x = nat_lt (f x) a || ((f x == a) && nat_lt (g x) b)

-- so many of the entries stand before those of the numbers a and b, and no other does
abbrev pub StandBefore : {X : Type 0} → (X → ℕ) → (X → ℕ) → ℕ → ℕ → List X → ℕ → Type 0
StandBefore f g a b xs n = IsPartitionPoint (λ x. is_before f g a b x ≡ true) (λ x. is_before f g a b x ≡ false) xs n

-- the row at this place is that of switch w and number n
abbrev pub IsRowPlace : List RowAt → ℕ → ℕ → ℕ → Type 0
IsRowPlace rows w n i = (r : RowAt) × (slice_get rows i ≡ Some r) × (r.at ≡ w) × (r.number ≡ n)

-- the next hop from w towards x that this entry says; w where it says none
abbrev pub hop_said : Option Hop → ℕ → ℕ → ℕ
hop_said None w x = w
hop_said (Some h) w x = if (h.from == w) && (h.target == x) then h.next else w

-- the port of number n, if it is this one
abbrev pub port_said : Option PortAt → ℕ → Option PortAt
port_said None n = None
port_said (Some p) n = if p.port == n then Some p else None

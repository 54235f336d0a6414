-- The leads of a row, parted into those at its own switch and those of its own number, and those that it makes at once.
use Rattle.std.specs.Prelude.{◌≡◌, ◌≢◌, ◌⊎◌, ◌↔◌, ℕ, suc, List, ◌∷◌, map, Contains, IsSome}
use Rattle.snap_rows.specs.declared.tables.Tables.{Tables}
use Rattle.snap_rows.specs.declared.tables.Row.{Row}
use Rattle.snap_rows.specs.declared.tables.Row.TheVariants.{Field, State, Go, Leaf, Stop, Last}
use Rattle.snap_rows.specs.declared.tables.Stage.{Stage as LeafStage}
use Rattle.snap_rows.specs.Entries.{row_at, next, rank_of, ranks, var_of}
use Rattle.snap_rows.specs.Ways.{Route, OwnsBelow, LeadsTo}

-- a test row leads to this number at its own switch
abbrev pub IsNumberAfter : Row → ℕ → Type 0
IsNumberAfter (Field test y z) k = (k ≡ y) ⊎ (k ≡ z)
IsNumberAfter (State test y z) k = (k ≡ y) ⊎ (k ≡ z)
IsNumberAfter _ k = ⊥

-- the row of a number at switch w leads to switch x and the same number
abbrev pub LeadsOver : Tables → ℕ → Row → ℕ → Type 0
LeadsOver t w (Field test y z) x = ⊥
LeadsOver t w (State test y z) x = (t.version ≡ 2) × OwnsBelow t (suc (rank_of t (var_of test))) x
LeadsOver t w (Go to) x = x ≡ next t w to
LeadsOver t w (Leaf stages outs) x = (ws : List ℕ) × Route t w (map (λ (s : LeafStage). s.at) stages) ws × Contains ws x
LeadsOver t w Stop x = OwnsBelow t 1 x
LeadsOver t w (Last ups outs) x = OwnsBelow t (ranks t) x

-- the list has exactly the switches to which the row leads with its own number
abbrev pub AreLedOver : Tables → ℕ → Row → List ℕ → Type 0
AreLedOver t w b xs = (x : ℕ) → LeadsOver t w b x ↔ Contains xs x

-- each lead of a row has a row
abbrev pub HaveRows : Tables → ℕ → ℕ → Row → Type 0
HaveRows t w n b = (x k : ℕ) → LeadsTo t w n b x k → IsSome (row_at t x k)

-- The same but for a leaf whose first stage stands elsewhere: at once it leads to the next hop towards that. Where its
-- number goes from there on are leads of its row there.
abbrev pub LeadsNext : Tables → ℕ → Row → ℕ → Type 0
LeadsNext t w (Leaf (s ∷ ss) outs) x = ((s.at ≢ w) × (x ≡ next t w s.at)) ⊎ ((s.at ≡ w) × LeadsOver t w (Leaf (s ∷ ss) outs) x)
LeadsNext t w b x = LeadsOver t w b x

-- the list has exactly the switches to which the row leads at once with its own number
abbrev pub AreLedNext : Tables → ℕ → Row → List ℕ → Type 0
AreLedNext t w b xs = (x : ℕ) → LeadsNext t w b x ↔ Contains xs x

-- P holds of each pair to which the row of switch w and number n leads at once
abbrev pub HoldsNext : (ℕ → ℕ → Type 0) → Tables → ℕ → ℕ → Row → Type 0
HoldsNext P t w n b = ((k : ℕ) → IsNumberAfter b k → P w k) × ((x : ℕ) → LeadsNext t w b x → P x n)

-- each pair to which the row leads at once has a row
abbrev pub HaveNext : Tables → ℕ → ℕ → Row → Type 0
HaveNext t w n b = HoldsNext (λ x k. IsSome (row_at t x k)) t w n b

-- Lists by pairs of numbers: rows by switch and number, next hops by switch and target.
use Rattle.std.specs.Prelude.{ℕ, zero, suc, ◌==◌, Option, Some, None, List, [], ◌∷◌, ◌++◌, if◌then◌else◌}
use Rattle.snap_topology.specs.Tables.{Table, next_of}
use Rattle.snap_rows.specs.declared.tables.Hop.{Hop}
use Rattle.snap_rows.specs.declared.tables.Row.{Row}
use Rattle.snap_rows.specs.declared.tables.RowAt.{RowAt}

-- what stands for a pair of numbers
abbrev pub Entry : Type 0 → Type 0
Entry X = ℕ × ℕ × X

abbrev pub row_entry : RowAt → Entry Row
row_entry r = (r.at, r.number, r.row)

abbrev pub hop_entry : Hop → Entry ℕ
hop_entry h = (h.from, h.target, h.next)

abbrev pub one_entry : {X : Type 0} → ℕ → ℕ → Option X → List (Entry X)
one_entry w n None = []
one_entry w n (Some x) = (w, n, x) ∷ []

-- what g gives at w for the numbers below n
abbrev pub at_switch : {X : Type 0} → (ℕ → Option X) → ℕ → ℕ → List (Entry X)
at_switch g w zero = []
at_switch g w (suc n) = at_switch g w n ++ one_entry w n (g n)

-- and at each switch below w
abbrev pub at_switches : {X : Type 0} → (ℕ → ℕ → Option X) → ℕ → ℕ → List (Entry X)
at_switches g zero n = []
at_switches g (suc w) n = at_switches g w n ++ at_switch (g w) w n

-- a next hop for each two switches
abbrev pub hop_for : Table → ℕ → ℕ → Option ℕ
hop_for routes a b = if a == b then None else Some (next_of routes a b)

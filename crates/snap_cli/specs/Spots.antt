-- Lines and columns of a text.
use Rattle.std.specs.Prelude.{ℕ, ◌+◌, ◌==◌, if◌then◌else◌, List, [], ◌∷◌, take}
use Rattle.snap_cli.specs.declared.spot.Position.{Position}

-- the place behind a byte
abbrev pub spot_behind : Position → ℕ → Position
spot_behind spot b = if b == 10 then record { line = spot.line + 1; column = 1 } else record { line = spot.line; column = spot.column + 1 }

abbrev pub spot_after : Position → List ℕ → Position
spot_after spot [] = spot
spot_after spot (b ∷ bs) = spot_after (spot_behind spot b) bs

-- the line and the column of the byte at `at`, both counted from 1, columns in bytes
abbrev pub spot_of : List ℕ → ℕ → Position
spot_of text at = spot_after (record { line = 1; column = 1 }) (take at text)

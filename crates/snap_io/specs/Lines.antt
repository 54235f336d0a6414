-- The lines of a file, one after another, within limits on the file's bytes and on those of a line.
use Rattle.std.specs.List.{position_or_len}
use Rattle.std.specs.Prelude.{ℕ, ◌+◌, not, ◌&&◌, ◌==◌, nat_lt, nat_le, min, if◌then◌else◌, List, length, take_while, drop}

-- what stands next in a file: a line, with the place behind it and its LF; nothing; a line that is too long; or
-- a line that doesn't end within the limit on bytes
pub data Next : Type 0 where
  next_line : (text : List ℕ) → (behind : ℕ) → Next
  no_line : Next
  long_line : Next
  many_bytes : Next

-- how many bytes stand before the first LF, or in all where there is none
abbrev pub before_lf : List ℕ → ℕ
before_lf bytes = position_or_len (λ b. b == 10) bytes

-- the bytes before the first LF, or all where there is none
abbrev pub first_line : List ℕ → List ℕ
first_line bytes = take_while (λ b. not (b == 10)) bytes

-- what stands next from a place on. The last line may lack its LF and ends with the file then
abbrev pub next_in : (limit most : ℕ) → (file : List ℕ) → (at : ℕ) → Next
next_in limit most file at =
    let line = first_line (drop at file) in
    let behind = min (at + length line + 1) (length file) in
    if nat_le (length file) at then no_line else
    if nat_lt most (length line) && nat_lt (at + most) limit then long_line else
    if nat_le behind limit then next_line line behind else many_bytes

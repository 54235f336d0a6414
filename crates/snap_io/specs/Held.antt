-- What a buffer of bytes that were read holds.
use Rattle.std.specs.Prelude.{◌≡◌, ℕ, ◌≤◌, List, ◌++◌, length, take, drop, slice_range}
use Rattle.snap_io.specs.declared.held.Held.{Held}

-- the bytes read and not yet given
abbrev pub held_bytes : Held → List ℕ
held_bytes held = slice_range held.buffer.items held.start held.end

-- the line given last
abbrev pub held_line : Held → List ℕ
held_line held = slice_range held.buffer.items held.line_start held.line_end

-- how many bytes a line may have
abbrev pub held_most : Held → ℕ
held_most held = held.most

-- the new bytes are the old ones and so many of the file's from this place on; none came only at the file's end
pub record GrowsBy (file : List ℕ) (from count : ℕ) (old new : List ℕ) : Type 0 where
  pub bytes : new ≡ old ++ take count (drop from file)
  pub ended : count ≡ 0 → length file ≤ from

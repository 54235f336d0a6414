-- What a reader of lines holds, and what its answers say of the file.
use Rattle.std.specs.Prelude.{◌≡◌, ℕ, ◌+◌, ◌-◌, ◌≤◌, Bool, true, false, not, ◌&&◌, ◌==◌, nat_le, if◌then◌else◌, IsTrue, Result, Ok, Err, List, length, take, drop, Contains, IfSome}
use Rattle.std.specs.declared.option.Option.{Option}
use Rattle.snap_io.specs.declared.lines.Lines.{Lines}
use Rattle.snap_io.specs.declared.lines.LinesFault.{LinesFault}
use Rattle.snap_io.specs.declared.lines.LinesFault.TheVariants.{Failed, LongLine, ManyBytes}
use Rattle.snap_io.specs.Files.{Files, file_of}
use Rattle.snap_io.specs.Held.{held_bytes, held_line, held_most}
use Rattle.snap_io.specs.Lines.{Next, next_line, no_line, long_line, many_bytes, before_lf, next_in}

-- the file's name
abbrev pub lines_name : Lines → List ℕ
lines_name lines = lines.name.items

-- how many bytes the file may have
abbrev pub lines_limit : Lines → ℕ
lines_limit lines = lines.limit

-- how many bytes a line may have
abbrev pub lines_most : Lines → ℕ
lines_most lines = held_most lines.held

-- the place in the file of the first byte not given
abbrev pub lines_given : Lines → ℕ
lines_given lines = lines.given

-- the line given last, and none before the first
abbrev pub lines_line : Lines → List ℕ
lines_line lines = held_line lines.held

-- the bytes read and not yet given
abbrev pub lines_held : Lines → List ℕ
lines_held lines = held_bytes lines.held

-- the bytes read and not yet given hold an LF
abbrev pub HoldsLine : Lines → Type 0
HoldsLine lines = Contains (lines_held lines) 10

-- what was read is the file's: its bytes at their places, and its end, where that was met
pub record Agrees (lines : Lines) (file : List ℕ) : Type 0 where
  pub held : lines_held lines ≡ take (length (lines_held lines)) (drop (lines_given lines) file)
  pub ended : IsTrue lines.ended → length file ≤ lines_given lines + length (lines_held lines)

-- what was read is the file's, where the shelf tells its files
pub record AgreesWith (told : Option Files) (lines : Lines) : Type 0 where
  pub agrees : IfSome told (λ files. Agrees lines (file_of files (lines_name lines)))

-- more of the file has to be read before the next line is known
abbrev pub is_open : Lines → Bool
is_open lines =
    let held = lines_held lines in
    not lines.ended && (before_lf held == length held && nat_le (length held) (lines_most lines))

-- how many bytes may still be read, and the file's end
abbrev pub left_to_read : Lines → ℕ
left_to_read lines = lines_limit lines - (lines_given lines + length (lines_held lines)) + (if lines.ended then 0 else 1)

-- bytes were read and none given
pub record OnlyReads (old new : Lines) : Type 0 where
  pub name : lines_name new ≡ lines_name old
  pub limit : lines_limit new ≡ lines_limit old
  pub most : lines_most new ≡ lines_most old
  pub given : lines_given new ≡ lines_given old
  pub line : lines_line new ≡ lines_line old

-- what stands next for the reader in these files
abbrev pub next_of : Lines → Files → Next
next_of lines files = next_in (lines_limit lines) (lines_most lines) (file_of files (lines_name lines)) (lines_given lines)

-- the answer is the one for what stood next; the device may have failed in its place
abbrev pub AnswersNext : Next → Lines → Result Bool LinesFault → Type 0
AnswersNext next lines (Ok true) = next ≡ next_line (lines_line lines) (lines_given lines)
AnswersNext next lines (Ok false) = next ≡ no_line
AnswersNext next lines (Err LongLine) = next ≡ long_line
AnswersNext next lines (Err ManyBytes) = next ≡ many_bytes
AnswersNext next lines (Err Failed) = Unit {0}

-- What the reading of a file's text gives.
use Rattle.std.specs.Prelude.{◌≡◌, ◌+◌, ◌<◌, ◌≤◌, ℕ, List, length, Result, Ok, Err, Vec}
use Rattle.std.specs.declared.alloc.Global.{Global}
use Rattle.snap_core.specs.declared.program.Which.TheVariants.{Bytes}
use Rattle.snap_cli.specs.declared.refusal.Refusal.{Refusal}
use Rattle.snap_cli.specs.declared.refusal.Refusal.TheVariants.{Read, ReadChange, Limit, NoMemory}

-- a file of those with `reads` can't be read, or memory was short, or the refusal is one of `why`
abbrev pub RefusesBy : (reads : List ℕ → Type 0) → (why : Refusal → Type 0) → Refusal → Type 0
RefusesBy reads why (Read failed) = reads failed.now
RefusesBy reads why (ReadChange failed) = reads failed
RefusesBy reads why NoMemory = Unit {0}
RefusesBy reads why refusal = why refusal

-- the file has more bytes than `most`
abbrev pub IsTooLong : (most : ℕ) → (file : List ℕ) → Refusal → Type 0
IsTooLong most file refusal = (most < length file) × (refusal ≡ Limit Bytes (most + 1))

-- the text of the file with this name, of at most so many bytes
abbrev pub GivesText : (most : ℕ) → (name file : List ℕ) → Result (Vec ℕ Global) Refusal → Type 0
GivesText most name file (Ok text) = (text.items ≡ file) × (length file ≤ most)
GivesText most name file (Err e) = RefusesBy (λ failed. failed ≡ name) (IsTooLong most file) e

-- Reads that failed, counted by the names of their files.
use Rattle.std.specs.Prelude.{◌≡◌, ◌⊎◌, ℕ, ◌+◌, ◌-◌, ◌^◌, min, List, None, slice_index_or}
use Rattle.std.specs.List.{position}
use Rattle.std.specs.Option.{option_map_or}
use Rattle.std.specs.Str.{bytes_eq}
use Rattle.std.specs.FinMap.{get}
use Rattle.std.specs.declared.option.Option.{Option}
use Rattle.snap_io.specs.declared.file.File.{File}
use Rattle.snap_io.specs.Files.{Files}

-- the place of the file with this name
abbrev pub place_of : List File → List ℕ → Option ℕ
place_of files name = position (λ file. bytes_eq name file.name.items) files

-- the count at a name: that of its file, by the file's place, or that of all names that are not there
abbrev pub count_at : List File → (counts : List ℕ) → (absent : ℕ) → List ℕ → ℕ
count_at files counts absent name = option_map_or (λ place. slice_index_or counts place 0) (place_of files name) absent

-- two names have one count where they are the same, or where neither is there
abbrev pub ShareCount : Files → (name other : List ℕ) → Type 0
ShareCount files name other = (name ≡ other) ⊎ ((get files name ≡ None) × (get files other ≡ None))

-- A fault was counted at a name and at those that share its count, and at no others. A count stops at its type's end.
pub record CountsFault (files : Files) (name : List ℕ) (before now : List ℕ → ℕ) : Type 0 where
  pub rises : (other : List ℕ) → ShareCount files name other → now other ≡ min (before other + 1) (2 ^ 64 - 1)
  pub stays : (other : List ℕ) → ¬ (ShareCount files name other) → now other ≡ before other

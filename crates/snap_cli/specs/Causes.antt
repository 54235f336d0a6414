-- When a refusal may say that a device failed.
use Rattle.std.specs.Prelude.{◌≡◌, ◌≤◌, ℕ, List, Result, Err, IsErrOf}
use Rattle.std.specs.declared.option.Option.{Option}
use Rattle.snap_io.specs.Causes.{NoneFell, Rose}
use Rattle.snap_io.specs.Files.{Files}
use Rattle.snap_cli.specs.declared.refusal.Refusal.{Refusal}
use Rattle.snap_cli.specs.declared.refusal.Refusal.TheVariants.{Read, ReadChange, Write}
use Rattle.snap_cli.specs.Refusals.{Ending}

-- the refusal says that some file can't be read
abbrev pub IsRead : {X : Type 0} → Result X Refusal → Type 0
IsRead (Err (Read name)) = Unit {0}
IsRead (Err (ReadChange name)) = Unit {0}
IsRead result = ⊥

-- the refusal says that the file with this name can't be read
abbrev pub IsReadOf : {X : Type 0} → (name : List ℕ) → Result X Refusal → Type 0
IsReadOf name (Err (Read failed)) = failed.now ≡ name
IsReadOf name (Err (ReadChange failed)) = failed ≡ name
IsReadOf name result = ⊥

-- A file that can't be read is one at whose name the shelf's count of faults rose; and where nothing can be written, the
-- sink's count rose.
pub record HasCauses (shelf_before shelf_now : List ℕ → ℕ) (out_before out_now : ℕ) (ending : Result (Unit {0}) Refusal) : Type 0 where
  pub read : (name : List ℕ) → IsReadOf name ending → Rose (shelf_before name) (shelf_now name)
  pub write : IsErrOf ending Write → Rose out_before out_now

-- ---- steps
-- the refusal doesn't say that a device failed
abbrev pub BlamesNoDevice : Refusal → Type 0
BlamesNoDevice (Read name) = ⊥
BlamesNoDevice (ReadChange name) = ⊥
BlamesNoDevice Write = ⊥
BlamesNoDevice refusal = Unit {0}

-- A step that only reads: the shelf's files stay and no count of faults falls, a file that can't be read is one at whose name the
-- count rose, and the output isn't blamed.
pub record OnlyReads {X : Type 0} (files_before files_now : Option Files)
    (before now : List ℕ → ℕ) (result : Result X Refusal) : Type 0 where
  pub files : files_now ≡ files_before
  pub later : NoneFell before now
  pub read : (name : List ℕ) → IsReadOf name result → Rose (before name) (now name)
  pub write : IsErrOf result Write → ⊥

-- A step that only writes: no file is blamed.
pub record OnlyWrites (before now : ℕ) (ending : Ending) : Type 0 where
  pub later : before ≤ now
  pub read : IsRead ending → ⊥
  pub write : IsErrOf ending Write → Rose before now

-- A step that does both.
pub record ReadsAndWrites (files_before files_now : Option Files)
    (shelf_before shelf_now : List ℕ → ℕ) (out_before out_now : ℕ) (ending : Ending) : Type 0 where
  pub files : files_now ≡ files_before
  pub later : NoneFell shelf_before shelf_now
  pub out_later : out_before ≤ out_now
  pub causes : HasCauses shelf_before shelf_now out_before out_now ending

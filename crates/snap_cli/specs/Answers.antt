-- What the top call promises.
use Rattle.std.specs.Prelude.{◌≡◌, ◌⊎◌, ℕ, List, [], Some, Err, IfSome, MatchOption}
use Rattle.std.specs.declared.option.Option.{Option}
use Rattle.std.specs.Io.KnownBytes.{Appends}
use Rattle.snap_io.specs.Files.{Files}
use Rattle.snap_words.specs.Commands.{command_of, demo}
use Rattle.snap_cli.specs.declared.refusal.Refusal.TheVariants.{Usage, NoMemory}
use Rattle.snap_cli.specs.Causes.{HasCauses}
use Rattle.snap_cli.specs.Deserved.{Meets, WritesMessage}
use Rattle.snap_cli.specs.Refusals.{Ending, status_of, message_of}

-- Words of no command's form are usage, and nothing goes out. Memory may be short before they are read.
abbrev pub MeetsWords : Files → List (List ℕ) → Ending → Option (List ℕ) → Option (List ℕ) → Type 0
MeetsWords files words ending old new =
    MatchOption (command_of words) (((ending ≡ Err Usage) ⊎ (ending ≡ Err NoMemory)) × Appends old new [])
    (λ command. Meets files command ending old new)

-- where the words are those of `demo`, this holds of any files
abbrev pub OnDemo : List (List ℕ) → (Files → Type 0) → Type 0
OnDemo words P = (switches : ℕ) → command_of words ≡ Some (demo switches) → (files : Files) → P files

-- The status, the output and the message are those of one ending. Where the shelf tells its files, it is one that the
-- words deserve on them, or a device's or memory's. A device's has its cause: counts of faults rose.
pub record Answers (words : List (List ℕ)) (told : Option Files) (status : ℕ) (shelf_before shelf_now : List ℕ → ℕ)
    (out_before out_now : ℕ) (out_old out_new : Option (List ℕ))
    (err_before err_now : ℕ) (err_old err_new : Option (List ℕ)) : Type 0 where
  pub ending : Ending
  pub status_is : status ≡ status_of ending
  pub out : IfSome told (λ files. MeetsWords files words ending out_old out_new)
  pub causes : HasCauses shelf_before shelf_now out_before out_now ending
  pub err : WritesMessage err_before err_now err_old err_new (message_of ending)

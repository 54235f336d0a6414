-- What `deps` deserves on its file, and what its text is.
use Rattle.std.specs.Prelude.{◌≡◌, ◌⊎◌, ◌==◌, ℕ, List, [], ◌∷◌, ◌++◌, length, Ok, Err, codes}
use Rattle.std.specs.declared.option.Option.{Option}
use Rattle.std.specs.List.{concat, filter, flat_map, range_with_len}
use Rattle.std.specs.Io.KnownBytes.{Appends}
use Rattle.snap_core.specs.declared.program.Program.{Program}
use Rattle.snap_core.specs.Programs.{IsBounded}
use Rattle.snap_dep.specs.Dependencies.{Depends}
use Rattle.snap_dep.specs.Ranks.{Grouping, IsGrouping, rank_of}
use Rattle.snap_dep.specs.Relations.{Lists}
use Rattle.snap_io.specs.Files.{Files, file_of}
use Rattle.snap_io.specs.Sinks.{AppendsPart}
use Rattle.snap_cli.specs.declared.refusal.Refusal.{Refusal}
use Rattle.snap_cli.specs.declared.refusal.Refusal.TheVariants.{Write, NoMemory}
use Rattle.snap_cli.specs.ProgramOf.{ProgramOf}
use Rattle.snap_cli.specs.Refusals.{Ending}
use Rattle.snap_runs.specs.Tallies.{name_in}

-- `dep S T`, for a dependency from the first array to the second
abbrev pub dep_line : List (List ℕ) → ℕ × ℕ → List ℕ
dep_line names d = concat (codes "dep " ∷ name_in names d.0 ∷ codes " " ∷ name_in names d.1 ∷ codes "\n" ∷ [])

-- the arrays of a rank, in rising order
abbrev pub members_of : Grouping → (rank : ℕ) → List ℕ
members_of g rank = filter (λ v. rank_of g v == rank) (range_with_len 0 (length g.ranks))

-- ` V`, for an array of a group
abbrev pub member_text : List (List ℕ) → ℕ → List ℕ
member_text names v = codes " " ++ name_in names v

-- `group V1 V2 ..`, for the arrays of a rank
abbrev pub group_line : List (List ℕ) → Grouping → (rank : ℕ) → List ℕ
group_line names g rank = concat (codes "group" ∷ flat_map (member_text names) (members_of g rank) ∷ codes "\n" ∷ [])

-- a line for each group, by rank
abbrev pub groups_text : List (List ℕ) → Grouping → List ℕ
groups_text names g = flat_map (group_line names g) (range_with_len 0 (length g.order))

-- The text of a program: its dependencies in rising order of the first array and then of the second, its groups by rank,
-- and the last line.
pub record IsTextOf (p : Program) (text : List ℕ) : Type 0 where
  pub pairs : List (ℕ × ℕ)
  pub dependencies : Lists (Depends p.body) pairs
  pub grouping : Grouping
  pub groups : IsGrouping p.body (length p.arrays) grouping
  pub is : text ≡ concat (flat_map (dep_line p.arrays) pairs ∷ groups_text p.arrays grouping ∷ codes "end\n" ∷ [])

-- a program has but one text
abbrev pub HasOneText : Type 0
HasOneText = (p : Program) → IsBounded p → (a b : List ℕ) → IsTextOf p a → IsTextOf p b → a ≡ b

-- how the command ends where no device fails and memory is there
abbrev pub EndsDeps : Files → (program : List ℕ) → Ending → Type 0
EndsDeps files program ending =
    ((refusal : Refusal) × ProgramOf (file_of files program) (Err refusal) × (ending ≡ Err refusal))
    ⊎ ((p : Program) × ProgramOf (file_of files program) (Ok p) × (ending ≡ Ok tt))

-- the text that has gone out then: nothing where the program isn't read
abbrev pub IsDepsText : Files → (program : List ℕ) → List ℕ → Type 0
IsDepsText files program text =
    ((refusal : Refusal) × ProgramOf (file_of files program) (Err refusal) × (text ≡ []))
    ⊎ ((p : Program) × ProgramOf (file_of files program) (Ok p) × IsTextOf p text)

-- What was done for a program that was read: its whole text went out, or some first bytes of it where the sink failed, or
-- nothing where memory was short.
abbrev pub MeetsText : Program → Ending → Option (List ℕ) → Option (List ℕ) → Type 0
MeetsText p (Ok u) old new = (text : List ℕ) × IsTextOf p text × Appends old new text
MeetsText p (Err Write) old new = (text : List ℕ) × IsTextOf p text × AppendsPart old new text
MeetsText p (Err NoMemory) old new = Appends old new []
MeetsText p ending old new = ⊥

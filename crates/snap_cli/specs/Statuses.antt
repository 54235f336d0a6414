-- Which statuses a command can give.
use Rattle.std.specs.Prelude.{ℕ, ◌==◌, List, [], ◌∷◌, Err, Some, None, IsTrue}
use Rattle.std.specs.declared.option.Option.{Option}
use Rattle.std.specs.List.{list_any}
use Rattle.snap_words.specs.Commands.{Command, Order, changes, check, compile, demo, deps, equal, in_order, obs, place, plain, rounds, routes, schedule, trace}
use Rattle.snap_cli.specs.declared.refusal.Refusal.{Refusal}
use Rattle.snap_cli.specs.Refusals.{Ending, status_of}

-- the status is one of these
abbrev pub IsOneOf : List ℕ → (status : ℕ) → Type 0
IsOneOf statuses status = IsTrue (list_any (λ s. s == status) statuses)

-- ---- commands
-- 13 comes only with a schedule
abbrev pub statuses_of_schedule : Option (List ℕ) → List ℕ
statuses_of_schedule None = []
statuses_of_schedule (Some lines) = 13 ∷ []

-- 16 comes only with `--ordered`, and 20 only with changes
abbrev pub statuses_of_order : Order → List ℕ
statuses_of_order plain = []
statuses_of_order (schedule lines) = 13 ∷ []
statuses_of_order (changes lines) = 20 ∷ []
statuses_of_order (in_order lines) = 16 ∷ statuses_of_schedule lines
statuses_of_order (rounds workers) = 16 ∷ []

abbrev pub statuses_of_trace : Order → List ℕ
statuses_of_trace order = 2 ∷ 6 ∷ 11 ∷ 12 ∷ statuses_of_order order

-- the statuses that a command can give besides 0, 3 and 14
abbrev pub statuses_of : Command → List ℕ
statuses_of (obs program packets) = 2 ∷ 4 ∷ 5 ∷ 6 ∷ 12 ∷ 15 ∷ []
statuses_of (deps program) = 2 ∷ 4 ∷ 5 ∷ 6 ∷ []
statuses_of (check program) = 2 ∷ 4 ∷ 5 ∷ 6 ∷ 10 ∷ []
statuses_of (equal left right) = 2 ∷ 4 ∷ 5 ∷ 6 ∷ 10 ∷ 17 ∷ 18 ∷ []
statuses_of (routes topology) = 2 ∷ 6 ∷ 7 ∷ 8 ∷ []
statuses_of (place program topology demand) = 2 ∷ 4 ∷ 5 ∷ 6 ∷ 7 ∷ 8 ∷ 19 ∷ []
statuses_of (compile program topology placement on_demand) = 2 ∷ 4 ∷ 5 ∷ 6 ∷ 7 ∷ 8 ∷ 9 ∷ 10 ∷ []
statuses_of (trace tables packets hops order) = statuses_of_trace order
statuses_of (demo switches) = []

-- 0 where the output is whole, 3 where it can't be written, 14 where memory is short, or one of the command's
abbrev pub CanAnswer : Command → (status : ℕ) → Type 0
CanAnswer command status = IsOneOf (0 ∷ 3 ∷ 14 ∷ statuses_of command) status

-- ---- steps
-- so ends a step that writes: its status is 0, 3, 14 or one of these
abbrev pub EndsWith : List ℕ → Ending → Type 0
EndsWith statuses ending = IsOneOf (0 ∷ 3 ∷ 14 ∷ statuses) (status_of ending)

-- so refuses a step that only reads: its status is 14 or one of these
abbrev pub RefusesWith : List ℕ → Refusal → Type 0
RefusesWith statuses refusal = IsOneOf (14 ∷ statuses) (status_of (Err refusal))

-- Refusals and what explains them.
use Rattle.std.proofs.Common.{◌≡◌, ℕ, List, [], Option, Err, inl, sym, subst}
use Rattle.snap_cli.specs.Steps.{GivesProgram}
use Rattle.snap_cli.specs.Texts.{RefusesBy}
use Rattle.snap_cli.proofs.Shared.{Appends-nil, Command, Ends, file_of, Files, IsText, MayPrecede, MayPrecedeRead, Meets, NoMemory, ProgramOf, Read, ReadChange, Refusal, Write}

-- a refusal for one reason is one for another
pub by-map : (reads also : List ℕ → Type 0) (why because : Refusal → Type 0) → ((name : List ℕ) → reads name → also name) → ((e : Refusal) → why e → because e) → (e : Refusal) → RefusesBy reads why e → RefusesBy also because e
by-map reads also why because f g (Read name) h = f name.now h
by-map reads also why because f g (ReadChange name) h = f name h
by-map reads also why because f g NoMemory h = tt
by-map reads also why because f g e h = g e h

pub by-program : (name file : List ℕ) (e : Refusal) → GivesProgram name file (Err e) → RefusesBy (λ failed. failed ≡ name) (λ refusal. ProgramOf file (Err refusal)) e
by-program name file NoMemory h = tt
by-program name file e h = h

-- what a command did that was refused before anything went out
pub meets-by : (files : Files) (command : Command) (out : Option (List ℕ)) (e : Refusal) → MayPrecede files command []
    → RefusesBy (λ name. MayPrecedeRead files command name []) (λ x. Ends files command (Err x) × IsText files command []) e → Meets files command (Err e) out out
meets-by files command out (Read name) memory h = ([], h, (0, Appends-nil out))
meets-by files command out (ReadChange name) memory h = ([], h, (0, Appends-nil out))
meets-by files command out NoMemory memory h = ([], memory, (0, Appends-nil out))
meets-by files command out Write memory h = inl ([], memory, (0, Appends-nil out))
meets-by files command out e memory h = (h.0, ([], h.1, Appends-nil out))

-- what a command deserves where the program with this name isn't read
pub record Refuses (files : Files) (command : Command) (program : List ℕ) : Type 0 where
  pub ends : (e : Refusal) → ProgramOf (file_of files program) (Err e) → Ends files command (Err e)
  pub text : (e : Refusal) → ProgramOf (file_of files program) (Err e) → IsText files command []
  pub read : MayPrecedeRead files command program []
  pub memory : MayPrecede files command []

pub meets-refused : (files : Files) (command : Command) (program : List ℕ) (out : Option (List ℕ)) (e : Refusal) → Refuses files command program
    → GivesProgram program (file_of files program) (Err e) → Meets files command (Err e) out out
meets-refused files command program out e r h =
    meets-by files command out e r.memory
    (by-map (λ failed. failed ≡ program) (λ name. MayPrecedeRead files command name []) (λ x. ProgramOf (file_of files program) (Err x)) (λ x. Ends files command (Err x) × IsText files command [])
    (λ name is. subst (λ n. MayPrecedeRead files command n []) (sym is) r.read) (λ x no. (r.ends x no, r.text x no)) e (by-program program (file_of files program) e h))

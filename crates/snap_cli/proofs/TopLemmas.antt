-- What the top call did, from what its parts did.
use Rattle.std.proofs.Common.{◌≡◌, ◌⊎◌, ℕ, List, [], length, Result, Ok, Err, None, Some, IfSome, OnOk, OnErr, refl, sym, subst, inl, inr, arith}
use Rattle.std.specs.Prelude.{MatchOption}
use Rattle.std.specs.declared.option.Option.{Option}
use Rattle.std.proofs.lemmas.List.{take_all}
use Rattle.snap_io.specs.Causes.{HasCause}
use Rattle.snap_io.specs.Sinks.{AppendsPart}
use Rattle.snap_words.specs.Commands.{command_of, obs, routes, demo}
use Rattle.snap_cli.specs.Answers.{MeetsWords}
use Rattle.snap_cli.specs.declared.refusal.Refusal.TheVariants.{Usage}
use Rattle.snap_cli.specs.Causes.{HasCauses, IsReadOf}
use Rattle.snap_cli.specs.Deserved.{WritesMessage}
use Rattle.snap_io.specs.Causes.{Rose}
use Rattle.snap_cli.specs.Statuses.{CanAnswer}
use Rattle.snap_cli.proofs.Shared.{Appends, Appends-nil, Command, compile, Ending, Files, in_order, MayPrecede, Meets, NoMemory, Read, ReadChange, Refusal, status_of, trace}

pub tells : {E : Type 0} (before now : ℕ) (old new : Option (List ℕ)) (message : List ℕ) (r : Result (Unit {0}) E)
    → OnOk r (Appends old new message) → OnErr r (AppendsPart old new message) → HasCause before now r → WritesMessage before now old new message
tells before now old new message (Ok u) ok err cause =
    record { part = (length message, subst (Appends old new) (sym (take_all (length message) message (omega arith))) ok); whole = inr ok }
tells before now old new message (Err e) ok err cause = record { part = err; whole = inl cause.failed }

-- nothing is told
pub quiet : (count : ℕ) (taken : Option (List ℕ)) → WritesMessage count count taken taken []
quiet count taken = record { part = (0, Appends-nil taken); whole = inr (Appends-nil taken) }

-- the file of which a status 2 tells
pub unread : (refusal : Refusal) → status_of (Err refusal) ≡ 2 → (name : List ℕ) × IsReadOf {X = Unit {0}} name (Err refusal)
unread (Read name) e = (name.now, refl)
unread (ReadChange name) e = (name, refl)
unread refusal e = absurd (cc)

pub read-rose : (before now : List ℕ → ℕ) (out_before out_now : ℕ) (refusal : Refusal) → HasCauses before now out_before out_now (Err refusal) → status_of (Err refusal) ≡ 2
    → (name : List ℕ) × Rose (before name) (now name)
read-rose before now out_before out_now refusal causes e = let named = unread refusal e in (named.0, causes.read named.0 named.1)

-- nothing may have gone out where memory is short
nothing_first : (files : Files) (command : Command) → MayPrecede files command []
nothing_first files (obs program packets) = inl refl
nothing_first files (routes topology) = inl refl
nothing_first files (compile program topology placement on_demand) = inl refl
nothing_first files (trace tables packets hops order) = inl refl
nothing_first files (demo switches) = refl
nothing_first files command = refl

pub meets_any : (files : Files) (out : Option (List ℕ)) (said : Option Command) (ending : Ending) → ending ≡ Err NoMemory
    → MatchOption said (((ending ≡ Err Usage) ⊎ (ending ≡ Err NoMemory)) × Appends out out []) (λ command. Meets files command ending out out)
meets_any files out None ending is = (inr is, Appends-nil out)
meets_any files out (Some command) ending is = subst (λ e. Meets files command e out out) (sym is) ([], nothing_first files command, (0, Appends-nil out))

-- memory was short before the words were read
pub meets-short : (told : Option Files) (words : List (List ℕ)) (out : Option (List ℕ)) (ending : Ending) → ending ≡ Err NoMemory → IfSome told (λ files. MeetsWords files words ending out out)
meets-short None words out ending is = tt
meets-short (Some files) words out ending is = meets_any files out (command_of words) ending is

-- no command ends as words of no form do
never_usage : (command : Command) → CanAnswer command 1 → ⊥
never_usage (trace tables packets hops (in_order None)) can = cc
never_usage command can = cc

-- so 1 is answered to such words alone
pub only-usage : (said : Option Command) (status : ℕ) → IfSome said (λ command. CanAnswer command status) → status ≡ 1 → said ≡ None
only-usage None status can one = refl
only-usage (Some command) status can one = absurd (never_usage command (subst (CanAnswer command) one can))

-- A file spells one tables at most, or is refused for one reason.
use Rattle.std.proofs.Common.{◌≡◌, ◌≢◌, ℕ, List, Result, Ok, Err, refl, sym, ◌∙◌, ap, inl, inr}
use Rattle.snap_tables.specs.Exact.{ReadsOneWay}
use Rattle.snap_tables.specs.declared.fault.TablesFault.{TablesFault}
use Rattle.snap_tables.specs.declared.fault.TablesFault.TheVariants as tables
use Rattle.snap_cli.specs.declared.refusal.NoTables.TheVariants.{Line, Broken}
use Rattle.snap_cli.specs.declared.refusal.Refusal.TheVariants as refused
use Rattle.snap_cli.specs.TablesOf.{SpellsTables}
use Rattle.snap_cli.specs.TraceSteps.{refusal_of_tables}
use Rattle.snap_cli.proofs.Shared.{IsWellFormed, IsRead, Refusal, Tables, TablesOf}
use Rattle.snap_cli.proofs.Pipeline.{Agree, Alike, alike, within_once}

-- what is read of a text, as the command tells it
abbrev pub told : Result Tables TablesFault → Result Tables Refusal
told (Ok t) = Ok t
told (Err fault) = Err (refusal_of_tables fault)

pub answered : (text : List ℕ) (a : Result Tables Refusal) → SpellsTables text a → (x : Result Tables TablesFault) × IsRead text x × (x ≢ Err tables.NoMemory) × (a ≡ told x)
answered text (Ok t) h = (Ok t, h, (λ e. cc), refl)
answered text (Err (refused.Tables (Line line))) h = (Err (tables.Line line), h, (λ e. cc), refl)
answered text (Err (refused.Tables (Broken rule line))) h = (Err (tables.Broken rule line), h, (λ e. cc), refl)
answered text (Err (refused.Limit which count)) h = (Err (tables.Limit which count), h, (λ e. cc), refl)
answered text (Err e) h = absurd h

pub one_tables : ReadsOneWay → (file : List ℕ) → Agree (Alike ◌≡◌) (TablesOf file) (TablesOf file)
one_tables one file = alike (within_once _ _ _ _ _ (λ a b h k.
    let x = answered file a h in
    let y = answered file b k in
    x.3 ∙ (ap told (one file x.0 y.0 x.1 y.1 x.2 y.2) ∙ sym y.3)))

-- the tables of a file are in form
pub spelled_form : (file : List ℕ) (t : Tables) → TablesOf file (Ok t) → IsWellFormed t
spelled_form file t (inl h) = absurd (let e = h.1 in cc)
spelled_form file t (inr h) = h.1.3

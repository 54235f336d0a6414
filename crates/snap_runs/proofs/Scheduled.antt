-- What goes out for a packets file and a schedule that were read.
use Rattle.std.proofs.Common.{◌≡◌, ℕ, ◌≤◌, List, Option, Ok, Err, refl, sym, ap, subst}
use Rattle.std.specs.Io.KnownBytes.{Appends}
use Rattle.std.specs.Prelude.{IfSome, Result, length}
use Rattle.snap_io.specs.Files.{Files, file_of}
use Rattle.snap_io.specs.Sinks.{AppendsPart}
use Rattle.snap_rows.specs.declared.tables.Tables.{Tables}
use Rattle.snap_report.proofs.StepLemmas.{where_both_told}
use Rattle.snap_report.specs.Spelled.{Spelled}
use Rattle.snap_runs.specs.declared.ready.Ready.{Ready}
use Rattle.snap_runs.specs.declared.schedule.ScheduleFault.{ScheduleFault}
use Rattle.snap_runs.specs.declared.schedule.ScheduleFault.TheVariants.{Packets, Read, TooLong, Line, Write, NoMemory}
use Rattle.snap_runs.specs.Plain.{spelled_for}
use Rattle.snap_runs.specs.Playing.{AreAll, packets_in}
use Rattle.snap_runs.specs.Runner.{StopsBy, WritesLines}
use Rattle.snap_runs.specs.Schedules.{AreBothRead, lines_of}

module _ (Reports : (ks lines : List (List ℕ)) → List ℕ → Type 0) (Refuses : (ks lines : List (List ℕ)) → ℕ → Type 0) (t : Tables) (rs : List Ready) (text : List ℕ) (few : length text ≤ 67108864) where
  module _ (file schedule : List ℕ) (all : AreAll t file rs) (is : text ≡ schedule) where
    both : AreBothRead t file schedule
    both = (ap (λ (s : Spelled). s.stop) all, subst (λ x. length x ≤ 67108864) is few)

    of_files : (Holds : (ks lines : List (List ℕ)) → Type 0) → Holds (packets_in rs) (lines_of text) → AreBothRead t file schedule × Holds (spelled_for t file).packets (lines_of schedule)
    of_files Holds h = (both, subst (λ ks. Holds ks (lines_of schedule)) (sym (ap (λ (s : Spelled). s.packets) all)) (subst (λ x. Holds (packets_in rs) (lines_of x)) is h))

    stopped : (old : Option (List ℕ)) (e : ScheduleFault) → StopsBy (Refuses (packets_in rs) (lines_of text)) e → WritesLines Reports Refuses t file schedule (Err e) old old
    stopped old (Line line) h = (refl, of_files (λ ks lines. Refuses ks lines line) h)
    stopped old NoMemory h = refl
    stopped old (Packets fault) h = absurd h
    stopped old Read h = absurd h
    stopped old TooLong h = absurd h
    stopped old Write h = absurd h

  module _ (files files' : Option Files) (same : files' ≡ files) (packets schedule : List ℕ) (all : IfSome files (λ f. AreAll t (file_of f packets) rs)) (is : IfSome files' (λ f. text ≡ file_of f schedule)) (old : Option (List ℕ)) where
    abbrev Writes : Result (Unit {0}) ScheduleFault → Option (List ℕ) → Type 0
    Writes r new = IfSome files (λ f. WritesLines Reports Refuses t (file_of f packets) (file_of f schedule) r old new)

    where_read : (Holds : Files → Type 0) → ((f : Files) → AreAll t (file_of f packets) rs → text ≡ file_of f schedule → Holds f) → IfSome files Holds
    where_read Holds holds = where_both_told files _ _ Holds holds all (subst (λ o. IfSome o (λ f. text ≡ file_of f schedule)) same is)

    -- nothing, where lines can't be done or something is left
    pub nothing-written : (e : ScheduleFault) (x : List ℕ) → x ≡ text → StopsBy (Refuses (packets_in rs) (lines_of x)) e → Writes (Err e) old
    nothing-written e x lent h = where_read _ (λ f all is. stopped (file_of f packets) (file_of f schedule) all is old e (subst (λ y. StopsBy (Refuses (packets_in rs) (lines_of y)) e) lent h))

    -- else the report, or some first bytes of it
    module _ (report : List ℕ) (x : List ℕ) (lent : x ≡ text) (told : Reports (packets_in rs) (lines_of x) report) (new : Option (List ℕ)) (y : List ℕ) (lent' : y ≡ report) where
      whole : (f : Files) → AreAll t (file_of f packets) rs → text ≡ file_of f schedule → AreBothRead t (file_of f packets) (file_of f schedule) × Reports (spelled_for t (file_of f packets)).packets (lines_of (file_of f schedule)) report
      whole f all is = of_files (file_of f packets) (file_of f schedule) all is (λ ks lines. Reports ks lines report) (subst (λ z. Reports (packets_in rs) (lines_of z) report) lent told)

      pub all-written : Appends old new y → Writes (Ok tt) new
      all-written out = where_read _ (λ f all is. (report, whole f all is, subst (Appends old new) lent' out))

      pub some-written : AppendsPart old new y → Writes (Err Write) new
      some-written out = where_read _ (λ f all is. (report, whole f all is, subst (AppendsPart old new) lent' out))

-- Tables that are all faithful to one program.
use Rattle.std.proofs.Common.{ℕ, ◌+◌, Bool, true, false, List, [], ◌∷◌, length, sym, subst, ◌∙◌}
use Rattle.std.specs.Prelude.{nat_le, if◌then◌else◌}
use Rattle.std.specs.List.{All}
use Rattle.std.proofs.lemmas.List.Elements.{All-cons, All-head, All-nil, All-tail, All-weaker}
use Rattle.snap_core.specs.declared.program.Program.{Program}
use Rattle.snap_core.specs.Fields.{count}
use Rattle.snap_core.specs.Inputs.{IsPacket}
use Rattle.snap_dep.specs.Ranks.{IsRank}
use Rattle.snap_rows.specs.declared.tables.Tables.{Tables}
use Rattle.snap_rows.specs.Entries.{port_numbers}
use Rattle.snap_faithful.specs.Faithful.{IsPacketOf}
use Rattle.snap_runs.specs.declared.later.Later.{Later}
use Rattle.snap_runs.specs.Changing.{HaveShapeOf, Passage, in_force}
use Rattle.snap_refinement.specs.ChangeLaws.{AreFaithful, AreTurnsShort, ChangedRunsAreShort, ChangedRunsReportOneSwitch, IsFaithfulTo, IsTurnShort}
use Rattle.snap_runs.specs.Shapes.{HaveOneShape}
use Rattle.snap_refinement.proofs.Pieces.{one_report}
use Rattle.snap_refinement.proofs.Report.{upgraded_report, upgraded_short}

faithful_in_force : (p : Program) (t : Tables) (ls : List Later) → IsFaithfulTo p t → All (λ (l : Later). IsFaithfulTo p l.tables) ls → (i : ℕ) → IsFaithfulTo p (in_force t ls i)
faithful_in_force p t [] now others i = now
faithful_in_force p t (l ∷ ls) now others i =
    by (nat_le l.after i) (faithful_in_force p l.tables ls (All-head (λ (x : Later). IsFaithfulTo p x.tables) l ls others) (All-tail (λ (x : Later). IsFaithfulTo p x.tables) l ls others) i)
  where
    by : (b : Bool) → IsFaithfulTo p (in_force l.tables ls i) → IsFaithfulTo p (if b then in_force l.tables ls i else t)
    by true later = later
    by false later = now

module _ (p : Program) (first : Tables) (later : List Later) (f : AreFaithful p first later) where
  shapes : HaveShapeOf first later
  shapes = All-weaker (λ (l : Later). IsFaithfulTo p l.tables) (λ (l : Later). HaveOneShape l.tables first)
      (λ l x. record { fields = x.faithful.shape.fields ∙ sym f.at_first.faithful.shape.fields; names = x.faithful.shape.names ∙ sym f.at_first.faithful.shape.names }) later f.others

  fit : (ks : List (List ℕ)) → All (IsPacketOf p) ks → All (IsPacket (count first.fields)) ks
  fit ks packets = subst (λ fs. All (IsPacket (count fs)) ks) (sym f.at_first.faithful.shape.fields) packets

pub changed_report : ChangedRunsReportOneSwitch
changed_report p first later f rising ks packets text report =
    one_report p (λ i. port_numbers (in_force first later i)) ks text
    (upgraded_report (λ i. p) first later (faithful_in_force p first later f.at_first f.others) (shapes p first later f) rising ks (fit p first later f ks packets) text report)

all_short : (p : Program) (order : List ℕ) → IsRank p.body (length p.arrays) order → (i : ℕ) (turns : List Passage) → AreTurnsShort (λ i. p) i turns → All (IsTurnShort (length order)) turns
all_short p order rank i [] short = All-nil (IsTurnShort (length order))
all_short p order rank i (x ∷ xs) short = All-cons (IsTurnShort (length order)) x xs (short.0 order rank) (all_short p order rank (i + 1) xs short.1)

pub changed_short : ChangedRunsAreShort
changed_short p first later f rising order rank ks packets end left s turns run =
    all_short p order rank 0 turns
    (upgraded_short (λ i. p) first later (faithful_in_force p first later f.at_first f.others) (shapes p first later f) rising ks (fit p first later f ks packets) end left s turns run)

-- Runs with changes of tables that are faithful to the programs in force report what one big switch does whose program changes,
-- and their copies make few hops.
use Rattle.std.proofs.Common.{◌≡◌, ℕ, ◌+◌, Bool, true, false, List, [], ◌∷◌, ◌++◌, length, refl, sym, subst, ◌∙◌, arith, lit<}
use Rattle.std.specs.Prelude.{nat_le, if◌then◌else◌}
use Rattle.std.specs.List.{All}
use Rattle.std.proofs.lemmas.List.Elements.{All-head, All-tail}
use Rattle.snap_core.specs.declared.program.Program.{Program}
use Rattle.snap_core.specs.Arrays.{zero_arrays}
use Rattle.snap_core.specs.Fields.{count}
use Rattle.snap_core.specs.Inputs.{IsPacket}
use Rattle.snap_core.specs.Packets.{PacketSet}
use Rattle.snap_topology.specs.Walks.{IsDiameter, Linked}
use Rattle.snap_rows.specs.declared.tables.Tables.{Tables}
use Rattle.snap_rows.specs.Entries.{port_numbers}
use Rattle.snap_rows.specs.Network.{Net, start}
use Rattle.snap_faithful.specs.Faithful.{most_hops}
use Rattle.snap_runs.specs.Reports.{array_names}
use Rattle.snap_report.specs.Reports.{block, end_text}
use Rattle.snap_refinement.specs.OneSwitch.{port_lines}
use Rattle.snap_refinement.proofs.Sets.{one_block}
use Rattle.snap_refinement.proofs.Short.{short_from}
use Rattle.snap_runs.specs.declared.later.Later.{Later}
use Rattle.snap_runs.specs.Changing.{AreBlocksFrom, HaveShapeOf, IsRising, RunsThrough, Passage, in_force}
use Rattle.snap_runs.specs.Moving.{IsFrom}
use Rattle.snap_refinement.specs.ChangingSwitch.{blocks_under}
use Rattle.snap_runs.specs.Shapes.{HaveOneShape}
use Rattle.snap_refinement.proofs.Earlier.{all_short-later}
use Rattle.snap_runs.proofs.ChangesSettling.{shape-same}
use Rattle.snap_refinement.specs.ChangeLaws.{AreFaithfulTo, AreTurnsShort, IsTurnShortFor, UpgradedRunsAreShort, UpgradedRunsReportOneSwitch}
use Rattle.snap_refinement.proofs.Whole.{ActsAsOne, CameUnder, IsOfRuns, IsStoreFor, Stands, acts_as_one, whole-start}

-- ---- from empty arrays
from-zero : (ls : List Later) → IsFrom ls 0
from-zero [] = tt
from-zero (l ∷ ls) = omega arith

no_numbers : (t : Tables) → IsStoreFor t zero_arrays
no_numbers t = record { numbers = λ q. lit< tt; only = λ q above. refl }

module _ (programs : ℕ → Program) (P : Program → Passage → Type 0) (each : IsOfRuns P) (first : Tables) (later : List Later) (faithful : AreFaithfulTo programs first later) (shapes : HaveShapeOf first later) (rising : IsRising later)
    (ks : List (List ℕ)) (packets : All (IsPacket (count first.fields)) ks) where
  at_start : Stands programs P each first first later (start first zero_arrays) ks zero_arrays
  at_start = record {
    faithful = λ i low. faithful i;
    same = shape-same first;
    others = shapes;
    rising = rising;
    from = from-zero later;
    store = no_numbers first;
    stores = refl;
    rests = refl;
    whole_is = whole-start first zero_arrays (no_numbers first);
    packets = packets;
  }

  from_zero : (end : Tables) (left : List Later) (last : Net) (turns : List Passage) → RunsThrough end left last first later (start first zero_arrays) ks turns → ActsAsOne programs P first zero_arrays ks 0 (in_force first later) turns end last
  from_zero end left last turns run = acts_as_one programs P each first run zero_arrays at_start

-- ---- names
-- the tables that are in force have the shape of the first
pub force-shape : (shape t : Tables) (ls : List Later) → HaveOneShape t shape → HaveShapeOf shape ls → (i : ℕ) → HaveOneShape (in_force t ls i) shape
force-shape shape t [] same others i = same
force-shape shape t (l ∷ ls) same others i =
    by (nat_le l.after i) (force-shape shape l.tables ls (All-head (λ (x : Later). HaveOneShape x.tables shape) l ls others) (All-tail (λ (x : Later). HaveOneShape x.tables shape) l ls others) i)
  where
    by : (b : Bool) → HaveOneShape (in_force l.tables ls i) shape → HaveOneShape (if b then in_force l.tables ls i else t) shape
    by true behind = behind
    by false behind = same

-- ---- blocks
blocks_of_sets : (programs : ℕ → Program) (P : Program → Passage → Type 0) (force : ℕ → Tables) (i : ℕ) (turns : List Passage) (sets : List PacketSet) (text : List ℕ) → AreBlocksFrom false i turns text → CameUnder programs P force i turns sets
    → text ≡ blocks_under (λ j. port_lines (programs j).fields (port_numbers (force j))) i sets
blocks_of_sets programs P force i [] [] text are came = are
blocks_of_sets programs P force i (x ∷ xs) (set ∷ sets) text are came =
    let here : are.0 ≡ block (port_lines (programs i).fields (port_numbers (force i))) (i + 1) set =
    one_block x.tables i set x.happenings are.0 came.2 are.2 ∙ (λ j. block (port_lines (came.1 j) (port_numbers (came.0 j))) (i + 1) set) in
    are.4 ∙ (λ j. here j ++ blocks_of_sets programs P force (i + 1) xs sets are.1 are.3 came.4 j)
blocks_of_sets programs P force i [] (set ∷ sets) text are came = absurd came
blocks_of_sets programs P force i (x ∷ xs) [] text are came = absurd came

abbrev Nothing : Program → Passage → Type 0
Nothing p turn = Unit {0}

pub upgraded_report : UpgradedRunsReportOneSwitch
upgraded_report programs first later faithful shapes rising ks packets text told =
    let run = told.ran in
    let r = told.report in
    let x = from_zero programs Nothing (λ p t f m store es fits s hs run n. tt) first later faithful shapes rising ks packets run.end run.left run.state run.turns run.run in
    let all = blocks_of_sets programs Nothing (in_force first later) 0 run.turns x.made.packets r.blocks r.are x.came in
    let names : array_names run.end ≡ (programs (length ks)).arrays = x.names ∙ sym (force-shape first first later (shape-same first) shapes (length ks)).names ∙ (faithful (length ks)).faithful.shape.names in
    record {
      made = x.made;
      defined = x.switched;
      entries = r.entries;
      listed = record { rising = r.listed.rising; nonzero = r.listed.nonzero; numbers = λ q. r.listed.numbers q ∙ x.whole_is q };
      is = r.is ∙ (λ i. all i ++ end_text (names i) r.entries);
    }

-- ---- hops
turns_short : IsOfRuns IsTurnShortFor
turns_short p t f m store es fits s hs run n order rank d greatest =
    all_short-later n (most_hops t.version (length order) d) hs
    (short_from p f.topology f.places t f.faithful order d rank
    (subst (λ links. IsDiameter (Linked links) (length f.topology.switches) d) f.faithful.shape.links (subst (λ l. IsDiameter (Linked t.links) (length l) d) f.faithful.shape.switches greatest)) m store es s hs fits run)

each_short : (programs : ℕ → Program) (force : ℕ → Tables) (i : ℕ) (turns : List Passage) (sets : List PacketSet) → CameUnder programs IsTurnShortFor force i turns sets → AreTurnsShort programs i turns
each_short programs force i [] [] came = tt
each_short programs force i (x ∷ xs) (set ∷ sets) came = (came.3, each_short programs force (i + 1) xs sets came.4)
each_short programs force i [] (set ∷ sets) came = absurd came
each_short programs force i (x ∷ xs) [] came = absurd came

pub upgraded_short : UpgradedRunsAreShort
upgraded_short programs first later faithful shapes rising ks packets end left s turns run =
    let x = from_zero programs IsTurnShortFor turns_short first later faithful shapes rising ks packets end left s turns run in
    each_short programs (in_force first later) 0 turns x.made.packets x.came

-- Laws of runs with changes, and of those of faithful tables.
use Rattle.std.specs.Prelude.{◌≡◌, ℕ, ◌+◌, ◌≤◌, ◌<◌, Bool, false, List, [], ◌∷◌, ◌++◌, Ok, length, option_and_then, option_map}
use Rattle.std.specs.List.{All}
use Rattle.snap_core.specs.declared.program.Program.{Program}
use Rattle.snap_core.specs.Arrays.{Arrays, zero_arrays}
use Rattle.snap_core.specs.Fields.{count}
use Rattle.snap_core.specs.Inputs.{IsPacket}
use Rattle.snap_core.specs.Switch.{Switched, one_big_switch}
use Rattle.snap_dep.specs.Ranks.{IsRank}
use Rattle.snap_topology.specs.Walks.{IsDiameter, Linked}
use Rattle.snap_topology.specs.declared.topology.Topology.{Topology}
use Rattle.snap_rows.specs.declared.tables.Tables.{Tables}
use Rattle.snap_rows.specs.Entries.{port_numbers}
use Rattle.snap_rows.specs.Form.{IsWellFormed}
use Rattle.snap_rows.specs.Network.{Net, start}
use Rattle.snap_faithful.specs.Faithful.{Faithful, IsPacketOf, most_hops}
use Rattle.snap_refinement.specs.Laws.{IsHopWithin}
use Rattle.snap_runs.specs.declared.change.Change.{Change}
use Rattle.snap_runs.specs.declared.later.Later.{Later}
use Rattle.snap_runs.specs.Changing.{AreChangedBlocks, HaveShapeOf, IsChangedReport, IsRising, IsTurnsReport, RunsThrough, Passage, in_force}
use Rattle.snap_runs.specs.ChangeLines.{AreRising, changes_of}
use Rattle.snap_refinement.specs.ChangingSwitch.{IsChangingReport, IsSwitchReportUnder, changing_switch}

-- ---- changes
-- what a changes file says comes behind rising numbers of packets
abbrev pub SaidChangesRise : Type 0
SaidChangesRise = (text : List ℕ) (changes : List Change) → changes_of text ≡ Ok changes → AreRising changes

-- ---- one report
abbrev pub AreWellFormed : Tables → List Later → Type 0
AreWellFormed first later = IsWellFormed first × All (λ (l : Later). IsWellFormed l.tables) later

-- packets have one report, and the same blocks, in the run with these changes
abbrev pub ChangedReportsAreOne : Type 0
ChangedReportsAreOne = (first : Tables) (later : List Later) → AreWellFormed first later → (hops : Bool) (ks : List (List ℕ)) (a b : List ℕ)
    → IsChangedReport first later hops ks a → IsChangedReport first later hops ks b → a ≡ b

abbrev pub ChangedBlocksAreOne : Type 0
ChangedBlocksAreOne = (first : Tables) (later : List Later) → AreWellFormed first later → (hops : Bool) (ks : List (List ℕ)) (a b : List ℕ)
    → AreChangedBlocks first later hops ks a → AreChangedBlocks first later hops ks b → a ≡ b

-- turns with a report have one without hops, which is the same where none are told
abbrev pub TurnsReportWithoutHops : Type 0
TurnsReportWithoutHops = (end : Tables) (s : Net) (turns : List Passage) (hops : Bool) (text : List ℕ) → IsTurnsReport end s turns hops text
    → (plain : List ℕ) × IsTurnsReport end s turns false plain × (hops ≡ false → plain ≡ text)

-- ---- faithful tables
-- the tables are faithful to the program, for some topology and placement
pub record IsFaithfulTo (p : Program) (t : Tables) : Type 0 where
  pub topology : Topology
  pub places : List ℕ
  pub faithful : Faithful p topology places t

-- all of them are, each for a topology and a placement of its own
pub record AreFaithful (p : Program) (first : Tables) (later : List Later) : Type 0 where
  pub at_first : IsFaithfulTo p first
  pub others : All (λ (l : Later). IsFaithfulTo p l.tables) later

-- **Where all tables are faithful to one program, the run with changes reports exactly what one big switch does over all
-- packets**, at the ports that are in force
abbrev pub ChangedRunsReportOneSwitch : Type 0
ChangedRunsReportOneSwitch = (p : Program) (first : Tables) (later : List Later) → AreFaithful p first later → IsRising later
    → (ks : List (List ℕ)) → All (IsPacketOf p) ks → (text : List ℕ) → IsChangedReport first later false ks text
    → IsSwitchReportUnder p (λ i. port_numbers (in_force first later i)) ks text

-- each copy makes few hops: at most (groups + 1) times the diameter of the topology that is in force, where the tables in force
-- are of version 2, and
-- (2 groups + 1) times where they are of version 1
abbrev pub IsTurnShort : (groups : ℕ) → Passage → Type 0
IsTurnShort groups x = (d : ℕ) → IsDiameter (Linked x.tables.links) (length x.tables.switches) d
    → All (IsHopWithin (most_hops x.tables.version groups d)) x.happenings

-- **so it does in each run with changes of faithful tables**
abbrev pub ChangedRunsAreShort : Type 0
ChangedRunsAreShort = (p : Program) (first : Tables) (later : List Later) → AreFaithful p first later
    → IsRising later → (order : List ℕ) → IsRank p.body (length p.arrays) order → (ks : List (List ℕ)) → All (IsPacketOf p) ks
    → (end : Tables) (left : List Later) (s : Net) (turns : List Passage)
    → RunsThrough end left s first later (start first zero_arrays) ks turns
    → All (IsTurnShort (length order)) turns

-- ---- one big switch whose program changes
-- while one program is in force it is one big switch of that program
abbrev pub PieceIsOneSwitch : Type 0
PieceIsOneSwitch = (programs : ℕ → Program) (p : Program) (i : ℕ) (m : Arrays) (ks : List (List ℕ))
    → ((j : ℕ) → i ≤ j → j < i + length ks → programs j ≡ p)
    → changing_switch programs i m ks ≡ one_big_switch p.body m ks

-- packets behind others begin with the arrays that those left
abbrev pub then_switched : Switched → Switched → Switched
then_switched a b = record { packets = a.packets ++ b.packets; arrays = b.arrays }

abbrev pub PiecesFollow : Type 0
PiecesFollow = (programs : ℕ → Program) (i : ℕ) (m : Arrays) (ks more : List (List ℕ))
    → changing_switch programs i m (ks ++ more) ≡ option_and_then
    (λ a. option_map (then_switched a) (changing_switch programs (i + length ks) a.arrays more)) (changing_switch programs i m ks)

-- with one program the report is that of one big switch, and conversely
abbrev pub OneProgramReportsOneSwitch : Type 0
OneProgramReportsOneSwitch = (p : Program) (ports : ℕ → List ℕ) (ks : List (List ℕ)) (text : List ℕ)
    → IsChangingReport (λ i. p) ports ks text → IsSwitchReportUnder p ports ks text

abbrev pub OneSwitchIsReported : Type 0
OneSwitchIsReported = (p : Program) (ports : ℕ → List ℕ) (ks : List (List ℕ)) (text : List ℕ)
    → IsSwitchReportUnder p ports ks text → IsChangingReport (λ i. p) ports ks text

-- ---- tables of a program that changes
-- the tables that are in force for each packet are faithful to the program of its number, for some topology and placement
abbrev pub AreFaithfulTo : (ℕ → Program) → Tables → List Later → Type 0
AreFaithfulTo programs first later = (i : ℕ) → IsFaithfulTo (programs i) (in_force first later i)

-- **Where the tables in force are always faithful to the program in force, and have one shape, the run with changes reports
-- exactly what one big switch does whose program changes,** at the ports that are in force
abbrev pub UpgradedRunsReportOneSwitch : Type 0
UpgradedRunsReportOneSwitch = (programs : ℕ → Program) (first : Tables) (later : List Later)
    → AreFaithfulTo programs first later → HaveShapeOf first later → IsRising later
    → (ks : List (List ℕ)) → All (IsPacket (count first.fields)) ks → (text : List ℕ) → IsChangedReport first later false ks text
    → IsChangingReport programs (λ i. port_numbers (in_force first later i)) ks text

-- each copy makes few hops, by the groups of the program, the tables and the topology that are in force. The first of the turns
-- has number i
abbrev pub IsTurnShortFor : Program → Passage → Type 0
IsTurnShortFor p x = (order : List ℕ) → IsRank p.body (length p.arrays) order → IsTurnShort (length order) x

abbrev pub AreTurnsShort : (programs : ℕ → Program) → (i : ℕ) → List Passage → Type 0
AreTurnsShort programs i [] = Unit {0}
AreTurnsShort programs i (x ∷ xs) = IsTurnShortFor (programs i) x × AreTurnsShort programs (i + 1) xs

-- **so it does in each such run**
abbrev pub UpgradedRunsAreShort : Type 0
UpgradedRunsAreShort = (programs : ℕ → Program) (first : Tables) (later : List Later)
    → AreFaithfulTo programs first later → HaveShapeOf first later → IsRising later
    → (ks : List (List ℕ)) → All (IsPacket (count first.fields)) ks
    → (end : Tables) (left : List Later) (s : Net) (turns : List Passage)
    → RunsThrough end left s first later (start first zero_arrays) ks turns
    → AreTurnsShort programs 0 turns

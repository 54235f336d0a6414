-- The packets of a run come in at ports of the tables.
use Rattle.std.proofs.Common.{◌≡◌, ℕ, List, [], ◌∷◌, refl, ap, is_some, lit<}
use Rattle.std.specs.Prelude.{slice_index}
use Rattle.std.specs.List.{All}
use Rattle.std.proofs.lemmas.List.Elements.{All-nil, All-cons, All-map}
use Rattle.snap_core.specs.declared.program.Program.{Program}
use Rattle.snap_core.specs.Arrays.{zero_arrays}
use Rattle.snap_rows.specs.declared.tables.Tables.{Tables}
use Rattle.snap_rows.specs.Network.{Net, Event, Inject, Step, Happening, Leads, inject, Runs, RunsBy, done, on, packets_of}
use Rattle.snap_rows.specs.Progress.{CanBeInjected}
use Rattle.snap_faithful.specs.Faithful.{IsStoreOf, IsPacketOf, AllCanEnter, packets_in}
use Rattle.snap_runs.specs.Plain.{entering}

-- empty arrays are a store
pub no_numbers : (p : Program) → IsStoreOf p zero_arrays
no_numbers p = record { numbers = λ q. lit< tt; only = λ q above. refl }

abbrev pub IsOfProgram : Program → ℕ × List ℕ → Type 0
IsOfProgram p e = IsPacketOf p e.1

pub entering-packets : (ks : List (List ℕ)) → packets_in (entering ks) ≡ ks
entering-packets [] = refl
entering-packets (k ∷ ks) = ap (λ l. k ∷ l) (entering-packets ks)

pub entering-fits : (p : Program) (ks : List (List ℕ)) → All (IsPacketOf p) ks → All (IsOfProgram p) (entering ks)
entering-fits p ks packets = All-map (IsOfProgram p) (λ k. (slice_index k 0, k)) ks packets

module _ {S L : Type 0} (leads : S → Event → S → List L → Type 0) (t : Tables) (at_port : (s s' : S) (port : ℕ) (k : List ℕ) (h : List L) → leads s (Inject port k) s' h → CanBeInjected t (port, k)) where
  all_injected : {s s' : S} {es : List Event} {hs : List L} → RunsBy leads s es s' hs → All (CanBeInjected t) (packets_of es)
  all_injected done = All-nil (CanBeInjected t)
  all_injected (on {s = s} {s' = s'} {e = Inject port k} {es = es} {h = h} enters onward) = All-cons (CanBeInjected t) (port, k) (packets_of es) (at_port s s' port k h enters) (all_injected onward)
  all_injected (on {e = Step i} goes onward) = all_injected onward

  pub all-enter : (p : Program) {s s' : S} {es : List Event} {hs : List L} → All (IsOfProgram p) (packets_of es) → RunsBy leads s es s' hs → AllCanEnter p t (packets_of es)
  all-enter p packets run = λ i e within. record { packet = packets i e within; injected = all_injected run i e within }

enters_at : (t : Tables) (s s' : Net) (port : ℕ) (k : List ℕ) (h : List Happening) → Leads t s (Inject port k) s' h → CanBeInjected t (port, k)
enters_at t s s' port k h (inject own names) = record { port = ap is_some own; first = names }

pub all_enter : (t : Tables) (p : Program) {s s' : Net} {es : List Event} {hs : List Happening} → All (IsOfProgram p) (packets_of es) → Runs t s es s' hs → AllCanEnter p t (packets_of es)
all_enter t p packets run = all-enter (Leads t) t (enters_at t) p packets run

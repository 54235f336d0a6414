-- A sequential schedule tells a sequential run.
use Rattle.std.proofs.Common.{◌≡◌, ℕ, List, [], ◌∷◌, ◌++◌, refl, sym, ap, ◌∙◌, append_assoc}
use Rattle.std.specs.Prelude.{slice_index}
use Rattle.snap_core.specs.Arrays.{zero_arrays}
use Rattle.snap_rows.specs.declared.tables.Tables.{Tables}
use Rattle.snap_rows.specs.Network.{Net, Event, Inject, Step, Happening, Runs, done, on, RunsSequentially, rests, packets_of, start}
use Rattle.snap_rows.specs.Network as net
use Rattle.snap_rows.proofs.Runs.{runs-then}
use Rattle.snap_runs.specs.Plain.{entering}
use Rattle.snap_runs.specs.Schedules.{IsSequential, Obeys, Spells, nothing, skips, injects, steps}
use Rattle.snap_runs.proofs.Spelling.{spells-inject, spells-skip, spells-step}

module _ (t : Tables) (ks lines : List (List ℕ)) (sequential : IsSequential t ks lines) where
  -- some lines were done, and the others go on from there
  goes_on : (first : List (List ℕ)) {rest mid left : List (List ℕ)} {es : List Event} (s : Net) (gs : List Happening) {n : Net} {hs : List Happening}
      → lines ≡ first ++ rest → Obeys t ks first mid s gs → Spells rest mid es left → Runs t s es n hs → RunsSequentially t s es n hs
  goes_on first s gs are so nothing done = rests
  goes_on first s gs are so (skips {line = line} {lines = more} e spells) ran =
      goes_on (first ++ line ∷ []) s gs (are ∙ sym (append_assoc first (line ∷ []) more)) (record { events = so.events; spells = spells-skip line e so.spells; run = so.run }) spells ran
  goes_on first {mid = mid} s gs are so (injects {line = line} {k = k} {lines = more} {ks = left} e spells) (on {s' = s'} {h = h} leads ran) =
      let now : Obeys t ks (first ++ line ∷ []) left s' (gs ++ h) = record {
        events = so.events ++ Inject (slice_index k 0) k ∷ [];
        spells = spells-inject line k left e refl so.spells;
        run = runs-then (Inject (slice_index k 0) k) s' h so.run leads;
      } in
      net.injects (sequential first more line are e mid s gs so) leads (goes_on (first ++ line ∷ []) s' (gs ++ h) (are ∙ sym (append_assoc first (line ∷ []) more)) now spells ran)
  goes_on first {mid = mid} s gs are so (steps {line = line} {lines = more} {i = i} e spells) (on {s' = s'} {h = h} leads ran) =
      let now : Obeys t ks (first ++ line ∷ []) mid s' (gs ++ h) = record {
        events = so.events ++ Step i ∷ [];
        spells = spells-step line i e so.spells;
        run = runs-then (Step i) s' h so.run leads;
      } in
      net.steps leads (goes_on (first ++ line ∷ []) s' (gs ++ h) (are ∙ sym (append_assoc first (line ∷ []) more)) now spells ran)

pub sequential_runs : (t : Tables) (ks lines left : List (List ℕ)) (s : Net) (hs : List Happening) → IsSequential t ks lines → (o : Obeys t ks lines left s hs) → RunsSequentially t (start t zero_arrays) o.events s hs
sequential_runs t ks lines left s hs sequential o = goes_on t ks lines sequential [] (start t zero_arrays) [] refl (record { events = []; spells = nothing; run = done }) o.spells o.run

enters : {lines ks left : List (List ℕ)} {es : List Event} → Spells lines ks es left → left ≡ [] → packets_of es ≡ entering ks
enters nothing none = ap entering (sym none)
enters (skips e more) none = enters more none
enters (injects {k = k} e more) none = ap (λ l. (slice_index k 0, k) ∷ l) (enters more none)
enters (steps e more) none = enters more none

pub keeps_order : (lines ks : List (List ℕ)) (es : List Event) → Spells lines ks es [] → packets_of es ≡ entering ks
keeps_order lines ks es spells = enters spells refl

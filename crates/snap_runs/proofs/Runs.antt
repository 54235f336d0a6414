-- Runs, one behind another.
use Rattle.std.proofs.Common.{◌≡◌, ℕ, List, [], ◌∷◌, ◌++◌, ◌∙◌}
use Rattle.std.specs.List.{All}
use Rattle.std.proofs.lemmas.List.Elements.{All-append, All-cons}
use Rattle.snap_core.specs.Arrays.{Arrays}
use Rattle.snap_rows.specs.declared.tables.Tables.{Tables}
use Rattle.snap_rows.specs.Network.{Net, Event, Inject, Happening, RunsSequentially, packets_of, StepsFirst, IsPlainRun}
use Rattle.snap_net.proofs.Told.{sequential-then, packets_of-append}

-- a plain run, and the steps of one packet more
pub plain-then : (t : Tables) (m : Arrays) (ks : List (ℕ × List ℕ)) (es : List Event) (s : Net) (hs : List Happening) → IsPlainRun t m ks es s hs
    → (port : ℕ) (k : List ℕ) (fs : List Event) (s' : Net) (gs : List Happening) → packets_of fs ≡ [] → All StepsFirst fs → RunsSequentially t s (Inject port k ∷ fs) s' gs → s'.flying ≡ []
    → IsPlainRun t m (ks ++ (port, k) ∷ []) (es ++ Inject port k ∷ fs) s' (hs ++ gs)
plain-then t m ks es s hs run port k fs s' gs none first more rests' = record {
  packets = packets_of-append es (Inject port k ∷ fs) ∙ (λ i. run.packets i ++ (port, k) ∷ none i);
  first = All-append StepsFirst es (Inject port k ∷ fs) run.first (All-cons StepsFirst (Inject port k) fs tt first);
  run = sequential-then t s' (Inject port k ∷ fs) gs run.run more;
  ended = rests';
}

-- The tables of a run's turns are those in force.
use Rattle.std.proofs.Common.{◌≡◌, ℕ, ◌+◌, ◌≤◌, List, [], ◌∷◌, length, sym, ap, subst, ◌∙◌, arith}
use Rattle.std.specs.Prelude.{slice_index, if◌then◌else◌}
use Rattle.std.proofs.lemmas.Bool.{le-leb}
use Rattle.snap_rows.specs.declared.tables.Tables.{Tables}
use Rattle.snap_rows.specs.Network.{Inject, RunsBy, done, on, packets_of}
use Rattle.snap_runs.specs.Changing.{Between, Passage, TakesTurn, Turn, in_force, changes, goes}
use Rattle.snap_refinement.proofs.Earlier.{counts}
use Rattle.snap_runs.proofs.ChangesSettling.{force-now}
use Rattle.snap_refinement.specs.InForce.{AreInForce, TurnsAreInForce}

force-as : (f g : ℕ → Tables) (i n : ℕ) (xs : List Passage) → n ≤ i → ((j : ℕ) → n ≤ j → f j ≡ g j) → AreInForce f i xs → AreInForce g i xs
force-as f g i n [] low same are = tt
force-as f g i n (x ∷ xs) low same are = (are.0 ∙ same i low, force-as f g (i + 1) n xs (omega arith) same are.1)

in-force : {a b : Between} {es : List Turn} {turns : List Passage} → RunsBy TakesTurn a es b turns → AreInForce (in_force a.tables a.later) a.net.injected turns
in-force done = tt
in-force (on {hs = turns} (changes {t = t} {l = l} {ls = ls} {s = s} due) rest) =
    force-as (in_force l.tables ls) (in_force t (l ∷ ls)) s.injected s.injected turns (omega arith)
    (λ j low. sym (ap (λ b. if b then in_force l.tables ls j else t) (le-leb l.after j (omega (arith, due, low))))) (in-force rest)
in-force (on {hs = turns} (goes {k = k} {t = t} {ls = ls} {s = s} {s' = s'} ahead through) rest) =
    let one : length (packets_of (Inject (slice_index k 0) k ∷ through.events)) ≡ 1 = ap (λ (l : List (ℕ × List ℕ)). length ((slice_index k 0, k) ∷ l)) through.no_packets in
    let more : s'.injected ≡ s.injected + 1 = counts t through.run ∙ ap (λ x. s.injected + x) one in
    (sym (force-now t ls s.injected ahead), subst (λ i. AreInForce (in_force t ls) i turns) more (in-force rest))

pub turns_in_force : TurnsAreInForce
turns_in_force first later ks end left s turns run = in-force run.1

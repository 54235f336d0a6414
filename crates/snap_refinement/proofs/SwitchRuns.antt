-- One big switch runs.
use Rattle.std.proofs.Common.{◌≡◌, ℕ, List, [], ◌∷◌, Option, None, Some, refl, sym, ap, subst, ◌∙◌}
use Rattle.std.specs.Prelude.{option_map, option_and_then}
use Rattle.std.proofs.lemmas.Option.{none-some, same_Some}
use Rattle.snap_core.specs.declared.policy.Pol.{Pol}
use Rattle.snap_core.specs.Arrays.{Arrays}
use Rattle.snap_core.specs.Meaning.{Meaning, eval}
use Rattle.snap_core.specs.Packets.{PacketSet}
use Rattle.snap_core.specs.Switch.{Switched, one_big_switch}
use Rattle.snap_core.proofs.Switching.{in_front}
use Rattle.snap_rows.specs.Network.{RunsBy, done, on}
use Rattle.snap_refinement.specs.SwitchRuns.{OneSwitchRuns, SwitchLeads, evaluates}

runs_switch : (p : Pol) {m end : Arrays} {ks : List (List ℕ)} {sets : List PacketSet} → RunsBy (SwitchLeads p) m ks end sets → one_big_switch p m ks ≡ Some (record { packets = sets; arrays = end })
runs_switch p done = refl
runs_switch p (on {es = ks} (evaluates {o = o} e) rest) =
    ap (option_and_then (λ (o : Meaning). option_map (in_front o) (one_big_switch p o.arrays ks))) e ∙ ap (option_map (in_front o)) (runs_switch p rest)

switch_runs : (p : Pol) (m : Arrays) (ks : List (List ℕ)) (end : Switched) → one_big_switch p m ks ≡ Some end → RunsBy (SwitchLeads p) m ks end.arrays end.packets
switch_runs p m [] end e = subst (λ (s : Switched). RunsBy (SwitchLeads p) m [] s.arrays s.packets) (same_Some _ end e) done
switch_runs p m (k ∷ ks) end e = first (λ o r f. switch_runs p o.arrays ks r f) (eval p m k) refl
  where
    more : (o : Meaning) → eval p m k ≡ Some o → ((r : Switched) → one_big_switch p o.arrays ks ≡ Some r → RunsBy (SwitchLeads p) o.arrays ks r.arrays r.packets)
        → (r : Option Switched) → one_big_switch p o.arrays ks ≡ r → option_map (in_front o) r ≡ Some end → RunsBy (SwitchLeads p) m (k ∷ ks) end.arrays end.packets
    more o is rest None f g = absurd (none-some end g)
    more o is rest (Some r) f g = subst (λ (s : Switched). RunsBy (SwitchLeads p) m (k ∷ ks) s.arrays s.packets) (same_Some (in_front o r) end g) (on (evaluates is) (rest r f))

    first : ((o : Meaning) (r : Switched) → one_big_switch p o.arrays ks ≡ Some r → RunsBy (SwitchLeads p) o.arrays ks r.arrays r.packets) → (x : Option Meaning) → eval p m k ≡ x → RunsBy (SwitchLeads p) m (k ∷ ks) end.arrays end.packets
    first rest None is = absurd (none-some end (sym (ap (option_and_then (λ (o : Meaning). option_map (in_front o) (one_big_switch p o.arrays ks))) is) ∙ e))
    first rest (Some o) is = more o is (rest o) (one_big_switch p o.arrays ks) refl (sym (ap (option_and_then (λ (o : Meaning). option_map (in_front o) (one_big_switch p o.arrays ks))) is) ∙ e)

pub one_switch_runs : OneSwitchRuns
one_switch_runs p m end ks sets = (switch_runs p m ks (record { packets = sets; arrays = end }), runs_switch p)

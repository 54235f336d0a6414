-- One big switch makes a set of each packet, and packets have numbers.
use Rattle.std.proofs.Common.{◌≡◌, ℕ, zero, suc, ◌+◌, ◌<◌, List, [], ◌∷◌, length, Some, ap, ◌∙◌, arith}
use Rattle.std.specs.Prelude.{slice_get, option_map}
use Rattle.std.specs.List.{range_with_len}
use Rattle.std.proofs.lemmas.Option.{same_Some, option_and_then_some}
use Rattle.snap_core.specs.declared.policy.Pol.{Pol}
use Rattle.snap_core.specs.Arrays.{Arrays}
use Rattle.snap_core.specs.Meaning.{eval}
use Rattle.snap_core.specs.Switch.{Switched, one_big_switch}
use Rattle.snap_runs.proofs.SpelledPackets.{mapped}

pub as_many : (p : Pol) (m : Arrays) (ks : List (List ℕ)) (made : Switched) → one_big_switch p m ks ≡ Some made → length ks ≡ length made.packets
as_many p m [] made e = ap (λ (s : Switched). length s.packets) (same_Some _ made e)
as_many p m (k ∷ ks) made e =
    option_and_then_some (λ o. option_map (λ (r : Switched). record { packets = o.packets ∷ r.packets; arrays = r.arrays }) (one_big_switch p o.arrays ks)) (eval p m k) made e (λ o eo onward.
    let r = mapped (λ (r : Switched). record { packets = o.packets ∷ r.packets; arrays = r.arrays }) (one_big_switch p o.arrays ks) made onward in
    ap suc (as_many p o.arrays ks r.0 r.1) ∙ ap (λ (s : Switched). length s.packets) r.2)

pub numbered_at : (n a j : ℕ) → j < n → slice_get (range_with_len a n) j ≡ Some (a + j)
numbered_at zero a j within = absurd (omega arith)
numbered_at (suc n) a zero within = ap Some (let e : a ≡ a + 0 = omega arith in e)
numbered_at (suc n) a (suc j) within = numbered_at n (a + 1) j (omega arith) ∙ ap Some (let e : a + 1 + j ≡ a + suc j = omega arith in e)

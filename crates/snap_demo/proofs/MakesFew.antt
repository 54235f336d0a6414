-- A policy without parallel parts makes one packet or none, and races nowhere.
use Rattle.std.proofs.Common.{◌≡◌, ◌⊎◌, inl, inr, ℕ, Bool, true, false, List, [], map, Option, Some, refl, sym, ap, ◌∙◌}
use Rattle.std.specs.Prelude.{slice_set, option_and_then, option_map, if◌then◌else◌}
use Rattle.snap_core.specs.declared.policy.Pol.{Pol}
use Rattle.snap_core.specs.declared.policy.Pol.TheVariants.{Filter, Set, Change, Par', Seq', If', Atomic'}
use Rattle.snap_core.specs.Arrays.{Arrays, value_of}
use Rattle.snap_core.specs.Meaning.{Meaning, all_together, eval, logged, truth, vars_of}
use Rattle.snap_core.specs.Packets.{PacketSet, listed, no_packets, with_packet}
use Rattle.snap_core.proofs.EvalLemmas.{each_one}
use Rattle.snap_core.proofs.Rising.{listed-set_of, set_of-same}
use Rattle.snap_demo.specs.Serial.{IsSerial}

-- the set has one packet or none
abbrev IsFew : PacketSet → Type 0
IsFew set = (set ≡ no_packets) ⊎ ((k : List ℕ) × (set ≡ with_packet no_packets k))

record MakesFew (p : Pol) (m : Arrays) (k : List ℕ) : Type 0 where
  made : Meaning
  is : eval p m k ≡ Some made
  few : IsFew made.packets

listed-none : listed no_packets ≡ []
listed-none = ap listed (sym (set_of-same [] [] refl (λ q. refl))) ∙ listed-set_of [] refl

-- a second part behind a first one that makes one packet or none
behind : (q : Pol) (m : Arrays) (set : PacketSet) → IsFew set → ((k : List ℕ) → MakesFew q m k)
    → (o : Meaning) × (all_together m (map (λ k. eval q m k) (listed set)) ≡ Some o) × IsFew o.packets
behind q m set (inl none) each = (
  _,
  ap (λ s. all_together m (map (λ k. eval q m k) (listed s))) none ∙ ap (λ ks. all_together m (map (λ k. eval q m k) ks)) listed-none,
  inl refl,
)
behind q m set (inr (k, one)) each =
    let o = each k in
    (o.made, ap (λ s. all_together m (map (λ k'. eval q m k') (listed s))) one ∙ each_one m q k ∙ o.is, o.few)

-- one of two meanings, by a test
either : (b : Bool) (p q : Option Meaning) → ((made : Meaning) × (p ≡ Some made) × IsFew made.packets) → ((made : Meaning) × (q ≡ Some made) × IsFew made.packets)
    → (made : Meaning) × ((if b then p else q) ≡ Some made) × IsFew made.packets
either true p q x y = x
either false p q x y = y

makes_few : (p : Pol) → IsSerial p → (m : Arrays) (k : List ℕ) → MakesFew p m k
makes_few (Filter x) serial m k = record { made = _; is = refl; few = passes (truth x m k) }
  where
    passes : (b : Bool) → IsFew (if b then with_packet no_packets k else no_packets)
    passes true = inr (k, refl)
    passes false = inl refl
makes_few (Set c a) serial m k = record { made = _; is = refl; few = inr (slice_set k c (value_of a k), refl) }
makes_few (Change u) serial m k = record { made = _; is = refl; few = inr (k, refl) }
makes_few (Par' a p b q) serial m k = absurd serial
makes_few (Seq' a p b q) serial m k =
    let first = makes_few p serial.0 m k in
    let o = first.made in
    let second = behind q o.arrays o.packets first.few (λ k'. makes_few q serial.1 o.arrays k') in
    record {
      made = logged o.reads o.writes second.0;
      is = ap (option_and_then (λ o. option_map (logged o.reads o.writes) (all_together o.arrays (map (λ k'. eval q o.arrays k') (listed o.packets))))) first.is
          ∙ ap (option_map (logged o.reads o.writes)) second.1;
      few = second.2;
    }
makes_few (If' x a p b q) serial m k =
    let here = makes_few p serial.0 m k in
    let other = makes_few q serial.1 m k in
    let one = either (truth x m k) (eval p m k) (eval q m k) (here.made, here.is, here.few) (other.made, other.is, other.few) in
    record { made = logged (vars_of x) 0 one.0; is = ap (option_map (logged (vars_of x) 0)) one.1; few = one.2 }
makes_few (Atomic' a p) serial m k = let o = makes_few p serial m k in record { made = o.made; is = o.is; few = o.few }

pub serial_never_races : (p : Pol) → IsSerial p → (m : Arrays) (k : List ℕ) → (o : Meaning) × (eval p m k ≡ Some o)
serial_never_races p serial m k = let o = makes_few p serial m k in (o.made, o.is)

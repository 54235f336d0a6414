-- Two programs from the comparison of their diagrams.
use Rattle.std.proofs.Common.{◌≡◌, ℕ, List, length, Err, sym, subst, inl, inr}
use Rattle.snap_core.specs.Meaning.{eval}
use Rattle.snap_core.specs.Inputs.{IsStore}
use Rattle.snap_diagrams.specs.declared.node.Node.{Node}
use Rattle.snap_diagrams.specs.declared.leaf.Leaf.{Leaf}
use Rattle.snap_diagrams.specs.Diagrams.{diagram}
use Rattle.snap_compose.specs.Substituted.{outcome}
use Rattle.snap_equal.proofs.Comparable.{comparable}
use Rattle.snap_equal.specs.Same.{CanBeCompared, DoApart, DoSame, MeanSame, SameOutcome, TellApart}
use Rattle.snap_cli.specs.declared.refusal.Refusal.TheVariants.{Differ}
use Rattle.snap_cli.specs.Check.{HasWhole, IsRaceTold, NeverRaces}
use Rattle.snap_cli.specs.Equal.{AreComparable, AreDeclaredAlike, Compares, IsDifferenceTold}
use Rattle.snap_cli.proofs.Shared.{Arrays, count, IsPacket, Program, Race, Refusal}

-- the refusal of the second program, or of both
pub second_told : (p q : Program) → AreDeclaredAlike p q → NeverRaces p → (e : Refusal) → IsRaceTold q e → Compares p q (Err e)
second_told p q alike never (Race text) h = (alike, inr (never, h))
second_told p q alike never e h = subst (λ x. Compares p q (Err x)) (sym h) tt

pub first_told : (p q : Program) → AreDeclaredAlike p q → (e : Refusal) → IsRaceTold p e → Compares p q (Err e)
first_told p q alike (Race text) h = (alike, inl h)
first_told p q alike e h = subst (λ x. Compares p q (Err x)) (sym h) tt

pub difference_told : (p q : Program) → AreComparable p q → (e : Refusal) → IsDifferenceTold p q e → Compares p q (Err e)
difference_told p q race_free (Differ text) h = (race_free, h)
difference_told p q race_free e h = subst (λ x. Compares p q (Err x)) (sym h) tt

pub can_be_compared : (p : Program) (comps arrays : ℕ) (ns : List (Node Leaf)) (d : ℕ) → comps ≡ count p.fields → arrays ≡ length p.arrays → HasWhole p ns d → CanBeCompared comps arrays ns d
can_be_compared p comps arrays ns d c v w = rw (c, v) (record {
  below = w.1.below;
  fits = comparable (record { comps = count p.fields; arrays = length p.arrays }) (diagram ns d) w.1.bounds w.1.race_free;
})

module _ (p q : Program) (ns os : List (Node Leaf)) (d e : ℕ) (alike : AreDeclaredAlike p q) (first : HasWhole p ns d) (second : HasWhole q os e) where
  packet_of : (k : List ℕ) → IsPacket (count p.fields) k → IsPacket (count q.fields) k
  packet_of k = subst (λ fields. IsPacket (count fields) k) alike.fields

  evaluated : (m : Arrays) (k : List ℕ) → IsStore m → IsPacket (count p.fields) k → DoSame ns d os e m k → SameOutcome (eval p.body m k) (eval q.body m k)
  evaluated m k store packet h =
      subst (λ x. SameOutcome x (eval q.body m k)) (first.1.outcome m k store packet) (subst (SameOutcome (outcome ns d m k)) (second.1.outcome m k store (packet_of k packet)) h)

  back : (m : Arrays) (k : List ℕ) → IsStore m → IsPacket (count p.fields) k → SameOutcome (eval p.body m k) (eval q.body m k) → DoSame ns d os e m k
  back m k store packet h =
      subst (λ x. SameOutcome x (outcome os e m k)) (sym (first.1.outcome m k store packet)) (subst (SameOutcome (eval p.body m k)) (sym (second.1.outcome m k store (packet_of k packet))) h)

  pub mean_same : (comps : ℕ) → comps ≡ count p.fields → ((m : Arrays) (k : List ℕ) → IsStore m → IsPacket comps k → DoSame ns d os e m k) → MeanSame p q
  mean_same comps is h m k store packet = evaluated m k store packet (h m k store (subst (λ n. IsPacket n k) (sym is) packet))

  pub tell_apart : (comps arrays : ℕ) (m : Arrays) (k : List ℕ) → comps ≡ count p.fields → arrays ≡ length p.arrays → DoApart comps arrays ns d os e m k → TellApart p q m k
  tell_apart comps arrays m k is are h =
      let packet : IsPacket (count p.fields) k = subst (λ n. IsPacket n k) is h.of.packet in
      record {
        of = record { store = h.of.store; only = λ at l. h.of.only at (rw are l); packet = packet };
        differ = λ same. h.differ (back m k h.of.store packet same);
      }

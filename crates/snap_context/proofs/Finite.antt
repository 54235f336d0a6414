-- Arrays that meet facts, cut down to the places of the facts.
use Rattle.std.proofs.Common.{◌≡◌, ℕ, zero, suc, ◌^◌, ◌<◌, cond, true, false, Bool, List, [], ◌∷◌, length, get_or, refl, ap, ◌∙◌, arith}
use Rattle.std.proofs.lemmas.Bool.{cond-true}
use Rattle.snap_core.proofs.Places.{same_place-exact, same_place-itself}
use Rattle.snap_core.specs.declared.place.Entry.{Entry}
use Rattle.snap_core.specs.declared.place.Place.{Place}
use Rattle.snap_core.specs.Arrays.{Arrays, same_place}
use Rattle.snap_core.specs.Listing.{number_in}
use Rattle.snap_core.specs.Inputs.{IsStore, IsPacket}
use Rattle.snap_context.specs.declared.fact.Fact.{Fact}
use Rattle.snap_context.specs.Meets.{Meets, IsMet}
use Rattle.snap_context.proofs.Places.{place_of, passes-like}

-- some arrays, not always a finite store, and a packet that meet the facts
pub record HasModel (comps : ℕ) (facts : List Fact) : Type 0 where
  pub arrays : Arrays
  pub packet : List ℕ
  pub is_store : IsStore arrays
  pub is_packet : IsPacket comps packet
  pub meets : Meets facts arrays packet

abbrev entries_of : Arrays → List ℕ → List Fact → List Entry
entries_of m k [] = []
entries_of m k (f ∷ fs) = record { place = place_of f.test k; value = m (place_of f.test k) } ∷ entries_of m k fs

entries_small : (m : Arrays) (k : List ℕ) (facts : List Fact) → IsStore m → IsStore (number_in (entries_of m k facts))
entries_small m k [] h p = omega arith
entries_small m k (f ∷ fs) h p =
    elim (same_place (place_of f.test k) p) as (λ b. cond b (m (place_of f.test k)) (number_in (entries_of m k fs) p) < 2 ^ 64)
    [ true ↦ h (place_of f.test k) | false ↦ entries_small m k fs h p ]

-- at the place of a fact the entries are as the arrays
number_in-entries_of : (m : Arrays) (k : List ℕ) (facts : List Fact) (i : ℕ) (d : Fact) → i < length facts → number_in (entries_of m k facts) (place_of (get_or facts i d).test k) ≡ m (place_of (get_or facts i d).test k)
number_in-entries_of m k [] i d l = absurd (omega arith)
number_in-entries_of m k (f ∷ fs) zero d l = cond-true _ _ _ (same_place-itself (place_of f.test k))
number_in-entries_of m k (f ∷ fs) (suc i) d l =
    let p : Place = place_of (get_or fs i d).test k in
    let by : (b : Bool) → same_place (place_of f.test k) p ≡ b → cond b (m (place_of f.test k)) (number_in (entries_of m k fs) p) ≡ m p
    = λ b. elim b as (λ b. same_place (place_of f.test k) p ≡ b → cond b (m (place_of f.test k)) (number_in (entries_of m k fs) p) ≡ m p) [
      | true ↦ λ e. ap m (same_place-exact (place_of f.test k) p e)
      | false ↦ λ e. number_in-entries_of m k fs i d (omega (arith, l))
    ]
    in by (same_place (place_of f.test k) p) refl

pub finite : (comps : ℕ) (facts : List Fact) → HasModel comps facts → IsMet comps facts
finite comps facts h = record {
  entries = entries_of h.arrays h.packet facts;
  packet = h.packet;
  is_store = entries_small h.arrays h.packet facts h.is_store;
  is_packet = h.is_packet;
  meets = λ i d l. passes-like h.arrays (number_in (entries_of h.arrays h.packet facts)) h.packet (get_or facts i d).test (number_in-entries_of h.arrays h.packet facts i d l) ∙ h.meets i d l;
}

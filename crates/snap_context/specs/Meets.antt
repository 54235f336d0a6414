-- When a store and a packet meet facts.
use Rattle.std.specs.Prelude.{◌≡◌, ℕ, Bool, List, ◌∷◌, All}
use Rattle.snap_core.specs.declared.place.Entry.{Entry}
use Rattle.snap_core.specs.declared.policy.Test.{Test}
use Rattle.snap_core.specs.Arrays.{Arrays}
use Rattle.snap_core.specs.Inputs.{IsStore, IsPacket}
use Rattle.snap_core.specs.Listing.{number_in}
use Rattle.snap_core.specs.Tests.{passes}
use Rattle.snap_context.specs.declared.fact.Fact.{Fact}

abbrev pub Meets : List Fact → Arrays → List ℕ → Type 0
Meets facts m k = All (λ f. passes f.test m k ≡ f.yes) facts

-- some finite store and some packet meet the facts
pub record IsMet (comps : ℕ) (facts : List Fact) : Type 0 where
  pub entries : List Entry
  pub packet : List ℕ
  pub is_store : IsStore (number_in entries)
  pub is_packet : IsPacket comps packet
  pub meets : Meets facts (number_in entries) packet

-- so on all arrays and packets that meet the facts
abbrev pub Under : ℕ → List Fact → (Arrays → List ℕ → Type 0) → Type 0
Under comps facts P = (m : Arrays) (k : List ℕ) → IsPacket comps k → Meets facts m k → P m k

-- no arrays and packet meet the facts
abbrev pub NoneMeets : ℕ → List Fact → Type 0
NoneMeets comps facts = Under comps facts (λ m k. ⊥)

-- the facts with a newest one
abbrev pub with_fact : List Fact → Test → Bool → List Fact
with_fact facts t y = record { test = t; yes = y } ∷ facts

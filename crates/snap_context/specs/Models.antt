-- How a context grows until all its models agree on the packet and on the places of its facts.
use Rattle.std.specs.Prelude.{◌≡◌, ℕ, ◌<◌, Bool, true, false, List, length, slice_index, All, Option, Some, None, MatchOption}
use Rattle.snap_core.specs.declared.place.Place.{Place}
use Rattle.snap_core.specs.Inputs.{IsStore, IsZeroFrom}
use Rattle.snap_core.specs.Arrays.{Arrays, place_at, put}
use Rattle.snap_core.specs.Cells.{Kept, arrays_of}
use Rattle.snap_context.specs.declared.fact.Fact.{Fact}
use Rattle.snap_context.specs.Meets.{Meets, Under}
use Rattle.snap_context.specs.Classes.{is_state, var_of, index_of}
use Rattle.snap_context.specs.View.{View}
use Rattle.snap_context.specs.declared.ask.Ask.{Ask}
use Rattle.snap_context.specs.declared.ask.Ask.TheVariants.{Component, At}
use Rattle.snap_context.specs.declared.ask.Settled.{Settled}
use Rattle.snap_context.specs.declared.example.ExampleDraft.{ExampleDraft}
use Rattle.snap_context.specs.Asks.{answer_of, IsSettled}

-- a context, or what it grew to
abbrev pub current : View → Option View → View
current v None = v
current v (Some w) = w

-- as many components, and what meets the second meets the first
pub record Extends (v w : View) : Type 0 where
  pub same : length w.classes ≡ length v.classes
  pub meets : (m : Arrays) (k : List ℕ) → Meets w.facts m k → Meets v.facts m k

-- every model gives the answer n
abbrev pub Forces : View → Ask → ℕ → Type 0
Forces w ask n = Under (length w.classes) w.facts (λ m k. answer_of ask m k ≡ n)

-- every model has the packet's components
abbrev pub ForcesPacket : View → List ℕ → Type 0
ForcesPacket w k = (c : ℕ) → c < length k → Forces w (Component c) (slice_index k c)

-- a packet, whole or so far, and what a context grew to: every model has the packet
pub record IsRun (v : View) (k : List ℕ) (w : View) : Type 0 where
  pub extends : Extends v w
  pub forces : ForcesPacket w k

-- the place of a state fact on a packet
abbrev pub place_of : Fact → List ℕ → Place
place_of f k = place_at (var_of f.test) (index_of f.test) k

-- at the place of the fact every model has the arrays' number
abbrev pub ForcesFact : View → List ℕ → Arrays → Fact → Type 0
ForcesFact w k m f = is_state f.test ≡ true → Forces w (At (place_of f k)) (m (place_of f k))

-- what is so of a draft
pub record IsDraft (v : View) (e : ExampleDraft) : Type 0 where
  pub run : IsRun v e.packet (current v e.grown)
  pub whole : length e.packet ≡ length v.classes
  pub small : IsStore (arrays_of e.store)

abbrev pub Knows : View → ExampleDraft → Fact → Type 0
Knows v e f = ForcesFact (current v e.grown) e.packet (arrays_of e.store) f

-- a fact on a place is on a variable below n
abbrev pub FactBelow : ℕ → Fact → Type 0
FactBelow n f = is_state f.test ≡ true → var_of f.test < n

-- a fact at no place leaves the store; for one at a place, the context grows by the place's number, which the store then has
abbrev pub SettlesFact : View → Fact → List ℕ → Kept → Kept → Option Settled → Type 0
SettlesFact v f k old new o = MatchOption o
    ((is_state f.test ≡ false) × (new ≡ old))
    (λ s. (is_state f.test ≡ true) × IsSettled v (At (place_of f k)) s × (arrays_of new ≡ put (arrays_of old) (place_of f k) s.num))

-- the places of those of the facts that have the answer are settled, and what was settled stays so
pub record Settles (v : View) (yes : Bool) (facts : List Fact) (old new : ExampleDraft) : Type 0 where
  pub draft : IsDraft v new
  pub places : All (λ f. f.yes ≡ yes → Knows v new f) facts
  pub kept : (f : Fact) → Knows v old f → Knows v new f
  pub only : (n : ℕ) → All (FactBelow n) facts → IsZeroFrom n (arrays_of old.store) → IsZeroFrom n (arrays_of new.store)

-- Values and tests as they are before an out.
use Rattle.std.specs.Prelude.{◌≡◌, ℕ, ◌<◌, ◌≤◌, Bool, ◌==◌, List, [], ◌∷◌, ◌++◌, All, map, length, if◌then◌else◌}
use Rattle.snap_core.specs.declared.policy.Atom.{Atom}
use Rattle.snap_core.specs.declared.policy.Atom.TheVariants.{Num as Number, Comp}
use Rattle.snap_core.specs.declared.policy.Op.{Op}
use Rattle.snap_core.specs.declared.policy.Op.TheVariants.{Put, Add}
use Rattle.snap_core.specs.declared.policy.Term.{Term}
use Rattle.snap_core.specs.declared.policy.Term.TheVariants.{Num, Plus}
use Rattle.snap_core.specs.declared.policy.Update.{Update}
use Rattle.snap_core.specs.Arrays.{Arrays}
use Rattle.snap_core.specs.Tests.{passes, after_out, OutFits, IsRisingOut}
use Rattle.snap_core.specs.Inputs.{IsPacket}
use Rattle.snap_context.specs.Classes.{shift}
use Rattle.snap_diagrams.specs.Bounds.{Sizes, TestIn}
use Rattle.snap_diagrams.specs.declared.leaf.Leaf.{Leaf}
use Rattle.snap_diagrams.specs.Leaves.{answer_of, outcome_of}
use Rattle.snap_compose.specs.declared.pulled_back.Early.{Early}
use Rattle.snap_compose.specs.declared.pulled_back.Early.TheVariants.{Known, Ask}

-- the atom that an out sets a component to, where a is what it was set to so far
abbrev pub atom_from : Atom → List (ℕ × Atom) → ℕ → Atom
atom_from a [] c = a
atom_from a (p ∷ ps) c = atom_from (if p.0 == c then p.1 else a) ps c

-- the atom whose value a component has after an out
abbrev pub atom_after : List (ℕ × Atom) → ℕ → Atom
atom_after out c = atom_from (Comp c) out c

-- an atom, a term, an operation and an update behind an out, in front of it
abbrev pub early_atom : List (ℕ × Atom) → Atom → Atom
early_atom out (Number n) = Number n
early_atom out (Comp c) = atom_after out c

-- an atom as a term
abbrev pub term_of : Atom → Term
term_of (Number n) = Num n
term_of (Comp c) = Plus c 0

abbrev pub early_term : List (ℕ × Atom) → Term → Term
early_term out (Num n) = Num n
early_term out (Plus c p) = shift (term_of (atom_after out c)) p

abbrev pub early_op : List (ℕ × Atom) → Op → Op
early_op out (Put a) = Put (early_atom out a)
early_op out (Add n) = Add n

abbrev pub early_update : List (ℕ × Atom) → Update → Update
early_update out u = record { var = u.var; index = map (early_atom out) u.index; op = early_op out u.op }

-- whether a store and a packet make it true, and whether it lies within bounds
abbrev pub early_holds : Early → Arrays → List ℕ → Bool
early_holds (Known b) m k = b
early_holds (Ask t) m k = passes t m k

abbrev pub EarlyIn : Sizes → Early → Type 0
EarlyIn s (Known b) = Unit {0}
EarlyIn s (Ask t) = TestIn s t

-- it decides a truth on packets of so many components
pub record IsEarly (s : Sizes) (P : Arrays → List ℕ → Bool) (e : Early) : Type 0 where
  pub is_in : EarlyIn s e
  pub holds : (m : Arrays) (k : List ℕ) → IsPacket s.comps k → early_holds e m k ≡ P m k

-- one out that does what another does behind the first
abbrev pub IsEarlyOut : ℕ → List (ℕ × Atom) → List (ℕ × Atom) → List (ℕ × Atom) → Type 0
IsEarlyOut comps out later both = (k : List ℕ) → length k ≡ comps → after_out both k ≡ after_out later (after_out out k)

-- a leaf that does in front of an out what another does behind it
abbrev pub IsEarlyLeaf : ℕ → List (ℕ × Atom) → Leaf → Leaf → Type 0
IsEarlyLeaf comps out l r = (m : Arrays) (k : List ℕ) → length k ≡ comps
    → outcome_of (answer_of r k) m ≡ outcome_of (answer_of l (after_out out k)) m

-- the parts and one more, unless the component keeps its own value
abbrev pub with_part : List (ℕ × Atom) → ℕ → Atom → List (ℕ × Atom)
with_part ps c (Number n) = ps ++ (c, Number n) ∷ []
with_part ps c (Comp d) = if d == c then ps else ps ++ (c, Comp d) ∷ []

-- the parts so far set the first components as both outs do, and no others
pub record IsComposing (comps : ℕ) (out later ps : List (ℕ × Atom)) (i : ℕ) : Type 0 where
  pub fits : OutFits comps ps
  pub rising : IsRisingOut ps
  pub below : All (λ (p : ℕ × Atom). p.0 < i) ps
  pub low : (c : ℕ) → c < i → atom_after ps c ≡ early_atom out (atom_after later c)
  pub high : (c : ℕ) → i ≤ c → atom_after ps c ≡ Comp c

-- What is noted of the nodes that are reached.
use Rattle.std.proofs.Common.{◌≡◌, inl, inr, ℕ, ◌<◌, List, [], ◌∷◌, ◌++◌, length, subst}
use Rattle.std.specs.Prelude.{Some, slice_get}
use Rattle.snap_diagrams.specs.declared.node.Node.{Node}
use Rattle.snap_diagrams.specs.Arena.{ExtendsArena}
use Rattle.snap_diagrams.specs.declared.leaf.Leaf.{Leaf}
use Rattle.snap_diagrams.specs.Diagrams.{Diagram, diagram}
use Rattle.snap_diagrams.specs.Reached.{AreNoted}
use Rattle.snap_diagrams.proofs.Shared.{kept, still_below}
use Rattle.snap_diagrams.proofs.Numbered.{slice_get-push_cases}

-- a note of the next number
pub noted_more : {X : Type 0} (Is : X → Diagram → Type 0) (ns : List (Node Leaf)) (ids : List ℕ) (notes : List X) (d : ℕ) (x : X) → slice_get ids (length notes) ≡ Some d → d < length ns → Is x (diagram ns d)
    → AreNoted Is ns ids notes → AreNoted Is ns ids (notes ++ x ∷ [])
noted_more Is ns ids notes d x at low new old p b y ep ey = elim (slice_get-push_cases notes x p y ey) [
  | inl h ↦ old p b y ep h
  | inr h ↦
      let place : slice_get ids (length notes) ≡ Some b = subst (λ (q : ℕ). slice_get ids q ≡ Some b) h.0 ep in
      let same : d ≡ b = cc in
      (subst (λ (c : ℕ). c < length ns) same low, subst (λ (c : ℕ). Is y (diagram ns c)) same (subst (λ z. Is z (diagram ns d)) h.1 new))
]

-- notes stay as nodes come
pub noted_kept : {X : Type 0} (Is : X → Diagram → Type 0) (old new : List (Node Leaf)) (ids : List ℕ) (notes : List X) → ExtendsArena old new → AreNoted Is old ids notes → AreNoted Is new ids notes
noted_kept Is old new ids notes g h p d x ep ex =
    let n = h p d x ep ex in
    (still_below old new d g n.0, rw (kept old new d g n.0) n.1)

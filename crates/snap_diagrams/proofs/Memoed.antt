-- What a memo remembers of picks, as the list of nodes grows.
use Rattle.std.proofs.Common.{ℕ, ◌<◌, List, [], ◌∷◌, length}
use Rattle.snap_core.specs.declared.policy.Test.{Test}
use Rattle.snap_core.specs.Cells.{Cells}
use Rattle.snap_diagrams.specs.declared.node.Node.{Node}
use Rattle.snap_diagrams.specs.Arena.{ExtendsArena}
use Rattle.snap_diagrams.specs.Memos.{Remembers}
use Rattle.snap_diagrams.proofs.Remembering.{remembers_weaker}
use Rattle.snap_diagrams.specs.declared.leaf.Leaf.{Leaf}
use Rattle.snap_diagrams.specs.Bounds.{Sizes}
use Rattle.snap_diagrams.specs.Diagrams.{diagram}
use Rattle.snap_diagrams.specs.Memoed.{PickedFor}
use Rattle.snap_diagrams.specs.Picks.{IsPick, Anywhere}
use Rattle.snap_diagrams.proofs.Shared.{kept, still_below}

picked_kept : (ranks : List ℕ) (s : Sizes) (t : Test) (old new : List (Node Leaf)) → ExtendsArena old new → (q : List ℕ) (d : ℕ) → PickedFor ranks s t old q d → PickedFor ranks s t new q d
picked_kept ranks s t old new g [] d p = tt
picked_kept ranks s t old new g (a ∷ []) d p = tt
picked_kept ranks s t old new g (a ∷ b ∷ []) d p = record {
  first = still_below old new a g p.first;
  second = still_below old new b g p.second;
  number = still_below old new d g p.number;
  pick = rw (kept old new a g p.first, kept old new b g p.second, kept old new d g p.number) p.pick;
}
picked_kept ranks s t old new g (a ∷ b ∷ x ∷ q) d p = tt

pub memo_kept : (ranks : List ℕ) (s : Sizes) (t : Test) (old new : List (Node Leaf)) (memo : Cells) → ExtendsArena old new → Remembers (PickedFor ranks s t old) memo → Remembers (PickedFor ranks s t new) memo
memo_kept ranks s t old new memo g = remembers_weaker (PickedFor ranks s t old) (PickedFor ranks s t new) memo (picked_kept ranks s t old new g)

pub picked_now : (ranks : List ℕ) (s : Sizes) (t : Test) (old new : List (Node Leaf)) (a b d : ℕ) → ExtendsArena old new → a < length old → b < length old → d < length new
    → IsPick ranks s Anywhere t (diagram old a) (diagram old b) (diagram new d) → PickedFor ranks s t new (a ∷ b ∷ []) d
picked_now ranks s t old new a b d g ha hb hd p = record {
  first = still_below old new a g ha;
  second = still_below old new b g hb;
  number = hd;
  pick = rw (kept old new a g ha, kept old new b g hb) p;
}

-- What memos remember, as the list of nodes grows.
use Rattle.std.proofs.Common.{ℕ, ◌<◌, List, [], ◌∷◌, length}
use Rattle.snap_core.specs.Cells.{Cells}
use Rattle.snap_diagrams.specs.declared.node.Node.{Node}
use Rattle.snap_diagrams.specs.Arena.{ExtendsArena}
use Rattle.snap_diagrams.specs.Memos.{Remembers}
use Rattle.snap_diagrams.proofs.Remembering.{remembers_weaker}
use Rattle.snap_diagrams.specs.declared.leaf.Leaf.{Leaf}
use Rattle.snap_diagrams.specs.Bounds.{Sizes}
use Rattle.snap_diagrams.specs.Diagrams.{diagram}
use Rattle.snap_diagrams.proofs.Shared.{kept, still_below}
use Rattle.snap_compose.specs.declared.leaves.How.{How}
use Rattle.snap_compose.specs.Joined.{IsJoined}
use Rattle.snap_compose.specs.Predicates.{IsNegated}
use Rattle.snap_compose.specs.Chosen.{IsChosen}
use Rattle.snap_compose.specs.JoinMemoed.{CombinedFor, TurnedFor, DecidedFor}

-- ---- two diagrams combined
combined_kept : (ranks : List ℕ) (s : Sizes) (how : How) (old new : List (Node Leaf)) → ExtendsArena old new → (q : List ℕ) (d : ℕ) → CombinedFor ranks s how old q d → CombinedFor ranks s how new q d
combined_kept ranks s how old new g [] d p = tt
combined_kept ranks s how old new g (a ∷ []) d p = tt
combined_kept ranks s how old new g (a ∷ b ∷ []) d p = record {
  first = still_below old new a g p.first;
  second = still_below old new b g p.second;
  number = still_below old new d g p.number;
  joined = rw (kept old new a g p.first, kept old new b g p.second, kept old new d g p.number) p.joined;
}
combined_kept ranks s how old new g (a ∷ b ∷ x ∷ q) d p = tt

pub combined_memo : (ranks : List ℕ) (s : Sizes) (how : How) (old new : List (Node Leaf)) (memo : Cells) → ExtendsArena old new → Remembers (CombinedFor ranks s how old) memo → Remembers (CombinedFor ranks s how new) memo
combined_memo ranks s how old new memo g = remembers_weaker (CombinedFor ranks s how old) (CombinedFor ranks s how new) memo (combined_kept ranks s how old new g)

pub combined_now : (ranks : List ℕ) (s : Sizes) (how : How) (old new : List (Node Leaf)) (a b d : ℕ) → ExtendsArena old new → a < length old → b < length old → d < length new
    → IsJoined ranks s how (diagram old a) (diagram old b) (diagram new d) → CombinedFor ranks s how new (a ∷ b ∷ []) d
combined_now ranks s how old new a b d g ha hb hd p = record {
  first = still_below old new a g ha;
  second = still_below old new b g hb;
  number = hd;
  joined = rw (kept old new a g ha, kept old new b g hb) p;
}

-- ---- predicates turned round
turned_kept : (old new : List (Node Leaf)) → ExtendsArena old new → (q : List ℕ) (d : ℕ) → TurnedFor old q d → TurnedFor new q d
turned_kept old new g [] d p = tt
turned_kept old new g (a ∷ []) d p = tt
turned_kept old new g (a ∷ b ∷ []) d p = record {
  first = still_below old new a g p.first;
  number = still_below old new d g p.number;
  negated = rw (kept old new a g p.first, kept old new d g p.number) p.negated;
}
turned_kept old new g (a ∷ b ∷ x ∷ q) d p = tt

pub turned_memo : (old new : List (Node Leaf)) (memo : Cells) → ExtendsArena old new → Remembers (TurnedFor old) memo → Remembers (TurnedFor new) memo
turned_memo old new memo g = remembers_weaker (TurnedFor old) (TurnedFor new) memo (turned_kept old new g)

pub turned_now : (old new : List (Node Leaf)) (a d : ℕ) → ExtendsArena old new → a < length old → d < length new → IsNegated (diagram old a) (diagram new d) → TurnedFor new (a ∷ 0 ∷ []) d
turned_now old new a d g ha hd p = record { first = still_below old new a g ha; number = hd; negated = rw (kept old new a g ha) p }

-- ---- choices
decided_kept : (ranks : List ℕ) (s : Sizes) (old new : List (Node Leaf)) (p q : ℕ) → ExtendsArena old new → (k : List ℕ) (d : ℕ) → DecidedFor ranks s old p q k d → DecidedFor ranks s new p q k d
decided_kept ranks s old new p q g [] d i = tt
decided_kept ranks s old new p q g (x ∷ []) d i = tt
decided_kept ranks s old new p q g (x ∷ y ∷ []) d i = record {
  test = still_below old new x g i.test;
  yes = still_below old new p g i.yes;
  no = still_below old new q g i.no;
  number = still_below old new d g i.number;
  chosen = rw (kept old new x g i.test, kept old new p g i.yes, kept old new q g i.no, kept old new d g i.number) i.chosen;
}
decided_kept ranks s old new p q g (x ∷ y ∷ z ∷ k) d i = tt

pub decided_memo : (ranks : List ℕ) (s : Sizes) (old new : List (Node Leaf)) (p q : ℕ) (memo : Cells) → ExtendsArena old new → Remembers (DecidedFor ranks s old p q) memo → Remembers (DecidedFor ranks s new p q) memo
decided_memo ranks s old new p q memo g = remembers_weaker (DecidedFor ranks s old p q) (DecidedFor ranks s new p q) memo (decided_kept ranks s old new p q g)

pub decided_now : (ranks : List ℕ) (s : Sizes) (old new : List (Node Leaf)) (x p q d : ℕ) → ExtendsArena old new → x < length old → p < length old → q < length old → d < length new
    → IsChosen ranks s (diagram old x) (diagram old p) (diagram old q) (diagram new d) → DecidedFor ranks s new p q (x ∷ 0 ∷ []) d
decided_now ranks s old new x p q d g hx hp hq hd i = record {
  test = still_below old new x g hx;
  yes = still_below old new p g hp;
  no = still_below old new q g hq;
  number = hd;
  chosen = rw (kept old new x g hx, kept old new p g hp, kept old new q g hq) i;
}

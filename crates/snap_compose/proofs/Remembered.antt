-- What memos remember, as the list of nodes grows.
use Rattle.std.proofs.Common.{ℕ, ◌<◌, List, [], ◌∷◌, length}
use Rattle.snap_dep.specs.Ranks.{Grouping}
use Rattle.snap_core.specs.Cells.{Cells}
use Rattle.snap_core.specs.declared.policy.Atom.{Atom}
use Rattle.snap_core.specs.declared.policy.Update.{Update}
use Rattle.snap_context.specs.View.{View}
use Rattle.snap_diagrams.specs.declared.node.Node.{Node}
use Rattle.snap_diagrams.specs.Arena.{ExtendsArena}
use Rattle.snap_diagrams.specs.Memos.{Remembers}
use Rattle.snap_diagrams.proofs.Remembering.{remembers_weaker}
use Rattle.snap_diagrams.specs.declared.leaf.Leaf.{Leaf}
use Rattle.snap_diagrams.specs.Diagrams.{diagram}
use Rattle.snap_diagrams.proofs.Shared.{kept, still_below}
use Rattle.snap_diagrams.specs.declared.leaf.Go.{Go}
use Rattle.snap_compose.specs.Substituted.{IsLate}
use Rattle.snap_compose.specs.Separating.{IsWider}
use Rattle.snap_compose.specs.Spread.{IsPrefixed, IsSequel, IsChained}
use Rattle.snap_compose.specs.declared.pending_updates.Pending.{Pending}
use Rattle.snap_compose.specs.ChainMemoed.{BehindFor, LateFor, PrefixedFor, WiderFor, SequelFor, ChainedFor, IsPendingSplit, at_place, passes_behind}

module _ (groups : Grouping) (v : View) (a : Pending) (old new : List (Node Leaf)) (g : ExtendsArena old new) (hp : a.yes < length old) (hq : a.no < length old) where
  behind_kept : (key : List ℕ) (d : ℕ) → BehindFor groups v a old key d → BehindFor groups v a new key d
  behind_kept [] d h = tt
  behind_kept (x ∷ []) d h = tt
  behind_kept (x ∷ y ∷ []) d h = record {
    number = still_below old new d g h.number;
    split = rw (kept old new a.yes g hp, kept old new a.no g hq, kept old new d g h.number) h.split;
  }
  behind_kept (x ∷ y ∷ z ∷ key) d h = tt

  pub behind_memo : (memo : Cells) → Remembers (BehindFor groups v a old) memo → Remembers (BehindFor groups v a new) memo
  behind_memo memo = remembers_weaker (BehindFor groups v a old) (BehindFor groups v a new) memo behind_kept

  pub behind_now : (left num d : ℕ) → d < length new → IsPendingSplit groups v a (at_place a) (passes_behind a left num) old (diagram new d)
      → BehindFor groups v a new (left ∷ num ∷ []) d
  behind_now left num d hd s = record { number = hd; split = rw (kept old new a.yes g hp, kept old new a.no g hq) s }

module _ (groups : Grouping) (v : View) (out : List (ℕ × Atom)) (ups : List Update) (old new : List (Node Leaf)) (g : ExtendsArena old new) where
  late_kept : (key : List ℕ) (d : ℕ) → LateFor groups v out ups old key d → LateFor groups v out ups new key d
  late_kept [] d h = tt
  late_kept (a ∷ []) d h = tt
  late_kept (a ∷ b ∷ []) d h = record {
    first = still_below old new a g h.first;
    number = still_below old new d g h.number;
    late = rw (kept old new a g h.first, kept old new d g h.number) h.late;
  }
  late_kept (a ∷ b ∷ x ∷ key) d h = tt

  pub late_memo : (memo : Cells) → Remembers (LateFor groups v out ups old) memo → Remembers (LateFor groups v out ups new) memo
  late_memo memo = remembers_weaker (LateFor groups v out ups old) (LateFor groups v out ups new) memo late_kept

  pub late_now : (a d : ℕ) → a < length old → d < length new → IsLate groups v out ups (diagram old a) (diagram new d) → LateFor groups v out ups new (a ∷ 0 ∷ []) d
  late_now a d ha hd s = record { first = still_below old new a g ha; number = hd; late = rw (kept old new a g ha) s }

module _ (groups : Grouping) (v : View) (g : Go) (old new : List (Node Leaf)) (w : ExtendsArena old new) where
  prefixed_kept : (key : List ℕ) (d : ℕ) → PrefixedFor groups v g old key d → PrefixedFor groups v g new key d
  prefixed_kept [] d h = tt
  prefixed_kept (a ∷ []) d h = tt
  prefixed_kept (a ∷ b ∷ []) d h = record {
    first = still_below old new a w h.first;
    number = still_below old new d w h.number;
    prefixed = rw (kept old new a w h.first, kept old new d w h.number) h.prefixed;
  }
  prefixed_kept (a ∷ b ∷ x ∷ key) d h = tt

  pub prefixed_memo : (memo : Cells) → Remembers (PrefixedFor groups v g old) memo → Remembers (PrefixedFor groups v g new) memo
  prefixed_memo memo = remembers_weaker (PrefixedFor groups v g old) (PrefixedFor groups v g new) memo prefixed_kept

  pub prefixed_now : (a d : ℕ) → a < length old → d < length new → IsPrefixed groups v g (diagram old a) (diagram new d) → PrefixedFor groups v g new (a ∷ 0 ∷ []) d
  prefixed_now a d ha hd s = record { first = still_below old new a w ha; number = hd; prefixed = rw (kept old new a w ha) s }

module _ (groups : Grouping) (v : View) (out : List (ℕ × Atom)) (old new : List (Node Leaf)) (w : ExtendsArena old new) where
  wider_kept : (key : List ℕ) (r : ℕ) → WiderFor groups v out old key r → WiderFor groups v out new key r
  wider_kept [] r h = tt
  wider_kept (a ∷ []) r h = tt
  wider_kept (a ∷ b ∷ []) r h = record {
    first = still_below old new a w h.first;
    number = still_below old new r w h.number;
    wider = rw (kept old new a w h.first, kept old new r w h.number) h.wider;
  }
  wider_kept (a ∷ b ∷ x ∷ key) r h = tt

  pub wider_memo : (memo : Cells) → Remembers (WiderFor groups v out old) memo → Remembers (WiderFor groups v out new) memo
  wider_memo memo = remembers_weaker (WiderFor groups v out old) (WiderFor groups v out new) memo wider_kept

  pub wider_now : (a r : ℕ) → a < length old → r < length new → IsWider groups v (out ∷ []) (diagram old a) (diagram new r) → WiderFor groups v out new (a ∷ 0 ∷ []) r
  wider_now a r ha hr s = record { first = still_below old new a w ha; number = hr; wider = rw (kept old new a w ha) s }

module _ (groups : Grouping) (v : View) (d : ℕ) (old new : List (Node Leaf)) (w : ExtendsArena old new) where
  sequel_kept : (key : List ℕ) (r : ℕ) → SequelFor groups v d old key r → SequelFor groups v d new key r
  sequel_kept [] r h = tt
  sequel_kept (a ∷ []) r h = tt
  sequel_kept (a ∷ b ∷ []) r h = record {
    first = still_below old new a w h.first;
    second = still_below old new d w h.second;
    number = still_below old new r w h.number;
    sequel = rw (kept old new d w h.second, kept old new a w h.first, kept old new r w h.number) h.sequel;
  }
  sequel_kept (a ∷ b ∷ x ∷ key) r h = tt

  pub sequel_memo : (memo : Cells) → Remembers (SequelFor groups v d old) memo → Remembers (SequelFor groups v d new) memo
  sequel_memo memo = remembers_weaker (SequelFor groups v d old) (SequelFor groups v d new) memo sequel_kept

  pub sequel_now : (a r : ℕ) → a < length old → d < length old → r < length new → IsSequel groups v (diagram old d) (diagram old a) (diagram new r) → SequelFor groups v d new (a ∷ 0 ∷ []) r
  sequel_now a r ha hd hr s = record { first = still_below old new a w ha; second = still_below old new d w hd; number = hr; sequel = rw (kept old new d w hd, kept old new a w ha) s }

module _ (groups : Grouping) (v : View) (old new : List (Node Leaf)) (w : ExtendsArena old new) where
  chained_kept : (key : List ℕ) (r : ℕ) → ChainedFor groups v old key r → ChainedFor groups v new key r
  chained_kept [] r h = tt
  chained_kept (a ∷ []) r h = tt
  chained_kept (a ∷ d ∷ []) r h = record {
    first = still_below old new a w h.first;
    second = still_below old new d w h.second;
    number = still_below old new r w h.number;
    chained = rw (kept old new d w h.second, kept old new a w h.first, kept old new r w h.number) h.chained;
  }
  chained_kept (a ∷ d ∷ x ∷ key) r h = tt

  pub chained_memo : (memo : Cells) → Remembers (ChainedFor groups v old) memo → Remembers (ChainedFor groups v new) memo
  chained_memo memo = remembers_weaker (ChainedFor groups v old) (ChainedFor groups v new) memo chained_kept

  pub chained_now : (a d r : ℕ) → a < length old → d < length old → r < length new → IsChained groups v (diagram old d) (diagram old a) (diagram new r) → ChainedFor groups v new (a ∷ d ∷ []) r
  chained_now a d r ha hd hr s = record { first = still_below old new a w ha; second = still_below old new d w hd; number = hr; chained = rw (kept old new d w hd, kept old new a w ha) s }

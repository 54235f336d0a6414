-- What a tidied diagram keeps.
use Rattle.std.proofs.Common.{ℕ, Bool, true, false, cond, List, length}
use Rattle.snap_core.specs.declared.policy.Test.{Test}
use Rattle.snap_core.specs.Arrays.{Arrays}
use Rattle.snap_core.specs.Fields.{count}
use Rattle.snap_core.specs.Inputs.{IsInput}
use Rattle.snap_core.specs.Tests.{passes}
use Rattle.snap_diagrams.specs.declared.leaf.Leaf.{Leaf}
use Rattle.snap_diagrams.specs.Diagrams.{Diagram, Only, Asks, walk}
use Rattle.snap_diagrams.specs.Order.{Above, IsOrdered}
use Rattle.snap_diagrams.specs.Pruned.{With, IsLive}
use Rattle.snap_diagrams.proofs.Comparing.{above_trans}
use Rattle.snap_diagrams.proofs.Cutting.{live_weaker}
use Rattle.snap_faithful.specs.Leaves.{IsTidy}
use Rattle.snap_faithful.specs.Shown.{HasBareLeaves}
use Rattle.snap_faithful.proofs.Giving.{gives, becomes_bare}
use Rattle.snap_faithful.specs.Tidied.{Tidies, leaf, test, merged, IsLeafOf, HasLeavesOf, TidyingIsSafe}

module _ (ranks : List ℕ) (n : ℕ) where
  walks : (m : Arrays) (k : List ℕ) {d r : Diagram} → Tidies ranks n d r → IsTidy ranks n (walk d m k) (walk r m k)
  walks m k (leaf h) = h
  walks m k (test {t = t} {y = y} {z = z} {a = a} {b = b} hy hz) = by (passes t m k) (walks m k hy) (walks m k hz)
    where
      by : (c : Bool) → IsTidy ranks n (walk y m k) (walk a m k) → IsTidy ranks n (walk z m k) (walk b m k) → IsTidy ranks n (cond c (walk y m k) (walk z m k)) (cond c (walk a m k) (walk b m k))
      by true e f = e
      by false e f = f
  walks m k (merged {t = t} {y = y} {z = z} {a = a} hy hz) = by (passes t m k) (walks m k hy) (walks m k hz)
    where
      by : (c : Bool) → IsTidy ranks n (walk y m k) (walk a m k) → IsTidy ranks n (walk z m k) (walk a m k) → IsTidy ranks n (cond c (walk y m k) (walk z m k)) (walk a m k)
      by true e f = e
      by false e f = f

  above : (list : List ℕ) (low : Test) {d r : Diagram} → Tidies ranks n d r → IsOrdered list d → Above list low d → Above list low r
  above list low (leaf h) o a = tt
  above list low (test hy hz) o a = a
  above list low (merged {t = t} {y = y} hy hz) o a = above list low hy o.2 (above_trans list low t y a o.0)

  order : (list : List ℕ) {d r : Diagram} → Tidies ranks n d r → IsOrdered list d → IsOrdered list r
  order list (leaf h) o = tt
  order list (test {t = t} hy hz) o = (above list t hy o.2 o.0, above list t hz o.3 o.1, order list hy o.2, order list hz o.3)
  order list (merged hy hz) o = order list hy o.2

  live : (P : Arrays → List ℕ → Type 0) {d r : Diagram} → Tidies ranks n d r → IsLive P d → IsLive P r
  live P (leaf e) h = tt
  live P (test {t = t} hy hz) h = (h.0, h.1, live (With P t true) hy h.2, live (With P t false) hz h.3)
  live P (merged {t = t} {a = a} hy hz) h = live_weaker (With P t true) P (λ m k g. g.0) a (live (With P t true) hy h.2)

  bare : {d r : Diagram} → Tidies ranks n d r → HasLeavesOf ranks n d → HasBareLeaves r
  bare (leaf {l = l} {r = r} e) h = becomes_bare ranks n l r e h
  bare (test hy hz) h = (bare hy h.0, bare hz h.1)
  bare (merged hy hz) h = bare hy h.0

  walks_to : (d : Diagram) (m : Arrays) (k : List ℕ) → HasLeavesOf ranks n d → IsLeafOf ranks n (walk d m k)
  walks_to (Only l) m k h = h
  walks_to (Asks t y z) m k h = one_of (passes t m k) (walk y m k) (walk z m k) (walks_to y m k h.0) (walks_to z m k h.1)
    where
      one_of : (c : Bool) (a b : Leaf) → IsLeafOf ranks n a → IsLeafOf ranks n b → IsLeafOf ranks n (cond c a b)
      one_of true a b p q = p
      one_of false a b p q = q

pub tidying_keeps : TidyingIsSafe
tidying_keeps ranks n d r h = record {
  walks = λ m k. walks ranks n m k h;
  outcome = λ p all outcome m k o store packet e.
      gives ranks n (walk d m k) (walk r m k) m k o (walks ranks n m k h) (walks_to ranks n d m k all) store packet.numbers (outcome m k o store packet e);
  order = λ list o. order ranks n list h o;
  above = λ list low o a. above ranks n list low h o a;
  live = λ p l. live ranks n (IsInput (count p.fields) (length p.arrays)) h l;
  bare = λ all. bare ranks n h all;
}

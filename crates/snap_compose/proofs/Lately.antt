-- A diagram behind an out and updates, from its parts.
use Rattle.std.proofs.Common.{◌≡◌, ℕ, Bool, true, false, cond, List, [], ap, subst, sym, ◌∙◌}
use Rattle.snap_dep.specs.Ranks.{Grouping}
use Rattle.snap_core.specs.declared.policy.Atom.{Atom}
use Rattle.snap_core.specs.declared.policy.Test.{Test}
use Rattle.snap_core.specs.declared.policy.Update.{Update}
use Rattle.snap_core.specs.Arrays.{Arrays, updates}
use Rattle.snap_core.specs.Tests.{passes, after_out}
use Rattle.snap_context.specs.View.{View}
use Rattle.snap_diagrams.specs.declared.leaf.Leaf.{Leaf}
use Rattle.snap_diagrams.specs.Diagrams.{Diagram, Only, Asks, walk}
use Rattle.snap_diagrams.specs.Leaves.{answer_of, outcome_of}
use Rattle.snap_diagrams.specs.Picks.{IsDiagram, sizes}
use Rattle.snap_compose.specs.declared.pulled_back.Early.{Early}
use Rattle.snap_compose.specs.PulledBack.{early_holds, IsEarly, IsEarlyLeaf}
use Rattle.snap_compose.specs.Substituted.{IsLate}
use Rattle.snap_compose.specs.Marks.{LeafLogsUpdates, LogsUpdates}
use Rattle.snap_compose.specs.Splits.{IsSplit}
use Rattle.snap_compose.specs.Untouched.{IsUntouched}
use Rattle.snap_compose.proofs.Staying.{untouched_late}

-- a walk ends at a leaf that logs its updates
walk_logs : (d : Diagram) (m : Arrays) (k : List ℕ) → LogsUpdates d → LeafLogsUpdates (walk d m k)
walk_logs (Only l) m k h = h
walk_logs (Asks t y n) m k h =
    let Goal : Bool → Type 0 = λ b. LeafLogsUpdates (cond b (walk y m k) (walk n m k)) in
    let by : (b : Bool) → Goal b = λ b. elim b as Goal [ true ↦ walk_logs y m k h.0 | false ↦ walk_logs n m k h.1 ] in
    by (passes t m k)

pub late_itself : (groups : Grouping) (v : View) (out : List (ℕ × Atom)) (ups : List Update) (d : Diagram) → out ≡ [] → IsUntouched ups d → IsDiagram groups.ranks (sizes groups v) d → IsLate groups v out ups d d
late_itself groups v out ups d e h keeps = record { late = untouched_late v ups out d e h; logs = λ l m k met small. walk_logs d m k l; keeps = keeps }

pub late_split : (groups : Grouping) (v : View) (out : List (ℕ × Atom)) (ups : List Update) (t : Test) (y n d ry rn r : Diagram) (e : Early) → d ≡ Asks t y n → IsLate groups v out ups y ry → IsLate groups v out ups n rn
    → IsEarly (sizes groups v) (λ m k. passes t m (after_out out k)) e → IsSplit groups v (λ m k. early_holds e (updates m ups k) k) ry rn r → IsLate groups v out ups d r
late_split groups v out ups t y n d ry rn r e ed ly ln early s = rw ed (record {
  late = λ m k met small.
      let m1 : Arrays = updates m ups k in
      let k1 : List ℕ = after_out out k in
      let Goal : Bool → Type 0 = λ b. outcome_of (answer_of (cond b (walk ry m k) (walk rn m k)) k) m1 ≡ outcome_of (answer_of (cond b (walk y m1 k1) (walk n m1 k1)) k1) m1 in
      let by : (b : Bool) → Goal b = λ b. elim b as Goal [ true ↦ ly.late m k met small | false ↦ ln.late m k met small ] in
      ap (λ (l : Leaf). outcome_of (answer_of l k) m1) (s.walks m k met small ∙ ap (λ b. cond b (walk ry m k) (walk rn m k)) (early.holds m1 k met.packet))
      ∙ by (passes t m1 k1);
  logs = λ l m k met small.
      let holds : Bool = early_holds e (updates m ups k) k in
      let Goal : Bool → Type 0 = λ b. LeafLogsUpdates (cond b (walk ry m k) (walk rn m k)) in
      let by : (b : Bool) → Goal b = λ b. elim b as Goal [ true ↦ ly.logs l.0 m k met small | false ↦ ln.logs l.1 m k met small ] in
      subst LeafLogsUpdates (sym (s.walks m k met small)) (by holds);
  keeps = s.keeps;
})

pub late_leaf : (groups : Grouping) (v : View) (out : List (ℕ × Atom)) (ups : List Update) (l n : Leaf) (d r : Diagram) → d ≡ Only l → r ≡ Only n → IsEarlyLeaf (sizes groups v).comps out l n → (LeafLogsUpdates l → LeafLogsUpdates n)
    → IsDiagram groups.ranks (sizes groups v) r → IsLate groups v out ups d r
late_leaf groups v out ups l n d r ed er early logs keeps = rw ed (subst (λ (x : Diagram). IsLate groups v out ups (Only l) x) (sym er) (record {
  late = λ m k met small. early (updates m ups k) k met.packet.long;
  logs = λ h m k met small. logs h;
  keeps = subst (IsDiagram groups.ranks (sizes groups v)) er keeps;
}))

-- What is pruned under one context is pruned under another of which the same is known about what the diagram tests.
use Rattle.std.proofs.Common.{◌≡◌, ℕ, suc, ◌+◌, ◌<◌, ◌≤◌, ◌^◌, Bool, true, false, cond, List, [], ◌∷◌, ◌++◌, length, refl, sym, ap, subst, ◌∙◌, arith, append_assoc, length-append}
use Rattle.std.specs.Prelude.{All, IfSome, Option, max}
use Rattle.std.proofs.lemmas.List.Elements.{All-append, All-cons, All-nil, All-push, All-tail}
use Rattle.snap_core.proofs.Elements.{All-back, All-front}
use Rattle.snap_core.specs.declared.policy.Test.{Test}
use Rattle.snap_core.specs.declared.policy.Test.TheVariants.{Value, Equal, State}
use Rattle.snap_core.specs.Arrays.{Arrays}
use Rattle.snap_core.specs.Listing.{number_in}
use Rattle.snap_core.specs.Tests.{passes}
use Rattle.snap_context.specs.declared.fact.Fact.{Fact}
use Rattle.snap_context.specs.Classes.{IsTest, index_of}
use Rattle.snap_context.specs.Known.{IsKnown, TestOver}
use Rattle.snap_context.specs.Meets.{Meets, IsMet}
use Rattle.snap_core.specs.Ranges.{TestInRange}
use Rattle.snap_context.specs.View.{View, IsContext}
use Rattle.snap_context.proofs.Last.{with_last, last_parts, Meets-with_last}
use Rattle.snap_context.proofs.Fitting.{is_test}
use Rattle.snap_context.proofs.Knowing.{known_alike}
use Rattle.snap_context.specs.declared.tested.Tested.{Tested}
use Rattle.snap_core.specs.Cells.{Cells}
use Rattle.snap_core.specs.Inputs.{IsPacket}
use Rattle.snap_diagrams.specs.declared.node.Node.{Node}
use Rattle.snap_diagrams.specs.Arena.{ExtendsArena}
use Rattle.snap_diagrams.specs.Memos.{Remembers}
use Rattle.snap_diagrams.proofs.Remembering.{remembers_weaker}
use Rattle.snap_diagrams.specs.Bounds.{Sizes, IsIn, TestIn}
use Rattle.snap_diagrams.specs.Contexts.{Met}
use Rattle.snap_diagrams.specs.Diagrams.{Diagram, Only, Asks, walk, depth, diagram}
use Rattle.snap_dep.specs.Ranks.{Grouping}
use Rattle.snap_diagrams.specs.Picks.{IsDiagram, sizes}
use Rattle.snap_diagrams.specs.Pruned.{Someone, With, IsLive, IsPruned}
use Rattle.snap_diagrams.specs.Places.{AsksPlaces}
use Rattle.snap_diagrams.specs.Quiet.{IsQuiet}
use Rattle.snap_diagrams.specs.Tested.{TestsOver}
use Rattle.snap_diagrams.specs.declared.leaf.Leaf.{Leaf}
use Rattle.snap_diagrams.specs.declared.pruning.PruningPlan.{PruningPlan}
use Rattle.snap_diagrams.specs.Memoed.{IsKey, IsKeyFor, IsPlan, IsRemembered, PrunedFor}
use Rattle.snap_diagrams.proofs.Cutting.{IsMore, same_sizes, test_fits}
use Rattle.snap_diagrams.proofs.Noted.{noted_kept}
use Rattle.snap_diagrams.proofs.Shared.{kept, still_below}

pub test_is : (s : Sizes) (t : Test) → TestIn s t → TestInRange t → IsTest s.comps t
test_is s t i r = is_test s.comps t (test_fits s t i) (short t i) r
  where
    short : (t : Test) → TestIn s t → length (index_of t) ≤ 8
    short (Value c n) i = omega arith
    short (Equal l r p) i = omega arith
    short (State v ix t) i = i.1.few

-- ---- the answers on the way that a store and a packet go
abbrev way : Diagram → Arrays → List ℕ → List Fact
way (Only l) m k = []
way (Asks t y n) m k = record { test = t; yes = passes t m k } ∷ cond (passes t m k) (way y m k) (way n m k)

-- what holds of each test holds on the way
on_way : (P : Fact → Type 0) (d : Diagram) (m : Arrays) (k : List ℕ) (D : Diagram → Type 0) → ((t : Test) (y n : Diagram) → D (Asks t y n) → P (record { test = t; yes = passes t m k }) × D y × D n) → D d → All P (way d m k)
on_way P (Only l) m k D f h = All-nil P
on_way P (Asks t y n) m k D f h = let p = f t y n h in
    All-cons P (record { test = t; yes = passes t m k }) (cond (passes t m k) (way y m k) (way n m k)) p.0 (by (passes t m k) (on_way P y m k D f p.1) (on_way P n m k D f p.2))
  where
    by : (b : Bool) → All P (way y m k) → All P (way n m k) → All P (cond b (way y m k) (way n m k))
    by true p q = p
    by false p q = q

way_met : (d : Diagram) (m : Arrays) (k : List ℕ) → All (λ f. passes f.test m k ≡ f.yes) (way d m k)
way_met d m k = on_way (λ f. passes f.test m k ≡ f.yes) d m k (λ d. Unit {0}) (λ t y n h. (refl, tt, tt)) tt

way_tests : (s : Sizes) (e : Tested) (d : Diagram) (m : Arrays) (k : List ℕ) → IsIn s d → TestsOver e d → All (λ f. IsTest s.comps f.test) (way d m k)
way_tests s e d m k i o = on_way (λ f. IsTest s.comps f.test) d m k (λ d. IsIn s d × TestsOver e d) (λ t y n h. (test_is s t h.0.0 h.1.1, (h.0.1, h.1.2), (h.0.2, h.1.3))) (i, o)

way_over : (e : Tested) (d : Diagram) (m : Arrays) (k : List ℕ) → TestsOver e d → All (λ f. TestOver e.comps e.arrays f.test) (way d m k)
way_over e d m k o = on_way (λ f. TestOver e.comps e.arrays f.test) d m k (TestsOver e) (λ t y n h. (h.0, h.2, h.3)) o

way_short : (d : Diagram) (m : Arrays) (k : List ℕ) → length (way d m k) ≤ depth d
way_short (Only l) m k = omega arith
way_short (Asks t y n) m k = by (passes t m k) (way_short y m k) (way_short n m k)
  where
    by : (b : Bool) → length (way y m k) ≤ depth y → length (way n m k) ≤ depth n → suc (length (cond b (way y m k) (way n m k))) ≤ 1 + max (depth y) (depth n)
    by true p q = omega (arith, p)
    by false p q = omega (arith, q)

-- those with the same answers go the same way
same_way : (d : Diagram) (m n : Arrays) (k l : List ℕ) → All (λ f. passes f.test n l ≡ f.yes) (way d m k) → walk d n l ≡ walk d m k
same_way (Only x) m n k l h = refl
same_way (Asks t y z) m n k l h =
    ap (λ b. cond b (walk y n l) (walk z n l)) (h 0 (record { test = t; yes = passes t m k }) (omega arith))
    ∙ by (passes t m k) (same_way y m n k l) (same_way z m n k l) (All-tail (λ f. passes f.test n l ≡ f.yes) (record { test = t; yes = passes t m k }) (cond (passes t m k) (way y m k) (way z m k)) h)
  where
    by : (b : Bool) → (All (λ f. passes f.test n l ≡ f.yes) (way y m k) → walk y n l ≡ walk y m k) → (All (λ f. passes f.test n l ≡ f.yes) (way z m k) → walk z n l ≡ walk z m k)
        → All (λ f. passes f.test n l ≡ f.yes) (cond b (way y m k) (way z m k)) → cond b (walk y n l) (walk z n l) ≡ cond b (walk y m k) (walk z m k)
    by true p q g = p g
    by false p q g = q g

module _ (s : Sizes) (e : Tested) (key : List ℕ) (v w : View) (cv : IsContext v) (cw : IsContext w) (count : length v.classes ≡ length w.classes) (size : s.comps ≡ length w.classes)
    (kv : IsKnown v e.comps e.arrays key) (kw : IsKnown w e.comps e.arrays key) where
  abbrev IsPath : List Fact → Type 0
  IsPath path = All (λ f. IsTest s.comps f.test) path × All (λ f. TestOver e.comps e.arrays f.test) path

  path_more : (path : List Fact) (t : Test) (b : Bool) → IsTest s.comps t → TestOver e.comps e.arrays t → IsPath path → IsPath (with_last path t b)
  path_more path t b i o h =
      (All-push (λ f. IsTest s.comps f.test) path (record { test = t; yes = b }) h.0 i, All-push (λ f. TestOver e.comps e.arrays f.test) path (record { test = t; yes = b }) h.1 o)

  -- what is met beside the first is met beside the second
  met_beside : (m : Arrays) (k : List ℕ) → Met v m k → (path : List Fact) → IsPath path → Meets path m k → length w.facts + length path ≤ 2 ^ 32 → IsMet (length w.classes) (w.facts ++ path)
  met_beside m k h path p meets short =
      known_alike v w e.comps e.arrays key cv cw count kv kw m k h.packet h.facts path (subst (λ (n : ℕ). All (λ f. IsTest n f.test) path) size p.0) p.1 meets (let l = length-append w.facts path in omega (arith, l, short))

  someone_beside : (P Q : Arrays → List ℕ → Type 0) (path : List Fact) (t : Test) (b : Bool)
      → ((m : Arrays) (k : List ℕ) → P m k → Met v m k × Meets path m k) → ((m : Arrays) (k : List ℕ) → IsPacket (length w.classes) k → Meets (w.facts ++ path) m k → Q m k)
      → IsPath (with_last path t b) → length w.facts + length (with_last path t b) ≤ 2 ^ 32 → Someone (With P t b) → Someone (With Q t b)
  someone_beside P Q path t b from to p short h =
      let m = number_in h.entries in
      let r = from m h.packet h.is.0 in
      let met = met_beside m h.packet r.0 (with_last path t b) p (Meets-with_last path t b m h.packet r.1 h.is.1) short in
      let n = number_in met.entries in
      let parts = last_parts (w.facts ++ path) t b n met.packet (subst (λ (fs : List Fact). Meets fs n met.packet) (sym (append_assoc w.facts path (record { test = t; yes = b } ∷ []))) met.meets) in
      record { entries = met.entries; packet = met.packet; store = met.is_store; is = (to n met.packet met.is_packet parts.0, parts.1) }

  live_beside : (P Q : Arrays → List ℕ → Type 0) (path : List Fact) (d : Diagram)
      → ((m : Arrays) (k : List ℕ) → P m k → Met v m k × Meets path m k) → ((m : Arrays) (k : List ℕ) → IsPacket (length w.classes) k → Meets (w.facts ++ path) m k → Q m k)
      → IsPath path → IsIn s d → TestsOver e d → length w.facts + (length path + depth d) ≤ 2 ^ 32 → IsLive P d → IsLive Q d
  live_beside P Q path (Only l) from to p i o short h = tt
  live_beside P Q path (Asks t y n) from to p i o short h = (
    someone_beside P Q path t true from to (longer true) (room true) h.0,
    someone_beside P Q path t false from to (longer false) (room false) h.1,
    live_beside (With P t true) (With Q t true) (with_last path t true) y (from_more true) (to_more true) (longer true) i.1 o.2 (let a = added true in omega (arith, a, short)) h.2,
    live_beside (With P t false) (With Q t false) (with_last path t false) n (from_more false) (to_more false) (longer false) i.2 o.3 (let a = added false in omega (arith, a, short)) h.3,
  )
    where
      added : (b : Bool) → length (with_last path t b) ≡ length path + 1
      added b = length-append path (record { test = t; yes = b } ∷ [])

      longer : (b : Bool) → IsPath (with_last path t b)
      longer b = path_more path t b (test_is s t i.0 o.1) o.0 p

      room : (b : Bool) → length w.facts + length (with_last path t b) ≤ 2 ^ 32
      room b = let a = added b in omega (arith, a, short)

      from_more : (b : Bool) (m : Arrays) (k : List ℕ) → With P t b m k → Met v m k × Meets (with_last path t b) m k
      from_more b m k q = let r = from m k q.0 in (r.0, Meets-with_last path t b m k r.1 q.1)

      to_more : (b : Bool) (m : Arrays) (k : List ℕ) → IsPacket (length w.classes) k → Meets (w.facts ++ with_last path t b) m k → With Q t b m k
      to_more b m k q meets =
          let parts = last_parts (w.facts ++ path) t b m k (subst (λ (fs : List Fact). Meets fs m k) (sym (append_assoc w.facts path (record { test = t; yes = b } ∷ []))) meets) in
          (to m k q parts.0, parts.1)

-- the law
pub pruned_alike : (ranks : List ℕ) (s : Sizes) (e : Tested) (key : List ℕ) (v w : View) (d r : Diagram) → IsContext v → IsContext w → length v.classes ≡ s.comps → length w.classes ≡ s.comps
    → IsKnown v e.comps e.arrays key → IsKnown w e.comps e.arrays key → TestsOver e d → IsDiagram ranks s d
    → length v.facts + (depth d + depth d) ≤ 2 ^ 32 → length w.facts + (depth d + depth d) ≤ 2 ^ 32 → IsPruned ranks s v d r → IsPruned ranks s w d r
pruned_alike ranks s e key v w d r cv cw lv lw kv kw over diagram fv fw p = record {
  walks = λ m k h. same m k h;
  keeps = p.keeps;
  above = p.above;
  live = live_beside s e key v w cv cw (lv ∙ sym lw) (sym lw) kv kw (Met v) (Met w) [] r (λ m k h. (h, λ i d l. absurd (omega (arith, l))))
      (λ m k q meets. record { packet = q; facts = subst (λ (fs : List Fact). Meets fs m k) (none w.facts) meets })
      ((λ i d l. absurd (omega (arith, l))), (λ i d l. absurd (omega (arith, l)))) p.keeps.bounds (p.tests e over) (let h = p.short in omega (arith, fw, h)) p.live;
  tests = p.tests;
  short = p.short;
}
  where
    none : (fs : List Fact) → fs ++ [] ≡ fs
    none [] = refl
    none (f ∷ fs) = ap (λ (xs : List Fact). f ∷ xs) (none fs)

    same : (m : Arrays) (k : List ℕ) → Met w m k → walk r m k ≡ walk d m k
    same m k h =
        let path = way d m k ++ way r m k in
        let long = length-append (way d m k) (way r m k) in
        let ld = way_short d m k in
        let lr = way_short r m k in
        let low = p.short in
        let met = met_beside s e key w v cw cv (lw ∙ sym lv) (sym lv) kw kv m k h path (
          All-append (λ f. IsTest s.comps f.test) (way d m k) (way r m k) (way_tests s e d m k diagram.bounds over) (way_tests s e r m k p.keeps.bounds (p.tests e over)),
          All-append (λ f. TestOver e.comps e.arrays f.test) (way d m k) (way r m k) (way_over e d m k over) (way_over e r m k (p.tests e over)),
        )
        (All-append (λ f. passes f.test m k ≡ f.yes) (way d m k) (way r m k) (way_met d m k) (way_met r m k))
        (omega (arith, fv, long, ld, lr, low)) in
        let n = number_in met.entries in
        let ways = All-back (λ f. passes f.test n met.packet ≡ f.yes) v.facts path met.meets in
        let facts = All-front (λ f. passes f.test n met.packet ≡ f.yes) v.facts path met.meets in
        let on_d = same_way d m n k met.packet (All-front (λ f. passes f.test n met.packet ≡ f.yes) (way d m k) (way r m k) ways) in
        let on_r = same_way r m n k met.packet (All-back (λ f. passes f.test n met.packet ≡ f.yes) (way d m k) (way r m k) ways) in
        sym on_r ∙ (p.walks n met.packet (record { packet = met.is_packet; facts = facts }) ∙ on_d)

-- ---- what a memo remembers of pruned diagrams
pub plan_kept : (plan : PruningPlan) (old new : List (Node Leaf)) → ExtendsArena old new → IsPlan plan old → IsPlan plan new
plan_kept plan old new g p = record {
  marked = record { clear = p.marked.clear; quiet = noted_kept (λ (b : Bool) (d : Diagram). b ≡ true → IsQuiet plan.survey d) old new plan.reached.ids.items plan.quiet.items g p.marked.quiet };
  placed = noted_kept (λ (b : Bool) (d : Diagram). b ≡ true → AsksPlaces plan.spelling d) old new plan.reached.ids.items plan.places.items g p.placed;
  tested = noted_kept (λ (o : Option Tested) (d : Diagram). IfSome o (λ e. TestsOver e d)) old new plan.reached.ids.items plan.tested.items g p.tested;
}

key_kept : (e : Tested) (old new : List (Node Leaf)) (v : View) (d : ℕ) (key : List ℕ) → ExtendsArena old new → d < length old → IsKeyFor e old v d key → IsKeyFor e new v d key
key_kept e old new v d key g h k = record { context = k.context; few = k.few; low = rw (kept old new d g h) k.low; over = rw (kept old new d g h) k.over; known = k.known }

remembered_kept : (ranks : List ℕ) (s : Sizes) (plan : PruningPlan) (old new : List (Node Leaf)) → ExtendsArena old new → (q : List ℕ) (r : ℕ) → PrunedFor ranks s plan old q r → PrunedFor ranks s plan new q r
remembered_kept ranks s plan old new g [] r p = tt
remembered_kept ranks s plan old new g (place ∷ key) r p = record {
  id = p.id;
  tested = p.tested;
  noted = p.noted;
  first = still_below old new p.id g p.first;
  number = still_below old new r g p.number;
  view = p.view;
  size = p.size;
  told = key_kept p.tested old new p.view p.id key g p.first p.told;
  pruned = rw (kept old new p.id g p.first, kept old new r g p.number) p.pruned;
}

pub pruned_memo_kept : (ranks : List ℕ) (s : Sizes) (plan : PruningPlan) (old new : List (Node Leaf)) (memo : Cells) → ExtendsArena old new → Remembers (PrunedFor ranks s plan old) memo → Remembers (PrunedFor ranks s plan new) memo
pruned_memo_kept ranks s plan old new memo g = remembers_weaker (PrunedFor ranks s plan old) (PrunedFor ranks s plan new) memo (remembered_kept ranks s plan old new g)

-- it was pruned under a context of which the same is known
pub pruned_before : (ranks : List ℕ) (s : Sizes) (plan : PruningPlan) (ns : List (Node Leaf)) (w : View) (d : ℕ) (key : List ℕ) (r : ℕ) → length w.classes ≡ s.comps → IsDiagram ranks s (diagram ns d)
    → IsKey plan ns w d key → PrunedFor ranks s plan ns key r → (r < length ns) × IsPruned ranks s w (diagram ns d) (diagram ns r)
pruned_before ranks s plan ns w d key r size i k h =
    let p : IsRemembered ranks s plan ns k.place k.told r = subst (λ (q : List ℕ). PrunedFor ranks s plan ns q r) k.is h in
    let kn = k.noted.number in let km = k.noted.mark in let pn = p.noted.number in let pm = p.noted.mark in
    let number : p.id ≡ d = cc in
    let tested : p.tested ≡ k.tested = cc in
    let told : IsKeyFor k.tested ns p.view d k.told = subst (λ (e : Tested). IsKeyFor e ns p.view d k.told) tested (subst (λ (b : ℕ). IsKeyFor p.tested ns p.view b k.told) number p.told) in
    let fv = told.few in let fw = k.tells.few in let low = k.tells.low in (
      p.number,
      pruned_alike ranks s k.tested k.told p.view w (diagram ns d) (diagram ns r) told.context k.tells.context p.size size told.known k.tells.known k.tells.over i (omega (arith, fv, low)) (omega (arith, fw, low))
          (subst (λ (b : ℕ). IsPruned ranks s p.view (diagram ns b) (diagram ns r)) number p.pruned),
    )

pub pruned_now : (ranks : List ℕ) (s : Sizes) (plan : PruningPlan) (old new : List (Node Leaf)) (v : View) (d : ℕ) (key : List ℕ) (r : ℕ) → ExtendsArena old new → d < length old → r < length new → length v.classes ≡ s.comps
    → IsKey plan old v d key → IsPruned ranks s v (diagram old d) (diagram new r) → PrunedFor ranks s plan new key r
pruned_now ranks s plan old new v d key r g hd hr size k p = rw k.is (record {
  id = d;
  tested = k.tested;
  noted = k.noted;
  first = still_below old new d g hd;
  number = hr;
  view = v;
  size = size;
  told = key_kept k.tested old new v d k.told g hd k.tells;
  pruned = rw (kept old new d g hd) p;
})

-- contexts with one fact more have as many components
pub memo_under : (g : Grouping) (plan : PruningPlan) (ns : List (Node Leaf)) (memo : Cells) (v w : View) (t : Test) (b : Bool) → IsMore v w t b
    → Remembers (PrunedFor g.ranks (sizes g v) plan ns) memo → Remembers (PrunedFor g.ranks (sizes g w) plan ns) memo
memo_under g plan ns memo v w t b i h = subst (λ (s : Sizes). Remembers (PrunedFor g.ranks s plan ns) memo) (sym (same_sizes g v w t b i)) h

pub memo_back : (g : Grouping) (plan : PruningPlan) (ns : List (Node Leaf)) (memo : Cells) (v w : View) (t : Test) (b : Bool) → IsMore v w t b
    → Remembers (PrunedFor g.ranks (sizes g w) plan ns) memo → Remembers (PrunedFor g.ranks (sizes g v) plan ns) memo
memo_back g plan ns memo v w t b i h = subst (λ (s : Sizes). Remembers (PrunedFor g.ranks s plan ns) memo) (same_sizes g v w t b i) h

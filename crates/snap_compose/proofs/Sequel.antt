-- One part after another, from its parts.
use Rattle.std.proofs.Common.{◌≡◌, ◌⊎◌, inl, inr, ℕ, ◌≤◌, length, arith, Bool, true, false, cond, List, [], ◌∷◌, ◌++◌, Option, Some, None, refl, sym, ap, subst, ◌∙◌, bit_or, ◌≢◌}
use Rattle.std.specs.Prelude.{map, nat_eq, option_map}
use Rattle.std.proofs.lemmas.Bool.{and_left, both_ways, cond-false, ne_eqb}
use Rattle.std.proofs.lemmas.List.{map-append}
use Rattle.std.proofs.lemmas.List.Elements.{All-append, All-nil, All-tail}
use Rattle.std.proofs.lemmas.Nat.{or_lt}
use Rattle.snap_dep.specs.Ranks.{Grouping}
use Rattle.snap_core.specs.declared.policy.Atom.{Atom}
use Rattle.snap_core.specs.declared.policy.Test.{Test}
use Rattle.snap_core.specs.declared.policy.Update.{Update}
use Rattle.snap_core.specs.declared.place.Place.{Place}
use Rattle.snap_core.specs.Arrays.{Arrays, update, updates, taken, has}
use Rattle.snap_core.specs.Packets.{no_packets, union, listed}
use Rattle.snap_core.specs.Tests.{after_out, passes, results}
use Rattle.snap_core.specs.Meaning.{Meaning, logged, all_together}
use Rattle.snap_core.specs.Meaning as meaning
use Rattle.snap_core.proofs.Unwritten.{neither}
use Rattle.snap_core.proofs.WithinLemmas.{logged-nothing}
use Rattle.snap_core.proofs.Updates.{updates-append}
use Rattle.snap_context.specs.View.{View}
use Rattle.snap_diagrams.specs.declared.leaf.Leaf.{Leaf}
use Rattle.snap_diagrams.specs.declared.leaf.Go.{Go}
use Rattle.snap_diagrams.specs.declared.leaf.Leaf.TheVariants.{Race, Go as Goes}
use Rattle.snap_diagrams.specs.Bounds.{Sizes, LeafIn, UpdateIn, IsIn}
use Rattle.snap_compose.specs.Separating.{IsGoOf}
use Rattle.snap_diagrams.specs.Diagrams.{Diagram, Only, Asks, walk}
use Rattle.snap_diagrams.specs.Leaves.{Answer, answer_of, outcome_of}
use Rattle.snap_diagrams.specs.Picks.{IsDiagram, sizes}
use Rattle.snap_compose.specs.Beside.{beside, logs_clash, merged}
use Rattle.snap_compose.specs.Substituted.{IsLate, OnStores, outcome_at, late}
use Rattle.snap_compose.specs.Marks.{AreLogged, LeafLogsUpdates, LeafWritesNothing, LogsUpdates, WritesNothing}
use Rattle.snap_compose.specs.Sequence.{AreDifferent, IsSettledLeaf, in_sequence}
use Rattle.snap_compose.specs.Spread.{bare_leaf, besides, nothing, IsFramed, IsRun, IsBehindLeaf, IsBehindOf, IsPrefixed, IsSpread, IsSequel, IsChained, OnlySends}
use Rattle.snap_compose.proofs.Composing.{same_only}
use Rattle.snap_compose.proofs.Folding.{besides_both, nothing_beside}
use Rattle.snap_compose.proofs.Repeated.{together_results, together_idle}
use Rattle.snap_compose.proofs.Splitting.{missed}
use Rattle.snap_compose.proofs.Twice.{IsIdle}

-- ---- answers side by side
pub framed_beside : (m : Arrays) (a b : Option Answer) → IsFramed m (beside a b)
framed_beside m None b = tt
framed_beside m (Some x) None = tt
framed_beside m (Some x) (Some y) = by (logs_clash x.reads x.writes y.reads y.writes)
  where
    both : Answer
    both = record { packets = union x.packets y.packets; reads = bit_or x.reads y.reads; writes = bit_or x.writes y.writes; change = λ n. merged n (x.change n) x.writes (y.change n) y.writes }

    by : (t : Bool) → IsFramed m (cond t None (Some both))
    by true = tt
    by false = λ p h. (let n = neither x.writes y.writes p.var h in cond-false (has y.writes p.var) (y.change m p) (taken m (x.change m) x.writes p) n.1 ∙ cond-false (has x.writes p.var) (x.change m p) (m p) n.0)

pub outcome_beside : (m : Arrays) (a b : Option Answer) → IsFramed m a → outcome_of (beside a b) m ≡ meaning.beside (outcome_of a m) (outcome_of b m)
outcome_beside m None b f = refl
outcome_beside m (Some x) None f = refl
outcome_beside m (Some x) (Some y) f = by (logs_clash x.reads x.writes y.reads y.writes)
  where
    both : Answer
    both = record { packets = union x.packets y.packets; reads = bit_or x.reads y.reads; writes = bit_or x.writes y.writes; change = λ n. merged n (x.change n) x.writes (y.change n) y.writes }

    joined : Meaning
    joined = record { arrays = taken (x.change m) (y.change m) y.writes; packets = union x.packets y.packets; reads = bit_or x.reads y.reads; writes = bit_or x.writes y.writes }

    at : (p : Place) → merged m (x.change m) x.writes (y.change m) y.writes p ≡ taken (x.change m) (y.change m) y.writes p
    at p = ap (λ n. cond (has y.writes p.var) (y.change m p) n) (first (has x.writes p.var) refl)
      where
        first : (t : Bool) → has x.writes p.var ≡ t → cond t (x.change m p) (m p) ≡ x.change m p
        first true e = refl
        first false e = sym (f p e)

    by : (t : Bool) → outcome_of (cond t None (Some both)) m ≡ cond t None (Some joined)
    by true = refl
    by false = λ i. Some (record { arrays = λ p. at p i; packets = union x.packets y.packets; reads = bit_or x.reads y.reads; writes = bit_or x.writes y.writes })

-- ---- out by out, and half by half
abbrev bare_answer : Option Answer
bare_answer = Some (record { packets = no_packets; reads = 0; writes = 0; change = λ n. n })

begun : (d : Diagram) (m : Arrays) (k : List ℕ) → d ≡ Only bare_leaf → answer_of (walk d m k) k ≡ bare_answer
begun d m k e = ap (λ (x : Diagram). answer_of (walk x m k) k) e

pub run_none : (groups : Grouping) (v : View) (all : List (List (ℕ × Atom))) (ups : List Update) (d r : Diagram) → all ≡ [] → r ≡ Only bare_leaf → IsDiagram groups.ranks (sizes groups v) r → IsRun groups v all ups d r
run_none groups v all ups d r e bare keeps = rw e (record {
  runs = λ m k met small. ap (λ (a : Option Answer). outcome_of a (updates m ups k)) (begun r m k bare);
  framed = λ m k met small. subst (IsFramed (updates m ups k)) (sym (begun r m k bare)) (λ p h. refl);
  keeps = keeps;
})

pub only_one : {X : Type 0} (all more : List X) (o : X) → all ≡ o ∷ more → length all ≤ 1 → all ≡ o ∷ []
only_one all [] o e l = e
only_one all (x ∷ more) o e l = absurd (let n = ap length e in omega (arith, n, l))

pub run_one : (groups : Grouping) (v : View) (o : List (ℕ × Atom)) (all : List (List (ℕ × Atom))) (ups : List Update) (d start one r : Diagram) → all ≡ o ∷ [] → start ≡ Only bare_leaf
    → OnStores v (λ m k. outcome_of (answer_of (walk one m k) k) (updates m ups k) ≡ late d o ups m k)
    → OnStores v (λ m k. answer_of (walk r m k) k ≡ beside (answer_of (walk start m k) k) (answer_of (walk one m k) k))
    → IsDiagram groups.ranks (sizes groups v) r → IsRun groups v all ups d r
run_one groups v o all ups d start one r e bare l b keeps = rw e (record {
  runs = λ m k met small.
      let m1 : Arrays = updates m ups k in
      ap (λ (x : Option Answer). outcome_of x m1) (b m k met small ∙ ap (λ (a : Option Answer). beside a (answer_of (walk one m k) k)) (begun start m k bare))
      ∙ outcome_beside m1 bare_answer (answer_of (walk one m k) k) (λ p h. refl)
      ∙ ap (meaning.beside (Some (nothing m1))) (l m k met small);
  framed = λ m k met small. subst (IsFramed (updates m ups k)) (sym (b m k met small)) (framed_beside (updates m ups k) (answer_of (walk start m k) k) (answer_of (walk one m k) k));
  keeps = keeps;
})

-- ---- an out alone, where leaves log all that they update
others_stay : (set : ℕ) (us : List Update) (m : Arrays) (k : List ℕ) (p : Place) → AreLogged set us → has set p.var ≡ false → updates m us k p ≡ m p
others_stay set [] m k p h e = refl
others_stay set (u ∷ us) m k p h e =
    let logged : has set u.var ≡ true = h 0 u (omega arith) in
    others_stay set us (update m u k) k p (All-tail (λ (w : Update). has set w.var ≡ true) u us h) e
    ∙ missed u m k p (and_left (nat_eq u.var p.var) _ (ne_eqb u.var p.var (λ same. both_ways _ e (subst (λ (v : ℕ). has set v ≡ true) same logged))))

framed_leaf : (l : Leaf) (m : Arrays) (k : List ℕ) → LeafLogsUpdates l → IsFramed m (answer_of l k)
framed_leaf Race m k h = tt
framed_leaf (Goes g) m k h = λ p e. others_stay g.writes g.ups m k p h e

framed_alone : (m : Arrays) (a : Option Answer) → IsFramed m a → meaning.beside (Some (nothing m)) (outcome_of a m) ≡ outcome_of a m
framed_alone m None f = refl
framed_alone m (Some x) f = nothing_beside m (record { arrays = x.change m; packets = x.packets; reads = x.reads; writes = x.writes }) f

pub run_framed : (groups : Grouping) (v : View) (o : List (ℕ × Atom)) (all : List (List (ℕ × Atom))) (ups : List Update) (d r : Diagram) → all ≡ o ∷ [] → LogsUpdates d → IsLate groups v o ups d r → IsRun groups v all ups d r
run_framed groups v o all ups d r e logs l = rw e (record {
  runs = λ m k met small.
      let m1 : Arrays = updates m ups k in
      sym (framed_alone m1 (answer_of (walk r m k) k) (framed_leaf (walk r m k) m1 k (l.logs logs m k met small)))
      ∙ ap (meaning.beside (Some (nothing m1))) (l.late m k met small);
  framed = λ m k met small. framed_leaf (walk r m k) (updates m ups k) k (l.logs logs m k met small);
  keeps = l.keeps;
})

pub run_both : (groups : Grouping) (v : View) (xs ys all : List (List (ℕ × Atom))) (ups : List Update) (d x y r : Diagram) → all ≡ xs ++ ys → IsRun groups v xs ups d x → IsRun groups v ys ups d y
    → OnStores v (λ m k. answer_of (walk r m k) k ≡ beside (answer_of (walk x m k) k) (answer_of (walk y m k) k))
    → IsDiagram groups.ranks (sizes groups v) r → IsRun groups v all ups d r
run_both groups v xs ys all ups d x y r e rx ry b keeps = rw e (record {
  runs = λ m k met small.
      let m1 : Arrays = updates m ups k in
      let f : List (ℕ × Atom) → Option Meaning = λ o. late d o ups m k in
      ap (λ (a : Option Answer). outcome_of a m1) (b m k met small)
      ∙ outcome_beside m1 (answer_of (walk x m k) k) (answer_of (walk y m k) k) (rx.framed m k met small)
      ∙ (λ i. meaning.beside (rx.runs m k met small i) (ry.runs m k met small i))
      ∙ sym (ap (besides (Some (nothing m1))) (map-append f xs ys) ∙ besides_both m1 (map f xs) (map f ys));
  framed = λ m k met small. subst (IsFramed (updates m ups k)) (sym (b m k met small)) (framed_beside (updates m ups k) (answer_of (walk x m k) k) (answer_of (walk y m k) k));
  keeps = keeps;
})

-- ---- behind a leaf
outcome_behind : (g h : Go) (l : Leaf) → IsBehindLeaf g h l → (m : Arrays) (k : List ℕ) → outcome_of (answer_of l k) m ≡ option_map (logged g.reads g.writes) (outcome_of (answer_of (Goes h) k) (updates m g.ups k))
outcome_behind g h l b m k =
    let after = b.same.after m k ∙ updates-append g.ups h.ups m k in
    ap (λ (x : Leaf). outcome_of (answer_of x k) m) b.is ∙ (λ i. Some (record { arrays = after i; packets = results h.outs k; reads = bit_or g.reads h.reads; writes = bit_or g.writes h.writes }))

pub behind_in : (s : Sizes) (g h : Go) (l : Leaf) → IsBehindLeaf g h l → LeafIn s (Goes g) → LeafIn s (Goes h) → LeafIn s l
behind_in s g h l b x y = subst (LeafIn s) (sym b.is) (y.0, b.same.fits s (All-append (UpdateIn s) g.ups h.ups x.1 y.1), or_lt s.arrays g.reads h.reads x.2 y.2, or_lt s.arrays g.writes h.writes x.3 y.3)

pub prefixed_leaf : (groups : Grouping) (v : View) (g h : Go) (l : Leaf) (d r : Diagram) → IsBehindLeaf g h l → d ≡ Only (Goes h) → r ≡ Only l → LeafIn (sizes groups v) l → IsPrefixed groups v g d r
prefixed_leaf groups v g h l d r b ed er fits = rw (ed, er) (record { prefixed = λ m k met small. outcome_behind g h l b m k; keeps = record { ordered = tt; bounds = fits } })

pub prefixed_split : (groups : Grouping) (v : View) (g : Go) (t : Test) (y n d ry rn r : Diagram) → d ≡ Asks t y n → IsPrefixed groups v g y ry → IsPrefixed groups v g n rn
    → ((m : Arrays) (k : List ℕ) → walk r m k ≡ cond (passes t m k) (walk ry m k) (walk rn m k)) → IsDiagram groups.ranks (sizes groups v) r → IsPrefixed groups v g d r
prefixed_split groups v g t y n d ry rn r e py pn w keeps = rw e (record {
  prefixed = λ m k met small.
      let Goal : Bool → Type 0 = λ b. outcome_of (answer_of (cond b (walk ry m k) (walk rn m k)) k) m ≡ option_map (logged g.reads g.writes) (outcome_of (answer_of (cond b (walk y m k) (walk n m k)) k) (updates m g.ups k)) in
      let by : (b : Bool) → Goal b = λ b. elim b as Goal [ true ↦ py.prefixed m k met small | false ↦ pn.prefixed m k met small ] in
      ap (λ (l : Leaf). outcome_of (answer_of l k) m) (w m k) ∙ by (passes t m k);
  keeps = keeps;
})

pub prefixed_nothing : (groups : Grouping) (v : View) (g : Go) (d : Diagram) → OnlySends g → IsDiagram groups.ranks (sizes groups v) d → IsPrefixed groups v g d d
prefixed_nothing groups v g d only keeps = record {
  prefixed = λ m k met small.
      sym (logged-nothing (outcome_at d m k))
      ∙ (λ i. option_map (logged (sym only.reads i) (sym only.writes i)) (outcome_of (answer_of (walk d m k) k) (updates m (sym only.ups i) k)));
  keeps = keeps;
}

-- ---- a leaf, and then a diagram
idle_leaf : (l : Leaf) (m : Arrays) (k : List ℕ) → LeafWritesNothing l → IsIdle (outcome_of (answer_of l k) m)
idle_leaf Race m k h = tt
idle_leaf (Goes g) m k h = h

idle_walk : (d : Diagram) (m : Arrays) (k : List ℕ) → WritesNothing d → LeafWritesNothing (walk d m k)
idle_walk (Only l) m k h = h
idle_walk (Asks t y n) m k h =
    let Goal : Bool → Type 0 = λ b. LeafWritesNothing (cond b (walk y m k) (walk n m k)) in
    let by : (b : Bool) → Goal b = λ b. elim b as Goal [ true ↦ idle_walk y m k h.0 | false ↦ idle_walk n m k h.1 ] in
    by (passes t m k)

idle_outcome : (d : Diagram) (m : Arrays) (k : List ℕ) → WritesNothing d → IsIdle (outcome_at d m k)
idle_outcome d m k h = idle_leaf (walk d m k) m k (idle_walk d m k h)

pub spread_is : (groups : Grouping) (v : View) (g : Go) (d all r : Diagram) → IsRun groups v g.outs g.ups d all → IsPrefixed groups v g all r → IsSpread groups v g d r
spread_is groups v g d all r run pre = record {
  spread = λ m k met small once. pre.prefixed m k met small ∙ ap (option_map (logged g.reads g.writes)) (run.runs m k met small ∙ sym (together (updates m g.ups k) k once));
  keeps = pre.keeps;
}
  where
    together : (m1 : Arrays) (k : List ℕ) → IsSettledLeaf (Goes g) k ⊎ WritesNothing d
        → all_together m1 (map (λ q. outcome_at d m1 q) (listed (results g.outs k))) ≡ besides (Some (nothing m1)) (map (λ o. outcome_at d m1 (after_out o k)) g.outs)
    together m1 k (inl settled) = together_results (λ q. outcome_at d m1 q) m1 k g.outs settled
    together m1 k (inr idle) = together_idle (λ q. outcome_at d m1 q) m1 k g.outs (λ q. idle_outcome d m1 q idle)

-- ---- diagrams
pub sequel_split : (groups : Grouping) (v : View) (t : Test) (d y n a ry rn r : Diagram) → a ≡ Asks t y n → IsSequel groups v d y ry → IsSequel groups v d n rn
    → ((m : Arrays) (k : List ℕ) → walk r m k ≡ cond (passes t m k) (walk ry m k) (walk rn m k)) → IsDiagram groups.ranks (sizes groups v) r → IsSequel groups v d a r
sequel_split groups v t d y n a ry rn r e sy sn w keeps = rw e (record {
  sequel = λ m k met small.
      let Goal : Bool → Type 0 = λ b. IsSettledLeaf (cond b (walk y m k) (walk n m k)) k → outcome_of (answer_of (cond b (walk ry m k) (walk rn m k)) k) m ≡ in_sequence (outcome_of (answer_of (cond b (walk y m k) (walk n m k)) k) m) (outcome_at d) in
      let by : (b : Bool) → Goal b = λ b. elim b as Goal [ true ↦ sy.sequel m k met small | false ↦ sn.sequel m k met small ] in
      λ h. ap (λ (l : Leaf). outcome_of (answer_of l k) m) (w m k) ∙ by (passes t m k) h;
  keeps = keeps;
})

pub chained_leaf : (groups : Grouping) (v : View) (g : Go) (d a s r : Diagram) → a ≡ Only (Goes g) → OnStores v (λ m k. answer_of (walk s m k) k ≡ answer_of (Goes g) k) → OnStores v (λ m k. IsSettledLeaf (walk s m k) k)
    → IsSequel groups v d s r → IsChained groups v d a r
chained_leaf groups v g d a s r e answers settled q = rw e (record {
  chained = λ m k met small. q.sequel m k met small (settled m k met small) ∙ ap (λ (x : Option Answer). in_sequence (outcome_of x m) (outcome_at d)) (answers m k met small);
  keeps = q.keeps;
})

-- a leaf of one out or none, or before a diagram that writes nothing
pub chained_once : (groups : Grouping) (v : View) (g : Go) (d a r : Diagram) → a ≡ Only (Goes g) → (length g.outs ≤ 1) ⊎ WritesNothing d → IsSpread groups v g d r → IsChained groups v d a r
chained_once groups v g d a r e once s = rw e (record { chained = λ m k met small. s.spread m k met small (by k once); keeps = s.keeps })
  where
    few : (os : List (List (ℕ × Atom))) (k : List ℕ) → length os ≤ 1 → AreDifferent (map (λ o. after_out o k) os)
    few [] k l = tt
    few (o ∷ []) k l = (All-nil (λ (q : List ℕ). after_out o k ≢ q), tt)
    few (o ∷ p ∷ os) k l = absurd (omega (arith, l))

    by : (k : List ℕ) → (length g.outs ≤ 1) ⊎ WritesNothing d → IsSettledLeaf (Goes g) k ⊎ WritesNothing d
    by k (inl l) = inl (few g.outs k l)
    by k (inr w) = inr w

-- ---- what a leaf's number says
pub behind_at : (g : Go) (d : Diagram) (l r : Leaf) (o : Option Leaf) → d ≡ Only l → ((x : Leaf) → d ≡ Only x → IsBehindOf g x o) → o ≡ Some r → (h : Go) × (d ≡ Only (Goes h)) × IsBehindLeaf g h r
behind_at g d l r o e h is = let b = subst (IsBehindOf g l) is (h l e) in (b.0, e ∙ ap Only b.1, b.2)

pub behind_of : (g h : Go) (d : Diagram) (l x r : Leaf) → d ≡ Only l → l ≡ Goes h → d ≡ Only x → IsBehindLeaf g h r → IsBehindOf g x (Some r)
behind_of g h d l x r e is f b = (h, same_only x l (sym f ∙ e) ∙ is, b)

pub goes_at : (d : Diagram) (l : Leaf) (o : Option Go) (g : Go) → d ≡ Only l → ((x : Leaf) → d ≡ Only x → IsGoOf x o) → o ≡ Some g → d ≡ Only (Goes g)
goes_at d l o g e h is = e ∙ ap Only (subst (IsGoOf l) is (h l e))

pub goes_fits : (s : Sizes) (d : Diagram) (g : Go) → d ≡ Only (Goes g) → IsIn s d → LeafIn s (Goes g)
goes_fits s d g e h = subst (IsIn s) e h

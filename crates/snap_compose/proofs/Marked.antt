-- What marks say of diagrams.
use Rattle.std.proofs.Common.{◌≡◌, ℕ, ◌+◌, ◌-◌, ◌%◌, ◌<◌, ◌^◌, Bool, true, false, cond, ◌||◌, List, [], ◌∷◌, ◌++◌, length, take, get_or, refl, sym, ap, subst, ◌∙◌, arith, bit_or}
use Rattle.std.specs.Prelude.{slice_index, slice_set, map, ◌==◌}
use Rattle.std.specs.List.{All}
use Rattle.std.proofs.lemmas.Bool.{or_parts, and_parts, both_ways, false≢true, ne_eqb, eq-eqb}
use Rattle.std.proofs.lemmas.Nat.Bits.{bit_at_ones}
use Rattle.std.proofs.lemmas.List.{take_more, get_or_default, get_or-set_other}
use Rattle.std.proofs.lemmas.List.Elements.{All-push, All-tail, All-weaker}
use Rattle.snap_context.proofs.Testing.{among_left, among_right}
use Rattle.snap_core.specs.declared.policy.Atom.{Atom}
use Rattle.snap_core.specs.declared.policy.Atom.TheVariants.{Num as Number, Comp}
use Rattle.snap_core.specs.declared.policy.Term.{Term}
use Rattle.snap_core.specs.declared.policy.Term.TheVariants.{Num, Plus}
use Rattle.snap_core.specs.declared.policy.Test.{Test}
use Rattle.snap_core.specs.declared.policy.Test.TheVariants.{Value, Equal, State}
use Rattle.snap_core.specs.declared.policy.Update.{Update}
use Rattle.snap_core.specs.Arrays.{Arrays, updates, value_of, has}
use Rattle.snap_core.specs.Tests.{after_out, with_parts, passes, term_value}
use Rattle.snap_context.specs.Known.{IsAmong}
use Rattle.snap_diagrams.specs.declared.node.Node.{Node}
use Rattle.snap_diagrams.specs.Arena.{ExtendsArena}
use Rattle.snap_diagrams.specs.declared.leaf.Leaf.{Leaf}
use Rattle.snap_diagrams.specs.declared.leaf.Leaf.TheVariants.{Race, Go as Goes}
use Rattle.snap_diagrams.specs.Diagrams.{Diagram, Only, Asks, walk}
use Rattle.snap_diagrams.proofs.Noted.{noted_kept}
use Rattle.snap_compose.specs.declared.marks.Mark.{Mark}
use Rattle.snap_compose.specs.declared.marks.Marks.{Marks}
use Rattle.snap_compose.specs.Marks.{either_mark, AreMarked, AtomMissed, IsMarkedBy, IsMissed, LeafLogsUpdates, LeafMarked, LeafWritesNothing, LogsUpdates, SetsAmong, TermMissed, TestMarked, TestMissed, UpdatesAmong, WritesNothing}
use Rattle.snap_compose.specs.Untouched.{changes, tests_updated, IsUntouched}
use Rattle.snap_compose.proofs.Staying.{unchanged}

-- ---- sets
missed_apart : (set n v : ℕ) → IsAmong set n → IsMissed set v → (n == v) ≡ false
missed_apart set n v h k = ne_eqb n v (λ e. both_ways _ k.1 (subst (λ (x : ℕ). has set x ≡ true) e (h (rw e k.0))))

-- one more, with its own set
each_more : {X : Type 0} (P : ℕ → X → Type 0) → ((a b : ℕ) (x : X) → P a x → P (bit_or a b) x) → ((a b : ℕ) (x : X) → P b x → P (bit_or a b) x)
    → (a b : ℕ) (xs : List X) (i : ℕ) (x : X) → i < length xs → x ≡ get_or xs i x → All (P a) (take i xs) → P b x → All (P (bit_or a b)) (take (i + 1) xs)
each_more P left right a b xs i x hi is h new = rw (take_more xs i x hi ∙ ap (λ y. take i xs ++ y ∷ []) (sym is))
    (All-push (P (bit_or a b)) (take i xs) x (All-weaker (P a) (P (bit_or a b)) (left a b) (take i xs) h) (right a b x new))

pub sets_left : (a b : ℕ) (o : List (ℕ × Atom)) → SetsAmong a o → SetsAmong (bit_or a b) o
sets_left a b o h = All-weaker (λ (p : ℕ × Atom). IsAmong a p.0) (λ (p : ℕ × Atom). IsAmong (bit_or a b) p.0) (λ p. among_left a b p.0) o h

pub sets_right : (a b : ℕ) (o : List (ℕ × Atom)) → SetsAmong b o → SetsAmong (bit_or a b) o
sets_right a b o h = All-weaker (λ (p : ℕ × Atom). IsAmong b p.0) (λ (p : ℕ × Atom). IsAmong (bit_or a b) p.0) (λ p. among_right a b p.0) o h

pub part_more : (a b : ℕ) (o : List (ℕ × Atom)) (i : ℕ) (d : ℕ × Atom) → i < length o → SetsAmong a (take i o) → IsAmong b (get_or o i d).0 → SetsAmong (bit_or a b) (take (i + 1) o)
part_more a b o i d hi = each_more (λ (set : ℕ) (q : ℕ × Atom). IsAmong set q.0) (λ x y q. among_left x y q.0) (λ x y q. among_right x y q.0) a b o i (get_or o i d) hi (get_or_default o i d (get_or o i d) hi)

pub out_more : (a b : ℕ) (os : List (List (ℕ × Atom))) (i : ℕ) (o : List (ℕ × Atom)) → i < length os → o ≡ get_or os i o → All (SetsAmong a) (take i os) → SetsAmong b o → All (SetsAmong (bit_or a b)) (take (i + 1) os)
out_more a b os i o = each_more SetsAmong sets_left sets_right a b os i o

pub update_more : (a b : ℕ) (us : List Update) (i : ℕ) (u : Update) → i < length us → u ≡ get_or us i u → UpdatesAmong a (take i us) → IsAmong b u.var → UpdatesAmong (bit_or a b) (take (i + 1) us)
update_more a b us i u = each_more (λ (set : ℕ) (w : Update). IsAmong set w.var) (λ x y w. among_left x y w.var) (λ x y w. among_right x y w.var) a b us i u

-- ---- either of two marks
leaf_left : (a b : Mark) (l : Leaf) → LeafMarked a l → LeafMarked (either_mark a b) l
leaf_left a b Race h = tt
leaf_left a b (Goes g) h = (
  All-weaker (SetsAmong a.sets) (SetsAmong (bit_or a.sets b.sets)) (sets_left a.sets b.sets) g.outs h.0,
  All-weaker (λ (u : Update). IsAmong a.updates u.var) (λ (u : Update). IsAmong (bit_or a.updates b.updates) u.var) (λ u. among_left a.updates b.updates u.var) g.ups h.1,
  λ e. h.2 (or_parts a.writes b.writes e).0,
  λ e. h.3 (and_parts a.framed b.framed e).0,
)

leaf_right : (a b : Mark) (l : Leaf) → LeafMarked b l → LeafMarked (either_mark a b) l
leaf_right a b Race h = tt
leaf_right a b (Goes g) h = (
  All-weaker (SetsAmong b.sets) (SetsAmong (bit_or a.sets b.sets)) (sets_right a.sets b.sets) g.outs h.0,
  All-weaker (λ (u : Update). IsAmong b.updates u.var) (λ (u : Update). IsAmong (bit_or a.updates b.updates) u.var) (λ u. among_right a.updates b.updates u.var) g.ups h.1,
  λ e. h.2 (or_parts a.writes b.writes e).1,
  λ e. h.3 (and_parts a.framed b.framed e).1,
)

test_left : (a b : Mark) (t : Test) → TestMarked a t → TestMarked (either_mark a b) t
test_left a b (Value c n) h = tt
test_left a b (Equal l r p) h = tt
test_left a b (State v ix t) h = among_left a.tests b.tests v h

test_right : (a b : Mark) (t : Test) → TestMarked b t → TestMarked (either_mark a b) t
test_right a b (Value c n) h = tt
test_right a b (Equal l r p) h = tt
test_right a b (State v ix t) h = among_right a.tests b.tests v h

marked_left : (a b : Mark) (d : Diagram) → IsMarkedBy a d → IsMarkedBy (either_mark a b) d
marked_left a b (Only l) h = leaf_left a b l h
marked_left a b (Asks t y n) h = (test_left a b t h.0, marked_left a b y h.1, marked_left a b n h.2)

marked_right : (a b : Mark) (d : Diagram) → IsMarkedBy b d → IsMarkedBy (either_mark a b) d
marked_right a b (Only l) h = leaf_right a b l h
marked_right a b (Asks t y n) h = (test_right a b t h.0, marked_right a b y h.1, marked_right a b n h.2)

pub marked_asks : (s a b : Mark) (t : Test) (y n d : Diagram) → d ≡ Asks t y n → TestMarked s t → IsMarkedBy a y → IsMarkedBy b n → IsMarkedBy (either_mark s (either_mark a b)) d
marked_asks s a b t y n d e ht hy hn = rw e (
  test_left s (either_mark a b) t ht,
  marked_right s (either_mark a b) y (marked_left a b y hy),
  marked_right s (either_mark a b) n (marked_right a b n hn),
)

-- ---- a mark of everything
has_all : (n : ℕ) → n < 64 → has (2 ^ 64 - 1) n ≡ true
has_all n h = ap (λ bit. bit == 1) (bit_at_ones 64 n h)

abbrev everything : Mark
everything = record { sets = 2 ^ 64 - 1; updates = 2 ^ 64 - 1; tests = 2 ^ 64 - 1; writes = true; framed = false }

leaf_in_everything : (l : Leaf) → LeafMarked everything l
leaf_in_everything Race = tt
leaf_in_everything (Goes g) = (
  λ i o l j p m. has_all (get_or (get_or g.outs i o) j p).0,
  λ i u l. has_all (get_or g.ups i u).var,
  λ e. absurd (false≢true (sym e)),
  λ e. absurd (false≢true e),
)

test_in_everything : (t : Test) → TestMarked everything t
test_in_everything (Value c n) = tt
test_in_everything (Equal l r p) = tt
test_in_everything (State v ix t) = has_all v

pub in_everything : (d : Diagram) → IsMarkedBy everything d
in_everything (Only l) = leaf_in_everything l
in_everything (Asks t y n) = (test_in_everything t, in_everything y, in_everything n)

-- ---- marks stay as nodes come
pub marked_kept : (old new : List (Node Leaf)) (marks : Marks) → ExtendsArena old new → AreMarked old marks → AreMarked new marks
marked_kept old new marks g h = noted_kept IsMarkedBy old new marks.reached.ids.items marks.noted.items g h

-- ---- what is missed stays
parts_missed : (set : ℕ) (o : List (ℕ × Atom)) (k r : List ℕ) (c : ℕ) → SetsAmong set o → IsMissed set c → slice_index (with_parts o k r) c ≡ slice_index r c
parts_missed set [] k r c h miss = refl
parts_missed set (p ∷ ps) k r c h miss =
    let apart = missed_apart set p.0 c (h 0 p (omega arith)) miss in
    parts_missed set ps k (slice_set r p.0 (value_of p.1 k)) c (All-tail (λ (q : ℕ × Atom). IsAmong set q.0) p ps h) miss
    ∙ get_or-set_other r p.0 c (value_of p.1 k) 0 (λ e. both_ways _ apart (eq-eqb p.0 c (sym e)))

out_missed : (set : ℕ) (o : List (ℕ × Atom)) (k : List ℕ) (c : ℕ) → SetsAmong set o → IsMissed set c → slice_index (after_out o k) c ≡ slice_index k c
out_missed set o k c h miss = parts_missed set o k k c h miss

updates_missed : (set : ℕ) (us : List Update) (v : ℕ) → UpdatesAmong set us → IsMissed set v → changes us v ≡ false
updates_missed set [] v h miss = refl
updates_missed set (u ∷ us) v h miss =
    let first = missed_apart set u.var v (h 0 u (omega arith)) miss in
    let rest = updates_missed set us v (All-tail (λ (w : Update). IsAmong set w.var) u us h) miss in
    (λ i. first i || rest i)

atoms_missed : (mk : Mark) (o : List (ℕ × Atom)) (k : List ℕ) (ix : List Atom) → SetsAmong mk.sets o → All (AtomMissed mk) ix → map (λ a. value_of a (after_out o k)) ix ≡ map (λ a. value_of a k) ix
atoms_missed mk o k [] h miss = refl
atoms_missed mk o k (Number n ∷ ix) h miss = ap (λ (xs : List ℕ). n ∷ xs) (atoms_missed mk o k ix h (All-tail (AtomMissed mk) (Number n) ix miss))
atoms_missed mk o k (Comp c ∷ ix) h miss =
    let first = out_missed mk.sets o k c h (miss 0 (Comp c) (omega arith)) in
    let rest = atoms_missed mk o k ix h (All-tail (AtomMissed mk) (Comp c) ix miss) in
    (λ i. first i ∷ rest i)

term_missed : (mk : Mark) (o : List (ℕ × Atom)) (k : List ℕ) (t : Term) → SetsAmong mk.sets o → TermMissed mk t → term_value t (after_out o k) ≡ term_value t k
term_missed mk o k (Num n) h miss = refl
term_missed mk o k (Plus c p) h miss = ap (λ x. (x + p) % 2 ^ 64) (out_missed mk.sets o k c h miss)

-- a test that the leaf misses has one answer before and behind it
pub test_missed : (mk : Mark) (t : Test) (o : List (ℕ × Atom)) (us : List Update) (m : Arrays) (k : List ℕ) → TestMissed mk t → SetsAmong mk.sets o → UpdatesAmong mk.updates us → passes t (updates m us k) (after_out o k) ≡ passes t m k
test_missed mk (Value c n) o us m k miss ho hu = ap (λ x. x == n) (out_missed mk.sets o k c ho miss)
test_missed mk (Equal l r p) o us m k miss ho hu = (λ i. out_missed mk.sets o k l ho miss.0 i == (out_missed mk.sets o k r ho miss.1 i + p) % 2 ^ 64)
test_missed mk (State v ix t) o us m k miss ho hu =
    (λ i. updates m us k (record { var = v; index = atoms_missed mk o k ix ho miss.1 i }) == term_missed mk o k t ho miss.2 i)
    ∙ ap (λ x. x == term_value t k) (unchanged us v ix m k (updates_missed mk.updates us v hu miss.0))

pub leaf_marked : (mk : Mark) (d : Diagram) (m : Arrays) (k : List ℕ) → IsMarkedBy mk d → LeafMarked mk (walk d m k)
leaf_marked mk (Only l) m k h = h
leaf_marked mk (Asks t y n) m k h =
    let Goal : Bool → Type 0 = λ b. LeafMarked mk (cond b (walk y m k) (walk n m k)) in
    let by : (b : Bool) → Goal b = λ b. elim b as Goal [ true ↦ leaf_marked mk y m k h.1 | false ↦ leaf_marked mk n m k h.2 ] in
    by (passes t m k)

-- ---- diagrams that updates leave as they are, and that write nothing
tests_missed : (mk : Mark) (t : Test) (us : List Update) → TestMarked mk t → All (λ (u : Update). IsMissed mk.tests u.var) us → tests_updated t us ≡ false
tests_missed mk (Value c n) us h miss = refl
tests_missed mk (Equal l r p) us h miss = refl
tests_missed mk (State v ix t) us h miss = none us miss
  where
    none : (xs : List Update) → All (λ (u : Update). IsMissed mk.tests u.var) xs → changes xs v ≡ false
    none [] k = refl
    none (u ∷ xs) k =
        let one : IsMissed mk.tests u.var = k 0 u (omega arith) in
        let first = ne_eqb u.var v (λ e. both_ways _ one.1 (subst (λ (x : ℕ). has mk.tests x ≡ true) (sym e) (h (rw (sym e) one.0)))) in
        let rest = none xs (All-tail (λ (w : Update). IsMissed mk.tests w.var) u xs k) in
        (λ i. first i || rest i)

pub marked_untouched : (mk : Mark) (us : List Update) (d : Diagram) → IsMarkedBy mk d → All (λ (u : Update). IsMissed mk.tests u.var) us → IsUntouched us d
marked_untouched mk us (Only l) h miss = tt
marked_untouched mk us (Asks t y n) h miss = (tests_missed mk t us h.0 miss, marked_untouched mk us y h.1 miss, marked_untouched mk us n h.2 miss)

leaf_writes_nothing : (mk : Mark) (l : Leaf) → LeafMarked mk l → mk.writes ≡ false → LeafWritesNothing l
leaf_writes_nothing mk Race h e = tt
leaf_writes_nothing mk (Goes g) h e = h.2 e

pub marked_writes_nothing : (mk : Mark) (d : Diagram) → IsMarkedBy mk d → mk.writes ≡ false → WritesNothing d
marked_writes_nothing mk (Only l) h e = leaf_writes_nothing mk l h e
marked_writes_nothing mk (Asks t y n) h e = (marked_writes_nothing mk y h.1 e, marked_writes_nothing mk n h.2 e)

-- ---- diagrams whose leaves log all that they update
leaf_logs : (mk : Mark) (l : Leaf) → LeafMarked mk l → mk.framed ≡ true → LeafLogsUpdates l
leaf_logs mk Race h e = tt
leaf_logs mk (Goes g) h e = h.3 e

pub marked_logs : (mk : Mark) (d : Diagram) → IsMarkedBy mk d → mk.framed ≡ true → LogsUpdates d
marked_logs mk (Only l) h e = leaf_logs mk l h e
marked_logs mk (Asks t y n) h e = (marked_logs mk y h.1 e, marked_logs mk n h.2 e)

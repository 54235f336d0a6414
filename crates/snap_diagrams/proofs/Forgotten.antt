-- What is pruned under a context without facts that no test bears on is pruned under the context.
use Rattle.std.proofs.Common.{◌≡◌, ◌≢◌, inl, inr, ℕ, ◌<◌, ◌≤◌, ◌^◌, Bool, true, false, List, [], ◌∷◌, ◌++◌, length, map, refl, sym, ap, subst, ◌∙◌, arith, length-append}
use Rattle.std.specs.Prelude.{slice_index}
use Rattle.std.specs.List.{All}
use Rattle.std.specs.declared.cmp.Ordering.{Ordering}
use Rattle.std.specs.declared.cmp.Ordering.TheVariants.{Less, Equal, Greater}
use Rattle.snap_core.specs.declared.place.Entry.{Entry}
use Rattle.snap_core.specs.declared.place.Place.{Place}
use Rattle.snap_core.specs.declared.policy.Atom.{Atom}
use Rattle.snap_core.specs.declared.policy.Atom.TheVariants.{Num as Number, Comp}
use Rattle.snap_core.specs.declared.policy.Term.{Term}
use Rattle.snap_core.specs.declared.policy.Term.TheVariants.{Num, Plus}
use Rattle.snap_core.specs.declared.policy.Test.{Test}
use Rattle.snap_core.specs.declared.policy.Test.TheVariants.{Value, Equal as Same, State}
use Rattle.snap_core.specs.Arrays.{Arrays, has, place_at, value_of}
use Rattle.snap_core.specs.Cells.{Cells}
use Rattle.snap_core.specs.Inputs.{IsPacket, IsStore}
use Rattle.snap_core.specs.Listing.{number_in}
use Rattle.snap_core.specs.Tests.{passes, term_value}
use Rattle.snap_dep.specs.Ranks.{Grouping}
use Rattle.snap_context.specs.declared.fact.Fact.{Fact}
use Rattle.snap_context.specs.declared.tested.Tested.{Tested}
use Rattle.snap_context.specs.Classes.{Fits, IsAtom, IsTest, class_of, index_of, is_state, var_of}
use Rattle.snap_context.specs.Known.{AtomOver, IsAmong, IsFixed, TestOver}
use Rattle.snap_context.specs.Lean.{AreParted, IsPlain}
use Rattle.snap_context.specs.View.{View}
use Rattle.snap_context.proofs.Among.{all_among, among_at, among_last, among_push}
use Rattle.snap_context.proofs.Lean.{lean_context, refilled}
use Rattle.snap_context.proofs.Roots.{index-atoms}
use Rattle.snap_context.proofs.Wrap.{wrap_zero}
use Rattle.std.proofs.lemmas.List.Elements.{All-tail}
use Rattle.snap_context.proofs.Knowing.{over_array, over_atoms}
use Rattle.snap_diagrams.specs.declared.node.Node.{Node}
use Rattle.snap_diagrams.specs.Memos.{Remembers}
use Rattle.snap_diagrams.specs.declared.leaf.Leaf.{Leaf}
use Rattle.snap_diagrams.specs.declared.pruning.PruningPlan.{PruningPlan}
use Rattle.snap_diagrams.specs.Bounds.{Sizes, IsIn}
use Rattle.snap_diagrams.specs.Contexts.{Met}
use Rattle.snap_diagrams.specs.Diagrams.{Diagram, Only, Asks, diagram}
use Rattle.snap_diagrams.specs.Forgotten.{AreDealt, AreMissed, Simulates, IsForgotten, IsMissed, IsPast}
use Rattle.snap_diagrams.specs.Memoed.{IsAskedPruned, PrunedFor}
use Rattle.snap_diagrams.specs.Order.{test_cmp, Above, IsOrdered, NotBelow}
use Rattle.snap_diagrams.specs.Picks.{IsDiagram, sizes}
use Rattle.snap_diagrams.specs.Pruned.{IsLive, IsPruned, Someone, With}
use Rattle.snap_diagrams.specs.Quiet.{SameSubject}
use Rattle.snap_diagrams.specs.Tested.{TestsOver}
use Rattle.snap_diagrams.proofs.Alike.{test_is}
use Rattle.snap_diagrams.proofs.Between.{same_between}
use Rattle.snap_diagrams.proofs.Comparing.{above_at, less_from_greater, not_itself, same_if_equal}

-- ---- facts dealt out
pub dealt_stay : (f : Fact) (left others facts stay gone : List Fact) → left ≡ f ∷ others → AreDealt left facts stay gone → AreDealt others facts (stay ++ f ∷ []) gone
dealt_stay f left others facts stay gone e h =
    let d : AreDealt (f ∷ others) facts stay gone = subst (λ (fs : List Fact). AreDealt fs facts stay gone) e h in
    record {
      each = λ g a. elim (d.each g a) [
        | inl l ↦ elim l [ inl s ↦ inr (inl (among_push g stay f (inr s))) | inr o ↦ inl o ]
        | inr r ↦ elim r [ inl s ↦ inr (inl (among_push g stay f (inl s))) | inr o ↦ inr (inr o) ]
      ];
      no_other = λ g a. d.no_other g (elim a [
        | inl o ↦ inl (inr o)
        | inr r ↦ elim r [ inl s ↦ elim (among_last g stay f s) [ inl b ↦ inr (inl b) | inr i ↦ inl (inl i) ] | inr o ↦ inr (inr o) ]
      ]);
      few = (let n = d.few in let l = length-append stay (f ∷ []) in omega (arith, n, l));
    }

pub dealt_gone : (f : Fact) (left others facts stay gone : List Fact) → left ≡ f ∷ others → AreDealt left facts stay gone → AreDealt others facts stay (gone ++ f ∷ [])
dealt_gone f left others facts stay gone e h =
    let d : AreDealt (f ∷ others) facts stay gone = subst (λ (fs : List Fact). AreDealt fs facts stay gone) e h in
    record {
      each = λ g a. elim (d.each g a) [
        | inl l ↦ elim l [ inl s ↦ inr (inr (among_push g gone f (inr s))) | inr o ↦ inl o ]
        | inr r ↦ elim r [ inl s ↦ inr (inl s) | inr o ↦ inr (inr (among_push g gone f (inl o))) ]
      ];
      no_other = λ g a. d.no_other g (elim a [
        | inl o ↦ inl (inr o)
        | inr r ↦ elim r [ inl s ↦ inr (inl s) | inr o ↦ elim (among_last g gone f o) [ inl b ↦ inr (inr b) | inr i ↦ inl (inl i) ] ]
      ]);
      few = (let n = d.few in omega (arith, n));
    }

pub dealt_all : (facts stay gone : List Fact) → AreDealt [] facts stay gone → AreParted facts stay gone
dealt_all facts stay gone d = record {
  each = λ f a. elim (d.each f a) [ inl n ↦ absurd n | inr r ↦ r ];
  no_other = λ f a. d.no_other f (inr a);
  few = (let n = d.few in omega (arith, n));
}

pub none_dealt : (facts stay gone : List Fact) → stay ≡ [] → gone ≡ [] → AreDealt facts facts stay gone
none_dealt facts stay gone e g = rw (e, g) (record {
  each = λ f a. inl a;
  no_other = λ f a. elim a [ inl b ↦ b | inr r ↦ elim r [ inl n ↦ absurd n | inr n ↦ absurd n ] ];
  few = omega arith;
})

-- ---- no test that follows is at the place of a fact that is done
past_apart : (ranks : List ℕ) (t u : Test) (f : Fact) → IsPast ranks t f → test_cmp ranks t u ≢ Greater → ¬ (SameSubject f.test u)
past_apart ranks t u f past after same = by (test_cmp ranks t u) refl after
  where
    by : (o : Ordering) → test_cmp ranks t u ≡ o → o ≢ Greater → ⊥
    by Less e n = past.1 (same_between ranks f.test t u past.0 e same)
    by Equal e n = past.1 (subst (SameSubject f.test) (sym (same_if_equal ranks t u e)) same)
    by Greater e n = n refl

module _ (cl : List Term) (k : List ℕ) (set : ℕ) (few : length cl ≤ 64) (fits : Fits cl k) (packet : IsPacket (length cl) k) where
  -- where values are the same, so is the spelling
  same_spelled : (ix iy : List Atom) → All IsFixed ix → All (IsAtom (length cl)) iy → All (AtomOver set) iy → AreMissed cl set ix
      → map (λ a. value_of a []) ix ≡ map (λ a. value_of a k) iy → ix ≡ iy
  same_spelled [] [] x i o m e = refl
  same_spelled [] (a ∷ iy) x i o m e = absurd (cc)
  same_spelled (a ∷ ix) [] x i o m e = absurd (cc)
  same_spelled (Comp c ∷ ix) (a ∷ iy) x i o m e = absurd (x 0 (Comp c) (omega arith))
  same_spelled (Number n ∷ ix) (Number y ∷ iy) x i o m e =
      let first : n ≡ y = cc in
      let rest : map (λ a. value_of a []) ix ≡ map (λ a. value_of a k) iy = cc in
      let r = same_spelled ix iy (All-tail IsFixed (Number n) ix x) (All-tail (IsAtom (length cl)) (Number y) iy i) (All-tail (AtomOver set) (Number y) iy o) (λ c l h. tail (class_of cl c) (m c l h)) rest in
      (λ j. Number (first j) ∷ r j)
    where
      tail : (t : Term) → IsMissed (Number n ∷ ix) t → IsMissed ix t
      tail (Num z) h = All-tail (λ a. a ≢ Number z) (Number n) ix h
      tail (Plus d p) h = absurd h
  same_spelled (Number n ∷ ix) (Comp c ∷ iy) x i o m e =
      let first : n ≡ slice_index k c = cc in
      let low : c < length cl = i 0 (Comp c) (omega arith) in
      let small : slice_index k c < 2 ^ 64 = packet.numbers c 0 (rw packet.long low) in
      let among : has set c ≡ true = o 0 (Comp c) (omega arith) (omega (arith, low, few)) in
      absurd (by (class_of cl c) (m c low among) (first ∙ (sym (wrap_zero (slice_index k c) small) ∙ sym (fits c low))))
    where
      by : (t : Term) → IsMissed (Number n ∷ ix) t → n ≡ term_value t k → ⊥
      by (Num z) h e = h 0 (Number n) (omega arith) (ap Number e)
      by (Plus d p) h e = h

plain_state : (t : Test) → IsPlain t → (is_state t ≡ true) × All IsFixed (index_of t)
plain_state (Value c n) h = absurd h
plain_state (Same l r q) h = absurd h
plain_state (State v ix t) h = (refl, h.0)

one_subject : (t u : Test) → is_state t ≡ true → is_state u ≡ true → var_of t ≡ var_of u → index_of t ≡ index_of u → SameSubject t u
one_subject (Value c n) u st su v i = absurd (cc)
one_subject (Same l r q) u st su v i = absurd (cc)
one_subject (State v ix t) (Value c n) st su e i = absurd (cc)
one_subject (State v ix t) (Same l r q) st su e i = absurd (cc)
one_subject (State v ix t) (State w iy u) st su e i = (e, i)

-- a test that follows: it is about what a mark tells, and not before t
record Follows (ranks : List ℕ) (comps : ℕ) (e : Tested) (t u : Test) : Type 0 where
  test : IsTest comps u
  over : TestOver e.comps e.arrays u
  after : test_cmp ranks t u ≢ Greater

done_apart : (ranks : List ℕ) (cl : List Term) (e : Tested) (t u : Test) (f : Fact) (k : List ℕ) → length cl ≤ 64 → Fits cl k → IsPacket (length cl) k → Simulates ranks cl e t f → Follows ranks (length cl) e t u
    → is_state u ≡ true → place_at (var_of f.test) (index_of f.test) [] ≢ place_at (var_of u) (index_of u) k
done_apart ranks cl e t u f k few fits packet done follows st place = elim done.1 [
  | inl elsewhere ↦ elsewhere (subst (IsAmong e.arrays) (sym var) (over_array e.comps e.arrays u follows.over st))
  | inr past ↦
      let index : index_of f.test ≡ index_of u
      = same_spelled cl k e.comps few fits packet (index_of f.test) (index_of u) (plain_state f.test done.0).1
      (index-atoms (length cl) u follows.test) (over_atoms e.comps e.arrays u follows.over) past.1 (ap (λ (p : Place). p.index) place) in
      past_apart ranks t u f past.0 follows.after (one_subject f.test u (plain_state f.test done.0).0 st var index)
]
  where
    var : var_of f.test ≡ var_of u
    var = ap (λ (p : Place). p.var) place

-- ---- all tests of a diagram
abbrev AllTests : (Test → Type 0) → Diagram → Type 0
AllTests T (Only l) = Unit {0}
AllTests T (Asks t y n) = T t × AllTests T y × AllTests T n

above_not_below : (ranks : List ℕ) (t : Test) (d : Diagram) → Above ranks t d → NotBelow ranks t d
above_not_below ranks t (Only l) h = tt
above_not_below ranks t (Asks u y n) h = λ g. absurd (cc)

all_follow : (ranks : List ℕ) (s : Sizes) (e : Tested) (t : Test) (d : Diagram) → IsIn s d → TestsOver e d → IsOrdered ranks d → NotBelow ranks t d → AllTests (Follows ranks s.comps e t) d
all_follow ranks s e t (Only l) i o r h = tt
all_follow ranks s e t (Asks u y n) i o r h = (
  record { test = test_is s u i.0 o.1; over = o.0; after = h },
  all_follow ranks s e t y i.1 o.2 r.2 (above_not_below ranks t y (above_at ranks t u y h r.0)),
  all_follow ranks s e t n i.2 o.3 r.3 (above_not_below ranks t n (above_at ranks t u n h r.1)),
)

-- what is above all that the diagram is above isn't below its first test
not_before : (ranks : List ℕ) (t : Test) (y n d r : Diagram) → d ≡ Asks t y n → ((low : Test) → Above ranks low d → Above ranks low r) → NotBelow ranks t r
not_before ranks t y n d (Only l) e above = tt
not_before ranks t y n d (Asks u a b) e above = λ g.
    let less : test_cmp ranks u t ≡ Less = less_from_greater ranks t u g in
    not_itself ranks u u (above u (subst (Above ranks u) (sym e) less)) refl

-- ---- stores that are filled with what was forgotten
-- for those of one set there are others of another, with the same answers
abbrev Refills : (Test → Type 0) → (Arrays → List ℕ → Type 0) → (Arrays → List ℕ → Type 0) → Type 0
Refills T P Q = (es : List Entry) (k : List ℕ) → IsStore (number_in es) → P (number_in es) k
    → (fs : List Entry) × IsStore (number_in fs) × Q (number_in fs) k × ((t : Test) → T t → passes t (number_in fs) k ≡ passes t (number_in es) k)

refills_with : (T : Test → Type 0) (P Q : Arrays → List ℕ → Type 0) (t : Test) (b : Bool) → T t → Refills T P Q → Refills T (With P t b) (With Q t b)
refills_with T P Q t b is h es k store p = let r = h es k store p.0 in (r.0, r.1, (r.2, r.3 t is ∙ p.1), r.3)

someone_refilled : (T : Test → Type 0) (P Q : Arrays → List ℕ → Type 0) → Refills T P Q → Someone P → Someone Q
someone_refilled T P Q h s = let r = h s.entries s.packet s.store s.is in record { entries = r.0; packet = s.packet; store = r.1; is = r.2 }

live_refilled : (T : Test → Type 0) (P Q : Arrays → List ℕ → Type 0) (d : Diagram) → Refills T P Q → AllTests T d → IsLive P d → IsLive Q d
live_refilled T P Q (Only l) h all live = tt
live_refilled T P Q (Asks t y n) h all live =
    let yes = refills_with T P Q t true all.0 h in
    let other = refills_with T P Q t false all.0 h in (
      someone_refilled T (With P t true) (With Q t true) yes live.0,
      someone_refilled T (With P t false) (With Q t false) other live.1,
      live_refilled T (With P t true) (With Q t true) y yes all.1 live.2,
      live_refilled T (With P t false) (With Q t false) n other all.2 live.3,
    )

-- ---- what is asked and answered under the leaner context
module _ (g : Grouping) (v w : View) (d : Diagram) (f : IsForgotten g.ranks v w d) where
  lean_sizes : sizes g w ≡ sizes g v
  lean_sizes = ap (λ (cl : List Term). record { comps = length cl; arrays = length g.ranks }) f.leaner.classes

  pub asked_lean : (plan : PruningPlan) (ns : List (Node Leaf)) (memo : Cells) (a : ℕ) → IsAskedPruned g v plan ns memo a → IsAskedPruned g w plan ns memo a
  asked_lean plan ns memo a h = record {
    first = record { below = h.first.below; keeps = subst (λ (s : Sizes). IsDiagram g.ranks s (diagram ns a)) (sym lean_sizes) h.first.keeps };
    planned = h.planned;
    known = subst (λ (s : Sizes). Remembers (PrunedFor g.ranks s plan ns) memo) (sym lean_sizes) h.known;
  }

  pub memo_lean : (plan : PruningPlan) (ns : List (Node Leaf)) (memo : Cells) → Remembers (PrunedFor g.ranks (sizes g w) plan ns) memo → Remembers (PrunedFor g.ranks (sizes g v) plan ns) memo
  memo_lean plan ns memo h = subst (λ (s : Sizes). Remembers (PrunedFor g.ranks s plan ns) memo) lean_sizes h

  met_less : (m : Arrays) (k : List ℕ) → Met v m k → Met w m k
  met_less m k h = record {
    packet = subst (λ (cl : List Term). IsPacket (length cl) k) (sym f.leaner.classes) h.packet;
    facts = all_among (λ f. passes f.test m k ≡ f.yes) w.facts (λ x a. among_at (λ f. passes f.test m k ≡ f.yes) v.facts h.facts x (f.leaner.lean.parted.no_other x (inl a)));
  }

  refills : Refills (Follows g.ranks (length v.classes) f.tested f.test) (Met w) (Met v)
  refills es k store met =
      let ctx = f.leaner.context in
      let packet : IsPacket (length v.classes) k = subst (λ (cl : List Term). IsPacket (length cl) k) f.leaner.classes met.packet in
      let fits : Fits v.classes k = (lean_context v w.facts f.leaner.gone ctx f.leaner.lean).told (number_in es) k packet met.facts in
      let r = refilled v w.facts f.leaner.gone ctx f.leaner.lean es k store packet met.facts in (
        r.0,
        r.1,
        record { packet = packet; facts = r.2 },
        (λ u follows. r.3 u (λ x a st. done_apart g.ranks v.classes f.tested f.test u x k ctx.few fits packet (among_at (Simulates g.ranks v.classes f.tested f.test) f.leaner.gone f.leaner.done x a) follows st)),
      )

  pub pruned_lean : (r : Diagram) → IsPruned g.ranks (sizes g w) w d r → IsPruned g.ranks (sizes g v) v d r
  pruned_lean r p =
      let keeps : IsDiagram g.ranks (sizes g v) r = subst (λ (s : Sizes). IsDiagram g.ranks s r) lean_sizes p.keeps in
      record {
        walks = λ m k h. p.walks m k (met_less m k h);
        keeps = keeps;
        above = p.above;
        live = live_refilled (Follows g.ranks (length v.classes) f.tested f.test) (Met w) (Met v) r refills
            (all_follow g.ranks (sizes g v) f.tested f.test r keeps.bounds (p.tests f.tested f.over) keeps.ordered (not_before g.ranks f.test f.yes f.other d r f.is p.above)) p.live;
        tests = p.tests;
        short = p.short;
      }

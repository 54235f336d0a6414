-- Nothing is dead below consistent facts in a quiet diagram.
use Rattle.std.proofs.Common.{◌≡◌, inl, inr, ℕ, zero, suc, Option, Some, None, ◌+◌, ◌<◌, ◌≤◌, ◌^◌, Bool, true, false, List, [], ◌∷◌, length, refl, sym, ap, subst, ◌∙◌, arith, length-append, get_or}
use Rattle.std.specs.declared.cmp.Ordering.TheVariants.{Less}
use Rattle.snap_core.specs.declared.policy.Atom.{Atom}
use Rattle.snap_core.specs.declared.policy.Term.{Term}
use Rattle.snap_core.specs.declared.policy.Term.TheVariants.{Num, Plus}
use Rattle.snap_core.specs.declared.policy.Test.{Test}
use Rattle.snap_core.specs.declared.policy.Test.TheVariants.{Value, Equal as Same, State}
use Rattle.std.specs.Prelude.{◌==◌, All, slice_get, slice_index}
use Rattle.std.proofs.lemmas.Option.{slice_get-get_or}
use Rattle.std.proofs.lemmas.Bool.{eqb-true, eqb-false}
use Rattle.std.proofs.lemmas.List.Elements.{All-weaker}
use Rattle.snap_context.proofs.Fitting.{is_atom, is_term}
use Rattle.snap_core.specs.Arrays.{Arrays, place_at}
use Rattle.snap_core.specs.Tests.{passes}
use Rattle.snap_core.specs.Listing.{number_in}
use Rattle.snap_core.specs.Inputs.{IsPacket}
use Rattle.snap_context.specs.declared.fact.Fact.{Fact}
use Rattle.snap_context.specs.Classes.{IsTest, Says}
use Rattle.snap_context.specs.Meets.{Meets, IsMet}
use Rattle.snap_context.specs.Lean.{Among}
use Rattle.snap_context.proofs.Among.{among_at, among_last}
use Rattle.snap_context.proofs.Last.{with_last, last_parts}
use Rattle.snap_context.specs.View.{View}
use Rattle.snap_dep.specs.Ranks.{Grouping}
use Rattle.snap_diagrams.specs.declared.node.Node.{Node}
use Rattle.snap_diagrams.specs.declared.node.Node.TheVariants as node
use Rattle.snap_diagrams.specs.Arena.{IsArena}
use Rattle.snap_diagrams.specs.declared.leaf.Leaf.{Leaf}
use Rattle.snap_diagrams.specs.declared.leaf.Leaf.TheVariants.{Race}
use Rattle.snap_diagrams.specs.declared.survey.Survey.{Survey}
use Rattle.snap_diagrams.specs.Bounds.{Sizes, IsIn, TestIn}
use Rattle.snap_diagrams.specs.Contexts.{Met}
use Rattle.snap_diagrams.specs.Diagrams.{Diagram, Only, Asks, diagram, depth, IsNodeOf}
use Rattle.snap_diagrams.specs.Order.{test_cmp, Above, IsOrdered}
use Rattle.snap_diagrams.specs.Picks.{IsDiagram, sizes}
use Rattle.snap_diagrams.specs.Pruned.{Someone, With, IsLive}
use Rattle.snap_diagrams.specs.Quiet.{IndexIsFine, IsClear, IsFine, SameSubject, BeginsElsewhere, IsQuiet, StandsBefore}
use Rattle.snap_core.specs.Terms.{IsNumber}
use Rattle.snap_diagrams.proofs.Spotted.{BothAsked, clear_at, same_asked}
use Rattle.snap_diagrams.proofs.Between.{same_between}
use Rattle.snap_diagrams.proofs.Consistent.{number_of, IsConsistent, consistent_is_met}
use Rattle.snap_diagrams.proofs.Comparing.{less_trans, not_itself}
use Rattle.snap_diagrams.proofs.Shared.{node_of}

pub turned : (t u : Test) → SameSubject t u → SameSubject u t
turned (Value c n) (Value d o) e = sym e
turned (Value c n) (Same l r p) e = e
turned (Value c n) (State v ix x) e = e
turned (Same l r p) u e = absurd e
turned (State v ix x) (Value d o) e = e
turned (State v ix x) (Same l r p) e = e
turned (State v ix x) (State w iy y) e = (sym e.0, sym e.1)

-- one subject and one number or term: one test
pub one_test : (t u : Test) → SameSubject t u → number_of t ≡ number_of u → t ≡ u
one_test (Value c n) (Value d o) e h = (let k : n ≡ o = cc in λ i. Value (e i) (k i))
one_test (Value c n) (Same l r p) e h = absurd e
one_test (Value c n) (State v ix x) e h = absurd e
one_test (Same l r p) u e h = absurd e
one_test (State v ix t) (Value d o) e h = absurd e
one_test (State v ix t) (Same l r p) e h = absurd e
one_test (State v ix t) (State w iy u) e h = λ i. State (e.0 i) (e.1 i) (h i)

-- two fine tests of one subject are for one number or term, or both for numbers
both_asked : (s : Survey) → IsClear s → (t u : Test) → IsFine s t → IsFine s u → SameSubject t u → BothAsked (number_of t) (number_of u)
both_asked s clear (Value c n) (Value d o) ft fu e = inr (tt, tt)
both_asked s clear (Value c n) (Same l r p) ft fu e = absurd e
both_asked s clear (Value c n) (State v ix x) ft fu e = absurd e
both_asked s clear (Same l r p) u ft fu e = absurd e
both_asked s clear (State v ix t) (Value d o) ft fu e = absurd e
both_asked s clear (State v ix t) (Same l r p) ft fu e = absurd e
both_asked s clear (State v ix t) (State w iy u) ft fu e =
    same_asked s (slice_get s.arrays.items v) ix t u (clear_at s v clear) ft.2
    (subst (λ (iz : List Atom). IndexIsFine s (slice_get s.arrays.items v) iz u) (sym e.1) (subst (λ (z : ℕ). IndexIsFine s (slice_get s.arrays.items z) iy u) (sym e.0) fu.2))

-- the facts are on tests before t, and those that pass are on other subjects
abbrev pub IsBeforeTest : List ℕ → List Fact → Test → Type 0
IsBeforeTest ranks facts t = (f : Fact) → Among f facts → (test_cmp ranks f.test t ≡ Less) × (f.yes ≡ true → ¬ (SameSubject f.test t))

abbrev pub IsBefore : List ℕ → List Fact → Diagram → Type 0
IsBefore ranks facts (Only l) = Unit {0}
IsBefore ranks facts (Asks t y n) = IsBeforeTest ranks facts t

consistent_more : (ranks : List ℕ) (comps : ℕ) (s : Survey) (facts : List Fact) (t : Test) (b : Bool) → IsConsistent comps s facts → IsTest comps t → IsFine s t → IsBeforeTest ranks facts t → IsConsistent comps s (with_last facts t b)
consistent_more ranks comps s facts t b consistent test fine before = record {
  tests = λ f a. elim (among_last f facts new a) [ inl o ↦ consistent.tests f o | inr e ↦ rw e test ];
  fine = λ f a. elim (among_last f facts new a) [ inl o ↦ consistent.fine f o | inr e ↦ rw e fine ];
  agree = λ f g a c. elim (among_last f facts new a) [
    | inl o ↦ elim (among_last g facts new c) [ inl p ↦ consistent.agree f g o p | inr e ↦ rw e (λ passed same. absurd ((before f o).1 passed same)) ]
    | inr e ↦ elim (among_last g facts new c) [ inl p ↦ rw e (λ passed same. old g p g.yes refl same) | inr h ↦ rw (e, h) (λ passed same. own b passed) ]
  ];
}
  where
    new : Fact
    new = record { test = t; yes = b }

    own : (b : Bool) → b ≡ true → Says b (number_of t) (number_of t)
    own true e = refl
    own false e = absurd (cc)

    old : (g : Fact) → Among g facts → (y : Bool) → g.yes ≡ y → SameSubject t g.test → Says y (number_of t) (number_of g.test)
    old g p true e same = absurd ((before g p).1 e (turned t g.test same))
    old g p false f same = λ e. not_itself ranks g.test t (before g p).0 (sym (one_test t g.test same e))

before_more : (ranks : List ℕ) (facts : List Fact) (t : Test) (b : Bool) (d : Diagram) → IsBeforeTest ranks facts t
    → Above ranks t d → (b ≡ true → BeginsElsewhere t d) → IsBefore ranks (with_last facts t b) d
before_more ranks facts t b (Only l) before above other = tt
before_more ranks facts t b (Asks u y n) before above other = λ f a. elim (among_last f facts (record { test = t; yes = b }) a) [
  | inl o ↦ (less_trans ranks f.test t u (before f o).0 above, λ passed same. (before f o).1 passed (same_between ranks f.test t u (before f o).0 above same))
  | inr e ↦ rw e (above, other)
]

test_is : (sz : Sizes) (s : Survey) (t : Test) → TestIn sz t → IsFine s t → IsTest sz.comps t
test_is sz s (Value c n) i f = (i.0, f.0)
test_is sz s (Same l r p) i f = absurd f
test_is sz s (State v ix t) i f = (i.1.few, (λ j d l. is_atom sz.comps (get_or ix j d) (i.1.atoms j d l) (f.1 j d l)), is_term sz.comps t i.2 f.0)

-- those that meet one fact more
more : (P : Arrays → List ℕ → Type 0) (facts : List Fact) (t : Test) (b : Bool) (comps : ℕ) → ((m : Arrays) (k : List ℕ) → IsPacket comps k → Meets facts m k → P m k)
    → (m : Arrays) (k : List ℕ) → IsPacket comps k → Meets (with_last facts t b) m k → With P t b m k
more P facts t b comps covers m k p h = let r = last_parts facts t b m k h in (covers m k p r.0, r.1)

someone : (ranks : List ℕ) (sz : Sizes) (s : Survey) → IsClear s → (P : Arrays → List ℕ → Type 0) (facts : List Fact) (t : Test) (b : Bool) → sz.comps ≤ 64
    → ((m : Arrays) (k : List ℕ) → IsPacket sz.comps k → Meets facts m k → P m k) → IsConsistent sz.comps s (with_last facts t b) → length facts + 1 ≤ 2 ^ 32 → Someone (With P t b)
someone ranks sz s clear P facts t b few covers consistent short =
    let l = length-append facts (record { test = t; yes = b } ∷ []) in
    let met = consistent_is_met sz.comps s clear (with_last facts t b) consistent few (omega (arith, l, short)) in
    record { entries = met.entries; packet = met.packet; store = met.is_store; is = more P facts t b sz.comps covers (number_in met.entries) met.packet met.is_packet met.meets }

pub quiet_live : (ranks : List ℕ) (sz : Sizes) (s : Survey) → IsClear s → (P : Arrays → List ℕ → Type 0) (facts : List Fact) (d : Diagram) → sz.comps ≤ 64
    → ((m : Arrays) (k : List ℕ) → IsPacket sz.comps k → Meets facts m k → P m k) → IsConsistent sz.comps s facts → IsBefore ranks facts d → IsQuiet s d
    → IsOrdered ranks d → IsIn sz d → length facts + depth d ≤ 2 ^ 32 → IsLive P d
quiet_live ranks sz s clear P facts (Only l) few covers consistent before quiet order bounds short = tt
quiet_live ranks sz s clear P facts (Asks t y n) few covers consistent before quiet order bounds short =
    let test = test_is sz s t bounds.0 quiet.0 in
    let passed = consistent_more ranks sz.comps s facts t true consistent test quiet.0 before in
    let failed = consistent_more ranks sz.comps s facts t false consistent test quiet.0 before in (
      someone ranks sz s clear P facts t true few covers passed (omega (arith, short)),
      someone ranks sz s clear P facts t false few covers failed (omega (arith, short)),
      quiet_live ranks sz s clear (With P t true) (with_last facts t true) y few (more P facts t true sz.comps covers) passed
          (before_more ranks facts t true y before order.0 (λ e. quiet.1)) quiet.2 order.2 bounds.1 (let l = length-append facts (record { test = t; yes = true } ∷ []) in omega (arith, l, short)),
      quiet_live ranks sz s clear (With P t false) (with_last facts t false) n few (more P facts t false sz.comps covers) failed
          (before_more ranks facts t false n before order.1 (λ e. absurd (cc))) quiet.3 order.3 bounds.2 (let l = length-append facts (record { test = t; yes = false } ∷ []) in omega (arith, l, short)),
    )

-- ---- facts that some store and packet meet
tells_by : (x n o : ℕ) (y : Bool) → (x == n) ≡ true → (x == o) ≡ y → Says y (Num n) (Num o)
tells_by x n o true p q = ap Num (sym (eqb-true x n p) ∙ eqb-true x o q)
tells_by x n o false p q = λ e. (let h : n ≡ o = cc in eqb-false x o q (eqb-true x n p ∙ h))

-- a test that passes tells its own answer
tells_itself : (t u : Test) (y : Bool) (m : Arrays) (k : List ℕ) → t ≡ u → passes t m k ≡ true → passes u m k ≡ y → number_of t ≡ number_of u → Says y (number_of t) (number_of u)
tells_itself t u true m k e p q h = h
tells_itself t u false m k e p q h = absurd (let r : passes u m k ≡ true = ap (λ (t : Test). passes t m k) (sym e) ∙ p in cc)

agree_on : (s : Survey) → IsClear s → (t u : Test) (y : Bool) (m : Arrays) (k : List ℕ) → IsFine s t → IsFine s u → passes t m k ≡ true → passes u m k ≡ y → SameSubject t u → Says y (number_of t) (number_of u)
agree_on s clear (Value c n) (Value d o) y m k ft fu p q e = tells_by (slice_index k c) n o y p (rw e q)
agree_on s clear (Value c n) (Same l r x) y m k ft fu p q e = absurd e
agree_on s clear (Value c n) (State v ix x) y m k ft fu p q e = absurd e
agree_on s clear (Same l r x) u y m k ft fu p q e = absurd e
agree_on s clear (State v ix t) (Value d o) y m k ft fu p q e = absurd e
agree_on s clear (State v ix t) (Same l r x) y m k ft fu p q e = absurd e
agree_on s clear (State v ix t) (State w iy u) y m k ft fu p q e = elim (both_asked s clear (State v ix t) (State w iy u) ft fu e) [
  | inl h ↦ tells_itself (State v ix t) (State w iy u) y m k (one_test (State v ix t) (State w iy u) e h) p q h
  | inr n ↦ numbers t u n.0 n.1 p q
]
  where
    numbers : (t u : Term) → IsNumber t → IsNumber u → passes (State v ix t) m k ≡ true → passes (State w iy u) m k ≡ y → Says y t u
    numbers (Num n) (Num o) i j p q = tells_by (m (place_at v ix k)) n o y p (rw (e.0, e.1) q)
    numbers (Num n) (Plus c x) i j p q = absurd j
    numbers (Plus c x) u i j p q = absurd i

pub met_consistent : (comps : ℕ) (s : Survey) → IsClear s → (facts : List Fact) → IsMet comps facts → All (λ f. IsTest comps f.test) facts → All (λ f. IsFine s f.test) facts → IsConsistent comps s facts
met_consistent comps s clear facts met tests fine = record {
  tests = among_at (λ f. IsTest comps f.test) facts tests;
  fine = among_at (λ f. IsFine s f.test) facts fine;
  agree = λ f g a b passed same.
      let m = number_in met.entries in
      let meets = among_at (λ f. passes f.test m met.packet ≡ f.yes) facts met.meets in
      agree_on s clear f.test g.test g.yes m met.packet (among_at (λ f. IsFine s f.test) facts fine f a) (among_at (λ f. IsFine s f.test) facts fine g b) (meets f a ∙ passed) (meets g b) same;
}

-- ---- the diagram of a number is no deeper than the number
depth_under : (ns : List (Node Leaf)) → IsArena ns → (k d : ℕ) → d < k → d < length ns → depth (diagram ns d) ≤ d
depth_under ns a zero d l h = absurd (omega arith)
depth_under ns a (suc k) d l h = by (λ e f. depth_under ns a k e (omega (arith, f, l)) (omega (arith, f, h))) (slice_get ns d) refl
  where
    ways : ((e : ℕ) → e < d → depth (diagram ns e) ≤ e) → (n : Node Leaf) → IsNodeOf ns d n → depth (diagram ns d) ≤ d
    ways ih (node.Leaf l) i = rw i (omega arith)
    ways ih (node.Ask t y n) i = rw i.0 (let p = ih y i.1 in let q = ih n i.2 in let r = i.1 in let s = i.2 in omega (arith, p, q, r, s))

    by : ((e : ℕ) → e < d → depth (diagram ns e) ≤ e) → (o : Option (Node Leaf)) → slice_get ns d ≡ o → depth (diagram ns d) ≤ d
    by ih None e = absurd (let s = slice_get-get_or ns d (node.Leaf Race) h in cc)
    by ih (Some n) e = ways ih n (node_of ns d n e (a.lower d n e))

pub depth_le : (ns : List (Node Leaf)) → IsArena ns → (d : ℕ) → d < length ns → depth (diagram ns d) ≤ d
depth_le ns a d h = depth_under ns a (d + 1) d (omega arith) h

pub stays_live : (g : Grouping) (s : Survey) → IsClear s → (v : View) (t : Test) (y n d : Diagram) → d ≡ Asks t y n → length v.classes ≤ 64 → IsMet (length v.classes) v.facts → All (λ f. IsTest (length v.classes) f.test) v.facts
    → All (StandsBefore g.ranks s t) v.facts → IsQuiet s d → IsDiagram g.ranks (sizes g v) d → length v.facts + depth d ≤ 2 ^ 32 → IsLive (Met v) d
stays_live g s clear v t y n d e few met tests before quiet diagram short =
    let stands = among_at (StandsBefore g.ranks s t) v.facts before in
    let q : IsQuiet s (Asks t y n) = subst (IsQuiet s) e quiet in
    let i : IsDiagram g.ranks (sizes g v) (Asks t y n) = subst (IsDiagram g.ranks (sizes g v)) e diagram in
    rw e (quiet_live g.ranks (sizes g v) s clear (Met v) v.facts (Asks t y n) few (λ m k p h. record { packet = p; facts = h })
    (met_consistent (length v.classes) s clear v.facts met tests (All-weaker (StandsBefore g.ranks s t) (λ f. IsFine s f.test) (λ f h. h.0) v.facts before))
    (λ f a. ((stands f a).1, (stands f a).2)) q i.ordered i.bounds (subst (λ (x : Diagram). length v.facts + depth x ≤ 2 ^ 32) e short))

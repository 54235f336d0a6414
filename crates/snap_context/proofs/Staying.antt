-- Facts whose classes are what they were keep the rules that they kept.
use Rattle.std.proofs.Common.{◌≡◌, ◌⊎◌, inl, inr, ℕ, ◌+◌, ◌<◌, ◌≤◌, Bool, true, false, not, List, [], ◌∷◌, length, map, get_or, refl, sym, ap, subst, ◌∙◌, arith, bit_and, bit_or}
use Rattle.std.specs.Prelude.{All, nat_eq}
use Rattle.std.specs.Int.{bit_at}
use Rattle.std.proofs.lemmas.Bool.{eqb-true, cases_Bool, cases_eq, both_ways}
use Rattle.std.proofs.lemmas.List.Elements.{All-head, All-tail}
use Rattle.std.proofs.lemmas.Nat.Bits.{bit_at_and, bit_at-zero}
use Rattle.snap_core.proofs.Framed.{in_left}
use Rattle.snap_core.specs.declared.policy.Atom.{Atom}
use Rattle.snap_core.specs.declared.policy.Atom.TheVariants.{Num as Number, Comp}
use Rattle.snap_core.specs.declared.policy.Term.{Term}
use Rattle.snap_core.specs.declared.policy.Term.TheVariants.{Num, Plus}
use Rattle.snap_core.specs.declared.policy.Test.{Test}
use Rattle.snap_core.specs.declared.policy.Test.TheVariants.{Value, Equal, State}
use Rattle.snap_core.specs.Arrays.{Arrays, has, meets}
use Rattle.snap_core.specs.Tests.{passes}
use Rattle.snap_context.specs.declared.fact.Fact.{Fact}
use Rattle.snap_context.specs.Classes.{shift, class_of, normal, atom_class, IsTerm, IsAtom, IsTest, FactRule, PairRule}
use Rattle.snap_context.specs.Closing.{AgreeOutside, MeetsWith, Stays, RulesOf, RulesWith}
use Rattle.snap_context.specs.Meets.{Meets}
use Rattle.snap_context.specs.Known.{IsAmong, AtomOver, TermOver, TestOver}
use Rattle.snap_context.proofs.Testing.{among_right}
use Rattle.snap_context.proofs.Walks.{all_behind, others_are}

-- a number of a set that has none in common with another isn't in that
apart_from : (a b v : ℕ) → meets a b ≡ false → has a v ≡ true → has b v ≡ false
apart_from a b v none h = elim (cases_Bool (has b v)) [
  | inl t ↦ absurd (
      let x : bit_at a v ≡ 1 = eqb-true _ 1 h in
      let y : bit_at b v ≡ 1 = eqb-true _ 1 t in
      let z : bit_and a b ≡ 0 = zero_from (nat_eq (bit_and a b) 0) refl none in
      let both = bit_at_and a b v in
      let nothing : bit_at (bit_and a b) v ≡ 0 = ap (λ (n : ℕ). bit_at n v) z ∙ bit_at-zero v in
      omega (arith, x, y, both, nothing))
  | inr f ↦ f
]
  where
    zero_from : (t : Bool) → nat_eq (bit_and a b) 0 ≡ t → not t ≡ false → bit_and a b ≡ 0
    zero_from true e n = eqb-true _ 0 e
    zero_from false e n = absurd (cc)

module _ (set comps arrays : ℕ) (first cl : List Term) (few : length cl ≤ 64) (agree : AgreeOutside set first cl) (none : meets comps set ≡ false) where
  class-stays : (c : ℕ) → c < length cl → IsAmong comps c → class_of first c ≡ class_of cl c
  class-stays c l h = agree c l (apart_from comps set c none (h (omega (arith, l, few))))

  term-stays : (t : Term) → IsTerm (length cl) t → TermOver comps t → normal first t ≡ normal cl t
  term-stays (Num n) h o = refl
  term-stays (Plus c p) h o = ap (λ (t : Term). shift t p) (class-stays c h.0 o)

  atom-stays : (a : Atom) → IsAtom (length cl) a → AtomOver comps a → atom_class first a ≡ atom_class cl a
  atom-stays (Number n) h o = refl
  atom-stays (Comp c) h o = class-stays c h o

  index-stays : (ix : List Atom) → All (IsAtom (length cl)) ix → All (AtomOver comps) ix → map (atom_class first) ix ≡ map (atom_class cl) ix
  index-stays [] h o = refl
  index-stays (a ∷ ix) h o =
      let x = atom-stays a (h 0 a (omega arith)) (o 0 a (omega arith)) in
      let y = index-stays ix (All-tail (IsAtom (length cl)) a ix h) (All-tail (AtomOver comps) a ix o) in (λ i. x i ∷ y i)

  pub test-stays : (t : Test) → IsTest (length cl) t → TestOver comps arrays t → Stays first cl t
  test-stays (Value c n) h o = record { left = term-stays (Plus c 0) (h.0, omega arith) o; right = refl; index = refl }
  test-stays (Equal l r p) h o = record { left = term-stays (Plus l 0) (h.0, omega arith) o.0; right = term-stays (Plus r p) (h.1, h.2) o.1; index = refl }
  test-stays (State v ix t) h o = record {
    left = term-stays t h.2 o.2;
    right = term-stays t h.2 o.2;
    index = index-stays ix h.1 o.1;
  }

-- the rules of all, by those of the first classes where a fact's stay
module _ (first cl : List Term) (facts : List Fact) (rules : RulesOf first facts) (each : All (λ f. Stays first cl f.test ⊎ RulesWith cl facts f) facts) where
  alone-stays : (f : Fact) → Stays first cl f.test → FactRule first f → FactRule cl f
  alone-stays f s h st = rw (← s.left, ← s.right) (h st)

  pair-stays : (f g : Fact) → Stays first cl f.test → Stays first cl g.test → PairRule first f g → PairRule cl f g
  pair-stays f g s t h y same =
      rw (← s.left, ← t.left) (h y (record { first = same.first; second = same.second; var = same.var; index = s.index ∙ (same.index ∙ sym t.index) }))

  pub rules-stay : RulesOf cl facts
  rules-stay i d l = elim (each i d l) [
    | inl s ↦ (
      alone-stays (get_or facts i d) s (rules i d l).0,
      (λ j e n. elim (each j e n) [
        | inl t ↦ pair-stays (get_or facts i d) (get_or facts j e) s t ((rules i d l).1 j e n)
        | inr with ↦ with.1 i d l
      ]),
    )
    | inr with ↦ with.0
  ]

-- ---- a set that grows by a component whose class changed
left_out : (a b v : ℕ) → has (bit_or a b) v ≡ false → has a v ≡ false
left_out a b v h = elim (cases_Bool (has a v)) [
  | inl t ↦ absurd (both_ways _ h (in_left a b v t))
  | inr f ↦ f
]

pub next_changed : (P : ℕ → Type 0) (comp set b : ℕ) → comp < 64 → IsAmong b comp → ((c : ℕ) → c < comp → has set c ≡ false → P c) → (c : ℕ) → c < comp + 1 → has (bit_or set b) c ≡ false → P c
next_changed P comp set b few among before c l h = elim (cases_eq c comp) [
  | inl e ↦ absurd (both_ways _ (subst (λ (n : ℕ). has (bit_or set b) n ≡ false) e h) (among_right set b comp among few))
  | inr o ↦ before c (omega (arith, l, o)) (left_out set b c h)
]

pub next_same : (P : ℕ → Type 0) (comp set : ℕ) → P comp → ((c : ℕ) → c < comp → has set c ≡ false → P c) → (c : ℕ) → c < comp + 1 → has set c ≡ false → P c
next_same P comp set here before c l h = elim (cases_eq c comp) [ inl e ↦ subst P (sym e) here | inr o ↦ before c (omega (arith, l, o)) h ]

-- ---- a walk over facts, with those left
-- if those left stay or agree with all, all do
pub record IsWalked (first cl : List Term) (facts left : List Fact) : Type 0 where
  pub tests : All (λ f. IsTest (length cl) f.test) left
  pub all : All (λ f. Stays first cl f.test ⊎ RulesWith cl facts f) left → All (λ f. Stays first cl f.test ⊎ RulesWith cl facts f) facts
  pub met : (m : Arrays) (k : List ℕ) → Meets facts m k → Meets left m k

pub begin_walk : (first cl : List Term) (facts : List Fact) → All (λ f. IsTest (length cl) f.test) facts → IsWalked first cl facts facts
begin_walk first cl facts tests = record { tests = tests; all = λ h. h; met = λ m k h. h }

module _ (first cl : List Term) (facts left others : List Fact) (f : Fact) (next : left ≡ f ∷ others) (walked : IsWalked first cl facts left) where
  pub newest_test : IsTest (length cl) f.test
  newest_test = All-head (λ (g : Fact). IsTest (length cl) g.test) f others (subst (All (λ (g : Fact). IsTest (length cl) g.test)) next walked.tests)

  pub newest_met : (m : Arrays) (k : List ℕ) → Meets facts m k → MeetsWith f facts m k
  newest_met m k h = (All-head (λ (g : Fact). passes g.test m k ≡ g.yes) f others (subst (λ (fs : List Fact). Meets fs m k) next (walked.met m k h)), h)

  pub next_walk : Stays first cl f.test ⊎ RulesWith cl facts f → IsWalked first cl facts others
  next_walk here = record {
    tests = others_are (λ (g : Fact). IsTest (length cl) g.test) f left others next walked.tests;
    all = all_behind (λ (g : Fact). Stays first cl g.test ⊎ RulesWith cl facts g) f left others facts next here walked.all;
    met = λ m k h. All-tail (λ (g : Fact). passes g.test m k ≡ g.yes) f others (subst (λ (fs : List Fact). Meets fs m k) next (walked.met m k h));
  }

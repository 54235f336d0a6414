-- A class by another of its components.
use Rattle.std.proofs.Common.{◌≡◌, ◌≢◌, ℕ, ◌-◌, ◌^◌, ◌<◌, cond, true, false, Bool, List, [], ◌∷◌, length, map, refl, sym, ap, subst, ◌∙◌, arith}
use Rattle.std.specs.Prelude.{◌==◌, All, slice_index, get_or}
use Rattle.std.proofs.lemmas.Bool.{eqb-true, eqb-false, eq-eqb, cond-true}
use Rattle.std.proofs.lemmas.List.{length-map, get_or-map}
use Rattle.std.proofs.lemmas.List.Elements.{All-tail}
use Rattle.snap_core.specs.declared.policy.Atom.{Atom}
use Rattle.snap_core.specs.declared.policy.Atom.TheVariants.{Num as Number, Comp}
use Rattle.snap_core.specs.declared.policy.Term.{Term}
use Rattle.snap_core.specs.declared.policy.Term.TheVariants.{Num, Plus}
use Rattle.snap_core.specs.Tests.{term_value}
use Rattle.snap_context.specs.declared.fact.Fact.{Fact}
use Rattle.snap_context.specs.Classes.{wrap, shift, class_of, normal, atom_class, IsTerm, IsAtom, IsTest, IsClass, left_of, right_of, index_of, Says, FactRule, PairRule}
use Rattle.snap_context.specs.Closing.{replace, put}
use Rattle.snap_context.specs.Known.{AreRenamed}
use Rattle.snap_context.specs.View.{IsContext}
use Rattle.snap_context.proofs.Algebra.{class_of-put, normal-put, atom_class-put, Fits-put}
use Rattle.snap_context.proofs.Merging.{solve_sum}
use Rattle.snap_context.proofs.Roots.{replace-other, left-term, right-term, index-atoms}
use Rattle.snap_context.proofs.Sound.{normal_class}
use Rattle.snap_context.proofs.Wrap.{wrap_below, wrap_cancel_right}

back : (p : ℕ) → p < 2 ^ 64 → wrap (wrap 0 (2 ^ 64 - p)) p ≡ 0
back p h = omega arith

atom-class : (cl : List Term) (x : Atom) → All (IsClass cl) cl → IsAtom (length cl) x → IsClass cl (atom_class cl x)
atom-class cl (Number n) a h = h
atom-class cl (Comp c) a h = a c (Plus c 0) h

module _ (cl : List Term) (c r p : ℕ) (within : c < length cl) (other : c ≢ r) (at : class_of cl c ≡ Plus r p) (classes : All (IsClass cl) cl) where
  abbrev to : Term
  to = Plus c (wrap 0 (2 ^ 64 - p))

  own : IsClass cl (Plus r p)
  own = subst (IsClass cl) at (classes c (Plus c 0) within)

  -- the component is a root now, and was none
  root : class_of (put cl r to) c ≡ Plus c 0
  root = class_of-put cl r c to within ∙ ap (replace r to) at ∙ cond-true (r == r) (shift to p) (Plus r p) (eq-eqb r r refl) ∙ ap (Plus c) (back p own.1)

  was_none : (q : ℕ) → class_of cl q ≡ Plus q 0 → q ≢ c
  was_none q e s =
      let here : class_of cl c ≡ Plus c 0 = subst (λ j. class_of cl j ≡ Plus j 0) s e in
      let both : Plus r p ≡ Plus c 0 = sym at ∙ here in
      let same : r ≡ c = cc in other (sym same)

  class-renamed : (x : Term) → IsClass cl x → IsClass (put cl r to) (replace r to x)
  class-renamed (Num n) h = h
  class-renamed (Plus q u) h =
      let by : (b : Bool) → (q == r) ≡ b → IsClass (put cl r to) (cond b (shift to u) (Plus q u))
      = λ b. elim b as (λ b. (q == r) ≡ b → IsClass (put cl r to) (cond b (shift to u) (Plus q u))) [
        | true ↦ λ w. (rw length-map within, wrap_below (wrap 0 (2 ^ 64 - p)) u, root)
        | false ↦ λ w. (rw length-map h.0, h.1, class_of-put cl r q to h.0 ∙ (ap (replace r to) h.2 ∙ replace-other r to q 0 (eqb-false q r w)))
      ]
      in by (q == r) refl

  classes-renamed : All (IsClass (put cl r to)) (put cl r to)
  classes-renamed k d h =
      let h' : k < length cl = rw length-map at h in
      rw (get_or-map (replace r to) cl k (Plus k 0) d h') (class-renamed (get_or cl k (Plus k 0)) (classes k (Plus k 0) h'))

  -- different classes have different names
  once : (x y : Term) → IsClass cl x → IsClass cl y → replace r to x ≡ replace r to y → x ≡ y
  once (Num n) (Num m) hx hy e = e
  once (Num n) (Plus q u) hx hy e =
      let by : (b : Bool) → Num n ≡ cond b (shift to u) (Plus q u) → Num n ≡ Plus q u
      = λ b. elim b as (λ b. Num n ≡ cond b (shift to u) (Plus q u) → Num n ≡ Plus q u) [ true ↦ λ i. absurd (cc) | false ↦ λ i. i ]
      in by (q == r) e
  once (Plus q u) (Num n) hx hy e =
      let by : (b : Bool) → cond b (shift to u) (Plus q u) ≡ Num n → Plus q u ≡ Num n
      = λ b. elim b as (λ b. cond b (shift to u) (Plus q u) ≡ Num n → Plus q u ≡ Num n) [ true ↦ λ i. absurd (cc) | false ↦ λ i. i ]
      in by (q == r) e
  once (Plus q u) (Plus s v) hx hy e =
      let by : (a b : Bool) → (q == r) ≡ a → (s == r) ≡ b → cond a (shift to u) (Plus q u) ≡ cond b (shift to v) (Plus s v) → Plus q u ≡ Plus s v
      = λ a b. elim a as (λ a. (q == r) ≡ a → (s == r) ≡ b → cond a (shift to u) (Plus q u) ≡ cond b (shift to v) (Plus s v) → Plus q u ≡ Plus s v) [
        | true ↦ elim b as (λ b. (q == r) ≡ true → (s == r) ≡ b → shift to u ≡ cond b (shift to v) (Plus s v) → Plus q u ≡ Plus s v) [
          | true ↦ λ i j w.
              let sums : wrap (wrap 0 (2 ^ 64 - p)) u ≡ wrap (wrap 0 (2 ^ 64 - p)) v = cc in
              let same : u ≡ v = wrap_cancel_right (wrap 0 (2 ^ 64 - p)) u v hx.1 hy.1 sums in
              let first : q ≡ r = eqb-true q r i in
              let second : s ≡ r = eqb-true s r j in
              cc
          | false ↦ λ i j w. let here : s ≡ c = cc in absurd (was_none s hy.2 here)
        ]
        | false ↦ elim b as (λ b. (q == r) ≡ false → (s == r) ≡ b → Plus q u ≡ cond b (shift to v) (Plus s v) → Plus q u ≡ Plus s v) [
          | true ↦ λ i j w. let here : q ≡ c = cc in absurd (was_none q hx.2 here)
          | false ↦ λ i j w. w
        ]
      ]
      in by (q == r) (s == r) refl refl e

  index_once : (ix jx : List Atom) → All (IsAtom (length cl)) ix → All (IsAtom (length cl)) jx → map (atom_class (put cl r to)) ix ≡ map (atom_class (put cl r to)) jx → map (atom_class cl) ix ≡ map (atom_class cl) jx
  index_once [] [] hi hj e = refl
  index_once [] (b ∷ jx) hi hj e = absurd (cc)
  index_once (a ∷ ix) [] hi hj e = absurd (cc)
  index_once (a ∷ ix) (b ∷ jx) hi hj e =
      let ha : IsAtom (length cl) a = hi 0 a (omega arith) in
      let hb : IsAtom (length cl) b = hj 0 b (omega arith) in
      let he : atom_class (put cl r to) a ≡ atom_class (put cl r to) b = cc in
      let te : map (atom_class (put cl r to)) ix ≡ map (atom_class (put cl r to)) jx = cc in
      let h : atom_class cl a ≡ atom_class cl b = once (atom_class cl a) (atom_class cl b) (atom-class cl a classes ha) (atom-class cl b classes hb)
      (sym (atom_class-put cl r to a ha) ∙ he ∙ atom_class-put cl r to b hb) in
      let t : map (atom_class cl) ix ≡ map (atom_class cl) jx = index_once ix jx (All-tail (IsAtom (length cl)) a ix hi) (All-tail (IsAtom (length cl)) b jx hj) te in
      cc

  says-once : (y : Bool) (a b : Term) → IsClass cl a → IsClass cl b → Says y a b → Says y (replace r to a) (replace r to b)
  says-once true a b ha hb s = ap (replace r to) s
  says-once false a b ha hb s = λ e. s (once a b ha hb e)

  says-renamed : (y : Bool) (a b : Term) → IsTerm (length cl) a → IsTerm (length cl) b → Says y (normal cl a) (normal cl b) → Says y (normal (put cl r to) a) (normal (put cl r to) b)
  says-renamed y a b ha hb s =
      rw (normal-put cl r to a ha, normal-put cl r to b hb) (says-once y (normal cl a) (normal cl b) (normal_class cl a classes ha) (normal_class cl b classes hb) s)

  fact-renamed : (f : Fact) → IsTest (length cl) f.test → FactRule cl f → FactRule (put cl r to) f
  fact-renamed f t rule s = says-renamed f.yes (left_of f.test) (right_of f.test) (left-term (length cl) f.test t) (right-term (length cl) f.test t) (rule s)

  pair-renamed : (f g : Fact) → IsTest (length cl) f.test → IsTest (length cl) g.test → PairRule cl f g → PairRule (put cl r to) f g
  pair-renamed f g tf tg rule y same =
      says-renamed g.yes (left_of f.test) (left_of g.test) (left-term (length cl) f.test tf) (left-term (length cl) g.test tg)
      (rule y (record {
        first = same.first;
        second = same.second;
        var = same.var;
        index = index_once (index_of f.test) (index_of g.test)
            (index-atoms (length cl) f.test tf) (index-atoms (length cl) g.test tg)
            same.index;
      }))

  context-renamed : (facts : List Fact) → IsContext (record { facts = facts; classes = cl }) → IsContext (record { facts = facts; classes = put cl r to })
  context-renamed facts ctx =
      let count : length (put cl r to) ≡ length cl = length-map cl (replace r to) in
      let tests = ctx.rules.tests in
      record {
        rules = record {
          tests = subst (λ (n : ℕ). All (λ f. IsTest n f.test) facts) (sym count) tests;
          classes = classes-renamed;
          alone = λ i d l. fact-renamed (get_or facts i d) (tests i d l) (ctx.rules.alone i d l);
          paired = λ i d l j e m. pair-renamed (get_or facts i d) (get_or facts j e) (tests i d l) (tests j e m) (ctx.rules.paired i d l j e m);
        };
        few = rw count ctx.few;
        many = ctx.many;
        told = λ m k packet meets.
            let fits = ctx.told m k (record { long = packet.long ∙ count; numbers = packet.numbers }) meets in
            Fits-put k cl r to fits (solve_sum (slice_index k r) (slice_index k c) p 0 own.1 (sym (ap (λ x. term_value x k) at) ∙ fits c within));
      }

pub renamed-put : (cl : List Term) (c r p : ℕ) → c < length cl → c ≢ r → class_of cl c ≡ Plus r p → AreRenamed cl (put cl r (Plus c (wrap 0 (2 ^ 64 - p))))
renamed-put cl c r p within other at =
    (length-map cl (replace r (Plus c (wrap 0 (2 ^ 64 - p)))), λ facts ctx. context-renamed cl c r p within other at ctx.rules.classes facts ctx)

pub renamed_self : (cl : List Term) → AreRenamed cl cl
renamed_self cl = (refl, λ facts ctx. ctx)

pub renamed_twice : (cl one two : List Term) → AreRenamed cl one → AreRenamed one two → AreRenamed cl two
renamed_twice cl one two a b = (b.0 ∙ a.0, λ facts ctx. b.1 facts (a.1 facts ctx))

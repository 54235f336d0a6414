-- A store that meets the facts that stay, filled at the places of those that went, meets all.
use Rattle.std.proofs.Common.{◌≡◌, ◌≢◌, inl, inr, ℕ, ◌<◌, ◌^◌, Bool, cond, true, false, List, [], ◌∷◌, length, map, refl, sym, ap, subst, ◌∙◌, arith}
use Rattle.std.specs.Prelude.{◌==◌, All}
use Rattle.std.proofs.lemmas.List.Elements.{All-tail}
use Rattle.snap_core.proofs.Places.{same_place-itself, same_place-exact}
use Rattle.snap_core.specs.declared.place.Entry.{Entry}
use Rattle.snap_core.specs.declared.place.Place.{Place}
use Rattle.snap_core.specs.declared.policy.Atom.{Atom}
use Rattle.snap_core.specs.declared.policy.Atom.TheVariants.{Num as Number, Comp}
use Rattle.snap_core.specs.declared.policy.Term.TheVariants.{Num, Plus}
use Rattle.snap_core.specs.declared.policy.Test.{Test}
use Rattle.snap_core.specs.declared.policy.Test.TheVariants.{Value, Equal, State}
use Rattle.snap_core.specs.Arrays.{Arrays, same_place, value_of}
use Rattle.snap_core.specs.Inputs.{IsStore, IsPacket}
use Rattle.snap_core.specs.Listing.{number_in}
use Rattle.snap_core.specs.Tests.{passes}
use Rattle.snap_context.specs.declared.fact.Fact.{Fact}
use Rattle.snap_context.specs.Classes.{IsTest, FactRule, PairRule, is_state, index_of}
use Rattle.snap_context.specs.Known.{IsFixed}
use Rattle.snap_context.specs.Lean.{Among, IsBeside, IsLean, IsPlain}
use Rattle.snap_context.specs.Meets.{Meets}
use Rattle.snap_context.specs.View.{View, IsContext}
use Rattle.snap_context.proofs.Among.{all_among, among_at}
use Rattle.snap_context.proofs.Contexts.{context_met}
use Rattle.snap_context.proofs.Places.{passes-like, place_of}

-- ---- places spelled by numbers
fixed_values : (ix : List Atom) (k l : List ℕ) → All IsFixed ix → map (λ a. value_of a k) ix ≡ map (λ a. value_of a l) ix
fixed_values [] k l h = refl
fixed_values (Number n ∷ ix) k l h = let r = fixed_values ix k l (All-tail IsFixed (Number n) ix h) in (λ i. n ∷ r i)
fixed_values (Comp c ∷ ix) k l h = absurd (h 0 (Comp c) (omega arith))

fixed_index : (ix iy : List Atom) (k l : List ℕ) → All IsFixed ix → All IsFixed iy → map (λ a. value_of a k) ix ≡ map (λ a. value_of a l) iy → ix ≡ iy
fixed_index [] [] k l h i e = refl
fixed_index [] (y ∷ iy) k l h i e = absurd (cc)
fixed_index (x ∷ ix) [] k l h i e = absurd (cc)
fixed_index (Comp c ∷ ix) (y ∷ iy) k l h i e = absurd (h 0 (Comp c) (omega arith))
fixed_index (Number n ∷ ix) (Comp d ∷ iy) k l h i e = absurd (i 0 (Comp d) (omega arith))
fixed_index (Number n ∷ ix) (Number o ∷ iy) k l h i e =
    let first : n ≡ o = cc in
    let rest : map (λ a. value_of a k) ix ≡ map (λ a. value_of a l) iy = cc in
    let r = fixed_index ix iy k l (All-tail IsFixed (Number n) ix h) (All-tail IsFixed (Number o) iy i) rest in
    (λ j. Number (first j) ∷ r j)

plain_place : (t : Test) (k l : List ℕ) → IsPlain t → place_of t k ≡ place_of t l
plain_place (Value c n) k l h = absurd h
plain_place (Equal q r p) k l h = absurd h
plain_place (State v ix t) k l h = let e = fixed_values ix k l h.0 in (λ i. record { var = v; index = e i })

plain_fixed : (t : Test) → IsPlain t → All IsFixed (index_of t)
plain_fixed (Value c n) h = absurd h
plain_fixed (Equal q r p) h = absurd h
plain_fixed (State v ix t) h = h.0

beside_apart : (f g : Fact) (k : List ℕ) → IsPlain f.test → IsBeside f g → is_state g.test ≡ true → place_of f.test [] ≢ place_of g.test k
beside_apart f g k plain beside state e =
    let b = beside state (sym (ap (λ (p : Place). p.var) e)) in
    b.1 (sym (fixed_index (index_of f.test) (index_of g.test) [] k (plain_fixed f.test plain) b.0 (ap (λ (p : Place). p.index) e)))

-- ---- arrays filled at the places of facts
abbrev fill : List Fact → Arrays → Arrays → Arrays
fill [] m n p = n p
fill (f ∷ fs) m n p = cond (same_place (place_of f.test []) p) (m (place_of f.test [])) (fill fs m n p)

fill_at : (fs : List Fact) (m n : Arrays) (f : Fact) (k : List ℕ) → Among f fs → IsPlain f.test → fill fs m n (place_of f.test k) ≡ m (place_of f.test k)
fill_at [] m n f k a h = absurd a
fill_at (g ∷ fs) m n f k a h = by (λ b. fill_at fs m n f k b h) (same_place (place_of g.test []) (place_of f.test k)) refl a
  where
    by : (Among f fs → fill fs m n (place_of f.test k) ≡ m (place_of f.test k))
        → (b : Bool) → same_place (place_of g.test []) (place_of f.test k) ≡ b → Among f (g ∷ fs) → cond b (m (place_of g.test [])) (fill fs m n (place_of f.test k)) ≡ m (place_of f.test k)
    by rest true e i = ap m (same_place-exact (place_of g.test []) (place_of f.test k) e)
    by rest false e (inr i) = rest i
    by rest false e (inl i) = absurd (
        let p : place_of g.test [] ≡ place_of f.test k = ap (λ (x : Fact). place_of x.test []) (sym i) ∙ plain_place f.test [] k h in
        let s : same_place (place_of g.test []) (place_of f.test k) ≡ true = subst (λ (q : Place). same_place (place_of g.test []) q ≡ true) p (same_place-itself (place_of g.test [])) in
        cc
        )

fill_other : (fs : List Fact) (m n : Arrays) (p : Place) → ((f : Fact) → Among f fs → place_of f.test [] ≢ p) → fill fs m n p ≡ n p
fill_other [] m n p h = refl
fill_other (f ∷ fs) m n p h = by (fill_other fs m n p (λ g a. h g (inr a))) (same_place (place_of f.test []) p) refl
  where
    by : fill fs m n p ≡ n p → (b : Bool) → same_place (place_of f.test []) p ≡ b → cond b (m (place_of f.test [])) (fill fs m n p) ≡ n p
    by rest true e = absurd (h f (inl refl) (same_place-exact (place_of f.test []) p e))
    by rest false e = rest

fill_small : (fs : List Fact) (m n : Arrays) → IsStore m → IsStore n → IsStore (fill fs m n)
fill_small [] m n hm hn p = hn p
fill_small (f ∷ fs) m n hm hn p =
    elim (same_place (place_of f.test []) p) as (λ b. cond b (m (place_of f.test [])) (fill fs m n p) < 2 ^ 64)
    [ true ↦ hm (place_of f.test []) | false ↦ fill_small fs m n hm hn p ]

abbrev filled : List Fact → Arrays → List Entry → List Entry
filled [] m es = es
filled (f ∷ fs) m es = record { place = place_of f.test []; value = m (place_of f.test []) } ∷ filled fs m es

number_in-filled : (fs : List Fact) (m : Arrays) (es : List Entry) (p : Place) → number_in (filled fs m es) p ≡ fill fs m (number_in es) p
number_in-filled [] m es p = refl
number_in-filled (f ∷ fs) m es p = ap (λ n. cond (same_place (place_of f.test []) p) (m (place_of f.test [])) n) (number_in-filled fs m es p)

-- a test asks nothing but its place
passes_alike : (m n : Arrays) (k : List ℕ) (t : Test) → (is_state t ≡ true → n (place_of t k) ≡ m (place_of t k)) → passes t n k ≡ passes t m k
passes_alike m n k (Value c x) h = refl
passes_alike m n k (Equal l r q) h = refl
passes_alike m n k (State v ix u) h = passes-like m n k (State v ix u) (h refl)

-- a plain test passes on each packet alike
plain_passes : (m n : Arrays) (k l : List ℕ) (t : Test) → IsPlain t → n (place_of t k) ≡ m (place_of t k) → passes t n k ≡ passes t m l
plain_passes m n k l (Value c x) h e = absurd h
plain_passes m n k l (Equal q r p) h e = absurd h
plain_passes m n k l (State v ix (Plus c p)) h e = absurd (let i = h.1 in cc)
plain_passes m n k l (State v ix (Num x)) h e =
    ap (λ y. y == x) (e ∙ ap m (plain_place (State v ix (Num x)) k l h))

module _ (facts stay gone : List Fact) (lean : IsLean facts stay gone) where
  each_plain : (f : Fact) → Among f gone → IsPlain f.test
  each_plain = among_at (λ f. IsPlain f.test) gone lean.plain

  each_beside : (f g : Fact) → Among f gone → Among g stay → IsBeside f g
  each_beside f g a b = among_at (IsBeside f) stay (among_at (λ f. All (IsBeside f) stay) gone lean.beside f a) g b

  filled_meets : (m n : Arrays) (k l : List ℕ) → Meets facts m l → Meets stay n k → Meets facts (fill gone m n) k
  filled_meets m n k l all some = all_among (λ f. passes f.test (fill gone m n) k ≡ f.yes) facts (λ f a. elim (lean.parted.each f a) [
    | inl s ↦
        passes_alike n (fill gone m n) k f.test (λ st. fill_other gone m n (place_of f.test k) (λ g b. beside_apart g f k (each_plain g b) (each_beside g f b s) st))
        ∙ among_at (λ f. passes f.test n k ≡ f.yes) stay some f s
    | inr g ↦
        plain_passes m (fill gone m n) k l f.test (each_plain f g) (fill_at gone m n f k g (each_plain f g))
        ∙ among_at (λ f. passes f.test m l ≡ f.yes) facts all f a
  ])

  all_stay : (P : Fact → Type 0) → All P facts → All P stay
  all_stay P h = all_among P stay (λ f a. among_at P facts h f (lean.parted.no_other f (inl a)))

pub lean_context : (v : View) (stay gone : List Fact) → IsContext v → IsLean v.facts stay gone → IsContext (record { facts = stay; classes = v.classes })
lean_context v stay gone ctx lean = record {
  rules = record {
    tests = all_stay v.facts stay gone lean (λ f. IsTest (length v.classes) f.test) ctx.rules.tests;
    classes = ctx.rules.classes;
    alone = all_stay v.facts stay gone lean (FactRule v.classes) ctx.rules.alone;
    paired = all_among (λ f. All (PairRule v.classes f) stay) stay
        (λ f a. all_stay v.facts stay gone lean (PairRule v.classes f) (among_at (λ f. All (PairRule v.classes f) v.facts) v.facts ctx.rules.paired f (lean.parted.no_other f (inl a))));
  };
  few = ctx.few;
  many = (let m = ctx.many in let f = lean.parted.few in omega (arith, m, f));
  told = λ n k p meets.
      let met = context_met v ctx in
      ctx.told (fill gone (number_in met.entries) n) k p (filled_meets v.facts stay gone lean (number_in met.entries) n k met.packet met.meets meets);
}

-- the law
pub refilled : (v : View) (stay gone : List Fact) → IsContext v → IsLean v.facts stay gone
    → (es : List Entry) (k : List ℕ) → IsStore (number_in es) → IsPacket (length v.classes) k → Meets stay (number_in es) k
    → (fs : List Entry) × IsStore (number_in fs) × Meets v.facts (number_in fs) k
    × ((t : Test) → ((f : Fact) → Among f gone → is_state t ≡ true → place_of f.test [] ≢ place_of t k) → passes t (number_in fs) k ≡ passes t (number_in es) k)
refilled v stay gone ctx lean es k store packet meets =
    let met = context_met v ctx in
    let m = number_in met.entries in
    let n = number_in es in
    let is : number_in (filled gone m es) ≡ fill gone m n = λ i p. number_in-filled gone m es p i in (
      filled gone m es,
      subst IsStore (sym is) (fill_small gone m n met.is_store store),
      subst (λ (a : Arrays). Meets v.facts a k) (sym is) (filled_meets v.facts stay gone lean m n k met.packet met.meets meets),
      (λ t other. subst (λ (a : Arrays). passes t a k ≡ passes t n k) (sym is) (passes_alike n (fill gone m n) k t (λ st. fill_other gone m n (place_of t k) (λ f a. other f a st)))),
    )

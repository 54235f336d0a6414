-- Facts and classes that break no rule are met by some store and packet.
use Rattle.std.proofs.Common.{◌≡◌, ◌≢◌, ℕ, ◌^◌, ◌<◌, ◌≤◌, ◌⊎◌, inl, inr, ⊎_elim, cond, true, false, ◌&&◌, Bool, List, [], ◌∷◌, length, map, get_or, refl, sym, ap, ◌∙◌, arith}
use Rattle.std.specs.Prelude.{◌==◌, All, slice_index}
use Rattle.std.proofs.lemmas.Bool.{eq-eqb, ne_eqb, and_parts, and_from, cases_Bool}
use Rattle.std.proofs.lemmas.List.{length-map, get_or-map}
use Rattle.std.proofs.lemmas.List.Elements.{All-cons, All-nil, All-tail}
use Rattle.snap_core.proofs.Places.{same_place-exact, same_place-itself}
use Rattle.snap_core.proofs.Elements.{All-unmap}
use Rattle.snap_core.specs.declared.place.Place.{Place}
use Rattle.snap_core.specs.declared.policy.Atom.{Atom}
use Rattle.snap_core.specs.declared.policy.Atom.TheVariants.{Num as Number, Comp}
use Rattle.snap_core.specs.declared.policy.Term.{Term}
use Rattle.snap_core.specs.declared.policy.Term.TheVariants.{Num, Plus}
use Rattle.snap_core.specs.declared.policy.Test.{Test}
use Rattle.snap_core.specs.declared.policy.Test.TheVariants.{Value, Equal, State}
use Rattle.snap_core.specs.Arrays.{Arrays, same_place, value_of}
use Rattle.snap_core.specs.Tests.{passes, term_value}
use Rattle.snap_core.specs.Inputs.{IsStore, IsPacket}
use Rattle.snap_context.specs.declared.fact.Fact.{Fact}
use Rattle.snap_context.specs.Meets.{IsMet}
use Rattle.snap_context.specs.Classes.{wrap, class_of, normal, atom_class, IsTerm, IsAtom, IsTest, IsClass, is_state, left_of, right_of, index_of, Says, SamePlace, PairRule, Rules}
use Rattle.snap_context.proofs.Wrap.{wrap_below, wrap_zero}
use Rattle.snap_context.proofs.Roots.{left-term, index-atoms}
use Rattle.snap_context.proofs.Fresh.{fresh_number}
use Rattle.snap_context.proofs.Places.{place_of, passes-state}
use Rattle.snap_context.proofs.Finite.{HasModel, finite}
use Rattle.snap_core.specs.Terms.{IsNumber}
use Rattle.snap_context.proofs.Numbered.{Ties, tie_upto}

-- the numbers of classes that are all numbers
abbrev const_of : Term → ℕ
const_of (Num n) = n
const_of (Plus c p) = 0

const_is : (t : Term) → IsNumber t → t ≡ Num (const_of t)
const_is (Num n) h = refl
const_is (Plus c p) h = absurd h

abbrev packet_of : List Term → List ℕ
packet_of cl = map const_of cl

-- each class is the packet's number
abbrev Tells : List Term → List ℕ → Type 0
Tells cl k = (c : ℕ) → c < length cl → class_of cl c ≡ Num (slice_index k c)

tells : (cl : List Term) → ((c : ℕ) → c < length cl → IsNumber (class_of cl c)) → Tells cl (packet_of cl)
tells cl h c l = const_is (class_of cl c) (h c l) ∙ ap Num (sym (get_or-map const_of cl c (Plus c 0) 0 l))

pub small_packet : (cl : List Term) → All (IsClass cl) cl → ((c : ℕ) → c < length cl → IsNumber (class_of cl c)) → All (λ n. n < 2 ^ 64) (packet_of cl)
small_packet cl a h k d l =
    let l' : k < length cl = rw length-map at l in
    rw (get_or-map const_of cl k (Plus k 0) d l') (small (class_of cl k) (h k l') (a k (Plus k 0) l'))
  where
    small : (t : Term) → IsNumber t → IsClass cl t → const_of t < 2 ^ 64
    small (Num n) h i = i
    small (Plus c p) h i = absurd h

const_atom : (cl : List Term) (k : List ℕ) (a : Atom) → Tells cl k → IsAtom (length cl) a → atom_class cl a ≡ Num (value_of a k)
const_atom cl k (Number n) t h = refl
const_atom cl k (Comp c) t h = t c h

const_term : (cl : List Term) (k : List ℕ) (x : Term) → Tells cl k → IsTerm (length cl) x → normal cl x ≡ Num (term_value x k)
const_term cl k (Num n) t h = refl
const_term cl k (Plus c p) t h = rw (t c h.0) refl

const_index : (cl : List Term) (k : List ℕ) (ix : List Atom) → Tells cl k → All (IsAtom (length cl)) ix → map (atom_class cl) ix ≡ map Num (map (λ z. value_of z k) ix)
const_index cl k [] t h = refl
const_index cl k (a ∷ ix) t h =
    let x : atom_class cl a ≡ Num (value_of a k) = const_atom cl k a t (h 0 a (omega arith)) in
    let y : map (atom_class cl) ix ≡ map Num (map (λ z. value_of z k) ix) = const_index cl k ix t (All-tail (IsAtom (length cl)) a ix h) in
    cc

-- the fact says what the place holds
abbrev says_at : List ℕ → Place → Fact → Bool
says_at k p f = f.yes && (is_state f.test && same_place (place_of f.test k) p)

-- what the first fact on a place says, or w
abbrev look_up : List Fact → List ℕ → ℕ → Arrays
look_up [] k w p = w
look_up (f ∷ fs) k w p = cond (says_at k p f) (term_value (left_of f.test) k) (look_up fs k w p)

look_up_cases : (P : Fact → Type 0) (facts : List Fact) (k : List ℕ) (w : ℕ) (p : Place) → All P facts → ((f : Fact) × P f × (says_at k p f ≡ true) × (look_up facts k w p ≡ term_value (left_of f.test) k)) ⊎ ((look_up facts k w p ≡ w) × All (λ f. says_at k p f ≡ false) facts)
look_up_cases P [] k w p h = inr (refl, All-nil (λ f. says_at k p f ≡ false))
look_up_cases P (f ∷ fs) k w p h =
    let Goal : Bool → Type 0 = λ b. ((g : Fact) × P g × (says_at k p g ≡ true) × (cond b (term_value (left_of f.test) k) (look_up fs k w p) ≡ term_value (left_of g.test) k)) ⊎ ((cond b (term_value (left_of f.test) k) (look_up fs k w p) ≡ w) × All (λ g. says_at k p g ≡ false) (f ∷ fs)) in
    let by : (b : Bool) → says_at k p f ≡ b → Goal b
    = λ b. elim b as (λ b. says_at k p f ≡ b → Goal b) [
      | true ↦ λ e. inl (f, h 0 f (omega arith), e, refl)
      | false ↦ λ e. ⊎_elim
          (λ (r : (g : Fact) × P g × (says_at k p g ≡ true) × (look_up fs k w p ≡ term_value (left_of g.test) k)). inl (r.0, r.1, r.2, r.3))
          (λ (r : (look_up fs k w p ≡ w) × All (λ g. says_at k p g ≡ false) fs). inr (r.0, All-cons (λ g. says_at k p g ≡ false) f fs e r.1))
          (look_up_cases P fs k w p (All-tail P f fs h))
    ]
    in by (says_at k p f) refl

says_const : (y : Bool) (a b : ℕ) → Says y (Num a) (Num b) → (a == b) ≡ y
says_const true a b s = let e : a ≡ b = cc in eq-eqb a b e
says_const false a b s = ne_eqb a b (λ e. s (ap Num e))

says_terms : (cl : List Term) (k : List ℕ) (y : Bool) (a b : Term) → Tells cl k → IsTerm (length cl) a → IsTerm (length cl) b → Says y (normal cl a) (normal cl b) → (term_value a k == term_value b k) ≡ y
says_terms cl k y a b t ha hb s =
    says_const y (term_value a k) (term_value b k) (rw (← const_term cl k a t ha, ← const_term cl k b t hb) s)

-- a value or equal fact is met
alone_met : (cl : List Term) (k : List ℕ) (m : Arrays) (t : Test) (y : Bool) → Tells cl k → IsPacket (length cl) k → IsTest (length cl) t → is_state t ≡ false → Says y (normal cl (left_of t)) (normal cl (right_of t)) → passes t m k ≡ y
alone_met cl k m (Value c n) y t p h st s =
    let lt : slice_index k c < 2 ^ 64 = p.numbers c 0 (rw p.long h.0) in
    let z : wrap (slice_index k c) 0 ≡ slice_index k c = wrap_zero (slice_index k c) lt in
    let e : (wrap (slice_index k c) 0 == n) ≡ y = says_terms cl k y (Plus c 0) (Num n) t (h.0, omega arith) h.1 s in
    rw z at e
alone_met cl k m (Equal l r q) y t p h st s =
    let lt : slice_index k l < 2 ^ 64 = p.numbers l 0 (rw p.long h.0) in
    let z : wrap (slice_index k l) 0 ≡ slice_index k l = wrap_zero (slice_index k l) lt in
    let e : (wrap (slice_index k l) 0 == wrap (slice_index k r) q) ≡ y = says_terms cl k y (Plus l 0) (Plus r q) t (h.0, omega arith) (h.1, h.2) s in
    rw z at e
alone_met cl k m (State v ix u) y t p h st s = absurd (cc)

-- a state fact is met, where w is not the number that it speaks of
state_met : (cl : List Term) (facts : List Fact) (k : List ℕ) (w : ℕ) (g : Fact) → Tells cl k → IsTest (length cl) g.test → is_state g.test ≡ true → w ≢ term_value (left_of g.test) k → All (λ f. IsTest (length cl) f.test × PairRule cl f g) facts → (All (λ f. says_at k (place_of g.test k) f ≡ false) facts → says_at k (place_of g.test k) g ≡ false) → passes g.test (look_up facts k w) k ≡ g.yes
state_met cl facts k w g t h st ne rules here =
    passes-state (look_up facts k w) k g.test st ∙
    ⊎_elim
    (λ (r : (f : Fact) × (IsTest (length cl) f.test × PairRule cl f g) × (says_at k (place_of g.test k) f ≡ true) × (look_up facts k w (place_of g.test k) ≡ term_value (left_of f.test) k)).
    let a : (r.0.yes ≡ true) × ((is_state r.0.test && same_place (place_of r.0.test k) (place_of g.test k)) ≡ true) = and_parts r.0.yes _ r.2 in
    let b : (is_state r.0.test ≡ true) × (same_place (place_of r.0.test k) (place_of g.test k) ≡ true) = and_parts (is_state r.0.test) _ a.1 in
    let e : place_of r.0.test k ≡ place_of g.test k = same_place-exact (place_of r.0.test k) (place_of g.test k) b.1 in
    let same : SamePlace cl r.0.test g.test = record {
      first = b.0;
      second = st;
      var = ap (λ (p : Place). p.var) e;
      index = const_index cl k (index_of r.0.test) t (index-atoms (length cl) r.0.test r.1.0)
          ∙ (ap (λ (p : Place). map Num p.index) e ∙ sym (const_index cl k (index_of g.test) t (index-atoms (length cl) g.test h)));
    } in
    rw r.3 (says_terms cl k g.yes (left_of r.0.test) (left_of g.test) t (left-term (length cl) r.0.test r.1.0) (left-term (length cl) g.test h) (r.1.1 a.0 same)))
    (λ (r : (look_up facts k w (place_of g.test k) ≡ w) × All (λ f. says_at k (place_of g.test k) f ≡ false) facts).
    let none : (g.yes && (is_state g.test && same_place (place_of g.test k) (place_of g.test k))) ≡ false = here r.1 in
    let part : (is_state g.test && same_place (place_of g.test k) (place_of g.test k)) ≡ true = and_from (is_state g.test) _ st (same_place-itself (place_of g.test k)) in
    let denied : g.yes ≡ false = ⊎_elim (λ (y : g.yes ≡ true). let bad : (g.yes && (is_state g.test && same_place (place_of g.test k) (place_of g.test k))) ≡ true = and_from g.yes _ y part in cc) (λ (y : g.yes ≡ false). y) (cases_Bool g.yes) in
    rw r.0 (ne_eqb w (term_value (left_of g.test) k) ne ∙ sym denied))
    (look_up_cases (λ f. IsTest (length cl) f.test × PairRule cl f g) facts k w (place_of g.test k) rules)

term_small : (comps : ℕ) (k : List ℕ) (t : Term) → IsTerm comps t → term_value t k < 2 ^ 64
term_small comps k (Num n) h = h
term_small comps k (Plus c p) h = wrap_below (slice_index k c) p

look_up_small : (comps : ℕ) (facts : List Fact) (k : List ℕ) (w : ℕ) → w < 2 ^ 64 → All (λ f. IsTest comps f.test) facts → IsStore (look_up facts k w)
look_up_small comps [] k w h t p = h
look_up_small comps (f ∷ fs) k w h t p =
    elim (says_at k p f) as (λ b. cond b (term_value (left_of f.test) k) (look_up fs k w p) < 2 ^ 64)
    [ true ↦ term_small comps k (left_of f.test) (left-term comps f.test (t 0 f (omega arith))) | false ↦ look_up_small comps fs k w h (All-tail (λ f. IsTest comps f.test) f fs t) p ]

-- classes that are all numbers, and break no rule, have a model
const_model : (facts : List Fact) (cl : List Term) → Rules facts cl → length facts ≤ 2 ^ 32 → ((c : ℕ) → c < length cl → IsNumber (class_of cl c)) → HasModel (length cl) facts
const_model facts cl rules few consts =
    let k : List ℕ = packet_of cl in
    let found : (w : ℕ) × (w < 2 ^ 64) × All (λ y. y ≢ w) (map (λ (f : Fact). term_value (left_of f.test) (packet_of cl)) facts)
    = fresh_number (2 ^ 64) (map (λ (f : Fact). term_value (left_of f.test) (packet_of cl)) facts) (rw length-map (omega (arith, few))) in
    let away : All (λ f. term_value (left_of f.test) (packet_of cl) ≢ found.0) facts
    = All-unmap (λ y. y ≢ found.0) (λ f. term_value (left_of f.test) (packet_of cl)) facts found.2 in
    let t : Tells cl (packet_of cl) = tells cl consts in
    let p : IsPacket (length cl) (packet_of cl) = record { long = length-map cl const_of; numbers = small_packet cl rules.classes consts } in
    record {
      arrays = look_up facts (packet_of cl) found.0;
      packet = packet_of cl;
      is_store = look_up_small (length cl) facts (packet_of cl) found.0 found.1 rules.tests;
      is_packet = p;
      meets = λ i d l.
          ⊎_elim
          (λ (st : is_state (get_or facts i d).test ≡ true).
          state_met cl facts (packet_of cl) found.0 (get_or facts i d) t (rules.tests i d l) st
          (λ e. away i d l (sym e))
          (λ j e m. (rules.tests j e m, rules.paired j e m i d l)) (λ none. none i d l))
          (λ (st : is_state (get_or facts i d).test ≡ false).
          alone_met cl (packet_of cl) (look_up facts (packet_of cl) found.0) (get_or facts i d).test (get_or facts i d).yes t p (rules.tests i d l) st (rules.alone i d l st))
          (cases_Bool (is_state (get_or facts i d).test));
    }

-- the law: facts and classes that break no rule have a model
pub model : (facts : List Fact) (cl : List Term) → Rules facts cl → length cl ≤ 64 → length facts ≤ 2 ^ 32 → IsMet (length cl) facts
model facts cl rules few many =
    let h : (new : List Term) × Ties facts cl (length cl) new = tie_upto facts cl (length cl) (omega arith) few many rules in
    let same : length h.0 ≡ length cl = h.1.same in
    let m : IsMet (length h.0) facts = finite (length h.0) facts (const_model facts h.0 h.1.rules many (λ c l. h.1.done c (rw same at l))) in
    rw same at m

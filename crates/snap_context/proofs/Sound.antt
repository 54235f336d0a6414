-- What facts say of the classes, where a packet fits them.
use Rattle.std.proofs.Common.{◌≡◌, ℕ, ◌^◌, ◌<◌, true, false, Bool, List, [], ◌∷◌, length, map, refl, sym, ap, ◌∙◌, arith}
use Rattle.std.specs.Prelude.{◌==◌, All, slice_index, Result, Ok, Err, MatchResult}
use Rattle.std.proofs.lemmas.Bool.{eqb-true, eqb-false}
use Rattle.std.proofs.lemmas.List.Elements.{All-tail}
use Rattle.snap_core.specs.declared.policy.Atom.{Atom}
use Rattle.snap_core.specs.declared.policy.Atom.TheVariants.{Num as Number, Comp}
use Rattle.snap_core.specs.declared.policy.Term.{Term}
use Rattle.snap_core.specs.declared.policy.Term.TheVariants.{Num, Plus}
use Rattle.snap_core.specs.declared.policy.Test.{Test}
use Rattle.snap_core.specs.declared.policy.Test.TheVariants.{Value, Equal, State}
use Rattle.snap_core.specs.Arrays.{Arrays, value_of}
use Rattle.snap_core.specs.Tests.{passes, term_value}
use Rattle.snap_core.specs.Inputs.{IsPacket}
use Rattle.snap_context.specs.declared.fact.Fact.{Fact}
use Rattle.snap_context.specs.declared.look.Breach.{Breach}
use Rattle.snap_context.specs.declared.look.Breach.TheVariants.{Join, Contradiction}
use Rattle.snap_context.specs.Classes.{wrap, shift, class_of, normal, atom_class, IsTerm, IsAtom, IsTest, IsClass, Fits, is_state, left_of, right_of, index_of, Says, SamePlace, PairRule}
use Rattle.snap_context.specs.Closing.{IsBreach, Compares, MeetsOne, MeetsTwo}
use Rattle.snap_context.proofs.Wrap.{wrap_below, wrap_zero}
use Rattle.snap_context.proofs.Algebra.{normal-value}
use Rattle.snap_context.proofs.Roots.{left-term, right-term, index-atoms}
use Rattle.snap_context.proofs.Places.{place_of, passes-state}

atom_class-value : (cl : List Term) (k : List ℕ) (a : Atom) → IsPacket (length cl) k → Fits cl k → IsAtom (length cl) a → value_of a k ≡ term_value (atom_class cl a) k
atom_class-value cl k (Number n) p f h = refl
atom_class-value cl k (Comp c) p f h =
    let lt : slice_index k c < 2 ^ 64 = p.numbers c 0 (rw p.long h) in
    sym (f c h ∙ wrap_zero (slice_index k c) lt)

pub index-values : (cl : List Term) (k : List ℕ) (ix : List Atom) → IsPacket (length cl) k → Fits cl k → All (IsAtom (length cl)) ix → map (λ a. value_of a k) ix ≡ map (λ t. term_value t k) (map (atom_class cl) ix)
index-values cl k [] p f h = refl
index-values cl k (a ∷ ix) p f h =
    let x : value_of a k ≡ term_value (atom_class cl a) k = atom_class-value cl k a p f (h 0 a (omega arith)) in
    let y : map (λ a. value_of a k) ix ≡ map (λ t. term_value t k) (map (atom_class cl) ix) = index-values cl k ix p f (All-tail (IsAtom (length cl)) a ix h) in
    cc

same_values : (cl : List Term) (k : List ℕ) (ix jx : List Atom) → IsPacket (length cl) k → Fits cl k → All (IsAtom (length cl)) ix → All (IsAtom (length cl)) jx → map (atom_class cl) ix ≡ map (atom_class cl) jx → map (λ a. value_of a k) ix ≡ map (λ a. value_of a k) jx
same_values cl k ix jx p f hi hj e =
    index-values cl k ix p f hi ∙ (ap (map (λ t. term_value t k)) e ∙ sym (index-values cl k jx p f hj))

same_place_of : (cl : List Term) (k : List ℕ) (s t : Test) → IsPacket (length cl) k → Fits cl k → IsTest (length cl) s → IsTest (length cl) t → SamePlace cl s t → place_of s k ≡ place_of t k
same_place_of cl k s t p fits hs ht same =
    let index : map (λ a. value_of a k) (index_of s) ≡ map (λ a. value_of a k) (index_of t)
    = same_values cl k (index_of s) (index_of t) p fits (index-atoms (length cl) s hs) (index-atoms (length cl) t ht) same.index in
    let var = same.var in
    λ i. record { var = var i; index = index i }

-- by its classes, two terms are equal where the answer says so
says_normal : (cl : List Term) (k : List ℕ) (a b : Term) (y : Bool) → Fits cl k → IsTerm (length cl) a → IsTerm (length cl) b → (term_value a k == term_value b k) ≡ y → (term_value (normal cl a) k == term_value (normal cl b) k) ≡ y
says_normal cl k a b y fits ha hb e = rw (normal-value k cl a fits ha, normal-value k cl b fits hb) e

-- a value or equal fact says whether its two terms are equal
pub passes-alone : (comps : ℕ) (m : Arrays) (k : List ℕ) (t : Test) → IsPacket comps k → IsTest comps t → is_state t ≡ false → passes t m k ≡ (term_value (left_of t) k == term_value (right_of t) k)
passes-alone comps m k (Value c n) p h st =
    let lt : slice_index k c < 2 ^ 64 = p.numbers c 0 (rw p.long h.0) in
    ap (λ x. x == n) (sym (wrap_zero (slice_index k c) lt))
passes-alone comps m k (Equal l r q) p h st =
    let lt : slice_index k l < 2 ^ 64 = p.numbers l 0 (rw p.long h.0) in
    ap (λ x. x == wrap (slice_index k r) q) (sym (wrap_zero (slice_index k l) lt))
passes-alone comps m k (State v ix u) p h st = absurd (cc)

pub alone_says : (cl : List Term) (f : Fact) (m : Arrays) (k : List ℕ) → IsTest (length cl) f.test → is_state f.test ≡ false → IsPacket (length cl) k → MeetsOne f m k → Fits cl k → (term_value (normal cl (left_of f.test)) k == term_value (normal cl (right_of f.test)) k) ≡ f.yes
alone_says cl f m k h st p meets fits =
    says_normal cl k (left_of f.test) (right_of f.test) f.yes fits (left-term (length cl) f.test h) (right-term (length cl) f.test h)
    (sym (passes-alone (length cl) m k f.test p h st) ∙ meets)

-- of two facts on one place, the second says whether their terms are equal
pair_says : (cl : List Term) (f g : Fact) (m : Arrays) (k : List ℕ) → IsTest (length cl) f.test → IsTest (length cl) g.test → SamePlace cl f.test g.test → f.yes ≡ true → IsPacket (length cl) k → MeetsTwo f g m k → Fits cl k → (term_value (normal cl (left_of f.test)) k == term_value (normal cl (left_of g.test)) k) ≡ g.yes
pair_says cl f g m k tf tg same y p meets fits =
    let here : place_of f.test k ≡ place_of g.test k = same_place_of cl k f.test g.test p fits tf tg same in
    let a : (m (place_of f.test k) == term_value (left_of f.test) k) ≡ true = sym (passes-state m k f.test same.first) ∙ (meets.0 ∙ y) in
    let b : m (place_of g.test k) ≡ term_value (left_of f.test) k = sym (ap m here) ∙ eqb-true _ _ a in
    let c : (m (place_of g.test k) == term_value (left_of g.test) k) ≡ g.yes = sym (passes-state m k g.test same.second) ∙ meets.1 in
    says_normal cl k (left_of f.test) (left_of g.test) g.yes fits (left-term (length cl) f.test tf) (left-term (length cl) g.test tg)
    (ap (λ x. x == term_value (left_of g.test) k) (sym b) ∙ c)

shift_class : (cl : List Term) (t : Term) (p : ℕ) → IsClass cl t → IsClass cl (shift t p)
shift_class cl (Num n) p h = wrap_below n p
shift_class cl (Plus c q) p h = (h.0, wrap_below q p, h.2)

pub normal_class : (cl : List Term) (x : Term) → All (IsClass cl) cl → IsTerm (length cl) x → IsClass cl (normal cl x)
normal_class cl (Num n) a h = h
normal_class cl (Plus c p) a h = shift_class cl (class_of cl c) p (a c (Plus c 0) h.0)

-- a failed comparison is a breach, where it holds that the answer is so
breach_of : (holds : Arrays → List ℕ → Type 0) (cl : List Term) (a b : Term) (y : Bool) (e : Breach) → IsClass cl a → IsClass cl b
    → ((m : Arrays) (k : List ℕ) → IsPacket (length cl) k → holds m k → Fits cl k → (term_value a k == term_value b k) ≡ y) → Compares a b y e → IsBreach holds cl e
breach_of holds cl a b y (Join c d) ha hb says h = record {
  left = rw h.1 ha;
  right = rw h.2 hb;
  differ = rw (h.1, h.2) h.3;
  equal = λ m k p holds fits. rw (h.1, h.2) (eqb-true _ _ (says m k p holds fits ∙ h.0));
}
breach_of holds cl a b y Contradiction ha hb says h = λ m k p holds fits. eqb-false _ _ (says m k p holds fits ∙ h.0) (ap (λ t. term_value t k) h.1)

pub pair_breach : (cl : List Term) (f g : Fact) (e : Breach) → All (IsClass cl) cl → IsTest (length cl) f.test → IsTest (length cl) g.test → SamePlace cl f.test g.test → f.yes ≡ true → Compares (normal cl (left_of f.test)) (normal cl (left_of g.test)) g.yes e → IsBreach (MeetsTwo f g) cl e
pair_breach cl f g e classes tf tg same y =
    breach_of (MeetsTwo f g) cl (normal cl (left_of f.test)) (normal cl (left_of g.test)) g.yes e
    (normal_class cl (left_of f.test) classes (left-term (length cl) f.test tf)) (normal_class cl (left_of g.test) classes (left-term (length cl) g.test tg))
    (λ m k p meets fits. pair_says cl f g m k tf tg same y p meets fits)

-- what is broken where more facts hold
pub IsBreach-weaker : (holds more : Arrays → List ℕ → Type 0) (cl : List Term) (e : Breach) → ((m : Arrays) (k : List ℕ) → more m k → holds m k) → IsBreach holds cl e → IsBreach more cl e
IsBreach-weaker holds more cl (Join a b) w h = record { left = h.left; right = h.right; differ = h.differ; equal = λ m k p i fits. h.equal m k p (w m k i) fits }
IsBreach-weaker holds more cl Contradiction w h = λ m k p i fits. h m k p (w m k i) fits

pub pair_found : {X : Type 0} (cl : List Term) (f g : Fact) (r : Result X Breach) → All (IsClass cl) cl → IsTest (length cl) f.test → IsTest (length cl) g.test → SamePlace cl f.test g.test → f.yes ≡ true
    → MatchResult r (λ _. Says g.yes (normal cl (left_of f.test)) (normal cl (left_of g.test))) (Compares (normal cl (left_of f.test)) (normal cl (left_of g.test)) g.yes)
    → MatchResult r (λ _. PairRule cl f g) (IsBreach (MeetsTwo f g) cl)
pair_found cl f g (Ok x) classes tf tg same y h = λ _ _. h
pair_found cl f g (Err e) classes tf tg same y h = pair_breach cl f g e classes tf tg same y h

-- What facts about some components and arrays decide beside a context is decided by what the context knows about them.
use Rattle.std.proofs.Common.{◌≡◌, ◌≢◌, ◌⊎◌, inl, inr, ℕ, ◌+◌, ◌-◌, ◌<◌, ◌≤◌, ◌^◌, Bool, true, false, cond, not, ◌&&◌, List, [], ◌∷◌, ◌++◌, length, map, get_or, refl, sym, ap, subst, ◌∙◌, arith, Option, Some, None}
use Rattle.std.specs.Prelude.{◌==◌, nat_lt, All, slice_index}
use Rattle.std.proofs.lemmas.Bool.{eqb-true, eqb-false, ne_eqb, cond-true, cond-false, and_parts, cases_Bool, both_ways}
use Rattle.std.proofs.lemmas.List.{length-map}
use Rattle.std.proofs.lemmas.List.Elements.{All-append, All-cons, All-contains, All-nil, All-tail, Contains-get_or}
use Rattle.snap_core.specs.declared.policy.Atom.{Atom}
use Rattle.snap_core.specs.declared.policy.Atom.TheVariants.{Num as Number, Comp}
use Rattle.snap_core.specs.declared.policy.Term.{Term}
use Rattle.snap_core.specs.declared.policy.Term.TheVariants.{Num, Plus}
use Rattle.snap_core.specs.declared.policy.Test.{Test}
use Rattle.snap_core.specs.declared.policy.Test.TheVariants.{Value, Equal, State}
use Rattle.snap_core.specs.Arrays.{Arrays, value_of, has}
use Rattle.snap_core.specs.Tests.{passes, term_value}
use Rattle.snap_core.specs.Inputs.{IsPacket}
use Rattle.snap_context.specs.declared.fact.Fact.{Fact}
use Rattle.snap_context.specs.Meets.{Meets, IsMet}
use Rattle.snap_context.specs.Classes.{wrap, shift, class_of, normal, atom_class, IsTerm, IsAtom, IsTest, IsClass, Fits, is_state, var_of, index_of, left_of, right_of, Says, SamePlace, FactRule, PairRule, Rules}
use Rattle.snap_context.specs.Known.{IsAmong, AtomOver, TermOver, TestOver, Normal, Differ, Held, within, are_within, outside, are_outside, is_number, are_numbers, spot, tied, loose, difference, apart_of, held_of, known, with_some, all_known, normals_key, AreSame, IsRooted, IsSpelled, IsKnown}
use Rattle.snap_context.specs.View.{View, IsContext}
use Rattle.snap_context.proofs.Algebra.{normal-value}
use Rattle.snap_context.proofs.Keys.{same_normals, same_classes}
use Rattle.snap_context.proofs.Merging.{solve_num, solve_sum}
use Rattle.snap_context.proofs.Model.{model}
use Rattle.snap_context.proofs.Pinned.{pinned, pinned_within, pinned_outside, class_of-pinned, normal-pinned, index-pinned, index_within, index_outside, all_numbers, classes_pinned, still_apart}
use Rattle.snap_context.proofs.Places.{passes-state}
use Rattle.snap_context.proofs.Roots.{normal_term, left-term, right-term, index-atoms}
use Rattle.snap_context.proofs.Sound.{index-values, alone_says, passes-alone}
use Rattle.snap_context.proofs.Wrap.{wrap_cancel_right, wrap_zero}

-- ---- what is known holds
abbrev SaysSo : Arrays → List ℕ → Normal → Type 0
SaysSo m k (Differ a b) = (term_value a k == term_value b k) ≡ false
SaysSo m k (Held v ix t y) = (m (record { var = v; index = map (λ u. term_value u k) ix }) == term_value t k) ≡ y

abbrev SomeSaysSo : Arrays → List ℕ → Option Normal → Type 0
SomeSaysSo m k None = Unit {0}
SomeSaysSo m k (Some n) = SaysSo m k n

with_said : (m : Arrays) (k : List ℕ) (o : Option Normal) (ns : List Normal) → SomeSaysSo m k o → All (SaysSo m k) ns → All (SaysSo m k) (with_some o ns)
with_said m k None ns h i = i
with_said m k (Some n) ns h i = All-cons (SaysSo m k) n ns h i

parts_said : (m : Arrays) (k : List ℕ) (o : Option Normal) (ns : List Normal) → All (SaysSo m k) (with_some o ns) → SomeSaysSo m k o × All (SaysSo m k) ns
parts_said m k None ns h = (tt, h)
parts_said m k (Some n) ns h = (h 0 n (omega arith), All-tail (SaysSo m k) n ns h)

undo_num : (x y p : ℕ) → y < 2 ^ 64 → p < 2 ^ 64 → wrap x 0 ≡ wrap y (2 ^ 64 - p) → wrap x p ≡ y
undo_num x y p hy hp e = omega arith

undo_sum : (x y p q : ℕ) → p < 2 ^ 64 → wrap x 0 ≡ wrap y (wrap q (2 ^ 64 - p)) → wrap x p ≡ wrap y q
undo_sum x y p q hp e = omega arith

-- two terms differ on a packet where what is told of them does
difference_said : (m : Arrays) (k : List ℕ) (n : ℕ) (a b : Term) → IsTerm n a → IsTerm n b → (term_value a k == term_value b k) ≡ false → SomeSaysSo m k (difference a b)
difference_said m k n (Num x) (Num y) ha hb h = tt
difference_said m k n (Num x) (Plus d q) ha hb h = ne_eqb _ _ (λ e. eqb-false _ _ h (sym (undo_num (slice_index k d) x q ha hb.1 e)))
difference_said m k n (Plus c p) (Num y) ha hb h = ne_eqb _ _ (λ e. eqb-false _ _ h (undo_num (slice_index k c) y p hb ha.1 e))
difference_said m k n (Plus c p) (Plus d q) ha hb h = by (c == d) (nat_lt c d)
  where
    by : (s t : Bool) → SomeSaysSo m k (cond s None (cond t (Some (Differ (Plus c 0) (Plus d (wrap q (2 ^ 64 - p))))) (Some (Differ (Plus d 0) (Plus c (wrap p (2 ^ 64 - q)))))))
    by true t = tt
    by false true = ne_eqb _ _ (λ e. eqb-false _ _ h (undo_sum (slice_index k c) (slice_index k d) p q ha.1 e))
    by false false = ne_eqb _ _ (λ e. eqb-false _ _ h (sym (undo_sum (slice_index k d) (slice_index k c) q p hb.1 e)))

still_differ : (m : Arrays) (k : List ℕ) (n : ℕ) (a b : Term) → IsTerm n a → IsTerm n b → a ≢ b → SomeSaysSo m k (difference a b) → term_value a k ≢ term_value b k
still_differ m k n (Num x) (Num y) ha hb ne s e = ne (ap Num e)
still_differ m k n (Num x) (Plus d q) ha hb ne s e = eqb-false _ _ s (solve_num (slice_index k d) x q hb.1 (sym e))
still_differ m k n (Plus c p) (Num y) ha hb ne s e = eqb-false _ _ s (solve_num (slice_index k c) y p ha.1 e)
still_differ m k n (Plus c p) (Plus d q) ha hb ne s e = by (c == d) (nat_lt c d) refl s
  where
    by : (u t : Bool) → (c == d) ≡ u → SomeSaysSo m k (cond u None (cond t (Some (Differ (Plus c 0) (Plus d (wrap q (2 ^ 64 - p))))) (Some (Differ (Plus d 0) (Plus c (wrap p (2 ^ 64 - q))))))) → ⊥
    by true t i h =
        let same : c ≡ d = eqb-true c d i in
        let plus : p ≡ q = wrap_cancel_right (slice_index k c) p q ha.1 hb.1 (e ∙ ap (λ (j : ℕ). wrap (slice_index k j) q) (sym same)) in
        ne (λ j. Plus (same j) (plus j))
    by false true i h = eqb-false _ _ h (solve_sum (slice_index k c) (slice_index k d) p q ha.1 e)
    by false false i h = eqb-false _ _ h (solve_sum (slice_index k d) (slice_index k c) q p hb.1 (sym e))

module _ (cl : List Term) (roots settled : ℕ) (m : Arrays) (k : List ℕ) where
  apart_said : (y : Bool) (a b : Term) → IsTerm (length cl) a → IsTerm (length cl) b → (term_value a k == term_value b k) ≡ y → SomeSaysSo m k (apart_of roots y a b)
  apart_said true a b ha hb h = tt
  apart_said false a b ha hb h = by (within roots a && within roots b)
    where
      by : (c : Bool) → SomeSaysSo m k (cond c (difference a b) None)
      by true = difference_said m k (length cl) a b ha hb h
      by false = tt

  held_said : (v : ℕ) (ix : List Term) (t : Term) (y : Bool) → (m (record { var = v; index = map (λ u. term_value u k) ix }) == term_value t k) ≡ y → SomeSaysSo m k (held_of roots v ix t y)
  held_said v ix t y h = by (tied roots ix t)
    where
      by : (c : Bool) → SomeSaysSo m k (cond c (Some (Held v ix t y)) None)
      by true = h
      by false = tt

  -- by its classes, a state test asks this
  asks_so : (t : Test) → IsTest (length cl) t → IsPacket (length cl) k → Fits cl k → is_state t ≡ true
      → passes t m k ≡ (m (record { var = var_of t; index = map (λ u. term_value u k) (spot cl t) }) == term_value (normal cl (left_of t)) k)
  asks_so t test p fits st =
      let ix = index-values cl k (index_of t) p fits (index-atoms (length cl) t test) in
      let u = normal-value k cl (left_of t) fits (left-term (length cl) t test) in
      passes-state m k t st ∙ (λ i. m (record { var = var_of t; index = ix i }) == sym u i)

  known_said : (f : Fact) → All (IsClass cl) cl → IsTest (length cl) f.test → IsPacket (length cl) k → Fits cl k → passes f.test m k ≡ f.yes → SomeSaysSo m k (known cl roots settled f.test f.yes)
  known_said f classes test p fits h = by (is_state f.test) refl
    where
      held : is_state f.test ≡ true → (c : Bool) → SomeSaysSo m k (cond c None (held_of roots (var_of f.test) (spot cl f.test) (normal cl (left_of f.test)) f.yes))
      held st true = tt
      held st false = held_said (var_of f.test) (spot cl f.test) (normal cl (left_of f.test)) f.yes (sym (asks_so f.test test p fits st) ∙ h)

      by : (b : Bool) → is_state f.test ≡ b → SomeSaysSo m k (cond b (cond (has settled (var_of f.test)) None (held_of roots (var_of f.test) (spot cl f.test) (normal cl (left_of f.test)) f.yes)) (apart_of roots f.yes (normal cl (left_of f.test)) (normal cl (right_of f.test))))
      by true st = held st (has settled (var_of f.test))
      by false st = apart_said f.yes (normal cl (left_of f.test)) (normal cl (right_of f.test))
          (normal_term cl (left_of f.test) classes (left-term (length cl) f.test test)) (normal_term cl (right_of f.test) classes (right-term (length cl) f.test test)) (alone_says cl f m k test st p h fits)

  all_said : (facts : List Fact) → All (IsClass cl) cl → All (λ f. IsTest (length cl) f.test) facts → IsPacket (length cl) k → Fits cl k → All (λ f. passes f.test m k ≡ f.yes) facts → All (SaysSo m k) (all_known cl roots settled facts)
  all_said [] classes t p fits h = All-nil (SaysSo m k)
  all_said (f ∷ fs) classes t p fits h =
      with_said m k (known cl roots settled f.test f.yes) (all_known cl roots settled fs) (known_said f classes (t 0 f (omega arith)) p fits (h 0 f (omega arith)))
      (all_said fs classes (All-tail (λ f. IsTest (length cl) f.test) f fs t) p fits (All-tail (λ f. passes f.test m k ≡ f.yes) f fs h))

  each_said : (facts : List Fact) → All (SaysSo m k) (all_known cl roots settled facts) → All (λ f. SomeSaysSo m k (known cl roots settled f.test f.yes)) facts
  each_said [] h = All-nil (λ f. SomeSaysSo m k (known cl roots settled f.test f.yes))
  each_said (f ∷ fs) h =
      let p = parts_said m k (known cl roots settled f.test f.yes) (all_known cl roots settled fs) h in
      All-cons (λ f. SomeSaysSo m k (known cl roots settled f.test f.yes)) f fs p.0 (each_said fs p.1)

pub over_array : (comps arrays : ℕ) (t : Test) → TestOver comps arrays t → is_state t ≡ true → IsAmong arrays (var_of t)
over_array comps arrays (Value c n) o st = absurd (cc)
over_array comps arrays (Equal l r q) o st = absurd (cc)
over_array comps arrays (State v ix t) o st = o.0

pub over_atoms : (comps arrays : ℕ) (t : Test) → TestOver comps arrays t → All (AtomOver comps) (index_of t)
over_atoms comps arrays (Value c n) o = All-nil (AtomOver comps)
over_atoms comps arrays (Equal l r q) o = All-nil (AtomOver comps)
over_atoms comps arrays (State v ix t) o = o.1

says_from : (y : Bool) (a b : ℕ) → (a == b) ≡ y → Says y (Num a) (Num b)
says_from true a b e = ap Num (eqb-true a b e)
says_from false a b e = λ h. eqb-false a b e (let g : a ≡ b = cc in g)

-- a state fact of which the new classes leave only numbers, as they are on a store and a packet
record IsSolid (new : List Term) (settled : ℕ) (m : Arrays) (f : Fact) : Type 0 where
  numbers : List ℕ
  number : ℕ
  free : has settled (var_of f.test) ≡ false
  index : spot new f.test ≡ map Num numbers
  term : normal new (left_of f.test) ≡ Num number
  holds : (m (record { var = var_of f.test; index = numbers }) == number) ≡ f.yes

-- one that they leave as it is, at a place that isn't known
record IsUntied (cl new : List Term) (settled : ℕ) (f : Fact) : Type 0 where
  free : has settled (var_of f.test) ≡ false
  root : not (are_numbers (spot cl f.test)) ≡ true
  index : spot new f.test ≡ spot cl f.test
  term : normal new (left_of f.test) ≡ normal cl (left_of f.test)

-- one of a settled array
record IsCalm (cl new : List Term) (settled : ℕ) (f : Fact) : Type 0 where
  still : has settled (var_of f.test) ≡ true
  term : normal new (left_of f.test) ≡ normal cl (left_of f.test)

data Sort (cl new : List Term) (settled : ℕ) (m : Arrays) (f : Fact) : Type 0 where
  solid : IsSolid new settled m f → Sort cl new settled m f
  untied : IsUntied cl new settled f → Sort cl new settled m f
  calm : IsCalm cl new settled f → Sort cl new settled m f

module _ (cl new : List Term) (settled : ℕ) (m : Arrays) where
  solids : (f g : Fact) → IsSolid new settled m f → IsSolid new settled m g → PairRule new f g
  solids f g a b y same = rw (a.term, b.term) (says_from g.yes a.number b.number held)
    where
      names : (xs ys : List ℕ) → map Num xs ≡ map Num ys → xs ≡ ys
      names [] [] e = refl
      names [] (y ∷ ys) e = absurd (cc)
      names (x ∷ xs) [] e = absurd (cc)
      names (x ∷ xs) (y ∷ ys) e = (let h : x ≡ y = cc in let t : map Num xs ≡ map Num ys = cc in let i = names xs ys t in (λ j. h j ∷ i j))

      index : a.numbers ≡ b.numbers
      index = names a.numbers b.numbers (sym a.index ∙ (same.index ∙ b.index))

      number : m (record { var = var_of f.test; index = a.numbers }) ≡ a.number
      number = eqb-true _ _ (a.holds ∙ y)

      held : (a.number == b.number) ≡ g.yes
      held = (λ i. sym number i == b.number) ∙ ((λ i. m (record { var = same.var i; index = index i }) == b.number) ∙ b.holds)

  not_solid : (f g : Fact) → IsSolid new settled m f → IsUntied cl new settled g → spot new f.test ≡ spot new g.test → ⊥
  not_solid f g a b e = absurd (let h : not true ≡ true = sym (ap (λ (xs : List Term). not (are_numbers xs)) (sym b.index ∙ (sym e ∙ a.index)) ∙ ap not (all_numbers a.numbers)) ∙ b.root in cc)

  calm_apart : (f g : Fact) → has settled (var_of f.test) ≡ true → has settled (var_of g.test) ≡ false → var_of f.test ≡ var_of g.test → ⊥
  calm_apart f g a b e = both_ways _ b (subst (λ (v : ℕ). has settled v ≡ true) e a)

  -- a place that two settled facts of one array have in common
  abbrev Beside : Fact → Fact → Type 0
  Beside f g = has settled (var_of f.test) ≡ true → is_state f.test ≡ true → is_state g.test ≡ true → var_of f.test ≡ var_of g.test → spot cl f.test ≡ spot cl g.test

  old_rule : (f g : Fact) → PairRule cl f g → normal new (left_of f.test) ≡ normal cl (left_of f.test) → normal new (left_of g.test) ≡ normal cl (left_of g.test)
      → (SamePlace new f.test g.test → spot cl f.test ≡ spot cl g.test) → PairRule new f g
  old_rule f g old tf tg same y place = rw (tf, tg) (old y (record { first = place.first; second = place.second; var = place.var; index = same place }))

  pair_rule : (f g : Fact) → Sort cl new settled m f → Sort cl new settled m g → PairRule cl f g → Beside f g → PairRule new f g
  pair_rule f g (solid a) (solid b) old beside = solids f g a b
  pair_rule f g (solid a) (untied b) old beside = λ y same. absurd (not_solid f g a b same.index)
  pair_rule f g (solid a) (calm b) old beside = λ y same. absurd (calm_apart g f b.still a.free (sym same.var))
  pair_rule f g (untied a) (solid b) old beside = λ y same. absurd (not_solid g f b a (sym same.index))
  pair_rule f g (untied a) (untied b) old beside = old_rule f g old a.term b.term (λ same. sym a.index ∙ (same.index ∙ b.index))
  pair_rule f g (untied a) (calm b) old beside = λ y same. absurd (calm_apart g f b.still a.free (sym same.var))
  pair_rule f g (calm a) (solid b) old beside = λ y same. absurd (calm_apart f g a.still b.free same.var)
  pair_rule f g (calm a) (untied b) old beside = λ y same. absurd (calm_apart f g a.still b.free same.var)
  pair_rule f g (calm a) (calm b) old beside = old_rule f g old a.term b.term (λ same. beside a.still same.first same.second same.var)

  solid_second : (f g : Fact) → Sort cl new settled m f → IsSolid new settled m g → PairRule new f g
  solid_second f g (solid a) b = solids f g a b
  solid_second f g (untied a) b = λ y same. absurd (not_solid g f b a (sym same.index))
  solid_second f g (calm a) b = λ y same. absurd (calm_apart f g a.still b.free same.var)

  solid_first : (f g : Fact) → IsSolid new settled m f → Sort cl new settled m g → PairRule new f g
  solid_first f g a (solid b) = solids f g a b
  solid_first f g a (untied b) = λ y same. absurd (not_solid f g a b same.index)
  solid_first f g a (calm b) = λ y same. absurd (calm_apart g f b.still a.free (sym same.var))

-- ---- beside a store and a packet on which all that is known holds
number_pinned : (roots : ℕ) (k : List ℕ) (t : Term) → is_number t ≡ true → pinned roots k t ≡ t
number_pinned roots k (Num n) h = refl
number_pinned roots k (Plus r p) h = absurd (cc)

module _ (w : View) (comps arrays : ℕ) (key : List ℕ) (is : IsSpelled w comps arrays key) (ctx : IsContext w) (m : Arrays) (k : List ℕ) (p : IsPacket (length w.classes) k)
    (said : All (SaysSo m k) (all_known w.classes is.roots is.settled w.facts))
    (fits : (c : ℕ) → c < length w.classes → has comps c ≡ true → term_value (class_of w.classes c) k ≡ term_value (Plus c 0) k) where
  abbrev new : List Term
  new = map (pinned is.roots k) w.classes

  abbrev known_by : Fact → Option Normal
  known_by f = known w.classes is.roots is.settled f.test f.yes

  -- facts of the context
  held_is : (f : Fact) → is_state f.test ≡ true → has is.settled (var_of f.test) ≡ false → tied is.roots (spot w.classes f.test) (normal w.classes (left_of f.test)) ≡ true
      → known_by f ≡ Some (Held (var_of f.test) (spot w.classes f.test) (normal w.classes (left_of f.test)) f.yes)
  held_is f st fr wi = cond-true (is_state f.test) _ _ st ∙ (cond-false (has is.settled (var_of f.test)) _ _ fr ∙ cond-true _ _ _ wi)

  sort_free : (f : Fact) → IsTest (length w.classes) f.test → SomeSaysSo m k (known_by f) → is_state f.test ≡ true → has is.settled (var_of f.test) ≡ false
      → (tied is.roots (spot w.classes f.test) (normal w.classes (left_of f.test)) ≡ true) ⊎ (loose is.roots (spot w.classes f.test) (normal w.classes (left_of f.test)) ≡ true) → Sort w.classes new is.settled m f
  sort_free f test so st fr (inl wi) =
      let parts = and_parts (are_within is.roots (spot w.classes f.test)) (within is.roots (normal w.classes (left_of f.test))) wi in
      solid (record {
        numbers = map (λ u. term_value u k) (spot w.classes f.test);
        number = term_value (normal w.classes (left_of f.test)) k;
        free = fr;
        index = index-pinned is.roots k w.classes (index_of f.test) (index-atoms (length w.classes) f.test test) ∙ index_within is.roots k (spot w.classes f.test) parts.0;
        term = normal-pinned is.roots k w.classes (left_of f.test) (left-term (length w.classes) f.test test) ∙ pinned_within is.roots k (normal w.classes (left_of f.test)) parts.1;
        holds = subst (SomeSaysSo m k) (held_is f st fr wi) so;
      })
  sort_free f test so st fr (inr lo) =
      let first = and_parts (not (are_numbers (spot w.classes f.test))) (are_outside is.roots (spot w.classes f.test) && outside is.roots (normal w.classes (left_of f.test))) lo in
      let parts = and_parts (are_outside is.roots (spot w.classes f.test)) (outside is.roots (normal w.classes (left_of f.test))) first.1 in
      untied (record {
        free = fr;
        root = first.0;
        index = index-pinned is.roots k w.classes (index_of f.test) (index-atoms (length w.classes) f.test test) ∙ index_outside is.roots k (spot w.classes f.test) parts.0;
        term = normal-pinned is.roots k w.classes (left_of f.test) (left-term (length w.classes) f.test test) ∙ pinned_outside is.roots k (normal w.classes (left_of f.test)) parts.1;
      })

  sort_of : (f : Fact) → IsTest (length w.classes) f.test → IsRooted w.classes is.roots is.settled f → SomeSaysSo m k (known_by f) → (has is.settled (var_of f.test) ≡ true → is_state f.test ≡ true → is_number (normal w.classes (left_of f.test)) ≡ true)
      → is_state f.test ≡ true → Sort w.classes new is.settled m f
  sort_of f test rooted so num st = elim (cases_Bool (has is.settled (var_of f.test))) [
    | inl se ↦ calm (record { still = se; term = normal-pinned is.roots k w.classes (left_of f.test) (left-term (length w.classes) f.test test) ∙ number_pinned is.roots k (normal w.classes (left_of f.test)) (num se st) })
    | inr fr ↦ sort_free f test so st fr (rooted st fr)
  ]

  alone_of : (f : Fact) → IsTest (length w.classes) f.test → SomeSaysSo m k (known_by f) → FactRule w.classes f → FactRule new f
  alone_of f test so old st =
      rw (normal-pinned is.roots k w.classes (left_of f.test) (left-term (length w.classes) f.test test), normal-pinned is.roots k w.classes (right_of f.test) (right-term (length w.classes) f.test test))
      (by f.yes refl (old st) (subst (SomeSaysSo m k) (cond-false (is_state f.test) _ _ st) so))
    where
      a : Term
      a = normal w.classes (left_of f.test)

      b : Term
      b = normal w.classes (right_of f.test)

      values : a ≢ b → SomeSaysSo m k (apart_of is.roots false a b) → within is.roots a ≡ true → within is.roots b ≡ true → term_value a k ≢ term_value b k
      values ne s x y =
          still_differ m k (length w.classes) a b
          (normal_term w.classes (left_of f.test) ctx.rules.classes (left-term (length w.classes) f.test test)) (normal_term w.classes (right_of f.test) ctx.rules.classes (right-term (length w.classes) f.test test))
          ne (subst (SomeSaysSo m k) (λ i. cond (x i && y i) (difference a b) None) s)

      by : (y : Bool) → f.yes ≡ y → Says y a b → SomeSaysSo m k (apart_of is.roots y a b) → Says y (pinned is.roots k a) (pinned is.roots k b)
      by true e s h = ap (pinned is.roots k) s
      by false e s h = still_apart is.roots k a b s (values s h)

  -- facts about the components and arrays
  over_atom : (a : Atom) → IsAtom (length w.classes) a → AtomOver comps a → atom_class new a ≡ Num (value_of a k)
  over_atom (Number n) h o = refl
  over_atom (Comp c) h o =
      let small : slice_index k c < 2 ^ 64 = p.numbers c 0 (rw p.long h) in
      let in' : has comps c ≡ true = o (let f = ctx.few in omega (arith, h, f)) in
      class_of-pinned is.roots k w.classes c h ∙ (pinned_within is.roots k (class_of w.classes c) (is.classes c h in') ∙ ap Num (fits c h in' ∙ wrap_zero (slice_index k c) small))

  over_index : (ix : List Atom) → All (IsAtom (length w.classes)) ix → All (AtomOver comps) ix → map (atom_class new) ix ≡ map Num (map (λ z. value_of z k) ix)
  over_index [] h o = refl
  over_index (a ∷ ix) h o =
      let x = over_atom a (h 0 a (omega arith)) (o 0 a (omega arith)) in
      let y = over_index ix (All-tail (IsAtom (length w.classes)) a ix h) (All-tail (AtomOver comps) a ix o) in (λ i. x i ∷ y i)

  over_term : (t : Term) → IsTerm (length w.classes) t → TermOver comps t → normal new t ≡ Num (term_value t k)
  over_term (Num n) h o = refl
  over_term (Plus c q) h o = ap (λ t. shift t q) (over_atom (Comp c) h.0 o)

  over_left : (t : Test) → IsTest (length w.classes) t → TestOver comps arrays t → normal new (left_of t) ≡ Num (term_value (left_of t) k)
  over_left (Value c n) h o = over_term (Plus c 0) (h.0, omega arith) o
  over_left (Equal l r q) h o = over_term (Plus l 0) (h.0, omega arith) o.0
  over_left (State v ix t) h o = over_term t h.2 o.2

  over_right : (t : Test) → IsTest (length w.classes) t → TestOver comps arrays t → is_state t ≡ false → normal new (right_of t) ≡ Num (term_value (right_of t) k)
  over_right (Value c n) h o st = refl
  over_right (Equal l r q) h o st = over_term (Plus r q) (h.1, h.2) o.1
  over_right (State v ix t) h o st = absurd (cc)

  over_solid : (f : Fact) → IsTest (length w.classes) f.test → TestOver comps arrays f.test → passes f.test m k ≡ f.yes → is_state f.test ≡ true → IsSolid new is.settled m f
  over_solid f test o h st = record {
    numbers = map (λ z. value_of z k) (index_of f.test);
    number = term_value (left_of f.test) k;
    free = elim (cases_Bool (has is.settled (var_of f.test))) [ inl se ↦ let q = is.calm (var_of f.test) se in absurd (both_ways _ q.1 (over_array comps arrays f.test o st q.0)) | inr fr ↦ fr ];
    index = over_index (index_of f.test) (index-atoms (length w.classes) f.test test) (over_atoms comps arrays f.test o);
    term = over_left f.test test o;
    holds = sym (passes-state m k f.test st) ∙ h;
  }

  over_alone : (f : Fact) → IsTest (length w.classes) f.test → TestOver comps arrays f.test → passes f.test m k ≡ f.yes → FactRule new f
  over_alone f test o h st =
      rw (over_left f.test test o, over_right f.test test o st)
      (says_from f.yes (term_value (left_of f.test) k) (term_value (right_of f.test) k) (sym (passes-alone (length w.classes) m k f.test p test st) ∙ h))

  -- all rules of both
  facts_said : All (λ f. SomeSaysSo m k (known_by f)) w.facts
  facts_said = each_said w.classes is.roots is.settled m k w.facts said

  sorted : (i : ℕ) (d : Fact) → i < length w.facts → is_state (get_or w.facts i d).test ≡ true → Sort w.classes new is.settled m (get_or w.facts i d)
  sorted i d l st = sort_of (get_or w.facts i d) (ctx.rules.tests i d l) (is.facts i d l) (facts_said i d l)
      (λ se so. ((is.calm (var_of (get_or w.facts i d).test) se).2.all i d l so refl).1) st

  beside : (i : ℕ) (d : Fact) (j : ℕ) (e : Fact) → i < length w.facts → j < length w.facts → Beside w.classes new is.settled m (get_or w.facts i d) (get_or w.facts j e)
  beside i d j e l n = λ se sf sg var.
      let c = (is.calm (var_of (get_or w.facts i d).test) se).2 in
      (c.all i d l sf refl).0 ∙ sym (c.all j e n sg (sym var)).0

  module _ (path : List Fact) (tests : All (λ f. IsTest (length w.classes) f.test) path) (over : All (λ f. TestOver comps arrays f.test) path) (met : Meets path m k) where
    of_path : (i : ℕ) (d : Fact) → i < length path → is_state (get_or path i d).test ≡ true → IsSolid new is.settled m (get_or path i d)
    of_path i d l st = over_solid (get_or path i d) (tests i d l) (over i d l) (met i d l) st

    state_first : (f g : Fact) → (is_state f.test ≡ true → is_state g.test ≡ true → PairRule new f g) → PairRule new f g
    state_first f g h y same = h same.first same.second y same

    rules : Rules (w.facts ++ path) new
    rules = record {
      tests = rw length-map (All-append (λ f. IsTest (length w.classes) f.test) w.facts path ctx.rules.tests tests);
      classes = classes_pinned is.roots k w.classes ctx.rules.classes;
      alone = All-append (FactRule new) w.facts path
          (λ i d l. alone_of (get_or w.facts i d) (ctx.rules.tests i d l) (facts_said i d l) (ctx.rules.alone i d l))
          (λ i d l. over_alone (get_or path i d) (tests i d l) (over i d l) (met i d l));
      paired = All-append (λ f. All (PairRule new f) (w.facts ++ path)) w.facts path
          (λ i d l. All-append (PairRule new (get_or w.facts i d)) w.facts path
          (λ j e n. state_first (get_or w.facts i d) (get_or w.facts j e) (λ sf sg. pair_rule w.classes new is.settled m (get_or w.facts i d) (get_or w.facts j e) (sorted i d l sf) (sorted j e n sg) (ctx.rules.paired i d l j e n) (beside i d j e l n)))
          (λ j e n. state_first (get_or w.facts i d) (get_or path j e) (λ sf sg. solid_second w.classes new is.settled m (get_or w.facts i d) (get_or path j e) (sorted i d l sf) (of_path j e n sg))))
          (λ i d l. All-append (PairRule new (get_or path i d)) w.facts path
          (λ j e n. state_first (get_or path i d) (get_or w.facts j e) (λ sf sg. solid_first w.classes new is.settled m (get_or path i d) (get_or w.facts j e) (of_path i d l sf) (sorted j e n sg)))
          (λ j e n. state_first (get_or path i d) (get_or path j e) (λ sf sg. solids w.classes new is.settled m (get_or path i d) (get_or path j e) (of_path i d l sf) (of_path j e n sg))));
    }

    met_there : length (w.facts ++ path) ≤ 2 ^ 32 → IsMet (length w.classes) (w.facts ++ path)
    met_there short = subst (λ (n : ℕ). IsMet n (w.facts ++ path)) (length-map w.classes (pinned is.roots k)) (model (w.facts ++ path) new rules (rw length-map ctx.few) short)

-- what holds of each fact of a list holds of each of one with the same facts
all_same : (P : Normal → Type 0) (ns os : List Normal) → AreSame ns os → All P os → All P ns
all_same P ns os same h = λ i d l. All-contains P os (get_or ns i d) h ((same (get_or ns i d)).0 (Contains-get_or ns i d l))

-- beside contexts of which the same is known, the same facts about the components and arrays are met
spelled_alike : (v w : View) (comps arrays : ℕ) (key : List ℕ) → IsContext v → IsContext w → length v.classes ≡ length w.classes → IsSpelled v comps arrays key → IsSpelled w comps arrays key
    → (m : Arrays) (k : List ℕ) → IsPacket (length v.classes) k → Meets v.facts m k → (path : List Fact) → All (λ f. IsTest (length w.classes) f.test) path → All (λ f. TestOver comps arrays f.test) path → Meets path m k
    → length (w.facts ++ path) ≤ 2 ^ 32 → IsMet (length w.classes) (w.facts ++ path)
spelled_alike v w comps arrays key cv cw count kv kw m k p facts path tests over met short =
    let both = same_classes comps 0 v.classes w.classes (normals_key kv.told) (normals_key kw.told) count (sym kv.is ∙ kw.is) in
    let normals = same_normals kv.told kw.told both.1 in
    let told = cv.told m k p facts in
    let all_of_v : All (SaysSo m k) (all_known v.classes kv.roots kv.settled v.facts)
    = all_said v.classes kv.roots kv.settled m k v.facts cv.rules.classes cv.rules.tests p told facts in
    let of_key : All (SaysSo m k) kw.told = subst (λ (ns : List Normal). All (SaysSo m k) ns) normals (all_same (SaysSo m k) kv.told (all_known v.classes kv.roots kv.settled v.facts) kv.same all_of_v) in
    let said : All (SaysSo m k) (all_known w.classes kw.roots kw.settled w.facts)
    = all_same (SaysSo m k) (all_known w.classes kw.roots kw.settled w.facts) kw.told (λ n. ((kw.same n).1, (kw.same n).0)) of_key in
    met_there w comps arrays key kw cw m k (record { long = p.long ∙ count; numbers = p.numbers }) said
    (λ c l h. ap (λ t. term_value t k) (sym (both.0 c (Plus c 0) (rw count l) (subst (λ (n : ℕ). has comps n ≡ true) (let e : c ≡ 0 + c = omega arith in e) h))) ∙ told c (rw count l))
    path tests over met short

-- the law: whatever the classes are called
pub known_alike : (v w : View) (comps arrays : ℕ) (key : List ℕ) → IsContext v → IsContext w → length v.classes ≡ length w.classes → IsKnown v comps arrays key → IsKnown w comps arrays key
    → (m : Arrays) (k : List ℕ) → IsPacket (length v.classes) k → Meets v.facts m k → (path : List Fact) → All (λ f. IsTest (length w.classes) f.test) path → All (λ f. TestOver comps arrays f.test) path → Meets path m k
    → length (w.facts ++ path) ≤ 2 ^ 32 → IsMet (length w.classes) (w.facts ++ path)
known_alike v w comps arrays key cv cw count kv kw m k p facts path tests over met short =
    let ev = kv.named.0 in
    let ew = kw.named.0 in
    subst (λ (n : ℕ). IsMet n (w.facts ++ path)) ew
    (spelled_alike (record { facts = v.facts; classes = kv.classes }) (record { facts = w.facts; classes = kw.classes }) comps arrays key
    (kv.named.1 v.facts cv) (kw.named.1 w.facts cw) (ev ∙ count ∙ sym ew) kv.spelled kw.spelled
    m k (record { long = p.long ∙ sym ev; numbers = p.numbers }) facts path
    (subst (λ (n : ℕ). All (λ f. IsTest n f.test) path) (sym ew) tests) over met short)

-- Facts of numbers that don't contradict each other have a model.
use Rattle.std.proofs.Common.{◌≡◌, ◌≢◌, inl, inr, ℕ, ◌<◌, ◌≤◌, ◌^◌, Bool, true, false, cond, List, [], ◌∷◌, length, map, get_or, Option, Some, None, refl, sym, ap, subst, ◌∙◌, arith}
use Rattle.std.specs.Prelude.{◌==◌, All, if◌then◌else◌, slice_get, slice_index_or}
use Rattle.std.specs.List.{range_with_len}
use Rattle.std.proofs.lemmas.Bool.{eqb-true, eqb-false}
use Rattle.std.proofs.lemmas.List.{length-map, get_or-map}
use Rattle.std.proofs.lemmas.List.FromFn.{get_or-map-range_with_len, length-map-range_with_len}
use Rattle.std.proofs.lemmas.List.Elements.{All-tail}
use Rattle.snap_context.proofs.Wrap.{wrap_zero}
use Rattle.snap_core.specs.declared.policy.Atom.{Atom}
use Rattle.snap_core.specs.declared.policy.Atom.TheVariants.{Num as Number, Comp}
use Rattle.snap_core.specs.declared.policy.Term.{Term}
use Rattle.snap_core.specs.declared.policy.Term.TheVariants.{Num, Plus}
use Rattle.snap_core.specs.declared.policy.Test.{Test}
use Rattle.snap_core.specs.declared.policy.Test.TheVariants.{Value, Equal, State}
use Rattle.snap_core.specs.Arrays.{has}
use Rattle.snap_context.specs.declared.fact.Fact.{Fact}
use Rattle.snap_context.specs.Meets.{IsMet}
use Rattle.snap_context.specs.Classes.{shift, class_of, normal, atom_class, IsAtom, IsTest, IsClass, Says, FactRule, PairRule, Rules, is_state, left_of, right_of, var_of, index_of}
use Rattle.snap_context.specs.Lean.{Among}
use Rattle.snap_context.proofs.Among.{all_among}
use Rattle.snap_context.proofs.Model.{model}
use Rattle.snap_diagrams.specs.declared.survey.Seen.{Seen}
use Rattle.snap_diagrams.specs.declared.survey.Seen.TheVariants.{Few, Many}
use Rattle.snap_diagrams.specs.declared.survey.Survey.{Survey}
use Rattle.snap_diagrams.specs.Quiet.{AtomIsFree, IndexIsFine, IsClear, IsFine, SameSubject}
use Rattle.snap_core.specs.Terms.{IsNumber}
use Rattle.snap_diagrams.specs.Spots.{AtomsApart, IndicesApart}
use Rattle.snap_diagrams.proofs.Spotted.{BothAsked, ClearAt, clear_at, one_or_apart}

-- ---- facts that don't contradict each other
abbrev pub number_of : Test → Term
number_of (Value c n) = Num n
number_of (Equal l r p) = Num 0
number_of (State v ix t) = t

-- what a subject is, the other fact agrees with
abbrev pub Agree : Fact → Fact → Type 0
Agree f g = f.yes ≡ true → SameSubject f.test g.test → Says g.yes (number_of f.test) (number_of g.test)

pub record IsConsistent (comps : ℕ) (s : Survey) (facts : List Fact) : Type 0 where
  pub tests : (f : Fact) → Among f facts → IsTest comps f.test
  pub fine : (f : Fact) → Among f facts → IsFine s f.test
  pub agree : (f g : Fact) → Among f facts → Among g facts → Agree f g

-- ---- the number that the facts give a component
abbrev told_by : Test → Bool → ℕ → Option ℕ → Option ℕ
told_by (Value d n) true c rest = if d == c then Some n else rest
told_by (Value d n) false c rest = rest
told_by (Equal l r p) y c rest = rest
told_by (State v ix t) y c rest = rest

abbrev number_at : List Fact → ℕ → Option ℕ
number_at [] c = None
number_at (f ∷ fs) c = told_by f.test f.yes c (number_at fs c)

-- a fact that gives it
record IsSaid (facts : List Fact) (c n : ℕ) : Type 0 where
  fact : Fact
  among : Among fact facts
  test : fact.test ≡ Value c n
  yes : fact.yes ≡ true

said_later : (f : Fact) (fs : List Fact) (c n : ℕ) → IsSaid fs c n → IsSaid (f ∷ fs) c n
said_later f fs c n s = record { fact = s.fact; among = inr s.among; test = s.test; yes = s.yes }

said : (facts : List Fact) (c n : ℕ) → number_at facts c ≡ Some n → IsSaid facts c n
said [] c n e = absurd (cc)
said (f ∷ fs) c n e = by (λ r. said_later f fs c n (said fs c n r)) f.test f.yes refl refl e
  where
    first : (number_at fs c ≡ Some n → IsSaid (f ∷ fs) c n) → (d o : ℕ) (b : Bool) → (d == c) ≡ b → f.test ≡ Value d o → f.yes ≡ true → cond b (Some o) (number_at fs c) ≡ Some n → IsSaid (f ∷ fs) c n
    first l d o true same t y r =
        let at : d ≡ c = eqb-true d c same in
        let num : o ≡ n = cc in
        record { fact = f; among = inl refl; test = t ∙ (λ i. Value (at i) (num i)); yes = y }
    first l d o false same t y r = l r

    by : (number_at fs c ≡ Some n → IsSaid (f ∷ fs) c n) → (t : Test) (y : Bool) → f.test ≡ t → f.yes ≡ y → told_by t y c (number_at fs c) ≡ Some n → IsSaid (f ∷ fs) c n
    by l (Value d o) true et ey r = first l d o (d == c) refl et ey r
    by l (Value d o) false et ey r = l r
    by l (Equal a b p) y et ey r = l r
    by l (State v ix u) y et ey r = l r

told_itself : (c n : ℕ) (rest : Option ℕ) (b : Bool) → (c == c) ≡ b → cond b (Some n) rest ≡ None → ⊥
told_itself c n rest true h r = absurd (cc)
told_itself c n rest false h r = eqb-false c c h refl

told_other : (t : Test) (y : Bool) (c : ℕ) (rest : Option ℕ) → told_by t y c rest ≡ None → rest ≡ None
told_other (Value d o) true c rest r = by (d == c) r
  where
    by : (b : Bool) → cond b (Some o) rest ≡ None → rest ≡ None
    by true q = absurd (cc)
    by false q = q
told_other (Value d o) false c rest r = r
told_other (Equal a b p) y c rest r = r
told_other (State v ix u) y c rest r = r

-- the facts give none where no one does
unsaid : (facts : List Fact) (c n : ℕ) (f : Fact) → number_at facts c ≡ None → Among f facts → f.test ≡ Value c n → f.yes ≡ true → ⊥
unsaid [] c n f e a t y = absurd a
unsaid (g ∷ gs) c n f e (inl same) t y =
    let test : g.test ≡ Value c n = ap (λ (h : Fact). h.test) (sym same) ∙ t in
    let passed : g.yes ≡ true = ap (λ (h : Fact). h.yes) (sym same) ∙ y in
    let r : told_by (Value c n) true c (number_at gs c) ≡ None = sym (λ i. told_by (test i) (passed i) c (number_at gs c)) ∙ e in
    told_itself c n (number_at gs c) (c == c) refl r
unsaid (g ∷ gs) c n f e (inr a) t y = unsaid gs c n f (told_other g.test g.yes c (number_at gs c) e) a t y

-- ---- classes that say so
abbrev class_by : Option ℕ → ℕ → Term
class_by (Some n) c = Num n
class_by None c = Plus c 0

abbrev pub classes_by : List Fact → ℕ → List Term
classes_by facts comps = map (λ c. class_by (number_at facts c) c) (range_with_len 0 comps)

pub classes_length : (facts : List Fact) (comps : ℕ) → length (classes_by facts comps) ≡ comps
classes_length facts comps = length-map-range_with_len (λ c. class_by (number_at facts c) c) 0 comps

class_at : (facts : List Fact) (comps c : ℕ) (d : Term) → c < comps → slice_index_or (classes_by facts comps) c d ≡ class_by (number_at facts c) c
class_at facts comps c d l = get_or-map-range_with_len (λ c. class_by (number_at facts c) c) 0 comps c c d l (omega arith)

-- what a fact says of its component's class
value_says : (y : Bool) (c n : ℕ) (o : Option ℕ) → (o ≡ None → y ≡ true → ⊥) → ((m : ℕ) → o ≡ Some m → Says y (Num m) (Num n)) → ((m : ℕ) → o ≡ Some m → m < 2 ^ 64) → Says y (shift (class_by o c) 0) (Num n)
value_says true c n (Some m) none some small = rw (wrap_zero m (small m refl)) (some m refl)
value_says false c n (Some m) none some small = λ e. some m refl (let w = wrap_zero m (small m refl) in cc)
value_says true c n None none some small = absurd (none refl refl)
value_says false c n None none some small = λ e. absurd (cc)

module _ (comps : ℕ) (s : Survey) (clear : IsClear s) (facts : List Fact) (consistent : IsConsistent comps s facts) where
  -- a given number has 64 bits, and each fact on the component agrees with it
  given_small : (c n : ℕ) → number_at facts c ≡ Some n → n < 2 ^ 64
  given_small c n e =
      let w = said facts c n e in
      let t : IsTest comps (Value c n) = subst (IsTest comps) w.test (consistent.tests w.fact w.among) in
      t.1

  agrees : (f : Fact) (c n o : ℕ) → number_at facts c ≡ Some n → Among f facts → f.test ≡ Value c o → Says f.yes (Num n) (Num o)
  agrees f c n o e a t =
      let w = said facts c n e in
      let same : SameSubject w.fact.test f.test = rw (w.test, t) refl in
      let g : Says f.yes (number_of w.fact.test) (number_of f.test) = consistent.agree w.fact f w.among a w.yes same in
      rw (w.test, t) at g

  alone : (f : Fact) → Among f facts → FactRule (classes_by facts comps) f
  alone f a = by f.test refl
    where
      by : (t : Test) → f.test ≡ t → FactRule (classes_by facts comps) f
      by (Value c n) e = λ i.
          let t : IsTest comps (Value c n) = subst (IsTest comps) e (consistent.tests f a) in
          let k : class_of (classes_by facts comps) c ≡ class_by (number_at facts c) c = class_at facts comps c (Plus c 0) t.0 in
          let says : Says f.yes (shift (class_by (number_at facts c) c) 0) (Num n)
          = value_says f.yes c n (number_at facts c) (λ o y. unsaid facts c n f o a e y) (λ m o. agrees f c m n o a e) (λ m o. given_small c m o) in
          subst (λ (t : Test). Says f.yes (normal (classes_by facts comps) (left_of t)) (normal (classes_by facts comps) (right_of t))) (sym e)
          (subst (λ (x : Term). Says f.yes (shift x 0) (Num n)) (sym k) says)
      by (Equal l r p) e = absurd (subst (IsFine s) e (consistent.fine f a))
      by (State v ix u) e = λ i. absurd (let j : is_state (State v ix u) ≡ false = ap is_state (sym e) ∙ i in cc)

  -- a free component is no number
  free_class : (c : ℕ) → c < comps → has s.values c ≡ false → class_of (classes_by facts comps) c ≡ Plus c 0
  free_class c l free = class_at facts comps c (Plus c 0) l ∙ by (number_at facts c) refl
    where
      by : (o : Option ℕ) → number_at facts c ≡ o → class_by o c ≡ Plus c 0
      by None e = refl
      by (Some n) e = absurd (
          let w = said facts c n e in
          let fine : IsFine s (Value c n) = subst (IsFine s) w.test (consistent.fine w.fact w.among) in
          let yes = fine.1 in cc)

  atoms_apart : (ix iy : List Atom) → All (IsAtom comps) ix → All (IsAtom comps) iy → All (AtomIsFree s) ix → All (AtomIsFree s) iy
      → map (atom_class (classes_by facts comps)) ix ≡ map (atom_class (classes_by facts comps)) iy → ix ≡ iy
  atoms_apart [] [] ax ay fx fy e = refl
  atoms_apart [] (y ∷ iy) ax ay fx fy e = absurd (cc)
  atoms_apart (x ∷ ix) [] ax ay fx fy e = absurd (cc)
  atoms_apart (x ∷ ix) (y ∷ iy) ax ay fx fy e =
      let first : atom_class (classes_by facts comps) x ≡ atom_class (classes_by facts comps) y = cc in
      let rest : map (atom_class (classes_by facts comps)) ix ≡ map (atom_class (classes_by facts comps)) iy = cc in
      let here : x ≡ y = atom_apart x y (ax 0 x (omega arith)) (ay 0 y (omega arith)) (fx 0 x (omega arith)) (fy 0 y (omega arith)) first in
      let i = atoms_apart ix iy (All-tail (IsAtom comps) x ix ax) (All-tail (IsAtom comps) y iy ay) (All-tail (AtomIsFree s) x ix fx) (All-tail (AtomIsFree s) y iy fy) rest in
      (λ j. here j ∷ i j)
    where
      atom_apart : (x y : Atom) → IsAtom comps x → IsAtom comps y → AtomIsFree s x → AtomIsFree s y → atom_class (classes_by facts comps) x ≡ atom_class (classes_by facts comps) y → x ≡ y
      atom_apart (Number n) (Number o) ax ay fx fy e = (let h : n ≡ o = cc in ap Number h)
      atom_apart (Number n) (Comp d) ax ay fx fy e = absurd (let k = free_class d ay fy in cc)
      atom_apart (Comp c) (Number o) ax ay fx fy e = absurd (let k = free_class c ax fx in cc)
      atom_apart (Comp c) (Comp d) ax ay fx fy e = (let k = free_class c ax fx in let l = free_class d ay fy in let h : c ≡ d = cc in ap Comp h)

  -- atoms that are apart have different classes
  free_apart : (c d : ℕ) → c < comps → d < comps → c ≢ d → has s.values c ≡ false → class_of (classes_by facts comps) c ≡ class_of (classes_by facts comps) d → ⊥
  free_apart c d l m differ free e = by (number_at facts d) refl
    where
      same : Plus c 0 ≡ class_by (number_at facts d) d
      same = sym (free_class c l free) ∙ (e ∙ class_at facts comps d (Plus d 0) m)

      by : (o : Option ℕ) → number_at facts d ≡ o → ⊥
      by None h = (let k : Plus c 0 ≡ Plus d 0 = same ∙ ap (λ (o : Option ℕ). class_by o d) h in differ (cc))
      by (Some n) h = (let k : Plus c 0 ≡ Num n = same ∙ ap (λ (o : Option ℕ). class_by o d) h in absurd (cc))

  atoms_differ : (x y : Atom) → IsAtom comps x → IsAtom comps y → AtomsApart s.values x y → atom_class (classes_by facts comps) x ≡ atom_class (classes_by facts comps) y → ⊥
  atoms_differ (Number n) (Number o) ax ay p e = p (cc)
  atoms_differ (Number n) (Comp d) ax ay p e = absurd (let k = free_class d ay p in cc)
  atoms_differ (Comp c) (Number o) ax ay p e = absurd (let k = free_class c ax p in cc)
  atoms_differ (Comp c) (Comp d) ax ay p e = elim p.1 [
    | inl f ↦ free_apart c d ax ay p.0 f e
    | inr f ↦ free_apart d c ay ax (λ h. p.0 (sym h)) f (sym e)
  ]

  indices_differ : (ix iy : List Atom) → All (IsAtom comps) ix → All (IsAtom comps) iy → IndicesApart s.values ix iy
      → map (atom_class (classes_by facts comps)) ix ≡ map (atom_class (classes_by facts comps)) iy → ⊥
  indices_differ ix iy ax ay (inl h) e =
      h (sym (length-map ix (atom_class (classes_by facts comps))) ∙ (ap length e ∙ length-map iy (atom_class (classes_by facts comps))))
  indices_differ ix iy ax ay (inr h) e =
      atoms_differ (get_or ix h.0 (Number 0)) (get_or iy h.0 (Number 0)) (ax h.0 (Number 0) h.1) (ay h.0 (Number 0) h.2) h.3
      (sym (get_or-map (atom_class (classes_by facts comps)) ix h.0 (Number 0) (Num 0) h.1)
      ∙ (ap (λ (xs : List Term). get_or xs h.0 (Num 0)) e ∙ get_or-map (atom_class (classes_by facts comps)) iy h.0 (Number 0) (Num 0) h.2))

  -- two places that the classes make one are spelled as one
  same_spelled : (ix iy : List Atom) (t u : Term) (seen : Option Seen) → ClearAt s.values seen → IndexIsFine s seen ix t → IndexIsFine s seen iy u → All (IsAtom comps) ix → All (IsAtom comps) iy
      → map (atom_class (classes_by facts comps)) ix ≡ map (atom_class (classes_by facts comps)) iy → (ix ≡ iy) × BothAsked t u
  same_spelled ix iy t u (Some (Few spots)) c fx fy ax ay e = elim (one_or_apart s.values spots.items ix iy t u c fx fy) [
    | inl h ↦ h
    | inr h ↦ absurd (elim h [ inl p ↦ indices_differ ix iy ax ay p e | inr p ↦ indices_differ iy ix ay ax p (sym e) ])
  ]
  same_spelled ix iy t u (Some Many) c fx fy ax ay e =
      (atoms_apart ix iy ax ay fx.0 fy.0 e, inr (fx.1, fy.1))
  same_spelled ix iy t u None c fx fy ax ay e = absurd fx

  paired : (f g : Fact) → Among f facts → Among g facts → PairRule (classes_by facts comps) f g
  paired f g a b passed same = by f.test g.test refl refl
    where
      numbers : (t u : Term) → IsNumber t → IsNumber u → t ≢ u → normal (classes_by facts comps) t ≢ normal (classes_by facts comps) u
      numbers (Num n) (Num o) i j h = h
      numbers (Num n) (Plus d q) i j h = absurd j
      numbers (Plus c p) u i j h = absurd i

      tells : (y : Bool) (t u : Term) → BothAsked t u → Says y t u → Says y (normal (classes_by facts comps) t) (normal (classes_by facts comps) u)
      tells true t u both h = ap (normal (classes_by facts comps)) h
      tells false t u (inl e) h = absurd (h e)
      tells false t u (inr n) h = numbers t u n.0 n.1 h

      states : (v w : ℕ) (ix iy : List Atom) (t u : Term) → f.test ≡ State v ix t → g.test ≡ State w iy u → Says g.yes (normal (classes_by facts comps) t) (normal (classes_by facts comps) u)
      states v w ix iy t u ef eg =
          let tf : IsTest comps (State v ix t) = subst (IsTest comps) ef (consistent.tests f a) in
          let tg : IsTest comps (State w iy u) = subst (IsTest comps) eg (consistent.tests g b) in
          let ff : IsFine s (State v ix t) = subst (IsFine s) ef (consistent.fine f a) in
          let fg : IsFine s (State w iy u) = subst (IsFine s) eg (consistent.fine g b) in
          let var : v ≡ w = ap var_of (sym ef) ∙ same.var ∙ ap var_of eg in
          let idx : map (atom_class (classes_by facts comps)) ix ≡ map (atom_class (classes_by facts comps)) iy
          = ap (λ (t : Test). map (atom_class (classes_by facts comps)) (index_of t)) (sym ef) ∙ same.index ∙ ap (λ (t : Test). map (atom_class (classes_by facts comps)) (index_of t)) eg in
          let one : (ix ≡ iy) × BothAsked t u = same_spelled ix iy t u (slice_get s.arrays.items v) (clear_at s v clear) ff.2 (subst (λ (z : ℕ). IndexIsFine s (slice_get s.arrays.items z) iy u) (sym var) fg.2) tf.1 tg.1 idx in
          let subject : SameSubject f.test g.test = rw (ef, eg) (var, one.0) in
          let h : Says g.yes (number_of f.test) (number_of g.test) = consistent.agree f g a b passed subject in
          tells g.yes t u one.1 (rw (ef, eg) at h)

      by : (t u : Test) → f.test ≡ t → g.test ≡ u → Says g.yes (normal (classes_by facts comps) (left_of f.test)) (normal (classes_by facts comps) (left_of g.test))
      by (Value c n) u ef eg = absurd (let h : is_state (Value c n) ≡ true = ap is_state (sym ef) ∙ same.first in cc)
      by (Equal l r p) u ef eg = absurd (subst (IsFine s) ef (consistent.fine f a))
      by (State v ix t) (Value c o) ef eg = absurd (let h : is_state (Value c o) ≡ true = ap is_state (sym eg) ∙ same.second in cc)
      by (State v ix t) (Equal l r p) ef eg = absurd (subst (IsFine s) eg (consistent.fine g b))
      by (State v ix t) (State w iy u) ef eg = rw (ef, eg) (states v w ix iy t u ef eg)

  class_is : (c : ℕ) → c < comps → IsClass (classes_by facts comps) (class_by (number_at facts c) c)
  class_is c l = by (number_at facts c) refl
    where
      by : (o : Option ℕ) → number_at facts c ≡ o → IsClass (classes_by facts comps) (class_by o c)
      by (Some n) e = given_small c n e
      by None e = (omega (arith, l, classes_length facts comps), omega arith, class_at facts comps c (Plus c 0) l ∙ ap (λ (o : Option ℕ). class_by o c) e)

  rules : Rules facts (classes_by facts comps)
  rules = record {
    tests = all_among (λ f. IsTest (length (classes_by facts comps)) f.test) facts (λ f a. rw (classes_length facts comps) (consistent.tests f a));
    classes = λ k d l. (let m : k < comps = omega (arith, l, classes_length facts comps) in rw (class_at facts comps k d m) (class_is k m));
    alone = all_among (FactRule (classes_by facts comps)) facts alone;
    paired = all_among (λ f. All (PairRule (classes_by facts comps) f) facts) facts (λ f a. all_among (PairRule (classes_by facts comps) f) facts (λ g b. paired f g a b));
  }

  pub consistent_is_met : comps ≤ 64 → length facts ≤ 2 ^ 32 → IsMet comps facts
  consistent_is_met few many = subst (λ (n : ℕ). IsMet n facts) (classes_length facts comps) (model facts (classes_by facts comps) rules (rw (classes_length facts comps) few) many)

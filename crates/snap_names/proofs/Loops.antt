-- Loops over the operands of a repeated part: what was read so far, one operand more, and the first that is refused.
use Rattle.std.proofs.Common.{◌≡◌, ℕ, ◌+◌, ◌<◌, List, [], ◌∷◌, ◌++◌, length, take, drop, get_or, map, Option, Some, Result, Ok, Err, refl, ap, sym, ◌∙◌, subst, add-one, is_some, if◌then◌else◌}
use Rattle.std.proofs.lemmas.List.{take_more, take-append-drop, map-append}
use Rattle.std.proofs.Math.Seq.{drop-cons}
use Rattle.snap_names.specs.Parts.{Part, Sizes, itself, HasRead, HaveRead, JoinsParts}
use Rattle.snap_names.specs.Senses.{NameFault, Arities, after}
use Rattle.snap_names.specs.Core.{CoreTest, CorePolicy, filter, par, seq, and_test, or_test, nodes}
use Rattle.snap_names.specs.Declarations.{capped}
use Rattle.snap_names.specs.Reading.{Env, joined, more, read_sequences, read_sequence, read_choices, read_choice, read_boths, read_singles, both_as_test, single_as_test}
use Rattle.snap_names.proofs.Readings.{HaveRead-more}
use Rattle.snap_names.proofs.Operands.{Repeats, policies, sequences, eithers, boths, of}

-- How the operands of a part are read, one behind another, and joined.
pub record InOrder {P X T : Type 0} (part : Repeats P X T) (A : Type 0) : Type 0 where
  pub form : A → CorePolicy
  pub join : A → A → A
  pub read : T → Arities → Result (Option A × Arities) NameFault
  pub one : X → Arities → Result (A × Arities) NameFault
  pub read_one : (t : T) (x : X) (a : Arities) → read (part.behind t x) a ≡ after (read t a) (more join (one x))
  pub cost : (x y : A) → nodes (form (join x y)) ≡ 1 + nodes (form x) + nodes (form y)

abbrev pub in_policy : Env → (at : ℕ) → InOrder (policies at) CorePolicy
in_policy e at = record { form = itself; join = par; read = read_sequences e; one = read_sequence e; read_one = λ t x a. refl; cost = λ x y. refl }

abbrev pub in_sequence : Env → (at : ℕ) → InOrder (sequences at) CorePolicy
in_sequence e at = record { form = itself; join = seq; read = read_choices e; one = read_choice e; read_one = λ t x a. refl; cost = λ x y. refl }

abbrev pub in_either : Env → (at : ℕ) → InOrder (eithers at) CoreTest
in_either e at = record { form = filter; join = or_test; read = read_boths e; one = both_as_test e; read_one = λ t x a. refl; cost = λ x y. refl }

abbrev pub in_both : Env → (at : ℕ) → InOrder (boths at) CoreTest
in_both e at = record { form = filter; join = and_test; read = read_singles e; one = single_as_test e; read_one = λ t x a. refl; cost = λ x y. refl }

-- the items up to i, the item at i, and those behind it
parted : {A : Type 0} (xs : List A) (i : ℕ) (x : A) → i < length xs → x ≡ get_or xs i x → xs ≡ take i xs ++ (x ∷ drop (i + 1) xs)
parted xs i x h is =
    sym (take-append-drop i xs) ∙ ap (λ ys. take i xs ++ ys) (drop-cons xs i x h ∙ (λ j. sym is j ∷ drop (sym (add-one i) j) xs))

taken_more : {A : Type 0} (xs : List A) (i : ℕ) (x : A) → i < length xs → x ≡ get_or xs i x → take (i + 1) xs ≡ take i xs ++ (x ∷ [])
taken_more xs i x h is = take_more xs i x h ∙ ap (λ y. take i xs ++ (y ∷ [])) (sym is)

module _ {P X T A : Type 0} (r : Repeats P X T) (o : InOrder r A) where
  append-both : (t : T) (xs ys : List X) → r.append t (xs ++ ys) ≡ r.append (r.append t xs) ys
  append-both t [] ys = ap (λ u. r.append u ys) (sym (r.append_none t))
  append-both t (x ∷ xs) ys = r.append_one t x (xs ++ ys) ∙ append-both (r.behind t x) xs ys ∙ ap (λ u. r.append u ys) (sym (r.append_one t x xs))

  -- the tree of some operands, one more and others
  of-parted : (xs ys : List P) (x : P) → of r (xs ++ x ∷ ys) ≡ r.append (r.behind (of r xs) (r.tree x)) (map r.tree ys)
  of-parted xs ys x = ap (r.append r.none) (map-append r.tree xs (x ∷ ys)) ∙ append-both r.none (map r.tree xs) (map r.tree (x ∷ ys)) ∙ r.append_one (of r xs) (r.tree x) (map r.tree ys)

  pub step : (items : List P) (i : ℕ) (part : P) (old before mid new : Sizes) (parts : Option Part) (next p : Part) → i < length items → part ≡ get_or items i part →
      HaveRead o.form (o.read (of r (take i items)) old.arities.items) old before parts → HasRead o.form (o.one (r.tree part) before.arities.items) before mid next →
      new.arities.items ≡ mid.arities.items → new.nodes ≡ (if is_some parts then capped (mid.nodes + 1) else mid.nodes) →
      JoinsParts o.form o.join mid.nodes new.nodes parts next p →
      HaveRead o.form (o.read (of r (take (i + 1) items)) old.arities.items) old new (Some p)
  step items i part old before mid new parts next p within is h k arities count join =
      let so_far = of r (take i items) in
      let tree : of r (take (i + 1) items) ≡ r.behind so_far (r.tree part) = ap (of r) (taken_more items i part within is) ∙ of-parted (take i items) [] part ∙ r.append_none _ in
      subst (λ x. HaveRead o.form x old new (Some p)) (sym (ap (λ t. o.read t old.arities.items) tree ∙ o.read_one so_far (r.tree part) old.arities.items))
      (HaveRead-more o.form o.join o.cost (o.read so_far old.arities.items) (o.one (r.tree part)) old before mid new parts next p h k arities count join)

  -- the first operand that is refused refuses all
  append-refused : (t : T) (xs : List X) (a : Arities) (e : NameFault) → o.read t a ≡ Err e → o.read (r.append t xs) a ≡ Err e
  append-refused t [] a e h = ap (λ u. o.read u a) (r.append_none t) ∙ h
  append-refused t (x ∷ xs) a e h = ap (λ u. o.read u a) (r.append_one t x xs) ∙ append-refused (r.behind t x) xs a e (o.read_one t x a ∙ ap (λ y. after y (more o.join (o.one x))) h)

  pub refused : (items : List P) (i : ℕ) (part : P) (old before : Sizes) (parts : Option Part) (e : NameFault) → i < length items → part ≡ get_or items i part →
      HaveRead o.form (o.read (of r (take i items)) old.arities.items) old before parts → o.one (r.tree part) before.arities.items ≡ Err e → o.read (of r items) old.arities.items ≡ Err e
  refused items i part old before parts e within is h k =
      let a = old.arities.items in
      let so_far = of r (take i items) in
      ap (λ xs. o.read (of r xs) a) (parted items i part within is) ∙ ap (λ t. o.read t a) (of-parted (take i items) (drop (i + 1) items) part)
      ∙ append-refused (r.behind so_far (r.tree part)) (map r.tree (drop (i + 1) items)) a e
      (o.read_one so_far (r.tree part) a ∙ ap (λ y. after y (more o.join (o.one (r.tree part)))) h.reading ∙ ap (λ y. after y (λ z. Ok (Some (joined o.join h.value z.0), z.1))) k)

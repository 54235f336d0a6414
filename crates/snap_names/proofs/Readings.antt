-- How a reading goes on as more is read.
use Rattle.std.proofs.Common.{◌≡◌, ℕ, ◌+◌, Bool, true, false, Option, Some, None, Result, Ok, Err, refl, ap, sym, ◌∙◌, arith, subst, is_some, if◌then◌else◌}
use Rattle.snap_names.specs.Parts.{Part, Sizes, IsPart, IsPartOf, itself, HasRead, HaveRead, nodes_of_all, JoinsParts, JoinsChoice}
use Rattle.snap_names.specs.Senses.{NameFault, Arities, after}
use Rattle.snap_names.specs.Core.{CorePolicy, id_test, filter, choice, is_filter, test_nodes, nodes}
use Rattle.snap_names.specs.Reading.{Reading, TestReading, joined, more, as_test, operand, whole_as}
use Rattle.snap_names.specs.Declarations.{capped}
use Rattle.snap_names.proofs.PartLemmas.{IsPart-later, IsPartOf-later}

-- What is read is the core policy that `form` says.
module _ {A : Type 0} (form : A → CorePolicy) where
  -- the nodes of joined operands
  joined_nodes : (f : A → A → A) → ((x y : A) → nodes (form (f x y)) ≡ 1 + nodes (form x) + nodes (form y)) →
      (acc : Option A) (y : A) → nodes (form (joined f acc y)) ≡ nodes_of_all form acc + nodes (form y) + (if is_some acc then 1 else 0)
  joined_nodes f cost None y = omega arith
  joined_nodes f cost (Some x) y = omega (arith, cost x y)

  same_some : (acc : Option A) (all : ℕ) (parts : Option Part) → IsPartOf form acc all parts → is_some acc ≡ is_some parts
  same_some None all None h = refl
  same_some None all (Some part) h = absurd h
  same_some (Some x) all None h = absurd h
  same_some (Some x) all (Some part) h = refl

  total : (acc : Option A) (old before mid new y all : ℕ) → capped before ≡ capped (old + nodes_of_all form acc) → capped mid ≡ capped (before + y) →
      new ≡ (if is_some acc then capped (mid + 1) else mid) → all ≡ nodes_of_all form acc + y + (if is_some acc then 1 else 0) → capped new ≡ capped (old + all)
  total None old before mid new y all a b c d = omega arith
  total (Some x) old before mid new y all a b c d = omega arith

  -- one more operand was read and joined
  pub HaveRead-more : (f : A → A → A) → ((x y : A) → nodes (form (f x y)) ≡ 1 + nodes (form x) + nodes (form y)) →
      (r : Result (Option A × Arities) NameFault) (read : Arities → Result (A × Arities) NameFault) (old before mid new : Sizes) (parts : Option Part) (next part : Part) →
      HaveRead form r old before parts → HasRead form (read before.arities.items) before mid next →
      new.arities.items ≡ mid.arities.items → new.nodes ≡ (if is_some parts then capped (mid.nodes + 1) else mid.nodes) →
      JoinsParts form f mid.nodes new.nodes parts next part →
      HaveRead form (after r (more f read)) old new (Some part)
  HaveRead-more f cost r read old before mid new parts next part h k arities count join =
      let acc = h.value in
      let same = same_some acc before.nodes parts h.stands in
      let n = joined_nodes f cost acc k.value in
      let counted : new.nodes ≡ (if is_some acc then capped (mid.nodes + 1) else mid.nodes) = count ∙ ap (λ b. if b then capped (mid.nodes + 1) else mid.nodes) (sym same) in
      record {
        value = Some (joined f acc k.value);
        reading = ap (λ x. after x (more f read)) h.reading ∙ ap (λ x. after x (λ y. Ok (Some (joined f acc y.0), y.1))) k.reading ∙ ap (λ a. Ok (Some (joined f acc k.value), a)) (sym arities);
        counted = total acc old.nodes before.nodes mid.nodes new.nodes (nodes (form k.value)) (nodes (form (joined f acc k.value))) h.counted k.counted counted n;
        stands = join acc k.value (IsPartOf-later form acc before.nodes mid.nodes (nodes (form k.value)) parts k.counted h.stands) k.stands;
      }

  -- nothing was read yet
  pub HaveRead-none : (old : Sizes) → HaveRead form (Ok (None, old.arities.items)) old old None
  HaveRead-none old = record { value = None; reading = refl; counted = omega arith; stands = tt }

  -- all operands of a repeated part
  whole_of : (r : Result (Option A × Arities) NameFault) (old new : Sizes) (part : Part) (h : HaveRead form r old new (Some part)) →
      (x : Option A) → x ≡ h.value → HasRead itself (after r (whole_as form)) old new part
  whole_of r old new part h None is = absurd (subst (λ x. IsPartOf form x new.nodes (Some part)) (sym is) h.stands)
  whole_of r old new part h (Some x) is = record {
    value = form x;
    reading = ap (λ y. after y (whole_as form)) h.reading ∙ ap (λ y. whole_as form (y, new.arities.items)) (sym is);
    counted = h.counted ∙ ap (λ y. capped (old.nodes + nodes_of_all form y)) (sym is);
    stands = subst (λ y. IsPartOf form y new.nodes (Some part)) (sym is) h.stands;
  }

  pub HasRead-whole : (r : Result (Option A × Arities) NameFault) (old new : Sizes) (part : Part) → HaveRead form r old new (Some part) → HasRead itself (after r (whole_as form)) old new part
  HasRead-whole r old new part h = whole_of r old new part h h.value refl

  -- no operands
  whole_none_of : (r : Result (Option A × Arities) NameFault) (old before new : Sizes) (part : Part) (h : HaveRead form r old before None) →
      new.arities.items ≡ before.arities.items → new.nodes ≡ capped (before.nodes + 1) → IsPart (filter id_test) new.nodes part →
      (x : Option A) → x ≡ h.value → HasRead itself (after r (whole_as form)) old new part
  whole_none_of r old before new part h arities count is_id None is = record {
    value = filter id_test;
    reading = ap (λ y. after y (whole_as form)) h.reading ∙ ap (λ y. whole_as form (y, before.arities.items)) (sym is) ∙ ap (λ a. Ok (filter id_test, a)) (sym arities);
    counted = one_more old.nodes before.nodes new.nodes (h.counted ∙ ap (λ y. capped (old.nodes + nodes_of_all form y)) (sym is)) count;
    stands = is_id;
  }
    where
      one_more : (old before new : ℕ) → capped before ≡ capped (old + 0) → new ≡ capped (before + 1) → capped new ≡ capped (old + 1)
      one_more old before new a b = omega arith
  whole_none_of r old before new part h arities count is_id (Some x) is = absurd (subst (λ y. IsPartOf form y before.nodes None) (sym is) h.stands)

  pub HasRead-whole_none : (r : Result (Option A × Arities) NameFault) (old before new : Sizes) (part : Part) → HaveRead form r old before None →
      new.arities.items ≡ before.arities.items → new.nodes ≡ capped (before.nodes + 1) → IsPart (filter id_test) new.nodes part → HasRead itself (after r (whole_as form)) old new part
  HasRead-whole_none r old before new part h arities count is_id = whole_none_of r old before new part h arities count is_id h.value refl

  -- a part that another is built round
  pub HasRead-round : (g : A → CorePolicy) → ((x : A) → nodes (g x) ≡ 1 + nodes (form x)) → (r : Result (A × Arities) NameFault) (old mid new : Sizes) (part round : Part) →
      HasRead form r old mid part → new.arities.items ≡ mid.arities.items → new.nodes ≡ capped (mid.nodes + 1) →
      ((x : A) → IsPart (form x) mid.nodes part → IsPart (g x) new.nodes round) → HasRead itself (after r (λ x. Ok (g x.0, x.1))) old new round
  HasRead-round g cost r old mid new part round h arities count join = record {
    value = g h.value;
    reading = ap (λ y. after y (λ x. Ok (g x.0, x.1))) h.reading ∙ ap (λ a. Ok (g h.value, a)) (sym arities);
    counted = sum_of old.nodes mid.nodes new.nodes (nodes (form h.value)) (nodes (g h.value)) h.counted count (cost h.value);
    stands = join h.value h.stands;
  }
    where
      sum_of : (old mid new x y : ℕ) → capped mid ≡ capped (old + x) → new ≡ capped (mid + 1) → y ≡ 1 + x → capped new ≡ capped (old + y)
      sum_of old mid new x y h e c = omega arith

-- an operand is the policy that was read, where that is a filter
as_test_of : (f : NameFault) (r : Reading) (old new : Sizes) (part : Part) (h : HasRead itself r old new part) → part.is_test ≡ true →
    (p : CorePolicy) → p ≡ h.value → HasRead filter (after r (as_test f)) old new part
as_test_of f r old new part h t (filter x) is = record {
  value = x;
  reading = ap (λ y. after y (as_test f)) h.reading ∙ ap (λ p. as_test f (p, new.arities.items)) (sym is);
  counted = h.counted ∙ ap (λ p. capped (old.nodes + nodes p)) (sym is);
  stands = subst (λ p. IsPart p new.nodes part) (sym is) h.stands;
}
as_test_of f r old new part h t _ is = absurd (let no : true ≡ false = sym t ∙ h.stands.is_test ∙ ap is_filter (sym is) in cc)

-- as it was found to be a predicate or not
pub HasRead-operand : (b found : Bool) (f : NameFault) (r : Reading) (old new : Sizes) (part : Part) → found ≡ b → found ≡ true → HasRead itself r old new part → part.is_test ≡ true →
    HasRead filter (operand b f r) old new part
HasRead-operand b found f r old new part is met h t = subst (λ c. HasRead filter (operand c f r) old new part) (sym met ∙ is) (as_test_of f r old new part h t h.value refl)

-- a policy that is no filter is refused
no_test_of : (f : NameFault) (r : Reading) (old new : Sizes) (part : Part) (h : HasRead itself r old new part) → part.is_test ≡ false →
    (p : CorePolicy) → p ≡ h.value → after r (as_test f) ≡ Err f
no_test_of f r old new part h t (filter x) is = absurd (let no : false ≡ true = sym t ∙ h.stands.is_test ∙ ap is_filter (sym is) in cc)
no_test_of f r old new part h t _ is = ap (λ y. after y (as_test f)) h.reading ∙ ap (λ p. as_test f (p, new.arities.items)) (sym is)

pub operand-no_test : (b found : Bool) (f g : NameFault) (r : Reading) (old new : Sizes) (part : Part) → found ≡ b → found ≡ true → g ≡ f → HasRead itself r old new part → part.is_test ≡ false →
    operand b f r ≡ Err g
operand-no_test b found f g r old new part is met same h t = ap (λ c. operand c f r) (sym is ∙ met) ∙ no_test_of f r old new part h t h.value refl ∙ ap Err (sym same)

-- the parts of a choice were read
pub HasRead-choice : (test : TestReading) (met unmet : Arities → Reading) (old a b c new : Sizes) (x p q r : Part) →
    HasRead filter test old a x → HasRead itself (met a.arities.items) a b p → HasRead itself (unmet b.arities.items) b c q →
    new.arities.items ≡ c.arities.items → new.nodes ≡ capped (c.nodes + 1) →
    JoinsChoice c.nodes new.nodes x p q r →
    HasRead itself (after test (λ x. after (met x.1) (λ p. after (unmet p.1) (λ q. Ok (choice x.0 p.0 q.0, q.1))))) old new r
HasRead-choice test met unmet old a b c new x p q r h k l arities count join = record {
  value = choice h.value k.value l.value;
  reading =
      ap (λ y. after y (λ x. after (met x.1) (λ p. after (unmet p.1) (λ q. Ok (choice x.0 p.0 q.0, q.1))))) h.reading
      ∙ ap (λ y. after y (λ p. after (unmet p.1) (λ q. Ok (choice h.value p.0 q.0, q.1)))) k.reading
      ∙ ap (λ y. after y (λ q. Ok (choice h.value k.value q.0, q.1))) l.reading
      ∙ ap (λ a. Ok (choice h.value k.value l.value, a)) (sym arities);
  counted = sum_of old.nodes a.nodes b.nodes c.nodes new.nodes (test_nodes h.value) (nodes k.value) (nodes l.value) h.counted k.counted l.counted count;
  stands = join h.value k.value l.value
      (IsPart-later (filter h.value) b.nodes c.nodes (nodes l.value) x l.counted (IsPart-later (filter h.value) a.nodes b.nodes (nodes k.value) x k.counted h.stands))
      (IsPart-later k.value b.nodes c.nodes (nodes l.value) p l.counted k.stands) l.stands;
}
  where
    sum_of : (old a b c new x p q : ℕ) → capped a ≡ capped (old + x) → capped b ≡ capped (a + p) → capped c ≡ capped (b + q) → new ≡ capped (c + 1) →
        capped new ≡ capped (old + (1 + x + p + q))
    sum_of old a b c new x p q h k l e = omega arith

-- a simple policy
pub HasRead-leaf : (r : Reading) (policy : CorePolicy) (old mid new : Sizes) (part : Part) → r ≡ Ok (policy, mid.arities.items) → mid.nodes ≡ old.nodes →
    new.arities.items ≡ mid.arities.items → new.nodes ≡ capped (mid.nodes + nodes policy) → IsPart policy new.nodes part → HasRead itself r old new part
HasRead-leaf r policy old mid new part e same arities count h = record {
  value = policy;
  reading = e ∙ ap (λ a. Ok (policy, a)) (sym arities);
  counted = sum_of old.nodes mid.nodes new.nodes (nodes policy) same count;
  stands = h;
}
  where
    sum_of : (old mid new x : ℕ) → mid ≡ old → new ≡ capped (mid + x) → capped new ≡ capped (old + x)
    sum_of old mid new x h e = omega arith

-- the first fault of two
pub after-refused : {A B : Type 0} (r : Result A NameFault) (g : A → Result B NameFault) (f : NameFault) → r ≡ Err f → after r g ≡ Err f
after-refused r g f h = ap (λ y. after y g) h

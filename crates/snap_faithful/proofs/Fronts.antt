-- A front for numbered nodes, so that `nodes_good` of snap_faithful can be used without one. (Splitting that law makes this file needless.)
use Rattle.std.proofs.Common.{◌≡◌, ℕ, zero, suc, ◌<◌, ◌⊎◌, inl, inr, ⊎_elim, Bool, true, false, ◌&&◌, ◌||◌, Option, Some, None, refl, sym, ap, ◌∙◌, arith}
use Rattle.std.specs.Prelude.{nat_eq}
use Rattle.std.proofs.lemmas.Bool.{both_ways, eqb-true, eqb-false, eq-eqb, and_parts, or_left, or_right, or_cases, and_from}
use Rattle.snap_core.specs.declared.policy.Test.{Test}
use Rattle.snap_rows.specs.declared.tables.Row.{Row}
use Rattle.snap_rows.specs.declared.tables.Row.TheVariants.{Field, State, Go, Leaf, Stop, Last}
use Rattle.snap_rows.specs.Rules.{IsFieldRow}
use Rattle.snap_rows.specs.Leads.{IsNumberAfter}
use Rattle.snap_faithful.specs.Planned.{IsFront}

abbrev no_field : Option Row → Bool
no_field None = false
no_field (Some (Field test y z)) = false
no_field (Some b) = true

abbrev field_to : Option Row → ℕ → Bool
field_to (Some (Field test y z)) i = nat_eq i y || nat_eq i z
field_to o i = false

abbrev any_to : (ℕ → Option Row) → ℕ → ℕ → Bool
any_to nodes zero i = false
any_to nodes (suc m) i = field_to (nodes m) i || any_to nodes m i

abbrev pub front_of : (ℕ → Option Row) → ℕ → ℕ → Bool
front_of nodes most i = no_field (nodes i) && (nat_eq i 0 || any_to nodes most i)

module _ (nodes : ℕ → Option Row) where
  any_is : (most m i y z : ℕ) (test : Test) → m < most → nodes m ≡ Some (Field test y z) → IsNumberAfter (Field test y z) i → any_to nodes most i ≡ true
  any_is zero m i y z test l node way = absurd (omega (arith, l))
  any_is (suc most) m i y z test l node way = by (nat_eq m most) refl (λ low. any_is most m i y z test low node way)
    where
      to : (i ≡ y) ⊎ (i ≡ z) → (nat_eq i y || nat_eq i z) ≡ true
      to (inl e) = or_left (nat_eq i y) (nat_eq i z) (eq-eqb i y e)
      to (inr e) = or_right (nat_eq i y) (nat_eq i z) (eq-eqb i z e)

      by : (b : Bool) → nat_eq m most ≡ b → (m < most → any_to nodes most i ≡ true) → any_to nodes (suc most) i ≡ true
      by true e more = or_left (field_to (nodes most) i) (any_to nodes most i) (ap (λ o. field_to o i) (sym (ap nodes (eqb-true m most e)) ∙ node) ∙ to way)
      by false e more = or_right (field_to (nodes most) i) (any_to nodes most i) (more (let ne = eqb-false m most e in omega (arith, l, ne)))

  abbrev Comes : ℕ → Type 0
  Comes i = (m : ℕ) × (test : Test) × (y : ℕ) × (z : ℕ) × (nodes m ≡ Some (Field test y z)) × IsNumberAfter (Field test y z) i

  field_comes : (m i : ℕ) (o : Option Row) → nodes m ≡ o → field_to o i ≡ true → Comes i
  field_comes m i None e f = absurd (both_ways _ refl f)
  field_comes m i (Some (Field test y z)) e f = (m, test, y, z, e, ⊎_elim (λ a. inl (eqb-true i y a)) (λ b. inr (eqb-true i z b)) (or_cases (nat_eq i y) (nat_eq i z) f))
  field_comes m i (Some (State test y z)) e f = absurd (both_ways _ refl f)
  field_comes m i (Some (Go x)) e f = absurd (both_ways _ refl f)
  field_comes m i (Some (Leaf ss os)) e f = absurd (both_ways _ refl f)
  field_comes m i (Some Stop) e f = absurd (both_ways _ refl f)
  field_comes m i (Some (Last us os)) e f = absurd (both_ways _ refl f)

  any_comes : (most i : ℕ) → any_to nodes most i ≡ true → Comes i
  any_comes zero i e = absurd (both_ways _ refl e)
  any_comes (suc most) i e = by (or_cases (field_to (nodes most) i) (any_to nodes most i) e) (λ f. any_comes most i f)
    where
      by : (field_to (nodes most) i ≡ true) ⊎ (any_to nodes most i ≡ true) → (any_to nodes most i ≡ true → Comes i) → Comes i
      by (inl f) more = field_comes most i (nodes most) refl f
      by (inr f) more = more f

  no_field_is : (b : Row) → (IsFieldRow b → ⊥) → no_field (Some b) ≡ true
  no_field_is (Field test y z) ne = absurd (ne tt)
  no_field_is (State test y z) ne = refl
  no_field_is (Go x) ne = refl
  no_field_is (Leaf ss os) ne = refl
  no_field_is Stop ne = refl
  no_field_is (Last us os) ne = refl

  is_no_field : (b : Row) → no_field (Some b) ≡ true → IsFieldRow b → ⊥
  is_no_field (Field test y z) e f = both_ways _ refl e
  is_no_field (State test y z) e f = f
  is_no_field (Go x) e f = f
  is_no_field (Leaf ss os) e f = f
  is_no_field Stop e f = f
  is_no_field (Last us os) e f = f

  pub front_is : (most : ℕ) → ((m : ℕ) (b : Row) → nodes m ≡ Some b → m < most) → (i : ℕ) → IsFront nodes i → front_of nodes most i ≡ true
  front_is most low i f =
      and_from (no_field (nodes i)) (nat_eq i 0 || any_to nodes most i) (ap no_field f.is ∙ no_field_is f.body f.no_field)
      (⊎_elim (λ e. or_left (nat_eq i 0) (any_to nodes most i) (eq-eqb i 0 e))
      (λ c. or_right (nat_eq i 0) (any_to nodes most i) (any_is most c.0 i c.2 c.3 c.1 (low c.0 (Field c.1 c.2 c.3) c.4) c.4 c.5)) f.from)

  pub is_front : (most i : ℕ) → front_of nodes most i ≡ true → IsFront nodes i
  is_front most i e = by (nodes i) refl parts.0
    where
      parts : (no_field (nodes i) ≡ true) × ((nat_eq i 0 || any_to nodes most i) ≡ true)
      parts = and_parts (no_field (nodes i)) (nat_eq i 0 || any_to nodes most i) e

      by : (o : Option Row) → nodes i ≡ o → no_field o ≡ true → IsFront nodes i
      by None f g = absurd (both_ways _ refl g)
      by (Some b) f g = record {
        body = b;
        is = f;
        no_field = is_no_field b g;
        from = ⊎_elim (λ z. inl (eqb-true i 0 z)) (λ a. inr (any_comes most i a)) (or_cases (nat_eq i 0) (any_to nodes most i) parts.1);
      }

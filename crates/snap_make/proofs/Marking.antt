-- Marks of the numbers next to field rows.
use Rattle.std.proofs.Common.{◌≡◌, ◌≢◌, ℕ, ◌+◌, ◌<◌, ◌⊎◌, inl, inr, ⊎_elim, Bool, true, false, List, [], length, Option, Some, refl, sym, ap, subst, ◌∙◌, arith}
use Rattle.std.specs.Prelude.{slice_get, slice_index, slice_index_or, slice_set, nat_eq, option_map, option_and_then}
use Rattle.std.proofs.lemmas.Bool.{eqb-true, eqb-false, both_ways, cases_lt}
use Rattle.std.proofs.lemmas.Option.{same_Some, slice_get_within}
use Rattle.std.proofs.lemmas.List.{length-set, get_or-set_same, get_or-set_other}
use Rattle.snap_core.specs.declared.policy.Test.{Test}
use Rattle.snap_core.specs.declared.policy.Test.TheVariants.{Value, Equal, State as StateTest}
use Rattle.snap_diagrams.specs.declared.node.Node.{Node}
use Rattle.snap_diagrams.specs.declared.node.Node.TheVariants as node
use Rattle.snap_diagrams.specs.declared.leaf.Leaf.{Leaf}
use Rattle.snap_diagrams.specs.declared.leaf.Leaf.TheVariants.{Race, Go as Goes}
use Rattle.snap_rows.specs.declared.tables.Row.{Row}
use Rattle.snap_rows.specs.declared.tables.Row.TheVariants.{Field, State, Last}
use Rattle.snap_rows.specs.Handles.{is_field}
use Rattle.snap_faithful.specs.Shown.{row_of}
use Rattle.snap_faithful.specs.Generated.{numbered_nodes}
use Rattle.snap_make.specs.Fronts.{IsNumbered, AreWithin, with_fields, IsBehind, AreMarked}

abbrev yes_in : Row → ℕ
yes_in (Field t y z) = y
yes_in _ = 0

abbrev no_in : Row → ℕ
no_in (Field t y z) = z
no_in _ = 0

-- ---- a numbered node
module _ (ns : List (Node Leaf)) (ids numbers : List ℕ) (num : IsNumbered ns ids numbers) (i id : ℕ) (at : slice_get ids i ≡ Some id) (n : Node Leaf) (is : slice_get ns id ≡ Some n) where
  pub node_is : numbered_nodes ns ids (slice_index numbers) i ≡ Some (row_of (slice_index numbers) n)
  node_is = ap (option_and_then (λ d. option_map (row_of (slice_index numbers)) (slice_get ns d))) at ∙ ap (option_map (row_of (slice_index numbers))) is

  within_of : (n : Node Leaf) → slice_get ns id ≡ Some n → AreWithin (slice_index numbers) (length ids) n
  within_of (node.Leaf l) is = tt
  within_of (node.Ask t y z) is = (slice_get_within ids _ y (num.numbering.yes_side i id y z t at is).1, slice_get_within ids _ z (num.numbering.no_side i id y z t at is).1)

  pub are_within : AreWithin (slice_index numbers) (length ids) n
  are_within = within_of n is

-- ---- marks
module _ (nodes : ℕ → Option Row) (b many : ℕ) (marks : List Bool) (m : AreMarked nodes b many marks) where
  up : (i : ℕ) → IsBehind nodes b i → IsBehind nodes (b + 1) i
  up i h = record { from = h.from; test = h.test; yes = h.yes; no = h.no; low = (let l = h.low in omega (arith, l)); is = h.is; way = h.way }

  up_or : (i : ℕ) → (i ≡ 0) ⊎ IsBehind nodes b i → (i ≡ 0) ⊎ IsBehind nodes (b + 1) i
  up_or i (inl e) = inl e
  up_or i (inr h) = inr (up i h)

  -- a row that marks nothing
  unmarked : ((test : Test) (y z : ℕ) → nodes b ≡ Some (Field test y z) → ⊥) → AreMarked nodes (b + 1) many marks
  unmarked no_field = record {
    wide = m.wide;
    marked = λ i e. up_or i (m.marked i e);
    all = λ i l h. m.all i l (down i h);
  }
    where
      down : (i : ℕ) → (i ≡ 0) ⊎ IsBehind nodes (b + 1) i → (i ≡ 0) ⊎ IsBehind nodes b i
      down i (inl e) = inl e
      down i (inr h) = inr (⊎_elim
          (λ l. record { from = h.from; test = h.test; yes = h.yes; no = h.no; low = l; is = h.is; way = h.way })
          (λ g. absurd (no_field h.test h.yes h.no (subst (λ x. nodes x ≡ Some (Field h.test h.yes h.no)) (let l = h.low in let s : h.from ≡ b = omega (arith, l, g) in s) h.is)))
          (cases_lt h.from b))

  module _ (test : Test) (y z : ℕ) (is : nodes b ≡ Some (Field test y z)) (yl : y < many) (zl : z < many) where
    abbrev after : List Bool
    after = slice_set (slice_set marks y true) z true

    at_z : slice_index_or (slice_set (slice_set marks y true) z true) z false ≡ true
    at_z = get_or-set_same (slice_set marks y true) z true false (let a = length-set marks y true in let w = m.wide in omega (arith, a, w, zl))

    other_z : (i : ℕ) → i ≢ z → slice_index_or (slice_set (slice_set marks y true) z true) i false ≡ slice_index_or (slice_set marks y true) i false
    other_z i ne = get_or-set_other (slice_set marks y true) z i true false ne

    at_y : slice_index_or (slice_set marks y true) y false ≡ true
    at_y = get_or-set_same marks y true false (let w = m.wide in omega (arith, w, yl))

    other_y : (i : ℕ) → i ≢ y → slice_index_or (slice_set marks y true) i false ≡ slice_index_or marks i false
    other_y i ne = get_or-set_other marks y i true false ne

    here : (i : ℕ) → (i ≡ y) ⊎ (i ≡ z) → IsBehind nodes (b + 1) i
    here i way = record { from = b; test = test; yes = y; no = z; low = omega arith; is = is; way = way }

    told : (i : ℕ) (p q : Bool) → nat_eq i z ≡ p → nat_eq i y ≡ q → slice_index_or (slice_set (slice_set marks y true) z true) i false ≡ true → (i ≡ 0) ⊎ IsBehind nodes (b + 1) i
    told i true q ez ey e = inr (here i (inr (eqb-true i z ez)))
    told i false true ez ey e = inr (here i (inl (eqb-true i y ey)))
    told i false false ez ey e = up_or i (m.marked i (sym (other_z i (eqb-false i z ez) ∙ other_y i (eqb-false i y ey)) ∙ e))

    stays : (i : ℕ) (p q : Bool) → nat_eq i z ≡ p → nat_eq i y ≡ q → (i ≡ z) ⊎ ((i ≡ y) ⊎ (slice_index_or marks i false ≡ true)) → slice_index_or (slice_set (slice_set marks y true) z true) i false ≡ true
    stays i true q ez ey h = subst (λ x. slice_index_or (slice_set (slice_set marks y true) z true) x false ≡ true) (sym (eqb-true i z ez)) at_z
    stays i false true ez ey h = other_z i (eqb-false i z ez) ∙ subst (λ x. slice_index_or (slice_set marks y true) x false ≡ true) (sym (eqb-true i y ey)) at_y
    stays i false false ez ey (inl e) = absurd (eqb-false i z ez e)
    stays i false false ez ey (inr (inl e)) = absurd (eqb-false i y ey e)
    stays i false false ez ey (inr (inr e)) = other_z i (eqb-false i z ez) ∙ other_y i (eqb-false i y ey) ∙ e

    kept : (i : ℕ) → i < many → (i ≡ 0) ⊎ IsBehind nodes (b + 1) i → (i ≡ z) ⊎ ((i ≡ y) ⊎ (slice_index_or marks i false ≡ true))
    kept i l (inl e) = inr (inr (m.all i l (inl e)))
    kept i l (inr h) = ⊎_elim
        (λ low. inr (inr (m.all i l (inr (record { from = h.from; test = h.test; yes = h.yes; no = h.no; low = low; is = h.is; way = h.way })))))
        (λ g.
        (let same : h.from ≡ b = (let w = h.low in omega (arith, w, g)) in
        let rows : Field h.test h.yes h.no ≡ Field test y z = same_Some _ _ (sym h.is ∙ ap nodes same ∙ is) in
        ⊎_elim (λ e. inr (inl (e ∙ ap yes_in rows))) (λ e. inl (e ∙ ap no_in rows)) h.way))
        (cases_lt h.from b)

    both_marked : AreMarked nodes (b + 1) many (slice_set (slice_set marks y true) z true)
    both_marked = record {
      wide = length-set (slice_set marks y true) z true ∙ length-set marks y true ∙ m.wide;
      marked = λ i e. told i (nat_eq i z) (nat_eq i y) refl refl e;
      all = λ i l h. stays i (nat_eq i z) (nat_eq i y) refl refl (kept i l h);
    }

  not_field : (n : Row) → is_field n ≡ false → nodes b ≡ Some n → (test : Test) (y z : ℕ) → nodes b ≡ Some (Field test y z) → ⊥
  not_field n none e test y z f = both_ways (is_field n) none (ap is_field (same_Some _ _ (sym e ∙ f)))

  pub marked_on : (number : ℕ → ℕ) (n : Node Leaf) → nodes b ≡ Some (row_of number n) → AreWithin number many n → AreMarked nodes (b + 1) many (with_fields number n marks)
  marked_on number (node.Leaf Race) e within = unmarked (not_field (Last [] []) refl e)
  marked_on number (node.Leaf (Goes g)) e within = unmarked (not_field (Last g.ups g.outs) refl e)
  marked_on number (node.Ask (StateTest v ix u) y z) e within = unmarked (not_field (State (StateTest v ix u) (number y) (number z)) refl e)
  marked_on number (node.Ask (Value c n) y z) e within = both_marked (Value c n) (number y) (number z) e within.0 within.1
  marked_on number (node.Ask (Equal l r n) y z) e within = both_marked (Equal l r n) (number y) (number z) e within.0 within.1

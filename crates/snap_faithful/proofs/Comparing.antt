-- The order of outs.
use Rattle.std.proofs.Common.{◌≡◌, ℕ, zero, suc, ◌<◌, ◌≤◌, true, List, [], ◌∷◌, drop, length, refl, sym, subst, ◌∙◌, arith}
use Rattle.std.specs.Prelude.{Contains}
use Rattle.std.specs.List.{dedup}
use Rattle.std.specs.List.Sorted.{IsPermutation, IsSorted, IsStrictlySortedBy}
use Rattle.std.specs.Ordering.{nat_cmp, eq_by_cmp, is_eq, ordering_then}
use Rattle.std.specs.Cmp.{IsTotalOrder, on_total, then_total, nat_cmp_total, tied_then, unsigned_tied}
use Rattle.std.specs.Cmp.Lexicographic.{slice_cmp, lists_total, on_texts}
use Rattle.std.specs.declared.cmp.Ordering.{Ordering}
use Rattle.std.specs.declared.cmp.Ordering.TheVariants.{Less, Greater}
use Rattle.std.proofs.lemmas.Bool.{and_parts, eqb-true, false≢true}
use Rattle.std.proofs.lemmas.Cmp.{eq_by_cmp_equiv}
use Rattle.std.proofs.lemmas.List.Kept.{Contains-dedup, Contains-from_dedup, IsStrictlySortedBy-dedup}
use Rattle.std.proofs.lemmas.List.Sorted.{Contains-permutation, IsPermutation-sym}
use Rattle.snap_core.specs.declared.policy.Atom.{Atom}
use Rattle.snap_core.specs.declared.policy.Atom.TheVariants.{Num, Comp}
use Rattle.snap_rows.specs.Entries.{Parts}
use Rattle.snap_rows.specs.Form.{atom_cmp, parts_cmp}
use Rattle.snap_faithful.specs.Leaves.{AreInOrder}
use Rattle.snap_core.proofs.Orders.{then-Equal}

-- ---- the order's laws
text : Atom → List ℕ
text (Num n) = 0 ∷ n ∷ []
text (Comp c) = 1 ∷ c ∷ []

as_texts : (a b : Atom) → slice_cmp nat_cmp (text a) (text b) ≡ atom_cmp a b
unfolding text
as_texts (Num a) (Num b) = then-Equal (nat_cmp a b)
as_texts (Num a) (Comp b) = refl
as_texts (Comp a) (Num b) = refl
as_texts (Comp a) (Comp b) = then-Equal (nat_cmp a b)

atom_total : IsTotalOrder atom_cmp
atom_total = subst IsTotalOrder (λ i a b. as_texts a b i) (on_texts text)

pub parts_total : IsTotalOrder parts_cmp
parts_total = lists_total (then_total (on_total (λ (p : ℕ × Atom). p.0) nat_cmp_total) (on_total (λ (p : ℕ × Atom). p.1) atom_total))

-- ---- equal by order is equal
nat_exact : (a b : ℕ) → is_eq (nat_cmp a b) ≡ true → a ≡ b
nat_exact a b e = eqb-true a b (sym (unsigned_tied a b) ∙ e)

both_same : (o r : Ordering) → is_eq (ordering_then o r) ≡ true → (is_eq o ≡ true) × (is_eq r ≡ true)
both_same o r e = and_parts (is_eq o) (is_eq r) (tied_then o r ∙ e)

atom_exact : (a b : Atom) → is_eq (atom_cmp a b) ≡ true → a ≡ b
atom_exact (Num a) (Num b) e = λ i. Num (nat_exact a b e i)
atom_exact (Num a) (Comp b) e = absurd (false≢true e)
atom_exact (Comp a) (Num b) e = absurd (false≢true e)
atom_exact (Comp a) (Comp b) e = λ i. Comp (nat_exact a b e i)

parts_exact : (a b : Parts) → eq_by_cmp parts_cmp a b ≡ true → a ≡ b
parts_exact [] [] e = refl
parts_exact [] (q ∷ b) e = absurd (false≢true e)
parts_exact (p ∷ a) [] e = absurd (false≢true e)
parts_exact (p ∷ a) (q ∷ b) e =
    let two = both_same (ordering_then (nat_cmp p.0 q.0) (atom_cmp p.1 q.1)) (parts_cmp a b) e in
    let part = both_same (nat_cmp p.0 q.0) (atom_cmp p.1 q.1) two.0 in
    λ i. (nat_exact p.0 q.0 part.0 i, atom_exact p.1 q.1 part.1 i) ∷ parts_exact a b two.1 i

-- ---- in order, each once
pub sorted_once : (sorted rs : List Parts) → rs ≡ dedup (eq_by_cmp parts_cmp) sorted → IsSorted parts_cmp sorted → AreInOrder sorted rs
sorted_once sorted rs kept order = record {
  rising = subst (λ (l : List Parts). IsStrictlySortedBy parts_cmp l) (sym kept) (IsStrictlySortedBy-dedup parts_total (λ x y. refl) sorted order);
  same = λ o. (
    (λ here. Contains-from_dedup (eq_by_cmp parts_cmp) sorted o (subst (λ (l : List Parts). Contains l o) kept here)),
    (λ there. subst (λ (l : List Parts). Contains l o) (sym kept) (Contains-dedup (eq_by_cmp_equiv parts_total) parts_exact sorted o there)),
  );
}

pub moved_once : (os sorted rs : List Parts) → IsPermutation os sorted → AreInOrder sorted rs → AreInOrder os rs
moved_once os sorted rs moved is = record {
  rising = is.rising;
  same = λ o. (
    (λ here. Contains-permutation sorted os o (IsPermutation-sym os sorted moved) ((is.same o).0 here)),
    (λ there. (is.same o).1 (Contains-permutation os sorted o moved there)),
  );
}

-- ---- what is left decides
pub past_second : (a b : Parts) (n : ℕ) → n < length a → length b ≤ n → n ≤ length b → parts_cmp (drop n a) (drop n b) ≡ Greater
past_second [] b n l m k = absurd (omega (arith, l))
past_second (x ∷ a) [] zero l m k = refl
past_second (x ∷ a) (y ∷ b) zero l m k = absurd (omega (arith, m))
past_second (x ∷ a) [] (suc n) l m k = absurd (omega (arith, k))
past_second (x ∷ a) (y ∷ b) (suc n) l m k = past_second a b n (omega (arith, l)) (omega (arith, m)) (omega (arith, k))

pub first_less : (a b : Parts) (n : ℕ) → length a ≤ n → n ≤ length a → n < length b → parts_cmp (drop n a) (drop n b) ≡ Less
first_less [] [] n l k m = absurd (omega (arith, m))
first_less [] (y ∷ b) zero l k m = refl
first_less [] (y ∷ b) (suc n) l k m = absurd (omega (arith, k))
first_less (x ∷ a) b zero l k m = absurd (omega (arith, l))
first_less (x ∷ a) [] (suc n) l k m = absurd (omega (arith, m))
first_less (x ∷ a) (y ∷ b) (suc n) l k m = first_less a b n (omega (arith, l)) (omega (arith, k)) (omega (arith, m))

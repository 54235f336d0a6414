-- Tidied diagrams can be spelled.
use Rattle.std.proofs.Common.{◌≡◌, ◌≢◌, ℕ, zero, suc, ◌^◌, ◌<◌, ◌≤◌, Bool, true, false, not, List, [], ◌∷◌, ◌++◌, map, length, refl, sym, ap, subst, arith, pow_pos}
use Rattle.std.specs.Prelude.{nat_eq, slice_index, slice_index_or, ◌&&◌, Contains}
use Rattle.std.specs.List.{All}
use Rattle.std.specs.List.Sorted.{IsStrictlySortedBy, IsNonDecreasingBy}
use Rattle.std.proofs.lemmas.Bool.{eq-eqb, eqb-true, both_ways, false≢true, and_parts}
use Rattle.std.proofs.lemmas.List.Elements.{All-nil, All-append, All-filter, All-weaker, All-contains, All-contains_itself, All-map, filter_passes}
use Rattle.snap_core.specs.declared.policy.Atom.{Atom}
use Rattle.snap_core.specs.declared.policy.Atom.TheVariants.{Num, Comp}
use Rattle.snap_core.specs.declared.policy.Update.{Update}
use Rattle.snap_core.specs.Tests.{OutFits, PartFits, IsRisingOut}
use Rattle.snap_diagrams.specs.declared.leaf.Leaf.{Leaf}
use Rattle.snap_diagrams.specs.declared.leaf.Leaf.TheVariants.{Race, Go as Goes}
use Rattle.snap_diagrams.specs.declared.leaf.Go.{Go}
use Rattle.snap_diagrams.specs.Bounds.{Sizes, TestIn, UpdateIn, LeafIn, IsIn}
use Rattle.snap_diagrams.specs.Diagrams.{Diagram, Only, Asks}
use Rattle.snap_rows.specs.Entries.{Parts}
use Rattle.snap_rows.specs.Form.{parts_cmp}
use Rattle.snap_faithful.specs.Leaves.{is_still, is_itself, changes, of_rank, by_ranks, IsTidy}
use Rattle.snap_faithful.specs.Tidied.{Tidies, leaf, test, merged, IsLeafOf, HasLeavesOf}
use Rattle.snap_faithful.proofs.Changing.{changes_rise}

pub record PartsFormed (c : ℕ) (o : Parts) : Type 0 where
  pub fits : OutFits c o
  pub rising : IsRisingOut o
  pub changes : All (λ p. p.1 ≢ Comp p.0) o

pub record GoFormed (s : Sizes) (ranks : List ℕ) (g : Go) : Type 0 where
  pub outs : All (PartsFormed s.comps) g.outs
  pub outs_rise : IsStrictlySortedBy parts_cmp g.outs
  pub ups : All (UpdateIn s) g.ups
  pub moves : All (λ (u : Update). is_still u.op ≡ false) g.ups
  pub ranks_rise : IsNonDecreasingBy (λ (u : Update). slice_index ranks u.var) g.ups
  pub reads : g.reads ≡ 0
  pub writes : g.writes ≡ 0

abbrev pub LeafFormed : Sizes → List ℕ → Leaf → Type 0
LeafFormed s ranks Race = ⊥
LeafFormed s ranks (Goes g) = GoFormed s ranks g

abbrev pub IsFormed : Sizes → List ℕ → Diagram → Type 0
IsFormed s ranks (Only l) = LeafFormed s ranks l
IsFormed s ranks (Asks t y n) = TestIn s t × IsFormed s ranks y × IsFormed s ranks n

-- ---- outs
abbrev is_num : Atom → Bool
is_num (Num n) = true
is_num (Comp d) = false

abbrev comp_of : Atom → ℕ
comp_of (Num n) = 0
comp_of (Comp d) = d

not_itself : (p : ℕ × Atom) → not (is_itself p) ≡ true → p.1 ≢ Comp p.0
not_itself (c, Num n) e f = false≢true (sym (ap is_num f))
not_itself (c, Comp d) e f = both_ways (not (nat_eq d c)) (ap not (eq-eqb d c (ap comp_of f))) e

parts_formed : (c : ℕ) (o : Parts) → OutFits c o × IsRisingOut o → PartsFormed c (changes o)
parts_formed c o h = record {
  fits = All-filter (λ p. not (is_itself p)) (PartFits c) o h.0;
  rising = changes_rise o h.1;
  changes = λ i d l. not_itself _ (filter_passes (λ p. not (is_itself p)) o i d l);
}

outs_formed : (c : ℕ) (os rs : List Parts) → ((o : Parts) → Contains rs o → Contains (map changes os) o) → All (OutFits c) os → All IsRisingOut os → All (PartsFormed c) rs
outs_formed c os rs same fits rising =
    All-weaker (Contains rs) (PartsFormed c)
    (λ o in_rs. All-contains (PartsFormed c) (map changes os) o (All-map (PartsFormed c) changes os (λ i d l. parts_formed c _ (fits i d l, rising i d l))) (same o in_rs))
    rs (All-contains_itself rs)

-- ---- updates
of_rank_moves : (ranks : List ℕ) (r : ℕ) (us : List Update) → All (λ (u : Update). (is_still u.op ≡ false) × (slice_index ranks u.var ≡ r)) (of_rank ranks r us)
of_rank_moves ranks r us = λ i d l. told (slice_index_or (of_rank ranks r us) i d) (filter_passes (λ (u : Update). not (is_still u.op) && nat_eq (slice_index ranks u.var) r) us i d l)
  where
    moves : (b : Bool) → not b ≡ true → b ≡ false
    moves true e = absurd (false≢true e)
    moves false e = refl

    told : (u : Update) → (not (is_still u.op) && nat_eq (slice_index ranks u.var) r) ≡ true → (is_still u.op ≡ false) × (slice_index ranks u.var ≡ r)
    told u e = let p = and_parts (not (is_still u.op)) (nat_eq (slice_index ranks u.var) r) e in (moves (is_still u.op) p.0, eqb-true (slice_index ranks u.var) r p.1)

ups_kept : (P : Update → Type 0) (ranks : List ℕ) (n : ℕ) (us : List Update) → All P us → All P (by_ranks ranks n us)
ups_kept P ranks zero us h = All-nil P
ups_kept P ranks (suc n) us h =
    All-append P (by_ranks ranks n us) (of_rank ranks n us) (ups_kept P ranks n us h)
    (All-filter (λ (u : Update). not (is_still u.op) && nat_eq (slice_index ranks u.var) n) P us h)

ups_move : (ranks : List ℕ) (n : ℕ) (us : List Update) → All (λ (u : Update). (is_still u.op ≡ false) × (slice_index ranks u.var < n)) (by_ranks ranks n us)
ups_move ranks zero us = All-nil (λ (u : Update). (is_still u.op ≡ false) × (slice_index ranks u.var < 0))
ups_move ranks (suc n) us =
    All-append (λ (u : Update). (is_still u.op ≡ false) × (slice_index ranks u.var < suc n)) (by_ranks ranks n us) (of_rank ranks n us)
    (λ i d l. (let h = ups_move ranks n us i d l in (h.0, (let k = h.1 in omega (arith, k)))))
    (λ i d l. (let h = of_rank_moves ranks n us i d l in (h.0, (let k = h.1 in omega (arith, k)))))

module _ {X : Type 0} (n : X → ℕ) where
  -- a list all at or below a number, then one all at it
  rise_append : (xs ys : List X) (r : ℕ) → IsNonDecreasingBy n xs → All (λ x. n x ≤ r) xs → All (λ y. n y ≡ r) ys → IsNonDecreasingBy n (xs ++ ys)
  rise_append [] ys r rise low same = λ i j d le l. (let a = same i d (omega (arith, le, l)) in let b = same j d l in omega (arith, a, b))
  rise_append (x ∷ xs) ys r rise low same = on
      (rise_append xs ys r (λ i j d le l. rise (suc i) (suc j) d (omega (arith, le)) (omega (arith, l))) (λ i d l. low (suc i) d (omega (arith, l))) same)
    where
      first : (j : ℕ) (d : X) → j < length (xs ++ ys) → n x ≤ n (slice_index_or (xs ++ ys) j d)
      first j d l = All-append (λ y. n x ≤ n y) xs ys
          (λ i e k. rise 0 (suc i) e (omega arith) (omega (arith, k)))
          (λ i e k. (let a = same i e k in let b = low 0 x (omega arith) in omega (arith, a, b)))
          j d l

      on : IsNonDecreasingBy n (xs ++ ys) → IsNonDecreasingBy n (x ∷ (xs ++ ys))
      on rest zero zero d le l = omega arith
      on rest zero (suc j) d le l = first j d (omega (arith, l))
      on rest (suc i) zero d le l = absurd (omega (arith, le))
      on rest (suc i) (suc j) d le l = rest i j d (omega (arith, le)) (omega (arith, l))

ups_rise : (ranks : List ℕ) (n : ℕ) (us : List Update) → IsNonDecreasingBy (λ (u : Update). slice_index ranks u.var) (by_ranks ranks n us)
ups_rise ranks zero us = λ i j d le l. absurd (omega (arith, l))
ups_rise ranks (suc n) us =
    rise_append (λ (u : Update). slice_index ranks u.var) (by_ranks ranks n us) (of_rank ranks n us) n (ups_rise ranks n us)
    (λ i d l. (let h = (ups_move ranks n us i d l).1 in omega (arith, h)))
    (λ i d l. (of_rank_moves ranks n us i d l).1)

-- ---- leaves and diagrams
leaf_formed : (s : Sizes) (ranks : List ℕ) (n : ℕ) (l r : Leaf) → IsTidy ranks n l r → LeafIn s l → IsLeafOf ranks n l → LeafFormed s ranks r
leaf_formed s ranks n Race r tidy inside of = absurd of
leaf_formed s ranks n (Goes g) Race tidy inside of = absurd tidy
leaf_formed s ranks n (Goes g) (Goes h) tidy inside of = record {
  outs = outs_formed s.comps g.outs h.outs (λ o. (tidy.outs.same o).0) inside.0 of.1;
  outs_rise = tidy.outs.rising;
  ups = subst (All (UpdateIn s)) (sym tidy.ups) (ups_kept (UpdateIn s) ranks n g.ups inside.1);
  moves = subst (All (λ (u : Update). is_still u.op ≡ false)) (sym tidy.ups) (λ i d l. (ups_move ranks n g.ups i d l).0);
  ranks_rise = subst (IsNonDecreasingBy (λ (u : Update). slice_index ranks u.var)) (sym tidy.ups) (ups_rise ranks n g.ups);
  reads = tidy.reads;
  writes = tidy.writes;
}

pub formed : (s : Sizes) (ranks : List ℕ) (n : ℕ) {d r : Diagram} → Tidies ranks n d r → IsIn s d → HasLeavesOf ranks n d → IsFormed s ranks r
formed s ranks n (leaf {l = l} {r = r} tidy) inside leaves = leaf_formed s ranks n l r tidy inside leaves
formed s ranks n (test a b) inside leaves = (inside.0, formed s ranks n a inside.1 leaves.0, formed s ranks n b inside.2 leaves.1)
formed s ranks n (merged a b) inside leaves = formed s ranks n a inside.1 leaves.0

leaf_in : (s : Sizes) (ranks : List ℕ) (l : Leaf) → LeafFormed s ranks l → LeafIn s l
leaf_in s ranks Race h = tt
leaf_in s ranks (Goes g) h =
    ((λ i d l. (h.outs i d l).fits), h.ups, subst (λ x. x < 2 ^ s.arrays) (sym h.reads) (pow_pos s.arrays), subst (λ x. x < 2 ^ s.arrays) (sym h.writes) (pow_pos s.arrays))

pub formed_in : (s : Sizes) (ranks : List ℕ) (d : Diagram) → IsFormed s ranks d → IsIn s d
formed_in s ranks (Only l) h = leaf_in s ranks l h
formed_in s ranks (Asks t y n) h = (h.0, formed_in s ranks y h.1, formed_in s ranks n h.2)

-- Lists of entries that came in sequence: what holds of each, and of the whole.
use Rattle.std.proofs.Common.{◌≡◌, ℕ, suc, ◌-◌, Bool, true, false, List, [], ◌∷◌, ◌++◌, length, refl, sym, ap, subst, ◌∙◌, arith, append-nil, append_assoc}
use Rattle.std.specs.Prelude.{◌||◌, not, slice_get}
use Rattle.std.specs.List.{All, AllByRecursion, IsDistinct, list_any}
use Rattle.std.specs.List.Sorted.{IsStrictlySortedBy}
use Rattle.std.specs.Option.{option_map_or}
use Rattle.std.specs.Ordering.{is_lt}
use Rattle.std.specs.Cmp.{IsTotalOrder}
use Rattle.std.specs.declared.cmp.Ordering.{Ordering}
use Rattle.std.specs.declared.cmp.Ordering.TheVariants.{Less, Equal, Greater}
use Rattle.std.specs.Str.{bytes_eq}
use Rattle.std.proofs.lemmas.Bool.{and_parts, not-true}
use Rattle.std.proofs.lemmas.Slice.Eq.{bytes_eq-Decides}
use Rattle.std.proofs.lemmas.Cmp.{lists_total, nat_cmp_total, then_total}
use Rattle.std.proofs.lemmas.List.Elements.{All-nil, All-push}
use Rattle.snap_core.specs.declared.policy.Atom.{Atom}
use Rattle.snap_core.specs.declared.policy.Atom.TheVariants.{Num, Comp}
use Rattle.snap_rows.specs.declared.tables.RowAt.{RowAt}
use Rattle.snap_core.specs.Ports.{link_cmp}
use Rattle.snap_rows.specs.Form.{atom_cmp, parts_cmp, row_cmp}
use Rattle.snap_tables.specs.Entries.{AllFrom, AreInSequence, is_above, is_new}
use Rattle.snap_tables.specs.Pieces.{is_adjacent}
use Rattle.snap_tables.proofs.PieceLemmas.{all-push, false-true}
use Rattle.snap_core.proofs.Orders.{is_lt-true}

module _ {X : Type 0} (IsNext : List X → X → Type 0) where
  push-from : (before xs : List X) (x : X) → AllFrom IsNext before xs → IsNext (before ++ xs) x → AllFrom IsNext before (xs ++ (x ∷ []))
  push-from before [] x all next = (subst (λ l. IsNext l x) (append-nil before) next, tt)
  push-from before (y ∷ ys) x all next = (all.0, push-from (before ++ (y ∷ [])) ys x all.1 (subst (λ l. IsNext l x) (sym (append_assoc before (y ∷ []) ys)) next))

  pub turn-push : (xs : List X) (x : X) → AreInSequence IsNext xs → IsNext xs x → AreInSequence IsNext (xs ++ (x ∷ []))
  turn-push xs x all next = push-from [] xs x all next

  module _ (P : List X → Type 0) (step : (ys : List X) (x : X) → P ys → IsNext ys x → P (ys ++ (x ∷ []))) where
    grown : (before xs : List X) → P before → AllFrom IsNext before xs → P (before ++ xs)
    grown before [] p all = subst P (sym (append-nil before)) p
    grown before (x ∷ xs) p all = subst P (append_assoc before (x ∷ []) xs) (grown (before ++ (x ∷ [])) xs (step before x p all.0) all.1)

    pub in-turn : P [] → (xs : List X) → AreInSequence IsNext xs → P xs
    in-turn p xs all = grown [] xs p all

  pub each-turn : (Q : X → Type 0) → ((ys : List X) (x : X) → IsNext ys x → Q x) → (xs : List X) → AreInSequence IsNext xs → All Q xs
  each-turn Q f xs all = in-turn (All Q) (λ ys x p n. All-push Q ys x p (f ys x n)) (All-nil Q) xs all

-- orders
pub on-total : {K X : Type 0} (f : X → K) {R : K → K → Ordering} → IsTotalOrder R → IsTotalOrder (λ (a b : X). R (f a) (f b))
on-total f o = record { antisymm = λ x y. o.antisymm (f x) (f y); trans = λ x y z a b. o.trans (f x) (f y) (f z) a b; congr = λ x y z e. o.congr (f x) (f y) (f z) e }

pub link-total : IsTotalOrder link_cmp
link-total = then_total (on-total (λ (a : ℕ × ℕ). a.0) nat_cmp_total) (on-total (λ (a : ℕ × ℕ). a.1) nat_cmp_total)

pub row-total : IsTotalOrder row_cmp
row-total = then_total (on-total (λ (a : RowAt). a.at) nat_cmp_total) (on-total (λ (a : RowAt). a.number) nat_cmp_total)

atom-antisymm : (x y : Atom) → atom_cmp x y ≡ Rattle.std.specs.Ordering.ordering_reverse (atom_cmp y x)
atom-antisymm (Num a) (Num b) = nat_cmp_total.antisymm a b
atom-antisymm (Num a) (Comp b) = refl
atom-antisymm (Comp a) (Num b) = refl
atom-antisymm (Comp a) (Comp b) = nat_cmp_total.antisymm a b

Greater-Less : Greater ≡ Less → ⊥
Greater-Less e = cc

Less-Equal : Less ≡ Equal → ⊥
Less-Equal e = cc

Greater-Equal : Greater ≡ Equal → ⊥
Greater-Equal e = cc

atom-trans : (x y z : Atom) → atom_cmp x y ≡ Less → atom_cmp y z ≡ Less → atom_cmp x z ≡ Less
atom-trans (Num a) (Num b) (Num c) p q = nat_cmp_total.trans a b c p q
atom-trans (Num a) (Num b) (Comp c) p q = refl
atom-trans (Num a) (Comp b) (Num c) p q = absurd (Greater-Less q)
atom-trans (Num a) (Comp b) (Comp c) p q = refl
atom-trans (Comp a) (Num b) z p q = absurd (Greater-Less p)
atom-trans (Comp a) (Comp b) (Num c) p q = absurd (Greater-Less q)
atom-trans (Comp a) (Comp b) (Comp c) p q = nat_cmp_total.trans a b c p q

atom-congr : (x y z : Atom) → atom_cmp x y ≡ Equal → atom_cmp x z ≡ atom_cmp y z
atom-congr (Num a) (Num b) (Num c) e = nat_cmp_total.congr a b c e
atom-congr (Num a) (Num b) (Comp c) e = refl
atom-congr (Num a) (Comp b) z e = absurd (Less-Equal e)
atom-congr (Comp a) (Num b) z e = absurd (Greater-Equal e)
atom-congr (Comp a) (Comp b) (Num c) e = refl
atom-congr (Comp a) (Comp b) (Comp c) e = nat_cmp_total.congr a b c e

pub parts-total : IsTotalOrder parts_cmp
parts-total = lists_total (then_total (on-total (λ (p : ℕ × Atom). p.0) nat_cmp_total) (on-total (λ (p : ℕ × Atom). p.1) (record { antisymm = atom-antisymm; trans = atom-trans; congr = atom-congr })))

all-last : {X : Type 0} (P : X → Type 0) (zs : List X) (x : X) → AllByRecursion P (zs ++ (x ∷ [])) → P x
all-last P [] x h = h.0
all-last P (z ∷ zs) x h = all-last P zs x h.1

module _ {X : Type 0} (c : X → X → Ordering) (o : IsTotalOrder c) where
  abbrev pub less : X → X → Bool
  less a b = is_lt (c a b)

  pub above-tail : (y z : X) (zs : List X) (x : X) → is_above less (y ∷ z ∷ zs) x ≡ is_above less (z ∷ zs) x
  above-tail y z zs x =
      let a : length (y ∷ z ∷ zs) - 1 ≡ suc (length zs) = omega arith in
      let b : length (z ∷ zs) - 1 ≡ length zs = omega arith in
      ap (λ i. option_map_or (λ w. less w x) (slice_get (y ∷ z ∷ zs) i) true) a ∙ sym (ap (λ i. option_map_or (λ w. less w x) (slice_get (z ∷ zs) i) true) b)

  -- one more above the last keeps a list in order
  pub sorted-push : (xs : List X) (x : X) → IsStrictlySortedBy c xs → is_above less xs x ≡ true → IsStrictlySortedBy c (xs ++ (x ∷ []))
  unfolding IsStrictlySortedBy
  sorted-push [] x s e = (tt, tt)
  sorted-push (y ∷ []) x s e = ((is_lt-true (c y x) e, tt), (tt, tt))
  sorted-push (y ∷ z ∷ zs) x s e =
      let rest = sorted-push (z ∷ zs) x s.1 (sym (above-tail y z zs x) ∙ e) in
      (all-push (λ q. c y q ≡ Less) (z ∷ zs) x s.0 (o.trans y z x s.0.0 (all-last (λ q. c z q ≡ Less) zs x rest.0)), rest)

  all-trans : (x y : X) (ys : List X) → c x y ≡ Less → AllByRecursion (λ q. c y q ≡ Less) ys → AllByRecursion (λ q. c x q ≡ Less) ys
  all-trans x y [] e h = tt
  all-trans x y (z ∷ zs) e h = (o.trans x y z e h.0, all-trans x y zs e h.1)

  -- a list in which each is below the next is in order
  pub adjacent-sorted : (xs : List X) → is_adjacent less xs ≡ true → IsStrictlySortedBy c xs
  unfolding IsStrictlySortedBy
  adjacent-sorted [] e = tt
  adjacent-sorted (x ∷ []) e = (tt, tt)
  adjacent-sorted (x ∷ y ∷ ys) e =
      let k = and_parts (less x y) (is_adjacent less (y ∷ ys)) e in
      let rest = adjacent-sorted (y ∷ ys) k.1 in
      let first = is_lt-true (c x y) k.0 in
      ((first, all-trans x y ys first rest.0), rest)

pub bytes-other : (a b : List ℕ) → bytes_eq a b ≡ false → bytes_eq b a ≡ false
bytes-other a b e = at (bytes_eq b a) refl
  where
    at : (t : Bool) → bytes_eq b a ≡ t → t ≡ false
    at false is = refl
    at true is = absurd (false-true (sym e ∙ (bytes_eq-Decides a b).1 (sym ((bytes_eq-Decides b a).0 is))))

new-all : (names : List (List ℕ)) (name : List ℕ) → list_any (bytes_eq name) names ≡ false → AllByRecursion (λ n. bytes_eq n name ≡ false) names
new-all [] name e = tt
new-all (n ∷ names) name e = at (bytes_eq name n) refl e (new-all names name)
  where
    at : (b : Bool) → bytes_eq name n ≡ b → (b || list_any (bytes_eq name) names) ≡ false → (list_any (bytes_eq name) names ≡ false → AllByRecursion (λ n. bytes_eq n name ≡ false) names) → AllByRecursion (λ n. bytes_eq n name ≡ false) (n ∷ names)
    at true is e rest = absurd (false-true (sym e))
    at false is e rest = (bytes-other name n is, rest e)

pub distinct-push : (xs : List (List ℕ)) (x : List ℕ) → IsDistinct bytes_eq xs → is_new xs x ≡ true → IsDistinct bytes_eq (xs ++ (x ∷ []))
unfolding IsDistinct
distinct-push [] x d e = (tt, tt)
distinct-push (y ∷ ys) x d e =
    let all = new-all (y ∷ ys) x (not-true (list_any (bytes_eq x) (y ∷ ys)) e) in
    (all-push (λ q. bytes_eq y q ≡ false) ys x d.0 all.0, distinct-push ys x d.1 (new-tail y ys x e))
  where
    new-tail : (y : List ℕ) (ys : List (List ℕ)) (x : List ℕ) → is_new (y ∷ ys) x ≡ true → is_new ys x ≡ true
    new-tail y ys x e = at (bytes_eq x y) (list_any (bytes_eq x) ys) e
      where
        at : (a b : Bool) → not (a || b) ≡ true → not b ≡ true
        at true b e = absurd (false-true e)
        at false b e = e

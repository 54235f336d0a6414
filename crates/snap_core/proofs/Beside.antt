-- Cells that stand beside others.
use Rattle.std.proofs.Common.{◌≡◌, ◌≤◌, ℕ, ◌+◌, Bool, true, false, cond, List, [], ◌∷◌, ◌++◌, Option, None, Some, length, refl, sym, ap, subst, ◌∙◌, ⊎_elim, arith}
use Rattle.std.specs.Prelude.{is_some, ◌&&◌}
use Rattle.std.specs.List.{AllByRecursion, IsDistinct}
use Rattle.std.specs.Map.{keys_of}
use Rattle.std.specs.Str.{bytes_eq}
use Rattle.std.specs.Cmp.Lexicographic.{nat_list_eq_equiv}
use Rattle.std.proofs.lemmas.Bool.{cases_Bool, cond-false, false≢true}
use Rattle.std.proofs.lemmas.List.{length-append}
use Rattle.snap_core.specs.Cells.{Cells, cell, either, without, beside}
use Rattle.snap_core.proofs.Entries.{IsDistinct-append}
use Rattle.snap_core.proofs.Places.{same_key}

-- ---- the number at an index
cell-append : (cs ds : Cells) (q : List ℕ) → cell (cs ++ ds) q ≡ either (cell cs q) (cell ds q)
cell-append [] ds q = refl
cell-append (c ∷ cs) ds q =
    elim (bytes_eq q c.0) as (λ t. cond t (Some c.1) (cell (cs ++ ds) q) ≡ either (cond t (Some c.1) (cell cs q)) (cell ds q)) [
      | true ↦ refl
      | false ↦ cell-append cs ds q
    ]

differs : (cs : Cells) (q k : List ℕ) → cell cs q ≡ None → is_some (cell cs k) ≡ true → bytes_eq q k ≡ false
differs cs q k none some =
    ⊎_elim
    (λ same. absurd (false≢true (sym (ap is_some (subst (λ l. cell cs l ≡ None) (same_key q k same) none)) ∙ some)))
    (λ other. other)
    (cases_Bool (bytes_eq q k))

cell-without : (cs ds : Cells) (q : List ℕ) → cell cs q ≡ None → cell (without cs ds) q ≡ cell ds q
cell-without cs [] q none = refl
cell-without cs (d ∷ ds) q none = by_known (is_some (cell cs d.0)) refl (cell-without cs ds q none)
  where
    by_known : (t : Bool) → is_some (cell cs d.0) ≡ t → cell (without cs ds) q ≡ cell ds q → cell (cond t (without cs ds) (d ∷ without cs ds)) q ≡ cell (d ∷ ds) q
    by_known true e rest = rest ∙ sym (cond-false (bytes_eq q d.0) (Some d.1) (cell ds q) (differs cs q d.0 none e))
    by_known false e rest = ap (cond (bytes_eq q d.0) (Some d.1)) rest

pub cell-beside : (cs ds : Cells) (q : List ℕ) → cell (beside cs ds) q ≡ either (cell cs q) (cell ds q)
cell-beside cs ds q = cell-append cs (without cs ds) q ∙ by_first (cell cs q) refl
  where
    by_first : (o : Option ℕ) → cell cs q ≡ o → either o (cell (without cs ds) q) ≡ either o (cell ds q)
    by_first None e = cell-without cs ds q e
    by_first (Some x) e = refl

pub beside-found : (cs ds : Cells) (q : List ℕ) → true ≡ is_some (cell cs q) → cell (beside cs ds) q ≡ cell cs q
beside-found cs ds q some = cell-beside cs ds q ∙ first (cell cs q) some
  where
    first : (o : Option ℕ) → true ≡ is_some o → either o (cell ds q) ≡ o
    first None h = absurd (false≢true (sym h))
    first (Some x) h = refl

pub beside-not_first : (cs ds : Cells) (q : List ℕ) → cell cs q ≡ None → cell (beside cs ds) q ≡ cell ds q
beside-not_first cs ds q none = cell-beside cs ds q ∙ ap (λ o. either o (cell ds q)) none

pub first-none : (cs ds : Cells) (q : List ℕ) → cell (beside cs ds) q ≡ None → cell cs q ≡ None
first-none cs ds q none = first (cell cs q) (sym (cell-beside cs ds q) ∙ none)
  where
    first : (o : Option ℕ) → either o (cell ds q) ≡ None → o ≡ None
    first None h = refl
    first (Some x) h = h

-- ---- one number is put
either-first : (t : Bool) (v : ℕ) (x y : Option ℕ) → either (cond t (Some v) x) y ≡ cond t (Some v) (either x y)
either-first true v x y = refl
either-first false v x y = refl

either-second : (t : Bool) (v : ℕ) (x y : Option ℕ) → (t ≡ true → x ≡ None) → either x (cond t (Some v) y) ≡ cond t (Some v) (either x y)
either-second true v x y h = ap (λ o. either o (Some v)) (h refl)
either-second false v x y h = refl

pub beside-first : (ix : List ℕ) (v : ℕ) (cs fs ds : Cells) → ((q : List ℕ) → cell fs q ≡ cond (bytes_eq ix q) (Some v) (cell cs q)) → (q : List ℕ) → cell (beside fs ds) q ≡ cond (bytes_eq ix q) (Some v) (cell (beside cs ds) q)
beside-first ix v cs fs ds h q =
    cell-beside fs ds q ∙ ap (λ o. either o (cell ds q)) (h q) ∙ either-first (bytes_eq ix q) v (cell cs q) (cell ds q)
    ∙ ap (cond (bytes_eq ix q) (Some v)) (sym (cell-beside cs ds q))

pub beside-second : (ix : List ℕ) (v : ℕ) (cs fs ds es : Cells) → cell cs ix ≡ None → ((q : List ℕ) → cell fs q ≡ cell cs q) → ((q : List ℕ) → cell es q ≡ cond (bytes_eq ix q) (Some v) (cell ds q)) → (q : List ℕ) → cell (beside fs es) q ≡ cond (bytes_eq ix q) (Some v) (cell (beside cs ds) q)
beside-second ix v cs fs ds es none same h q =
    cell-beside fs es q ∙ (λ i. either (same q i) (h q i))
    ∙ either-second (bytes_eq ix q) v (cell cs q) (cell ds q) (λ e. subst (λ l. cell cs l ≡ None) (same_key ix q e) none)
    ∙ ap (cond (bytes_eq ix q) (Some v)) (sym (cell-beside cs ds q))

pub beside-same : (cs fs ds es : Cells) → ((q : List ℕ) → cell fs q ≡ cell cs q) → ((q : List ℕ) → cell es q ≡ cell ds q) → (q : List ℕ) → cell (beside fs es) q ≡ cell (beside cs ds) q
beside-same cs fs ds es first second q = cell-beside fs es q ∙ (λ i. either (first q i) (second q i)) ∙ sym (cell-beside cs ds q)

pub beside-second_if : (r : Bool) (ix : List ℕ) (v : ℕ) (cs ds es : Cells) → cell cs ix ≡ None → ((q : List ℕ) → cell es q ≡ cond (r && bytes_eq ix q) (Some v) (cell ds q)) → (q : List ℕ) → cell (beside cs es) q ≡ cond (r && bytes_eq ix q) (Some v) (cell (beside cs ds) q)
beside-second_if true ix v cs ds es none h q = beside-second ix v cs cs ds es none (λ p. refl) h q
beside-second_if false ix v cs ds es none h q = beside-same cs cs ds es (λ p. refl) h q

-- ---- how many, and that they differ
length-without : (cs ds : Cells) → length (without cs ds) ≤ length ds
length-without cs [] = omega arith
length-without cs (d ∷ ds) =
    let rest = length-without cs ds in
    elim (is_some (cell cs d.0)) as (λ t. length (cond t (without cs ds) (d ∷ without cs ds)) ≤ length (d ∷ ds)) [
      | true ↦ omega (arith, rest)
      | false ↦ omega (arith, rest)
    ]

pub length-beside : (cs ds : Cells) → length (beside cs ds) ≤ length cs + length ds
length-beside cs ds = let sum = length-append cs (without cs ds) in let less = length-without cs ds in omega (arith, sum, less)

IsDistinct-without : (cs ds : Cells) → IsDistinct bytes_eq (keys_of ds) → IsDistinct bytes_eq (keys_of (without cs ds))
unfolding IsDistinct
IsDistinct-without cs [] h = h
IsDistinct-without cs (d ∷ ds) h =
    elim (is_some (cell cs d.0)) as (λ t. IsDistinct bytes_eq (keys_of (cond t (without cs ds) (d ∷ without cs ds)))) [
      | true ↦ IsDistinct-without cs ds h.1
      | false ↦ (fewer ds h.0, IsDistinct-without cs ds h.1)
    ]
  where
    fewer : (es : Cells) → AllByRecursion (λ y. bytes_eq d.0 y ≡ false) (keys_of es) → AllByRecursion (λ y. bytes_eq d.0 y ≡ false) (keys_of (without cs es))
    fewer [] a = tt
    fewer (e ∷ es) a =
        elim (is_some (cell cs e.0)) as (λ t. AllByRecursion (λ y. bytes_eq d.0 y ≡ false) (keys_of (cond t (without cs es) (e ∷ without cs es)))) [
          | true ↦ fewer es a.1
          | false ↦ (a.0, fewer es a.1)
        ]

-- a key of the first cells is none of the others
head_apart : (k : List ℕ) (cs ds : Cells) → is_some (cell cs k) ≡ true → AllByRecursion (λ y. bytes_eq k y ≡ false) (keys_of (without cs ds))
head_apart k cs [] some = tt
head_apart k cs (d ∷ ds) some = by_known (is_some (cell cs d.0)) refl (head_apart k cs ds some)
  where
    by_known : (t : Bool) → is_some (cell cs d.0) ≡ t → AllByRecursion (λ y. bytes_eq k y ≡ false) (keys_of (without cs ds)) → AllByRecursion (λ y. bytes_eq k y ≡ false) (keys_of (cond t (without cs ds) (d ∷ without cs ds)))
    by_known true e rest = rest
    by_known false e rest = (
      ⊎_elim
          (λ same. absurd (false≢true (sym e ∙ ap (λ l. is_some (cell cs l)) (sym (same_key k d.0 same)) ∙ some)))
          (λ other. other)
          (cases_Bool (bytes_eq k d.0)),
      rest,
    )

all_apart : (bs cs ds : Cells) → ((k : List ℕ) → is_some (cell bs k) ≡ true → is_some (cell cs k) ≡ true) → AllByRecursion (λ x. AllByRecursion (λ y. bytes_eq x y ≡ false) (keys_of (without cs ds))) (keys_of bs)
all_apart [] cs ds h = tt
all_apart (b ∷ bs) cs ds h = (
  head_apart b.0 cs ds (h b.0 (ap (λ t. is_some (cond t (Some b.1) (cell bs b.0))) (nat_list_eq_equiv.refl b.0))),
  all_apart bs cs ds (λ k some. h k (later k (bytes_eq k b.0) some)),
)
  where
    later : (k : List ℕ) (t : Bool) → is_some (cell bs k) ≡ true → is_some (cond t (Some b.1) (cell bs k)) ≡ true
    later k true some = refl
    later k false some = some

keys-append : (cs ds : Cells) → keys_of (cs ++ ds) ≡ keys_of cs ++ keys_of ds
keys-append [] ds = refl
keys-append (c ∷ cs) ds = ap (λ l. c.0 ∷ l) (keys-append cs ds)

pub IsDistinct-beside : (cs ds : Cells) → IsDistinct bytes_eq (keys_of cs) → IsDistinct bytes_eq (keys_of ds) → IsDistinct bytes_eq (keys_of (beside cs ds))
IsDistinct-beside cs ds a b =
    subst (IsDistinct bytes_eq) (sym (keys-append cs (without cs ds)))
    (IsDistinct-append bytes_eq (keys_of cs) (keys_of (without cs ds)) a (IsDistinct-without cs ds b) (all_apart cs cs ds (λ k some. some)))

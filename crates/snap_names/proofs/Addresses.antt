-- An address of the tokens is the text of a number.
use Rattle.std.proofs.Common.{◌≡◌, ℕ, ◌+◌, ◌-◌, ◌*◌, ◌<◌, ◌≤◌, zero, suc, cond, eqb, List, [], ◌∷◌, ◌++◌, length, refl, sym, ap, subst, ◌∙◌, inl, inr, arith, Bool, true, false, ◌&&◌, Option, Some, None, is_some, IsTrue, nat_le, option_and_then, ◌⊎◌, ◌↔◌}
use Rattle.std.proofs.lemmas.Bool.{eqb-true, and_parts}
use Rattle.std.proofs.lemmas.Bool.Decides.{nat_tests}
use Rattle.snap_core.specs.Figures.{address_behind, address_of, address_of_parts, number_up_to, octet_of, onto_first, parts_by}
use Rattle.snap_core.proofs.AddressLemmas.{parts_by-some}
use Rattle.snap_lex.specs.Lexemes.{is_group, HasDots, last_group, next_group, IsAddress, is_digit}
use Rattle.snap_lex.proofs.Addresses.{NoDot, group_no_dot}

-- ---- a part of value at most 255 is a group
digit-small : (b : ℕ) → is_digit b ≡ true → b - 48 ≤ 9
digit-small b h = grind (arith, nat_tests)

some-cond : (t : Bool) (n : ℕ) → is_some (cond t (Some n) None) ≡ t
some-cond true n = refl
some-cond false n = refl

octet-group : (g : List ℕ) → is_some (octet_of g) ≡ is_group g
octet-group [] = refl
octet-group (a ∷ []) = one (is_digit a) (0 + (a - 48)) (λ h. let x = digit-small a h in grind (arith, nat_tests))
  where
    one : (x : Bool) (n : ℕ) → (x ≡ true → nat_le n 255 ≡ true) → is_some (cond ((x && true) && nat_le n 255) (Some n) None) ≡ x
    one true n h = ap (λ t. is_some (cond t (Some n) None)) (h refl)
    one false n h = refl
octet-group (a ∷ b ∷ []) = two (is_digit a) (is_digit b) ((0 + (a - 48)) * 10 + (b - 48)) (λ h i. let x = digit-small a h in let y = digit-small b i in grind (arith, nat_tests))
  where
    two : (x y : Bool) (n : ℕ) → (x ≡ true → y ≡ true → nat_le n 255 ≡ true) → is_some (cond ((x && (y && true)) && nat_le n 255) (Some n) None) ≡ (x && y)
    two true true n h = ap (λ t. is_some (cond t (Some n) None)) (h refl refl)
    two true false n h = refl
    two false y n h = refl
octet-group (a ∷ b ∷ c ∷ []) = three (is_digit a) (is_digit b) (is_digit c) (((0 + (a - 48)) * 10 + (b - 48)) * 10 + (c - 48)) ((a - 48) * 100 + (b - 48) * 10 + (c - 48)) (omega arith)
  where
    three : (x y z : Bool) (n m : ℕ) → n ≡ m → is_some (cond ((x && (y && (z && true))) && nat_le n 255) (Some n) None) ≡ (x && y && z && nat_le m 255)
    three true true true n m e = some-cond (nat_le n 255) n ∙ ap (λ k. nat_le k 255) e
    three true true false n m e = refl
    three true false z n m e = refl
    three false y z n m e = refl
octet-group (a ∷ b ∷ c ∷ d ∷ text) =
    let whole = a ∷ b ∷ c ∷ d ∷ text in
    let long : nat_le (length whole) 3 ≡ false = grind (arith, nat_tests) in
    ap (λ t. is_some (cond t (number_up_to 255 whole) None)) long

-- ---- the parts of a text, and what stands before and behind its first dot
abbrev parts : List ℕ → List (List ℕ)
parts text = parts_by (λ b. eqb b 46) text

abbrev Cut : List ℕ → List ℕ → List (List ℕ) → Type 0
Cut text a rest = ((rest ≡ []) × (text ≡ a)) ⊎ ((t : List ℕ) × (text ≡ a ++ 46 ∷ t) × (parts t ≡ rest))

cut-onto : (b : ℕ) (bs a : List ℕ) (rest ps : List (List ℕ)) → ((q : List ℕ) (qs : List (List ℕ)) → ps ≡ q ∷ qs → Cut bs q qs) → 0 < length ps → onto_first b ps ≡ a ∷ rest → Cut (b ∷ bs) a rest
cut-onto b bs a rest [] more some e = absurd (omega arith)
cut-onto b bs a rest (q ∷ qs) more some e = grown (more q qs refl)
  where
    first : b ∷ q ≡ a
    first = cc

    others : qs ≡ rest
    others = cc

    grown : Cut bs q qs → Cut (b ∷ bs) a rest
    grown (inl h) = inl (sym others ∙ h.0, ap (λ x. b ∷ x) h.1 ∙ first)
    grown (inr h) = inr (h.0, ap (λ x. b ∷ x) h.1 ∙ ap (λ x. x ++ 46 ∷ h.0) first, h.2 ∙ others)

cut-at : (b : ℕ) (bs a : List ℕ) (rest : List (List ℕ)) (t : Bool) → eqb b 46 ≡ t → ((q : List ℕ) (qs : List (List ℕ)) → parts bs ≡ q ∷ qs → Cut bs q qs)
    → cond t ([] ∷ parts bs) (onto_first b (parts bs)) ≡ a ∷ rest → Cut (b ∷ bs) a rest
cut-at b bs a rest true is more e = inr (bs, ap (λ x. x ∷ bs) (eqb-true b 46 is) ∙ ap (λ x. x ++ 46 ∷ bs) first, others)
  where
    first : [] ≡ a
    first = cc

    others : parts bs ≡ rest
    others = cc
cut-at b bs a rest false is more e = cut-onto b bs a rest (parts bs) more (parts_by-some (λ b. eqb b 46) bs) e

cut : (text a : List ℕ) (rest : List (List ℕ)) → parts text ≡ a ∷ rest → Cut text a rest
cut [] a rest e = inl (cc, cc)
cut (b ∷ bs) a rest e = cut-at b bs a rest (eqb b 46) refl (λ q qs h. cut bs q qs h) e

parts-alone : (g : List ℕ) → NoDot g → parts g ≡ g ∷ []
parts-alone [] h = refl
parts-alone (b ∷ g) h =
    let other : eqb b 46 ≡ false = grind (arith, nat_tests, h.0) in
    ap (λ t. cond t ([] ∷ parts g) (onto_first b (parts g))) other ∙ ap (onto_first b) (parts-alone g h.1)

parts-behind : (g rest : List ℕ) → NoDot g → parts (g ++ 46 ∷ rest) ≡ g ∷ parts rest
parts-behind [] rest h = refl
parts-behind (b ∷ g) rest h =
    let other : eqb b 46 ≡ false = grind (arith, nat_tests, h.0) in
    let text = g ++ 46 ∷ rest in
    ap (λ t. cond t ([] ∷ parts text) (onto_first b (parts text))) other ∙ ap (onto_first b) (parts-behind g rest h.1)

-- ---- groups joined by dots
abbrev AreGroups : ℕ → List (List ℕ) → Type 0
AreGroups n [] = ⊥
AreGroups zero (g ∷ []) = is_group g ≡ true
AreGroups zero (g ∷ h ∷ gs) = ⊥
AreGroups (suc n) (g ∷ gs) = (is_group g ≡ true) × AreGroups n gs

groups-some : (n : ℕ) (gs : List (List ℕ)) → AreGroups n gs → gs ≡ [] → ⊥
groups-some n [] h e = h
groups-some n (g ∷ gs) h e = cc

dots-last : (g text : List ℕ) → is_group g ≡ true → Cut text g [] → HasDots 0 text
dots-last g text h (inl c) = subst (HasDots 0) (sym c.1) (last_group g h)
dots-last g text h (inr c) = let some = parts_by-some (λ b. eqb b 46) c.0 in let none = ap (λ ps. length ps) c.2 in absurd (omega arith)

dots-next : (n : ℕ) (g text : List ℕ) (gs : List (List ℕ)) → is_group g ≡ true → (gs ≡ [] → ⊥) → ((t : List ℕ) → parts t ≡ gs → HasDots n t) → Cut text g gs → HasDots (suc n) text
dots-next n g text gs h some more (inl c) = absurd (some c.0)
dots-next n g text gs h some more (inr c) = subst (HasDots (suc n)) (sym c.1) (next_group g h (more c.0 c.2))

dots-groups : (n : ℕ) (gs : List (List ℕ)) (text : List ℕ) → parts text ≡ gs → AreGroups n gs → HasDots n text
dots-groups n [] text e h = absurd h
dots-groups zero (g ∷ []) text e h = dots-last g text h (cut text g [] e)
dots-groups zero (g ∷ x ∷ gs) text e h = absurd h
dots-groups (suc n) (g ∷ gs) text e h = dots-next n g text gs h.0 (groups-some n gs h.1) (λ t is. dots-groups n gs t is h.1) (cut text g gs e)

groups-dots : (n : ℕ) (text : List ℕ) → HasDots n text → AreGroups n (parts text)
groups-dots n text (last_group g h) = subst (AreGroups 0) (sym (parts-alone g (group_no_dot g h))) h
groups-dots n text (next_group {n = k} {rest = rest} g h more) = subst (AreGroups (suc k)) (sym (parts-behind g rest (group_no_dot g h))) (h, groups-dots k rest more)

-- ---- four groups have a number
some-behind : (x o : Option ℕ) → is_some (option_and_then (λ m. address_behind m o) x) ≡ (is_some x && is_some o)
some-behind None o = refl
some-behind (Some m) None = refl
some-behind (Some m) (Some n) = refl

four : (a b c d : List ℕ) → is_some (address_of_parts (a ∷ b ∷ c ∷ d ∷ [])) ≡ (((is_group a && is_group b) && is_group c) && is_group d)
four a b c d =
    let second = some-behind (octet_of a) (octet_of b) ∙ (λ i. octet-group a i && octet-group b i) in
    let third = some-behind (option_and_then (λ m. address_behind m (octet_of b)) (octet_of a)) (octet_of c) ∙ (λ i. second i && octet-group c i) in
    some-behind (option_and_then (λ m. address_behind m (octet_of c)) (option_and_then (λ m. address_behind m (octet_of b)) (octet_of a))) (octet_of d) ∙ (λ i. third i && octet-group d i)

groups-some_number : (gs : List (List ℕ)) → is_some (address_of_parts gs) ≡ true → AreGroups 3 gs
groups-some_number [] h = cc
groups-some_number (a ∷ []) h = cc
groups-some_number (a ∷ b ∷ []) h = cc
groups-some_number (a ∷ b ∷ c ∷ []) h = cc
groups-some_number (a ∷ b ∷ c ∷ d ∷ []) h =
    let all = and_parts ((is_group a && is_group b) && is_group c) (is_group d) (sym (four a b c d) ∙ h) in
    let three = and_parts (is_group a && is_group b) (is_group c) all.0 in
    let two = and_parts (is_group a) (is_group b) three.0 in
    (two.0, (two.1, (three.1, all.1)))
groups-some_number (a ∷ b ∷ c ∷ d ∷ e ∷ gs) h = cc

some_number-groups : (gs : List (List ℕ)) → AreGroups 3 gs → is_some (address_of_parts gs) ≡ true
some_number-groups [] h = absurd h
some_number-groups (a ∷ []) h = absurd h.1
some_number-groups (a ∷ b ∷ []) h = absurd h.1.1
some_number-groups (a ∷ b ∷ c ∷ d ∷ []) h = four a b c d ∙ (λ i. ((h.0 i && h.1.0 i) && h.1.1.0 i) && h.1.1.1 i)
some_number-groups _ h = absurd h.1.1.1

pub address-number : (text : List ℕ) → IsAddress text ↔ IsTrue (is_some (address_of text))
address-number text = (
  (λ h. some_number-groups (parts text) (groups-dots 3 text h)),
  (λ h. dots-groups 3 (parts text) text refl (groups-some_number (parts text) h)),
)

-- What references to updates lend.
use Rattle.std.proofs.Common.{◌≡◌, ℕ, zero, suc, ◌+◌, ◌-◌, ◌<◌, List, [], ◌∷◌, ◌++◌, length, take, drop, get_or, refl, sym, ap, subst, ◌∙◌, arith, Bor}
use Rattle.std.specs.List.{All}
use Rattle.std.proofs.lemmas.List.{length-map, get_or-map, take_more, drop_more}
use Rattle.std.proofs.lemmas.List.Elements.{All-get_or}
use Rattle.snap_core.specs.declared.policy.Update.{Update}
use Rattle.snap_rows.specs.Dues.{seen}

within : (xs : List (Bor Update)) (us : List Update) (i : ℕ) → seen xs ≡ us → i < length xs → i < length us
within xs us i e lt = let long : length xs ≡ length us = sym (length-map xs (λ u. u.now)) ∙ ap length e in omega arith

-- the i-th reference lends the i-th update
lent : (xs : List (Bor Update)) (us : List Update) (i : ℕ) (x : Bor Update) → seen xs ≡ us → i < length xs → x ≡ get_or xs i x → get_or us i x.now ≡ x.now
lent xs us i x e lt is = ap (λ l. get_or l i x.now) (sym e) ∙ get_or-map (λ u. u.now) xs i x x.now lt ∙ ap (λ u. u.now) (sym is)

pub lent_keeps : (P : Update → Type 0) (xs : List (Bor Update)) (us : List Update) (i : ℕ) (x : Bor Update) → seen xs ≡ us → i < length xs → x ≡ get_or xs i x → All P us → P x.now
lent_keeps P xs us i x e lt is all = subst P (lent xs us i x e lt is) (All-get_or P us i x.now (within xs us i e lt) all)

pub lent_more : (xs : List (Bor Update)) (us : List Update) (i : ℕ) (x : Bor Update) → seen xs ≡ us → i < length xs → x ≡ get_or xs i x → take (i + 1) us ≡ take i us ++ x.now ∷ []
lent_more xs us i x e lt is = take_more us i x.now (within xs us i e lt) ∙ ap (λ u. take i us ++ u ∷ []) (lent xs us i x e lt is)

pub lent_next : (xs : List (Bor Update)) (us : List Update) (i : ℕ) (x : Bor Update) → seen xs ≡ us → i < length xs → x ≡ get_or xs i x → drop i us ≡ x.now ∷ drop (i + 1) us
lent_next xs us i x e lt is = drop_more us i x.now (within xs us i e lt) ∙ ap (λ u. u ∷ drop (i + 1) us) (lent xs us i x e lt is)

-- ---- lists in two parts
pub take_both : (n : ℕ) (us vs : List Update) → take n us ++ take (n - length us) vs ≡ take n (us ++ vs)
take_both zero [] vs = refl
take_both zero (u ∷ us) vs = let none : zero - suc (length us) ≡ zero = omega arith in ap (λ i. take i vs) none
take_both (suc n) [] vs = let same : suc n - zero ≡ suc n = omega arith in ap (λ i. take i vs) same
take_both (suc n) (u ∷ us) vs = let less : suc n - suc (length us) ≡ n - length us = omega arith in (λ j. u ∷ (take n us ++ take (less j) vs)) ∙ ap (λ l. u ∷ l) (take_both n us vs)

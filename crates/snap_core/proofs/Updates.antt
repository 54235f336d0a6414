-- Updates of variables: what they keep, and what they depend on.
use Rattle.std.proofs.Common.{◌≡◌, ℕ, ◌^◌, Bool, true, false, List, [], ◌∷◌, refl, sym, ap, ◌∙◌, ◌++◌}
use Rattle.std.proofs.lemmas.Bool.{eqb-true, cond-true, cond-false, and_parts}
use Rattle.snap_core.specs.declared.place.Place.{Place}
use Rattle.snap_core.specs.declared.policy.Update.{Update}
use Rattle.snap_core.specs.Arrays.{Arrays, same_place, place_at, number_after, update, updates, has}
use Rattle.snap_core.specs.Laws.{written_by}
use Rattle.snap_core.proofs.Unwritten.{neither, updated_keeps}

pub updates-append : (us vs : List Update) (m : Arrays) (k : List ℕ) → updates m (us ++ vs) k ≡ updates (updates m us k) vs k
updates-append [] vs m k = refl
updates-append (u ∷ us) vs m k = updates-append us vs (update m u k) k

-- the arrays agree at a variable
abbrev pub Agree : ℕ → Arrays → Arrays → Type 0
Agree v m n = (q : Place) → q.var ≡ v → m q ≡ n q

agree-update : (k : List ℕ) (u : Update) (v : ℕ) (m n : Arrays) → Agree v m n → Agree v (update m u k) (update n u k)
agree-update k u v m n h q e = by_place (same_place (place_at u.var u.index k) q) refl
  where
    p : Place
    p = place_at u.var u.index k

    by_place : (t : Bool) → same_place (place_at u.var u.index k) q ≡ t → update m u k q ≡ update n u k q
    by_place true s =
        let var : u.var ≡ v = eqb-true u.var q.var (and_parts _ _ s).0 ∙ e in
        cond-true _ _ _ s ∙ ap (λ x. number_after u.op x k) (h (place_at u.var u.index k) var) ∙ sym (cond-true _ _ _ s)
    by_place false s = cond-false _ _ _ s ∙ h q e ∙ sym (cond-false _ _ _ s)

-- what updates make of a variable depends on that variable alone
pub agree-updates : (k : List ℕ) (us : List Update) (v : ℕ) (m n : Arrays) → Agree v m n → Agree v (updates m us k) (updates n us k)
agree-updates k [] v m n h = h
agree-updates k (u ∷ us) v m n h = agree-updates k us v (update m u k) (update n u k) (agree-update k u v m n h)

-- they keep the variables that none of them updates
pub updates-keep : (k : List ℕ) (us : List Update) (m : Arrays) (q : Place) → has (written_by us) q.var ≡ false → updates m us k q ≡ m q
updates-keep k [] m q h = refl
updates-keep k (u ∷ us) m q h =
    let parts = neither (2 ^ u.var) (written_by us) q.var h in
    updates-keep k us (update m u k) q parts.1 ∙ updated_keeps u m k q parts.0

-- after other updates they make of their variables what they make of them alone
pub updates-after : (k : List ℕ) (us vs : List Update) (m : Arrays) (p : Place) → has (written_by us) p.var ≡ false → updates (updates m us k) vs k p ≡ updates m vs k p
updates-after k us vs m p other = agree-updates k vs p.var (updates m us k) m (λ q var. updates-keep k us m q (ap (has (written_by us)) var ∙ other)) p refl

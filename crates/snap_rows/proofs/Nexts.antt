-- From what rows lead to at once to all that they lead to.
use Rattle.std.proofs.Common.{◌≡◌, ℕ, ◌<◌, List, [], ◌∷◌, ◌++◌, map, Option, Some, None, refl, sym, ap, subst, arith, inl, inr, ⊎_elim}
use Rattle.std.specs.Prelude.{Contains, slice_get, IsSome, IfSome, is_some}
use Rattle.std.proofs.lemmas.List.Elements.{All-contains_itself, Contains-append_cases, Contains-push_cases}
use Rattle.snap_rows.specs.declared.tables.Row.{Row}
use Rattle.snap_rows.specs.declared.tables.Row.TheVariants.{Field, State, Go, Leaf, Stop, Last}
use Rattle.snap_rows.specs.declared.tables.RowAt.{RowAt}
use Rattle.snap_rows.specs.declared.tables.Rule.TheVariants.{Loop, Kind, Missing}
use Rattle.snap_rows.specs.declared.tables.Spot.TheVariants as spot
use Rattle.snap_rows.specs.declared.tables.Stage.{Stage as LeafStage}
use Rattle.snap_rows.specs.declared.tables.Tables.{Tables}
use Rattle.snap_rows.specs.Entries.{Parts, row_at, next}
use Rattle.snap_rows.specs.Form.{IsWellFormed, IsRowWellFormed, switch_count}
use Rattle.snap_rows.specs.Leads.{LeadsOver, LeadsNext, AreLedNext, HoldsNext, HaveNext}
use Rattle.snap_rows.specs.Rules.{IsFirstSpot, Keeps}
use Rattle.snap_rows.specs.Ways.{Way, here, on, Route, end, leg, LeadsTo}
use Rattle.snap_rows.proofs.Arrives.{same_leaf, passed, route_to}
use Rattle.snap_rows.proofs.Leading.{join_leads, leaf_over}
use Rattle.snap_rows.proofs.Places.{row_here}
use Rattle.snap_rows.proofs.Rows.{row_form}
use Rattle.snap_rows.proofs.Spots.{RowAtKeeps}

-- what is led to at once is led to
pub next_is_over : (t : Tables) → IsFirstSpot t Loop None → IsWellFormed t → (w : ℕ) → w < switch_count t → (b : Row) → IsRowWellFormed t b → (x : ℕ) → LeadsNext t w b x → LeadsOver t w b x
next_is_over t loops form w below (Field test y z) fits x l = l
next_is_over t loops form w below (State test y z) fits x l = l
next_is_over t loops form w below (Go to) fits x l = l
next_is_over t loops form w below (Leaf [] os) fits x l = l
next_is_over t loops form w below (Leaf (s ∷ ss) os) fits x l = ⊎_elim
    (λ away.
    let route = route_to t loops form w below (s ∷ ss) fits.2 in
    let first = passed t w s.at (map (λ (s : LeafStage). s.at) ss) route.0 (Contains route.0) away.0 route.1 (All-contains_itself route.0) in
    (route.0, route.1, subst (Contains route.0) (sym away.1) first.0))
    (λ there. there.1)
    l
next_is_over t loops form w below Stop fits x l = l
next_is_over t loops form w below (Last us os) fits x l = l

-- ---- the lists that are made
-- the whole route, where the first stage stands at the switch itself
pub route_next : (t : Tables) (w : ℕ) (ss : List LeafStage) (os : List Parts) (ws : List ℕ) → ((s : LeafStage) → slice_get ss 0 ≡ Some s → s.at ≡ w) → Route t w (map (λ (s : LeafStage). s.at) ss) ws → AreLedNext t w (Leaf ss os) ws
route_next t w [] os ws first route x = leaf_over t w [] os ws route x
route_next t w (s ∷ ss) os ws first route x = (
  λ l. ⊎_elim (λ away. absurd (away.0 (first s refl))) (λ there. (leaf_over t w (s ∷ ss) os ws route x).0 there.1) l,
  λ c. inr (first s refl, (leaf_over t w (s ∷ ss) os ws route x).1 c),
)

-- ---- along a leaf's number
-- P goes from each switch to those that the leaf there leads to at once, and so along a way and the route behind it
along : (t : Tables) (s : LeafStage) (ss : List LeafStage) (os : List Parts) (P : ℕ → Type 0) → ((w x : ℕ) → P w → LeadsNext t w (Leaf (s ∷ ss) os) x → P x) → (w x : ℕ) (us vs : List ℕ) → Way t s.at w us
    → Route t s.at (map (λ (s : LeafStage). s.at) ss) vs → P w → Contains (us ++ vs) x → P x
along t s ss os P step w x us vs here route p c = step w x p (inr (refl, (vs, leg here route, c)))
along t s ss os P step w x us vs (on {ws = more} away way) route p c =
    let first : P (next t w s.at) = step w (next t w s.at) p (inl ((λ e. away (sym e)), refl)) in
    ⊎_elim
    (λ one. ⊎_elim (λ none. absurd (let h : none.0 < 0 = none.1 in omega arith)) (λ same. subst P same first) (Contains-push_cases [] (next t w s.at) x one))
    (λ later. along t s ss os P step (next t w s.at) x more vs way route first later)
    (Contains-append_cases (next t w s.at ∷ []) (more ++ vs) x c)

over_leaf : (t : Tables) (ss : List LeafStage) (os : List Parts) (P : ℕ → Type 0) → ((w x : ℕ) → P w → LeadsNext t w (Leaf ss os) x → P x) → (w x : ℕ) → P w → LeadsOver t w (Leaf ss os) x → P x
over_leaf t [] os P step w x p o = step w x p o
over_leaf t (s ∷ ss) os P step w x p o = by (s.at ∷ map (λ (s : LeafStage). s.at) ss) o.0 refl o.1 o.2
  where
    by : (ys ws : List ℕ) → ys ≡ s.at ∷ map (λ (s : LeafStage). s.at) ss → Route t w ys ws → Contains ws x → P x
    by ys ws e end c = absurd (cc)
    by ys ws e (leg {x = y} {ws = us} {xs = zs} {vs = vs} way route) c =
        let first : y ≡ s.at = cc in
        let rest : zs ≡ map (λ (s : LeafStage). s.at) ss = cc in
        along t s ss os P step w x us vs (subst (λ v. Way t v w us) first way) (subst (λ l. Route t s.at l vs) rest (subst (λ v. Route t v zs vs) first route)) p c

-- what goes from each row to the pairs that it leads to at once goes to all that it leads to
pub leads_hold : (t : Tables) → IsWellFormed t → IsFirstSpot t Kind None → (P : ℕ → ℕ → Type 0) → ((w n : ℕ) → P w n → IsSome (row_at t w n)) → ((w n : ℕ) (b : Row) → row_at t w n ≡ Some b → P w n → HoldsNext P t w n b)
    → (w n : ℕ) (b : Row) → row_at t w n ≡ Some b → P w n → (x k : ℕ) → LeadsTo t w n b x k → P x k
leads_hold t form kind P some step w n b row p = let s = step w n b row p in join_leads t w n b P s.0 (over b row s.1)
  where
    over : (b : Row) → row_at t w n ≡ Some b → ((x : ℕ) → LeadsNext t w b x → P x n) → (x : ℕ) → LeadsOver t w b x → P x n
    over (Field test y z) row' at x o = at x o
    over (State test y z) row' at x o = at x o
    over (Go to) row' at x o = at x o
    over (Leaf ss os) row' at x o =
        let one : t.version ≡ 1 = (row_form t form w n (Leaf ss os) row').0 in
        over_leaf t ss os (λ v. P v n) (λ v y q l. (step v n (Leaf ss os) (same_leaf t kind form one w v n ss os row' (some v n q)) q).1 y l) w x p o
    over Stop row' at x o = at x o
    over (Last us os) row' at x o = at x o

-- rows that lead at once to pairs with rows lead to no others
pub all_have_rows : (t : Tables) → IsWellFormed t → IsFirstSpot t Kind None → ((w n : ℕ) (b : Row) → row_at t w n ≡ Some b → HaveNext t w n b) → (i : ℕ) → Keeps t Missing (spot.Row i)
all_have_rows t form kind have i = by (slice_get t.rows i) refl
  where
    by : (o : Option RowAt) → slice_get t.rows i ≡ o → IfSome o (RowAtKeeps t Missing)
    by None e = tt
    by (Some r) e =
        let row : row_at t r.at r.number ≡ Some r.row = row_here t.rows form.rows_rise r.at r.number i r e refl refl in
        leads_hold t form kind (λ x k. IsSome (row_at t x k)) (λ w n s. s) (λ w n b row' s. have w n b row') r.at r.number r.row row (ap (λ (o : Option Row). is_some o) row)

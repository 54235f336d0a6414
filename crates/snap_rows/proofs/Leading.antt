-- Where rows lead.
use Rattle.std.proofs.Common.{◌≡◌, ◌≢◌, ℕ, suc, ◌+◌, ◌<◌, List, [], ◌∷◌, ◌++◌, map, drop, Some, length, get_or, refl, sym, ap, subst, ◌∙◌, arith, inl, inr, ⊎_elim, ◌⊎◌}
use Rattle.std.specs.Prelude.{◌↔◌, Contains}
use Rattle.std.specs.List.{All}
use Rattle.std.proofs.lemmas.Bool.{cases_lt}
use Rattle.std.proofs.lemmas.List.{append_assoc, at_drop_more}
use Rattle.std.proofs.lemmas.List.Elements.{All-contains, All-contains_itself}
use Rattle.snap_rows.specs.declared.tables.Row.{Row}
use Rattle.snap_rows.specs.declared.tables.Row.TheVariants.{Field, State, Go, Leaf, Stop, Last}
use Rattle.snap_rows.specs.declared.tables.Stage.{Stage as LeafStage}
use Rattle.snap_rows.specs.declared.tables.Tables.{Tables}
use Rattle.snap_rows.specs.Entries.{next, rank_at}
use Rattle.snap_rows.specs.Form.{switch_count}
use Rattle.snap_rows.specs.Leads.{IsNumberAfter, LeadsOver, AreLedOver}
use Rattle.snap_rows.specs.Ways.{Way, here, on, Route, end, leg, OwnsBelow, LeadsTo}

-- ---- owners of ranks
pub no_owners : (t : Tables) (x : ℕ) → OwnsBelow t 0 x ↔ Contains [] x
no_owners t x = (λ o. absurd (let h : o.0 < 0 = o.1 in omega arith), λ c. absurd (let h : c.0 < 0 = c.1 in omega arith))

pub more_owners : (t : Tables) (r : ℕ) (xs ys : List ℕ) → ((x : ℕ) → OwnsBelow t r x ↔ Contains xs x) → ((x : ℕ) → (Contains xs x ⊎ (rank_at t r ≡ Some x)) ↔ Contains ys x)
    → (x : ℕ) → OwnsBelow t (r + 1) x ↔ Contains ys x
more_owners t r xs ys all one x = (
  λ o. ⊎_elim
      (λ lt. (one x).0 (inl ((all x).0 (o.0, lt, o.2))))
      (λ ge. (one x).0 (inr (subst (λ q. rank_at t q ≡ Some x) (let h : o.0 < r + 1 = o.1 in let same : o.0 ≡ r = omega arith in same) o.2)))
      (cases_lt o.0 r),
  λ c. ⊎_elim
      (λ old. let o = (all x).1 old in (o.0, (let h : o.0 < r = o.1 in omega arith), o.2))
      (λ is. (r, omega arith, is))
      ((one x).1 c),
)

-- ---- ways and routes
same_way : (t : Tables) (x w w' : ℕ) (ws vs : List ℕ) → w ≡ w' → Way t x w ws → Way t x w' vs → ws ≡ vs
same_way t x w w' ws vs e here here = refl
same_way t x w w' ws vs e here (on away way) = absurd (away (sym e))
same_way t x w w' ws vs e (on away way) here = absurd (away e)
same_way t x w w' ws vs e (on {ws = us} away way) (on {ws = us'} away' way') =
    let first : next t w x ≡ next t w' x = ap (λ v. next t v x) e in
    subst (λ v. (next t w x ∷ us) ≡ (v ∷ us')) first (ap (λ l. next t w x ∷ l) (same_way t x (next t w x) (next t w' x) us us' first way way'))

same_route : (t : Tables) (w w' : ℕ) (xs xs' ws vs : List ℕ) → w ≡ w' → xs ≡ xs' → Route t w xs ws → Route t w' xs' vs → ws ≡ vs
same_route t w w' xs xs' ws vs e f end end = refl
same_route t w w' xs xs' ws vs e f end (leg way route) = absurd (cc)
same_route t w w' xs xs' ws vs e f (leg way route) end = absurd (cc)
same_route t w w' xs xs' ws vs e f (leg {x = x} {ws = us} {xs = ys} {vs = ps} way route) (leg {x = x'} {ws = us'} {xs = ys'} {vs = ps'} way' route') =
    let first : x ≡ x' = cc in
    let rest : ys ≡ ys' = cc in
    let a : us ≡ us' = same_way t x w w' us us' e way (subst (λ v. Way t v w' us') (sym first) way') in
    let b : ps ≡ ps' = same_route t x x' ys ys' ps ps' first rest route route' in
    cc

-- what was put at the end so far is a way's beginning
abbrev pub Comes : Tables → ℕ → ℕ → ℕ → List ℕ → List ℕ → Type 0
Comes t x from w old new = (vs : List ℕ) → Way t x w vs → (us : List ℕ) × Way t x from us × (new ++ vs ≡ old ++ us)

-- after so many steps what is left of the way is shorter than the number of switches
abbrev pub IsLeft : Tables → ℕ → ℕ → ℕ → Type 0
IsLeft t x w step = (vs : List ℕ) → Way t x w vs → length vs + step < switch_count t

pub next_comes : (t : Tables) (x from w to : ℕ) (old new new' : List ℕ) → w ≢ x → to ≡ next t w x → new' ≡ new ++ to ∷ [] → Comes t x from w old new → Comes t x from to old new'
next_comes t x from w to old new new' away is items comes vs rest =
    let k = comes (next t w x ∷ vs) (on away (subst (λ v. Way t x v vs) is rest)) in
    (k.0, k.1, ap (λ l. l ++ vs) (items ∙ ap (λ v. new ++ v ∷ []) is) ∙ append_assoc new (next t w x ∷ []) vs ∙ k.2)

pub next_left : (t : Tables) (x w to step : ℕ) → w ≢ x → to ≡ next t w x → IsLeft t x w step → IsLeft t x to (step + 1)
next_left t x w to step away is left vs rest =
    let h : suc (length vs) + step < switch_count t = left (next t w x ∷ vs) (on away (subst (λ v. Way t x v vs) is rest)) in
    omega arith

-- a route that was followed to stage i is followed to the next one
pub next_stage : (t : Tables) (at w : ℕ) (s : LeafStage) (ss : List LeafStage) (i : ℕ) (way ws way' : List ℕ) → i < length ss → s ≡ get_or ss i s → Way t s.at w ws → way' ≡ way ++ ws
    → ((vs : List ℕ) → Route t w (map (λ (s : LeafStage). s.at) (drop i ss)) vs → Route t at (map (λ (s : LeafStage). s.at) ss) (way ++ vs))
    → (vs : List ℕ) → Route t s.at (map (λ (s : LeafStage). s.at) (drop (i + 1) ss)) vs → Route t at (map (λ (s : LeafStage). s.at) ss) (way' ++ vs)
next_stage t at w s ss i way ws way' within is there items goes vs rest =
    let cut : map (λ (s : LeafStage). s.at) (drop i ss) ≡ s.at ∷ map (λ (s : LeafStage). s.at) (drop (i + 1) ss) =
    at_drop_more (map (λ (s : LeafStage). s.at)) ss i s within ∙ ap (λ (y : LeafStage). y.at ∷ map (λ (s : LeafStage). s.at) (drop (i + 1) ss)) (sym is) in
    let route : Route t w (map (λ (s : LeafStage). s.at) (drop i ss)) (ws ++ vs) = subst (λ l. Route t w l (ws ++ vs)) (sym cut) (leg there rest) in
    subst (Route t at (map (λ (s : LeafStage). s.at) ss)) (sym (ap (λ l. l ++ vs) items ∙ append_assoc way ws vs)) (goes (ws ++ vs) route)

-- ---- the switches to which a row leads with its own number
pub leaf_over : (t : Tables) (w : ℕ) (ss : List LeafStage) (os : _) (ws : List ℕ) → Route t w (map (λ (s : LeafStage). s.at) ss) ws → AreLedOver t w (Leaf ss os) ws
leaf_over t w ss os ws route x =
    (λ l. subst (λ vs. Contains vs x) (same_route t w w (map (λ (s : LeafStage). s.at) ss) (map (λ (s : LeafStage). s.at) ss) l.0 ws refl refl l.1 route) l.2, λ c. (ws, route, c))

pub go_over : (t : Tables) (w to : ℕ) → AreLedOver t w (Go to) (next t w to ∷ [])
go_over t w to x = (λ e. (0, omega arith, sym e), λ c. only c.0 c.1 c.2)
  where
    only : (i : ℕ) → i < 1 → get_or (next t w to ∷ []) i x ≡ x → x ≡ next t w to
    only i low e = let first : i ≡ 0 = omega arith in sym (subst (λ j. get_or (next t w to ∷ []) j x ≡ x) first e)

-- ---- the leads of a row, parted
pub split_leads : (t : Tables) (w n : ℕ) (b : Row) (P : ℕ → ℕ → Type 0) → ((x k : ℕ) → LeadsTo t w n b x k → P x k) → ((k : ℕ) → IsNumberAfter b k → P w k) × ((x : ℕ) → LeadsOver t w b x → P x n)
split_leads t w n (Field test y z) P all = (λ k side. all w k (refl, side), λ x no. absurd no)
split_leads t w n (State test y z) P all = (λ k side. all w k (inl (refl, side)), λ x over. all x n (inr (over.0, refl, over.1)))
split_leads t w n (Go to) P all = (λ k no. absurd no, λ x is. all x n (is, refl))
split_leads t w n (Leaf ss os) P all = (λ k no. absurd no, λ x over. all x n (refl, over))
split_leads t w n Stop P all = (λ k no. absurd no, λ x over. all x n (subst (λ q. rank_at t q ≡ Some x) (let h : over.0 < 1 = over.1 in let first : over.0 ≡ 0 = omega arith in first) over.2, refl))
split_leads t w n (Last us os) P all = (λ k no. absurd no, λ x over. all x n (refl, over))

pub join_leads : (t : Tables) (w n : ℕ) (b : Row) (P : ℕ → ℕ → Type 0) → ((k : ℕ) → IsNumberAfter b k → P w k) → ((x : ℕ) → LeadsOver t w b x → P x n) → (x k : ℕ) → LeadsTo t w n b x k → P x k
join_leads t w n (Field test y z) P own over x k l = subst (λ v. P v k) (sym l.0) (own k l.1)
join_leads t w n (State test y z) P own over x k l = ⊎_elim
    (λ side. subst (λ v. P v k) (sym side.0) (own k side.1))
    (λ there. subst (λ i. P x i) (sym there.1) (over x (there.0, there.2)))
    l
join_leads t w n (Go to) P own over x k l = subst (λ i. P x i) (sym l.1) (over x l.0)
join_leads t w n (Leaf ss os) P own over x k l = subst (λ i. P x i) (sym l.0) (over x l.1)
join_leads t w n Stop P own over x k l = subst (λ i. P x i) (sym l.1) (over x (0, omega arith, l.0))
join_leads t w n (Last us os) P own over x k l = subst (λ i. P x i) (sym l.0) (over x l.1)

-- what holds of each member of a list that has exactly what passes L
pub each_over : (L : ℕ → Type 0) (P : ℕ → Type 0) (xs : List ℕ) → ((x : ℕ) → L x ↔ Contains xs x) → All P xs ↔ ((x : ℕ) → L x → P x)
each_over L P xs are = (λ all x l. All-contains P xs x all ((are x).0 l), λ all i d within. all (get_or xs i d) ((are (get_or xs i d)).1 (All-contains_itself xs i d within)))

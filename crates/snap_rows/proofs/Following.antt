-- Following leads from the ports.
use Rattle.std.proofs.Common.{◌≡◌, ◌≢◌, ℕ, zero, suc, ◌+◌, ◌<◌, Bool, true, false, not, List, [], ◌∷◌, ◌++◌, length, get_or, Option, Some, None, refl, sym, ap, subst, ◌∙◌, arith, inl, inr, ⊎_elim, ◌⊎◌}
use Rattle.std.specs.Prelude.{Contains, slice_get, IsSome, is_some, IfSome, OnOk, Result, Ok, Err, cond}
use Rattle.std.specs.List.{All}
use Rattle.std.proofs.Math.ListN.{set}
use Rattle.std.proofs.lemmas.Bool.{false≢true, cases_lt}
use Rattle.std.proofs.lemmas.List.{append_assoc, get_or_default, get_or-set_same, get_or-set_other, length-set, length-append}
use Rattle.std.proofs.lemmas.List.Elements.{Contains-append_left, Contains-append_right, Contains-append_cases, Contains-push, Contains-push_cases}
use Rattle.std.proofs.lemmas.List.Sums.{sum_by-set}
use Rattle.std.proofs.lemmas.Option.{slice_get-get_or, same_Some}
use Rattle.snap_core.specs.declared.ports.PortAt.{PortAt}
use Rattle.snap_rows.specs.declared.tables.Row.{Row}
use Rattle.snap_rows.specs.declared.tables.RowAt.{RowAt}
use Rattle.snap_rows.specs.declared.tables.Rule.TheVariants.{Loop, Kind, Missing}
use Rattle.snap_rows.specs.declared.tables.Spot.TheVariants as spot
use Rattle.snap_rows.specs.declared.tables.Tables.{Tables}
use Rattle.snap_rows.specs.Entries.{row_at}
use Rattle.snap_rows.specs.Following.{IsMarked, IsNextMarked, ArePortsMarked, IsFollowed, Grows, AreMarked}
use Rattle.snap_rows.specs.Form.{IsWellFormed, IsRowAtWellFormed}
use Rattle.snap_rows.specs.Leads.{IsNumberAfter, LeadsOver, LeadsNext, AreLedNext, HaveRows, HoldsNext}
use Rattle.snap_rows.specs.Reach.{falses}
use Rattle.snap_rows.specs.Rules.{IsFirstSpot, PortKeeps, RowKeeps}
use Rattle.snap_rows.specs.Ways.{LeadsTo, Reached, port, lead}
use Rattle.snap_rows.proofs.Marking.{set_true}
use Rattle.snap_rows.proofs.Nexts.{leads_hold, next_is_over}
use Rattle.snap_rows.proofs.Places.{row_here}
use Rattle.snap_rows.proofs.Rows.{All-get}
use Rattle.snap_rows.proofs.Search.{one_place}

same_or_other : (i j : ℕ) → (i ≡ j) ⊎ (j ≢ i)
same_or_other i j = ⊎_elim (λ lt. inr (omega arith)) (λ ge. ⊎_elim (λ lt. inr (omega arith)) (λ ge'. inl (omega arith)) (cases_lt j i)) (cases_lt i j)

-- ---- marks grow
pub marked_more : (t : Tables) (marks marks' : List Bool) (x k : ℕ) → ((i : ℕ) → get_or marks i false ≡ true → get_or marks' i false ≡ true) → IsMarked t marks x k → IsMarked t marks' x k
marked_more t marks marks' x k kept m = (m.0, m.1, kept m.0 m.2)

next_more : (t : Tables) (marks marks' : List Bool) (r : RowAt) → ((i : ℕ) → get_or marks i false ≡ true → get_or marks' i false ≡ true) → IsNextMarked t marks r → IsNextMarked t marks' r
next_more t marks marks' r kept m = (λ k after. marked_more t marks marks' r.at k kept (m.0 k after), λ x l. marked_more t marks marks' x r.number kept (m.1 x l))

pub grows_twice : (t : Tables) (marks marks' marks'' : List Bool) (left left' left'' : List ℕ) → Grows t marks left marks' left' → Grows t marks' left' marks'' left'' → Grows t marks left marks'' left''
grows_twice t marks marks' marks'' left left' left'' a b = record {
  long = b.long ∙ a.long;
  kept = λ i e. b.kept i (a.kept i e);
  followed = λ more f. b.followed more (a.followed more f);
  count = b.count ∙ a.count;
}

falses_set : (marks : List Bool) (i : ℕ) → i < length marks → get_or marks i false ≡ false → falses (set marks i true) + 1 ≡ falses marks
falses_set marks i within none =
    let f : Bool → ℕ = λ b. cond (not b) 1 0 in
    let e : falses (set marks i true) + f (get_or marks i false) ≡ falses marks + f true = sum_by-set f marks i true false within in
    let one : f (get_or marks i false) ≡ 1 = ap f none in
    let zero' : f true ≡ 0 = refl in
    let rest : falses marks + f true ≡ falses marks + 0 = ap (λ n. falses marks + n) zero' in
    omega arith

-- one row more
follow_one : (t : Tables) (marks : List Bool) (left : List ℕ) (i : ℕ) → i < length marks → ((r : RowAt) → slice_get t.rows i ≡ Some r → Reached t r.at r.number) → IsFollowed t marks left → IsFollowed t (set marks i true) (left ++ i ∷ [])
follow_one t marks left i within reached f = record {
  sound = λ j r is m. ⊎_elim
      (λ same. reached r (ap (slice_get t.rows) same ∙ is))
      (λ other. f.sound j r is (before j other m))
      (same_or_other i j);
  closed = λ j r is m. ⊎_elim
      (λ same. inl (subst (Contains (left ++ i ∷ [])) same (Contains-push left i)))
      (λ other. ⊎_elim (λ c. inl (Contains-append_left left (i ∷ []) j c)) (λ leads. inr (next_more t marks (set marks i true) r kept leads)) (f.closed j r is (before j other m)))
      (same_or_other i j);
  marked = λ j c. ⊎_elim (λ old. kept j (f.marked j old)) (λ same. subst (λ k. get_or (set marks i true) k false ≡ true) same (get_or-set_same marks i true false within)) (Contains-push_cases left i j c);
}
  where
    kept : (j : ℕ) → get_or marks j false ≡ true → get_or (set marks i true) j false ≡ true
    kept j e = set_true marks i j within e

    before : (j : ℕ) → j ≢ i → get_or (set marks i true) j false ≡ true → get_or marks j false ≡ true
    before j other m = sym (get_or-set_other marks i j true false other) ∙ m

pub grows_one : (t : Tables) (marks : List Bool) (left : List ℕ) (i : ℕ) → i < length marks → get_or marks i false ≡ false → ((r : RowAt) → slice_get t.rows i ≡ Some r → Reached t r.at r.number)
    → Grows t marks left (set marks i true) (left ++ i ∷ [])
grows_one t marks left i within none reached = record {
  long = length-set marks i true;
  kept = λ j e. set_true marks i j within e;
  followed = λ more f. subst (IsFollowed t (set marks i true)) (append_assoc more left (i ∷ [])) (follow_one t marks (more ++ left) i within reached f);
  count =
      let a : falses (set marks i true) + 1 ≡ falses marks = falses_set marks i within none in
      let b : length (left ++ i ∷ []) ≡ length left + 1 = length-append left (i ∷ []) in
      omega arith;
}

-- ---- the row at a place

-- ---- the leads of one row
-- what it leads to at once is marked, so it isn't left
pub not_left : (t : Tables) (marks : List Bool) (left : List ℕ) (i : ℕ) (r : RowAt) → slice_get t.rows i ≡ Some r → IsNextMarked t marks r → IsFollowed t marks (i ∷ [] ++ left) → IsFollowed t marks left
not_left t marks left i r is leads f = record {
  sound = f.sound;
  closed = λ j s there m. ⊎_elim
      (λ c. ⊎_elim
      (λ one. let same : i ≡ j = only one in inr (subst (IsNextMarked t marks) (same_Some _ _ (sym is ∙ ap (slice_get t.rows) same ∙ there)) leads))
      (λ other. inl other)
      (Contains-append_cases (i ∷ []) left j c))
      (λ done. inr done)
      (f.closed j s there m);
  marked = λ j c. f.marked j (Contains-append_right (i ∷ []) left j c);
}
  where
    only : {j : ℕ} → Contains (i ∷ []) j → i ≡ j
    only {j} c = ⊎_elim (λ none. absurd (let h : none.0 < 0 = none.1 in omega arith)) (λ same. same) (Contains-push_cases [] i j c)

pub next_marked : (t : Tables) (marks : List Bool) (r : RowAt) (over : List ℕ) → AreLedNext t r.at r.row over → ((k : ℕ) → IsNumberAfter r.row k → IsMarked t marks r.at k) → All (λ x. IsMarked t marks x r.number) over
    → IsNextMarked t marks r
next_marked t marks r over are own all = (own, λ y o. let c = (are y).0 o in subst (λ v. IsMarked t marks v r.number) c.2 (all c.0 y c.1))

pub leads_reached : (t : Tables) → IsWellFormed t → (r : RowAt) (i : ℕ) → slice_get t.rows i ≡ Some r → Reached t r.at r.number → (x k : ℕ) → LeadsTo t r.at r.number r.row x k → Reached t x k
leads_reached t form r i is reached x k l = lead reached (row_here t.rows form.rows_rise r.at r.number i r is refl refl) l

-- ---- ports
-- what holds of the elements before place n, and of that at n
pub more_hold : {X : Type 0} (P : X → Type 0) (xs : List X) (n : ℕ) (e : X) → n < length xs → ((i : ℕ) (d : X) → i < n → P (get_or xs i d)) → P (get_or xs n e) → (i : ℕ) (d : X) → i < n + 1 → P (get_or xs i d)
more_hold P xs n e within old new i d below = ⊎_elim
    (λ lt. old i d lt)
    (λ ge. let same : n ≡ i = omega arith in subst (λ j. P (get_or xs j d)) same (subst P (get_or_default xs n e d within) new))
    (cases_lt i n)

pub port_reached : (t : Tables) (ps : List PortAt) → ps ≡ t.ports → (i : ℕ) (d : PortAt) → i < length ps → Reached t (get_or ps i d).at 0
port_reached t ps are i d within =
    let there : i < length t.ports = subst (λ (l : List PortAt). i < length l) are within in
    let p = get_or t.ports i d in
    subst (λ (l : List PortAt). Reached t (get_or l i d).at 0) (sym are) (port {p = p.port} {w = p.at} (i, there, get_or_default t.ports i p d there))

pub port_has_row : (t : Tables) → IsFirstSpot t Missing None → (ps : List PortAt) → ps ≡ t.ports → (i : ℕ) (d : PortAt) → i < length ps → IsSome (row_at t (get_or ps i d).at 0)
port_has_row t missing ps are i d within =
    let there : i < length t.ports = subst (λ (l : List PortAt). i < length l) are within in
    subst (λ (l : List PortAt). IsSome (row_at t (get_or l i d).at 0)) (sym are) (subst (λ o. IfSome o (PortKeeps t Missing)) (slice_get-get_or t.ports i d there) (missing (spot.Port i)))

pub row_has_rows : (t : Tables) → IsFirstSpot t Missing None → (i : ℕ) (r : RowAt) → slice_get t.rows i ≡ Some r → HaveRows t r.at r.number r.row
row_has_rows t missing i r is = subst (λ o. IfSome o (λ (r : RowAt). RowKeeps t Missing r.at r.number r.row)) is (missing (spot.Row i))

pub contained : {X : Type 0} (xs : List X) (x : X) → (c : Contains xs x) → slice_get xs c.0 ≡ Some x
contained xs x c = slice_get-get_or xs c.0 x c.1 ∙ ap Some c.2

pub OnOk-both : {X Y A B C : Type 0} (r : Result X Y) → (A → B → C) → OnOk r A → OnOk r B → OnOk r C
OnOk-both (Ok x) f a b = f a b
OnOk-both (Err e) f a b = tt

-- what an entry leads to at once it leads to
pub entry_over : (t : Tables) → IsFirstSpot t Loop None → IsWellFormed t → (r : RowAt) → Contains t.rows r → (x : ℕ) → LeadsNext t r.at r.row x → LeadsOver t r.at r.row x
entry_over t loops form r e x l = let fits = All-get (IsRowAtWellFormed t) t.rows e.0 r form.rows (contained t.rows r e) in next_is_over t loops form r.at fits.at r.row fits.row x l

-- ---- what is left
pub swapped : (t : Tables) (marks : List Bool) (xs ys : List ℕ) → IsFollowed t marks (xs ++ ys) → IsFollowed t marks (ys ++ xs)
swapped t marks xs ys f = record {
  sound = f.sound;
  closed = λ i r is m. ⊎_elim (λ c. inl (over xs ys i c)) (λ leads. inr leads) (f.closed i r is m);
  marked = λ i c. f.marked i (over ys xs i c);
}
  where
    over : (us vs : List ℕ) (i : ℕ) → Contains (us ++ vs) i → Contains (vs ++ us) i
    over us vs i c = ⊎_elim (λ l. Contains-append_right vs us i l) (λ r. Contains-append_left vs us i r) (Contains-append_cases us vs i c)

marked_within : (marks : List Bool) (i : ℕ) → get_or marks i false ≡ true → i < length marks
marked_within [] i e = absurd (false≢true e)
marked_within (m ∷ marks) zero e = omega arith
marked_within (m ∷ marks) (suc i) e = let h : i < length marks = marked_within marks i e in omega arith

-- a place that is left is that of a marked row
pub left_place : (t : Tables) (marks : List Bool) (left : List ℕ) (i : ℕ) → length marks ≡ length t.rows → IsFollowed t marks left → Contains left i → (i < length t.rows) × (get_or marks i false ≡ true)
left_place t marks left i long f c =
    let m = f.marked i c in
    let h : i < length marks = marked_within marks i m in
    (omega arith, m)

-- ---- at the end
marked_row : (t : Tables) → IsWellFormed t → (marks : List Bool) (w n : ℕ) (m : IsMarked t marks w n) → row_at t w n ≡ Some m.1.0.row
marked_row t form marks w n m = let place = m.1 in row_here t.rows form.rows_rise w n m.0 place.0 place.1 place.2 place.3

-- where nothing is left, what a marked row leads to at once is marked
none_left : (t : Tables) → IsWellFormed t → (marks : List Bool) → IsFollowed t marks [] → (w n : ℕ) (b : Row) → row_at t w n ≡ Some b → IsMarked t marks w n → HoldsNext (IsMarked t marks) t w n b
none_left t form marks f w n b row m =
    let r = m.1.0 in
    let P = IsMarked t marks in
    let body : r.row ≡ b = same_Some _ _ (sym (marked_row t form marks w n m) ∙ row) in
    ⊎_elim
    (λ c. absurd (let h : c.0 < 0 = c.1 in omega arith))
    (λ leads. subst (λ c. HoldsNext P t w n c) body (subst (λ j. HoldsNext P t w j r.row) m.1.3 (subst (λ v. HoldsNext P t v r.number r.row) m.1.2 leads)))
    (f.closed m.0 r m.1.1 m.2)

all_marked : (t : Tables) → IsWellFormed t → IsFirstSpot t Kind None → (marks : List Bool) → IsFollowed t marks [] → ArePortsMarked t marks → (w n : ℕ) → Reached t w n → IsMarked t marks w n
all_marked t form kind marks f ports w n (port {p = p} is) = ports (record { port = p; at = w }) is
all_marked t form kind marks f ports x k (lead {w = w} {n = n} {b = b} from row l) =
    leads_hold t form kind (IsMarked t marks) (λ v j m. ap (λ (o : Option Row). is_some o) (marked_row t form marks v j m)) (none_left t form marks f) w n b row (all_marked t form kind marks f ports w n from) x k l

pub are_marked : (t : Tables) → IsWellFormed t → IsFirstSpot t Kind None → (marks : List Bool) → IsFollowed t marks [] → ArePortsMarked t marks → AreMarked t marks
are_marked t form kind marks f ports i r is = (
  λ m. f.sound i r is m,
  λ reached.
      let m = all_marked t form kind marks f ports r.at r.number reached in
      let place = m.1 in
      let same : m.0 ≡ i = one_place (λ (x : RowAt). x.at) (λ (x : RowAt). x.number) t.rows form.rows_rise m.0 i place.0 r place.1 is place.2 place.3 in
      subst (λ j. get_or marks j false ≡ true) same m.2,
)

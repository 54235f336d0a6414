-- The places of rows, next hops and links among entries that rise.
use Rattle.std.proofs.Common.{◌≡◌, ℕ, suc, zero, ◌⊎◌, inl, inr, ⊎_elim, Bool, true, false, List, [], ◌∷◌, Option, Some, None, refl, sym, ap, ◌∙◌}
use Rattle.std.specs.Prelude.{slice_get, Contains, ◌==◌, ◌&&◌, if◌then◌else◌}
use Rattle.std.specs.List.Sorted.{IsStrictlySortedBy}
use Rattle.std.proofs.lemmas.Bool.{eq-eqb, eqb-true, false≢true}
use Rattle.snap_rows.specs.declared.tables.Hop.{Hop}
use Rattle.snap_rows.specs.declared.tables.Row.{Row}
use Rattle.snap_rows.specs.declared.tables.RowAt.{RowAt}
use Rattle.snap_rows.specs.Entries.{row_in, hop_in}
use Rattle.snap_core.specs.Ports.{link_cmp}
use Rattle.snap_rows.specs.Form.{row_cmp, hop_cmp}
use Rattle.snap_rows.specs.Places.{IsRowPlace, StandBefore, hop_said}
use Rattle.std.proofs.lemmas.Option.{slice_get-get_or, slice_get_within, get_or_from_slice_get, same_Some}
use Rattle.snap_rows.proofs.Rows.{entry_of}
use Rattle.snap_rows.proofs.Search.{one_place, found_there}

row_absent : (rs : List RowAt) (w n i : ℕ) → row_in rs w n ≡ None → IsRowPlace rs w n i → ⊥
row_absent [] w n i none place = false≢true (ap (λ (o : Option RowAt). elim o [ None ↦ false | Some r ↦ true ]) place.1)
row_absent (r ∷ rs) w n i none place = by (r.at == w) (r.number == n) refl refl none i place (λ j. row_absent rs w n j)
  where
    by : (s t : Bool) → (r.at == w) ≡ s → (r.number == n) ≡ t → (if s && t then Some r.row else row_in rs w n) ≡ None → (i : ℕ) → IsRowPlace (r ∷ rs) w n i
        → ((j : ℕ) → row_in rs w n ≡ None → IsRowPlace rs w n j → ⊥) → ⊥
    by true true p q e i place rest = false≢true (sym (ap (λ (o : Option Row). elim o [ None ↦ false | Some b ↦ true ]) e))
    by true false p q e zero place rest = false≢true (sym q ∙ eq-eqb r.number n (ap (λ (x : RowAt). x.number) (same_Some _ _ place.1) ∙ place.3))
    by true false p q e (suc j) place rest = rest j e place
    by false t p q e zero place rest = false≢true (sym p ∙ eq-eqb r.at w (ap (λ (x : RowAt). x.at) (same_Some _ _ place.1) ∙ place.2))
    by false t p q e (suc j) place rest = rest j e place

-- the row at a place is that of its switch and number
pub row_here : (rs : List RowAt) → IsStrictlySortedBy row_cmp rs → (w n i : ℕ) (r : RowAt) → slice_get rs i ≡ Some r → r.at ≡ w → r.number ≡ n → row_in rs w n ≡ Some r.row
row_here rs rise w n i r is at number = by (row_in rs w n) refl
  where
    by : (o : Option Row) → row_in rs w n ≡ o → row_in rs w n ≡ Some r.row
    by None e = absurd (row_absent rs w n i e (r, is, at, number))
    by (Some b) e =
        let there = entry_of rs w n b e in
        let same : there.place ≡ i = one_place (λ (x : RowAt). x.at) (λ (x : RowAt). x.number) rs rise there.place i there.entry r there.is is (there.at ∙ sym at) (there.number ∙ sym number) in
        let entry : there.entry ≡ r = same_Some _ _ (sym there.is ∙ ap (slice_get rs) same ∙ is) in
        e ∙ ap Some (sym there.body ∙ ap (λ (x : RowAt). x.row) entry)

-- where a search doesn't end at a row of the numbers, there is none
pub no_row : (rs : List RowAt) → IsStrictlySortedBy row_cmp rs → (w n i : ℕ)
    → StandBefore (λ (r : RowAt). r.at) (λ (r : RowAt). r.number) w n rs i
    → (IsRowPlace rs w n i → ⊥) → row_in rs w n ≡ None
no_row rs rise w n i point other = by (row_in rs w n) refl
  where
    by : (o : Option Row) → row_in rs w n ≡ o → row_in rs w n ≡ None
    by None e = e
    by (Some b) e =
        let there = entry_of rs w n b e in
        let same : there.place ≡ i = found_there (λ (x : RowAt). x.at) (λ (x : RowAt). x.number) rs rise w n i there.place there.entry point there.is there.at there.number in
        absurd (other (there.entry, sym (ap (slice_get rs) same) ∙ there.is, there.at, there.number))

-- the row of a place that was found
pub placed_row : (rs : List RowAt) → IsStrictlySortedBy row_cmp rs → (w n i : ℕ) (r : RowAt) → IsRowPlace rs w n i → slice_get rs i ≡ Some r → Some r.row ≡ row_in rs w n
placed_row rs rise w n i r place is =
    let same : r ≡ place.0 = same_Some _ _ (sym is ∙ place.1) in
    sym (row_here rs rise w n i r is (ap (λ (x : RowAt). x.at) same ∙ place.2) (ap (λ (x : RowAt). x.number) same ∙ place.3))

-- ---- next hops
-- the entry of w and x
record HopEntry (hs : List Hop) (w x : ℕ) : Type 0 where
  place : ℕ
  hop : Hop
  is : slice_get hs place ≡ Some hop
  from : hop.from ≡ w
  target : hop.target ≡ x
  next : hop_in hs w x ≡ hop.next

-- there is no entry of w and x
abbrev IsAbsent : List Hop → ℕ → ℕ → Type 0
IsAbsent hs w x = (i : ℕ) (h : Hop) → slice_get hs i ≡ Some h → h.from ≡ w → h.target ≡ x → ⊥

hop_entry : (hs : List Hop) (w x : ℕ) → HopEntry hs w x ⊎ ((hop_in hs w x ≡ w) × IsAbsent hs w x)
hop_entry [] w x = inr (refl, λ i h is from target. false≢true (ap (λ (o : Option Hop). elim o [ None ↦ false | Some y ↦ true ]) is))
hop_entry (g ∷ hs) w x = by (g.from == w) (g.target == x) refl refl (hop_entry hs w x)
  where
    rest : (hop_in (g ∷ hs) w x ≡ hop_in hs w x) → ((g.from ≡ w) → (g.target ≡ x) → ⊥)
        → HopEntry hs w x ⊎ ((hop_in hs w x ≡ w) × IsAbsent hs w x)
        → HopEntry (g ∷ hs) w x ⊎ ((hop_in (g ∷ hs) w x ≡ w) × IsAbsent (g ∷ hs) w x)
    rest e other found = ⊎_elim
        (λ r. inl (record { place = suc r.place; hop = r.hop; is = r.is; from = r.from; target = r.target; next = e ∙ r.next }))
        (λ r. inr (e ∙ r.0, absent r.1))
        found
      where
        absent : IsAbsent hs w x → IsAbsent (g ∷ hs) w x
        absent never zero h is from target = let same : g ≡ h = same_Some _ _ is in other (ap (λ (y : Hop). y.from) same ∙ from) (ap (λ (y : Hop). y.target) same ∙ target)
        absent never (suc i) h is from target = never i h is from target

    by : (a b : Bool) → (g.from == w) ≡ a → (g.target == x) ≡ b → HopEntry hs w x ⊎ ((hop_in hs w x ≡ w) × IsAbsent hs w x)
        → HopEntry (g ∷ hs) w x ⊎ ((hop_in (g ∷ hs) w x ≡ w) × IsAbsent (g ∷ hs) w x)
    by true true p q found = inl (record {
      place = 0;
      hop = g;
      is = refl;
      from = eqb-true g.from w p;
      target = eqb-true g.target x q;
      next = ap (λ b. if b && (g.target == x) then g.next else hop_in hs w x) p ∙ ap (λ b. if b then g.next else hop_in hs w x) q;
    })
    by true false p q found = rest (ap (λ b. if b && (g.target == x) then g.next else hop_in hs w x) p ∙ ap (λ b. if b then g.next else hop_in hs w x) q) (λ from target. false≢true (sym q ∙ eq-eqb g.target x target)) found
    by false b p q found = rest (ap (λ b. if b && (g.target == x) then g.next else hop_in hs w x) p) (λ from target. false≢true (sym p ∙ eq-eqb g.from w from)) found

-- the entry where a search ends says the next hop
pub hop_there : (hs : List Hop) → IsStrictlySortedBy hop_cmp hs → (w x i : ℕ)
    → StandBefore (λ (h : Hop). h.from) (λ (h : Hop). h.target) w x hs i
    → hop_in hs w x ≡ hop_said (slice_get hs i) w x
hop_there hs rise w x i point = ⊎_elim here elsewhere (hop_entry hs w x)
  where
    here : HopEntry hs w x → hop_in hs w x ≡ hop_said (slice_get hs i) w x
    here r =
        let same : r.place ≡ i = found_there (λ (h : Hop). h.from) (λ (h : Hop). h.target) hs rise w x i r.place r.hop point r.is r.from r.target in
        let said : hop_said (Some r.hop) w x ≡ r.hop.next = ap (λ b. if b && (r.hop.target == x) then r.hop.next else w) (eq-eqb r.hop.from w r.from) ∙ ap (λ b. if b then r.hop.next else w) (eq-eqb r.hop.target x r.target) in
        r.next ∙ sym said ∙ ap (λ o. hop_said o w x) (sym r.is ∙ ap (slice_get hs) same)

    by : (h : Hop) (a b : Bool) → (h.from == w) ≡ a → (h.target == x) ≡ b → (h.from ≡ w → h.target ≡ x → ⊥) → (if a && b then h.next else w) ≡ w
    by h true true p q never = absurd (never (eqb-true h.from w p) (eqb-true h.target x q))
    by h true false p q never = refl
    by h false b p q never = refl

    elsewhere : (hop_in hs w x ≡ w) × IsAbsent hs w x → hop_in hs w x ≡ hop_said (slice_get hs i) w x
    elsewhere r = r.0 ∙ sym (said (slice_get hs i) refl)
      where
        said : (o : Option Hop) → slice_get hs i ≡ o → hop_said (slice_get hs i) w x ≡ w
        said None e = ap (λ o. hop_said o w x) e
        said (Some h) e = ap (λ o. hop_said o w x) e ∙ by h (h.from == w) (h.target == x) refl refl (r.1 i h e)

-- the next hop at a place is that of its switches
pub hop_here : (hs : List Hop) → IsStrictlySortedBy hop_cmp hs → (w x i : ℕ) (h : Hop) → slice_get hs i ≡ Some h → h.from ≡ w → h.target ≡ x → h.next ≡ hop_in hs w x
hop_here hs rise w x i h is from target = ⊎_elim
    (λ r.
    let same : r.place ≡ i = one_place (λ (h : Hop). h.from) (λ (h : Hop). h.target) hs rise r.place i r.hop h r.is is (r.from ∙ sym from) (r.target ∙ sym target) in
    ap (λ (h : Hop). h.next) (same_Some _ _ (sym is ∙ ap (slice_get hs) (sym same) ∙ r.is)) ∙ sym r.next)
    (λ r. absurd (r.1 i h is from target))
    (hop_entry hs w x)

-- ---- links
pub link_there : (ls : List (ℕ × ℕ)) → IsStrictlySortedBy link_cmp ls → (a b i : ℕ)
    → StandBefore (λ (l : ℕ × ℕ). l.0) (λ (l : ℕ × ℕ). l.1) a b ls i
    → Contains ls (a, b) → slice_get ls i ≡ Some (a, b)
link_there ls rise a b i point c =
    let is : slice_get ls c.0 ≡ Some (a, b) = slice_get-get_or ls c.0 (a, b) c.1 ∙ ap Some c.2 in
    let same : c.0 ≡ i = found_there (λ (l : ℕ × ℕ). l.0) (λ (l : ℕ × ℕ). l.1) ls rise a b i c.0 (a, b) point is refl refl in
    sym (ap (slice_get ls) same) ∙ is

pub link_here : (ls : List (ℕ × ℕ)) (a b i : ℕ) → slice_get ls i ≡ Some (a, b) → Contains ls (a, b)
link_here ls a b i is = (i, slice_get_within ls i (a, b) is, get_or_from_slice_get ls i (a, b) (a, b) is)

-- What additions add.
use Rattle.std.proofs.Common.{◌≡◌, ◌≢◌, ℕ, zero, suc, ◌^◌, ◌+◌, ◌<◌, Bool, true, false, cond, List, [], ◌∷◌, ◌++◌, length, get_or, set, take, bit_or, refl, sym, ap, ◌∙◌, subst, arith}
use Rattle.std.specs.Prelude.{All}
use Rattle.std.proofs.lemmas.List.Elements.{All-more}
use Rattle.std.proofs.lemmas.List.{take_more}
use Rattle.std.proofs.lemmas.Bool.{cond-true, cond-false, true≢false}
use Rattle.snap_core.specs.declared.place.Place.{Place}
use Rattle.snap_core.specs.declared.policy.Op.{Op}
use Rattle.snap_core.specs.declared.policy.Op.TheVariants.{Put, Add}
use Rattle.snap_core.specs.declared.policy.Update.{Update}
use Rattle.snap_core.specs.Arrays.{Arrays, same_place, place_at, number_after, update, updates, has}
use Rattle.snap_core.proofs.Unwritten.{neither}
use Rattle.snap_core.proofs.Framed.{has-pow_same}
use Rattle.snap_context.specs.Classes.{wrap}
use Rattle.snap_core.proofs.Places.{same_place-exact}
use Rattle.snap_context.proofs.Wrap.{wrap_assoc, wrap_zero}
use Rattle.snap_core.specs.declared.policy.Atom.{Atom}
use Rattle.snap_equal.specs.declared.tally.Direction.{Direction}
use Rattle.snap_equal.specs.declared.tally.Direction.TheVariants.{Plus, Minus}
use Rattle.snap_equal.specs.Tally.{AddOutside, share, share_of, signed, signed_total, total}
use Rattle.snap_compose.specs.Additions.{IsAddition, added_up, added}
use Rattle.snap_compose.proofs.Splitting.{hit, missed}

-- ---- totals
pub total_small : (us : List Update) (k : List ℕ) (q : Place) → total us k q < 2 ^ 64
total_small [] k q = omega arith
total_small (u ∷ us) k q = omega arith

pub wrap_turn : (x y : ℕ) → wrap x y ≡ wrap y x
wrap_turn x y = omega arith

pub total-append : (us vs : List Update) (k : List ℕ) (q : Place) → total (us ++ vs) k q ≡ wrap (total us k q) (total vs k q)
total-append [] vs k q = sym (wrap_turn 0 (total vs k q) ∙ wrap_zero (total vs k q) (total_small vs k q))
total-append (u ∷ us) vs k q = ap (wrap (share u k q)) (total-append us vs k q) ∙ sym (wrap_assoc (share u k q) (total us k q) (total vs k q))

-- ---- updates that add
module _ (k : List ℕ) (q : Place) where
  step : (u : Update) (m : Arrays) → (u.var ≡ q.var → IsAddition u.op) → m q < 2 ^ 64 → (b : Bool) → same_place (place_at u.var u.index k) q ≡ b → update m u k q ≡ wrap (m q) (share u k q)
  step u m adds small true e =
      let at = same_place-exact (place_at u.var u.index k) q e in
      hit u m k q at ∙ by u.op (adds (ap (λ (p : Place). p.var) at)) ∙ ap (wrap (m q)) (sym (cond-true (same_place (place_at u.var u.index k) q) (added u.op) 0 e))
    where
      by : (op : Op) → IsAddition op → number_after op (m q) k ≡ wrap (m q) (added op)
      by (Put a) h = absurd h
      by (Add n) h = refl
  step u m adds small false e =
      missed u m k q e ∙ sym (wrap_zero (m q) small) ∙ ap (wrap (m q)) (sym (cond-false (same_place (place_at u.var u.index k) q) (added u.op) 0 e))

  pub updates-add : (us : List Update) (m : Arrays) → All (λ u. u.var ≡ q.var → IsAddition u.op) us → m q < 2 ^ 64 → updates m us k q ≡ wrap (m q) (total us k q)
  updates-add [] m adds small = sym (wrap_zero (m q) small)
  updates-add (u ∷ us) m adds small =
      let here : update m u k q ≡ wrap (m q) (share u k q) = step u m (adds 0 u (omega arith)) small (same_place (place_at u.var u.index k) q) refl in
      updates-add us (update m u k) (λ i d l. adds (suc i) d (omega (arith, l))) (rw here (omega arith))
      ∙ ap (λ x. wrap x (total us k q)) here
      ∙ wrap_assoc (m q) (share u k q) (total us k q)

-- ---- one sum changed
module _ (k : List ℕ) (q : Place) (n : ℕ) where
  plus_share : (b : Bool) (op : Op) → IsAddition op → cond b (added (added_up op n)) 0 ≡ wrap (cond b (added op) 0) (cond b n 0)
  plus_share true (Put a) h = absurd h
  plus_share true (Add x) h = refl
  plus_share false op h = omega arith

  pub total-set : (us : List Update) (i : ℕ) (d : Update) → i < length us → IsAddition (get_or us i d).op
      → total (set us i (record (get_or us i d) { op = added_up (get_or us i d).op n })) k q ≡ wrap (total us k q) (cond (same_place (place_at (get_or us i d).var (get_or us i d).index k) q) n 0)
  total-set [] i d l h = absurd (omega (arith, l))
  total-set (u ∷ us) zero d l h =
      ap (λ x. wrap x (total us k q)) (plus_share (same_place (place_at u.var u.index k) q) u.op h)
      ∙ omega arith
  total-set (u ∷ us) (suc i) d l h =
      ap (wrap (share u k q)) (total-set us i d (omega (arith, l)) h)
      ∙ sym (wrap_assoc (share u k q) (total us k q) (cond (same_place (place_at (get_or us i d).var (get_or us i d).index k) q) n 0))

-- ---- sums with a sign
module _ (k : List ℕ) (q : Place) where
  pub signed_total-plus : (us : List Update) → signed_total Plus us k q ≡ total us k q
  signed_total-plus [] = refl
  signed_total-plus (u ∷ us) = ap (wrap (share u k q)) (signed_total-plus us)

  undone : (b : Bool) (n x y : ℕ) → wrap x y ≡ 0 → wrap (wrap (cond b (signed Minus n) 0) x) (wrap (cond b n 0) y) ≡ 0
  undone true n x y e = omega (arith, e)
  undone false n x y e = omega (arith, e)

  pub signed_total-minus : (us : List Update) → wrap (signed_total Minus us k q) (total us k q) ≡ 0
  signed_total-minus [] = refl
  signed_total-minus (u ∷ us) = undone (same_place (place_at u.var u.index k) q) (added u.op) (signed_total Minus us k q) (total us k q) (signed_total-minus us)

-- ---- variables at which something is put
pub kept_outside : (arrays n v : ℕ) → has (bit_or arrays (2 ^ n)) v ≡ false → has arrays v ≡ false
kept_outside arrays n v e = (neither arrays (2 ^ n) v e).0

-- an update of a variable that the set has needs to be no addition
pub put_in : (arrays : ℕ) (u : Update) → has (bit_or arrays (2 ^ u.var)) u.var ≡ false → IsAddition u.op
put_in arrays u e = absurd (true≢false (sym (has-pow_same u.var) ∙ (neither arrays (2 ^ u.var) u.var e).1))

pub outside_more : (arrays wider : ℕ) (us : List Update) (i : ℕ) (u : Update) → i < length us → u ≡ get_or us i u → ((v : ℕ) → has wider v ≡ false → has arrays v ≡ false)
    → (has wider u.var ≡ false → IsAddition u.op) → AddOutside arrays (take i us) → AddOutside wider (take (i + 1) us)
outside_more arrays wider us i u l is fewer here h =
    let P : Update → Type 0 = λ u. has wider u.var ≡ false → IsAddition u.op in
    All-more P us i u l (λ j d lj n. h j d lj (fewer (get_or (take i us) j d).var n)) (subst P is here)

pub outside_wider : (arrays wider : ℕ) (us : List Update) → ((v : ℕ) → has wider v ≡ false → has arrays v ≡ false) → AddOutside arrays us → AddOutside wider us
outside_wider arrays wider us fewer h = λ j d l n. h j d l (fewer (get_or us j d).var n)

none_either : (b : Bool) → ◌≡◌ {A = ℕ} (cond b 0 0) 0
none_either true = refl
none_either false = refl

-- ---- sums of both lists
pub difference_of : (left right minus first second : ℕ) → left < 2 ^ 64 → first ≡ wrap 0 left → second ≡ wrap first minus → wrap minus right ≡ 0 → wrap second right ≡ left
difference_of left right minus first second l f s z = omega (arith, l, f, s, z)

-- an addition of 0 more
pub total-nothing : (us : List Update) (u : Update) (k : List ℕ) (q : Place) → u.op ≡ Add 0 → total (us ++ u ∷ []) k q ≡ total us k q
total-nothing us u k q e =
    total-append us (u ∷ []) k q
    ∙ ap (λ x. wrap (total us k q) (wrap x 0)) (ap (λ op. share_of u (added op) k q) e ∙ none_either (same_place (place_at u.var u.index k) q))
    ∙ wrap_zero (total us k q) (total_small us k q)

-- ---- shares
pub share_none : (u : Update) (n : ℕ) (k : List ℕ) (q : Place) → n ≡ 0 → share_of u n k q ≡ 0
share_none u n k q e = ap (λ x. share_of u x k q) e ∙ none_either (same_place (place_at u.var u.index k) q)

pub share_other : (u : Update) (n : ℕ) (k : List ℕ) (q : Place) → u.var ≢ q.var → share_of u n k q ≡ 0
share_other u n k q other = by (same_place (place_at u.var u.index k) q) refl
  where
    by : (b : Bool) → same_place (place_at u.var u.index k) q ≡ b → cond b n 0 ≡ 0
    by true e = absurd (other (ap (λ (p : Place). p.var) (same_place-exact (place_at u.var u.index k) q e)))
    by false e = refl

pub signed-none : (sign : Direction) → signed sign 0 ≡ 0
signed-none Plus = refl
signed-none Minus = refl

signed_total_small : (sign : Direction) (us : List Update) (k : List ℕ) (q : Place) → signed_total sign us k q < 2 ^ 64
signed_total_small sign [] k q = omega arith
signed_total_small sign (u ∷ us) k q = omega arith

signed_total-push : (sign : Direction) (us : List Update) (u : Update) (k : List ℕ) (q : Place) → signed_total sign (us ++ u ∷ []) k q ≡ wrap (signed_total sign us k q) (share_of u (signed sign (added u.op)) k q)
signed_total-push sign [] u k q = wrap_turn (share_of u (signed sign (added u.op)) k q) 0
signed_total-push sign (x ∷ us) u k q =
    ap (wrap (share_of x (signed sign (added x.op)) k q)) (signed_total-push sign us u k q)
    ∙ sym (wrap_assoc (share_of x (signed sign (added x.op)) k q) (signed_total sign us k q) (share_of u (signed sign (added u.op)) k q))

module _ (sign : Direction) (us : List Update) (i : ℕ) (u : Update) (k : List ℕ) (q : Place) (l : i < length us) (is : u ≡ get_or us i u) where
  pub signed_total-more : signed_total sign (take (i + 1) us) k q ≡ wrap (signed_total sign (take i us) k q) (share_of u (signed sign (added u.op)) k q)
  signed_total-more =
      ap (λ xs. signed_total sign xs k q) (take_more us i u l ∙ ap (λ (x : Update). take i us ++ x ∷ []) (sym is))
      ∙ signed_total-push sign (take i us) u k q

  pub signed_total-same : share_of u (signed sign (added u.op)) k q ≡ 0 → signed_total sign (take (i + 1) us) k q ≡ signed_total sign (take i us) k q
  signed_total-same none =
      signed_total-more ∙ ap (wrap (signed_total sign (take i us) k q)) none
      ∙ wrap_zero (signed_total sign (take i us) k q) (signed_total_small sign (take i us) k q)

pub total-push : (us : List Update) (u : Update) (n : ℕ) (index : List Atom) (k : List ℕ) (q : Place) → index ≡ u.index
    → total (us ++ record { var = u.var; index = index; op = Add n } ∷ []) k q ≡ wrap (total us k q) (share_of u n k q)
total-push us u n index k q e =
    total-append us (record { var = u.var; index = index; op = Add n } ∷ []) k q
    ∙ ap (λ (ix : List Atom). wrap (total us k q) (wrap (cond (same_place (place_at u.var ix k) q) n 0) 0)) e
    ∙ omega arith

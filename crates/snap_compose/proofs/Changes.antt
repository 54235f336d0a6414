-- What the updates of two leaves make, one after the other.
use Rattle.std.proofs.Common.{◌≡◌, ◌≢◌, ℕ, Bool, true, false, cond, not, ◌||◌, List, [], ◌∷◌, ◌++◌, refl, sym, ap, ◌∙◌, arith, bit_or, bit_and, Some, None}
use Rattle.std.specs.Prelude.{nat_eq, ◌==◌}
use Rattle.std.specs.Int.{bit_at}
use Rattle.std.proofs.lemmas.Bool.{eqb-true, ne_eqb, and_left, cond-true, cond-false, false≢true}
use Rattle.std.proofs.lemmas.Nat.Bits.{bit_at_or, bit_at_and, bit_at-lt, bit_at-zero}
use Rattle.snap_core.specs.declared.place.Place.{Place}
use Rattle.snap_core.specs.declared.policy.Update.{Update}
use Rattle.snap_core.specs.Arrays.{Arrays, same_place, place_at, update, updates, taken, has, meets}
use Rattle.snap_core.specs.Packets.{union}
use Rattle.snap_core.proofs.Unwritten.{without}
use Rattle.snap_core.proofs.Updates.{agree-updates}
use Rattle.snap_diagrams.specs.declared.leaf.Leaf.{Leaf}
use Rattle.snap_diagrams.specs.declared.leaf.Leaf.TheVariants.{Race, Go as Goes}
use Rattle.snap_core.specs.Tests.{results}
use Rattle.snap_diagrams.specs.Leaves.{Answer, answer_of}
use Rattle.snap_compose.specs.Beside.{beside, logs_clash, merged}
use Rattle.snap_compose.specs.Joined.{only, beside_leaf}
use Rattle.snap_compose.specs.United.{united}
use Rattle.snap_compose.proofs.Results.{all_packets}
use Rattle.snap_compose.proofs.United.{results-united}

module _ (k : List ℕ) where
  elsewhere : (u : Update) (m : Arrays) (q : Place) → u.var ≢ q.var → update m u k q ≡ m q
  elsewhere u m q differ = cond-false (same_place (place_at u.var u.index k) q) _ (m q) (and_left (nat_eq u.var q.var) _ (ne_eqb u.var q.var differ))

  differs : (w v x : ℕ) → has w v ≡ true → has w x ≡ false → v ≢ x
  differs w v x t f e = false≢true (sym f ∙ ap (has w) (sym e) ∙ t)

  keeps_out : (w : ℕ) (us : List Update) (m : Arrays) (q : Place) → has w q.var ≡ false → updates m (only w us) k q ≡ m q
  keeps_out w [] m q h = refl
  keeps_out w (u ∷ us) m q h = by (has w u.var) refl (keeps_out w us (update m u k) q h) (keeps_out w us m q h)
    where
      by : (t : Bool) → has w u.var ≡ t → updates (update m u k) (only w us) k q ≡ update m u k q → updates m (only w us) k q ≡ m q → updates m (cond t (u ∷ only w us) (only w us)) k q ≡ m q
      by true e i j = i ∙ elsewhere u m q (differs w u.var q.var e h)
      by false e i j = j

  keeps_in : (w : ℕ) (us : List Update) (m : Arrays) (q : Place) → has w q.var ≡ true → updates m (only w us) k q ≡ updates m us k q
  keeps_in w [] m q h = refl
  keeps_in w (u ∷ us) m q h = by (has w u.var) refl (keeps_in w us (update m u k) q h) (keeps_in w us m q h)
    where
      by : (t : Bool) → has w u.var ≡ t → updates (update m u k) (only w us) k q ≡ updates (update m u k) us k q → updates m (only w us) k q ≡ updates m us k q
          → updates m (cond t (u ∷ only w us) (only w us)) k q ≡ updates (update m u k) us k q
      by true e i j = i
      by false e i j = j ∙ agree-updates k us q.var m (update m u k) (λ p var. sym (elsewhere u m p (λ s. differs w q.var u.var h e (sym (s ∙ var))))) q refl

  in_order : (us vs : List Update) (m : Arrays) → updates m (us ++ vs) k ≡ updates (updates m us k) vs k
  in_order [] vs m = refl
  in_order (u ∷ us) vs m = in_order us vs (update m u k)

  side_by_side : (w x : ℕ) (us vs : List Update) (m : Arrays) (p : Place) → ((v : ℕ) → has x v ≡ true → has w v ≡ false)
      → updates (updates m (only w us) k) (only x vs) k p ≡ merged m (updates m us k) w (updates m vs k) x p
  side_by_side w x us vs m p apart = by (has x p.var) refl
    where
      first : (t : Bool) → has w p.var ≡ t → updates m (only w us) k p ≡ taken m (updates m us k) w p
      first true e = keeps_in w us m p e ∙ sym (cond-true _ _ _ e)
      first false e = keeps_out w us m p e ∙ sym (cond-false _ _ _ e)

      by : (t : Bool) → has x p.var ≡ t → updates (updates m (only w us) k) (only x vs) k p ≡ merged m (updates m us k) w (updates m vs k) x p
      by true e =
          keeps_in x vs (updates m (only w us) k) p e
          ∙ agree-updates k vs p.var (updates m (only w us) k) m (λ q var. keeps_out w us m q (ap (has w) var ∙ apart p.var e)) p refl
          ∙ sym (cond-true _ _ _ e)
      by false e = keeps_out x vs (updates m (only w us) k) p e ∙ first (has w p.var) refl ∙ sym (cond-false _ _ _ e)

or_first : (a b : Bool) → (a || b) ≡ false → a ≡ false
or_first true b e = e
or_first false b e = refl

not_false : (n : ℕ) → not (n == 0) ≡ false → n ≡ 0
not_false n e = eqb-true n 0 (flip (n == 0) e)
  where
    flip : (b : Bool) → not b ≡ false → b ≡ true
    flip true e = refl
    flip false e = sym e

-- without a clash, no variable is written by both
pub apart : (r w s x : ℕ) → logs_clash r w s x ≡ false → (v : ℕ) → has x v ≡ true → has w v ≡ false
apart r w s x e v h =
    let zero = not_false (bit_and w (bit_or s x)) (or_first (meets w (bit_or s x)) (meets x (bit_or r w)) e) in
    let one = eqb-true (bit_at x v) 1 h in
    let a = bit_at_and w (bit_or s x) v in
    let o = bit_at_or s x v in
    let z = ap (λ n. bit_at n v) zero ∙ bit_at-zero v in
    let l = bit_at-lt w v in
    let ls = bit_at-lt s v in
    without w v (omega (arith, one, a, o, z, l, ls))

-- the answer of two leaves side by side
pub answer_beside : (x y : Leaf) (k : List ℕ) → answer_of (beside_leaf x y) k ≡ beside (answer_of x k) (answer_of y k)
answer_beside Race y k = refl
answer_beside (Goes x) Race k = refl
answer_beside (Goes x) (Goes y) k = by (logs_clash x.reads x.writes y.reads y.writes) refl
  where
    both : Leaf
    both = Goes (record { outs = united x.outs y.outs; ups = only x.writes x.ups ++ only y.writes y.ups; reads = bit_or x.reads y.reads; writes = bit_or x.writes y.writes })

    left : Arrays → Arrays
    left m = updates m (only x.writes x.ups ++ only y.writes y.ups) k

    right : Arrays → Arrays
    right m = merged m (updates m x.ups k) x.writes (updates m y.ups k) y.writes

    at : logs_clash x.reads x.writes y.reads y.writes ≡ false → (m : Arrays) (p : Place) → left m p ≡ right m p
    at e m p = ap (λ (n : Arrays). n p) (in_order k (only x.writes x.ups) (only y.writes y.ups) m)
        ∙ side_by_side k x.writes y.writes x.ups y.ups m p (apart x.reads x.writes y.reads y.writes e)

    change : logs_clash x.reads x.writes y.reads y.writes ≡ false → left ≡ right
    change e = λ i m p. at e m p i

    answers : Answer
    answers = record { packets = union (results x.outs k) (results y.outs k); reads = bit_or x.reads y.reads; writes = bit_or x.writes y.writes; change = λ m. merged m (updates m x.ups k) x.writes (updates m y.ups k) y.writes }

    by : (t : Bool) → logs_clash x.reads x.writes y.reads y.writes ≡ t → answer_of (cond t Race both) k ≡ cond t None (Some answers)
    by true e = refl
    by false e = λ i. Some (record { packets = (results-united k x.outs y.outs ∙ all_packets x.outs y.outs k) i; reads = bit_or x.reads y.reads; writes = bit_or x.writes y.writes; change = change e i })

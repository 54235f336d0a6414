-- The whole store, array by array, and arrays that move to other switches.
use Rattle.std.proofs.Common.{◌≡◌, ℕ, ◌+◌, ◌<◌, ◌≤◌, Bool, true, false, List, [], length, Option, Some, None, refl, sym, ap, ◌∙◌, arith, ⊎_elim}
use Rattle.std.specs.Prelude.{◌==◌, option_map, unwrap_or, if◌then◌else◌}
use Rattle.std.proofs.lemmas.Bool.{cases_eq, cases_lt, eqb-true, eq-eqb, ne_eqb}
use Rattle.std.proofs.lemmas.List.{get_or-set_other, get_or-set_same, length-set}
use Rattle.std.proofs.lemmas.Option.{slice_get_past}
use lib.ListN.{set}
use Rattle.snap_core.specs.declared.place.Place.{Place}
use Rattle.snap_core.specs.Arrays.{Arrays, with_array, zero_arrays}
use Rattle.snap_core.specs.Cells.{Kept, arrays_of}
use Rattle.snap_core.proofs.ArrayListings.{below, below-high, below-low, below-more, below-none}
use Rattle.snap_rows.specs.declared.tables.ArrayAt.{ArrayAt}
use Rattle.snap_rows.specs.declared.tables.Tables.{Tables}
use Rattle.snap_rows.specs.Entries.{owner_of}
use Rattle.snap_rows.specs.Form.{array_count}
use Rattle.snap_rows.specs.Network.{Net, start, global_store}
use Rattle.snap_net.specs.Moves.{Changed}
use Rattle.snap_net.specs.Shown.{NetView, Holds, Represents, gathered, store_of}

-- ---- the whole store
pub gathered-whole : (v : NetView) (s : Net) → Represents v s → gathered v.tables v.stores ≡ global_store v.tables s
gathered-whole v s shows = λ i p. by p (owner_of v.tables p.var) i
  where
    by : (p : Place) (o : Option ℕ) → unwrap_or (option_map (λ w. store_of v.stores w p) o) 0 ≡ unwrap_or (option_map (λ w. s.stores w p) o) 0
    by p None = refl
    by p (Some w) = ap (λ (m : Arrays). m p) (sym (shows.stores w))

-- an array is as its switch has it
gathered-at : (t : Tables) (stores : List Kept) (n w : ℕ) → owner_of t n ≡ Some w → (p : Place) → n ≡ p.var → gathered t stores p ≡ store_of stores w p
gathered-at t stores n w owner p is = ap (λ (o : Option ℕ). unwrap_or (option_map (λ x. store_of stores x p) o) 0) (ap (owner_of t) (sym is) ∙ owner)

pub gathered-more : (t : Tables) (stores : List Kept) (n w : ℕ) → owner_of t n ≡ Some w → (p : Place) → below (n + 1) (gathered t stores) p ≡ (if n == p.var then store_of stores w p else below n (gathered t stores) p)
gathered-more t stores n w owner p = below-more n (gathered t stores) p ∙ by (n == p.var) refl
  where
    by : (b : Bool) → (n == p.var) ≡ b → (if b then gathered t stores p else below n (gathered t stores) p) ≡ (if b then store_of stores w p else below n (gathered t stores) p)
    by true e = gathered-at t stores n w owner p (eqb-true n p.var e)
    by false e = refl

-- there are no arrays past the last
pub gathered-all : (t : Tables) (stores : List Kept) → below (array_count t) (gathered t stores) ≡ gathered t stores
gathered-all t stores = λ i p. ⊎_elim
    (λ low. below-low (array_count t) (gathered t stores) p low)
    (λ high. below-high (array_count t) (gathered t stores) p high
    ∙ sym (ap (λ (o : Option ℕ). unwrap_or (option_map (λ w. store_of stores w p) o) 0) (ap (option_map (λ (a : ArrayAt). a.at)) (slice_get_past t.arrays p.var high))))
    (cases_lt p.var (array_count t)) i

-- ---- the arrays of one switch have changed
pub changed_at : (old : List Kept) (at : ℕ) (x : Kept) (m : Arrays) → at < length old → arrays_of x ≡ m → Changed old (set old at x) at m
changed_at old at x m within is = record {
  count = length-set old at x;
  here = ap arrays_of (get_or-set_same old at x [] within) ∙ is;
  others = λ w other. ap arrays_of (get_or-set_other old at w x [] other);
}

-- ---- arrays that move
-- at a place of another array nothing changes
other_array : (old new : List Kept) (at n : ℕ) (m : Arrays) → Changed old new at (with_array (store_of old at) m n) → (w : ℕ) (p : Place) → (n == p.var) ≡ false → store_of new w p ≡ store_of old w p
other_array old new at n m changed w p apart = ⊎_elim
    (λ e. ap (λ v. store_of new v p) e ∙ ap (λ (a : Arrays). a p) changed.here ∙ ap (λ b. if b then m p else store_of old at p) apart ∙ ap (λ v. store_of old v p) (sym e))
    (λ e. ap (λ (a : Arrays). a p) (changed.others w e))
    (cases_eq w at)

this_array : (old new : List Kept) (at n : ℕ) (m : Arrays) → Changed old new at (with_array (store_of old at) m n) → (p : Place) → (n == p.var) ≡ true → store_of new at p ≡ m p
this_array old new at n m changed p is = ap (λ (a : Arrays). a p) changed.here ∙ ap (λ b. if b then m p else store_of old at p) is

nothing : (b : Bool) (n : ℕ) → n ≡ 0 → (if b then n else 0) ≡ 0
nothing true n e = e
nothing false n e = refl

pub holds-none : (t : Tables) (stores : List Kept) (m : Arrays) → ((w : ℕ) → store_of stores w ≡ zero_arrays) → Holds t stores (below 0 m)
holds-none t stores m empty w = (λ i p. nothing (unwrap_or (option_map (λ o. o == w) (owner_of t p.var)) false) (below 0 m p) (below-none m p) i) ∙ sym (empty w)

-- array n moves from here to there. At first each was where the old tables have it
module _ (from to : Tables) (first old old' new new' : List Kept) (n here there : ℕ) (owner : owner_of from n ≡ Some here) (owner' : owner_of to n ≡ Some there)
    (left : Changed old old' here (with_array (store_of old here) (store_of new there) n)) (put : Changed new new' there (with_array (store_of new there) (store_of old here) n))
    (same : (w : ℕ) (p : Place) → n ≤ p.var → store_of old w p ≡ store_of first w p) where
  -- the arrays that are left are as they were
  pub moved-same : (w : ℕ) (p : Place) → n + 1 ≤ p.var → store_of old' w p ≡ store_of first w p
  moved-same w p high =
      other_array old old' here n (store_of new there) left w p (ne_eqb n p.var (λ e. omega (arith, high, e)))
      ∙ same w p (omega (arith, high))

  abbrev pub M : ℕ → Arrays
  M k = below k (gathered from first)

  abbrev stands : ℕ → Place → Bool
  stands w p = unwrap_or (option_map (λ o. o == w) (owner_of to p.var)) false

  pub moved-holds : Holds to new (M n) → Holds to new' (M (n + 1))
  moved-holds holds w = λ i p. by p (n == p.var) refl i
    where
      before : (p : Place) → (if stands w p then M n p else 0) ≡ store_of new w p
      before p = ap (λ (a : Arrays). a p) (holds w)

      by : (p : Place) (b : Bool) → (n == p.var) ≡ b → (if stands w p then M (n + 1) p else 0) ≡ store_of new' w p
      by p true e =
          let is : n ≡ p.var = eqb-true n p.var e in
          let at : stands w p ≡ (there == w) = ap (λ (o : Option ℕ). unwrap_or (option_map (λ x. x == w) o) false) (ap (owner_of to) (sym is) ∙ owner') in
          let number : M (n + 1) p ≡ store_of old here p =
          gathered-more from first n here owner p ∙ ap (λ b. if b then store_of first here p else M n p) e ∙ sym (same here p (omega (arith, is))) in
          ⊎_elim
          (λ x.
          ap (λ b. if b then M (n + 1) p else 0) (at ∙ eq-eqb there w (sym x)) ∙ number
          ∙ sym (ap (λ v. store_of new' v p) x ∙ this_array new new' there n (store_of old here) put p e))
          (λ x.
          let away : stands w p ≡ false = at ∙ ne_eqb there w (λ y. x (sym y)) in
          ap (λ b. if b then M (n + 1) p else 0) away
          ∙ sym (ap (λ (a : Arrays). a p) (put.others w x) ∙ sym (before p) ∙ ap (λ b. if b then M n p else 0) away))
          (cases_eq w there)
      by p false e =
          ap (λ k. if stands w p then k else 0) (gathered-more from first n here owner p ∙ ap (λ b. if b then store_of first here p else M n p) e)
          ∙ before p
          ∙ sym (other_array new new' there n (store_of old here) put w p e)

-- the network over the new tables, once all have moved
pub rehoused : (to : Tables) (old new : NetView) → Holds to new.stores (gathered old.tables old.stores) → new.injected ≡ old.injected → new.flying ≡ [] → (s : Net) → Represents old s
    → Represents new (record (start to (global_store old.tables s)) { injected = s.injected })
rehoused to old new holds same none s shows = record {
  stores = λ w. ap (λ (m : Arrays). (start to m).stores w) (sym (gathered-whole old s shows)) ∙ holds w;
  injected = shows.injected ∙ sym same;
  flying = sym none;
}

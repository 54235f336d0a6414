-- Closed marks are of all wanted pairs.
use Rattle.std.proofs.Common.{◌≡◌, ◌≢◌, ℕ, zero, suc, ◌<◌, ◌⊎◌, inl, inr, ⊎_elim, Bool, true, false, cond, List, [], ◌∷◌, ◌++◌, map, length, Option, Some, refl, sym, subst, arith}
use Rattle.std.specs.Prelude.{slice_index_or, nat_eq, Contains}
use Rattle.std.proofs.lemmas.Bool.{eqb-true, eqb-false}
use Rattle.snap_core.specs.declared.policy.Update.{Update}
use Rattle.snap_rows.specs.declared.tables.Tables.{Tables}
use Rattle.snap_rows.specs.declared.tables.Row.{Row}
use Rattle.snap_rows.specs.declared.tables.Row.TheVariants.{Field, State, Go, Leaf, Stop, Last}
use Rattle.snap_rows.specs.declared.tables.Stage.{Stage as LeafStage}
use Rattle.snap_rows.specs.Entries.{Parts, var_of, next}
use Rattle.snap_rows.specs.Ways.{Way, here, on, Route, end, leg, LeadsTo}
use Rattle.snap_faithful.specs.OnDemand.{stages_of, row_on, place_of, HasNodes}
use Rattle.snap_faithful.specs.Derived.{IsWanted, at_port, onward}
use Rattle.snap_faithful.specs.Closed.{IsClosed, ClosedIsWhole}

-- ---- members
in_nothing : (x : ℕ) → Contains [] x → ⊥
in_nothing x h = let l : h.0 < 0 = h.1 in omega (arith, l)

in_more : (x y : ℕ) (xs : List ℕ) → Contains (y ∷ xs) x → (y ≡ x) ⊎ Contains xs x
in_more x y xs h = by h.0 h.1 h.2
  where
    by : (k : ℕ) → k < length (y ∷ xs) → slice_index_or (y ∷ xs) k x ≡ x → (y ≡ x) ⊎ Contains xs x
    by zero within e = inl e
    by (suc k) within e = inr (k, (let l : suc k < suc (length xs) = within in omega (arith, l)), e)

in_either : (x : ℕ) (xs ys : List ℕ) → Contains (xs ++ ys) x → Contains xs x ⊎ Contains ys x
in_either x [] ys h = inr h
in_either x (z ∷ xs) ys h = ⊎_elim (λ e. inl (0, (let n = length xs in omega arith), e)) (λ more. ⊎_elim (λ a. inl (suc a.0, (let l : a.0 < length xs = a.1 in omega (arith, l)), a.2)) (λ b. inr b) (in_either x xs ys more)) (in_more x z (xs ++ ys) h)

module _ (t : Tables) (nodes : ℕ → Option Row) (has : ℕ → ℕ → Bool) (one : t.version ≡ 1) (good : HasNodes t nodes) (closed : IsClosed t nodes has) where
  -- along a walk each switch is marked, and so is its end
  along : (n x : ℕ) → ((w : ℕ) → w ≢ x → has w n ≡ true → has (next t w x) n ≡ true) → {w : ℕ} {ws : List ℕ} → Way t x w ws → has w n ≡ true → (v : ℕ) → Contains ws v → has v n ≡ true
  along n x step here mark v inside = absurd (in_nothing v inside)
  along n x step (on {w = w} {ws = ws} apart way) mark v inside =
      let more = step w apart mark in
      ⊎_elim (λ e. subst (λ u. has u n ≡ true) e more) (λ rest. along n x step way more v rest) (in_more v (next t w x) ws inside)

  leaf : (w n : ℕ) (us : List Update) (os : List Parts) → nodes n ≡ Some (Last us os) → has w n ≡ true → (ss : List LeafStage) → stages_of (place_of t) us ≡ ss → {ws : List ℕ} → Route t w (map (λ (s : LeafStage). s.at) ss) ws
      → (x : ℕ) → Contains ws x → has x n ≡ true
  leaf w n us os node mark [] is end x inside = absurd (in_nothing x inside)
  leaf w n us os node mark (s ∷ ss) is (leg {ws = ws} {vs = vs} way route) x inside = ⊎_elim
      (λ first. along n s.at (λ w' apart m. closed.first w' n us os s ss node is apart m) way mark x first)
      (λ later. closed.rest w n us os s ss node is mark vs route x later)
      (in_either x ws vs inside)

  whole : {w n : ℕ} → IsWanted t nodes w n → has w n ≡ true
  whole (at_port {p = p} {w = w} c) = closed.ports p w c
  whole (onward {w = w} {n = n} {x = x} {k = k} {c = c} before node to) = by c node to (whole before)
    where
      by : (c : Row) → nodes n ≡ Some c → LeadsTo t w n (row_on (place_of t) w c) x k → has w n ≡ true → has x k ≡ true
      by (Field test y z) node to mark =
          let ways = closed.fields w n y z test node mark in
          subst (λ u. has u k ≡ true) (sym to.0) (⊎_elim (λ e. subst (λ v. has w v ≡ true) (sym e) ways.0) (λ e. subst (λ v. has w v ≡ true) (sym e) ways.1) to.1)
      by (State test y z) node to mark = stands (nat_eq (place_of t (var_of test)) w) refl to
        where
          stands : (b : Bool) → nat_eq (place_of t (var_of test)) w ≡ b → LeadsTo t w n (cond b (State test y z) (Go (place_of t (var_of test)))) x k → has x k ≡ true
          stands true e (inl to) =
              let ways = closed.owners w n y z test node (eqb-true (place_of t (var_of test)) w e) mark in
              subst (λ u. has u k ≡ true) (sym to.0) (⊎_elim (λ e. subst (λ v. has w v ≡ true) (sym e) ways.0) (λ e. subst (λ v. has w v ≡ true) (sym e) ways.1) to.1)
          stands true e (inr to) = absurd (let a = to.0 in let b = one in omega (arith, a, b))
          stands false e to =
              subst (λ v. has x v ≡ true) (sym to.1) (subst (λ u. has u n ≡ true) (sym to.0) (closed.others w n y z test node (eqb-false (place_of t (var_of test)) w e) mark))
      by (Last us os) node to mark = subst (λ v. has x v ≡ true) (sym to.0) (leaf w n us os node mark (stages_of (place_of t) us) refl to.1.1 x to.1.2)
      by (Go v) node to mark = absurd (good.kinds n (Go v) node)
      by (Leaf ss os) node to mark = absurd (good.kinds n (Leaf ss os) node)
      by Stop node to mark = absurd (good.kinds n Stop node)

pub closed_is_whole : ClosedIsWhole
closed_is_whole t nodes has one good closed w n wanted = whole t nodes has one good closed wanted

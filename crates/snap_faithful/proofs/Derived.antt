-- Rows of exactly the wanted pairs are those on demand.
use Rattle.std.proofs.Common.{◌≡◌, ◌≢◌, ℕ, inl, inr, Bool, true, false, cond, Option, Some, None, refl, sym, ap, subst, ◌∙◌, arith}
use Rattle.std.specs.Prelude.{nat_eq, IsSome, option_map}
use Rattle.std.proofs.lemmas.Option.{none-some, slice_get_within, get_or_from_slice_get, same_Some}
use Rattle.snap_rows.specs.declared.tables.Tables.{Tables}
use Rattle.snap_rows.specs.declared.tables.Row.{Row}
use Rattle.snap_rows.specs.declared.tables.Row.TheVariants.{Field, State, Go, Leaf, Stop, Last}
use Rattle.snap_rows.specs.Entries.{row_at, var_of}
use Rattle.snap_rows.specs.Ways.{LeadsTo, Reached, port, lead}
use Rattle.snap_faithful.specs.OnDemand.{row_on, place_of, HasNodes, AreOnDemand}
use Rattle.snap_faithful.specs.Derived.{IsWanted, at_port, onward, AreMarked, DerivedIsOnDemand}

module _ (t : Tables) (nodes : ℕ → Option Row) (has : ℕ → ℕ → Bool) (one : t.version ≡ 1) (good : HasNodes t nodes) (root : nodes 0 ≢ None) (marked : AreMarked t nodes has) where
  some : (n : ℕ) → nodes n ≢ None → (c : Row) × (nodes n ≡ Some c)
  some n ne = by (nodes n) refl
    where
      by : (o : Option Row) → nodes n ≡ o → (c : Row) × (nodes n ≡ Some c)
      by None e = absurd (ne e)
      by (Some c) e = (c, e)

  -- a wanted number has a node
  wanted_some : {w n : ℕ} → IsWanted t nodes w n → nodes n ≢ None
  wanted_some (at_port c) = root
  wanted_some (onward {w = w} {n = n} {x = x} {k = k} {c = c} before node to) = by c node to
    where
      by : (c : Row) → nodes n ≡ Some c → LeadsTo t w n (row_on (place_of t) w c) x k → nodes k ≢ None
      by (Field test y z) node to = (good.ways n k (Field test y z) node to.1).1
      by (State test y z) node to = stands (nat_eq (place_of t (var_of test)) w) to
        where
          same : k ≡ n → nodes k ≢ None
          same e none = none-some (State test y z) (sym none ∙ ap nodes e ∙ node)

          stands : (b : Bool) → LeadsTo t w n (cond b (State test y z) (Go (place_of t (var_of test)))) x k → nodes k ≢ None
          stands true (inl to) = (good.ways n k (State test y z) node to.1).1
          stands true (inr to) = absurd (let a = to.0 in let b = one in omega (arith, a, b))
          stands false to = same to.1
      by (Last us os) node to = λ none. none-some (Last us os) (sym none ∙ ap nodes to.0 ∙ node)
      by (Go v) node to = absurd (good.kinds n (Go v) node)
      by (Leaf ss os) node to = absurd (good.kinds n (Leaf ss os) node)
      by Stop node to = absurd (good.kinds n Stop node)

  -- and its row
  wanted_row : {w n : ℕ} (c : Row) → IsWanted t nodes w n → nodes n ≡ Some c → row_at t w n ≡ Some (row_on (place_of t) w c)
  wanted_row {w = w} {n = n} c wanted node =
      marked.rows w n ∙ ap (λ b. cond b (option_map (row_on (place_of t) w) (nodes n)) None) (marked.whole w n wanted) ∙ ap (option_map (row_on (place_of t) w)) node

  wanted_is : {w n : ℕ} → IsWanted t nodes w n → IsSome (row_at t w n)
  wanted_is {w = w} {n = n} wanted = let c = some n (wanted_some wanted) in subst (λ o. IsSome o) (sym (wanted_row c.0 wanted c.1)) refl

  -- a row is of a marked pair
  row_marked : (w n : ℕ) (b : Row) → row_at t w n ≡ Some b → IsWanted t nodes w n
  row_marked w n b e = by (has w n) refl
    where
      by : (c : Bool) → has w n ≡ c → IsWanted t nodes w n
      by true f = marked.sound w n f
      by false f = absurd (none-some b (sym (marked.rows w n ∙ ap (λ c. cond c (option_map (row_on (place_of t) w) (nodes n)) None) f) ∙ e))

  body_is : (w n : ℕ) (b : Row) → row_at t w n ≡ Some b → (c : Row) × (nodes n ≡ Some c) × (b ≡ row_on (place_of t) w c)
  body_is w n b e =
      let wanted = row_marked w n b e in
      let c = some n (wanted_some wanted) in
      (c.0, c.1, same_Some b (row_on (place_of t) w c.0) (sym e ∙ wanted_row c.0 wanted c.1))

  reached : {w n : ℕ} → IsWanted t nodes w n → Reached t w n
  reached (at_port c) = port c
  reached (onward {c = c} before node to) = lead (reached before) (wanted_row c before node) to

  pub on_demand : AreOnDemand t nodes
  on_demand = record {
    bodies = body_is;
    ports = λ i p e. wanted_is (at_port (i, slice_get_within t.ports i p e, get_or_from_slice_get t.ports i p p e));
    leads = λ w n x k b e to.
        (let d = body_is w n b e in
        wanted_is (onward {c = d.0} (row_marked w n b e) d.1 (subst (λ y. LeadsTo t w n y x k) d.2 to)));
    least = λ w n b e. reached (row_marked w n b e);
    once = marked.once;
  }

pub derived_is_on_demand : DerivedIsOnDemand
derived_is_on_demand t nodes has one good root marked = on_demand t nodes has one good root marked

-- The topology is in form, and each two of its switches are joined.
use Rattle.std.proofs.Common.{◌≡◌, ℕ, zero, suc, ◌+◌, ◌-◌, ◌%◌, ◌^◌, ◌<◌, ◌≤◌, Bool, true, false, [], ◌∷◌, map, length, ◌≢◌, Some, Less, refl, sym, ap, subst, ◌∙◌, inl, arith}
use Rattle.std.specs.Prelude.{IsTrue, decimal, nat_le, nat_lt, ◌&&◌, ◌||◌, ◌==◌, if◌then◌else◌}
use Rattle.std.specs.List.{Contains, list_all, range_with_len}
use Rattle.std.specs.Ordering.{nat_cmp, ordering_then}
use Rattle.std.specs.List.Sorted.{IsStrictlySortedBy}
use Rattle.std.specs.Str.{bytes_eq}
use Rattle.std.proofs.lemmas.Bool.{and_from, eqb-false, eqb-true, le-leb, lt-ltb}
use Rattle.std.proofs.lemmas.Fmt.{decimal_by_steps, decimal_injective}
use Rattle.std.proofs.lemmas.List.Elements.{All-from_recursion, Contains-get_or}
use Rattle.std.proofs.lemmas.List.FromFn.{get_or-map-range_with_len, length-map-range_with_len}
use Rattle.std.proofs.lemmas.List.Folds.{list_all-append}
use Rattle.std.proofs.lemmas.Simd.{map-map}
use Rattle.std.proofs.lemmas.Slice.Eq.{bytes_eq-Decides}
use Rattle.snap_core.specs.declared.ports.PortAt.{PortAt}
use Rattle.snap_core.specs.Names.{is_name_byte, is_switch_name}
use Rattle.snap_core.specs.Ports.{port_in, link_cmp}
use Rattle.snap_topology.specs.Tables.{IsUnreachable}
use Rattle.snap_topology.specs.Walks.{IsWalk, Linked}
use Rattle.snap_topology.specs.Form.{IsWellFormed, IsLink, IsPort}
use Rattle.snap_demo.specs.Row.{link_of, links, port_of, ports, stated_topology, switch_name, switches}
use Rattle.snap_demo.proofs.Ranges.{apart, each, rising}
use Rattle.snap_core.proofs.Orders.{nat_cmp-Less}

-- ---- names
digit_byte : (d : ℕ) → d < 10 → is_name_byte (48 + d) ≡ true
digit_byte d small = ap (λ b. b || ((nat_le 65 (48 + d) && nat_le (48 + d) 90) || ((nat_le 97 (48 + d) && nat_le (48 + d) 122) || (48 + d == 95 || (48 + d == 46 || 48 + d == 45))))) (and_from _ _ (le-leb 48 (48 + d) (omega arith)) (le-leb (48 + d) 57 (omega arith)))

name_bytes : (i : ℕ) → i < 2 ^ 64 → list_all is_name_byte (decimal i) ≡ true
name_bytes i small = decimal_by_steps (λ n ds. list_all is_name_byte ds ≡ true) (λ n low. one n low) (λ n ds high all. list_all-append is_name_byte ds ((48 + n % 10) ∷ []) ∙ and_from _ _ all (one (n % 10) (omega arith))) i small
  where
    one : (d : ℕ) → d < 10 → list_all is_name_byte ((48 + d) ∷ []) ≡ true
    one d low = ap (λ b. b && true) (digit_byte d low)

is_named : (i : ℕ) → i < 64 → IsTrue (is_switch_name (switch_name i))
is_named i small = and_from (nat_lt 0 (length (switch_name i))) (list_all is_name_byte (decimal i)) (lt-ltb 0 (length (switch_name i)) (omega arith)) (name_bytes i (omega arith))

other_names : (i j : ℕ) → i < j → j < 64 → bytes_eq (switch_name i) (switch_name j) ≡ false
other_names i j less small = apart_by (bytes_eq (decimal i) (decimal j)) refl
  where
    apart_by : (b : Bool) → bytes_eq (decimal i) (decimal j) ≡ b → bytes_eq (decimal i) (decimal j) ≡ false
    apart_by false e = e
    apart_by true e = let same : i ≡ j = decimal_injective i j (omega arith) (omega arith) ((bytes_eq-Decides (decimal i) (decimal j)).0 e) in absurd (omega (arith, same))

-- ---- links and ports
links_rise : (i j : ℕ) → i < j → link_cmp (link_of i) (link_of j) ≡ Less
links_rise i j less = ap (λ o. ordering_then o (nat_cmp (i + 1) (j + 1))) (nat_cmp-Less i j less)

-- each port of the row is at its switch
pub port_in-row : (a k p : ℕ) → a ≤ p → p < a + k → port_in (map port_of (range_with_len a k)) (p + 1) ≡ Some p
port_in-row a zero p least most = absurd (omega arith)
port_in-row a (suc k) p least most = by (a + 1 == p + 1) refl (λ more. port_in-row (a + 1) k p more (omega arith))
  where
    by : (b : Bool) → (a + 1 == p + 1) ≡ b → (a + 1 ≤ p → port_in (map port_of (range_with_len (a + 1) k)) (p + 1) ≡ Some p) → (if b then Some a else port_in (map port_of (range_with_len (a + 1) k)) (p + 1)) ≡ Some p
    by true e rest = ap Some (let same : a + 1 ≡ p + 1 = eqb-true (a + 1) (p + 1) e in let h : a ≡ p = omega (arith, same) in h)
    by false e rest = rest (let other : a + 1 ≢ p + 1 = eqb-false (a + 1) (p + 1) e in omega (arith, other))

module _ (n : ℕ) (some : 1 ≤ n) (few : n ≤ 64) where
  count : length (switches n) ≡ n
  count = length-map-range_with_len switch_name 0 n

  pub row_well_formed : IsWellFormed (stated_topology n)
  row_well_formed = record {
    some = omega (arith, count);
    switches = omega (arith, count);
    names = All-from_recursion (λ name. IsTrue (is_switch_name name)) (switches n) (each switch_name 64 (λ name. IsTrue (is_switch_name name)) is_named 0 n (omega arith));
    different = apart switch_name 64 bytes_eq other_names 0 n (omega arith);
    links = All-from_recursion (IsLink (length (switches n))) (links n) (each link_of (n - 1) (IsLink (length (switches n))) (λ i less. record { lesser = omega arith; below = omega (arith, count) }) 0 (n - 1) (omega arith));
    links_rise = rising link_of (n - 1) link_cmp (λ i j less within. links_rise i j less) 0 (n - 1) (omega arith);
    few_links = (let l = length-map-range_with_len link_of 0 (n - 1) in omega (arith, l));
    ports = All-from_recursion (IsPort (length (switches n))) (ports n) (each port_of n (IsPort (length (switches n))) (λ i less. record { some = omega arith; below = omega (arith, count) }) 0 n (omega arith));
    ports_rise = subst (IsStrictlySortedBy nat_cmp) (sym (map-map (λ (p : PortAt). p.port) port_of (range_with_len 0 n))) (rising (λ i. i + 1) n nat_cmp (λ i j less within. nat_cmp-Less (i + 1) (j + 1) (omega (arith, less))) 0 n (omega arith));
    few_ports = (let l = length-map-range_with_len port_of 0 n in omega (arith, l));
  }

  -- ---- walks
  step : (a : ℕ) → a + 1 < n → Linked (links n) a (a + 1)
  step a within =
      let here : a < length (links n) = (let l = length-map-range_with_len link_of 0 (n - 1) in omega (arith, l)) in
      inl (subst (Contains (links n)) (get_or-map-range_with_len link_of 0 (n - 1) a a (0, 0) (omega arith) (omega arith)) (Contains-get_or (links n) a (0, 0) here))

  walk : (a k : ℕ) → a + k < n → IsWalk (Linked (links n)) a (range_with_len (a + 1) k) (a + k)
  walk a zero within = omega arith
  walk a (suc k) within = (step a (omega arith), subst (IsWalk (Linked (links n)) (a + 1) (range_with_len (a + 1 + 1) k)) (let e : a + 1 + k ≡ a + suc k = omega arith in e) (walk (a + 1) k (omega arith)))

  pub row_is_joined : (a b : ℕ) → IsUnreachable (stated_topology n) a b → ⊥
  row_is_joined a b far =
      let l = far.lesser in
      let m = far.below in
      far.apart (range_with_len (a + 1) (b - a), subst (IsWalk (Linked (links n)) a (range_with_len (a + 1) (b - a))) (let e : a + (b - a) ≡ b = omega (arith, l) in e) (walk a (b - a) (omega (arith, l, m, count))))

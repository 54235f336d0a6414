-- The switch of a port, by a search in ports that rise.
use Rattle.std.proofs.Common.{◌≡◌, ◌≢◌, ◌∙◌, inl, inr, ℕ, zero, suc, ◌<◌, ◌≤◌, Bool, true, false, cond, ◌==◌, List, [], ◌∷◌, length, map, get_or, Some, None, IsSome, unwrap_or, Ok, Err, refl, sym, ap, arith}
use Rattle.std.specs.List.{All}
use Rattle.std.specs.List.Sorted.{IsStrictlySortedBy, IsSearchInRange, IsBinarySearchResult, IsNonDecreasingBy}
use Rattle.std.specs.Ordering.{nat_cmp, ordering_index}
use Rattle.std.proofs.lemmas.Bool.{cases_eq, cases_lt, eq-eqb, false≢true, ne_eqb}
use Rattle.std.proofs.lemmas.Bool.Decides.{nat_tests}
use Rattle.std.proofs.lemmas.Cmp.{ranked}
use Rattle.std.proofs.lemmas.List.{get_or-map, length-map}
use Rattle.std.proofs.lemmas.List.Elements.{All-head, All-map, All-tail, All-weaker}
use Rattle.std.proofs.lemmas.List.Sorted.{IsNonDecreasingBy-from_default}
use Rattle.std.proofs.lemmas.Map.Keys.{below_from_sorted}
use Rattle.snap_core.specs.declared.ports.PortAt.{PortAt}
use Rattle.snap_core.specs.Ports.{port_in}
use Rattle.snap_topology.specs.Form.{IsPort}
use Rattle.snap_placement.specs.declared.demand.Flow.{Flow}
use Rattle.snap_placement.specs.declared.trips.End.{End}
use Rattle.snap_placement.specs.declared.trips.End.TheVariants.{From, To}
use Rattle.snap_placement.specs.declared.trips.Trip.{Trip}
use Rattle.snap_placement.specs.Costs.{switch_of, trip_of}
use Rattle.snap_placement.specs.Placements.{HasPorts}
use Rattle.snap_placement.specs.Steps.{end_of}

abbrev number : PortAt → ℕ
number p = p.port

abbrev nowhere : PortAt
nowhere = record { port = 0; at = 0 }

-- no port is the one that is looked for
absent : (ports : List PortAt) (port : ℕ) → ((k : ℕ) → k < length ports → number (get_or ports k nowhere) ≢ port) → port_in ports port ≡ None
absent [] port apart = refl
absent (p ∷ ports) port apart = rw (ne_eqb p.port port (apart 0 (omega arith))) (absent ports port (λ k lt. apart (suc k) (omega arith)))

-- the port at an index is looked for, and none before it is the same
present : (ports : List PortAt) (port i : ℕ) → i < length ports → number (get_or ports i nowhere) ≡ port → ((k : ℕ) → k < i → number (get_or ports k nowhere) ≢ port) → port_in ports port ≡ Some (get_or ports i nowhere).at
present [] port i lt is apart = absurd (omega arith)
present (p ∷ ports) port zero lt is apart = rw (eq-eqb p.port port is) refl
present (p ∷ ports) port (suc i) lt is apart = rw (ne_eqb p.port port (apart 0 (omega arith))) (present ports port i (omega arith) is (λ k less. apart (suc k) (omega arith)))

module _ (ports : List PortAt) (rise : IsStrictlySortedBy nat_cmp (map number ports)) (port : ℕ) where
  rises : (i j : ℕ) → i < j → j < length ports → number (get_or ports i nowhere) < number (get_or ports j nowhere)
  rises i j lt less =
      let size = length-map ports number in
      let low = below_from_sorted (map number ports) i j 0 rise lt (omega arith) in
      let a = get_or-map number ports i nowhere 0 (omega arith) in
      let b = get_or-map number ports j nowhere 0 less in omega arith

  compared : IsNonDecreasingBy (λ (p : PortAt). ordering_index (nat_cmp p.port port)) ports
  compared = IsNonDecreasingBy-from_default (λ (p : PortAt). ordering_index (nat_cmp p.port port)) ports nowhere (λ i j le in_range.
      let keys_rise : number (get_or ports i nowhere) ≤ number (get_or ports j nowhere) = elim (cases_eq i j) [
        | inl same ↦ let e = ap (λ (k : ℕ). number (get_or ports k nowhere)) same in omega arith
        | inr other ↦ let low = rises i j (omega arith) in_range in omega arith
      ] in
      grind (arith, nat_tests))

  -- the port at an index is the one that is looked for
  found-there : (at : ℕ) → at < length ports → number (get_or ports at nowhere) ≡ port → port_in ports port ≡ Some (get_or ports at nowhere).at
  found-there at in_range is = present ports port at in_range is (λ k lt same. let low = rises k at lt in_range in omega arith)

  -- what a search by number found
  pub found-at : (at : ℕ) → IsSearchInRange (Ok at) (length ports) → IsBinarySearchResult (λ (p : PortAt). nat_cmp p.port port) ports (Ok at) → port_in ports port ≡ Some (get_or ports at nowhere).at
  found-at at in_range equal =
      let is : number (get_or ports at nowhere) ≡ port = ranked _ port _ (sym (equal nowhere)) in
      found-there at in_range is

  pub found-none : (at : ℕ) → IsSearchInRange (Err at) (length ports) → IsBinarySearchResult (λ (p : PortAt). nat_cmp p.port port) ports (Err at) → port_in ports port ≡ None
  found-none at in_range parted =
      let before : (k : ℕ) → k < at → number (get_or ports k nowhere) < port = λ k lt. ranked _ port _ (sym ((parted compared).0 k nowhere (omega arith) lt)) in
      let after : (k : ℕ) → at ≤ k → k < length ports → port < number (get_or ports k nowhere) = λ k le lt. ranked _ port _ (sym ((parted compared).1 k nowhere le lt)) in
      absent ports port (λ k lt same. elim (cases_lt k at) [ inl less ↦ let low = before k less in omega arith | inr more ↦ let high = after k more lt in omega arith ])

-- the port that a guess found
pub found_near : (ports : List PortAt) (port place : ℕ) (entry : PortAt) → IsStrictlySortedBy nat_cmp (map number ports) → place < length ports → ((d : PortAt) → entry ≡ get_or ports place d) → entry.port ≡ port → port_in ports port ≡ Some entry.at
found_near ports port place entry rise within found is =
    let here = sym (found nowhere) in
    found-there ports rise port place within (ap number here ∙ is) ∙ ap (λ (p : PortAt). Some p.at) here

-- the switch of a port that is there is one of the switches
pub switch_of-below : (n : ℕ) (ports : List PortAt) (port : ℕ) → All (IsPort n) ports → IsSome (port_in ports port) → switch_of ports port < n
switch_of-below n [] port all some = absurd (false≢true some)
switch_of-below n (p ∷ ports) port all some = by-test (p.port == port) (All-head (IsPort n) p ports all).below (λ rest. switch_of-below n ports port (All-tail (IsPort n) p ports all) rest) some
  where
    by-test : (b : Bool) → p.at < n → (IsSome (port_in ports port) → switch_of ports port < n) → IsSome (cond b (Some p.at) (port_in ports port)) → unwrap_or (cond b (Some p.at) (port_in ports port)) 0 < n
    by-test true here rest some = here
    by-test false here rest some = rest some

-- the ends of flows between ports that are there
pub trips-below : (end : End) (n : ℕ) (ports : List PortAt) (flows : List Flow) → All (IsPort n) ports → All (HasPorts ports) flows → All (λ (t : Trip). end_of end t < n) (map (trip_of ports) flows)
trips-below From n ports flows all known = All-map (λ (t : Trip). t.from < n) (trip_of ports) flows (All-weaker (HasPorts ports) (λ (f : Flow). switch_of ports f.from < n) (λ f h. switch_of-below n ports f.from all h.0) flows known)
trips-below To n ports flows all known = All-map (λ (t : Trip). t.to < n) (trip_of ports) flows (All-weaker (HasPorts ports) (λ (f : Flow). switch_of ports f.to < n) (λ f h. switch_of-below n ports f.to all h.1) flows known)

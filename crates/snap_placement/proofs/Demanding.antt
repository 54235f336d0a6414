-- What is answered for a listing, and what holds of a demand that is read.
use Rattle.std.proofs.Common.{◌≡◌, ◌≢◌, ◌∙◌, ◌↔◌, ℕ, ◌<◌, ◌≤◌, Bool, true, false, cond, List, [], ◌∷◌, All, length, find, is_none, IsSome, option_map, Option, Some, None, Result, Ok, Err, IfErr, IfOk, MatchResult, Vec, nat_lt, refl, sym, ap, subst, arith, slice_index_or}
use Rattle.std.specs.List.{AllByRecursion, Contains, flat_map}
use Rattle.std.specs.List.Sorted.{IsStrictlySortedBy}
use Rattle.std.specs.Map.{keys_of}
use Rattle.std.specs.Option.{option_or}
use Rattle.std.specs.Ordering.{nat_cmp}
use Rattle.std.specs.declared.alloc.Global.{Global}
use Rattle.std.specs.Cmp.Lexicographic.{slice_cmp}
use Rattle.std.proofs.lemmas.Bool.{ltb-false}
use Rattle.std.proofs.lemmas.List.Elements.{All-contains_itself, All-from_recursion, All-weaker}
use Rattle.snap_core.specs.declared.ports.PortAt.{PortAt}
use Rattle.snap_core.specs.declared.program.Which.TheVariants.{Demands}
use Rattle.snap_core.specs.Ports.{port_in}
use Rattle.snap_dep.specs.Ranks.{Grouping}
use Rattle.snap_topology.specs.Answer.{is_unknown}
use Rattle.snap_topology.specs.declared.topology.Topology.{Topology}
use Rattle.snap_topology.specs.Spells.{document}
use Rattle.snap_placement.specs.declared.demand.Demand.{Demand}
use Rattle.snap_placement.specs.declared.demand.DemandFault.{DemandFault}
use Rattle.snap_placement.specs.declared.demand.DemandFault.TheVariants.{Limit, NoPort, NoVariable, NoSwitch, Nowhere, NoMemory}
use Rattle.snap_placement.specs.declared.demand.Flow.{Flow}
use Rattle.snap_placement.specs.declared.demand.TheConstants.{MOST_DEMANDS}
use Rattle.snap_placement.specs.DemandAnswer.{GroupMay, IsAnswerFor, IsDemandOf, Lists, PlacesThen, TellsLeast, TellsLeastOf, TellsNowhere, ends, first_fault, named, no_port, no_switch, no_variable, too_many}
use Rattle.snap_placement.specs.Faults.{ArePlaces, FindsPlaces, TellsPlaces}
use Rattle.snap_placement.specs.Marks.{AreMarks, GroupMarked}
use Rattle.snap_placement.specs.Placements.{HasPorts, IsDemand, places_of}
use Rattle.snap_placement.specs.DemandShape.{Spelled, spelled}
use Rattle.snap_placement.proofs.Documents.{least}
use Rattle.snap_placement.proofs.Marking.{Lists-by, Entries}

-- ---- marks stand for where arrays may stand

module _ (g : Grouping) (arrays switches : List (List ℕ)) (entries : Entries) (marks : List (List Bool)) (count : length marks ≡ length arrays)
    (each : AreMarks (length switches) switches arrays entries marks) where
  group-may : (v at : ℕ) → at < length switches → GroupMarked g marks v at ↔ GroupMay g arrays switches entries v at
  group-may v at lt = ((λ h u low same. sym (each u low at lt) ∙ h u (omega arith) same), (λ h u low same. each u (omega arith) at lt ∙ h u (omega arith) same))

  tells-nowhere : (e : DemandFault) → TellsNowhere (GroupMarked g marks) (length marks) (length switches) e → TellsNowhere (GroupMay g arrays switches entries) (length arrays) (length switches) e
  tells-nowhere (Nowhere v) h = record {
    below = let low = h.below in omega arith;
    nowhere = λ at lt there. h.nowhere at lt ((group-may v at lt).1 there);
    first = λ u lt. let w = h.first u lt in (w.0, w.1, (group-may u w.0 w.1).0 w.2);
  }
  tells-nowhere _ h = absurd h

  are-places : (places : List (List ℕ)) → length places ≡ length marks → ((v : ℕ) → v < length marks → Lists (GroupMarked g marks v) (length switches) (slice_index_or places v []))
      → ((v : ℕ) → v < length marks → slice_index_or places v [] ≢ []) → ArePlaces g arrays switches entries places
  are-places places long lists some = record {
    count = long ∙ count;
    each = λ v lt. Lists-by (GroupMarked g marks v) (GroupMay g arrays switches entries v) (length switches) (slice_index_or places v []) (group-may v) (lists v (omega arith));
    some = λ v lt. some v (omega arith);
  }

  tells-places : (o : Option DemandFault) (e : DemandFault) → o ≡ None → TellsNowhere (GroupMarked g marks) (length marks) (length switches) e → TellsPlaces g arrays switches entries o e
  tells-places o e none h = subst (λ (f : Option DemandFault). TellsPlaces g arrays switches entries f e) (sym none) (tells-nowhere e h)

-- what all places are, or what is told, by the marks as they were seen
pub places-then : (g : Grouping) (arrays switches : List (List ℕ)) (entries : Entries) (marks seen : List (List Bool)) → seen ≡ marks → length marks ≡ length arrays
    → AreMarks (length switches) switches arrays entries marks → no_switch switches arrays entries ≡ None
    → (r : Result (Vec (List ℕ) Global) DemandFault) → IfOk r (λ all. length all.items ≡ length seen) → IfOk r (λ all. (v : ℕ) → v < length seen → Lists (GroupMarked g seen v) (length switches) (slice_index_or all.items v []))
    → IfOk r (λ all. (v : ℕ) → v < length seen → slice_index_or all.items v [] ≢ []) → IfErr r (λ e. e ≢ NoMemory → TellsNowhere (GroupMarked g seen) (length seen) (length switches) e)
    → FindsPlaces g arrays switches entries r
places-then g arrays switches entries marks seen same count each none (Ok all) long lists some told =
    let each' = subst (AreMarks (length switches) switches arrays entries) (sym same) each in
    (none, are-places g arrays switches entries seen (ap (λ (ms : List (List Bool)). length ms) same ∙ count) each' all.items long lists some)
places-then g arrays switches entries marks seen same count each none (Err e) long lists some told = λ memory.
    let each' = subst (AreMarks (length switches) switches arrays entries) (sym same) each in
    tells-places g arrays switches entries seen (ap (λ (ms : List (List Bool)). length ms) same ∙ count) each' (no_switch switches arrays entries) e none (told memory)

-- ---- a name that is told is the least

or-later : (o p : Option DemandFault) (e : DemandFault) → option_or o p ≡ Some e → o ≢ Some e → p ≡ Some e
or-later (Some x) p e is not = absurd (not is)
or-later None p e is not = is

or-sooner : (o p : Option DemandFault) (e : DemandFault) → option_or o p ≡ Some e → p ≢ Some e → o ≡ Some e
or-sooner (Some x) p e is not = is
or-sooner None p e is not = absurd (not is)

limit-test : (b : Bool) (n : ℕ) (name : List ℕ) → cond b (Some (Limit Demands n)) None ≢ Some (NoVariable name)
limit-test true n name = λ e. cc
limit-test false n name = λ e. cc

port-named : (o : Option ℕ) (name : List ℕ) → option_map (λ port. NoPort port) o ≢ Some (NoVariable name)
port-named (Some port) name = λ e. cc
port-named None name = λ e. cc

switch-named : (o : Option (List ℕ)) (name : List ℕ) → option_map (λ n. NoSwitch n) o ≢ Some (NoVariable name)
switch-named (Some n) name = λ e. cc
switch-named None name = λ e. cc

variable-named : (o : Option (List ℕ)) (name : List ℕ) → option_map (λ n. NoVariable n) o ≡ Some (NoVariable name) → o ≡ Some name
variable-named (Some n) name is = cc
variable-named None name is = cc

fault-told : (g : Grouping) (arrays switches : List (List ℕ)) (s : Spelled) (o : Option DemandFault) (name : List ℕ) → PlacesThen g arrays switches s o (Err (NoVariable name)) → o ≡ Some (NoVariable name)
fault-told g arrays switches s (Some e) name is = let same : e ≡ NoVariable name = cc is in ap (λ (x : DemandFault). Some x) same
fault-told g arrays switches s None name is = absurd is

told-variable : (ports : List PortAt) (switches arrays : List (List ℕ)) (s : Spelled) (name : List ℕ) → first_fault ports switches arrays s ≡ Some (NoVariable name) → find (is_unknown arrays) (keys_of s.allowed) ≡ Some name
told-variable ports switches arrays s name is =
    let e = NoVariable name in
    let second = or-later (too_many s.flows) (option_or (no_port ports s.flows) (option_or (no_variable arrays s.allowed) (no_switch switches arrays s.allowed))) e is (limit-test (nat_lt MOST_DEMANDS (length s.flows)) (length s.flows) name) in
    let third = or-later (no_port ports s.flows) (option_or (no_variable arrays s.allowed) (no_switch switches arrays s.allowed)) e second (port-named (find (λ port. is_none (port_in ports port)) (flat_map ends s.flows)) name) in
    let here = or-sooner (no_variable arrays s.allowed) (no_switch switches arrays s.allowed) e third (switch-named (find (is_unknown switches) (named arrays s.allowed)) name) in
    variable-named (find (is_unknown arrays) (keys_of s.allowed)) name here

told-least : (g : Grouping) (arrays switches : List (List ℕ)) (ports : List PortAt) (s : Spelled) (e : DemandFault) → IsStrictlySortedBy (slice_cmp nat_cmp) (keys_of s.allowed)
    → (e ≢ NoMemory → IsAnswerFor g ports arrays switches s (Err e)) → TellsLeastOf arrays s.allowed e
told-least g arrays switches ports s (NoVariable name) rise is =
    least (is_unknown arrays) (keys_of s.allowed) name rise (told-variable ports switches arrays s name (fault-told g arrays switches s (first_fault ports switches arrays s) name (is (λ e. cc))))
told-least g arrays switches ports s _ rise is = tt

abbrev spelled-ok : Spelled → Result Spelled DemandFault
spelled-ok s = Ok s

same-ok : {x y : Spelled} → spelled-ok x ≡ spelled-ok y → x ≡ y
same-ok e = cc

pub least-of : (g : Grouping) (arrays names switches : List (List ℕ)) (ports : List PortAt) (s : Spelled) (text : List ℕ) (P : Demand → Type 0) (r : Result Demand DemandFault) → names ≡ arrays → spelled (document text) ≡ Ok s → IsStrictlySortedBy (slice_cmp nat_cmp) (keys_of s.allowed)
    → MatchResult r P (λ e. e ≢ NoMemory → IsAnswerFor g ports names switches s (Err e)) → IfErr r (TellsLeast arrays text)
least-of g arrays names switches ports s text P (Ok d) same shape rise h = tt
least-of g arrays names switches ports s text P (Err e) same shape rise h = λ other found.
    let equal : s ≡ other = same-ok (sym shape ∙ found) in
    subst (λ (x : Spelled). TellsLeastOf arrays x.allowed e) equal (subst (λ (ns : List (List ℕ)). TellsLeastOf ns s.allowed e) same (told-least g names switches ports s e rise h))

-- ---- a demand that is read

none-parts : (o p : Option DemandFault) → option_or o p ≡ None → (o ≡ None) × (p ≡ None)
none-parts (Some x) p is = cc
none-parts None p is = (refl, is)

few-test : (b : Bool) (n : ℕ) → cond b (Some (Limit Demands n)) None ≡ None → b ≡ false
few-test true n is = cc
few-test false n is = refl

none-mapped : (o : Option ℕ) → option_map (λ port. NoPort port) o ≡ None → o ≡ None
none-mapped (Some port) is = cc
none-mapped None is = refl

port-step : (o : Option ℕ) (port : ℕ) (rest : Option ℕ) → cond (is_none o) (Some port) rest ≡ None → IsSome o × (rest ≡ None)
port-step (Some at) port rest is = (refl, is)
port-step None port rest is = cc

known-flows : (ports : List PortAt) (flows : List Flow) → find (λ port. is_none (port_in ports port)) (flat_map ends flows) ≡ None → AllByRecursion (HasPorts ports) flows
known-flows ports [] none = tt
known-flows ports (f ∷ flows) none =
    let first = port-step (port_in ports f.from) f.from (find (λ port. is_none (port_in ports port)) (f.to ∷ flat_map ends flows)) none in
    let second = port-step (port_in ports f.to) f.to (find (λ port. is_none (port_in ports port)) (flat_map ends flows)) first.1 in
    ((first.0, second.0), known-flows ports flows second.1)

more-than-none : (xs : List ℕ) → xs ≢ [] → 1 ≤ length xs
more-than-none [] some = absurd (some refl)
more-than-none (x ∷ xs) some = omega arith

pub demand-is : (g : Grouping) (arrays : List (List ℕ)) (topology : Topology) (s : Spelled) (demand : Demand) → length g.ranks ≡ length arrays → first_fault topology.ports topology.switches arrays s ≡ None → IsDemandOf g arrays topology.switches s demand → IsDemand g topology demand
demand-is g arrays topology s demand count none is =
    let first = none-parts (too_many s.flows) _ none in
    let second = none-parts (no_port topology.ports s.flows) _ first.1 in
    let few = ltb-false MOST_DEMANDS (length s.flows) (few-test (nat_lt MOST_DEMANDS (length s.flows)) (length s.flows) first.0) in
    let known = All-from_recursion (HasPorts topology.ports) s.flows (known-flows topology.ports s.flows (none-mapped _ second.0)) in
    let long = ap (λ (fs : List Flow). length fs) is.flows in
    record {
      few = omega arith;
      ports = subst (λ (fs : List Flow). All (HasPorts topology.ports) fs) (sym is.flows) known;
      count = is.count ∙ sym count;
      some = λ v lt. more-than-none (places_of demand.allowed v) (is.some v (omega arith));
      below = λ v lt.
          let places = places_of demand.allowed v in
          All-weaker (Contains places) (λ (at : ℕ). at < length topology.switches) (λ at h. (((is.places v (omega arith)).each at).0 h).0) places (All-contains_itself places);
      rise = λ v lt. (is.places v (omega arith)).rise;
      together = λ a b lt less same at h.
          let here = ((is.places a (omega arith)).each at).0 h in
          ((is.places b (omega arith)).each at).1 (here.0, λ u low tied. here.1 u low (tied ∙ sym same));
    }

pub ok-none : (g : Grouping) (arrays switches : List (List ℕ)) (s : Spelled) (o : Option DemandFault) (demand : Demand) → PlacesThen g arrays switches s o (Ok demand) → (o ≡ None) × IsDemandOf g arrays switches s demand
ok-none g arrays switches s (Some e) demand h = cc
ok-none g arrays switches s None demand h = (refl, h)

pub demand-read : (g : Grouping) (arrays names switches : List (List ℕ)) (topology : Topology) (ports : List PortAt) (s : Spelled) (Q : DemandFault → Type 0) (r : Result Demand DemandFault) → length g.ranks ≡ length arrays → names ≡ arrays → switches ≡ topology.switches → ports ≡ topology.ports
    → MatchResult r (λ d. IsAnswerFor g ports names switches s (Ok d)) Q → IfOk r (IsDemand g topology)
demand-read g arrays names switches topology ports s Q (Ok d) count same there at h =
    let a = subst (λ (ns : List (List ℕ)). IsAnswerFor g ports ns switches s (Ok d)) same h in
    let b = subst (λ (sw : List (List ℕ)). IsAnswerFor g ports arrays sw s (Ok d)) there a in
    let e = subst (λ (ps : List PortAt). IsAnswerFor g ps arrays topology.switches s (Ok d)) at b in
    let parts = ok-none g arrays topology.switches s (first_fault topology.ports topology.switches arrays s) d e in
    demand-is g arrays topology s d count parts.0 parts.1
demand-read g arrays names switches topology ports s Q (Err e) count same there at h = tt

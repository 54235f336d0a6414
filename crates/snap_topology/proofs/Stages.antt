-- What is answered at each stage of a reading.
use Rattle.std.proofs.Common.{◌≡◌, ◌∙◌, ℕ, List, Option, Some, None, Result, Ok, Err, find, map, sym, ap, subst, IsSomeAnd, flat_map}
use Rattle.std.specs.Option.{option_or}
use Rattle.std.proofs.lemmas.List.Folds.{find-append}
use Rattle.snap_topology.specs.Answer.{AreKnown, IsAnswerFor, TellsUnknown, Which, too_many, first_repeat, first_unknown, is_unknown, KnownThen, DifferentThen, WithinThen, IsTopologyOf}
use Rattle.snap_topology.specs.Spells.{Topology, ends, port_name}
use Rattle.snap_topology.specs.Shape.{TopoFault, Unknown, Spelled}

-- once the counts are within the limits and the switches differ
pub within-different : (s : Spelled) (r : Result Topology TopoFault) → too_many s ≡ None → first_repeat s.switches ≡ None → KnownThen s (first_unknown s) r → IsAnswerFor s r
within-different s r few different known =
    subst (λ (o : Option (Which × ℕ)). WithinThen s o r) (sym few) (subst (λ (o : Option (List ℕ)). DifferentThen s o r) (sym different) known)

refused : (s : Spelled) (o : Option (List ℕ)) (e : TopoFault) → IsSomeAnd o (λ name. e ≡ Unknown name) → KnownThen s o (Err e)
refused s (Some name) e is = ap Err is
refused s None e is = absurd is

by_links : (o p : Option (List ℕ)) (e : TopoFault) → IsSomeAnd o (λ name. e ≡ Unknown name) → IsSomeAnd (option_or o p) (λ name. e ≡ Unknown name)
by_links (Some name) p e is = is
by_links None p e is = absurd is

by_ports : (o p : Option (List ℕ)) (e : TopoFault) → o ≡ None → IsSomeAnd p (λ name. e ≡ Unknown name) → IsSomeAnd (option_or o p) (λ name. e ≡ Unknown name)
by_ports o p e known is = subst (λ (x : Option (List ℕ)). IsSomeAnd (option_or x p) (λ name. e ≡ Unknown name)) (sym known) is

first_unknown-parts : (s : Spelled) → first_unknown s ≡ option_or (find (is_unknown s.switches) (flat_map ends s.links)) (find (is_unknown s.switches) (map port_name s.ports))
first_unknown-parts s = find-append (is_unknown s.switches) (flat_map ends s.links) (map port_name s.ports)

-- an unknown name in the links
pub unknown-links : (s : Spelled) (names : List (List ℕ)) (e : TopoFault) → names ≡ s.switches → too_many s ≡ None → first_repeat s.switches ≡ None
    → TellsUnknown names (flat_map ends s.links) e → IsAnswerFor s (Err e)
unknown-links s names e same few different is =
    let here = subst (λ (ns : List (List ℕ)). TellsUnknown ns (flat_map ends s.links) e) same is in
    within-different s (Err e) few different (refused s (first_unknown s) e
    (subst (λ (o : Option (List ℕ)). IsSomeAnd o (λ name. e ≡ Unknown name)) (sym (first_unknown-parts s)) (by_links _ _ e here)))

-- an unknown name in the ports, where those in the links are known
pub unknown-ports : (s : Spelled) (names : List (List ℕ)) (e : TopoFault) → names ≡ s.switches → too_many s ≡ None → first_repeat s.switches ≡ None
    → AreKnown names (flat_map ends s.links) → TellsUnknown names (map port_name s.ports) e → IsAnswerFor s (Err e)
unknown-ports s names e same few different known is =
    let here = subst (λ (ns : List (List ℕ)). TellsUnknown ns (map port_name s.ports) e) same is in
    let linked = subst (λ (ns : List (List ℕ)). AreKnown ns (flat_map ends s.links)) same known in
    within-different s (Err e) few different (refused s (first_unknown s) e
    (subst (λ (o : Option (List ℕ)). IsSomeAnd o (λ name. e ≡ Unknown name)) (sym (first_unknown-parts s)) (by_ports _ _ e linked here)))

-- all names are known
pub all-known : (s : Spelled) (names : List (List ℕ)) (t : Topology) → names ≡ s.switches → too_many s ≡ None → first_repeat s.switches ≡ None
    → AreKnown names (flat_map ends s.links) → AreKnown names (map port_name s.ports) → IsTopologyOf s t → IsAnswerFor s (Ok t)
all-known s names t same few different known placed is =
    let linked = subst (λ (ns : List (List ℕ)). AreKnown ns (flat_map ends s.links)) same known in
    let ported = subst (λ (ns : List (List ℕ)). AreKnown ns (map port_name s.ports)) same placed in
    let none : first_unknown s ≡ None = first_unknown-parts s ∙ ap (λ o. option_or o (find (is_unknown s.switches) (map port_name s.ports))) linked ∙ ported in
    within-different s (Ok t) few different (subst (λ (o : Option (List ℕ)). KnownThen s o (Ok t)) (sym none) is)

-- The packets that a file spells are packets of the fields; and tables that change take them all where reading comes to the end.
use Rattle.std.proofs.Common.{◌≡◌, ℕ, zero, suc, ◌+◌, true, false, cond, eqb, List, [], ◌∷◌, map, Some, refl, sym, ◌∙◌, subst, arith, is_some}
use Rattle.std.proofs.lemmas.Bool.{eq-eqb}
use Rattle.std.proofs.lemmas.List.Elements.{All-weaker}
use Rattle.snap_core.specs.declared.ports.PortAt.{PortAt}
use Rattle.snap_io.specs.Lines.{Next, next_line, next_in}
use Rattle.snap_core.specs.Ports.{port_in}
use Rattle.snap_rows.specs.Entries.{port_at}
use Rattle.snap_report.specs.PacketLines.{Said, skip, inject, bad, said_by}
use Rattle.snap_report.specs.Spelled.{counted, spelled_behind, spelled_from, text_of, with_next, with_said}
use Rattle.snap_runs.specs.Plain.{at_ports}
use Rattle.snap_runs.proofs.SpelledPackets.{said_same, at_them}
use Rattle.snap_cli.proofs.Shared.{All, All-cons, All-head, All-nil, All-tail, count, ended, in_force, IsPacket, Later, slice_get, slice_index, Spelled, spelled, spelled_under, SpelledPacketsFit, Tables}

-- ---- tables with a port for each packet
-- the packet comes in at a port of these
abbrev pub IsKnown : List PortAt → List ℕ → Type 0
IsKnown ports k = is_some (port_in ports (slice_index k 0)) ≡ true

module _ (t : Tables) (said : List ℕ → Said) where
  said_known : (line : ℕ) (s : Said) (a b : Spelled) → All (IsKnown t.ports) (with_said line s b).packets → (All (IsKnown t.ports) b.packets → a ≡ b) → with_said line (at_ports t s) a ≡ with_said line s b
  said_known line skip a b known same = same known
  said_known line bad a b known same = refl
  said_known line (inject k) a b known same =
      let here : is_some (port_at t (slice_index k 0)) ≡ true = All-head (IsKnown t.ports) k b.packets known in
      let rest = same (All-tail (IsKnown t.ports) k b.packets known) in
      (λ i. with_said line (cond (here i) (inject k) bad) a) ∙ (λ i. record { packets = k ∷ (rest i).packets; stop = (rest i).stop })

  next_known : (line : ℕ) (next : Next) (a b : ℕ → Spelled) → All (IsKnown t.ports) (with_next said line next b).packets → ((behind : ℕ) → All (IsKnown t.ports) (b behind).packets → a behind ≡ b behind) → with_next (at_them t said) line next a ≡ with_next said line next b
  next_known line (next_line text behind) a b known same = said_known line (said text) (a behind) (b behind) known (same behind)
  next_known line next a b known same = refl

  pub spelled_known : (file : List ℕ) (left line at : ℕ) → All (IsKnown t.ports) (spelled_from said file left line at).packets → spelled_from (at_them t said) file left line at ≡ spelled_from said file left line at
  unfolding spelled_from
  spelled_known file zero line at known = refl
  spelled_known file (suc left) line at known =
      next_known line (next_in 67108864 65536 file at) (λ behind. spelled_from (at_them t said) file left (line + 1) behind) (λ behind. spelled_from said file left (line + 1) behind) known
      (λ behind rest. spelled_known file left (line + 1) behind rest)

abbrev door : List ℕ → PortAt
door k = record { port = slice_index k 0; at = 0 }

abbrev with_doors : Tables → List (List ℕ) → Tables
with_doors t ks = record { version = t.version; fields = t.fields; switches = t.switches; arrays = t.arrays; links = t.links; ports = map door ks; hops = t.hops; rows = t.rows }

known_behind : (q : PortAt) (qs : List PortAt) (k : List ℕ) → IsKnown qs k → IsKnown (q ∷ qs) k
known_behind q qs k known = elim (eqb q.port (slice_index k 0)) as (λ b. is_some (cond b (Some q.at) (port_in qs (slice_index k 0))) ≡ true) [ true ↦ refl | false ↦ known ]

all_known : (ks : List (List ℕ)) → All (IsKnown (map door ks)) ks
all_known [] = All-nil (IsKnown [])
all_known (k ∷ ks) =
    let here : IsKnown (map door (k ∷ ks)) k = subst (λ b. is_some (cond b (Some (door k).at) (port_in (map door ks) (slice_index k 0))) ≡ true) (sym (eq-eqb (slice_index k 0) (slice_index k 0) refl)) refl in
    All-cons (IsKnown (map door (k ∷ ks))) k ks here (All-weaker (IsKnown (map door ks)) (IsKnown (map door (k ∷ ks))) (known_behind (door k) (map door ks)) ks (all_known ks))

pub spelled_fit : SpelledPacketsFit → (t : Tables) (file : List ℕ) → All (IsPacket (count t.fields)) (spelled t.fields file).packets
spelled_fit fit t file =
    let ks = (spelled t.fields file).packets in
    let doors = with_doors t ks in
    subst (λ (s : Spelled). All (IsPacket (count t.fields)) s.packets) (spelled_known doors (said_by t.fields) file 1000000 1 0 (all_known ks)) (fit doors file)

-- ---- files that are read to their end
module _ (first : Tables) (later : List Later) (said : List ℕ → Said) where
  abbrev under : ℕ → List ℕ → Said
  under n line = at_ports (in_force first later n) (said line)

  next_whole : (n line : ℕ) (next : Next) (a b : ℕ → Spelled) → (with_next (under n) line next a).stop ≡ ended → ((behind : ℕ) → (a behind).stop ≡ ended → a behind ≡ b behind) → with_next (under n) line next a ≡ with_next said line next b
  next_whole n line (next_line text behind) a b whole same = said_same (in_force first later n) said line (said text) (a behind) (b behind) whole (same behind)
  next_whole n line next a b whole same = refl

  behind_whole : (file : List ℕ) (left line at before : ℕ) → (spelled_behind under file left line at before).stop ≡ ended → spelled_behind under file left line at before ≡ spelled_from said file left line at
  unfolding spelled_behind spelled_from
  behind_whole file zero line at before whole = refl
  behind_whole file (suc left) line at before whole =
      let now = counted (under before (text_of (next_in 67108864 65536 file at))) before in
      next_whole before line (next_in 67108864 65536 file at) (λ behind. spelled_behind under file left (line + 1) behind now) (λ behind. spelled_from said file left (line + 1) behind) whole
      (λ behind stop. behind_whole file left (line + 1) behind now stop)

pub under_whole : (first : Tables) (later : List Later) (file : List ℕ) → (spelled_under first later file).stop ≡ ended → spelled_under first later file ≡ spelled first.fields file
under_whole first later file whole = behind_whole first later (said_by first.fields) file 1000000 1 0 0 whole

-- ---- tables that change, with a port for each packet
module _ (first : Tables) (later : List Later) (said : List ℕ → Said) where
  -- packets, of which the first has this number, come in at ports of the tables in force for them
  abbrev AreKnown : ℕ → List (List ℕ) → Type 0
  AreKnown n [] = Unit {0}
  AreKnown n (k ∷ ks) = IsKnown (in_force first later n).ports k × AreKnown (n + 1) ks

  all_in_force : (n : ℕ) (ks : List (List ℕ)) → ((i j : ℕ) (k : List ℕ) → j ≡ n + i → slice_get ks i ≡ Some k → IsKnown (in_force first later j).ports k) → AreKnown n ks
  all_in_force n [] known = tt
  all_in_force n (k ∷ ks) known = (known 0 n k (omega arith) refl, all_in_force (n + 1) ks (λ i j x is there. known (suc i) j x (omega (arith, is)) there))

  said_known_under : (n line : ℕ) (s : Said) (a : ℕ → Spelled) (b : Spelled) → AreKnown n (with_said line s b).packets → ((m : ℕ) → AreKnown m b.packets → a m ≡ b)
      → with_said line (at_ports (in_force first later n) s) (a (counted (at_ports (in_force first later n) s) n)) ≡ with_said line s b
  said_known_under n line skip a b known same = same n known
  said_known_under n line bad a b known same = refl
  said_known_under n line (inject k) a b known same =
      let here : is_some (port_at (in_force first later n) (slice_index k 0)) ≡ true = known.0 in
      let rest = same (n + 1) known.1 in
      (λ i. with_said line (cond (here i) (inject k) bad) (a (counted (cond (here i) (inject k) bad) n))) ∙ (λ i. record { packets = k ∷ (rest i).packets; stop = (rest i).stop })

  next_known_under : (n line : ℕ) (next : Next) (a : ℕ → ℕ → Spelled) (b : ℕ → Spelled) → AreKnown n (with_next said line next b).packets → ((behind m : ℕ) → AreKnown m (b behind).packets → a behind m ≡ b behind)
      → with_next (under first later said n) line next (λ behind. a behind (counted (under first later said n (text_of next)) n)) ≡ with_next said line next b
  next_known_under n line (next_line text behind) a b known same = said_known_under n line (said text) (a behind) (b behind) known (same behind)
  next_known_under n line next a b known same = refl

  behind_known : (file : List ℕ) (left line at n : ℕ) → AreKnown n (spelled_from said file left line at).packets → spelled_behind (under first later said) file left line at n ≡ spelled_from said file left line at
  unfolding spelled_behind spelled_from
  behind_known file zero line at n known = refl
  behind_known file (suc left) line at n known =
      next_known_under n line (next_in 67108864 65536 file at) (λ behind. spelled_behind (under first later said) file left (line + 1) behind) (λ behind. spelled_from said file left (line + 1) behind) known
      (λ behind m rest. behind_known file left (line + 1) behind m rest)

pub under_known : (first : Tables) (later : List Later) (file : List ℕ) → ((i : ℕ) (k : List ℕ) → slice_get (spelled first.fields file).packets i ≡ Some k → IsKnown (in_force first later i).ports k)
    → spelled_under first later file ≡ spelled first.fields file
under_known first later file known =
    let said = said_by first.fields in
    behind_known first later said file 1000000 1 0 0
    (all_in_force first later said 0 (spelled first.fields file).packets (λ i j k is there. subst (λ x. IsKnown (in_force first later x).ports k) (let e : i ≡ j = omega (arith, is) in e) (known i k there)))

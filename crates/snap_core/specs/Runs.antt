-- What an evaluation in place means.
use Rattle.std.specs.Prelude.{ℕ, List, [], ◌∷◌, Option, Some, None, map, bit_or, option_map, option_and_then, if◌then◌else◌}
use Rattle.snap_core.specs.declared.copies.Copies.{Copies}
use Rattle.snap_core.specs.declared.copies.Copies.TheVariants.{One, Many}
use Rattle.snap_core.specs.declared.copies.Effect.{Effect}
use Rattle.snap_core.specs.declared.copies.Effect.TheVariants.{Same}
use Rattle.snap_core.specs.declared.copies.Effect.TheVariants as flow
use Rattle.snap_core.specs.declared.policy.Pol.{Pol}
use Rattle.snap_core.specs.declared.policy.Pred.{Pred}
use Rattle.snap_core.specs.declared.run.Ran.{Ran}
use Rattle.snap_core.specs.declared.run.Run.{Run}
use Rattle.snap_core.specs.declared.run.Logs.{Logs}
use Rattle.snap_core.specs.Arrays.{Arrays}
use Rattle.snap_core.specs.Packets.{PacketSet, no_packets, with_packet, with_packets, listed, union}
use Rattle.snap_core.specs.Meaning.{Meaning, all_together, clash, eval, logged, truth, vars_of}

-- the set of packets
abbrev pub set_in : Copies → PacketSet
set_in (One k) = with_packet no_packets k
set_in (Many v) = with_packets no_packets v.items

-- what a run means that left the arrays m
abbrev pub meaning_with : Arrays → Run → Meaning
meaning_with m r = record { arrays = m; packets = set_in r.copies; reads = r.reads; writes = r.writes }

-- ---- in place
abbrev pub set_after : Effect → List ℕ → PacketSet
set_after Same k = with_packet no_packets k
set_after (flow.Many v) k = with_packets no_packets v.items

-- what a run in place means that left the arrays m and the packet k
abbrev pub ran_with : Arrays → List ℕ → Ran → Meaning
ran_with m k r = record { arrays = m; packets = set_after r.flow k; reads = r.reads; writes = r.writes }

-- what a policy came to, within a run with these logs, that left the arrays m and the packet k
abbrev pub flown : Arrays → Effect → List ℕ → Logs → Meaning
flown m f k l = record { arrays = m; packets = set_after f k; reads = l.reads; writes = l.writes }

-- an outcome within a run with these logs
abbrev pub within : Logs → Option Meaning → Option Meaning
within l o = option_map (logged l.reads l.writes) o

-- the outcome of one of two parts
abbrev pub chosen : Pred → (yes no : Option Meaning) → Arrays → List ℕ → Option Meaning
chosen x a b m k = option_map (logged (vars_of x) 0) (if truth x m k then a else b)

-- the outcome of the branch that a predicate picks
abbrev pub choice_of : Pred → (yes no : Pol) → Arrays → List ℕ → Option Meaning
choice_of x p q m k = chosen x (eval p m k) (eval q m k) m k

-- ---- parts side by side
abbrev pub both_of : (left right : Pol) → Arrays → List ℕ → Option Meaning
both_of p q m k = all_together m (eval p m k ∷ eval q m k ∷ [])

-- a policy on each of these packets
abbrev pub each_of : Pol → Arrays → List (List ℕ) → Option Meaning
each_of p m ks = all_together m (map (λ k. eval p m k) ks)

-- ---- one part after another
-- the second part on the packets of the first, from the arrays that it left
abbrev pub after_first : Pol → Meaning → Option Meaning
after_first q o = option_map (logged o.reads o.writes) (each_of q o.arrays (listed o.packets))

abbrev pub sequence_of : (first second : Pol) → Arrays → List ℕ → Option Meaning
sequence_of p q m k = option_and_then (after_first q) (eval p m k)

-- ---- parts side by side, done one after the other: b began where a left the arrays
abbrev pub after_both : Meaning → Meaning → Meaning
after_both a b = record
    { arrays = b.arrays; packets = union a.packets b.packets; reads = bit_or a.reads b.reads; writes = bit_or a.writes b.writes }

abbrev pub begun_behind : Meaning → Meaning → Option Meaning
begun_behind a b = if clash a b then None else Some (after_both a b)

-- The meaning of policies: evaluation with logs.
use Rattle.std.specs.Prelude.{ℕ, ◌^◌, Bool, true, false, ◌||◌, ◌&&◌, not, ◌==◌, Option, Some, None, List, [], ◌∷◌, map, slice_index, slice_set, if◌then◌else◌, bit_or, option_and_then, option_map}
use Rattle.std.specs.List.{list_any}
use Rattle.snap_core.specs.declared.policy.Pol.{Pol}
use Rattle.snap_core.specs.declared.policy.Pol.TheVariants.{Filter, Set, Change, Par', Seq', If', Atomic'}
use Rattle.snap_core.specs.declared.policy.Pred.{Pred}
use Rattle.snap_core.specs.declared.policy.Pred.TheVariants.{Id, Drop, Field, State, Not', And', Or'}
use Rattle.snap_core.specs.Arrays.{Arrays, taken, update, place_at, value_of, has, meets}
use Rattle.snap_core.specs.Packets.{PacketSet, no_packets, with_packet, listed, union}

-- what an evaluation gives: the arrays, the packets, and the variables read and written
pub record Meaning : Type 0 where
  pub arrays : Arrays
  pub packets : PacketSet
  pub reads : ℕ
  pub writes : ℕ

abbrev pub truth : Pred → Arrays → List ℕ → Bool
truth Id m k = true
truth Drop m k = false
truth (Field c n) m k = slice_index k c == n
truth (State s es a) m k = m (place_at s es k) == value_of a k
truth (Not' _ x) m k = not (truth x m k)
truth (And' _ x _ y) m k = truth x m k && truth y m k
truth (Or' _ x _ y) m k = truth x m k || truth y m k

-- the variables that stand in a predicate
abbrev pub vars_of : Pred → ℕ
vars_of Id = 0
vars_of Drop = 0
vars_of (Field c n) = 0
vars_of (State s es a) = 2 ^ s
vars_of (Not' _ x) = vars_of x
vars_of (And' _ x _ y) = bit_or (vars_of x) (vars_of y)
vars_of (Or' _ x _ y) = bit_or (vars_of x) (vars_of y)

-- one writes what the other reads or writes
abbrev pub clash : Meaning → Meaning → Bool
clash a b = meets a.writes (bit_or b.reads b.writes) || meets b.writes (bit_or a.reads a.writes)

abbrev pub any_clash : List Meaning → Bool
any_clash [] = false
any_clash (o ∷ os) = list_any (clash o) os || any_clash os

-- m, but each variable that one of the outcomes wrote is as that outcome left it
abbrev pub merge : Arrays → List Meaning → Arrays
merge m [] p = m p
merge m (o ∷ os) p = if has o.writes p.var then o.arrays p else merge m os p

abbrev pub all_packets : List Meaning → PacketSet
all_packets [] = no_packets
all_packets (o ∷ os) = union o.packets (all_packets os)

abbrev pub all_reads : List Meaning → ℕ
all_reads [] = 0
all_reads (o ∷ os) = bit_or o.reads (all_reads os)

abbrev pub all_writes : List Meaning → ℕ
all_writes [] = 0
all_writes (o ∷ os) = bit_or o.writes (all_writes os)

-- outcomes that began at m, side by side
abbrev pub together : Arrays → List Meaning → Option Meaning
together m os =
    if any_clash os then None else
    Some (record { arrays = merge m os; packets = all_packets os; reads = all_reads os; writes = all_writes os })

-- one more outcome beside those so far
abbrev pub joined : Meaning → Meaning → Meaning
joined a b = record { arrays = taken a.arrays b.arrays b.writes; packets = union a.packets b.packets; reads = bit_or a.reads b.reads; writes = bit_or a.writes b.writes }

-- an outcome and one more beside it, where both are defined and do not clash
abbrev pub beside : Option Meaning → Option Meaning → Option Meaning
beside a o = option_and_then (λ x. option_and_then (λ y. if clash x y then None else Some (joined x y)) o) a

-- the outcomes, where each is defined
abbrev pub all_defined : List (Option Meaning) → Option (List Meaning)
all_defined [] = Some []
all_defined (o ∷ os) = option_and_then (λ x. option_map (λ xs. x ∷ xs) (all_defined os)) o

-- outcomes side by side, where each is defined
abbrev pub all_together : Arrays → List (Option Meaning) → Option Meaning
all_together m os = option_and_then (together m) (all_defined os)

-- an outcome, with more variables read and written
abbrev pub logged : ℕ → ℕ → Meaning → Meaning
logged r w o = record o { reads = bit_or r o.reads; writes = bit_or w o.writes }

abbrev pub eval : Pol → Arrays → List ℕ → Option Meaning
eval (Filter x) m k = Some
    (record { arrays = m; packets = if truth x m k then with_packet no_packets k else no_packets; reads = vars_of x; writes = 0 })
eval (Set c a) m k = Some (record { arrays = m; packets = with_packet no_packets (slice_set k c (value_of a k)); reads = 0; writes = 0 })
eval (Change u) m k = Some (record { arrays = update m u k; packets = with_packet no_packets k; reads = 0; writes = 2 ^ u.var })
eval (Par' _ p _ q) m k = all_together m (eval p m k ∷ eval q m k ∷ [])
eval (Seq' _ p _ q) m k =
    option_and_then (λ o.
    option_map (logged o.reads o.writes)
    (all_together o.arrays (map (λ k'. eval q o.arrays k') (listed o.packets))))
    (eval p m k)
eval (If' x _ p _ q) m k = option_map (logged (vars_of x) 0) (if truth x m k then eval p m k else eval q m k)
eval (Atomic' _ p) m k = eval p m k

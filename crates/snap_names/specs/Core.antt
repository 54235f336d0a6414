-- The core language, without where a program lies in memory, and how large its parts are.
use Rattle.std.specs.Prelude.{ℕ, ◌+◌, ◌*◌, Bool, true, false, List, ◌-◌, ◌/◌, ◌%◌, ◌^◌}
pub use Rattle.snap_core.specs.declared.policy.Atom.{Atom}
pub use Rattle.snap_core.specs.declared.policy.Atom.TheVariants.{Num, Comp}
pub use Rattle.snap_core.specs.declared.policy.Op.{Op}
pub use Rattle.snap_core.specs.declared.policy.Op.TheVariants.{Put, Add}
use Rattle.snap_core.specs.declared.policy.Update.{Update}
pub use Rattle.snap_core.specs.declared.policy.Pol.{Pol}
pub use Rattle.snap_core.specs.declared.policy.Pol.TheVariants.{Filter, Set, Change, Par', Seq', If', Atomic'}
pub use Rattle.snap_core.specs.declared.policy.Pred.{Pred}
pub use Rattle.snap_core.specs.declared.policy.Pred.TheVariants.{Id, Drop, Field, State, Not', And', Or'}

pub data CoreTest : Type 0 where
  id_test : CoreTest
  drop_test : CoreTest
  field_test : (comp num : ℕ) → CoreTest
  state_test : (var : ℕ) (index : List Atom) (value : Atom) → CoreTest
  not_test : CoreTest → CoreTest
  and_test : CoreTest → CoreTest → CoreTest
  or_test : CoreTest → CoreTest → CoreTest

pub data CorePolicy : Type 0 where
  filter : CoreTest → CorePolicy
  set : (comp : ℕ) (from : Atom) → CorePolicy
  change : Update → CorePolicy
  par : CorePolicy → CorePolicy → CorePolicy
  seq : CorePolicy → CorePolicy → CorePolicy
  choice : CoreTest → CorePolicy → CorePolicy → CorePolicy
  atomic : CorePolicy → CorePolicy

abbrev pub core_test : Pred → CoreTest
core_test Id = id_test
core_test Drop = drop_test
core_test (Field c n) = field_test c n
core_test (State s es a) = state_test s es a
core_test (Not' _ x) = not_test (core_test x)
core_test (And' _ x _ y) = and_test (core_test x) (core_test y)
core_test (Or' _ x _ y) = or_test (core_test x) (core_test y)

abbrev pub core_policy : Pol → CorePolicy
core_policy (Filter x) = filter (core_test x)
core_policy (Set c a) = set c a
core_policy (Change u) = change u
core_policy (Par' _ p _ q) = par (core_policy p) (core_policy q)
core_policy (Seq' _ p _ q) = seq (core_policy p) (core_policy q)
core_policy (If' x _ p _ q) = choice (core_test x) (core_policy p) (core_policy q)
core_policy (Atomic' _ p) = atomic (core_policy p)

-- An address of 32 bits is the net, its first n bits, and the host, the others.
abbrev pub net : ℕ → ℕ → ℕ
net n address = address / 2 ^ (32 - n)

abbrev pub host : ℕ → ℕ → ℕ
host n address = address % 2 ^ (32 - n)

abbrev pub whole_test : ℕ → ℕ → ℕ → ℕ → CoreTest
whole_test a b n address = and_test (field_test a (net n address)) (field_test b (host n address))

abbrev pub is_filter : CorePolicy → Bool
is_filter (filter x) = true
is_filter _ = false

-- core nodes: each form of a test and of a policy, but that of a filter
abbrev pub test_nodes : CoreTest → ℕ
test_nodes id_test = 1
test_nodes drop_test = 1
test_nodes (field_test c n) = 1
test_nodes (state_test s es a) = 1
test_nodes (not_test x) = 1 + test_nodes x
test_nodes (and_test x y) = 1 + test_nodes x + test_nodes y
test_nodes (or_test x y) = 1 + test_nodes x + test_nodes y

abbrev pub nodes : CorePolicy → ℕ
nodes (filter x) = test_nodes x
nodes (set c a) = 1
nodes (change u) = 1
nodes (par p q) = 1 + nodes p + nodes q
nodes (seq p q) = 1 + nodes p + nodes q
nodes (choice x p q) = 1 + test_nodes x + nodes p + nodes q
nodes (atomic p) = 1 + nodes p

-- weight: sums over choices, products over parallel parts and sequences
abbrev pub test_weight : CoreTest → ℕ
test_weight id_test = 1
test_weight drop_test = 1
test_weight (field_test c n) = 2
test_weight (state_test s es a) = 2
test_weight (not_test x) = test_weight x
test_weight (and_test x y) = test_weight x + test_weight y
test_weight (or_test x y) = test_weight x + test_weight y

abbrev pub weight : CorePolicy → ℕ
weight (filter x) = test_weight x
weight (set c a) = 1
weight (change u) = 1
weight (par p q) = weight p * weight q
weight (seq p q) = weight p * weight q
weight (choice x p q) = test_weight x + weight p + weight q
weight (atomic p) = weight p

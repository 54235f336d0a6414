-- How the parts that are built stand for core policies.
use Rattle.std.specs.Prelude.{◌≡◌, ◌≢◌, ℕ, ◌+◌, ◌≤◌, List, [], ◌∷◌, map, Option, None, Some, option_map, Result, Ok, Err, IfErr, Vec}
use Rattle.std.specs.declared.alloc.Global.{Global}
use Rattle.std.specs.Global.{Box}
use Rattle.snap_core.specs.declared.policy.Pol.{Pol}
use Rattle.snap_core.specs.declared.policy.Pred.{Pred}
use Rattle.snap_names.specs.declared.parts.TestJoin.{TestJoin}
use Rattle.snap_names.specs.declared.parts.TestJoin.TheVariants.{Both, Either}
use Rattle.snap_names.specs.declared.parts.PolicyJoin.{PolicyJoin}
use Rattle.snap_names.specs.declared.parts.PolicyJoin.TheVariants.{Beside, Behind}
use Rattle.snap_names.specs.declared.scope.Sense.{Sense}
pub use Rattle.snap_names.specs.declared.scope.Part.{Part}
pub use Rattle.snap_names.specs.declared.scope.Body.{Body}
pub use Rattle.snap_names.specs.declared.scope.Sizes.{Sizes}
pub use Rattle.snap_names.specs.declared.scope.Scope.{Scope}
use Rattle.snap_names.specs.declared.fault.NameFault.{NameFault}
use Rattle.snap_names.specs.declared.fault.NameFault.TheVariants.{NoMemory}
use Rattle.snap_names.specs.Core.{CoreTest, CorePolicy, filter, not_test, and_test, or_test, par, seq, choice, core_policy, core_test, is_filter, nodes, weight}
use Rattle.snap_names.specs.Declarations.{capped}
use Rattle.snap_names.specs.Senses.{Words, Arities, Place}
use Rattle.snap_names.specs.declared.places.Indexed.{Indexed}
use Rattle.snap_names.specs.Reading.{Env, Reading, TestReading, joined}

-- The part stands for the core policy. `all` core nodes are counted with it, and it is built as long as these are within the limit.
pub record IsPart (p : CorePolicy) (all : ℕ) (part : Part) : Type 0 where
  pub is_test : part.is_test ≡ is_filter p
  pub weight : part.weight ≡ capped (weight p)
  pub built : all ≤ 2000 → option_map core_policy part.policy ≡ Some p

-- the operands so far, if there are any, each the core policy that `form` says
abbrev pub IsPartOf : {A : Type 0} → (A → CorePolicy) → Option A → ℕ → Option Part → Type 0
IsPartOf form None all None = Unit {0}
IsPartOf form (Some x) all (Some part) = IsPart (form x) all part
IsPartOf form _ all _ = ⊥

-- what stands in a box
abbrev pub boxed_test : Option (Box Pred) → Option CoreTest
boxed_test b = option_map (λ test. core_test test.value) b

abbrev pub boxed_policy : Option (Box Pol) → Option CorePolicy
boxed_policy b = option_map (λ policy. core_policy policy.value) b

-- how policies that may not be built are joined
abbrev pub filter_of : Option CorePolicy → Option CoreTest
filter_of (Some (filter x)) = Some x
filter_of _ = None

abbrev pub negated_core : Option CorePolicy → Option CorePolicy
negated_core p = option_map (λ x. filter (not_test x)) (filter_of p)

-- how predicates are joined, and policies
abbrev pub test_join : TestJoin → CoreTest → CoreTest → CoreTest
test_join Both = and_test
test_join Either = or_test

abbrev pub policy_join : PolicyJoin → CorePolicy → CorePolicy → CorePolicy
policy_join Beside = par
policy_join Behind = seq

abbrev pub joined_tests : (CoreTest → CoreTest → CoreTest) → Option CoreTest → Option CoreTest → Option CorePolicy
joined_tests f (Some x) (Some y) = Some (filter (f x y))
joined_tests f _ _ = None

abbrev pub joined_policies : (CorePolicy → CorePolicy → CorePolicy) → Option CorePolicy → Option CorePolicy → Option CorePolicy
joined_policies f (Some p) (Some q) = Some (f p q)
joined_policies f _ _ = None

abbrev pub chosen_policies : Option CoreTest → Option CorePolicy → Option CorePolicy → Option CorePolicy
chosen_policies (Some x) (Some p) (Some q) = Some (choice x p q)
chosen_policies _ _ _ = None

abbrev pub chosen_core : Option CorePolicy → Option CorePolicy → Option CorePolicy → Option CorePolicy
chosen_core x p q = chosen_policies (filter_of x) p q

-- the body of a `let` stands for the core policy
pub record IsBody (body : Body) (p : CorePolicy) : Type 0 where
  pub nodes : body.nodes ≡ capped (nodes p)
  pub part : IsPart p body.nodes body.part

pub data AreBodies : List Body → List CorePolicy → Type 0 where
  no_bodies : AreBodies [] []
  more_bodies : {b : Body} {p : CorePolicy} {bs : List Body} {ps : List CorePolicy}
      → IsBody b p → AreBodies bs ps → AreBodies (b ∷ bs) (p ∷ ps)

abbrev pub names_in : List (Vec ℕ Global × Sense) → List (List ℕ × Sense)
names_in es = map (λ e. (e.0.items, e.1)) es

-- what is known in a scope
abbrev pub words_of : Scope → Words
words_of s = record { text = s.text.now; names = names_in s.names.entries }

abbrev pub env_in : Scope → List CorePolicy → Env
env_in s lets = record { words = words_of s; lets = lets }

abbrev pub itself : CorePolicy → CorePolicy
itself p = p

-- The part stands for operands so far, if there are any, and one more, joined as `join` says, where theirs do.
abbrev pub JoinsParts : {A : Type 0} → (A → CorePolicy) → (A → A → A) → ℕ → ℕ → Option Part → Part → Part → Type 0
JoinsParts {A} form join before all parts next part = (x : Option A) (y : A) → IsPartOf form x before parts → IsPart (form y) before next
    → IsPart (form (joined join x y)) all part

-- The part stands for a choice, where those of its test and of its two policies do.
abbrev pub JoinsChoice : ℕ → ℕ → Part → Part → Part → Part → Type 0
JoinsChoice before all test left right part = (x : CoreTest) (p q : CorePolicy)
    → IsPart (filter x) before test → IsPart p before left → IsPart q before right → IsPart (choice x p q) all part

-- What was read is the core policy that `form` says, and its nodes are counted.
pub record HasRead {A : Type 0} (form : A → CorePolicy) (r : Result (A × Arities) NameFault) (old new : Sizes) (part : Part) : Type 0 where
  pub value : A
  pub reading : r ≡ Ok (value, new.arities.items)
  pub counted : capped new.nodes ≡ capped (old.nodes + nodes (form value))
  pub stands : IsPart (form value) new.nodes part

-- the operands so far were read, and their nodes counted
abbrev pub nodes_of_all : {A : Type 0} → (A → CorePolicy) → Option A → ℕ
nodes_of_all form None = 0
nodes_of_all form (Some x) = nodes (form x)

pub record HaveRead {A : Type 0} (form : A → CorePolicy)
    (r : Result (Option A × Arities) NameFault) (old new : Sizes) (parts : Option Part) : Type 0 where
  pub value : Option A
  pub reading : r ≡ Ok (value, new.arities.items)
  pub counted : capped new.nodes ≡ capped (old.nodes + nodes_of_all form value)
  pub stands : IsPartOf form value new.nodes parts

-- a refusal is that of the reading, but for want of memory
abbrev pub Refuses : {A B : Type 0} → Result A NameFault → Result B NameFault → Type 0
Refuses r result = IfErr result (λ f. f ≢ NoMemory → r ≡ Err f)

-- The answer is the reading's, but for want of memory, whatever core policies the bodies of `let` stand for.
abbrev pub Reads : Scope → (Env → Arities → Reading) → Sizes → Sizes → Result Part NameFault → Type 0
Reads s read old new (Ok part) = (lets : List CorePolicy) → AreBodies s.lets.items lets
    → HasRead itself (read (env_in s lets) old.arities.items) old new part
Reads s read old new (Err f) = f ≢ NoMemory → (lets : List CorePolicy)
    → AreBodies s.lets.items lets → read (env_in s lets) old.arities.items ≡ Err f

abbrev pub ReadsTest : Scope → (Env → Arities → TestReading) → Sizes → Sizes → Result Part NameFault → Type 0
ReadsTest s read old new (Ok part) = (lets : List CorePolicy) → AreBodies s.lets.items lets
    → HasRead filter (read (env_in s lets) old.arities.items) old new part
ReadsTest s read old new (Err f) = f ≢ NoMemory → (lets : List CorePolicy)
    → AreBodies s.lets.items lets → read (env_in s lets) old.arities.items ≡ Err f

-- a simple policy was read, without counting its nodes
abbrev pub ReadsSimple : Reading → Sizes → Result Pol NameFault → Type 0
ReadsSimple r new (Ok p) = r ≡ Ok (core_policy p, new.arities.items)
ReadsSimple r new (Err f) = f ≢ NoMemory → r ≡ Err f

-- an array that is indexed, with the arities behind it
abbrev pub place_with : Indexed → Sizes → Place
place_with p tally = record { var = p.var; index = p.index; arities = tally.arities.items }

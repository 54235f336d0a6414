-- What a look over facts finds, and what it makes of the classes.
use Rattle.std.specs.Prelude.{◌≡◌, ◌≢◌, ℕ, ◌-◌, ◌^◌, ◌<◌, ◌==◌, Bool, true, false, if◌then◌else◌, List, length, map, All, Option, Some, None}
use Rattle.snap_core.specs.declared.policy.Term.{Term}
use Rattle.snap_core.specs.declared.policy.Term.TheVariants.{Num, Plus}
use Rattle.snap_core.specs.Arrays.{Arrays, has}
use Rattle.snap_core.specs.declared.policy.Test.{Test}
use Rattle.snap_core.specs.Tests.{term_value, passes}
use Rattle.snap_core.specs.Inputs.{IsPacket}
use Rattle.snap_context.specs.declared.fact.Fact.{Fact}
use Rattle.snap_context.specs.declared.look.Breach.{Breach}
use Rattle.snap_context.specs.declared.look.Breach.TheVariants.{Join, Contradiction}
use Rattle.snap_context.specs.Meets.{Meets}
use Rattle.snap_context.specs.Classes.{wrap, shift, class_of, normal, atom_class, left_of, right_of, index_of, IsClass, Fits, FactRule, PairRule}

-- it holds nowhere that the classes fit
abbrev pub IsBroken : (Arrays → List ℕ → Type 0) → List Term → Type 0
IsBroken holds cl = (m : Arrays) (k : List ℕ) → IsPacket (length cl) k → holds m k → Fits cl k → ⊥

-- two terms that are equal wherever it holds, and that the classes do not make equal
pub record IsJoin (holds : Arrays → List ℕ → Type 0) (cl : List Term) (a b : Term) : Type 0 where
  pub left : IsClass cl a
  pub right : IsClass cl b
  pub differ : a ≢ b
  pub equal : (m : Arrays) (k : List ℕ) → IsPacket (length cl) k → holds m k → Fits cl k → term_value a k ≡ term_value b k

-- how a rule is broken where it holds
abbrev pub IsBreach : (Arrays → List ℕ → Type 0) → List Term → Breach → Type 0
IsBreach holds cl (Join a b) = IsJoin holds cl a b
IsBreach holds cl Contradiction = IsBroken holds cl

-- how two terms fail to be as the answer says
abbrev pub Compares : Term → Term → Bool → Breach → Type 0
Compares a b y (Join c d) = (y ≡ true) × (c ≡ a) × (d ≡ b) × (a ≢ b)
Compares a b y Contradiction = (y ≡ false) × (a ≡ b)

abbrev pub MeetsOne : Fact → Arrays → List ℕ → Type 0
MeetsOne f m k = passes f.test m k ≡ f.yes

abbrev pub MeetsTwo : Fact → Fact → Arrays → List ℕ → Type 0
MeetsTwo f g m k = MeetsOne f m k × MeetsOne g m k

abbrev pub MeetsWith : Fact → List Fact → Arrays → List ℕ → Type 0
MeetsWith f facts m k = MeetsOne f m k × Meets facts m k

-- the rules of one fact beside all
abbrev pub RulesFor : List Term → Fact → List Fact → Type 0
RulesFor cl f facts = FactRule cl f × All (PairRule cl f) facts

-- a fact beside itself and facts that keep their rules
abbrev pub RulesWith : List Term → List Fact → Fact → Type 0
RulesWith cl facts f = RulesFor cl f facts × All (λ g. PairRule cl g f) facts

abbrev pub RulesOf : List Term → List Fact → Type 0
RulesOf cl facts = All (λ f. RulesFor cl f facts) facts

abbrev pub AllRules : List Term → List Fact → Fact → Type 0
AllRules cl facts f = RulesOf cl facts × RulesWith cl facts f

-- a term after the root r became t
abbrev pub replace : ℕ → Term → Term → Term
replace r t (Num n) = Num n
replace r t (Plus c p) = if c == r then shift t p else Plus c p

-- the classes after the root r became t
abbrev pub put : List Term → ℕ → Term → List Term
put cl r t = map (replace r t) cl

-- a term that can take the place of the root r
abbrev pub IsOther : ℕ → Term → Type 0
IsOther r (Num n) = Unit {0}
IsOther r (Plus c p) = c ≢ r

-- the classes after two of their terms were made equal, where that can be
abbrev pub merged : List Term → Term → Term → Option (List Term)
merged cl (Num x) (Num y) = if x == y then Some cl else None
merged cl (Num x) (Plus q u) = Some (put cl q (Num (wrap x (2 ^ 64 - u))))
merged cl (Plus r p) (Num y) = Some (put cl r (Num (wrap y (2 ^ 64 - p))))
merged cl (Plus r p) (Plus q u) = if r == q then (if p == u then Some cl else None) else Some (put cl r (Plus q (wrap u (2 ^ 64 - p))))

-- where it holds, the new classes fit as the old ones do
abbrev pub Keeps : (Arrays → List ℕ → Type 0) → List Term → List Term → Type 0
Keeps holds cl new = (m : Arrays) (k : List ℕ) → IsPacket (length cl) k → holds m k → Fits cl k → Fits new k

-- the new classes keep all rules, and follow from the facts and the old ones
pub record IsClosed (facts : List Fact) (fact : Fact) (cl new : List Term) : Type 0 where
  pub same : length new ≡ length cl
  pub classes : All (IsClass new) new
  pub rules : AllRules new facts fact
  pub keeps : Keeps (MeetsWith fact facts) cl new

-- the components outside of a set have the classes that they had
abbrev pub AgreeOutside : ℕ → List Term → List Term → Type 0
AgreeOutside set first cl = (c : ℕ) → c < length cl → has set c ≡ false → class_of first c ≡ class_of cl c

-- the classes of a test's terms and index are what they were
pub record Stays (first cl : List Term) (t : Test) : Type 0 where
  pub left : normal first (left_of t) ≡ normal cl (left_of t)
  pub right : normal first (right_of t) ≡ normal cl (right_of t)
  pub index : map (atom_class first) (index_of t) ≡ map (atom_class cl) (index_of t)

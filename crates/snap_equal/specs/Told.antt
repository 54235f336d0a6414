-- What a context tells of questions on a store and a packet.
use Rattle.std.specs.Prelude.{◌≡◌, ℕ, Bool, true, false, List, length}
use Rattle.std.specs.List.{All}
use Rattle.snap_core.specs.Arrays.{Arrays}
use Rattle.snap_core.specs.Cells.{arrays_of}
use Rattle.snap_core.specs.Inputs.{IsStore, IsPacket, IsZeroFrom}
use Rattle.snap_core.specs.Tests.{passes}
use Rattle.snap_core.specs.declared.policy.Test.{Test}
use Rattle.snap_context.specs.Answers.{IsVerdict}
use Rattle.snap_context.specs.Meets.{Meets}
use Rattle.snap_context.specs.View.{View}
use Rattle.snap_context.specs.declared.context.Verdict.TheVariants.{Unsure}
use Rattle.snap_context.specs.Models.{FactBelow}
use Rattle.snap_equal.specs.declared.stop.Stop.{Stop}
use Rattle.snap_equal.specs.declared.stop.Stop.TheVariants.{Split, NoMemory}
use Rattle.snap_equal.specs.declared.comparing.Compared.{Compared}
use Rattle.snap_equal.specs.declared.comparing.Compared.TheVariants.{Same, Differ}
use Rattle.snap_equal.specs.Inputs.{IsTest, space}

-- a store and a packet of 64 bits that meet the facts
pub record IsModel (v : View) (m : Arrays) (k : List ℕ) : Type 0 where
  pub store : IsStore m
  pub packet : IsPacket (length v.classes) k
  pub facts : Meets v.facts m k

-- on all of them
abbrev pub On : View → (Arrays → List ℕ → Type 0) → Type 0
On v P = (m : Arrays) (k : List ℕ) → IsModel v m k → P m k

-- it holds on all of them, or on none
abbrev pub Decides : View → (Arrays → List ℕ → Type 0) → Bool → Type 0
Decides v P true = On v P
Decides v P false = On v (λ m k. P m k → ⊥)

-- where a test has an answer
abbrev pub Where : Test → Bool → (Arrays → List ℕ → Type 0) → Arrays → List ℕ → Type 0
Where t y P m k = passes t m k ≡ y → P m k

-- the facts are on so many variables
abbrev pub AreBelow : ℕ → View → Type 0
AreBelow arrays v = All (FactBelow arrays) v.facts

-- a test that some of them pass and some do not
abbrev pub IsStop : View → ℕ → Stop → Type 0
IsStop v arrays (Split t) = IsTest (space v arrays) t × IsVerdict v t Unsure
IsStop v arrays NoMemory = Unit {0}

-- one of them over so many variables, on which it does not hold
pub record Refutes (v : View) (arrays : ℕ) (P : Arrays → List ℕ → Type 0) (m : Arrays) (k : List ℕ) : Type 0 where
  pub model : IsModel v m k
  pub only : IsZeroFrom arrays m
  pub fails : P m k → ⊥

-- it holds on all of them, or not on this one
abbrev pub IsAnswer : View → ℕ → (Arrays → List ℕ → Type 0) → Compared → Type 0
IsAnswer v arrays P Same = On v P
IsAnswer v arrays P (Differ s k) = Refutes v arrays P (arrays_of s) k

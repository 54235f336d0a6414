-- What is asked of a model: a component, or a place.
use Rattle.std.specs.Prelude.{◌≡◌, ℕ, ◌^◌, ◌<◌, ◌≤◌, ◌⊎◌, true, List, length, map, slice_index}
use Rattle.snap_core.specs.declared.policy.Atom.TheVariants.{Num as Number}
use Rattle.snap_core.specs.declared.policy.Term.TheVariants.{Num}
use Rattle.snap_core.specs.declared.policy.Test.{Test}
use Rattle.snap_core.specs.declared.policy.Test.TheVariants.{Value, State}
use Rattle.snap_core.specs.Arrays.{Arrays}
use Rattle.snap_context.specs.Answers.{NoneMeetsWith}
use Rattle.snap_context.specs.Meets.{with_fact}
use Rattle.snap_context.specs.View.{View}
use Rattle.snap_context.specs.declared.ask.Ask.{Ask}
use Rattle.snap_context.specs.declared.ask.Ask.TheVariants.{Component, At}
use Rattle.snap_context.specs.declared.ask.Settled.{Settled}

-- the test that the answer is the number
abbrev pub test_of : Ask → ℕ → Test
test_of (Component c) n = Value c n
test_of (At p) n = State p.var (map Number p.index) (Num n)

-- the answer of arrays and a packet
abbrev pub answer_of : Ask → Arrays → List ℕ → ℕ
answer_of (Component c) m k = slice_index k c
answer_of (At p) m k = m p

abbrev pub AskFits : ℕ → Ask → Type 0
AskFits comps (Component c) = c < comps
AskFits comps (At p) = length p.index ≤ 8

-- the context with the answer as one fact more
pub record IsSettled (v : View) (ask : Ask) (s : Settled) : Type 0 where
  pub facts : s.ctx.facts ≡ with_fact v.facts (test_of ask s.num) true
  pub small : s.num < 2 ^ 64
  pub same : length s.ctx.classes ≡ length v.classes

-- no store and packet that meet the context answer so
abbrev pub IsNever : View → Ask → ℕ → Type 0
IsNever v ask n = NoneMeetsWith v (test_of ask n) true

-- the guess, or the least possible answer where the guess is none
abbrev pub IsGuessOrLeast : View → Ask → ℕ → ℕ → Type 0
IsGuessOrLeast v ask guess n = (n ≡ guess) ⊎ (IsNever v ask guess × ((i : ℕ) → i < n → IsNever v ask i))

-- Answers under a test's two answers, and of leaves.
use Rattle.std.proofs.Common.{◌≡◌, ℕ, Bool, true, false, List, sym, ◌∙◌, subst}
use Rattle.std.specs.Prelude.{Result, MatchResult}
use Rattle.std.specs.List.{All}
use Rattle.std.proofs.lemmas.List.Elements.{All-cons}
use Rattle.snap_core.specs.declared.policy.Test.{Test}
use Rattle.snap_core.specs.Arrays.{Arrays, updates}
use Rattle.snap_core.specs.Cells.{arrays_of}
use Rattle.snap_core.specs.Tests.{passes, results}
use Rattle.snap_context.specs.declared.context.Assumed.TheVariants.{More}
use Rattle.snap_context.specs.declared.fact.Fact.{Fact}
use Rattle.snap_context.specs.Answers.{IsAssumed}
use Rattle.snap_context.specs.Answers.{NoneMeetsWith}
use Rattle.snap_context.specs.Meets.{Meets}
use Rattle.snap_context.specs.View.{View}
use Rattle.snap_context.proofs.Answers.{Meets-with_fact, Meets-parts}
use Rattle.snap_context.specs.Models.{FactBelow}
use Rattle.snap_diagrams.specs.declared.leaf.Go.{Go}
use Rattle.snap_diagrams.specs.declared.leaf.Leaf.TheVariants.{Go as Goes}
use Rattle.snap_equal.specs.declared.comparing.Compared.{Compared}
use Rattle.snap_equal.specs.declared.comparing.Compared.TheVariants.{Same, Differ}
use Rattle.snap_equal.specs.declared.stop.Stop.{Stop}
use Rattle.snap_equal.specs.Inputs.{IsTest, space}
use Rattle.snap_equal.specs.Leaves.{LeavesDoSame}
use Rattle.snap_equal.specs.Told.{AreBelow, IsModel, On, Decides, Where, IsStop, IsAnswer}
use Rattle.snap_equal.proofs.Telling.{result_as}

-- the facts of a context with one more
pub below_more : (n : ℕ) (v w : View) (t : Test) (y : Bool) → IsTest (space v n) t → IsAssumed v t y (More w) → AreBelow n v → AreBelow n w
below_more n v w t y is a h = subst (All (FactBelow n)) (sym a.0) (All-cons (FactBelow n) (record { test = t; yes = y }) v.facts is.var h)

module _ (v : View) (arrays : ℕ) (t : Test) (y : Bool) (P : Arrays → List ℕ → Type 0) where
  -- none gives the answer
  pub nowhere : NoneMeetsWith v t y → On v (Where t y P)
  nowhere none m k i e = absurd (none m k i.packet (Meets-with_fact v.facts t y m k i.facts e))

  -- the context where the test has the answer
  pub under_more : (w : View) → IsAssumed v t y (More w) → (c : Compared) → IsAnswer w arrays P c → IsAnswer v arrays (Where t y P) c
  under_more w a Same h = λ m k i e. h m k (record {
    store = i.store;
    packet = record { long = i.packet.long ∙ sym a.1; numbers = i.packet.numbers };
    facts = subst (λ (fs : List Fact). Meets fs m k) (sym a.0) (Meets-with_fact v.facts t y m k i.facts e);
  })
  under_more w a (Differ s k) h =
      let parts : Meets v.facts (arrays_of s) k × (passes t (arrays_of s) k ≡ y) = Meets-parts v.facts t y (arrays_of s) k (subst (λ (fs : List Fact). Meets fs (arrays_of s) k) a.0 h.model.facts) in
      record {
        model = record { store = h.model.store; packet = record { long = h.model.packet.long ∙ a.1; numbers = h.model.packet.numbers }; facts = parts.0 };
        only = h.only;
        fails = λ f. h.fails (f parts.1);
      }

-- both answers of a test, where each asks what the whole does
module _ (v : View) (arrays : ℕ) (t : Test) (P Y N : Arrays → List ℕ → Type 0)
    (yes_to : On v (λ m k. passes t m k ≡ true → Y m k → P m k)) (yes_from : On v (λ m k. passes t m k ≡ true → P m k → Y m k))
    (no_to : On v (λ m k. passes t m k ≡ false → N m k → P m k)) (no_from : On v (λ m k. passes t m k ≡ false → P m k → N m k)) where
  one_way : (m : Arrays) (k : List ℕ) → IsModel v m k → Where t true Y m k → Where t false N m k → (b : Bool) → passes t m k ≡ b → P m k
  one_way m k i y n true e = yes_to m k i e (y e)
  one_way m k i y n false e = no_to m k i e (n e)

-- ---- leaves
pub leaves_as : (v : View) (arrays : ℕ) (r : Result Bool Stop) (g h : Go) → On v (λ m k. results g.outs k ≡ results h.outs k)
    → MatchResult r (Decides v (λ m k. updates m g.ups k ≡ updates m h.ups k)) (IsStop v arrays) → MatchResult r (Decides v (LeavesDoSame (Goes g) (Goes h))) (IsStop v arrays)
leaves_as v arrays r g h packets = result_as v arrays (λ m k. updates m g.ups k ≡ updates m h.ups k) (LeavesDoSame (Goes g) (Goes h))
    (λ m k i e. record { stores = e; packets = packets m k i })
    (λ m k i same. same.stores) r

-- what holds on none of them is refuted by any of them
pub refuted : (v : View) (arrays : ℕ) (P : Arrays → List ℕ → Type 0) (c : Compared) → On v (λ m k. P m k → ⊥) → IsAnswer v arrays (λ m k. ⊥) c → IsAnswer v arrays P c
refuted v arrays P Same never h = λ m k i. absurd (h m k i)
refuted v arrays P (Differ s k) never h = record { model = h.model; only = h.only; fails = never (arrays_of s) k h.model }

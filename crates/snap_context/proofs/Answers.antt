-- Facts with one more, and both answers of a test.
use Rattle.std.proofs.Common.{◌≡◌, ℕ, ◌⊎◌, inl, inr, ⊎_elim, true, false, Bool, List}
use Rattle.std.proofs.lemmas.Bool.{cases_Bool}
use Rattle.std.proofs.lemmas.List.Elements.{All-cons, All-head, All-tail}
use Rattle.snap_core.specs.declared.policy.Test.{Test}
use Rattle.snap_core.specs.Arrays.{Arrays}
use Rattle.snap_core.specs.Tests.{passes}
use Rattle.snap_context.specs.declared.fact.Fact.{Fact}
use Rattle.snap_context.specs.Meets.{Meets, with_fact}

pub Meets-parts : (facts : List Fact) (t : Test) (y : Bool) (m : Arrays) (k : List ℕ) → Meets (with_fact facts t y) m k → Meets facts m k × (passes t m k ≡ y)
Meets-parts facts t y m k h =
    let P : Fact → Type 0 = λ f. passes f.test m k ≡ f.yes in
    (All-tail P (record { test = t; yes = y }) facts h, All-head P (record { test = t; yes = y }) facts h)

pub Meets-with_fact : (facts : List Fact) (t : Test) (y : Bool) (m : Arrays) (k : List ℕ) → Meets facts m k → passes t m k ≡ y → Meets (with_fact facts t y) m k
Meets-with_fact facts t y m k h p = All-cons (λ (f : Fact). passes f.test m k ≡ f.yes) (record { test = t; yes = y }) facts p h

pub Meets-an_answer : (facts : List Fact) (t : Test) (m : Arrays) (k : List ℕ) → Meets facts m k → Meets (with_fact facts t true) m k ⊎ Meets (with_fact facts t false) m k
Meets-an_answer facts t m k h =
    ⊎_elim
    (λ (y : passes t m k ≡ true). inl (Meets-with_fact facts t true m k h y))
    (λ (n : passes t m k ≡ false). inr (Meets-with_fact facts t false m k h n))
    (cases_Bool (passes t m k))

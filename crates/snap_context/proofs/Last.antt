-- Facts with one more behind them.
use Rattle.std.proofs.Common.{◌≡◌, Bool, List, [], ◌∷◌, ◌++◌, Some, refl}
use Rattle.std.specs.Prelude.{ℕ}
use Rattle.std.proofs.lemmas.List.Elements.{All-pop, All-push}
use Rattle.snap_core.specs.declared.policy.Test.{Test}
use Rattle.snap_core.specs.Arrays.{Arrays}
use Rattle.snap_core.specs.Tests.{passes}
use Rattle.snap_context.specs.declared.fact.Fact.{Fact}
use Rattle.snap_context.specs.Meets.{Meets}

abbrev pub with_last : List Fact → Test → Bool → List Fact
with_last facts t y = facts ++ record { test = t; yes = y } ∷ []

pub last_parts : (facts : List Fact) (t : Test) (y : Bool) (m : Arrays) (k : List ℕ) → Meets (with_last facts t y) m k → Meets facts m k × (passes t m k ≡ y)
last_parts facts t y m k h = All-pop (λ f. passes f.test m k ≡ f.yes) (with_last facts t y) facts (Some (record { test = t; yes = y })) refl h

pub Meets-with_last : (facts : List Fact) (t : Test) (y : Bool) (m : Arrays) (k : List ℕ) → Meets facts m k → passes t m k ≡ y → Meets (with_last facts t y) m k
Meets-with_last facts t y m k h p = All-push (λ (f : Fact). passes f.test m k ≡ f.yes) facts (record { test = t; yes = y }) h p

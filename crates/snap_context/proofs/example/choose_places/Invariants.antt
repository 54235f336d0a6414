-- The places of the facts so far are settled.
use Rattle.std.proofs.Common.{◌≡◌, ◌++◌, List}
use Rattle.snap_context.specs.declared.fact.Fact.{Fact}
use Rattle.snap_context.specs.Models.{Settles}
use Rattle.snap_context.proofs.example.choose_places.Given as goal

abbrev pub invariant-loop-fact : goal.invariant-loop-fact
invariant-loop-fact l =
    (seen : List Fact) × (seen ++ l.fact-iterator.left.now ≡ l.ctx.facts) × Settles l.ctx l.yes seen l.initial.draft l.draft

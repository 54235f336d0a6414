-- The facts of a link.
use Rattle.std.specs.Prelude.{List, [], ◌∷◌}
use Rattle.snap_context.specs.declared.fact.Fact.{Fact}
use Rattle.snap_context.specs.declared.facts.Link.{Link}
use Rattle.snap_context.specs.declared.facts.Link.TheVariants.{End, More}

abbrev pub facts_of : Link → List Fact
facts_of End = []
facts_of (More f before) = f ∷ before.value

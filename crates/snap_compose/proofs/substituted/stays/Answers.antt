-- No out, and nothing tested that is updated.
use Rattle.std.proofs.Common.{sym, ◌∙◌}
use Rattle.snap_diagrams.specs.Diagrams.{diagram}
use Rattle.snap_compose.proofs.Marked.{marked_untouched}
use Rattle.snap_compose.proofs.Staying.{none_left}
use Rattle.snap_compose.proofs.substituted.stays.Goals as goal

pub returns-then-is_empty : goal.returns-then-is_empty
returns-then-is_empty c = λ misses ns marked. (
  sym c.parts.ensures.list ∙ none_left c.parts.result.now (sym c.is_empty.ensures ∙ c.if-is_empty.true),
  marked_untouched c.of.result c.args.ups.now (diagram ns c.args.d) (c.of.ensures ns marked) (c.misses_updates.ensures misses),
)

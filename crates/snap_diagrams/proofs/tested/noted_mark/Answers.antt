-- The mark, where the place has one.
use Rattle.std.proofs.Common.{◌≡◌, ◌∙◌, ℕ, List, Option, Some, None, ap, sym}
use Rattle.std.specs.Prelude.{IfSome, slice_get}
use Rattle.std.proofs.lemmas.Option.{slice_get-get_or}
use Rattle.snap_context.specs.declared.tested.Tested.{Tested}
use Rattle.snap_diagrams.proofs.tested.noted_mark.Goals as goal

where_some : (marks : List (Option Tested)) (place : ℕ) (o : Option Tested) → slice_get marks place ≡ Some o → IfSome o (λ mark. slice_get marks place ≡ Some (Some mark))
where_some marks place (Some mark) e = e
where_some marks place None e = tt

pub returns : goal.returns
returns c =
    where_some c.args.marks.now c.args.place c.in_ok-get.field-0.now
    (slice_get-get_or c.args.marks.now c.args.place c.in_ok-get.field-0.now c.in_ok-get.ensures.lookup.3.0 ∙ ap Some (sym c.in_ok-get.ensures.lookup.1))

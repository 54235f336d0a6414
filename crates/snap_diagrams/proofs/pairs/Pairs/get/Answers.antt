-- By the two: from the table, or else from the first four.
use Rattle.std.proofs.Common.{◌∷◌, [], reverse, sym, ap, ◌∙◌}
use Rattle.std.specs.Option.{option_copied}
use Rattle.snap_core.specs.Cells.{cell}
use Rattle.snap_diagrams.specs.Memos.{paired}
use Rattle.snap_diagrams.proofs.Paired.{cell-paired_beside}
use Rattle.snap_diagrams.proofs.pairs.Pairs.get.Goals as goal

pub returns-in-Some : goal.returns-in-Some
returns-in-Some c =
    let inside = c.self.inside in
    sym (cell-paired_beside (c.args.a, c.args.b) inside.numbers.entries (paired (reverse inside.first.items)) _ (sym c.get.ensures.value ∙ ap option_copied c.in-Some.is))
    ∙ ap (λ m. cell m (c.args.a ∷ c.args.b ∷ [])) c.self.view_is

pub returns-in-None : goal.returns-in-None
returns-in-None c =
    let inside = c.self.inside in
    c.newest.ensures
    ∙ ap (λ l. cell (paired (reverse l)) (c.args.a ∷ c.args.b ∷ [])) c.deref.ensures.0
    ∙ sym (cell-paired_beside (c.args.a, c.args.b) inside.numbers.entries (paired (reverse inside.first.items)) _ (sym c.get.ensures.value ∙ ap option_copied c.in-None.is))
    ∙ ap (λ m. cell m (c.args.a ∷ c.args.b ∷ [])) c.self.view_is

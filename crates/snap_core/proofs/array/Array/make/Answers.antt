use Rattle.std.proofs.Common.{refl, ap, ◌∙◌, Some, cond}
use Rattle.std.proofs.lemmas.Result.{on_ok_weaker, on_err_weaker}
use Rattle.std.specs.Str.{bytes_eq}
use Rattle.snap_core.specs.Cells.{cell}
use Rattle.snap_core.proofs.Beside.{first-none, beside-first, beside-second, beside-same}
use Rattle.snap_core.proofs.array.Array.make.Goals as goal

pub returns-then-is_crowded-clause-ok : goal.returns-then-is_crowded-clause-ok
returns-then-is_crowded-clause-ok c =
    let ix = c.args.index.now in let t = c.self.inside.table.0 in let d = c.self.inside.crowded in
    let none = first-none t d ix (ap (λ a. cell a.0 ix) c.self.view_is ∙ c.requires) in
    on_ok_weaker c.put.result
    (λ f q.
    beside-second ix c.args.value t c.spread.new.self.0 d c.put.new.self none c.spread.ensures.cells
    (λ p. f p ∙ ap (λ k. cond (bytes_eq k p) (Some c.args.value) (cell d p)) c.in_ok-key.ensures.items) q
    ∙ ap (λ a. cond (bytes_eq ix q) (Some c.args.value) (cell a.0 q)) c.self.view_is)
    c.put.ensures.ok

pub returns-then-is_crowded-clause-err : goal.returns-then-is_crowded-clause-err
returns-then-is_crowded-clause-err c =
    on_err_weaker c.put.result
    (λ f q.
    beside-same c.self.inside.table.0 c.spread.new.self.0 c.self.inside.crowded c.put.new.self c.spread.ensures.cells (λ p. ap (λ m. cell m p) f) q
    ∙ ap (λ a. cell a.0 q) c.self.view_is)
    c.put.ensures.err

pub returns-else-is_crowded-clause-ok : goal.returns-else-is_crowded-clause-ok
returns-else-is_crowded-clause-ok c =
    let ix = c.args.index.now in
    on_ok_weaker c.put-else-is_crowded.result
    (λ f q.
    beside-first ix c.args.value c.self.inside.table.0 c.put-else-is_crowded.new.self.0 c.self.inside.crowded
    (λ p. f p ∙ (λ i. cond (bytes_eq (c.in_ok-key.ensures.items i) p) (Some c.args.value) (c.spread.ensures.cells p i))) q
    ∙ ap (λ a. cond (bytes_eq ix q) (Some c.args.value) (cell a.0 q)) c.self.view_is)
    c.put-else-is_crowded.ensures.ok

pub returns-else-is_crowded-clause-err : goal.returns-else-is_crowded-clause-err
returns-else-is_crowded-clause-err c =
    on_err_weaker c.put-else-is_crowded.result
    (λ f q.
    beside-same c.self.inside.table.0 c.put-else-is_crowded.new.self.0 c.self.inside.crowded c.self.inside.crowded (λ p. ap (λ m. cell m p) f ∙ c.spread.ensures.cells p) (λ p. refl) q
    ∙ ap (λ a. cell a.0 q) c.self.view_is)
    c.put-else-is_crowded.ensures.err

use Rattle.std.proofs.Common.{ap, sym, ◌∙◌, [], Some, cond, rules}
use Rattle.std.specs.Prelude.{unwrap_or}
use Rattle.std.specs.Str.{bytes_eq}
use Rattle.std.proofs.lemmas.Result.{on_ok_weaker}
use Rattle.snap_core.specs.Cells.{cell, changed_at, overlaid}
use Rattle.snap_core.specs.Arrays.{put}
use Rattle.snap_core.proofs.StoreLemmas.{overlaid-updated}
use Rattle.snap_core.proofs.changes.Changes.put.Goals as goal

pub returns-in-Some : goal.returns-in-Some
returns-in-Some c = λ m.
    let here = ap (λ o. unwrap_or o []) c.in-Some.ensures.value in
    on_ok_weaker c.put.result
    (λ f.
    overlaid-updated c.args.var c.args.index.items c.args.value c.self.inside.patches (c.get_mut.follows.lender c.put.new.self) c.put.new.self
    (λ q. f q ∙ ap (λ a. cond (bytes_eq c.args.index.items q) (Some c.args.value) (cell a q)) here)
    ((c.get_mut.follows.holds c.put.new.self).3 (search rules)) m
    ∙ ap (λ d. put (overlaid m d) (record { var = c.args.var; index = c.args.index.items }) c.args.value) c.self.view_is)
    c.put.ensures.ok

pub returns : goal.returns
returns c = λ m.
    let same = c.get_mut.follows.holds-at-none in
    let absent = ap (λ o. unwrap_or o []) c.in_default.ensures.value in
    overlaid-updated c.args.var c.args.index.items c.args.value c.get_mut.follows.lender-at-none c.insert.new.self c.put-2.new.self
    (λ q. c.in_ok-put.ensures.ok q ∙ ap (λ a. cond (bytes_eq c.args.index.items q) (Some c.args.value) (cell a q)) (c.new-patch.ensures ∙ absent ∙ ap (λ d. changed_at d.entries c.args.var) (sym same)))
    c.in_ok-insert.ensures.updates m
    ∙ ap (λ d. put (overlaid m d) (record { var = c.args.var; index = c.args.index.items }) c.args.value) (ap (λ d. d.entries) same ∙ c.self.view_is)

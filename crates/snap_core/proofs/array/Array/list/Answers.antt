use Rattle.std.proofs.Common.{◌++◌, map, ap, sym, subst, ◌∙◌, append_assoc}
use Rattle.std.specs.List.{IsDistinct}
use Rattle.std.specs.Map.{keys_of}
use Rattle.std.specs.Str.{bytes_eq}
use Rattle.std.proofs.lemmas.Result.{on_ok_weaker}
use Rattle.snap_core.specs.Cells.{without}
use Rattle.snap_core.specs.Listing.{entries_of, entry_of}
use Rattle.snap_core.proofs.Beside.{IsDistinct-beside}
use Rattle.snap_core.proofs.Entries.{entries_of-append}
use Rattle.snap_core.proofs.array.Array.list.Goals as goal

pub returns-clause-items : goal.returns-clause-items
returns-clause-items c =
    let t = c.self.inside.table.0 in let d = c.self.inside.crowded in
    let es = map entry_of c.args.listed.now.items in let s = c.args.var in
    on_ok_weaker c.list_beside.result
    (λ f. f
    ∙ ap (λ l. l ++ entries_of s (without t d)) c.in_ok-list.ensures.items
    ∙ append_assoc es (entries_of s t) (entries_of s (without t d))
    ∙ ap (λ l. es ++ l) (sym (entries_of-append s t (without t d)))
    ∙ ap (λ a. es ++ entries_of s a.0) c.self.view_is)
    c.list_beside.ensures.items

pub returns-clause-distinct : goal.returns-clause-distinct
returns-clause-distinct c =
    on_ok_weaker c.list_beside.result
    (λ _. subst (λ a. IsDistinct bytes_eq (keys_of a.0)) c.self.view_is (IsDistinct-beside c.self.inside.table.0 c.self.inside.crowded c.list.ensures.distinct c.list_beside.ensures.distinct))
    c.list_beside.ensures.items

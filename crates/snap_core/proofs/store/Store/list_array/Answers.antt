use Rattle.std.proofs.Common.{◌≡◌, ◌<◌, ◌+◌, ◌++◌, [], length, map, ap, sym, subst, ◌∙◌, arith}
use Rattle.std.proofs.lemmas.Grind.{common_steps}
use Rattle.std.proofs.lemmas.List.{get_or_default, length-append, length-map}
use Rattle.std.specs.List.{IsDistinct}
use Rattle.std.specs.Map.{keys_of}
use Rattle.std.specs.Str.{bytes_eq}
use Rattle.snap_core.specs.Cells.{array_at, arrays_of}
use Rattle.snap_core.specs.Listing.{ListsArray, entries_of, entry_of}
use Rattle.snap_core.proofs.ArrayListings.{lists-none, lists-sorted}
use Rattle.snap_core.proofs.store.Store.list_array.Goals as goal

pub returns-then-not-reaches : goal.returns-then-not-reaches
returns-then-not-reaches c = lists-none c.args.var c.args.self.now (map entry_of c.args.listed.now.items) (grind (arith, common_steps))

pub sort_from-requires : goal.sort_from-requires
sort_from-requires c =
    let old = c.args.listed.now.items in let new = c.list.new.listed.items in
    let es = entries_of c.args.var c.index.result.now.0 in
    let long : length new ≡ length old + length es =
    sym (length-map new entry_of) ∙ ap length c.in_ok-list.ensures.items ∙ length-append (map entry_of old) es ∙ ap (λ n. n + length es) (length-map old entry_of) in
    omega (arith, long, c.len-before.ensures)

pub returns : goal.returns
returns c =
    let m = c.self.inside.arrays.items in let s = c.args.var in let old = c.args.listed.now.items in
    let count : c.len-before.result ≡ length old = omega (arith, c.len-before.ensures) in
    let within : s < length m = grind (arith, common_steps) in
    let here : c.index.result.now ≡ array_at m s = c.index.ensures ∙ get_or_default m s _ ([], 0) within in
    subst (λ k. ListsArray s (arrays_of k) (map entry_of old) (map entry_of c.sort_from.new.listed.items)) c.self.view_is
    (lists-sorted s m c.len-before.result old c.list.new.listed.items c.sort_from.new.listed.items count
    (c.in_ok-list.ensures.items ∙ ap (λ a. map entry_of old ++ entries_of s a.0) here)
    (subst (λ a. IsDistinct bytes_eq (keys_of a.0)) here c.in_ok-list.ensures.distinct)
    c.sort_from.ensures.before c.sort_from.ensures.same c.sort_from.ensures.sorted)

use Rattle.std.proofs.Common.{◌≡◌, map, ap, sym, subst, ◌∙◌}
use Rattle.std.proofs.lemmas.List.{take_all}
use Rattle.snap_core.specs.Listing.{IsListing, entry_of}
use Rattle.snap_rows.specs.Network.{global_store}
use Rattle.snap_net.proofs.net.Net.entries.Goals as goal

pub returns : goal.returns
returns c = λ s shows.
    let items = c.deref-each-items.result.now in
    let all : c.loop-each.entries.items ≡ map entry_of c.in_ok-listed.listed.items = c.loop-each.invariant ∙ ap (map entry_of) (take_all c.loop-each.each-index items c.loop-each-test.false ∙ c.deref-each-items.ensures.value) in
    subst (IsListing (global_store c.args.self.now.tables s)) (sym all) (c.in_ok-listed.ensures s shows)

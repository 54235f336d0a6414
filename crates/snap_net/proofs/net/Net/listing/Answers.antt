use Rattle.std.proofs.Common.{◌≡◌, ◌+◌, ◌<◌, [], get_or, length, map, ap, sym, subst, ◌∙◌, arith}
use Rattle.std.proofs.lemmas.Grind.{common_steps}
use Rattle.std.proofs.lemmas.List.{get_or_default}
use Rattle.snap_core.specs.Cells.{arrays_of}
use Rattle.snap_core.specs.Listing.{IsArrayListing, IsListing, entry_of}
use Rattle.snap_core.proofs.ArrayListings.{AreBelow, below, below-none, listing_more, listing_none}
use Rattle.snap_rows.specs.Entries.{owner_of}
use Rattle.snap_rows.specs.Form.{array_count}
use Rattle.snap_net.specs.Shown.{NetView, gathered, store_of}
use Rattle.snap_net.proofs.Gathering.{gathered-all, gathered-more, gathered-whole}
use Rattle.snap_net.proofs.net.Net.listing.Goals as goal

pub loop-var-init : goal.loop-var-init
loop-var-init c =
    let v = c.args.self.now in let m = gathered v.tables v.stores in
    subst (λ l. AreBelow 0 (below 0 m) (map entry_of l)) (sym c.in_ok-all.ensures.items) (listing_none (below 0 m) (below-none m))

pub loop-var-preserved : goal.loop-var-preserved
loop-var-preserved c =
    let v = c.args.self.now in let m = gathered v.tables v.stores in
    let n = c.loop-var.var in let w = c.owner_of-at.result in let stores = c.self.inside.stores.items in
    let within : w < length stores = omega (arith, c.self.invariant.stores, c.owner_of-at.ensures.below) in
    let store : c.index.result.now ≡ get_or v.stores w [] = c.index.ensures ∙ get_or_default stores w _ [] within ∙ ap (λ (o : NetView). get_or o.stores w []) c.self.view_is in
    let owner = ap (λ (o : NetView). owner_of o.tables n) (sym c.self.view_is) ∙ c.owner_of-at.ensures.owner in
    let lists = c.in_ok-list_array.ensures in
    subst (AreBelow (n + 1) (below (n + 1) m)) (sym lists.1)
    (listing_more n (below n m) (store_of v.stores w) (below (n + 1) m) (map entry_of c.loop-var.all.items) lists.0 c.loop-var.invariant
    (subst (λ k. IsArrayListing n (arrays_of k) lists.0) store lists.2) (gathered-more v.tables v.stores n w owner))

pub returns : goal.returns
returns c = λ s shows.
    let v = c.args.self.now in let m = gathered v.tables v.stores in
    let end : c.loop-var.var ≡ array_count v.tables = grind (arith, common_steps) in
    subst (λ a. IsListing a (map entry_of c.loop-var.all.items)) (ap (λ n. below n m) end ∙ gathered-all v.tables v.stores ∙ gathered-whole v s shows) c.loop-var.invariant.listing

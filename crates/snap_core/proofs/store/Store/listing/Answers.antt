use Rattle.std.proofs.Common.{◌≡◌, ◌+◌, length, map, sym, ap, subst, ◌∙◌, arith}
use Rattle.std.proofs.lemmas.Grind.{common_steps}
use Rattle.snap_core.specs.Cells.{arrays_of}
use Rattle.snap_core.specs.Listing.{IsListing, entry_of}
use Rattle.snap_core.proofs.ArrayListings.{AreBelow, below, below-all, below-more, below-none, listing_more, listing_none}
use Rattle.snap_core.proofs.store.Store.listing.Goals as goal

pub loop-var-init : goal.loop-var-init
loop-var-init c =
    let m = arrays_of c.args.self.now in
    subst (λ l. AreBelow 0 (below 0 m) (map entry_of l)) (sym c.in_ok-listed.ensures.items) (listing_none (below 0 m) (below-none m))

pub loop-var-preserved : goal.loop-var-preserved
loop-var-preserved c =
    let m = arrays_of c.args.self.now in let n = c.loop-var.var in let before = map entry_of c.loop-var.listed.items in
    let lists = c.in_ok-list_array.ensures in
    subst (AreBelow (n + 1) (below (n + 1) m)) (sym lists.1)
    (listing_more n (below n m) m (below (n + 1) m) before lists.0 c.loop-var.invariant lists.2 (below-more n m))

pub returns : goal.returns
returns c =
    let m = arrays_of c.args.self.now in
    let end : c.loop-var.var ≡ length c.args.self.now = grind (arith, common_steps) in
    subst (λ n. IsListing n (map entry_of c.loop-var.listed.items)) (ap (λ n. below n m) end ∙ below-all c.args.self.now) c.loop-var.invariant.listing

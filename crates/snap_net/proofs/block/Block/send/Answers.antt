use Rattle.std.proofs.Common.{◌≡◌, ◌<◌, List, [], ◌∷◌, Some, length, sym, subst}
use Rattle.std.specs.Prelude.{slice_get, slice_set}
use Rattle.snap_net.specs.declared.flying.Flying.{Flying}
use Rattle.snap_net.specs.Flights.{spliced}
use Rattle.snap_net.proofs.Blocks.{sent}
use Rattle.snap_net.proofs.block.Block.send.Goals as goal

pub returns : goal.returns
returns c =
    let xs = c.self.inside.copies.items in
    let x = c.index_mut-copy.result.now in
    let within : c.args.place < length xs = subst (λ (l : List Flying). c.args.place < length l) (sym c.self.view_is) c.requires in
    subst (λ (l : List Flying). (y : Flying) → slice_get l c.args.place ≡ Some y
    → slice_set xs c.args.place (record { number = x.number; at = c.args.to; head = c.args.head; packet = x.packet }) ≡ spliced l c.args.place 1 (record { number = y.number; at = c.args.to; head = c.args.head; packet = y.packet } ∷ []))
    c.self.view_is
    (λ y is. sent xs c.args.place x y c.args.to c.args.head within c.index_mut-copy.ensures.value is)

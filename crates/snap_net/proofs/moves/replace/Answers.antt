use Rattle.std.proofs.Common.{◌≡◌, ◌+◌, ◌≤◌, List, [], Some, length, sym, ap, subst, ◌∙◌, arith}
use Rattle.std.specs.List.{All}
use Rattle.std.proofs.lemmas.Grind.{common_steps}
use Rattle.std.proofs.lemmas.List.{length-map}
use Rattle.snap_core.specs.Arrays.{updates}
use Rattle.snap_core.specs.Fits.{UpdateReads}
use Rattle.snap_net.specs.declared.flying.Flying.{Flying}
use Rattle.snap_net.specs.Flights.{spliced}
use Rattle.snap_net.specs.Shown.{store_of}
use Rattle.snap_net.specs.Moves.{Changed, copies_in_flight}
use Rattle.snap_net.proofs.Splices.{put_undone, put_in_place, was_there}
use Rattle.snap_net.proofs.moves.replace.Goals as goal

pub update_at-requires-clause-reads : goal.update_at-requires-clause-reads
update_at-requires-clause-reads c =
    let from = c.get-from.result.now in
    let put = copies_in_flight from.number from.at c.args.copies.items in
    let same : from ≡ c.get.result.now = was_there c.args.flying.now c.put_copies.new.flying put c.args.k from c.get.result.now c.get-from.ensures c.in_ok-put_copies.ensures.ok c.get.ensures in
    subst (λ (y : Flying). All (UpdateReads (length y.packet)) c.args.ups.now) same (c.requires.reads from c.get-from.ensures)

pub returns-in-Err-clause-err : goal.returns-in-Err-clause-err
returns-in-Err-clause-err c =
    let list = c.args.flying.now in
    let from = c.get-from.result.now in
    let put = copies_in_flight from.number from.at c.args.copies.items in
    let within : c.args.k + 1 ≤ length list = omega (arith, c.requires.k) in
    let count : c.len-count.result ≡ length c.args.copies.items = grind (arith, common_steps) in
    let long : c.len-count.result ≡ length put = count ∙ sym (length-map c.args.copies.items _) in
    (c.cut.ensures ∙ ap (λ l. spliced l (c.args.k + 1) c.len-count.result []) c.in_ok-put_copies.ensures.ok ∙ put_undone list put (c.args.k + 1) c.len-count.result within long, c.in-Err.ensures.err)

pub returns-clause-updated : goal.returns-clause-updated
returns-clause-updated c = λ y is.
    let from = c.get-from.result.now in
    let put = copies_in_flight from.number from.at c.args.copies.items in
    let same : y ≡ c.get.result.now = was_there c.args.flying.now c.put_copies.new.flying put c.args.k y c.get.result.now is c.in_ok-put_copies.ensures.ok c.get.ensures in
    let old = c.args.stores.now.items in
    subst (λ (x : Flying). Changed old c.update_at.new.stores.items x.at (updates (store_of old x.at) c.args.ups.now x.packet)) (sym same) c.in_default.ensures.ok

pub returns-clause-gone : goal.returns-clause-gone
returns-clause-gone c =
    let list = c.args.flying.now in
    let from = c.get-from.result.now in
    let put : Flying → List Flying = λ x. copies_in_flight x.number x.at c.args.copies.items in
    let same : from ≡ c.remove.result = was_there list c.put_copies.new.flying (put from) c.args.k from c.remove.result c.get-from.ensures c.in_ok-put_copies.ensures.ok c.remove.ensures.copy in (
      c.get-from.ensures ∙ ap Some same,
      c.remove.ensures.left
          ∙ ap (λ l. spliced l c.args.k 1 []) c.in_ok-put_copies.ensures.ok
          ∙ put_in_place list (put from) c.args.k from c.get-from.ensures
          ∙ ap (λ x. spliced list c.args.k 1 (put x)) same,
    )

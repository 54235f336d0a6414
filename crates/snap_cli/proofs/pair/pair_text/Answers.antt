use Rattle.std.proofs.Common.{◌++◌, ap, ◌∙◌, map}
use Rattle.std.specs.List.{flat_map}
use Rattle.snap_core.specs.Listing.{entry_of}
use Rattle.snap_report.specs.Reports.{listed_line}
use Rattle.snap_cli.proofs.PairText.{pair-put}
use Rattle.snap_cli.proofs.pair.pair_text.Goals as goal

pub returns : goal.returns
returns c =
    let listed = c.in_ok-listed.listed.items in
    let front = c.extend_from_slice.new.self.items in
    let lines = c.in_ok-put_arrays.ensures ∙ ap (λ l. front ++ flat_map (listed_line c.args.program.now.arrays) l) c.deref.ensures.value in (
      map entry_of listed,
      c.in_ok-listed.ensures,
      pair-put c.args.first.now c.args.program.now listed c.args.packet.now front c.put_arrays.new.out.items c.extend_from_slice-2.new.self.items c.put_fields.new.out.items
          (c.in_ok-extend_from_slice.ensures.items ∙ ap (λ l. l ++ c.args.first.now) c.new-text.ensures.items) lines c.in_ok-extend_from_slice-2.ensures.items c.in_ok-put_fields.ensures,
    )

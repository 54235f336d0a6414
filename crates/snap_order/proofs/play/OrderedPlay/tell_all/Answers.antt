use Rattle.std.proofs.Common.{◌≡◌, [], ap, rules, subst, ◌∙◌}
use Rattle.snap_rows.specs.declared.tables.Tables.{Tables}
use Rattle.snap_runs.specs.declared.frames.Frames.TheVariants.{Numbered}
use Rattle.snap_runs.specs.Playing.{PutsBlocks}
use Rattle.snap_runs.specs.Reports.{PutsEnd}
use Rattle.snap_runs.proofs.Played.{tallied-report}
use Rattle.snap_order.specs.Ordered.{happenings}
use Rattle.snap_order.proofs.play.OrderedPlay.tell_all.Goals as goal

pub returns : goal.returns
returns c = λ t hops s us p.
    let v = c.args.self.now in
    let empty : c.new-out.result.items ≡ [] = first_of (search rules, cc) in
    let mid = c.put_blocks.new.out.items in
    let out = c.put_end.new.out.items in
    let fields = ap (λ (x : Tables). x.fields) (c.tables-2.ensures.tables ∙ c.tables.ensures.tables) in
    let puts = subst (λ f. PutsBlocks f v.tallies.items [] mid) fields (subst (λ o. PutsBlocks c.tables-2.result.now.fields v.tallies.items o mid) empty c.in_ok-put_blocks.ensures) in
    tallied-report Numbered t hops s.net (happenings us) v.tallies.items v.net.net mid out p.tallies p.tables p.shows.net puts (subst (λ n. PutsEnd n mid out) c.network.ensures c.in_ok-put_end.ensures)

use Rattle.std.proofs.Common.{◌≡◌, [], ap, arith, rules, subst, sym, ◌∙◌}
use Rattle.snap_core.specs.Fields.{count}
use Rattle.snap_rows.specs.declared.tables.Tables.{Tables}
use Rattle.snap_runs.specs.declared.frames.Frames.TheVariants.{Plain}
use Rattle.snap_runs.specs.Playing.{IsLong, PutsBlocks}
use Rattle.snap_runs.proofs.Played.{schedule-report, tallied-report}
use Rattle.snap_runs.proofs.play.PlayPlayable.report.Goals as goal

pub put_blocks-requires-clause-long : goal.put_blocks-requires-clause-long
put_blocks-requires-clause-long c = λ i y is.
    let p = c.requires.playing.4 in
    subst (λ f. IsLong (count f) y) (sym (c.fields_of.ensures ∙ ap (λ (t : Tables). t.fields) p.tables)) (p.tallies.long i y is)

pub put_blocks-requires-clause-few : goal.put_blocks-requires-clause-few
put_blocks-requires-clause-few c =
    let p = c.requires.playing.4 in
    let a = p.tallies.counted in
    let b = p.shows.injected in
    omega (arith, a, b)

pub returns : goal.returns
returns c = λ t hops ks lines p left rests.
    let v = c.args.self.now in
    let empty : c.new-out.result.items ≡ [] = first_of (search rules, cc) in
    let mid = c.put_blocks.new.out.items in
    let out = c.put_end.new.out.items in
    let puts = subst (λ f. PutsBlocks f v.tallies.items [] mid) c.fields_of.ensures (subst (λ o. PutsBlocks c.fields_of.result.now v.tallies.items o mid) empty c.in_ok-put_blocks.ensures) in
    schedule-report t hops ks lines v out p left rests (tallied-report Plain t hops p.state p.told v.tallies.items v.net mid out p.plays.tallies p.plays.tables p.plays.shows puts c.in_ok-put_end.ensures)

use Rattle.std.proofs.Common.{arith}
use Rattle.snap_runs.proofs.Played.{fewer, next-is, next-put}
use Rattle.snap_runs.proofs.play.put_blocks.Goals as goal

pub put_block-requires : goal.put_block-requires
put_block-requires c =
    let l = c.loop-tally in
    c.requires.long l.number c.in-Some.tally (next-is c.args.fields.now c.args.tallies.now.items l.tallies.items c.next_tally.new.tallies.items c.in-Some.tally l.number c.args.out.now.items l.out.items l.invariant.put c.in-Some.ensures.next)

pub loop-tally-preserved : goal.loop-tally-preserved
loop-tally-preserved c =
    let l = c.loop-tally in
    let i = l.invariant in
    let bound = i.bound in
    let rest = c.next_tally.new.tallies.items in
    let less = fewer c.args.fields.now c.args.tallies.now.items l.tallies.items rest c.in-Some.tally l.number c.args.out.now.items l.out.items i.put c.in-Some.ensures.next in
    record {
      put = next-put c.args.fields.now c.args.tallies.now.items l.tallies.items rest c.in-Some.tally l.number c.args.out.now.items l.out.items i.put c.in-Some.ensures.next c.put_block.new.out.items c.in_ok-put_block.ensures;
      bound = omega (arith, bound, less);
    }

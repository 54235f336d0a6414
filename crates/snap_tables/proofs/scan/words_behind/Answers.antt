use Rattle.std.proofs.Common.{◌<◌, ◌^◌, sym, ◌∙◌, arith}
use Rattle.snap_tables.proofs.Scanning.{front_taken}
use Rattle.snap_tables.proofs.scan.words_behind.Goals as goal

pub returns-then-at-text : goal.returns-then-at-text
returns-then-at-text c =
    let small : c.args.number < 2 ^ 64 = omega (arith, c.well_formed) in
    front_taken c.args.text.now c.args.at c.args.number small c.requires c.if-at-eq0.false (sym c.is_padded.ensures ∙ c.if-is_padded.false) c.if-at-text.true

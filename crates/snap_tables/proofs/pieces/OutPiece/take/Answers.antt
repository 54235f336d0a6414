use Rattle.std.proofs.Common.{◌<◌, ◌^◌, arith, sym, ap, subst, ◌∙◌}
use Rattle.std.proofs.lemmas.Option.{MatchOption-at_none, MatchOption-at_some}
use Rattle.snap_tables.specs.Pieces.{IsPiece, is_adjacent}
use Rattle.snap_tables.specs.Reading.{words_left}
use Rattle.snap_tables.specs.Rows.{IsOut, opens_part, part_less}
use Rattle.snap_rows.specs.Entries.{Parts}
use Rattle.snap_tables.specs.Text.{out_words}
use Rattle.snap_tables.proofs.PieceLaws.{out-falls, out-fails, out-piece, rising-out}
use Rattle.snap_tables.proofs.pieces.OutPiece.take.Goals as goal

pub returns-in-None : goal.returns-in-None
returns-in-None c =
    let fits : c.args.counts.comps < 2 ^ 64 = omega (arith, c.well_formed) in
    out-fails c.args.counts fits (words_left c.args.rest) (words_left c.in-Some.behind) c.in-Some.ensures (MatchOption-at_none _ _ c.in-None.is c.in_ok-take_all.ensures)

pub returns-then-not-parts_rise : goal.returns-then-not-parts_rise
returns-then-not-parts_rise c =
    let fits : c.args.counts.comps < 2 ^ 64 = omega (arith, c.well_formed) in
    out-falls c.args.counts fits (words_left c.args.rest) (words_left c.in-Some.behind) c.in-Some.ensures c.in-Some-2.parts.items (words_left c.in-Some-2.left) (MatchOption-at_some _ _ _ c.in-Some-2.is c.in_ok-take_all.ensures) (sym (ap (is_adjacent part_less) c.deref.ensures.value) ∙ sym c.parts_rise.ensures ∙ c.if-not-parts_rise.true)

pub new-requires : goal.new-requires
new-requires c = rising-out c.in-Some-2.parts.items (sym (ap (is_adjacent part_less) c.deref.ensures.value) ∙ sym c.parts_rise.ensures ∙ c.if-not-parts_rise.false)

pub returns-else-not-parts_rise : goal.returns-else-not-parts_rise
returns-else-not-parts_rise c =
    let fits : c.args.counts.comps < 2 ^ 64 = omega (arith, c.well_formed) in
    subst (λ (o : Parts). IsPiece out_words (IsOut c.args.counts) opens_part (words_left c.args.rest) o (words_left c.in-Some-2.left)) (sym c.new.ensures) (out-piece c.args.counts fits (words_left c.args.rest) (words_left c.in-Some.behind) c.in-Some.ensures c.in-Some-2.parts.items (words_left c.in-Some-2.left) (MatchOption-at_some _ _ _ c.in-Some-2.is c.in_ok-take_all.ensures) (sym (ap (is_adjacent part_less) c.deref.ensures.value) ∙ sym c.parts_rise.ensures ∙ c.if-not-parts_rise.false))

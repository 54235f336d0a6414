use Rattle.std.proofs.Common.{◌≡◌, ◌++◌, sym, subst, ◌∙◌}
use Rattle.std.specs.List.{All, flat_map}
use Rattle.std.proofs.lemmas.Option.{MatchOption-at_none, MatchOption-at_some}
use Rattle.snap_tables.specs.Reading.{words_left}
use Rattle.snap_tables.proofs.PieceLemmas.{pieces-each, pieces-words}
use Rattle.snap_tables.proofs.piece.take_all.Goals as goal

pub returns-in-None : goal.returns-in-None
returns-in-None g c =
    record {
      done = c.loop-alloc.pieces.items;
      left = words_left c.loop-alloc.left;
      words = c.loop-alloc.invariant.words;
      each = c.loop-alloc.invariant.each;
      begins = sym c.begins.ensures ∙ c.loop-alloc-test.true;
      none = MatchOption-at_none _ _ c.in-None.is c.in_ok-take.ensures;
    }

pub loop-alloc-smaller : goal.loop-alloc-smaller
loop-alloc-smaller g c = (MatchOption-at_some _ _ _ c.in-Some.is c.in_ok-take.ensures).shorter

pub loop-alloc-preserved : goal.loop-alloc-preserved
loop-alloc-preserved g c =
    let piece = MatchOption-at_some _ _ _ c.in-Some.is c.in_ok-take.ensures in
    let spelled = g.T.Piece.spelled in
    let xs = c.loop-alloc.pieces.items in
    let grown = c.in_ok-push-in-Some.ensures.items in
    record {
      words = subst (λ us. words_left c.args.rest ≡ flat_map spelled us ++ words_left c.in-Some.behind) (sym grown)
          (pieces-words spelled (g.T.Piece.fits c.args.counts) g.T.Piece.goes_on (words_left c.args.rest) (words_left c.loop-alloc.left) (words_left c.in-Some.behind) xs c.in-Some.piece c.loop-alloc.invariant.words c.loop-alloc.invariant.each piece);
      each = subst (All (g.T.Piece.fits c.args.counts)) (sym grown)
          (pieces-each spelled (g.T.Piece.fits c.args.counts) g.T.Piece.goes_on (words_left c.args.rest) (words_left c.loop-alloc.left) (words_left c.in-Some.behind) xs c.in-Some.piece c.loop-alloc.invariant.words c.loop-alloc.invariant.each piece);
      last = λ some. piece.ends;
    }

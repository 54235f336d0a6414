use Rattle.snap_lex.proofs.address.+has_dots.Given as goal

abbrev pub decreases-has_dots : goal.decreases-has_dots
decreases-has_dots l = l.dots

use Rattle.std.proofs.Common.{◌≡◌, drop}
use Rattle.std.specs.List.{list_all}
use Rattle.std.specs.Char.{is_ascii_digit}
use Rattle.snap_core.specs.Figures.{value_after, value_of_digits}
use Rattle.snap_core.proofs.figures.number_up_to.Given as goal

abbrev pub invariant-loop-digit : goal.invariant-loop-digit
invariant-loop-digit l = record {
  digits : list_all is_ascii_digit l.text ≡ list_all is_ascii_digit (drop l.digit-index l.text);
  value : value_of_digits l.text ≡ value_after l.number (drop l.digit-index l.text);
}

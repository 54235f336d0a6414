use Rattle.std.proofs.Common.{◌≡◌, take, true}
use Rattle.std.specs.List.{list_all}
use Rattle.std.specs.Char.{is_ascii_digit}
use Rattle.snap_core.specs.Figures.{value_of_digits}
use Rattle.snap_tables.proofs.scan.digits_front.Given as goal

-- digits alone so far, and what they are worth
abbrev pub invariant-loop-at : goal.invariant-loop-at
invariant-loop-at l = record {
  digits : list_all is_ascii_digit (take l.at l.text) ≡ true;
  value : value_of_digits (take l.at l.text) ≡ l.number;
}

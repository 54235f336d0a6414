use Rattle.snap_faithful.proofs.OneRow.{one_row_is_faithful, another_leaf_is_not}
use Rattle.snap_faithful.proofs.faithful.some_are_faithful.Goals as goal

pub returns : goal.returns
returns c = record { one_row = one_row_is_faithful; another = another_leaf_is_not }

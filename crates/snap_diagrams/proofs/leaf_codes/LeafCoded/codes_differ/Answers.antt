-- By the lemma.
use Rattle.snap_diagrams.proofs.Differ.{same_leaf}
use Rattle.snap_diagrams.proofs.leaf_codes.LeafCoded.codes_differ.Goals as goal

pub returns : goal.returns
returns c = same_leaf

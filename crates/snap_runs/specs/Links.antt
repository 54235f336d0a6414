-- Lines of links, put together from their ends.
use Rattle.std.specs.Prelude.{ℕ, List, ◌++◌, drop}
use Rattle.snap_runs.specs.declared.links.Tail.{Tail}

-- what stands behind the names
abbrev pub tail_text : Tail → List ℕ
tail_text x = drop x.begin x.buffer ++ x.long.items

-- The list of copies in flight, and its edits.
use Rattle.std.specs.Prelude.{◌≡◌, ℕ, ◌+◌, Some, List, [], ◌∷◌, ◌++◌, take, drop, slice_get}
use Rattle.std.specs.List.{flat_map}
use Rattle.snap_rows.specs.declared.head.Head.{Head}
use Rattle.snap_net.specs.declared.flying.Flying.{Flying}

-- the copies of all blocks, in order
abbrev pub joined : List (List Flying) → List Flying
joined blocks = flat_map (λ block. block) blocks

-- the list with others in the place of n copies from k on
abbrev pub spliced : List Flying → ℕ → ℕ → List Flying → List Flying
spliced list k n others = take k list ++ (others ++ drop (k + n) list)

-- copy k of a list was sent to a switch with a head
abbrev pub SendsCopy : List Flying → ℕ → ℕ → Head → List Flying → Type 0
SendsCopy old k to head new = (c : Flying) → slice_get old k ≡ Some c → new ≡ spliced old k 1 (record c { at = to; head = head } ∷ [])

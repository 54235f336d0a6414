-- An event leads one way alone, and so the plain run in order has one report.
use Rattle.std.specs.Prelude.{◌≡◌, Bool, List, ℕ}
use Rattle.snap_rows.specs.declared.tables.Tables.{Tables}
use Rattle.snap_rows.specs.Form.{IsWellFormed}
use Rattle.snap_rows.specs.Network.{Event}
use Rattle.snap_order.specs.Ordered.{LeadsInOrder, Ordered, OrderedHappening}
use Rattle.snap_order.specs.Runs.{ArePlainBlocks, IsPlainReport}

-- an event leads to one state, and the same happens
abbrev pub StepsAreOne : Type 0
StepsAreOne = (t : Tables) → IsWellFormed t → (s : Ordered) (e : Event) (n n' : Ordered) (us us' : List OrderedHappening)
    → LeadsInOrder t s e n us → LeadsInOrder t s e n' us' → (n ≡ n') × (us ≡ us')

-- so packets have one report, and the same blocks, in the plain run in order
abbrev pub PlainReportsAreOne : Type 0
PlainReportsAreOne = (t : Tables) → IsWellFormed t → (hops : Bool) (ks : List (List ℕ)) (a b : List ℕ)
    → IsPlainReport t hops ks a → IsPlainReport t hops ks b → a ≡ b

abbrev pub PlainBlocksAreOne : Type 0
PlainBlocksAreOne = (t : Tables) → IsWellFormed t → (hops : Bool) (ks : List (List ℕ)) (a b : List ℕ)
    → ArePlainBlocks t hops ks a → ArePlainBlocks t hops ks b → a ≡ b

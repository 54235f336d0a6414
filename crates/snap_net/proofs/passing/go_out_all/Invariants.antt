use Rattle.std.proofs.Common.{◌≡◌, ◌++◌, List, drop}
use Rattle.snap_rows.specs.Network.{Happening}
use Rattle.snap_net.specs.Passing.{GoOut}
use Rattle.snap_net.specs.Travels.{Hears}
use Rattle.snap_net.proofs.passing.go_out_all.Given as goal

-- of what all cross, some was told, and the rest is what those cross that are left
abbrev pub invariant-loop-sent : goal.invariant-loop-sent
invariant-loop-sent g l = (gs : List Happening) → GoOut l.tables l.number l.at l.copies gs
    → (cs : List Happening) × (bs : List Happening) × (gs ≡ cs ++ bs) × GoOut l.tables l.number l.at (drop l.sent-index l.copies) bs
    × Hears (g.W.Watch.saw l.tables) l.initial.watch l.watch cs

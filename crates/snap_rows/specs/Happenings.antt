-- What happened to each packet of a run.
use Rattle.std.specs.Prelude.{ℕ, ◌==◌, List, [], ◌∷◌, if◌then◌else◌}
use Rattle.snap_rows.specs.declared.head.Sent.{Sent}
use Rattle.snap_rows.specs.Network.{Happening, Crossed, Delivered, Forked}

-- the packet whose copy steps
abbrev pub number_of : Happening → ℕ
number_of (Crossed c to head) = c.number
number_of (Delivered c port) = c.number
number_of (Forked c copies lost) = c.number

-- the deliveries of packet i, each with its port
abbrev pub deliveries_of : ℕ → List Happening → List Sent
deliveries_of i [] = []
deliveries_of i (Delivered c port ∷ hs) = if c.number == i then (record { port = port; packet = c.packet } ∷ deliveries_of i hs)
    else deliveries_of i hs
deliveries_of i (Crossed c to head ∷ hs) = deliveries_of i hs
deliveries_of i (Forked c copies lost ∷ hs) = deliveries_of i hs

-- the lost counts of packet i, one for each fork
abbrev pub losses_of : ℕ → List Happening → List ℕ
losses_of i [] = []
losses_of i (Delivered c port ∷ hs) = losses_of i hs
losses_of i (Crossed c to head ∷ hs) = losses_of i hs
losses_of i (Forked c copies lost ∷ hs) = if c.number == i then (lost ∷ losses_of i hs) else losses_of i hs

-- the numbers of the packets in the order in which their injected copies forked
abbrev pub commits : List Happening → List ℕ
commits [] = []
commits (Delivered c port ∷ hs) = commits hs
commits (Crossed c to head ∷ hs) = commits hs
commits (Forked c copies lost ∷ hs) = c.number ∷ commits hs

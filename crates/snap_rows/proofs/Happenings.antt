-- Happenings, one behind another.
use Rattle.std.proofs.Common.{◌≡◌, ℕ, Bool, true, false, List, [], ◌∷◌, ◌++◌, refl, ap}
use Rattle.std.specs.Prelude.{◌==◌, if◌then◌else◌}
use Rattle.snap_rows.specs.Happenings.{deliveries_of, losses_of}
use Rattle.snap_rows.specs.Network.{Happening, Crossed, Delivered, Forked}

pub deliveries_of-append : (i : ℕ) (hs gs : List Happening) → deliveries_of i (hs ++ gs) ≡ deliveries_of i hs ++ deliveries_of i gs
deliveries_of-append i [] gs = refl
deliveries_of-append i (Delivered c port ∷ hs) gs = by (c.number == i) (deliveries_of-append i hs gs)
  where
    by : (b : Bool) → deliveries_of i (hs ++ gs) ≡ deliveries_of i hs ++ deliveries_of i gs
        → (if b then (record { port = port; packet = c.packet } ∷ deliveries_of i (hs ++ gs)) else deliveries_of i (hs ++ gs)) ≡ (if b then (record { port = port; packet = c.packet } ∷ deliveries_of i hs) else deliveries_of i hs) ++ deliveries_of i gs
    by true e = ap (λ l. record { port = port; packet = c.packet } ∷ l) e
    by false e = e
deliveries_of-append i (Crossed c to head ∷ hs) gs = deliveries_of-append i hs gs
deliveries_of-append i (Forked c copies lost ∷ hs) gs = deliveries_of-append i hs gs

pub losses_of-append : (i : ℕ) (hs gs : List Happening) → losses_of i (hs ++ gs) ≡ losses_of i hs ++ losses_of i gs
losses_of-append i [] gs = refl
losses_of-append i (Delivered c port ∷ hs) gs = losses_of-append i hs gs
losses_of-append i (Crossed c to head ∷ hs) gs = losses_of-append i hs gs
losses_of-append i (Forked c copies lost ∷ hs) gs = by (c.number == i) (losses_of-append i hs gs)
  where
    by : (b : Bool) → losses_of i (hs ++ gs) ≡ losses_of i hs ++ losses_of i gs → (if b then (lost ∷ losses_of i (hs ++ gs)) else losses_of i (hs ++ gs)) ≡ (if b then (lost ∷ losses_of i hs) else losses_of i hs) ++ losses_of i gs
    by true e = ap (λ l. lost ∷ l) e
    by false e = e

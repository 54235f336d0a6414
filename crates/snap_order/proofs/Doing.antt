-- An injection into the ordered network, on what the program holds.
use Rattle.std.proofs.Common.{◌≡◌, ℕ, List, [], get_or, refl, sym, ap, ◌∙◌}
use Rattle.snap_rows.specs.declared.tables.Tables.{Tables}
use Rattle.snap_rows.specs.Network.{Net, Inject, Happening, Leads, inject}
use Rattle.snap_net.specs.Shown.{Simulates, Nothing}
use Rattle.snap_order.specs.Ordered.{Ordered, LeadsInOrder, injects}
use Rattle.snap_order.specs.Shown.{SimulatesInOrder, NoTurn, OrderedNetView}

injects_so : {t : Tables} {s : Ordered} {port : ℕ} {k : List ℕ} {net : Net} {hs : List Happening} → Leads t s.net (Inject port k) net hs → LeadsInOrder t s (Inject port k) (record s { net = net }) []
injects_so (inject at first) = injects at first

pub done_injected : (v new : OrderedNetView) (port : ℕ) (k : List ℕ) → Simulates v.net (Inject port k) new.net Nothing → new.counts ≡ v.counts → SimulatesInOrder v (Inject port k) new NoTurn
done_injected v new port k done same s shows =
    let d = done s.net shows.net in
    (record s { net = d.0 }, [], injects_so {s = s} d.2, record { net = d.3; handled = λ r. shows.handled r ∙ ap (λ l. get_or l r 0) (sym same) }, refl)

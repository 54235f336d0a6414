-- A network in parts.
use Rattle.snap_net.specs.declared.parts.Parts.{Parts}
use Rattle.snap_net.specs.Shown.{NetView}

-- what the network of these parts holds
abbrev pub held_of : Parts → NetView
held_of p = record { tables = p.tables; stores = p.stores.items; injected = p.injected; flying = p.flying.items }

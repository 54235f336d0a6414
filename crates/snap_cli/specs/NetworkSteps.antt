-- What the reading of a topology with its routes gives.
use Rattle.std.specs.Prelude.{◌≡◌, ℕ, List, Result, Ok, Err}
use Rattle.snap_topology.specs.Tables.{AreRoutes}
use Rattle.snap_cli.specs.declared.network.Network.{Network}
use Rattle.snap_cli.specs.declared.refusal.Refusal.{Refusal}
use Rattle.snap_cli.specs.Routes.{HasNoRoutes}
use Rattle.snap_cli.specs.Texts.{RefusesBy}
use Rattle.snap_cli.specs.TopologyOf.{TopologyOf}

-- the topology that the file with this name spells, and its routes
abbrev pub GivesNetwork : (name file : List ℕ) → Result Network Refusal → Type 0
GivesNetwork name file (Ok n) = TopologyOf file (Ok n.topology) × AreRoutes n.topology n.routes
GivesNetwork name file (Err e) = RefusesBy (λ failed. failed ≡ name) (HasNoRoutes file) e

-- The next hops of a topology come nearer.
use Rattle.std.proofs.Common.{◌<◌, sym, subst, arith}
use Rattle.snap_topology.specs.declared.topology.Topology.{Topology}
use Rattle.snap_topology.specs.Form as topo
use Rattle.snap_topology.specs.Tables.{Table, AreRoutes, distance_of, next_of}
use Rattle.snap_make.specs.Marks.{ComesNearer}
use Rattle.snap_faithful.proofs.Far.{linked_below, nearer}

module _ (topology : Topology) (form : topo.IsWellFormed topology) (routes : Table) (paths : AreRoutes topology routes) where
  pub comes_nearer : ComesNearer routes
  comes_nearer a b la' lb' apart =
      let la = subst (λ c. a < c) paths.count la' in
      let lb = subst (λ c. b < c) paths.count lb' in
      let is = paths.nexts a b la lb apart in
      let lx = linked_below topology form routes paths a (next_of routes a b) is.neighbour in
      let y = nearer topology form routes paths a b la lb apart in
      let ly = linked_below topology form routes paths a y.0 y.1 in
      let near = is.nearest y.0 (distance_of routes (next_of routes a b) b) (distance_of routes y.0 b) y.1 (paths.distances (next_of routes a b) b lx lb) (paths.distances y.0 b ly lb) in
      let g = y.2 in
      (subst (λ c. next_of routes a b < c) (sym paths.count) lx, omega (arith, near, g))

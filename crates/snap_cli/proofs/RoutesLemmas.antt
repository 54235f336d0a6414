-- What `routes` did, from what its steps did.
use Rattle.std.proofs.Common.{ℕ, List, [], Option, Ok, Err, refl, sym, subst, inl, inr}
use Rattle.snap_topology.specs.declared.table.RouteFault.{RouteFault}
use Rattle.snap_topology.specs.declared.table.RouteFault.TheVariants as route
use Rattle.snap_topology.specs.Faults.{IsCause}
use Rattle.snap_words.specs.Commands.{routes}
use Rattle.snap_cli.specs.declared.refusal.Refusal.TheVariants.{Unreachable}
use Rattle.snap_cli.specs.Routes.{HasNoRoutes, IsTextOf}
use Rattle.snap_cli.specs.RoutesSteps.{GivesTopology, IsApart, MeetsTopology, Writes, refusal_of_routes}
use Rattle.snap_cli.proofs.Shared.{Appends-nil, AreRoutes, Ending, file_of, Files, IsUnreachable, Meets, NoMemory, Read, ReadChange, Refusal, routes_text, Table, Topology, TopologyOf, Write}

module _ (files : Files) (name : List ℕ) (out : Option (List ℕ)) where
  pub meets-refused : (e : Refusal) → GivesTopology name (file_of files name) (Err e) → Meets files (routes name) (Err e) out out
  meets-refused (Read failed) h = ([], (h, refl), (0, Appends-nil out))
  meets-refused (ReadChange failed) h = ([], (h, refl), (0, Appends-nil out))
  meets-refused NoMemory h = ([], inl refl, (0, Appends-nil out))
  meets-refused Write h = inl ([], inl refl, (0, Appends-nil out))
  meets-refused (Unreachable switches a b) (inl h) = absurd (let e = h.1 in cc)
  meets-refused (Unreachable switches a b) (inr h) = absurd h.1
  meets-refused e h = (h, ([], inl (e, h, refl), Appends-nil out))

module _ (files : Files) (name : List ℕ) (old new : Option (List ℕ)) (t : Topology) (read : TopologyOf (file_of files name) (Ok t)) where
  meets-apart : (e : Ending) → IsApart t e old new → Meets files (routes name) e old new
  meets-apart e h =
      let refusal : Refusal = Unreachable t.switches h.a h.b in
      let none : HasNoRoutes (file_of files name) refusal = (t, read, h.unreachable, refl) in
      subst (λ x. Meets files (routes name) x old new) (sym h.is) (none, ([], inl (refusal, none, refl), h.nothing))

  meets-written : (table : Table) → AreRoutes t table → (e : Ending) → Writes (routes_text t.switches table) e old new → Meets files (routes name) e old new
  meets-written table are (Ok u) h =
      let text = routes_text t.switches table in
      let is : IsTextOf (file_of files name) text = (t, table, read, are, refl) in
      ((text, is), (text, inr is, h))
  meets-written table are (Err Write) h = inr (routes_text t.switches table, inr (t, table, read, are, refl), h)
  meets-written table are (Err NoMemory) h = (routes_text t.switches table, inr (t, table, read, are, refl), h)
  meets-written table are (Err e) h = absurd h

  pub meets-topology : (e : Ending) → MeetsTopology t e old new → Meets files (routes name) e old new
  meets-topology e (inl h) = meets-written h.0 h.1 e h.2
  meets-topology e (inr (inl h)) = meets-apart e h
  meets-topology e (inr (inr h)) = subst (λ x. Meets files (routes name) x old new) (sym h.0) ([], inl refl, (0, h.1))

-- a topology without routes
pub meets-fault : (t : Topology) (out : Option (List ℕ)) (fault : RouteFault) → IsCause (IsUnreachable t) fault → MeetsTopology t (Err (refusal_of_routes t.switches fault)) out out
meets-fault t out (route.Unreachable a b) h = inr (inl (record { a = a; b = b; unreachable = h; is = refl; nothing = Appends-nil out }))
meets-fault t out route.NoMemory h = inr (inr (refl, Appends-nil out))

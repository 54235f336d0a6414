-- What the reading of three files gives, from what its steps gave.
use Rattle.std.proofs.Common.{◌≡◌, ℕ, List, Ok, Err, inl, inr}
use Rattle.std.specs.Prelude.{Vec}
use Rattle.std.specs.declared.alloc.Global.{Global}
use Rattle.snap_cli.specs.declared.network.Network.{Network}
use Rattle.snap_cli.specs.InputsSteps.{GivesInputs, IsStopped}
use Rattle.snap_cli.specs.NetworkSteps.{GivesNetwork}
use Rattle.snap_cli.specs.Reached.{IsReached}
use Rattle.snap_cli.specs.Routes.{HasNoRoutes}
use Rattle.snap_cli.specs.Steps.{GivesProgram}
use Rattle.snap_cli.specs.Texts.{GivesText}
use Rattle.snap_cli.proofs.Shared.{file_of, Files, IsTooLong, Program, ProgramOf, Refusal, Table, Topology}
use Rattle.snap_cli.proofs.RefusedBy.{by-map, by-program}

-- a command that is stopped for one reason is for another
pub stopped-map : (why because : Program → Topology → Table → Refusal → Type 0) (files : Files) (program topology : List ℕ)
    → ((p : Program) (t : Topology) (table : Table) (e : Refusal) → why p t table e → because p t table e)
    → (e : Refusal) → IsStopped why files program topology e → IsStopped because files program topology e
stopped-map why because files program topology f e (inl none) = inl none
stopped-map why because files program topology f e (inr (p, read, inl none)) = inr (p, read, inl none)
stopped-map why because files program topology f e (inr (p, read, inr (t, table, spelled, are, h))) = inr (p, read, inr (t, table, spelled, are, f p t table e h))

module _ (files : Files) (program topology last : List ℕ) where
  abbrev Stops : Refusal → Type 0
  Stops = IsStopped (λ p t table. IsTooLong 1048576 (file_of files last)) files program topology

  pub no-program : (e : Refusal) → GivesProgram program (file_of files program) (Err e) → GivesInputs files program topology last (Err e)
  no-program e h =
      by-map (λ failed. failed ≡ program) (IsReached files program topology last) (λ x. ProgramOf (file_of files program) (Err x)) Stops
      (λ failed is. inl is) (λ x no. inl no) e (by-program program (file_of files program) e h)

  pub no-network : (p : Program) → ProgramOf (file_of files program) (Ok p) → (e : Refusal) → GivesNetwork topology (file_of files topology) (Err e) → GivesInputs files program topology last (Err e)
  no-network p read e h =
      by-map (λ failed. failed ≡ topology) (IsReached files program topology last) (HasNoRoutes (file_of files topology)) Stops
      (λ failed is. inr ((p, read), inl is)) (λ x no. inr (p, read, inl no)) e h

  module _ (p : Program) (n : Network) (read : ProgramOf (file_of files program) (Ok p) × GivesNetwork topology (file_of files topology) (Ok n)) where
    pub no-text : (e : Refusal) → GivesText 1048576 last (file_of files last) (Err e) → GivesInputs files program topology last (Err e)
    no-text e h =
        by-map (λ failed. failed ≡ last) (IsReached files program topology last) (IsTooLong 1048576 (file_of files last)) Stops
        (λ failed is. inr ((p, read.0), inr (is, (n.topology, n.routes, read.1.0, read.1.1)))) (λ x long. inr (p, read.0, inr (n.topology, n.routes, read.1.0, read.1.1, long))) e h

    pub all-read : (text : Vec ℕ Global) → GivesText 1048576 last (file_of files last) (Ok text) → GivesInputs files program topology last (Ok (record { program = p; network = n; text = text }))
    all-read text h = record { the_program = read.0; the_topology = read.1.0; the_routes = read.1.1; the_text = h.0; short = h.1 }

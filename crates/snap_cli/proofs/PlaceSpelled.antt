-- The text of a placement of least cost spells this placement.
use Rattle.std.proofs.Common.{◌≡◌, ◌∙◌, ◌<◌, ℕ, List, length, slice_index, Result, Ok, Err, sym, subst, inr, arith}
use Rattle.std.proofs.lemmas.Grind.{get_or_default_zero}
use Rattle.std.proofs.lemmas.List.Elements.{All-contains}
use Rattle.snap_core.specs.Programs.{IsWellFormed}
use Rattle.snap_names.proofs.DerivedTrees.{SourceWritten-text}
use Rattle.snap_names.proofs.WellFormed.{IfOk-well_formed}
use Rattle.snap_placement.specs.Answer.{GivesSwitches, IsAnswer}
use Rattle.snap_placement.specs.Laws.{PrintedIsRead}
use Rattle.snap_placement.specs.declared.demand.Demand.{Demand}
use Rattle.snap_placement.specs.declared.demand.DemandFault.{DemandFault}
use Rattle.snap_placement.specs.DemandAnswer.{SpelledThen, first_fault}
use Rattle.snap_placement.specs.Placements.{IsAllowed, IsDemand, places_of}
use Rattle.snap_placement.specs.DemandShape.{spelled, Spelled}
use Rattle.snap_placement.proofs.Demanding.{demand-is, ok-none}
use Rattle.snap_cli.specs.Laws.{PlacementsAreSpelled}
use Rattle.snap_cli.specs.Place.{IsPlacementOf}
use Rattle.snap_cli.specs.PlacementOf.{PlacementOf}
use Rattle.snap_cli.proofs.Shared.{document, file_of, Grouping, IsGrouping, Program, ProgramOf, Table, Topology, TopologyOf}

demand-of : (p : Program) (g : Grouping) (t : Topology) (x : Result Spelled DemandFault) (d : Demand) → length g.ranks ≡ length p.arrays → SpelledThen p g t x (Ok d) → IsDemand g t d
demand-of p g t (Ok s) d count h =
    let parts = ok-none g p.arrays t.switches s (first_fault t.ports t.switches p.arrays s) d h in
    demand-is g p.arrays t s d count parts.0 parts.1
demand-of p g t (Err e) d count h = cc

-- an allowed placement gives each array a switch, and tied ones the same
gives-switches : (p : Program) (g : Grouping) (t : Topology) (d : Demand) (owned : List ℕ) → IsGrouping p.body (length p.arrays) g → IsDemand g t d → IsAllowed g d.allowed owned → GivesSwitches p t owned
gives-switches p g t d owned groups demand fits =
    let long : length owned ≡ length p.arrays = fits.count ∙ groups.count in
    let ranks = groups.count in
    record {
      count = long;
      below = λ v e lt.
          let low : v < length g.ranks = omega (arith, long, ranks) in
          let here = All-contains (λ at. at < length t.switches) (places_of d.allowed v) (slice_index owned v) (demand.below v low) (fits.may v low) in
          omega (arith, here, get_or_default_zero owned v e lt);
      together = λ a b less lt tied.
          fits.together a b (omega (arith, long, ranks)) (omega (arith, long, ranks)) ((groups.tied a b (omega (arith, long, ranks)) (omega (arith, long, ranks))).1 tied);
    }

-- what a text spells is in form
program-in-form : (text : List ℕ) (p : Program) → ProgramOf text (Ok p) → IsWellFormed p
program-in-form text p (short, (ts, s, spells, derives, reads), bounded) = IfOk-well_formed text s (Ok p) (SourceWritten-text text s (ts, spells, (128, derives))) reads

module _ (read : PrintedIsRead) where
  spelled-by-text : (p : Program) (t : Topology) (table : Table) (file text : List ℕ) (made : IsPlacementOf p t table file text) → IsWellFormed p → IsAnswer p t text (Ok made.best.owners)
  spelled-by-text p t table file text made form =
      let demand = demand-of p made.grouping t (spelled (document file)) made.demand made.groups.count made.spells in
      let gives = gives-switches p made.grouping t made.demand made.best.owners made.groups demand made.is_best.owners.fits in
      subst (λ (x : List ℕ). IsAnswer p t x (Ok made.best.owners)) (sym made.is) (read p t made.best.owners made.best.cost form made.form gives)

  pub placements-are-spelled : PlacementsAreSpelled
  placements-are-spelled files later program topology demand placement text (p, h, (t, table, k, routes, made)) short same there stands =
      let answer = spelled-by-text p t table (file_of files demand) text made (program-in-form (file_of files program) p h) in (
        p,
        t,
        table,
        made,
        record {
          the_program = subst (λ (x : List ℕ). ProgramOf x (Ok p)) (sym same) h;
          the_topology = subst (λ (x : List ℕ). TopologyOf x (Ok t)) (sym there) k;
          has_routes = (table, routes);
          the_placement = subst (λ (x : List ℕ). PlacementOf p t x (Ok made.best.owners)) (sym stands) (inr (short, answer));
        },
      )

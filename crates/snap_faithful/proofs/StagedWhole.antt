-- The facts make tables of version 1 faithful.
use Rattle.std.proofs.Common.{ℕ, List, length, sym, ap, subst}
use Rattle.snap_core.specs.declared.program.Program.{Program}
use Rattle.snap_core.specs.Fields.{count}
use Rattle.snap_topology.specs.declared.topology.Topology.{Topology}
use Rattle.snap_topology.specs.Tables.{Table}
use Rattle.snap_rows.specs.declared.tables.Tables.{Tables}
use Rattle.snap_rows.specs.Entries.{owner_of}
use Rattle.snap_rows.specs.SingleOwner.{IsSingleOwner}
use Rattle.snap_faithful.specs.Visits.{here}
use Rattle.snap_faithful.proofs.SequentialRuns.{Ways}
use Rattle.snap_faithful.proofs.SingleOwnerRuns.{Early}
use Rattle.snap_faithful.proofs.Agreeing.{agreeing}
use Rattle.snap_faithful.proofs.Steps.{at_walk, staged}
use Rattle.snap_faithful.proofs.StagedAlone.{early}
use Rattle.snap_faithful.specs.Faithful.{IsWithin, most_hops, HopsAreBounded}
use Rattle.snap_faithful.proofs.Far.{far}
use Rattle.snap_faithful.specs.StagedFacts.{StagedFacts, StagedFactsMakeFaithful}
use Rattle.snap_faithful.proofs.StagedNodes.{IsOne}
use Rattle.snap_faithful.proofs.Hops.{stays_within}
use Rattle.snap_faithful.proofs.Reach.{reach, has_owner}

module _ (p : Program) (topology : Topology) (places : List ℕ) (routes : Table) (t : Tables) (f : StagedFacts p topology places routes t) where
  pub one : IsOne t
  one = record { form = f.shape.form; valid = f.shape.valid; version = f.version }

  -- ---- packets on their way
  ways : Ways p.body (count p.fields) t (owner_of t)
  ways = record {
    way = λ k m o store packet outcome. staged t one k p.body (count p.fields) f.meaning m o store packet outcome;
    enters = λ k m o store packet outcome w. at_walk here;
    ends = λ k m o store packet outcome set a over. (over.packets, λ w q at. over.arrays q);
  }

  single_owner_early : IsSingleOwner t → Early p.body (count p.fields) t (owner_of t)
  single_owner_early single_owner = early p.body (count p.fields) t one f.meaning (single_owner.0 f.version)

  -- ---- hops
  pub bounded : HopsAreBounded p topology t
  bounded order d rank diameter m es s hs store can run =
      let r = f.ranked order rank in
      subst (λ v. IsWithin (most_hops v (length order) d) s hs) (sym f.version)
      (stays_within t one (far routes (length topology.switches)) d (reach topology f.well_formed routes f.paths t f.shape.form (ap length f.shape.switches) f.shape.hops d diameter) (length order) r.0 r.1 m es s hs run)

-- **the facts make tables of version 1 faithful**
pub staged_facts_make : StagedFactsMakeFaithful
staged_facts_make p topology places routes t f =
    agreeing p topology places t f.shape f.fits f.small f.never (owner_of t) (has_owner t) (ways p topology places routes t f) (single_owner_early p topology places routes t f) (bounded p topology places routes t f) f.live_and_reduced

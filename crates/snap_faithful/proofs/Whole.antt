-- The facts make tables of version 2 faithful.
use Rattle.std.proofs.Common.{◌≡◌, ℕ, ◌+◌, ◌*◌, ◌<◌, ◌≤◌, List, length, Some, refl, sym, ap, subst, ◌∙◌, arith}
use Rattle.std.specs.Prelude.{option_map, unwrap_or}
use Rattle.std.proofs.lemmas.Nat.{mul-le}
use Rattle.std.proofs.lemmas.List.{length-map}
use Rattle.std.proofs.lemmas.Option.{slice_get_within}
use Rattle.snap_core.specs.declared.place.Place.{Place}
use Rattle.snap_core.specs.declared.program.Program.{Program}
use Rattle.snap_core.specs.Arrays.{Arrays}
use Rattle.snap_core.specs.Fields.{count}
use Rattle.snap_core.specs.Inputs.{IsZeroFrom}
use Rattle.snap_dep.specs.Ranks.{IsRank}
use Rattle.snap_dep.proofs.Below.{UsesBelow-fits}
use Rattle.snap_dep.proofs.OneRank.{has_one}
use Rattle.snap_topology.specs.declared.topology.Topology.{Topology}
use Rattle.snap_topology.specs.Walks.{Linked, IsDiameter}
use Rattle.snap_topology.specs.Tables.{Table}
use Rattle.snap_rows.specs.declared.tables.ArrayAt.{ArrayAt}
use Rattle.snap_rows.specs.declared.tables.Tables.{Tables}
use Rattle.snap_rows.specs.Entries.{owner_of, rank_of, ranks}
use Rattle.snap_rows.specs.Form.{array_count}
use Rattle.snap_rows.specs.SingleOwner.{IsSingleOwner}
use Rattle.snap_rows.specs.Network.{Net, start, global_store}
use Rattle.snap_rows.proofs.Rows.{All-get}
use Rattle.snap_rows.proofs.Own.{rank_entry, rank_owner}
use Rattle.snap_rows.proofs.Later.{var_array, rank_some}
use Rattle.snap_faithful.specs.Facts.{Facts, FactsMakeFaithful}
use Rattle.snap_faithful.specs.Faithful.{IsWithin, most_hops, HopsAreBounded}
use Rattle.snap_faithful.specs.InOrder.{StandsAt}
use Rattle.snap_faithful.proofs.Nodes.{IsTwo}
use Rattle.snap_faithful.proofs.Acting.{Means}
use Rattle.snap_faithful.proofs.Guides.{standing, NetHolds, walking, guided}
use Rattle.snap_faithful.proofs.ByMeaning.{by_meaning}
use Rattle.snap_faithful.proofs.Holding as holding
use Rattle.snap_faithful.proofs.Bounds.{HasDistances, stays_within, more_within}
use Rattle.snap_faithful.proofs.Far.{far, distances, ranks_few}
use Rattle.snap_faithful.proofs.SequentialRuns.{Ways}
use Rattle.snap_faithful.proofs.SingleOwnerRuns.{Early}
use Rattle.snap_faithful.proofs.Alone.{AllStandAt, early}
use Rattle.snap_faithful.proofs.Agreeing.{agreeing}

module _ (t : Tables) (two : IsTwo t) where
  stands : (v : ℕ) → v < array_count t → (w : ℕ) × (owner_of t v ≡ Some w) × StandsAt t w v
  stands v within =
      let a = var_array t v within in
      let at = rank_some t.arrays v (rank_of t v) a.0 a.1 a.2 in
      (at.0, rank_owner t two.valid two.version v (rank_of t v) at.0 within refl at.1, at.1)

  pub whole_holds : (s : Net) (m : Arrays) → NetHolds t s m → IsZeroFrom (array_count t) m → (q : Place) → global_store t s q ≡ m q
  whole_holds s m held zeros q = holding.whole_holds t (standing t) stands s m held zeros q

  pub starts : (m : Arrays) → IsZeroFrom (array_count t) m → NetHolds t (start t m) m
  starts m zeros w q at = holding.starts t (standing t) stands m zeros w q at

module _ (p : Program) (topology : Topology) (places : List ℕ) (routes : Table) (t : Tables) (f : Facts p topology places routes t) where
  is_two : IsTwo t
  is_two = record { form = f.shape.form; valid = f.shape.valid; version = f.version }

  as_many : array_count t ≡ length p.arrays
  as_many = sym (length-map t.arrays (λ (a : ArrayAt). a.name)) ∙ ap length f.shape.names

  abbrev order : List ℕ
  order = (has_one p.body (length p.arrays) (UsesBelow-fits (count p.fields) (length p.arrays) p.body f.fits)).exists.0

  means : Means p.body (count p.fields) (length p.arrays) order t
  means =
      let rank = (has_one p.body (length p.arrays) (UsesBelow-fits (count p.fields) (length p.arrays) p.body f.fits)).exists.1 in
      record { fits = f.fits; never = f.never; rank = rank; ranks = f.shape.ranks f.version order rank; meaning = f.meaning; two = is_two }

  -- ---- packets on their way
  ways : Ways p.body (count p.fields) t (standing t)
  ways = record {
    way = λ k m o store packet outcome. guided t is_two k (by_meaning p.body (count p.fields) (length p.arrays) order t means m k o store packet outcome);
    enters = λ k m o store packet outcome w. walking (λ q. refl);
    ends = λ k m o store packet outcome set a over. (over.0, λ w q at. over.1.stands w q at);
  }

  alone_at : IsSingleOwner t → (w : ℕ) × AllStandAt t w
  alone_at single_owner =
      let one = single_owner.1 f.version in (
        one.0,
        λ r x e. (let i = rank_entry t.arrays r x e in sym i.at ∙ All-get (λ (a : ArrayAt). a.at ≡ one.0) t.arrays i.place i.entry one.1 i.is),
      )

  single_owner_early : IsSingleOwner t → Early p.body (count p.fields) t (standing t)
  single_owner_early single_owner = let at = alone_at single_owner in early p.body (count p.fields) (length p.arrays) order t means at.0 at.1

  -- ---- hops
  reach : (d : ℕ) → IsDiameter (Linked topology.links) (length topology.switches) d → HasDistances t (far routes (length topology.switches)) d
  reach d diameter = distances topology f.well_formed routes f.paths t f.shape.form (ap length f.shape.switches) f.shape.hops d diameter

  few_ranks : (order : List ℕ) → IsRank p.body (length p.arrays) order → ranks t ≤ length order
  few_ranks order rank = ranks_few t.arrays (length order)
      (λ i a e.
      (let low = (f.shape.ranks f.version order rank).below i (let l = slice_get_within t.arrays i a e in let c = as_many in omega (arith, l, c)) in
      subst (λ x. x < length order) (ap (λ o. unwrap_or (option_map (λ (a : ArrayAt). a.rank) o) 0) e) low))

  bounded : HopsAreBounded p topology t
  bounded groups d rank diameter m es s hs store can run =
      let w = stays_within t is_two (far routes (length topology.switches)) d (reach d diameter) m es s hs run in
      let few = few_ranks groups rank in
      let wide = more_within ((ranks t + 1) * d) ((length groups + 1) * d) (mul-le (ranks t + 1) d (length groups + 1) d (omega (arith, few)) (omega arith)) s hs w in
      subst (λ v. IsWithin (most_hops v (length groups) d) s hs) (sym f.version) wide

pub facts_make : FactsMakeFaithful
facts_make p topology places routes t f =
    let two = is_two p topology places routes t f in
    agreeing p topology places t f.shape f.fits f.small f.never (standing t) (stands t two) (ways p topology places routes t f) (single_owner_early p topology places routes t f) (bounded p topology places routes t f) f.live_and_reduced

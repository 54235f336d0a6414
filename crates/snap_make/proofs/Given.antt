-- What is given is ready.
use Rattle.std.proofs.Common.{◌≡◌, ℕ, ◌<◌, ◌≤◌, ⊎_elim, List, length, sym, ap, subst, arith}
use Rattle.std.specs.Prelude.{slice_index}
use Rattle.std.specs.List.{All}
use Rattle.std.proofs.lemmas.Bool.{eqb-true, eq-eqb, cases_lt}
use Rattle.std.proofs.lemmas.List.{get_or_default}
use Rattle.std.proofs.lemmas.Map.Steps.{length-le_from_distinct_below}
use Rattle.std.proofs.lemmas.Map.Views.{Contains-from_any}
use Rattle.std.proofs.lemmas.Map.Made.{IsDistinct-from_AllPairs}
use Rattle.snap_core.specs.declared.program.Program.{Program}
use Rattle.snap_core.specs.Fields.{count}
use Rattle.snap_core.specs.Laws.{PutsSmall}
use Rattle.snap_core.specs.Programs as programs
use Rattle.snap_dep.specs.Locality.{NeverRaces}
use Rattle.snap_dep.specs.Ranks.{Grouping, IsGrouping, IsRankIn, HasOneRank}
use Rattle.snap_dep.proofs.Below.{UsesBelow-fits}
use Rattle.snap_dep.proofs.OneRank.{has_one}
use Rattle.snap_dep.proofs.Chains.{tied_back}
use Rattle.snap_topology.specs.declared.topology.Topology.{Topology}
use Rattle.snap_topology.specs.Form as topo
use Rattle.snap_topology.specs.Tables.{Table, AreRoutes}
use Rattle.snap_placement.specs.Answer.{GivesSwitches}
use Rattle.snap_faithful.specs.Generated.{AreInputs}

-- a program in form that never races, its groups, a topology with its routes, and a placement
pub record IsReady (p : Program) (t : Topology) (places : List ℕ) (routes : Table) (g : Grouping) : Type 0 where
  pub form : programs.IsWellFormed p
  pub input : AreInputs p t places routes g.ranks
  pub few_groups : length g.order ≤ 64
  pub ranked : All (λ r. r < length g.order) g.ranks
  pub as_placed : length places ≡ length p.arrays
  pub placed : All (λ w. w < length t.switches) places

module _ (p : Program) (g : Grouping) (form : programs.IsWellFormed p) (groups : IsGrouping p.body (length p.arrays) g) where
  one : HasOneRank p.body (length p.arrays)
  one = has_one p.body (length p.arrays) (UsesBelow-fits (count p.fields) (length p.arrays) p.body form.fits)

  as_groups : length g.order ≤ length p.arrays
  as_groups =
      length-le_from_distinct_below g.order (length p.arrays) (IsDistinct-from_AllPairs (λ x y. (eqb-true x y, eq-eqb x y)) g.order (one.once g.order groups.order))
      (λ q e. ((one.groups g.order groups.order q).0 (Contains-from_any (λ x y. eqb-true x y) q g.order e)).below)

  pub few_groups : length g.order ≤ 64
  few_groups = let a = as_groups in let b = form.few in omega (arith, a, b)

  pub ranks_below : All (λ r. r < length g.order) g.ranks
  ranks_below = λ i d l. subst (λ r. r < length g.order) (get_or_default g.ranks i 0 d l) (groups.ranks.below i (let e = groups.count in omega (arith, e, l)))

  module _ (t : Topology) (places : List ℕ) (routes : Table) (small : PutsSmall p.body) (never : NeverRaces p.body (count p.fields)) (topology : topo.IsWellFormed t) (paths : AreRoutes t routes) (switches : GivesSwitches p t places) where
    together : (v w : ℕ) → v < length p.arrays → w < length p.arrays → slice_index g.ranks v ≡ slice_index g.ranks w → slice_index places v ≡ slice_index places w
    together v w lv lw e =
        let tied = (groups.tied v w lv lw).0 e in
        let many = switches.count in
        ⊎_elim (λ l. switches.together v w l (omega (arith, lw, many)) tied)
        (λ m. ⊎_elim (λ l. sym (switches.together w v l (omega (arith, lv, many)) (tied_back p.body v w tied))) (λ k. ap (slice_index places) (let s : v ≡ w = omega (arith, m, k) in s)) (cases_lt w v)) (cases_lt v w)

    pub ready : IsReady p t places routes g
    ready = record {
      form = form;
      input = record {
        fits = form.fits;
        small = small;
        never = never;
        well_formed = topology;
        paths = paths;
        as_many = groups.count;
        ranked = λ order rank. subst (λ l. IsRankIn p.body (length p.arrays) l (slice_index g.ranks)) (one.unique g.order order groups.order rank) groups.ranks;
        together = together;
      };
      few_groups = few_groups;
      ranked = ranks_below;
      as_placed = switches.count;
      placed = switches.below;
    }

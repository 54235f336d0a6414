-- Arrays depend on one another as the core program says, wherever its parts lie in memory.
use Rattle.std.proofs.Common.{◌≡◌, ◌⊎◌, ℕ, List, ◌∷◌, [], length, refl, sym, ◌∙◌, ap, subst, inl, inr}
use Rattle.std.proofs.Math.Path.{transport}
use Rattle.std.specs.Prelude.{codes}
use Rattle.std.specs.List.{concat}
use Rattle.snap_core.specs.declared.policy.Pol.TheVariants.{Filter, Set, Change, Par', Seq', If', Atomic'}
use Rattle.snap_core.specs.declared.policy.Pred.{Pred}
use Rattle.snap_core.specs.declared.policy.Pred.TheVariants.{Not', And', Or'}
use Rattle.snap_dep.specs.Dependencies.{Depends, Reaches, Reads, Tests, Tied, Writes, one, more}
use Rattle.snap_dep.specs.Ranks.{IsGroup, IsNext, IsRank, IsRankIn, IsReady, Precedes, rank_of}
use Rattle.snap_names.specs.Core.{CoreTest, state_test, not_test, and_test, or_test, CorePolicy, filter, set, change, par, seq, choice, atomic, core_test, core_policy}
use Rattle.snap_names.specs.Declarations.{CoreProgram}
use Rattle.snap_cli.specs.Deps.{IsTextOf, dep_line, groups_text}
use Rattle.snap_cli.proofs.Shared.{core_program, flat_map, Grouping, IsGrouping, Pol, Program}

-- which arrays stand where in the core language
abbrev core_tests : CoreTest → ℕ → Type 0
core_tests (state_test s es a) v = s ≡ v
core_tests (not_test x) v = core_tests x v
core_tests (and_test x y) v = core_tests x v ⊎ core_tests y v
core_tests (or_test x y) v = core_tests x v ⊎ core_tests y v
core_tests x v = ⊥

abbrev core_reads : CorePolicy → ℕ → Type 0
core_reads (filter x) v = core_tests x v
core_reads (set c a) v = ⊥
core_reads (change u) v = ⊥
core_reads (par p q) v = core_reads p v ⊎ core_reads q v
core_reads (seq p q) v = core_reads p v ⊎ core_reads q v
core_reads (choice x p q) v = core_tests x v ⊎ (core_reads p v ⊎ core_reads q v)
core_reads (atomic p) v = core_reads p v

abbrev core_writes : CorePolicy → ℕ → Type 0
core_writes (change u) v = u.var ≡ v
core_writes (par p q) v = core_writes p v ⊎ core_writes q v
core_writes (seq p q) v = core_writes p v ⊎ core_writes q v
core_writes (choice x p q) v = core_writes p v ⊎ core_writes q v
core_writes (atomic p) v = core_writes p v
core_writes p v = ⊥

abbrev core_depends : CorePolicy → ℕ → ℕ → Type 0
core_depends (par p q) s t = core_depends p s t ⊎ core_depends q s t
core_depends (seq p q) s t = (core_depends p s t ⊎ core_depends q s t) ⊎ (core_reads p s × core_writes q t)
core_depends (choice x p q) s t = (core_depends p s t ⊎ core_depends q s t) ⊎ (core_tests x s × (core_writes p t ⊎ core_writes q t))
core_depends (atomic p) s t = (core_reads p s ⊎ core_writes p s) × (core_reads p t ⊎ core_writes p t)
core_depends p s t = ⊥

by_tests : (x : Pred) (v : ℕ) → Tests x v ≡ core_tests (core_test x) v
by_tests (Not' _ x) v = by_tests x v
by_tests (And' _ x _ y) v = λ i. by_tests x v i ⊎ by_tests y v i
by_tests (Or' _ x _ y) v = λ i. by_tests x v i ⊎ by_tests y v i
by_tests x v = refl

by_reads : (p : Pol) (v : ℕ) → Reads p v ≡ core_reads (core_policy p) v
by_reads (Filter x) v = by_tests x v
by_reads (Set c a) v = λ i. ⊥
by_reads (Change u) v = λ i. ⊥
by_reads (Par' _ p _ q) v = λ i. by_reads p v i ⊎ by_reads q v i
by_reads (Seq' _ p _ q) v = λ i. by_reads p v i ⊎ by_reads q v i
by_reads (If' x _ p _ q) v = λ i. by_tests x v i ⊎ (by_reads p v i ⊎ by_reads q v i)
by_reads (Atomic' _ p) v = by_reads p v

by_writes : (p : Pol) (v : ℕ) → Writes p v ≡ core_writes (core_policy p) v
by_writes (Par' _ p _ q) v = λ i. by_writes p v i ⊎ by_writes q v i
by_writes (Seq' _ p _ q) v = λ i. by_writes p v i ⊎ by_writes q v i
by_writes (If' x _ p _ q) v = λ i. by_writes p v i ⊎ by_writes q v i
by_writes (Atomic' _ p) v = by_writes p v
by_writes p v = refl

by_depends : (p : Pol) (s t : ℕ) → Depends p s t ≡ core_depends (core_policy p) s t
by_depends (Par' _ p _ q) s t = λ i. by_depends p s t i ⊎ by_depends q s t i
by_depends (Seq' _ p _ q) s t = λ i. (by_depends p s t i ⊎ by_depends q s t i) ⊎ (by_reads p s i × by_writes q t i)
by_depends (If' x _ p _ q) s t = λ i. (by_depends p s t i ⊎ by_depends q s t i) ⊎ (by_tests x s i × (by_writes p t i ⊎ by_writes q t i))
by_depends (Atomic' _ p) s t = λ i. (by_reads p s i ⊎ by_writes p s i) × (by_reads p t i ⊎ by_writes p t i)
by_depends p s t = refl

-- what is tied by dependencies is tied where these stand too
module _ (p q : Pol) (to : (s t : ℕ) → Depends p s t → Depends q s t) where
  reach : {s t : ℕ} → Reaches p s t → Reaches q s t
  reach (one {s = s} {t = t} d) = one (to s t d)
  reach (more {s = s} {t = m} {u = t} d r) = more (to s m d) (reach r)

  tie : (s t : ℕ) → Tied p s t → Tied q s t
  tie s t (inl e) = inl e
  tie s t (inr r) = inr (reach r.0, reach r.1)

  precede : (g h : ℕ) → Precedes p g h → Precedes q g h
  precede g h (s, t, gs, ht, d) = (s, t, tie g s gs, tie h t ht, to s t d)

-- policies with the same dependencies have the same groups
module _ (p q : Pol) (to : (s t : ℕ) → Depends p s t → Depends q s t) (from : (s t : ℕ) → Depends q s t → Depends p s t) (n : ℕ) where
  group : (g : ℕ) → IsGroup p n g → IsGroup q n g
  group g h = record { below = h.below; least = λ v l t. h.least v l (tie q p from g v t) }

module _ (p q : Pol) (to : (s t : ℕ) → Depends p s t → Depends q s t) (from : (s t : ℕ) → Depends q s t → Depends p s t) (n : ℕ) where
  ready : (taken : List ℕ) (g : ℕ) → IsReady p n taken g → IsReady q n taken g
  ready taken g r h grouped before other = r h (group q p from to n h grouped) (precede q p from h g before) other

module _ (p q : Pol) (to : (s t : ℕ) → Depends p s t → Depends q s t) (from : (s t : ℕ) → Depends q s t → Depends p s t) (n : ℕ) where
  next : (taken : List ℕ) (g : ℕ) → IsNext p n taken g → IsNext q n taken g
  next taken g h = record {
    group = group p q to from n g h.group;
    new = h.new;
    ready = ready p q to from n taken g h.ready;
    least = λ k grouped absent r. h.least k (group q p from to n k grouped) absent (ready q p from to n taken k r);
  }

  same_order : (order : List ℕ) → IsRank p n order → IsRank q n order
  same_order order h = record { steps = λ i l. next _ _ (h.steps i l); all = λ k grouped. h.all k (group q p from to n k grouped) }

  same_ranks : (order : List ℕ) (rank : ℕ → ℕ) → IsRankIn p n order rank → IsRankIn q n order rank
  same_ranks order rank h = record { below = h.below; group = λ v l. tie p q to _ v (h.group v l) }

  same_grouping : (g : Grouping) → IsGrouping p n g → IsGrouping q n g
  same_grouping g h = record {
    count = h.count;
    order = same_order g.order h.order;
    ranks = same_ranks g.order (rank_of g) h.ranks;
    tied = λ a b l m. (λ e. tie p q to a b ((h.tied a b l m).0 e), λ t. (h.tied a b l m).1 (tie q p from a b t));
  }

-- two programs with one core program
module _ (p q : Program) (same : core_program p ≡ core_program q) where
  same_depends : (s t : ℕ) → Depends p.body s t ≡ Depends q.body s t
  same_depends s t = by_depends p.body s t ∙ (ap (λ (c : CoreProgram). core_depends c.body s t) same ∙ sym (by_depends q.body s t))

  -- what is tied in the one is tied in the other
  pub same_tied : (s t : ℕ) → Tied p.body s t → Tied q.body s t
  same_tied s t h = tie p.body q.body (λ a b d. transport (same_depends a b) d) s t h

  -- the groups of the one are those of the other
  pub grouped : (g : Grouping) → IsGrouping p.body (length p.arrays) g → IsGrouping q.body (length q.arrays) g
  grouped g h =
      subst (λ (vs : List (List ℕ)). IsGrouping q.body (length vs) g) (ap (λ (c : CoreProgram). c.arrays) same)
      (same_grouping p.body q.body (λ s t d. transport (same_depends s t) d) (λ s t d. transport (sym (same_depends s t)) d) (length p.arrays) g h)

  -- so are their ranks
  pub ranked : (order : List ℕ) → IsRank p.body (length p.arrays) order → IsRank q.body (length q.arrays) order
  ranked order h =
      subst (λ (vs : List (List ℕ)). IsRank q.body (length vs) order) (ap (λ (c : CoreProgram). c.arrays) same)
      (same_order p.body q.body (λ s t d. transport (same_depends s t) d) (λ s t d. transport (sym (same_depends s t)) d) (length p.arrays) order h)

  pub ranked_in : (order : List ℕ) (rank : ℕ → ℕ) → IsRankIn p.body (length p.arrays) order rank → IsRankIn q.body (length q.arrays) order rank
  ranked_in order rank h =
      subst (λ (vs : List (List ℕ)). IsRankIn q.body (length vs) order rank) (ap (λ (c : CoreProgram). c.arrays) same)
      (same_ranks p.body q.body (λ s t d. transport (same_depends s t) d) (λ s t d. transport (sym (same_depends s t)) d) (length p.arrays) order rank h)

  pub same_text : (text : List ℕ) → IsTextOf p text → IsTextOf q text
  same_text text h =
      let names = ap (λ (c : CoreProgram). c.arrays) same in
      let to = λ (s t : ℕ) (d : Depends p.body s t). transport (same_depends s t) d in
      let from = λ (s t : ℕ) (d : Depends q.body s t). transport (sym (same_depends s t)) d in
      let each = h.dependencies.each in
      record {
        pairs = h.pairs;
        dependencies = record { rising = h.dependencies.rising; each = λ s t. (λ c. to s t ((each s t).0 c), λ d. (each s t).1 (from s t d)) };
        grouping = h.grouping;
        groups = grouped h.grouping h.groups;
        is = h.is ∙ ap (λ (vs : List (List ℕ)). concat (flat_map (dep_line vs) h.pairs ∷ groups_text vs h.grouping ∷ codes "end\n" ∷ [])) names;
      }

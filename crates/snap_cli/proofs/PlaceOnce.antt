-- `place` gives one text, or one reason why there is none.
use Rattle.std.proofs.Common.{◌≡◌, ℕ, List, length, Result, Ok, Err, refl, sym, ◌∙◌, ap, ap₂, subst, inl, inr, arith}
use Rattle.snap_core.specs.Programs.{IsBounded}
use Rattle.snap_dep.specs.Dependencies.{TiedIsEquivalence, UsesBelow}
use Rattle.snap_dep.specs.Ranks.{HasOneRank}
use Rattle.snap_dep.proofs.Below.{UsesBelow-fits}
use Rattle.snap_placement.specs.Printed.{placement_text}
use Rattle.snap_placement.specs.declared.best.Best.{Best}
use Rattle.snap_placement.specs.declared.demand.Demand.{Demand}
use Rattle.snap_placement.specs.declared.demand.DemandFault.{DemandFault}
use Rattle.snap_placement.specs.DemandAnswer.{IsAnswer, PlacesThen, SpelledThen, first_fault}
use Rattle.snap_placement.specs.Placements.{AreGroups, IsBestOf}
use Rattle.snap_placement.specs.DemandShape.{Spelled, spelled}
use Rattle.snap_placement.proofs.Once.{answer-apart, answer-once, answer-same, bare, bare-answer, bare-best, bare-ordered, best-once}
use Rattle.snap_placement.proofs.Ranked.{ordered}
use Rattle.snap_cli.specs.Place.{HasNoDemand, HasNoPlacement, IsPlaced, IsPlacementOf, SpellsNoDemand, refusal_of_demand}
use Rattle.snap_cli.proofs.Shared.{AreRoutes, core_program, count, document, file_of, Files, Grouping, IsGrouping, Pol, Program, ProgramOf, Refusal, SpellsOneProgram, Table, Topology}
use Rattle.snap_cli.proofs.Pipeline.{After, Agree, IsSameOutcome, after_once, next_once, one_program, refused_alike, within_once}
use Rattle.snap_cli.proofs.RoutesOnce.{Routed, routed_once}
use Rattle.snap_cli.proofs.SameCore.{same_names}
use Rattle.snap_cli.proofs.SameUses.{grouped}
use Rattle.snap_cli.proofs.TextLemmas.{one_grouping}

-- the text of the best placement on a topology that was read, or why there is none
abbrev Placed : (file : List ℕ) → Program → Topology → Result (List ℕ) Refusal → Type 0
Placed file p t (Ok text) = (table : Table) × AreRoutes t table × IsPlacementOf p t table file text
Placed file p t (Err e) = HasNoDemand p t file e

-- ---- programs with one core program

module _ (p q : Program) (same : core_program p ≡ core_program q) where
  spelled-by : (g : Grouping) (t : Topology) (x : Result Spelled DemandFault) (r : Result Demand DemandFault) → SpelledThen p g t x r → SpelledThen q g t x r
  spelled-by g t (Ok s) r h = subst (λ (vs : List (List ℕ)). PlacesThen g vs t.switches s (first_fault t.ports t.switches vs s) r) (same_names p q same) h
  spelled-by g t (Err e) r h = h

  answer-by : (g : Grouping) (t : Topology) (text : List ℕ) (r : Result Demand DemandFault) → IsAnswer p g t text r → IsAnswer q g t text r
  answer-by g t text r h = spelled-by g t (spelled (document text)) r h

  placement-by : (t : Topology) (table : Table) (file text : List ℕ) → IsPlacementOf p t table file text → IsPlacementOf q t table file text
  placement-by t table file text h = record {
    short = h.short;
    form = h.form;
    grouping = h.grouping;
    groups = grouped p q same h.grouping h.groups;
    demand = h.demand;
    spells = answer-by h.grouping t file (Ok h.demand) h.spells;
    best = h.best;
    is_best = h.is_best;
    is = h.is ∙ ap (λ (vs : List (List ℕ)). placement_text vs t.switches h.best.owners h.best.cost) (same_names p q same);
  }

  spells-none-by : (t : Topology) (text : List ℕ) (e : Refusal) → SpellsNoDemand p t text e → SpellsNoDemand q t text e
  spells-none-by t text e h = record {
    grouping = h.grouping;
    groups = grouped p q same h.grouping h.groups;
    fault = h.fault;
    known = h.known;
    answer = answer-by h.grouping t text (Err h.fault) h.answer;
    is = h.is ∙ ap (λ (vs : List (List ℕ)). refusal_of_demand vs h.fault) (same_names p q same);
  }

  placed-by : (t : Topology) (file : List ℕ) (r : Result (List ℕ) Refusal) → Placed file p t r → Placed file q t r
  placed-by t file (Ok text) h = (h.0, h.1, placement-by t h.0 file text h.2)
  placed-by t file (Err e) (inl h) = inl h
  placed-by t file (Err e) (inr h) = inr (h.0, spells-none-by t file e h.1)

-- ---- one program

module _ (tied : (p : Pol) → TiedIsEquivalence p) (one : (p : Pol) (n : ℕ) → UsesBelow n p → HasOneRank p n) (p : Program) (bounded : IsBounded p) where
  -- the ranks and the order are one
  same-bare : (g h : Grouping) → IsGrouping p.body (length p.arrays) g → IsGrouping p.body (length p.arrays) h → bare g ≡ bare h
  same-bare g h x y =
      let n = length p.arrays in
      let both = one_grouping p.body n (tied p.body) (one p.body n (UsesBelow-fits (count p.fields) n p.body bounded.fits)) g h x y in
      ap₂ (λ (r o : List ℕ). record { ranks = r; order = o }) both.0 both.1

  spells-none-once : (t : Topology) (text : List ℕ) (e f : Refusal) → SpellsNoDemand p t text e → SpellsNoDemand p t text f → e ≡ f
  spells-none-once t text e f h k =
      let same = same-bare h.grouping k.grouping h.groups k.groups in
      let x = bare-answer p h.grouping t text (Err h.fault) h.answer in
      let y = subst (λ (g : Grouping). IsAnswer p g t text (Err k.fault)) (sym same) (bare-answer p k.grouping t text (Err k.fault) k.answer) in
      h.is ∙ (ap (refusal_of_demand p.arrays) (answer-once p (bare h.grouping) t text h.fault k.fault x y) ∙ sym k.is)

  has-none-once : (t : Topology) (file : List ℕ) → Agree ◌≡◌ (HasNoDemand p t file) (HasNoDemand p t file)
  has-none-once t file = within_once _ _ _ _ _ (spells-none-once t file)

  placement-apart : (t : Topology) (table : Table) (file text : List ℕ) (e : Refusal) → IsPlacementOf p t table file text → HasNoDemand p t file e → ⊥
  placement-apart t table file text e h (inl k) = let short = h.short in let long = k.0 in omega arith
  placement-apart t table file text e h (inr never) =
      let k = never.1 in
      let same = same-bare h.grouping k.grouping h.groups k.groups in
      let x = bare-answer p h.grouping t file (Ok h.demand) h.spells in
      let y = subst (λ (g : Grouping). IsAnswer p g t file (Err k.fault)) (sym same) (bare-answer p k.grouping t file (Err k.fault) k.answer) in
      answer-apart p (bare h.grouping) t file h.demand k.fault x y

  placement-once : (t : Topology) (x y : Table) (file a b : List ℕ) → AreRoutes t x → AreRoutes t y → IsPlacementOf p t x file a → IsPlacementOf p t y file b → a ≡ b
  placement-once t x y file a b rx ry h k =
      let g = h.grouping in
      let same = same-bare g k.grouping h.groups k.groups in
      let groups : AreGroups g = (p.body, subst (λ (n : ℕ). IsGrouping p.body n g) (sym h.groups.count) h.groups) in
      let one-answer = bare-answer p g t file (Ok h.demand) h.spells in
      let other = subst (λ (i : Grouping). IsAnswer p i t file (Ok k.demand)) (sym same) (bare-answer p k.grouping t file (Ok k.demand) k.spells) in
      let best = subst (λ (i : Grouping). IsBestOf i t y k.demand k.best) (sym same) (bare-best k.grouping t y k.demand k.best k.is_best) in
      let bests = best-once (bare g) t x y (bare-ordered g (ordered g groups)) h.form rx ry h.demand k.demand h.best k.best (answer-same p (bare g) t file h.demand k.demand h.groups.count one-answer other)
      (bare-best g t x h.demand h.best h.is_best) best in
      h.is ∙ (ap (λ (b : Best). placement_text p.arrays t.switches b.owners b.cost) bests ∙ sym k.is)

  placed-once : (t : Topology) (file : List ℕ) → Agree (IsSameOutcome ◌≡◌) (Placed file p t) (Placed file p t)
  placed-once t file (Ok a) (Ok b) h k = placement-once t h.0 k.0 file a b h.1 k.1 h.2 k.2
  placed-once t file (Ok a) (Err f) h k = placement-apart t h.0 file a f h.2 k
  placed-once t file (Err e) (Ok b) h k = placement-apart t k.0 file b e k.2 h
  placed-once t file (Err e) (Err f) h k = inl (ap Err (has-none-once t file e f h k))

-- ---- the command

module _ (files : Files) (program topology demand : List ℕ) where
  abbrev pub GivesPlacement : Result (List ℕ) Refusal → Type 0
  GivesPlacement = After (ProgramOf (file_of files program)) (λ e r. r ≡ Err e) (λ p. After (Routed (file_of files topology)) (λ e r. r ≡ Err e) (Placed (file_of files demand) p))

  pub no_placement : (e : Refusal) → HasNoPlacement files program topology demand e → GivesPlacement (Err e)
  no_placement e (inl h) = inl (e, h, refl)
  no_placement e (inr (p, h, inl k)) = inr (p, h, inl (e, k, refl))
  no_placement e (inr (p, h, inr (t, table, k, r, none))) = inr (p, h, inr (t, (table, k, r), none))

  pub placement_text_of : (text : List ℕ) → IsPlaced files program topology demand text → GivesPlacement (Ok text)
  placement_text_of text (p, h, (t, table, k, r, is)) = inr (p, h, inr (t, (table, k, r), (table, r, is)))

  pub places_once : SpellsOneProgram → ((p : Pol) → TiedIsEquivalence p) → ((p : Pol) (n : ℕ) → UsesBelow n p → HasOneRank p n) → Agree (IsSameOutcome ◌≡◌) GivesPlacement GivesPlacement
  places_once spells tied one =
      after_once (one_program spells (file_of files program)) _ _ _ _ (refused_alike _)
      (λ p q same h k. next_once (routed_once (file_of files topology)) _ _ _ _ (refused_alike _)
      (λ t is a b m n. placed-once tied one q k.2 t (file_of files demand) a b (placed-by p q same t (file_of files demand) a m) n))

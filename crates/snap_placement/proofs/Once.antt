-- A text has one answer, and a demand one best placement, whatever the groupings and tables of routes that tell the same.
use Rattle.std.proofs.Common.{◌≡◌, ◌≢◌, ◌∙◌, inl, inr, ℕ, ◌+◌, ◌*◌, ◌<◌, List, [], ◌∷◌, ◌++◌, All, length, map, Option, Some, None, Result, Ok, Err, refl, sym, ap, ap₂, arith, slice_index, slice_index_or}
use Rattle.std.specs.Ordering.{nat_cmp, ordering_reverse}
use Rattle.std.specs.Cmp.Lexicographic.{slice_cmp}
use Rattle.std.specs.declared.cmp.Ordering.{Ordering}
use Rattle.std.specs.declared.cmp.Ordering.TheVariants.{Less, Equal, Greater}
use Rattle.std.specs.Ordering.{is_eq}
use Rattle.std.proofs.lemmas.Bool.{cases_eq, cases_lt}
use Rattle.std.proofs.lemmas.Cmp.{nat_list_cmp_total}
use Rattle.std.proofs.lemmas.Grind.{same_number_lists}
use Rattle.std.proofs.lemmas.List.{get_or-map}
use Rattle.std.proofs.lemmas.List.Elements.{All-contains, All-from_get_or, All-head, All-map, All-push, All-tail}
use Rattle.std.proofs.lemmas.Map.Text.{is_eq-slice_cmp}
use Rattle.std.proofs.lemmas.Slice.Eq.{bytes_eq-Decides}
use Rattle.snap_core.specs.declared.program.Program.{Program}
use Rattle.snap_dep.specs.Ranks.{Grouping, rank_of}
use Rattle.snap_topology.specs.declared.topology.Topology.{Topology}
use Rattle.snap_topology.specs.Spells.{document}
use Rattle.snap_topology.specs.Form.{IsWellFormed}
use Rattle.snap_topology.specs.Tables.{AreRoutes, Table, distance_of}
use Rattle.snap_topology.specs.Walks.{Linked}
use Rattle.snap_topology.proofs.Walking.{distance-same}
use Rattle.snap_placement.specs.declared.best.Best.{Best}
use Rattle.snap_placement.specs.declared.demand.Demand.{Demand}
use Rattle.snap_placement.specs.declared.demand.DemandFault.{DemandFault}
use Rattle.snap_placement.specs.declared.demand.DemandFault.TheVariants.{Nowhere}
use Rattle.snap_placement.specs.declared.demand.Flow.{Flow}
use Rattle.snap_placement.specs.declared.trips.End.TheVariants.{From, To}
use Rattle.snap_placement.specs.declared.trips.Trip.{Trip}
use Rattle.snap_placement.specs.DemandAnswer.{GroupMay, IsAnswer, IsDemandOf, PlacesThen, SpelledThen, TellsNowhere, first_fault}
use Rattle.snap_placement.specs.Costs.{along, cost_of, trip_of}
use Rattle.snap_placement.specs.Placements.{IsAllowed, IsBestOf, IsDemand, cost, places_of, stops}
use Rattle.snap_placement.specs.DemandShape.{Spelled, spelled}
use Rattle.snap_placement.proofs.Costing.{sum_by-each}
use Rattle.snap_placement.proofs.Demanding.{demand-is, ok-none}
use Rattle.snap_placement.proofs.Marking.{Lists-some}
use Rattle.snap_placement.proofs.Ported.{trips-below}
use Rattle.snap_placement.proofs.Ranked.{IsOrdered}

-- ---- a grouping without its numbers of atoms, which nothing here asks for

abbrev pub bare : Grouping → Grouping
bare g = record { ranks = g.ranks; order = g.order }

bare-demand : (g : Grouping) (arrays switches : List (List ℕ)) (s : Spelled) (d : Demand) → IsDemandOf g arrays switches s d → IsDemandOf (bare g) arrays switches s d
bare-demand g arrays switches s d is = record { flows = is.flows; count = is.count; places = is.places; some = is.some }

bare-places : (g : Grouping) (arrays switches : List (List ℕ)) (s : Spelled) (o : Option DemandFault) (r : Result Demand DemandFault) → PlacesThen g arrays switches s o r → PlacesThen (bare g) arrays switches s o r
bare-places g arrays switches s (Some e) r h = h
bare-places g arrays switches s None (Ok d) h = bare-demand g arrays switches s d h
bare-places g arrays switches s None (Err e) h = h

bare-spelled : (p : Program) (g : Grouping) (t : Topology) (x : Result Spelled DemandFault) (r : Result Demand DemandFault) → SpelledThen p g t x r → SpelledThen p (bare g) t x r
bare-spelled p g t (Ok s) r h = bare-places g p.arrays t.switches s (first_fault t.ports t.switches p.arrays s) r h
bare-spelled p g t (Err e) r h = h

pub bare-answer : (p : Program) (g : Grouping) (t : Topology) (text : List ℕ) (r : Result Demand DemandFault) → IsAnswer p g t text r → IsAnswer p (bare g) t text r
bare-answer p g t text r h = bare-spelled p g t (spelled (document text)) r h

bare-allowed : (g : Grouping) (allowed : List (List ℕ)) (owners : List ℕ) → IsAllowed g allowed owners → IsAllowed (bare g) allowed owners
bare-allowed g allowed owners is = record { count = is.count; may = is.may; together = is.together }

full-allowed : (g : Grouping) (allowed : List (List ℕ)) (owners : List ℕ) → IsAllowed (bare g) allowed owners → IsAllowed g allowed owners
full-allowed g allowed owners is = record { count = is.count; may = is.may; together = is.together }

pub bare-best : (g : Grouping) (t : Topology) (table : Table) (d : Demand) (b : Best) → IsBestOf g t table d b → IsBestOf (bare g) t table d b
bare-best g t table d b is = record {
  owners = record {
    fits = bare-allowed g d.allowed b.owners is.owners.fits;
    least = λ other fits. is.owners.least other (full-allowed g d.allowed other fits);
    first = λ other fits same. is.owners.first other (full-allowed g d.allowed other fits) same;
  };
  cost = is.cost;
}

pub bare-ordered : (g : Grouping) → IsOrdered g → IsOrdered (bare g)
bare-ordered g is = record { below = is.below; rank = is.rank; ranks = is.ranks }

-- ---- one answer

nowhere-once : (P : ℕ → ℕ → Type 0) (n count : ℕ) (e f : DemandFault) → TellsNowhere P n count e → TellsNowhere P n count f → e ≡ f
nowhere-once P n count (Nowhere v) (Nowhere u) h k = elim (cases_lt v u) [
  | inl less ↦ (let w = k.first v less in absurd (h.nowhere w.0 w.1 w.2))
  | inr more ↦ elim (cases_eq v u) [
    | inl same ↦ ap (λ (x : ℕ). Nowhere x) same
    | inr other ↦ (let w = h.first u (omega arith) in absurd (k.nowhere w.0 w.1 w.2))
  ]
]
nowhere-once P n count (Nowhere v) _ h k = absurd k
nowhere-once P n count _ f h k = absurd h

somewhere : (g : Grouping) (arrays switches : List (List ℕ)) (s : Spelled) (d : Demand) (e : DemandFault) → IsDemandOf g arrays switches s d → TellsNowhere (GroupMay g arrays switches s.allowed) (length arrays) (length switches) e → ⊥
somewhere g arrays switches s d (Nowhere v) is h =
    let w = Lists-some (GroupMay g arrays switches s.allowed v) (length switches) (places_of d.allowed v) (is.places v h.below) (is.some v h.below) in h.nowhere w.0 w.1 w.2
somewhere g arrays switches s d _ is h = h

abbrev fault-err : DemandFault → Result Demand DemandFault
fault-err x = Err x

inner : {x y : DemandFault} → fault-err x ≡ fault-err y → x ≡ y
inner e = cc

places-apart : (g : Grouping) (arrays switches : List (List ℕ)) (s : Spelled) (o : Option DemandFault) (d : Demand) (e : DemandFault) → PlacesThen g arrays switches s o (Ok d) → PlacesThen g arrays switches s o (Err e) → ⊥
places-apart g arrays switches s (Some f) d e h k = cc
places-apart g arrays switches s None d e h k = somewhere g arrays switches s d e h k

places-once : (g : Grouping) (arrays switches : List (List ℕ)) (s : Spelled) (o : Option DemandFault) (e f : DemandFault) → PlacesThen g arrays switches s o (Err e) → PlacesThen g arrays switches s o (Err f) → e ≡ f
places-once g arrays switches s (Some x) e f h k = inner (h ∙ sym k)
places-once g arrays switches s None e f h k = nowhere-once (GroupMay g arrays switches s.allowed) (length arrays) (length switches) e f h k

spelled-apart : (p : Program) (g : Grouping) (t : Topology) (x : Result Spelled DemandFault) (d : Demand) (e : DemandFault) → SpelledThen p g t x (Ok d) → SpelledThen p g t x (Err e) → ⊥
spelled-apart p g t (Ok s) d e h k = places-apart g p.arrays t.switches s (first_fault t.ports t.switches p.arrays s) d e h k
spelled-apart p g t (Err f) d e h k = cc

spelled-once : (p : Program) (g : Grouping) (t : Topology) (x : Result Spelled DemandFault) (e f : DemandFault) → SpelledThen p g t x (Err e) → SpelledThen p g t x (Err f) → e ≡ f
spelled-once p g t (Ok s) e f h k = places-once g p.arrays t.switches s (first_fault t.ports t.switches p.arrays s) e f h k
spelled-once p g t (Err x) e f h k = inner (h ∙ sym k)

-- a text spells a demand, or it doesn't
pub answer-apart : (p : Program) (g : Grouping) (t : Topology) (text : List ℕ) (d : Demand) (e : DemandFault) → IsAnswer p g t text (Ok d) → IsAnswer p g t text (Err e) → ⊥
answer-apart p g t text d e h k = spelled-apart p g t (spelled (document text)) d e h k

-- and there is one reason
pub answer-once : (p : Program) (g : Grouping) (t : Topology) (text : List ℕ) (e f : DemandFault) → IsAnswer p g t text (Err e) → IsAnswer p g t text (Err f) → e ≡ f
answer-once p g t text e f h k = spelled-once p g t (spelled (document text)) e f h k

-- two demands that tell the same: the flows, and which placements are allowed
pub record IsSameDemand (g : Grouping) (t : Topology) (d e : Demand) : Type 0 where
  pub first : IsDemand g t d
  pub second : IsDemand g t e
  pub flows : d.flows ≡ e.flows
  pub to : (owners : List ℕ) → IsAllowed g d.allowed owners → IsAllowed g e.allowed owners
  pub from : (owners : List ℕ) → IsAllowed g e.allowed owners → IsAllowed g d.allowed owners

allowed-by : (g : Grouping) (arrays switches : List (List ℕ)) (s : Spelled) (d e : Demand) (owners : List ℕ) → length g.ranks ≡ length arrays → IsDemandOf g arrays switches s d → IsDemandOf g arrays switches s e → IsAllowed g d.allowed owners → IsAllowed g e.allowed owners
allowed-by g arrays switches s d e owners count is was fits = record {
  count = fits.count;
  may = λ v lt. let low : v < length arrays = omega arith in ((was.places v low).each (slice_index owners v)).1 (((is.places v low).each (slice_index owners v)).0 (fits.may v lt));
  together = fits.together;
}

spelled-same : (p : Program) (g : Grouping) (t : Topology) (x : Result Spelled DemandFault) (d e : Demand) → length g.ranks ≡ length p.arrays → SpelledThen p g t x (Ok d) → SpelledThen p g t x (Ok e) → IsSameDemand g t d e
spelled-same p g t (Ok s) d e count h k =
    let one = ok-none g p.arrays t.switches s (first_fault t.ports t.switches p.arrays s) d h in
    let other = ok-none g p.arrays t.switches s (first_fault t.ports t.switches p.arrays s) e k in
    record {
      first = demand-is g p.arrays t s d count one.0 one.1;
      second = demand-is g p.arrays t s e count other.0 other.1;
      flows = one.1.flows ∙ sym other.1.flows;
      to = λ owners fits. allowed-by g p.arrays t.switches s d e owners count one.1 other.1 fits;
      from = λ owners fits. allowed-by g p.arrays t.switches s e d owners count other.1 one.1 fits;
    }
spelled-same p g t (Err f) d e count h k = cc

pub answer-same : (p : Program) (g : Grouping) (t : Topology) (text : List ℕ) (d e : Demand) → length g.ranks ≡ length p.arrays → IsAnswer p g t text (Ok d) → IsAnswer p g t text (Ok e) → IsSameDemand g t d e
answer-same p g t text d e count h k = spelled-same p g t (spelled (document text)) d e count h k

-- ---- one cost

along-same : (d f : ℕ → ℕ → ℕ) (n : ℕ) → ((a b : ℕ) → a < n → b < n → d a b ≡ f a b) → (xs : List ℕ) (at : ℕ) → at < n → All (λ x. x < n) xs → along d at xs ≡ along f at xs
along-same d f n same [] at lt low = refl
along-same d f n same (x ∷ xs) at lt low =
    let here = All-head (λ x. x < n) x xs low in ap₂ ◌+◌ (same at x lt here) (along-same d f n same xs x here (All-tail (λ x. x < n) x xs low))

cost-same : (d f : ℕ → ℕ → ℕ) (n : ℕ) (trips : List Trip) (xs : List ℕ) → ((a b : ℕ) → a < n → b < n → d a b ≡ f a b) → All (λ (t : Trip). t.from < n) trips → All (λ (t : Trip). t.to < n) trips → All (λ x. x < n) xs → cost_of d trips xs ≡ cost_of f trips xs
cost-same d f n trips xs same from to low =
    sum_by-each (λ (t : Trip). t.weight * along d t.from (xs ++ t.to ∷ [])) (λ (t : Trip). t.weight * along f t.from (xs ++ t.to ∷ [])) trips (λ k e lt.
    let t = slice_index_or trips k e in
    ap (λ (m : ℕ). t.weight * m) (along-same d f n same (xs ++ t.to ∷ []) t.from (from k e lt) (All-push (λ x. x < n) xs t.to low (to k e lt))))

pub same_distance : (t : Topology) (x y : Table) → AreRoutes t x → AreRoutes t y → (a b : ℕ) → a < length t.switches → b < length t.switches → distance_of x a b ≡ distance_of y a b
same_distance t x y rx ry a b la lb = distance-same (Linked t.links) a b (distance_of x a b) (distance_of y a b) (rx.distances a b la lb) (ry.distances a b la lb)

module _ (g : Grouping) (t : Topology) (x y : Table) (ord : IsOrdered g) (form : IsWellFormed t) (rx : AreRoutes t x) (ry : AreRoutes t y) where
  stops-below : (d : Demand) (owners : List ℕ) → IsDemand g t d → IsAllowed g d.allowed owners → All (λ s. s < length t.switches) (stops g owners)
  stops-below d owners is fits = All-map (λ s. s < length t.switches) (λ (v : ℕ). slice_index owners v) g.order
      (All-from_get_or (λ (v : ℕ). slice_index owners v < length t.switches) g.order 0 (λ i lt.
      let v = slice_index g.order i in
      All-contains (λ s. s < length t.switches) (places_of d.allowed v) (slice_index owners v) (is.below v (ord.below i lt)) (fits.may v (ord.below i lt))))

  same-cost : (d : Demand) (owners : List ℕ) → IsDemand g t d → IsAllowed g d.allowed owners → cost x t.ports d.flows g owners ≡ cost y t.ports d.flows g owners
  same-cost d owners is fits =
      let n = length t.switches in
      cost-same (distance_of x) (distance_of y) n (map (trip_of t.ports) d.flows) (stops g owners) (same_distance t x y rx ry) (trips-below From n t.ports d.flows form.ports is.ports) (trips-below To n t.ports d.flows form.ports is.ports) (stops-below d owners is fits)

  reversed : (o r : Ordering) → o ≢ Greater → r ≢ Greater → o ≡ ordering_reverse r → o ≡ Equal
  reversed Equal r a b is = refl
  reversed Greater r a b is = absurd (a refl)
  reversed Less Less a b is = cc
  reversed Less Equal a b is = cc
  reversed Less Greater a b is = absurd (b refl)

  same-order : (xs ys : List ℕ) → slice_cmp nat_cmp xs ys ≢ Greater → slice_cmp nat_cmp ys xs ≢ Greater → xs ≡ ys
  same-order xs ys a b =
      let equal = reversed (slice_cmp nat_cmp xs ys) (slice_cmp nat_cmp ys xs) a b (nat_list_cmp_total.antisymm xs ys) in
      (bytes_eq-Decides xs ys).0 (sym (is_eq-slice_cmp xs ys) ∙ ap is_eq equal)

  same-owners : (allowed also : List (List ℕ)) (a b : List ℕ) → IsAllowed g allowed a → IsAllowed g also b → stops g a ≡ stops g b → a ≡ b
  same-owners allowed also a b fits suits same = same_number_lists a b (fits.count ∙ sym suits.count) (λ v lt.
      let low : v < length g.ranks = let c = fits.count in omega arith in
      let r = rank_of g v in
      let inside = ord.ranks v low in
      let u = slice_index g.order r in
      let lu = ord.below r inside in
      let tied = ord.rank r inside in
      let at-a = get_or-map (λ (w : ℕ). slice_index a w) g.order r 0 0 inside in
      let at-b = get_or-map (λ (w : ℕ). slice_index b w) g.order r 0 0 inside in
      fits.together v u low lu (sym tied) ∙ sym at-a ∙ ap (λ (xs : List ℕ). slice_index xs r) same ∙ at-b ∙ suits.together u v lu low tied)

  -- one best placement, with one cost
  pub best-once : (d e : Demand) (b c : Best) → IsSameDemand g t d e → IsBestOf g t x d b → IsBestOf g t y e c → b ≡ c
  best-once d e b c same is was =
      let bf = is.owners.fits in
      let cf = was.owners.fits in
      let b-also = same.to b.owners bf in
      let c-also = same.from c.owners cf in
      let price = λ (table : Table) (fs : List Flow) (os : List ℕ). cost table t.ports fs g os in
      let flows : (os : List ℕ) → price y d.flows os ≡ price y e.flows os = λ os. ap (λ (fs : List Flow). price y fs os) same.flows in
      let b-price : price x d.flows b.owners ≡ price y e.flows b.owners = same-cost d b.owners same.first bf ∙ flows b.owners in
      let c-price : price x d.flows c.owners ≡ price y e.flows c.owners = same-cost d c.owners same.first c-also ∙ flows c.owners in
      let up = is.owners.least c.owners c-also in
      let down = was.owners.least b.owners b-also in
      let level : price x d.flows b.owners ≡ price y e.flows c.owners = omega arith in
      let ahead = is.owners.first c.owners c-also (c-price ∙ sym level) in
      let behind = was.owners.first b.owners b-also (sym b-price ∙ level) in
      let owners = same-owners d.allowed e.allowed b.owners c.owners bf cf (same-order (stops g b.owners) (stops g c.owners) ahead behind) in
      let costs : b.cost ≡ c.cost = is.cost ∙ level ∙ sym was.cost in
      ap₂ (λ (n : ℕ) (os : List ℕ). record { cost = n; owners = os }) costs owners

-- Groups that are taken one after another, each when it is the next.
use Rattle.std.proofs.Common.{◌≡◌, ◌≢◌, ◌↔◌, ℕ, ◌<◌, ◌≤◌, ◌⊎◌, inl, inr, List, [], ◌∷◌, ◌++◌, take, length, refl, sym, subst, ◌∙◌, arith}
use Rattle.std.specs.Prelude.{slice_index}
use Rattle.std.specs.List.{Contains, AllPairs}
use Rattle.std.proofs.lemmas.Bool.{cases_eq, cases_lt, cases_order}
use Rattle.std.proofs.lemmas.List.{get_or-take, get_or_default, get_or_append_left, get_or_push, length-take-le, length_push, take-append-le}
use Rattle.std.proofs.Math.Seq.{take-append_seam}
use Rattle.snap_core.specs.declared.policy.Pol.{Pol}
use Rattle.snap_dep.specs.Dependencies.{Reaches, Tied, UsesBelow}
use Rattle.snap_dep.specs.Ranks.{IsGroup, Precedes, IsReady, IsNext, IsRank, IsRankIn, IsGrouping}
use Rattle.snap_dep.proofs.Choices.{Dec, dec_both, dec_not, dec_contains, Minimal, minimal}
use Rattle.snap_dep.proofs.GroupLemmas.{same_group, precedes_reaches, back, Before, before_on, before_proper, dec_before, group_before, dec_group}
use Rattle.snap_dep.proofs.Chains.{tied_on, tied_back}

-- each group so far was the next
abbrev pub IsBegun : Pol → ℕ → List ℕ → Type 0
IsBegun p n order = (i : ℕ) → i < length order → IsNext p n (take i order) (slice_index order i)

contains_take : (xs : List ℕ) (i x : ℕ) → i ≤ length xs → Contains (take i xs) x → Contains xs x
contains_take xs i x le (k, l, e) =
    let size = length-take-le i xs le in
    (k, omega (arith, size, l, le), sym (get_or-take i xs k x (omega (arith, size, l))) ∙ e)

module _ (p : Pol) (n : ℕ) (order : List ℕ) (begun : IsBegun p n order) where
  pub begun_groups : (g : ℕ) → Contains order g → IsGroup p n g
  begun_groups g (k, l, e) = subst (IsGroup p n) (get_or_default order k 0 g l ∙ e) (begun k l).group

  pub begun_once : AllPairs (λ g h. g ≢ h) order
  begun_once i j d lt l e =
      let size = length-take-le j order (omega (arith, l)) in
      (begun j l).new (
        i,
        omega (arith, size, lt),
        get_or-take j order i (slice_index order j) lt ∙ get_or_default order i (slice_index order j) d (omega (arith, lt, l)) ∙ e ∙ get_or_default order j d 0 l,
      )

  -- what precedes a group that is taken is taken
  pub begun_closed : (g h : ℕ) → Contains order g → IsGroup p n h → Precedes p h g → Contains order h
  begun_closed g h (k, l, e) hg prec = by_number (cases_eq h g)
    where
      at : slice_index order k ≡ g
      at = get_or_default order k 0 g l ∙ e

      by_number : (h ≡ g) ⊎ (h ≡ g → ⊥) → Contains order h
      by_number (inl s) = subst (Contains order) (sym s) (k, l, e)
      by_number (inr ne) =
          contains_take order k h (omega (arith, l))
          ((begun k l).ready h hg (subst (Precedes p h) (sym at) prec) (λ s. ne (s ∙ at)))

-- a group that isn't taken and that no other such group reaches
pub record IsClear (p : Pol) (n : ℕ) (taken : List ℕ) (g : ℕ) : Type 0 where
  pub group : IsGroup p n g
  pub new : ¬ (Contains taken g)
  pub clear : (h : ℕ) → IsGroup p n h → ¬ (Contains taken h) → h ≢ g → ¬ (Reaches p h g)

pub clear_ready : (p : Pol) (n : ℕ) (taken : List ℕ) (g : ℕ) → IsClear p n taken g → IsReady p n taken g
clear_ready p n taken g c h hg prec ne = by_taken (dec_contains taken h)
  where
    by_taken : Dec (Contains taken h) → Contains taken h
    by_taken (inl y) = y
    by_taken (inr no_) = absurd (c.clear h hg no_ ne (precedes_reaches p h g prec))

module _ (p : Pol) (n : ℕ) (below : UsesBelow n p) (order : List ℕ) (begun : IsBegun p n order) where
  -- a group that is ready is clear
  pub ready_clear : (g : ℕ) → IsGroup p n g → ¬ (Contains order g) → IsReady p n order g → IsClear p n order g
  ready_clear g gg new ready = record { group = gg; new = new; clear = λ h hg hnew ne r. taken_or_it h hnew ne (back p n below (λ x. Contains order x ⊎ (x ≡ g)) closed r g h hg (inl refl) (inr refl) (inl refl)) }
    where
      taken_or_it : (h : ℕ) → ¬ (Contains order h) → h ≢ g → Contains order h ⊎ (h ≡ g) → ⊥
      taken_or_it h hnew ne (inl c) = hnew c
      taken_or_it h hnew ne (inr e) = ne e

      before_it : (h : ℕ) → IsGroup p n h → Precedes p h g → (h ≡ g) ⊎ (h ≡ g → ⊥) → Contains order h ⊎ (h ≡ g)
      before_it h hg prec (inl e) = inr e
      before_it h hg prec (inr ne) = inl (ready h hg prec ne)

      closed : (x h : ℕ) → Contains order x ⊎ (x ≡ g) → IsGroup p n h → Precedes p h x → Contains order h ⊎ (h ≡ g)
      closed x h (inl c) hg prec = inl (begun_closed p n order begun x h c hg prec)
      closed x h (inr e) hg prec = before_it h hg (subst (Precedes p h) e prec) (cases_eq h g)

  -- the least clear group is the next
  pub clear_next : (g : ℕ) → IsClear p n order g → ((u : ℕ) → u < g → ¬ (IsClear p n order u)) → IsNext p n order g
  clear_next g c first = record { group = c.group; new = c.new; ready = clear_ready p n order g c; least = λ h hg hnew hready. at_least h (ready_clear h hg hnew hready) (cases_lt h g) }
    where
      at_least : (h : ℕ) → IsClear p n order h → (h < g) ⊎ (g ≤ h) → g ≤ h
      at_least h d (inl lt) = absurd (first h lt d)
      at_least h d (inr le) = le

  -- ---- where a group is left, one is clear
  abbrev IsLeft : ℕ → Type 0
  IsLeft g = IsGroup p n g × (Contains order g → ⊥)

  dec_left : (g : ℕ) → Dec (IsLeft g)
  dec_left g = dec_both (dec_group p n below g) (dec_not (dec_contains order g))

  pub some_clear : (g : ℕ) → IsGroup p n g → ¬ (Contains order g) → (m : ℕ) × (m < n) × IsClear p n order m
  some_clear g gg new = from (minimal IsLeft (Before p n below) (before_on p n below) (before_proper p n below) dec_left (dec_before p n below) n)
    where
      from : Minimal IsLeft (Before p n below) n → (m : ℕ) × (m < n) × IsClear p n order m
      from (inl (m, l, left, first)) = (m, l, record { group = left.0; new = left.1; clear = λ h hg hnew ne r. first h hg.below (hg, hnew) (group_before p n below h m hg left.0 ne r) })
      from (inr none) = absurd (none g gg.below (gg, new))

-- one more group is taken
pub begun_more : (p : Pol) (n : ℕ) (order : List ℕ) (g : ℕ) → IsBegun p n order → IsNext p n order g → IsBegun p n (order ++ g ∷ [])
begun_more p n order g begun next i l = by_place (cases_lt i (length order))
  where
    by_place : (i < length order) ⊎ (length order ≤ i) → IsNext p n (take i (order ++ g ∷ [])) (slice_index (order ++ g ∷ []) i)
    by_place (inl lt) =
        subst (λ taken. IsNext p n taken (slice_index (order ++ g ∷ []) i)) (sym (take-append-le i order (g ∷ []) (omega (arith, lt))))
        (subst (IsNext p n (take i order)) (sym (get_or_append_left order (g ∷ []) 0 i lt)) (begun i lt))
    by_place (inr le) =
        let size = length_push order g in
        let last : length order ≡ i = omega (arith, size, l, le) in
        subst (λ j. IsNext p n (take j (order ++ g ∷ [])) (slice_index (order ++ g ∷ []) j)) last
        (subst (λ taken. IsNext p n taken (slice_index (order ++ g ∷ []) (length order))) (sym (take-append_seam order (g ∷ [])))
        (subst (IsNext p n order) (sym (get_or_push order g 0 (length order) refl)) next))

-- ---- variables of one rank are those that are tied
module _ (p : Pol) (n : ℕ) (order : List ℕ) (rank : ℕ → ℕ) (ranked : IsRank p n order) (own : IsRankIn p n order rank) where
  same_place : (i j : ℕ) → i < length order → j < length order → slice_index order i ≡ slice_index order j → i ≡ j
  same_place i j li lj e = by_order (cases_order i j)
    where
      by_order : (i ≡ j) ⊎ ((i < j) ⊎ (j < i)) → i ≡ j
      by_order (inl s) = s
      by_order (inr (inl l)) = absurd (begun_once p n order ranked.steps i j 0 l lj e)
      by_order (inr (inr l)) = absurd (begun_once p n order ranked.steps j i 0 l li (sym e))

  pub tied_ranks : (a b : ℕ) → a < n → b < n → (rank a ≡ rank b) ↔ Tied p a b
  tied_ranks a b la lb = (
    λ e. tied_on p a (slice_index order (rank a)) b (tied_back p (slice_index order (rank a)) a (own.group a la)) (subst (λ r. Tied p (slice_index order r) b) (sym e) (own.group b lb)),
    λ t. same_place (rank a) (rank b) (own.below a la) (own.below b lb)
        (same_group p n (slice_index order (rank a)) (slice_index order (rank b)) (ranked.steps (rank a) (own.below a la)).group (ranked.steps (rank b) (own.below b lb)).group
        (tied_on p (slice_index order (rank a)) a (slice_index order (rank b)) (own.group a la)
        (tied_on p a b (slice_index order (rank b)) t (tied_back p (slice_index order (rank b)) b (own.group b lb))))),
  )

pub grouping : (p : Pol) (n : ℕ) (ranks order : List ℕ) → length ranks ≡ n → IsRank p n order → IsRankIn p n order (slice_index ranks) → IsGrouping p n (record { ranks = ranks; order = order })
grouping p n ranks order long ranked own = record {
  count = long;
  order = ranked;
  ranks = own;
  tied = tied_ranks p n order (slice_index ranks) ranked own;
}

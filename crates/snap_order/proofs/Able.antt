-- A copy that can be handled can make a step in order.
use Rattle.std.proofs.Common.{◌≡◌, ◌≢◌, ◌⊎◌, inl, inr, ⊎_elim, ℕ, Bool, true, false, List, [], ◌∷◌, Some, refl, sym, ap, subst, ◌∙◌}
use Rattle.std.specs.Prelude.{slice_get}
use Rattle.std.proofs.lemmas.Bool.{both_ways, cases_eq}
use Rattle.std.proofs.lemmas.Option.{same_Some}
use Rattle.snap_core.specs.Arrays.{Arrays, updates}
use Rattle.snap_core.specs.Tests.{results}
use Rattle.snap_rows.specs.Actions.{Action}
use Rattle.snap_rows.specs.declared.head.Head.{Head}
use Rattle.snap_rows.specs.declared.head.Head.TheVariants.{Walk, Stage, Out, Visit}
use Rattle.snap_rows.specs.declared.tables.Tables.{Tables}
use Rattle.snap_rows.specs.Entries.{next, rank_at, ranks}
use Rattle.snap_rows.specs.Handles as handles
use Rattle.snap_rows.specs.Handles.{Handles}
use Rattle.snap_rows.specs.Network.{Copy, happening, stepped}
use Rattle.snap_rows.proofs.Able.{able}
use Rattle.snap_faithful.specs.Agreement.{lost_of, sent_of}
use Rattle.snap_faithful.specs.InOrder.{Becomes, SentOn, Waiting, Forks, TakesTurns, handled_more}
use Rattle.snap_faithful.specs.InOrder as turn
use Rattle.snap_faithful.proofs.Nodes.{IsTwo, WalkDoes, visits_first, forks_at_once, walk_does}
use Rattle.snap_rows.specs.Stepping.{ComesTo, visit, walk}
use Rattle.snap_order.specs.Ordered.{Ordered, OrderedHappening, Happens, Waits, AwaitsVisit, moves, visits, waits, turn_of, visited}
use Rattle.snap_order.specs.Progress.{CanStep}
use Rattle.snap_order.specs.Rounding.{is_above_leaf}
use Rattle.snap_order.proofs.Placed.{Placed}
use Rattle.snap_order.proofs.Standing.{comes_early}
use Rattle.snap_order.proofs.Taking.{same_rank}

-- ---- turns that are no wait
abbrev pub is_waiting : OrderedHappening → Bool
is_waiting (Waits c r) = true
is_waiting _ = false

pub visits_on : (c : Copy) (b : Becomes) → is_waiting (turn_of c b) ≡ false
visits_on c (SentOn to r n) = refl
visits_on c (Waiting r n) = refl
visits_on c (Forks copies lost) = refl

pub no_wait : (u : OrderedHappening) (c : Copy) (r : ℕ) → is_waiting u ≡ false → u ∷ [] ≡ Waits c r ∷ [] → ⊥
no_wait u c r isnt e = both_ways _ isnt (ap is_waiting (same_Some u (Waits c r) (ap (λ l. slice_get l 0) e)))

module _ (t : Tables) (two : IsTwo t) where
  -- ---- visits
  -- visits that a switch makes without order are made in order, up to the first whose turn hasn't come
  record Taken (w : ℕ) (k : List ℕ) (i : ℕ) (m : Arrays) (h : ℕ → ℕ) (r n : ℕ) : Type 0 where
    arrays : Arrays
    numbers : ℕ → ℕ
    becomes : Becomes
    takes : TakesTurns t w k i m h r n arrays numbers becomes

  takes_turns : {w : ℕ} {k : List ℕ} (i : ℕ) {m m' : Arrays} {r n : ℕ} {a : Action} → Handles t w k m (Visit r n) m' a → (h : ℕ → ℕ) → Taken w k i m h r n
  takes_turns {w = w} i {m = m} {r = r} {n = n} (handles.seeks {x = x} own away) h = record { arrays = m; numbers = h; becomes = SentOn (next t w x) r n; takes = turn.seeks own away }
  takes_turns i {m = m} {r = r} {n = n} (handles.visits own made more rest) h =
      ⊎_elim
      (λ now. (let on = takes_turns i rest (handled_more h r) in record { arrays = on.arrays; numbers = on.numbers; becomes = on.becomes; takes = turn.visits own now made more on.takes }))
      (λ early. record { arrays = m; numbers = h; becomes = Waiting r n; takes = turn.waits own early })
      (cases_eq (h r) i)
  takes_turns {k = k} i {m = m} {r = r} {n = n} (handles.concludes {us = us} {os = os} own made last row) h =
      ⊎_elim
      (λ now. record {
        arrays = updates m us k;
        numbers = handled_more h r;
        becomes = Forks (sent_of t (results os k)) (lost_of t (results os k));
        takes = turn.concludes own now made last row;
      })
      (λ early. record { arrays = m; numbers = h; becomes = Waiting r n; takes = turn.waits own early })
      (cases_eq (h r) i)

  -- the switch makes the visit, or sends the copy on before it
  here_or_away : {w : ℕ} {k : List ℕ} {m m' : Arrays} {r n : ℕ} {a : Action} → Handles t w k m (Visit r n) m' a → (rank_at t r ≡ Some w) ⊎ (rank_at t r ≢ Some w)
  here_or_away {w = w} (handles.seeks {x = x} own away) = inr (λ mine. away (same_Some x w (sym own ∙ mine)))
  here_or_away (handles.visits own made more rest) = inl own
  here_or_away (handles.concludes own made last row) = inl own

  -- a walk goes on with its visit of rank 0, unless there are no ranks
  walk_goes_on : {w : ℕ} {k : List ℕ} {m m' : Arrays} {n : ℕ} {a : Action} → WalkDoes t w k m n m' a
      → ((v : ℕ) × (ranks t ≢ 0) × handles.Follows t w k handles.is_field m n v × Handles t w k m (Visit 0 v) m' a) ⊎ (ranks t ≡ 0)
  walk_goes_on (visits_first {v = v} some follow rest) = inl (v, some, follow, rest)
  walk_goes_on (forks_at_once none follow row) = inr none

  needs_ranks : {w : ℕ} {k : List ℕ} {m : Arrays} {n q v : ℕ} → ranks t ≡ 0 → ComesTo t w k m (Walk n) q v → ⊥
  needs_ranks none (walk some follow) = some none

  -- ---- one step
  module _ (s : Ordered) (j : ℕ) (c : Copy) (found : slice_get s.net.flying j ≡ Some c) (m : Arrays) (a : Action) (does : Handles t c.at c.packet (s.net.stores c.at) c.head m a) where
    abbrev Comes : Head → ℕ → ℕ → Type 0
    Comes head r n = ComesTo t c.at c.packet (s.net.stores c.at) head r n

    apart : ((r n : ℕ) → ¬ AwaitsVisit t s.net c r n) → CanStep t s j
    apart none = record { state = record s { net = stepped s.net j c m a }; turns = Happens (happening c a) ∷ []; leads = moves found none does }

    at_visit : (r n : ℕ) → Comes c.head r n → Handles t c.at c.packet (s.net.stores c.at) (Visit r n) m a → CanStep t s j
    at_visit r n to made = by (here_or_away made)
      where
        by : (rank_at t r ≡ Some c.at) ⊎ (rank_at t r ≢ Some c.at) → CanStep t s j
        by (inl own) =
            let before : AwaitsVisit t s.net c r n = record { comes = to; owner = own } in
            ⊎_elim
            (λ now.
            (let taken = takes_turns c.number made s.handled in
            record { state = visited s j c taken.arrays taken.numbers taken.becomes; turns = turn_of c taken.becomes ∷ []; leads = visits found before now taken.takes }))
            (λ early. record { state = s; turns = Waits c r ∷ []; leads = waits found before early })
            (cases_eq (s.handled r) c.number)
        by (inr away) = apart (λ q v before. away (ap (rank_at t) (same_rank to before.comes) ∙ before.owner))

    at_walk : (n : ℕ) → c.head ≡ Walk n → ((v : ℕ) × (ranks t ≢ 0) × handles.Follows t c.at c.packet handles.is_field (s.net.stores c.at) n v × Handles t c.at c.packet (s.net.stores c.at) (Visit 0 v) m a) ⊎ (ranks t ≡ 0) → CanStep t s j
    at_walk n is (inl (v, some, follow, rest)) = at_visit 0 v (subst (λ head. Comes head 0 v) (sym is) (walk some follow)) rest
    at_walk n is (inr none) = apart (λ q v before. needs_ranks none (subst (λ head. Comes head q v) is before.comes))

    late : is_above_leaf c.head ≡ false → CanStep t s j
    late forked = apart (λ q v before. both_ways _ forked (comes_early before.comes))

    pub step_of : (head : Head) → c.head ≡ head → CanStep t s j
    step_of (Walk n) is = at_walk n is (walk_goes_on (walk_does t two (subst (λ head. Handles t c.at c.packet (s.net.stores c.at) head m a) is does)))
    step_of (Visit r n) is = at_visit r n (subst (λ head. Comes head r n) (sym is) visit) (subst (λ head. Handles t c.at c.packet (s.net.stores c.at) head m a) is does)
    step_of (Stage n i) is = late (ap is_above_leaf is)
    step_of (Out p) is = late (ap is_above_leaf is)

  pub can_step : (s : Ordered) (j : ℕ) (c : Copy) → slice_get s.net.flying j ≡ Some c → Placed t c → CanStep t s j
  can_step s j c found p = let x = able t two.valid two.form c.at c.packet (s.net.stores c.at) c.head p.home in step_of s j c found x.0 x.1 x.2 c.head refl

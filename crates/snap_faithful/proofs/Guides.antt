-- What is kept of a packet and of the arrays from its injection to its fork.
use Rattle.std.proofs.Common.{◌≡◌, ◌≢◌, ℕ, ◌+◌, Bool, true, false, cond, List, Option, Some, refl, sym, ap, subst, ◌∙◌}
use Rattle.std.specs.Prelude.{nat_eq}
use Rattle.std.proofs.lemmas.Bool.{eqb-true, eqb-false, eq-eqb, ne_eqb, cond-true, cond-false}
use Rattle.snap_core.specs.declared.place.Place.{Place}
use Rattle.snap_core.specs.declared.policy.Update.{Update}
use Rattle.snap_core.specs.Arrays.{Arrays, updates}
use Rattle.snap_core.specs.Packets.{PacketSet}
use Rattle.snap_core.specs.Tests.{results}
use Rattle.snap_rows.specs.declared.tables.Tables.{Tables}
use Rattle.snap_rows.specs.declared.tables.Row.TheVariants.{Last}
use Rattle.snap_rows.specs.Actions.{Action, Forward, Fork}
use Rattle.snap_rows.specs.declared.head.Head.{Head}
use Rattle.snap_rows.specs.declared.head.Head.TheVariants.{Walk, Visit}
use Rattle.snap_rows.specs.Entries.{Parts, row_at, next, rank_at, rank_of, ranks}
use Rattle.snap_rows.specs.Handles.{Handles, seeks, visits, concludes, Visits, Follows, is_field}
use Rattle.snap_rows.specs.Network.{Net}
use Rattle.snap_faithful.specs.Agreement.{sent_of, lost_of}
use Rattle.snap_faithful.specs.InOrder.{StandsAt}
use Rattle.snap_faithful.proofs.Nodes.{IsTwo, WalkDoes, visits_first, forks_at_once, walk_does}
use Rattle.snap_faithful.proofs.Walks.{rank_keeps}
use Rattle.snap_faithful.proofs.Holding.{HoldsOf, NetHoldsOf, others}
use Rattle.snap_faithful.proofs.Trips as trips
use Rattle.snap_faithful.proofs.Trips.{Does, Way}

-- ---- what switches hold
-- the switch at which the variable's rank stands
abbrev pub standing : Tables → ℕ → Option ℕ
standing t v = rank_at t (rank_of t v)

-- the switch holds what n holds, in the arrays that stand there
abbrev pub Holds : Tables → ℕ → Arrays → Arrays → Type 0
Holds t w s n = HoldsOf (standing t) w s n

abbrev pub NetHolds : Tables → Net → Arrays → Type 0
NetHolds t s m = NetHoldsOf (standing t) s m

-- arrays that stand elsewhere are as they were
abbrev pub IsElsewhere : Tables → ℕ → Arrays → Arrays → Type 0
IsElsewhere t w old new = (q : Place) → (StandsAt t w q.var → ⊥) → new q ≡ old q

-- the arrays a, but those of rank r as the updates leave them at the switch
abbrev pub after : Tables → List ℕ → ℕ → Arrays → List Update → Arrays → Arrays
after t k r s us a q = cond (nat_eq (rank_of t q.var) r) (updates s us k q) (a q)

module _ (t : Tables) (k : List ℕ) (r : ℕ) (s : Arrays) (us : List Update) (a : Arrays) where
  pub after_own : (q : Place) → rank_of t q.var ≡ r → after t k r s us a q ≡ updates s us k q
  after_own q e = cond-true _ _ _ (eq-eqb (rank_of t q.var) r e)

  pub after_other : (q : Place) → rank_of t q.var ≢ r → after t k r s us a q ≡ a q
  after_other q ne = cond-false _ _ _ (ne_eqb (rank_of t q.var) r ne)

-- a visit changes the arrays of its rank alone
pub visit_keeps : (t : Tables) (k : List ℕ) {w r v x : ℕ} {s : Arrays} {us : List Update} → Visits t w k s r v x us → (m : Arrays) (q : Place) → rank_of t q.var ≢ r → updates m us k q ≡ m q
visit_keeps t k {r = r} visit m q ne = ap (λ l. updates m l k q) visit.updates ∙ rank_keeps t k r visit.ups m q ne

module _ (t : Tables) (k : List ℕ) (w r v x : ℕ) (s a : Arrays) (us : List Update) (own : rank_at t r ≡ Some w) where
  held_on : Holds t w s a → Visits t w k s r v x us → Holds t w (updates s us k) (after t k r s us a)
  held_on held visit q at = by (nat_eq (rank_of t q.var) r) refl
    where
      by : (b : Bool) → nat_eq (rank_of t q.var) r ≡ b → updates s us k q ≡ after t k r s us a q
      by true e = sym (after_own t k r s us a q (eqb-true (rank_of t q.var) r e))
      by false e = let ne = eqb-false (rank_of t q.var) r e in visit_keeps t k visit s q ne ∙ held q at ∙ sym (after_other t k r s us a q ne)

  far_on : IsElsewhere t w a (after t k r s us a)
  far_on q away = after_other t k r s us a q (λ e. away (ap (rank_at t) e ∙ own))

-- ---- guides
-- what holds of the arrays where the packet's copy enters at a switch, where it stands before the visit of a rank, and where it forks into a set
pub record Guide (t : Tables) (k : List ℕ) : Type 1 where
  pub AtWalk : ℕ → Arrays → Type 0
  pub AtVisit : ℕ → ℕ → Arrays → Type 0
  pub AtEnd : PacketSet → Arrays → Type 0
  pub enters : (w v : ℕ) (s a : Arrays) → AtWalk w a → Follows t w k is_field s 0 v → AtVisit 0 v a
  pub goes_on : (w r v x : ℕ) (s a : Arrays) (us : List Update) → AtVisit r v a → rank_at t r ≡ Some w → Holds t w s a → Visits t w k s r v x us → AtVisit (r + 1) x (after t k r s us a)
  pub ends : (w v : ℕ) (a : Arrays) (us : List Update) (os : List Parts) → AtVisit (ranks t) v a → row_at t w v ≡ Some (Last us os) → AtEnd (results os k) a

-- what a step at w makes of the copy before its fork, and of the arrays a
pub data Goes (t : Tables) (k : List ℕ) (g : Guide t k) (w : ℕ) (a s' : Arrays) : Action → Type 0 where
  sends : {q v x : ℕ} {a' : Arrays} → rank_at t q ≡ Some x → x ≢ w → g.AtVisit q v a' → Holds t w s' a' → IsElsewhere t w a a' → Goes t k g w a s' (Forward (next t w x) (Visit q v))
  forks : {set : PacketSet} {a' : Arrays} → g.AtEnd set a' → Holds t w s' a' → IsElsewhere t w a a' → Goes t k g w a s' (Fork (sent_of t set) (lost_of t set))

-- what a guide says of the copy's head before its fork
pub data Guided (t : Tables) (k : List ℕ) (g : Guide t k) : ℕ → Head → Arrays → Type 0 where
  walking : {w : ℕ} {a : Arrays} → g.AtWalk w a → Guided t k g w (Walk 0) a
  visiting : {w r v : ℕ} {a : Arrays} → g.AtVisit r v a → Guided t k g w (Visit r v) a

module _ (t : Tables) (two : IsTwo t) (k : List ℕ) (g : Guide t k) where
  further : {w : ℕ} {a0 a1 s' : Arrays} {d : Action} → IsElsewhere t w a0 a1 → Goes t k g w a1 s' d → Goes t k g w a0 s' d
  further far (sends own away at held more) = sends own away at held (λ q out. more q out ∙ far q out)
  further far (forks at held more) = forks at held (λ q out. more q out ∙ far q out)

  pub visit_goes : {w r v : ℕ} {s s' a : Arrays} {d : Action} → g.AtVisit r v a → Holds t w s a → Handles t w k s (Visit r v) s' d → Goes t k g w a s' d
  visit_goes at held (seeks own away) = sends own away at held (λ q out. refl)
  visit_goes {w = w} {r = r} {v = v} {s = s} {a = a} at held (visits {v = x} {us = us} own visit more rest) =
      further (far_on t k w r v x s a us own)
      (visit_goes (g.goes_on w r v x s a us at own held visit) (held_on t k w r v x s a us own held visit) rest)
  visit_goes {w = w} {r = r} {v = v} {s = s} {a = a} at held (concludes {v = x} {us = us} {ups = ups} {os = os} own visit last row) =
      forks
      (g.ends w x (after t k r s us a) ups os (subst (λ y. g.AtVisit y x (after t k r s us a)) last (g.goes_on w r v x s a us at own held visit)) row)
      (held_on t k w r v x s a us own held visit) (far_on t k w r v x s a us own)

  pub walk_goes : {w : ℕ} {s s' a : Arrays} {d : Action} → g.AtWalk w a → Holds t w s a → Handles t w k s (Walk 0) s' d → Goes t k g w a s' d
  walk_goes {w = w} {s = s} {a = a} at held does = by (walk_does t two does)
    where
      by : {s' : Arrays} {d : Action} → WalkDoes t w k s 0 s' d → Goes t k g w a s' d
      by (visits_first {v = v} some follow rest) = visit_goes (g.enters w v s a at follow) held rest
      by (forks_at_once {v = v} {us = us} {os = os} none follow row) =
          forks (g.ends w v a us os (subst (λ y. g.AtVisit y v a) (sym none) (g.enters w v s a at follow)) row) held (λ q out. refl)

  as_does : {w : ℕ} {s' a : Arrays} {d : Action} → Goes t k g w a s' d → Does t (standing t) (Guided t k g) g.AtEnd w a s' d
  as_does {w = w} {a = a} (sends {a' = a'} own away at held far) = trips.sends (visiting at) held (others (standing t) w a a' far)
  as_does {w = w} {a = a} (forks {a' = a'} at held far) = trips.splits at held (others (standing t) w a a' far)

  pub guided_does : {w : ℕ} {head : Head} {s s' a : Arrays} {d : Action} → Guided t k g w head a → Holds t w s a → Handles t w k s head s' d → Does t (standing t) (Guided t k g) g.AtEnd w a s' d
  guided_does (walking at) held does = as_does (walk_goes at held does)
  guided_does (visiting at) held does = as_does (visit_goes at held does)

  abbrev pub guided : Way t (standing t) k
  guided = record { Ahead = Guided t k g; IsOver = g.AtEnd; does = guided_does }

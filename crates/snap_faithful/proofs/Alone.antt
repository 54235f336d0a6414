-- Where all arrays stand at one switch, a copy that hasn't forked moves on, or does in one step all that the program does.
use Rattle.std.proofs.Common.{◌≡◌, ℕ, true, List, Some, refl, sym, subst, ◌∙◌, arith}
use Rattle.snap_core.specs.declared.policy.Pol.{Pol}
use Rattle.snap_core.specs.Arrays.{Arrays}
use Rattle.snap_core.specs.Inputs.{IsStore, IsPacket}
use Rattle.snap_core.specs.Meaning.{Meaning, eval}
use Rattle.snap_rows.specs.declared.tables.Tables.{Tables}
use Rattle.snap_rows.specs.Actions.{Action}
use Rattle.snap_rows.specs.declared.head.Head.{Head}
use Rattle.snap_rows.specs.declared.head.Head.TheVariants.{Walk, Visit}
use Rattle.snap_rows.specs.Entries.{rank_at, rank_of}
use Rattle.snap_rows.specs.Handles.{Handles, seeks, visits, concludes}
use Rattle.snap_rows.proofs.Later.{rank_is_below}
use Rattle.snap_faithful.proofs.Nodes.{WalkDoes, visits_first, forks_at_once, walk_does}
use Rattle.snap_faithful.proofs.Acting.{Means, IsAt}
use Rattle.snap_faithful.proofs.Guides.{Guide, standing, Holds, Goes, sends, forks, visit_goes}
use Rattle.snap_faithful.proofs.SingleOwnerRuns.{is_unforked, EarlyDoes, moves_on, does_all, Early}
use Rattle.snap_faithful.proofs.ByMeaning.{entered, IsMixed, by_meaning, ends}

-- all ranks have one owner
abbrev pub AllStandAt : Tables → ℕ → Type 0
AllStandAt t w = (r x : ℕ) → rank_at t r ≡ Some x → x ≡ w

-- a copy that enters, or stands before its first visit whatever the arrays
pub data IsEarly (t : Tables) (k : List ℕ) : Head → Type 0 where
  walking : IsEarly t k (Walk 0)
  visiting : {v : ℕ} → ((m : Arrays) → IsAt t k m 0 v) → IsEarly t k (Visit 0 v)

before_fork : (t : Tables) {k : List ℕ} {head : Head} → IsEarly t k head → is_unforked head ≡ true
before_fork t walking = refl
before_fork t (visiting at) = refl

module _ (p : Pol) (c n : ℕ) (order : List ℕ) (t : Tables) (means : Means p c n order t) (w0 : ℕ) (alone : AllStandAt t w0) where
  module _ (k : List ℕ) (m : Arrays) (o : Meaning) (store : IsStore m) (packet : IsPacket c k) (outcome : eval p m k ≡ Some o) where
    abbrev DoesAt : ℕ → Arrays → Arrays → Action → Type 0
    DoesAt w s s' a = EarlyDoes t (standing t) (IsEarly t k) m o w s s' a

    abbrev guide : Guide t k
    guide = by_meaning p c n order t means m k o store packet outcome

    at_start : {v : ℕ} → ((m : Arrays) → IsAt t k m 0 v) → IsAt t k m 0 v × IsMixed t m o 0 m
    at_start at = (at m, record { done = λ q l. absurd (omega (arith, l)); left = λ q l. refl })

    commit : {w : ℕ} {s s' : Arrays} {a : Action} → rank_at t 0 ≡ Some w → Goes t k guide w m s' a → DoesAt w s s' a
    commit {w = w} here (sends {x = x} own away at held far) = absurd (away (alone _ x own ∙ sym (alone 0 w here)))
    commit {w = w} here (forks {a' = a'} end held far) =
        does_all end.0 (λ q at. held q at ∙ end.1.stands w q at) (λ w' ne q stands. absurd (ne (alone (rank_of t q.var) w' stands ∙ sym (alone 0 w here))))

    at_visit : {w v : ℕ} {s s' : Arrays} {a : Action} → ((m : Arrays) → IsAt t k m 0 v) → Holds t w s m → Handles t w k s (Visit 0 v) s' a → DoesAt w s s' a
    at_visit at held (seeks own away) = moves_on refl (visiting at)
    at_visit at held (visits own visit more rest) = commit own (visit_goes t means.two k guide (at_start at) held (visits own visit more rest))
    at_visit at held (concludes own visit last row) = commit own (visit_goes t means.two k guide (at_start at) held (concludes own visit last row))

    at_walk : {w : ℕ} {s s' : Arrays} {a : Action} → Holds t w s m → WalkDoes t w k s 0 s' a → DoesAt w s s' a
    at_walk {w = w} {s = s} held (visits_first {v = v} some follow rest) = at_visit (entered t means.two k w v s follow) held rest
    at_walk {w = w} {s = s} held (forks_at_once {v = v} {us = us} {os = os} none follow row) =
        let at = at_start (entered t means.two k w v s follow) in
        let end = ends p c n order t means m k o store packet outcome w v m us os (subst (λ r. IsAt t k m r v × IsMixed t m o r m) (sym none) at) row in
        does_all end.0 (λ q at. held q at ∙ end.1.stands w q at) (λ w' ne q stands. (let b = rank_is_below t (rank_of t q.var) w' stands in absurd (omega (arith, b, none))))

    early_does : {w : ℕ} {head : Head} {s s' : Arrays} {a : Action} → IsEarly t k head → Holds t w s m → Handles t w k s head s' a → DoesAt w s s' a
    early_does walking held does = at_walk held (walk_does t means.two does)
    early_does (visiting at) held does = at_visit at held does

  pub early : Early p c t (standing t)
  early = record { IsEarly = IsEarly t; enters = λ k. walking; before = before_fork t; does = early_does }

-- What becomes of a copy in a step, where some visits are admitted.
use Rattle.std.specs.Prelude.{◌≡◌, ◌≢◌, ℕ, ◌+◌, ◌<◌, Bool, true, false, Option, Some, None, List, [], ◌∷◌, length, ◌==◌, if◌then◌else◌}
use Rattle.std.specs.List.{All}
use Rattle.snap_core.specs.declared.policy.Update.{Update}
use Rattle.snap_core.specs.Arrays.{Arrays, updates}
use Rattle.snap_core.specs.Fits.{UpdateReads}
use Rattle.snap_core.specs.Tests.{OutFits}
use Rattle.snap_rows.specs.Actions.{Action}
use Rattle.snap_rows.specs.Actions as action
use Rattle.snap_rows.specs.declared.head.Fate.{Fate}
use Rattle.snap_rows.specs.declared.head.Fate.TheVariants.{Seek, Deliver, Fork, Stay, Wait}
use Rattle.snap_rows.specs.declared.head.Head.{Head}
use Rattle.snap_rows.specs.declared.head.Sent.{Sent}
use Rattle.snap_rows.specs.declared.head.Head.TheVariants.{Walk, Out, Visit}
use Rattle.snap_rows.specs.declared.tables.Tables.{Tables}
use Rattle.snap_rows.specs.declared.tables.Row.TheVariants.{Last}
use Rattle.snap_rows.specs.Entries.{Parts, next, port_at, rank_at, ranks, row_at}
use Rattle.snap_rows.specs.Form.{comps, switch_count}
use Rattle.snap_rows.specs.Handles.{Follows, Handles, Visits, forked, is_field}
use Rattle.snap_rows.specs.Home.{AtHome}

-- the head comes to its visit of rank r at number n: so does a walk, once its field rows are passed
pub data ComesTo (t : Tables) (w : ℕ) (k : List ℕ) (m : Arrays) : Head → ℕ → ℕ → Type 0 where
  visit : {r n : ℕ} → ComesTo t w k m (Visit r n) r n
  walk : {n v : ℕ} → ranks t ≢ 0 → Follows t w k is_field m n v → ComesTo t w k m (Walk n) 0 v

-- the action that a fate is, where it is one of a step without order
abbrev pub ActsAs : Tables → (w : ℕ) → (k : List ℕ) → Fate → Action → Type 0
ActsAs t w k (Seek x h) a = a ≡ action.Forward (next t w x) h
ActsAs t w k (Deliver p) a = a ≡ action.Deliver p
ActsAs t w k (Fork outs) a = a ≡ forked t outs.now k
ActsAs t w k (Stay r n) a = ⊥
ActsAs t w k (Wait r) a = ⊥

-- these copies and this count of lost packets are what outs make of a packet
abbrev pub IsSpread : Tables → List Parts → List ℕ → List Sent → ℕ → Type 0
IsSpread t os k copies lost = action.Fork copies lost ≡ forked t os k

-- a packet on its way to a port, if it is for one, and how many are lost
abbrev pub sent_to : Option ℕ → List ℕ → List Sent
sent_to None k = []
sent_to (Some port) k = record { port = port; packet = k } ∷ []

abbrev pub lost_to : Option ℕ → ℕ
lost_to None = 1
lost_to (Some port) = 0

-- From rank r and number n on, a packet has made visits at switch w that were admitted, one after another; the next is of rank
-- q at number v.
pub data Visiting (t : Tables) (w : ℕ) (k : List ℕ) (may : ℕ → Bool) (m : Arrays) (r n : ℕ) : Arrays → ℕ → ℕ → Type 0 where
  none : Visiting t w k may m r n m r n
  more : {m' : Arrays} {q v x : ℕ} {us : List Update} → Visiting t w k may m r n m' q v
      → rank_at t q ≡ Some w → may q ≡ true → Visits t w k m' q v x us
      → Visiting t w k may m r n (updates m' us k) (q + 1) x

-- how visits from rank r on end, where the next is of rank q at number v
abbrev pub EndsVisits : Tables → ℕ → (ℕ → Bool) → (r q v : ℕ) → Fate → Type 0
EndsVisits t w may r q v (Seek x h) = (rank_at t q ≡ Some x) × (x ≢ w) × (h ≡ Visit q v)
EndsVisits t w may r q v (Deliver p) = ⊥
EndsVisits t w may r q v (Fork outs) = (r < q) × (q ≡ ranks t) × ((us : List Update) × (row_at t w v ≡ Some (Last us outs.now)))
EndsVisits t w may r q v (Stay q' v') = (r < q) × (rank_at t q ≡ Some w) × (may q ≡ false) × (q' ≡ q) × (v' ≡ v)
EndsVisits t w may r q v (Wait q') = (q ≡ r) × (rank_at t r ≡ Some w) × (may r ≡ false) × (q' ≡ r)

-- what becomes of a copy before its visit of rank q at number v that isn't admitted, after visits from rank r on
abbrev pub held_back : (r q v : ℕ) → Fate
held_back r q v = if q == r then Wait r else Stay q v

-- visits from rank r and number n on, and how they end
pub record HasVisited (t : Tables) (w : ℕ) (k : List ℕ) (may : ℕ → Bool) (m : Arrays) (r n : ℕ) (m' : Arrays) (f : Fate) : Type 0 where
  pub last : ℕ
  pub number : ℕ
  pub made : Visiting t w k may m r n m' last number
  pub ends : EndsVisits t w may r last number f

-- a copy with this head isn't at the owner of a rank for its visit
abbrev pub IsBeforeNone : Tables → ℕ → List ℕ → Head → Type 0
IsBeforeNone t w k h = t.version ≡ 2 → (m : Arrays) (r n : ℕ) → ComesTo t w k m h r n → rank_at t r ≢ Some w

-- what a step of a copy with this head does at switch w, where these visits are admitted
pub data Steps (t : Tables) (w : ℕ) (k : List ℕ) (may : ℕ → Bool) (m : Arrays) : Head → Arrays → Fate → Type 0 where
  -- before no visit there: what it does without order
  goes : {h : Head} {m' : Arrays} {f : Fate} {a : Action} → IsBeforeNone t w k h
      → ActsAs t w k f a → Handles t w k m h m' a → Steps t w k may m h m' f
  visits : {h : Head} {r n : ℕ} {m' : Arrays} {f : Fate} → t.version ≡ 2 → ComesTo t w k m h r n
      → rank_at t r ≡ Some w → HasVisited t w k may m r n m' f → Steps t w k may m h m' f

-- a head that says where it goes from switch w says this switch, another one
abbrev pub AimsAt : Tables → (w : ℕ) → Head → ℕ → Type 0
AimsAt t w (Out p) x = (port_at t p ≡ Some x) × (x ≢ w)
AimsAt t w (Visit r n) x = (rank_at t r ≡ Some x) × (x ≢ w)
AimsAt t w _ x = Unit {0}

-- the switch that is sought is one, which the head says if it says where it goes; outs fit
abbrev pub FateFits : Tables → (w : ℕ) → Fate → Type 0
FateFits t w (Seek x h) = (x < switch_count t) × AimsAt t w h x
FateFits t w (Fork outs) = All (OutFits (comps t)) outs.now
FateFits t w _ = Unit {0}

-- what goes on from switch w is at home at the next hop, and what stays is at home there
abbrev pub FateArrives : Tables → ℕ → Fate → Type 0
FateArrives t w (Seek x h) = AtHome t (next t w x) h
FateArrives t w (Stay r n) = AtHome t w (Visit r n)
FateArrives t w _ = Unit {0}

-- by the arrays m of switch w a step makes these updates, and this becomes of the copy
pub record StepsBy (t : Tables) (w : ℕ) (k : List ℕ) (may : ℕ → Bool) (m : Arrays) (h : Head) (us : List Update) (f : Fate) : Type 0 where
  pub steps : Steps t w k may m h (updates m us k) f
  pub reads : All (UpdateReads (length k)) us
  pub fits : FateFits t w f
  pub arrives : FateArrives t w f

-- the same of a step that makes no visits
pub record GoesBy (t : Tables) (w : ℕ) (k : List ℕ) (m : Arrays) (h : Head) (us : List Update) (f : Fate) : Type 0 where
  pub action : Action
  pub acts : ActsAs t w k f action
  pub handles : Handles t w k m h (updates m us k) action
  pub reads : All (UpdateReads (length k)) us
  pub fits : FateFits t w f

-- the same of visits
pub record VisitsBy (t : Tables) (w : ℕ) (k : List ℕ) (may : ℕ → Bool) (m : Arrays) (r n : ℕ) (us : List Update) (f : Fate) : Type 0 where
  pub visited : HasVisited t w k may m r n (updates m us k) f
  pub reads : All (UpdateReads (length k)) us
  pub arrives : FateArrives t w f

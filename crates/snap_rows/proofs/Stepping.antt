-- What steps come to: without order, at home, and with the switch's own arrays alone.
use Rattle.std.proofs.Common.{◌≡◌, ◌≢◌, ◌⊎◌, inl, inr, ⊎_elim, ℕ, ◌+◌, ◌<◌, Bool, true, Some, List, refl, sym, ap, subst, ◌∙◌, arith, Bor}
use Rattle.std.specs.List.{All}
use Rattle.std.proofs.lemmas.Bool.{false≢true}
use Rattle.snap_core.specs.declared.place.Place.{Place}
use Rattle.snap_core.specs.declared.policy.Update.{Update}
use Rattle.snap_core.specs.Arrays.{Arrays, updates}
use Rattle.snap_rows.specs.Actions.{Action}
use Rattle.snap_rows.specs.Actions as action
use Rattle.snap_rows.specs.declared.head.Fate.{Fate}
use Rattle.snap_rows.specs.declared.head.Fate.TheVariants.{Seek, Deliver, Fork, Stay, Wait}
use Rattle.snap_rows.specs.declared.head.Head.{Head}
use Rattle.snap_rows.specs.declared.head.Head.TheVariants.{Walk, Out, Visit}
use Rattle.snap_rows.specs.declared.tables.Tables.{Tables}
use Rattle.snap_rows.specs.Entries.{Parts, next, rank_at, rank_of, ranks}
use Rattle.snap_rows.specs.Form.{IsWellFormed, switch_count}
use Rattle.snap_rows.specs.Handles.{Handles, enters, seeks, concludes}
use Rattle.snap_rows.specs.Handles as handles
use Rattle.snap_rows.specs.Home.{AtHome, IsVisitAtHome}
use Rattle.snap_rows.specs.Rules.{IsValid}
use Rattle.snap_rows.specs.Steps.{AppendsVisit, Arrives}
use Rattle.snap_rows.specs.Stepping.{ActsAs, AimsAt, ComesTo, visit, walk, EndsVisits, FateArrives, FateFits, GoesBy, IsBeforeNone, Steps, goes, visits, StepsBy, Visiting, none, more, VisitsBy}
use Rattle.snap_rows.proofs.Arrives.{arrives, owner_below}
use Rattle.snap_rows.proofs.Later.{not_one, rank_is_below}
use Rattle.snap_rows.proofs.Own.{OwnOrSame, handles_own, then_own, updates_own, visit_own}
use Rattle.snap_rows.proofs.Plans.{last_outs_fit}
use Rattle.std.proofs.lemmas.Option.{same_Some}
use Rattle.snap_rows.proofs.Seen.{visits_later}

-- ---- without order
-- what follows visits that were made follows the first
handles_behind : {t : Tables} {w : ℕ} {k : List ℕ} {may : ℕ → Bool} {m : Arrays} {r n : ℕ} {m' : Arrays} {q v : ℕ} → Visiting t w k may m r n m' q v → q < ranks t → (m'' : Arrays) (a : Action) → Handles t w k m' (Visit q v) m'' a → Handles t w k m (Visit r n) m'' a
handles_behind none low m'' a h = h
handles_behind {t = t} {w = w} (more {q = q} before own may made) low m'' a h = handles_behind before (rank_is_below t q w own) m'' a (handles.visits own made low h)

-- where all visits are admitted
handles_visited : {t : Tables} {w : ℕ} {k : List ℕ} {may : ℕ → Bool} {m m' : Arrays} {r n q v : ℕ} (f : Fate) → ((j : ℕ) → may j ≡ true) → Visiting t w k may m r n m' q v → EndsVisits t w may r q v f
    → (a : Action) × ActsAs t w k f a × Handles t w k m (Visit r n) m' a
handles_visited {t = t} {w = w} {k = k} {m = m} {m' = m'} {r = r} {n = n} {q = q} {v = v} (Seek x h) all made ends =
    let seek : Handles t w k m' (Visit q v) m' (action.Forward (next t w x) (Visit q v)) = seeks ends.0 ends.1 in
    (_, refl, subst (λ h. Handles t w k m (Visit r n) m' (action.Forward (next t w x) h)) (sym ends.2) (handles_behind made (rank_is_below t q x ends.0) m' _ seek))
handles_visited (Deliver port) all made ends = absurd ends
handles_visited (Fork outs) all none ends = absurd (let low = ends.0 in omega (arith, low))
handles_visited {t = t} {w = w} (Fork outs) all (more {q = q} before own may made) ends = (_, refl, handles_behind before (rank_is_below t q w own) _ _ (concludes own made ends.1 ends.2.1))
handles_visited (Stay q' v') all made ends = absurd (false≢true (sym ends.2 ∙ all _))
handles_visited (Wait q') all made ends = absurd (false≢true (sym ends.2 ∙ all _))

-- a step where all visits are admitted is one without order
pub steps_plain : {t : Tables} {w : ℕ} {k : List ℕ} {may : ℕ → Bool} {m : Arrays} {h : Head} {m' : Arrays} {f : Fate} → Steps t w k may m h m' f → ((j : ℕ) → may j ≡ true) → (a : Action) × ActsAs t w k f a × Handles t w k m h m' a
steps_plain (goes {a = a} early acts does) all = (a, acts, does)
steps_plain (visits {f = f} two visit own visited) all = handles_visited f all visited.made visited.ends
steps_plain (visits {f = f} two (walk some way) own visited) all =
    let done = handles_visited f all visited.made visited.ends in
    (done.0, done.1, enters two some way done.2)

-- a fate is one action at most
acts_alone : (t : Tables) (w : ℕ) (k : List ℕ) (f : Fate) (a b : Action) → ActsAs t w k f a → ActsAs t w k f b → a ≡ b
acts_alone t w k (Seek x h) a b p q = p ∙ sym q
acts_alone t w k (Deliver port) a b p q = p ∙ sym q
acts_alone t w k (Fork outs) a b p q = p ∙ sym q
acts_alone t w k (Stay r n) a b p q = absurd p
acts_alone t w k (Wait r) a b p q = absurd p

-- and the action that it is follows from the fate
pub plain_does : {t : Tables} {w : ℕ} {k : List ℕ} {may : ℕ → Bool} {m : Arrays} {h : Head} {us : List Update} {f : Fate} {a : Action} → StepsBy t w k may m h us f → ((j : ℕ) → may j ≡ true) → ActsAs t w k f a → Handles t w k m h (updates m us k) a
plain_does {t = t} {w = w} {k = k} {m = m} {h = h} {us = us} {f = f} {a = a} made all acts =
    let plain = steps_plain made.steps all in
    subst (Handles t w k m h (updates m us k)) (acts_alone t w k f plain.0 a plain.1 acts) plain.2

-- ---- what visits come to
-- no visit was made, or the first one is due here
first_here : {t : Tables} {w : ℕ} {k : List ℕ} {may : ℕ → Bool} {m : Arrays} {r n : ℕ} {m' : Arrays} {q v : ℕ} → Visiting t w k may m r n m' q v → ((m' ≡ m) × (q ≡ r) × (v ≡ n)) ⊎ (rank_at t r ≡ Some w)
first_here none = inl (refl, refl, refl)
first_here {t = t} {w = w} (more before own may made) = ⊎_elim (λ same. inr (subst (λ j. rank_at t j ≡ Some w) same.1 own)) (λ here. inr here) (first_here before)

-- a head that comes to a visit at another switch is before none
before_none : {t : Tables} {w : ℕ} {k : List ℕ} {m : Arrays} {h : Head} {r n x : ℕ} → ComesTo t w k m h r n → rank_at t r ≡ Some x → x ≢ w → IsBeforeNone t w k h
before_none visit own away two m' r' n' visit here = away (same_Some _ _ (sym own ∙ here))
before_none (walk some way) own away two m' r' n' (walk some' way') here = away (same_Some _ _ (sym own ∙ here))

-- and it seeks that switch
seek_first : {t : Tables} {w : ℕ} {k : List ℕ} {m : Arrays} {h : Head} {r n x : ℕ} → t.version ≡ 2 → ComesTo t w k m h r n → rank_at t r ≡ Some x → x ≢ w → Handles t w k m h m (action.Forward (next t w x) (Visit r n))
seek_first two visit own away = seeks own away
seek_first two (walk some way) own away = enters two some way (seeks own away)

steps_sought : {t : Tables} {w : ℕ} {k : List ℕ} {may : ℕ → Bool} {m m' : Arrays} {h : Head} {r n q v x : ℕ} {h' : Head} → t.version ≡ 2 → ComesTo t w k m h r n → Visiting t w k may m r n m' q v → EndsVisits t w may r q v (Seek x h')
    → Steps t w k may m h m' (Seek x h')
steps_sought {t = t} {w = w} {k = k} {may = may} {m = m} {m' = m'} {h = h} {r = r} {n = n} {q = q} {v = v} {x = x} {h' = h'} two comes made ends = ⊎_elim (λ same. here same.0 same.1 same.2) (λ own. visits two comes own (record { last = q; number = v; made = made; ends = ends })) (first_here made)
  where
    here : m' ≡ m → q ≡ r → v ≡ n → Steps t w k may m h m' (Seek x h')
    here arrays rank number =
        let own : rank_at t r ≡ Some x = subst (λ j. rank_at t j ≡ Some x) rank ends.0 in
        let head : h' ≡ Visit r n = ends.2 ∙ ap (λ j. Visit j v) rank ∙ ap (Visit r) number in
        subst (λ y. Steps t w k may m h y (Seek x h')) (sym arrays) (goes (before_none comes own ends.1) (ap (action.Forward (next t w x)) (sym head)) (seek_first two comes own ends.1))

steps_ended : {t : Tables} {w : ℕ} {k : List ℕ} {may : ℕ → Bool} {m m' : Arrays} {h : Head} {r n q v : ℕ} (f : Fate) → t.version ≡ 2 → ComesTo t w k m h r n → Visiting t w k may m r n m' q v → EndsVisits t w may r q v f
    → Steps t w k may m h m' f
steps_ended (Seek x h) two comes made ends = steps_sought two comes made ends
steps_ended (Deliver port) two comes made ends = absurd ends
steps_ended {t = t} {w = w} {k = k} {may = may} {m = m} {m' = m'} {h = h} {r = r} {n = n} {q = q} {v = v} (Fork outs) two comes made ends =
    ⊎_elim (λ same. absurd (let low = ends.0 in let e = same.1 in omega (arith, low, e))) (λ own. visits two comes own (record { last = q; number = v; made = made; ends = ends })) (first_here made)
steps_ended {q = q} {v = v} (Stay q' v') two comes made ends =
    ⊎_elim (λ same. absurd (let low = ends.0 in let e = same.1 in omega (arith, low, e))) (λ own. visits two comes own (record { last = q; number = v; made = made; ends = ends })) (first_here made)
steps_ended {q = q} {v = v} (Wait q') two comes made ends = visits two comes ends.1 (record { last = q; number = v; made = made; ends = ends })

visited_fit : (t : Tables) (w : ℕ) (may : ℕ → Bool) (r q v : ℕ) (f : Fate) → IsWellFormed t → EndsVisits t w may r q v f → FateFits t w f
visited_fit t w may r q v (Seek x h) form ends = (owner_below t form q x ends.0, subst (λ h. AimsAt t w h x) (sym ends.2) (ends.0, ends.1))
visited_fit t w may r q v (Deliver port) form ends = tt
visited_fit t w may r q v (Fork outs) form ends = last_outs_fit t form w v ends.2.0 outs.now ends.2.1
visited_fit t w may r q v (Stay q' v') form ends = tt
visited_fit t w may r q v (Wait q') form ends = tt

-- visits of a copy whose head comes to the first of them are its step
pub steps_visited : {t : Tables} {w : ℕ} {k : List ℕ} {may : ℕ → Bool} {m : Arrays} {h : Head} {r n : ℕ} {us : List Update} {f : Fate} → IsWellFormed t → t.version ≡ 2 → ComesTo t w k m h r n → VisitsBy t w k may m r n us f → StepsBy t w k may m h us f
steps_visited {t = t} {w = w} {may = may} {r = r} {f = f} form two comes made = record {
  steps = steps_ended f two comes made.visited.made made.visited.ends;
  reads = made.reads;
  fits = visited_fit t w may r _ _ f form made.visited.ends;
  arrives = made.arrives;
}

-- one more visit, worked out on the arrays as they were
pub visiting_on : (t : Tables) → IsValid t → IsWellFormed t → t.version ≡ 2 → (w : ℕ) (k : List ℕ) (m : Arrays) {may : ℕ → Bool} {r0 n0 : ℕ} (r n v : ℕ) (before after : List Update) (home : IsVisitAtHome t r n) → home.owner ≡ w
    → All (λ (u : Update). rank_of t u.var < r) before → AppendsVisit t w k m r n v before after → may r ≡ true → Visiting t w k may m r0 n0 (updates m before k) r n → Visiting t w k may m r0 n0 (updates m after k) (r + 1) v
visiting_on t valid form two w k m {may = may} {r0 = r0} {n0 = n0} r n v before after home own below appends admitted made =
    let later = visits_later t valid form two w k m r n v before after home own below appends in
    subst (λ m'. Visiting t w k may m r0 n0 m' (r + 1) v) later.2 (more made (home.rank ∙ ap Some own) admitted later.1)

-- ---- what other steps come to
acts_arrive : (t : Tables) (w : ℕ) (k : List ℕ) (f : Fate) (a : Action) → ActsAs t w k f a → Arrives t k a → FateArrives t w f
acts_arrive t w k (Seek x h) a acts home = (subst (Arrives t k) acts home).1
acts_arrive t w k (Deliver port) a acts home = tt
acts_arrive t w k (Fork outs) a acts home = tt
acts_arrive t w k (Stay r n) a acts home = absurd acts
acts_arrive t w k (Wait r) a acts home = tt

pub steps_gone : {t : Tables} {w : ℕ} {k : List ℕ} {may : ℕ → Bool} {m : Arrays} {h : Head} {us : List Update} {f : Fate} → IsValid t → IsWellFormed t → w < switch_count t → AtHome t w h → IsBeforeNone t w k h → GoesBy t w k m h us f → StepsBy t w k may m h us f
steps_gone {t = t} {w = w} {k = k} {m = m} {h = h} {us = us} {f = f} valid form low home early made = record {
  steps = goes early made.acts made.handles;
  reads = made.reads;
  fits = made.fits;
  arrives = acts_arrive t w k f made.action made.acts (arrives t valid form w low k m h (updates m us k) made.action home made.handles);
}

-- heads that come to no visit
pub one_before_none : (t : Tables) (w : ℕ) (k : List ℕ) (h : Head) → t.version ≡ 1 → IsBeforeNone t w k h
one_before_none t w k h one two = absurd (not_one t two one)

-- a head that is that of a walk or a visit
abbrev IsWalkOrVisit : Head → Type 0
IsWalkOrVisit (Walk n) = Unit {0}
IsWalkOrVisit (Visit r n) = Unit {0}
IsWalkOrVisit _ = ⊥

comes_to : {t : Tables} {w : ℕ} {k : List ℕ} {m : Arrays} {h : Head} {r n : ℕ} → ComesTo t w k m h r n → IsWalkOrVisit h
comes_to visit = tt
comes_to (walk some way) = tt

pub out_before_none : (t : Tables) (w : ℕ) (k : List ℕ) (p : ℕ) → IsBeforeNone t w k (Out p)
out_before_none t w k p two m r n comes = absurd (comes_to comes)

pub unranked_before_none : (t : Tables) (w : ℕ) (k : List ℕ) (n : ℕ) → ranks t ≡ 0 → IsBeforeNone t w k (Walk n)
unranked_before_none t w k n unranked two m r v (walk some way) here = some unranked

-- a fork, after which nothing arrives
pub forks_gone : {t : Tables} {w : ℕ} {k : List ℕ} {may : ℕ → Bool} {m : Arrays} {h : Head} {us : List Update} {outs : Bor (List Parts)} → IsBeforeNone t w k h → GoesBy t w k m h us (Fork outs) → StepsBy t w k may m h us (Fork outs)
forks_gone early made = record { steps = goes early made.acts made.handles; reads = made.reads; fits = made.fits; arrives = tt }

-- ---- own arrays alone
visiting_own : {t : Tables} {w : ℕ} {k : List ℕ} {may : ℕ → Bool} {m : Arrays} {r n : ℕ} {m' : Arrays} {q v : ℕ} → IsValid t → IsWellFormed t → Visiting t w k may m r n m' q v → (p : Place) → OwnOrSame t w m m' p
visiting_own valid form none p = inr refl
visiting_own {t = t} {w = w} {k = k} {m = m} valid form (more {m' = m'} {us = us} before own may made) p =
    then_own t w m m' (updates m' us k) p (visiting_own valid form before p) (updates_own t w us m' k p (visit_own t valid form w k m' _ _ _ us own made))

-- a step changes arrays of its switch alone
pub steps_own : {t : Tables} {w : ℕ} {k : List ℕ} {may : ℕ → Bool} {m : Arrays} {h : Head} {m' : Arrays} {f : Fate} → IsValid t → IsWellFormed t → Steps t w k may m h m' f → (p : Place) → OwnOrSame t w m m' p
steps_own {t = t} {w = w} {k = k} {m = m} {h = h} {m' = m'} valid form (goes {a = a} early acts does) p = handles_own t valid form w k m h m' a does p
steps_own valid form (visits two comes own visited) p = visiting_own valid form visited.made p

-- The run that a schedule's lines tell is one.
use Rattle.std.proofs.Common.{◌≡◌, ◌⊎◌, ⊎_elim, ℕ, suc, ◌+◌, ◌≤◌, List, [], ◌∷◌, ◌++◌, Ok, Err, Some, length, refl, sym, ap, subst, ◌∙◌, inl, inr, arith}
use Rattle.std.specs.Prelude.{slice_index, Result}
use Rattle.std.specs.declared.option.Option.{Option}
use Rattle.snap_core.specs.Arrays.{zero_arrays}
use Rattle.snap_rows.specs.declared.tables.Tables.{Tables}
use Rattle.snap_rows.specs.Form.{IsWellFormed}
use Rattle.snap_rows.specs.Network.{Net, Event, Inject, Step, Happening, Leads, RunsBy, on, start}
use Rattle.snap_rows.proofs.Runs.{LeadsOneWay, StepsCopies, runs-cut, runs-one}
use Rattle.snap_report.specs.declared.fault.TraceFault.TheVariants as trace
use Rattle.snap_report.specs.Spelled.{ended, refused}
use Rattle.snap_runs.specs.declared.frames.Frames.TheVariants.{Plain}
use Rattle.snap_runs.specs.declared.event.Instruction.{Instruction}
use Rattle.snap_runs.specs.declared.event.Instruction.TheVariants as order
use Rattle.snap_runs.specs.declared.schedule.ScheduleFault.{ScheduleFault}
use Rattle.snap_runs.specs.declared.schedule.ScheduleFault.TheVariants.{Packets, Read, TooLong, Line, Write, NoMemory}
use Rattle.snap_runs.specs.Laws.{RefusedLinesAreOne, RefusedLinesAreTold, ReportedOrRefused, ScheduleReportsAreOne, ScheduledRunsAreOne}
use Rattle.snap_runs.specs.Plain.{spelled_for}
use Rattle.snap_runs.specs.Reports.{IsRunReport}
use Rattle.snap_runs.specs.Schedules.{AreBothRead, CantBeDone, EndsEarlyBy, IsScheduleReport, Obeys, ObeysBy, RefusesLine, Spells, StopsAtBy, TellsOfLine, WritesScheduleBy, nothing, skips, injects, steps, lines_of, order_by}
use Rattle.snap_runs.proofs.OneReport.{reports_one}
use Rattle.snap_runs.proofs.OneRun.{leads_one, steps_copies}

-- ---- events
-- lines spell events in one way
spells_one : {lines ks left left' : List (List ℕ)} {es es' : List Event} → Spells lines ks es left → Spells lines ks es' left' → (es ≡ es') × (left ≡ left')
spells_one nothing nothing = (refl, refl)
spells_one (skips e n) (skips f m) = spells_one n m
spells_one (skips e n) (injects f m) = absurd (let apart : Some order.Skip ≡ Some order.Inject = sym e ∙ f in cc)
spells_one (skips e n) (steps {i = j} f m) = absurd (let apart : Some order.Skip ≡ Some (order.Step j) = sym e ∙ f in cc)
spells_one (injects e n) (skips f m) = absurd (let apart : Some order.Inject ≡ Some order.Skip = sym e ∙ f in cc)
spells_one (injects {k = k} e n) (injects f m) = let more = spells_one n m in (ap (λ es. Inject (slice_index k 0) k ∷ es) more.0, more.1)
spells_one (injects e n) (steps {i = j} f m) = absurd (let apart : Some order.Inject ≡ Some (order.Step j) = sym e ∙ f in cc)
spells_one (steps {i = i} e n) (skips f m) = absurd (let apart : Some (order.Step i) ≡ Some order.Skip = sym e ∙ f in cc)
spells_one (steps {i = i} e n) (injects f m) = absurd (let apart : Some (order.Step i) ≡ Some order.Inject = sym e ∙ f in cc)
spells_one (steps {i = i} e n) (steps {i = j} f m) =
    let more = spells_one n m in
    let same : Some (order.Step i) ≡ Some (order.Step j) = sym e ∙ f in
    let place : i ≡ j = cc in
    ((λ x. Step (place x) ∷ more.0 x), more.1)

-- lines are spelled one behind another
spells-cut : (before rest : List (List ℕ)) {ks left : List (List ℕ)} {es : List Event} → Spells (before ++ rest) ks es left
    → (fs gs : List Event) × (mid : List (List ℕ)) × Spells before ks fs mid × Spells rest mid gs left × (es ≡ fs ++ gs)
spells-cut [] rest {ks = ks} {es = es} n = ([], es, ks, nothing, n, refl)
spells-cut (line ∷ before) rest (skips e n) = let r = spells-cut before rest n in (r.0, r.1, r.2, skips e r.3, r.4, r.5)
spells-cut (line ∷ before) rest (injects {k = k} e n) = let r = spells-cut before rest n in (Inject (slice_index k 0) k ∷ r.0, r.1, r.2, injects e r.3, r.4, ap (λ l. Inject (slice_index k 0) k ∷ l) r.5)
spells-cut (line ∷ before) rest (steps {i = i} e n) = let r = spells-cut before rest n in (Step i ∷ r.0, r.1, r.2, steps e r.3, r.4, ap (λ l. Step i ∷ l) r.5)

-- ---- the line that is refused
-- two places in a list are one, or the one stands behind the other
module _ {X : Type 0} where
  abbrev pub Sides : (a : List X) → X → (b : List X) → X → Type 0
  Sides a x b y = (length a ≡ length b) ⊎ (((r : List X) × (b ≡ a ++ x ∷ r)) ⊎ ((r : List X) × (a ≡ b ++ y ∷ r)))

  sides-cons : (c d x y : X) (a b : List X) → c ≡ d → Sides a x b y → Sides (c ∷ a) x (d ∷ b) y
  sides-cons c d x y a b same (inl e) = inl (ap suc e)
  sides-cons c d x y a b same (inr (inl (r, e))) = inr (inl (r, λ i. sym same i ∷ e i))
  sides-cons c d x y a b same (inr (inr (r, e))) = inr (inr (r, λ i. same i ∷ e i))

  pub sides : (a : List X) (x : X) (xs b : List X) (y : X) (ys : List X) → a ++ x ∷ xs ≡ b ++ y ∷ ys → Sides a x b y
  sides [] x xs [] y ys e = inl refl
  sides [] x xs (d ∷ b) y ys e = let first : d ≡ x = cc in inr (inl (b, λ i. first i ∷ b))
  sides (c ∷ a) x xs [] y ys e = let first : c ≡ y = cc in inr (inr (a, λ i. first i ∷ a))
  sides (c ∷ a) x xs (d ∷ b) y ys e = sides-cons c d x y a b (cc) (sides a x xs b y ys (cc))

module _ {S L : Type 0} (net : S → Net) (leads : S → Event → S → List L → Type 0) (begin : S) (one : LeadsOneWay leads) (copies : StepsCopies leads net) where
  -- the run that lines tell is one
  pub obeys-one : (ks lines left left' : List (List ℕ)) (s s' : S) (hs hs' : List L) → ObeysBy leads begin ks lines left s hs → ObeysBy leads begin ks lines left' s' hs' → (left ≡ left') × (s ≡ s') × (hs ≡ hs')
  obeys-one ks lines left left' s s' hs hs' a b =
      let told = spells_one a.spells b.spells in
      let ran = runs-one leads one a.run (subst (λ es. RunsBy leads begin es s' hs') (sym told.0) b.run) in
      (told.1, ran.0, ran.1)

  -- what a line orders was done, so it could be
  was_done : {line : List ℕ} {lines ks left : List (List ℕ)} {es : List Event} {s n : S} {hs : List L} → Spells (line ∷ lines) ks es left → RunsBy leads s es n hs → CantBeDone (order_by line) ks (net s) → ⊥
  was_done {ks = ks} {s = s} (skips e n) ran cant = subst (λ (o : Option Instruction). CantBeDone o ks (net s)) e cant
  was_done {s = s} (injects {k = k} {ks = ks} e n) ran cant = let none : k ∷ ks ≡ [] = subst (λ (o : Option Instruction). CantBeDone o (k ∷ ks) (net s)) e cant in cc
  was_done {ks = ks} {s = s} (steps {i = i} e n) (on {s' = s'} {h = h} goes more) cant =
      let past : length (net s).flying ≤ i = subst (λ (o : Option Instruction). CantBeDone o ks (net s)) e cant in
      let there = copies s s' i h goes in omega (arith, past, there)

  -- a run of more lines has done each of the first ones
  stuck_stays : (ks before rest : List (List ℕ)) (line : List ℕ) (left mid : List (List ℕ)) (s m : S) (hs gs : List L)
      → ObeysBy leads begin ks (before ++ line ∷ rest) left s hs → ObeysBy leads begin ks before mid m gs → CantBeDone (order_by line) mid (net m) → ⊥
  stuck_stays ks before rest line left mid s m hs gs all first cant =
      let told = spells-cut before (line ∷ rest) all.spells in
      let ran = runs-cut told.0 told.1 (subst (λ es. RunsBy leads begin es s hs) told.5 all.run) in
      let same = obeys-one ks before mid told.2 m ran.0 gs ran.1 first (record { events = told.0; spells = told.3; run = ran.3 }) in
      was_done told.4 ran.4 (subst (λ x. CantBeDone (order_by line) told.2 (net x)) same.1 (subst (λ x. CantBeDone (order_by line) x (net m)) same.0 cant))

  module _ (ks lines : List (List ℕ)) where
    abbrev pub Stops : ℕ → Type 0
    Stops n = StopsAtBy net leads begin ks lines n

    abbrev pub Refuses : ℕ → Type 0
    Refuses n = StopsAtBy net leads begin ks lines n ⊎ EndsEarlyBy net leads begin ks lines n

    -- no run goes on behind a line that can't be done
    no_further : (n : ℕ) (a : Stops n) (left : List (List ℕ)) (s : S) (hs : List L) → ObeysBy leads begin ks lines left s hs → ⊥
    no_further n a left s hs all = stuck_stays ks a.before a.behind a.line left a.left s a.state hs a.told (subst (λ l. ObeysBy leads begin ks l left s hs) a.are all) a.obeys a.stuck

    behind : (m n : ℕ) (a : Stops m) (b : Stops n) (r : List (List ℕ)) → b.before ≡ a.before ++ a.line ∷ r → ⊥
    behind m n a b r is = stuck_stays ks a.before r a.line b.left a.left b.state a.state b.told a.told (subst (λ l. ObeysBy leads begin ks l b.left b.state b.told) is b.obeys) a.obeys a.stuck

    stops_one : (m n : ℕ) (a : Stops m) (b : Stops n) → Sides a.before a.line b.before b.line → m ≡ n
    stops_one m n a b (inl e) = a.is ∙ ap (λ x. x + 1) e ∙ sym b.is
    stops_one m n a b (inr (inl (r, e))) = absurd (behind m n a b r e)
    stops_one m n a b (inr (inr (r, e))) = absurd (behind n m b a r e)

    pub refused-one : (m n : ℕ) → Refuses m → Refuses n → m ≡ n
    refused-one m n (inl a) (inl b) = stops_one m n a b (sides a.before a.line a.behind b.before b.line b.behind (sym a.are ∙ b.are))
    refused-one m n (inl a) (inr b) = absurd (no_further m a b.left b.state b.told b.obeys)
    refused-one m n (inr a) (inl b) = absurd (no_further n b a.left a.state a.told a.obeys)
    refused-one m n (inr a) (inr b) = a.is ∙ sym b.is

    -- lines that can be done to an end are refused nowhere
    pub ended-or-refused : (s : S) (hs : List L) → ObeysBy leads begin ks lines [] s hs → (net s).flying ≡ [] → (n : ℕ) → Refuses n → ⊥
    ended-or-refused s hs all rests n (inl a) = no_further n a [] s hs all
    ended-or-refused s hs all rests n (inr b) =
        let same = obeys-one ks lines [] b.left s b.state hs b.told all b.obeys in
        ⊎_elim (λ some. some (sym same.0)) (λ some. some (ap (λ (x : S). (net x).flying) (sym same.1) ∙ rests)) b.some

-- a call that writes a report tells of the line that is refused, and of no other
module _ (Reports : List ℕ → Type 0) (Refuses : ℕ → Type 0) (one : (a b : ℕ) → Refuses a → Refuses b → a ≡ b) (apart : (text : List ℕ) → Reports text → (number : ℕ) → Refuses number → ⊥) (t : Tables) (file schedule : List ℕ) where
  pub refused-told : (result : Result (Unit {0}) ScheduleFault) (old new : Option (List ℕ))
      → WritesScheduleBy (λ text. AreBothRead t file schedule × Reports text) (λ line. AreBothRead t file schedule × Refuses line) t file schedule result old new
      → (number : ℕ) → AreBothRead t file schedule × Refuses number → TellsOfLine result number
  refused-told (Ok u) old new w number r = apart w.0 w.1.1 number r.1
  refused-told (Err Write) old new w number r = apart w.0 w.1.1 number r.1
  refused-told (Err (Line line)) old new w number r = one line number w.1.1 r.1
  refused-told (Err TooLong) old new w number r = let long = w.2 in let few = r.0.1 in omega (arith, long, few)
  refused-told (Err (Packets trace.Read)) old new w number r = inl refl
  refused-told (Err (Packets trace.NoMemory)) old new w number r = inr refl
  refused-told (Err (Packets (trace.Limit which count))) old new w number r = absurd (let other : refused (trace.Limit which count) ≡ ended = sym w.1 ∙ r.0.0 in cc)
  refused-told (Err (Packets (trace.Packets line))) old new w number r = absurd (let other : refused (trace.Packets line) ≡ ended = sym w.1 ∙ r.0.0 in cc)
  refused-told (Err (Packets trace.Write)) old new w number r = absurd w.1
  refused-told (Err (Packets (trace.Undefined packet))) old new w number r = absurd w.1
  refused-told (Err Read) old new w number r = tt
  refused-told (Err NoMemory) old new w number r = tt

-- ---- the network's
pub obeys_one : ScheduledRunsAreOne
obeys_one t form = obeys-one (λ (s : Net). s) (Leads t) (start t zero_arrays) (leads_one t form) (steps_copies t)

pub refused_one : RefusedLinesAreOne
refused_one t form = refused-one (λ (s : Net). s) (Leads t) (start t zero_arrays) (leads_one t form) (steps_copies t)

pub ended_or_refused : (t : Tables) → IsWellFormed t → (ks lines : List (List ℕ)) (s : Net) (hs : List Happening) → Obeys t ks lines [] s hs → s.flying ≡ [] → (number : ℕ) → RefusesLine t ks lines number → ⊥
ended_or_refused t form = ended-or-refused (λ (s : Net). s) (Leads t) (start t zero_arrays) (leads_one t form) (steps_copies t)

pub reported_or_refused : ReportedOrRefused
reported_or_refused t form hops ks lines text number x y = ended_or_refused t form ks lines x.state x.happenings x.obeys x.ended number y

pub reported_one : ScheduleReportsAreOne
reported_one t form hops ks lines a b x y =
    let same = obeys_one t form ks lines [] [] x.state y.state x.happenings y.happenings x.obeys y.obeys in
    reports_one Plain t hops (length ks) x.state x.happenings a b x.report
    (subst (λ hs. IsRunReport t hops (length ks) x.state hs b) (sym same.2) (subst (λ s. IsRunReport t hops (length ks) s y.happenings b) (sym same.1) y.report))

pub refused_lines_told : RefusedLinesAreTold
refused_lines_told t form hops file schedule =
    let ks = (spelled_for t file).packets in
    let lines = lines_of schedule in
    refused-told (IsScheduleReport t hops ks lines) (RefusesLine t ks lines) (refused_one t form ks lines) (λ text x number y. reported_or_refused t form hops ks lines text number x y) t file schedule

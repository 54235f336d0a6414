-- Runs of events, whatever they lead through: one behind another, cut in two, and one where each event leads one way.
use Rattle.std.proofs.Common.{◌≡◌, ◌⊎◌, ⊎_elim, inl, inr, ℕ, ◌+◌, ◌<◌, List, [], ◌∷◌, ◌++◌, length, refl, sym, ap, subst, ◌∙◌, arith, append_assoc, append-nil}
use Rattle.std.specs.List.{All}
use Rattle.std.proofs.lemmas.List.Elements.{All-append, All-head, All-nil, All-tail}
use Rattle.snap_rows.specs.Network.{Net, Event, Inject, Step, RunsBy, done, on, RunsSequentiallyBy, rests, injects, steps, IsPlainRunBy, packets_of, StepsFirst}

module _ {S E L : Type 0} {leads : S → E → S → List L → Type 0} where
  -- one run behind another
  pub runs-behind : {s s' s'' : S} {es fs : List E} {hs gs : List L} → RunsBy leads s es s' hs → RunsBy leads s' fs s'' gs → RunsBy leads s (es ++ fs) s'' (hs ++ gs)
  runs-behind done more = more
  runs-behind {s'' = s''} {fs = fs} {gs = gs} (on {s = s} {e = e} {es = es} {h = h} {hs = hs} first rest) more =
      subst (RunsBy leads s (e ∷ (es ++ fs)) s'') (sym (append_assoc h hs gs)) (on first (runs-behind rest more))

  -- a run, and one event more
  pub runs-then : {s s' : S} {es : List E} {hs : List L} (e : E) (s'' : S) (h : List L) → RunsBy leads s es s' hs → leads s' e s'' h → RunsBy leads s (es ++ e ∷ []) s'' (hs ++ h)
  runs-then {s = s} {es = es} {hs = hs} e s'' h run last = subst (λ l. RunsBy leads s (es ++ e ∷ []) s'' (hs ++ l)) (append-nil h) (runs-behind run (on last done))

  -- a run of more events has done the first ones
  pub runs-cut : (fs gs : List E) {s n : S} {hs : List L} → RunsBy leads s (fs ++ gs) n hs → (m : S) × (hs1 hs2 : List L) × RunsBy leads s fs m hs1 × RunsBy leads m gs n hs2
  runs-cut [] gs {s = s} {hs = hs} run = (s, [], hs, done, run)
  runs-cut (f ∷ fs) gs (on {h = h} first more) = let r = runs-cut fs gs more in (r.0, h ++ r.1, r.2, on first r.3, r.4)

  -- what each event keeps, runs keep
  pub runs-keep : (Keeps : S → Type 0) {s s' : S} {es : List E} {hs : List L} → RunsBy leads s es s' hs → ((s s' : S) (e : E) (h : List L) → leads s e s' h → Keeps s → Keeps s') → Keeps s → Keeps s'
  runs-keep Keeps done keeps kept = kept
  runs-keep Keeps (on {s = s} {s' = s'} {e = e} {h = h} first more) keeps kept = runs-keep Keeps more keeps (keeps s s' e h first kept)

  -- and of what is told by each, all that runs tell has this
  pub runs-tell : (Keeps : S → Type 0) (P : L → Type 0) {s s' : S} {es : List E} {hs : List L} → RunsBy leads s es s' hs → ((s s' : S) (e : E) (h : List L) → leads s e s' h → Keeps s → Keeps s' × All P h) → Keeps s → Keeps s' × All P hs
  runs-tell Keeps P done tells kept = (kept, All-nil P)
  runs-tell Keeps P (on {s = s} {s' = s'} {e = e} {h = h} {hs = hs} first more) tells kept =
      let here = tells s s' e h first kept in
      let rest = runs-tell Keeps P more tells here.0 in
      (rest.0, All-append P h hs here.1 rest.1)

-- sequential runs are runs
pub sequential-run : {S L : Type 0} {net : S → Net} {leads : S → Event → S → List L → Type 0} {s s' : S} {es : List Event} {hs : List L} → RunsSequentiallyBy net leads s es s' hs → RunsBy leads s es s' hs
sequential-run rests = done
sequential-run (injects sequential first more) = on first (sequential-run more)
sequential-run (steps first more) = on first (sequential-run more)

-- each injection is counted
module _ {S L : Type 0} (net : S → Net) (leads : S → Event → S → List L → Type 0) (counted : (s s' : S) (e : Event) (h : List L) → leads s e s' h → (net s').injected ≡ (net s).injected + length (packets_of (e ∷ []))) where
  pub runs-count : {s s' : S} {es : List Event} {hs : List L} → RunsBy leads s es s' hs → (net s').injected ≡ (net s).injected + length (packets_of es)
  runs-count done = omega arith
  runs-count (on {s = s} {s' = s'} {e = Inject port k} {h = h} first rest) = let f = counted s s' (Inject port k) h first in let g = runs-count rest in omega (arith, f, g)
  runs-count (on {s = s} {s' = s'} {e = Step i} {h = h} first rest) = let f = counted s s' (Step i) h first in let g = runs-count rest in omega (arith, f, g)

-- ---- runs are one
module _ {S E L : Type 0} (leads : S → E → S → List L → Type 0) where
  -- an event leads one way
  abbrev pub LeadsOneWay : Type 0
  LeadsOneWay = (s : S) (e : E) (n n' : S) (h h' : List L) → leads s e n h → leads s e n' h' → (n ≡ n') × (h ≡ h')

  pub runs-one : LeadsOneWay → {s n n' : S} {es : List E} {hs hs' : List L} → RunsBy leads s es n hs → RunsBy leads s es n' hs' → (n ≡ n') × (hs ≡ hs')
  runs-one one done done = (refl, refl)
  runs-one one {n' = n'} (on {s = s} {s' = s1} {e = e} {es = es} {h = h} first more) (on {s' = s2} {h = h'} {hs = hs'} first' more') =
      let same = one s e s1 s2 h h' first first' in
      let rest = runs-one one more (subst (λ x. RunsBy leads x es n' hs') (sym same.0) more') in
      (rest.0, λ i. same.1 i ++ rest.1 i)

  -- from each state that they keep to there is one event at most, and it leads one way
  abbrev pub GoesOneWay : (Keeps : S → Type 0) → Type 0
  GoesOneWay Keeps = (s : S) (e e' : E) (n n' : S) (h h' : List L) → Keeps s → leads s e n h → leads s e' n' h' → (e ≡ e') × (n ≡ n') × (h ≡ h') × Keeps n

  -- a run from one end goes on to another, and tells what is more
  abbrev pub GoesOn : (es es' : List E) → (n n' : S) → (hs hs' : List L) → Type 0
  GoesOn es es' n n' hs hs' = (fs : List E) × (gs : List L) × RunsBy leads n fs n' gs × (es' ≡ es ++ fs) × (hs' ≡ hs ++ gs)

  -- so of two runs one goes on where the other ends
  pub runs-on : (Keeps : S → Type 0) → GoesOneWay Keeps → {s n n' : S} {es es' : List E} {hs hs' : List L} → Keeps s → RunsBy leads s es n hs → RunsBy leads s es' n' hs' → GoesOn es es' n n' hs hs' ⊎ GoesOn es' es n' n hs' hs
  runs-on Keeps one {es' = es'} {hs' = hs'} kept done more = inl (es', hs', more, refl, refl)
  runs-on Keeps one {es = es} {hs = hs} kept more done = inr (es, hs, more, refl, refl)
  runs-on Keeps one {n' = n'} kept (on {s = s} {s' = s1} {e = e} {es = es} {h = h} {hs = hs} first more) (on {s' = s2} {e = e'} {es = es'} {h = h'} {hs = hs'} first' more') =
      let same = one s e e' s1 s2 h h' kept first first' in
      ⊎_elim
      (λ x. inl (x.0, x.1, x.2, (λ i. sym same.0 i ∷ x.3 i), ap (λ y. y ++ hs') (sym same.2) ∙ ap (λ y. h ++ y) x.4 ∙ sym (append_assoc h hs x.1)))
      (λ x. inr (x.0, x.1, x.2, (λ i. same.0 i ∷ x.3 i), ap (λ y. y ++ hs) same.2 ∙ ap (λ y. h' ++ y) x.4 ∙ sym (append_assoc h' hs' x.1)))
      (runs-on Keeps one same.3 more (subst (λ x. RunsBy leads x es' n' hs') (sym same.1) more'))

  -- nothing can happen
  abbrev pub IsEnd : S → Type 0
  IsEnd s = (e : E) (n : S) (h : List L) → leads s e n h → ⊥

  pub none-on : {n n' : S} {fs : List E} {gs : List L} → IsEnd n → RunsBy leads n fs n' gs → (fs ≡ []) × (n ≡ n') × (gs ≡ [])
  none-on end done = (refl, refl, refl)
  none-on end (on {s' = s'} {e = e} {h = h} first more) = absurd (end e s' h first)

  -- and runs to an end are one
  pub runs-end : (Keeps : S → Type 0) → GoesOneWay Keeps → {s n n' : S} {es es' : List E} {hs hs' : List L} → Keeps s → RunsBy leads s es n hs → RunsBy leads s es' n' hs' → IsEnd n → IsEnd n' → (es ≡ es') × (n ≡ n') × (hs ≡ hs')
  runs-end Keeps one {es = es} {es' = es'} {hs = hs} {hs' = hs'} kept a b end end' =
      ⊎_elim
      (λ x. (let none = none-on end x.2 in (sym (x.3 ∙ ap (λ l. es ++ l) none.0 ∙ append-nil es), none.1, sym (x.4 ∙ ap (λ l. hs ++ l) none.2 ∙ append-nil hs))))
      (λ x. (let none = none-on end' x.2 in (x.3 ∙ ap (λ l. es' ++ l) none.0 ∙ append-nil es', sym none.1, x.4 ∙ ap (λ l. hs' ++ l) none.2 ∙ append-nil hs')))
      (runs-on Keeps one kept a b)

module _ {S L : Type 0} (leads : S → Event → S → List L → Type 0) where
  -- a step is of a copy in flight
  abbrev pub StepsCopies : (S → Net) → Type 0
  StepsCopies net = (s n : S) (i : ℕ) (h : List L) → leads s (Step i) n h → i < length (net s).flying

  module _ (net : S → Net) (one : LeadsOneWay leads) (copies : StepsCopies net) where
    needs_copy : {s n : S} {j : ℕ} {h : List L} → (net s).flying ≡ [] → leads s (Step j) n h → ⊥
    needs_copy {s = s} {n = n} {j = j} {h = h} none goes = let there = copies s n j h goes in let long : length (net s).flying ≡ 0 = ap length none in omega (arith, there, long)

    -- so is the sequential run to an end of the same packets
    pub sequential-one : (es es' : List Event) {s n n' : S} {hs hs' : List L} → packets_of es ≡ packets_of es' → All StepsFirst es → All StepsFirst es' → (net n).flying ≡ [] → (net n').flying ≡ []
        → RunsSequentiallyBy net leads s es n hs → RunsSequentiallyBy net leads s es' n' hs' → (es ≡ es') × (n ≡ n') × (hs ≡ hs')
    sequential-one es es' packets first first' last last' rests rests = (refl, refl, refl)
    sequential-one es es' packets first first' last last' rests (injects {port = port} {k = k} {es = es2} sequential enters more) =
        let apart : ◌≡◌ {A = List (ℕ × List ℕ)} [] ((port, k) ∷ packets_of es2) = packets in absurd (cc)
    sequential-one es es' packets first first' last last' rests (steps goes more) = absurd (needs_copy last goes)
    sequential-one es es' packets first first' last last' (injects {port = port} {k = k} {es = es1} sequential enters more) rests =
        let apart : ◌≡◌ {A = List (ℕ × List ℕ)} ((port, k) ∷ packets_of es1) [] = packets in absurd (cc)
    sequential-one es es' {n' = n'} packets first first' last last' (injects {s = s} {s' = s1} {port = port} {k = k} {es = es1} {h = h1} sequential enters more) (injects {s' = s2} {port = port'} {k = k'} {es = es2} {h = h2} {hs = hs2} sequential' enters' more') =
        let packets' : ◌≡◌ {A = List (ℕ × List ℕ)} ((port, k) ∷ packets_of es1) ((port', k') ∷ packets_of es2) = packets in
        let entered : ◌≡◌ {A = ℕ × List ℕ} (port, k) (port', k') = cc in
        let event : Inject port k ≡ Inject port' k' = ap (λ (e : ℕ × List ℕ). Inject e.0 e.1) entered in
        let tails : packets_of es1 ≡ packets_of es2 = cc in
        let same = one s (Inject port k) s1 s2 h1 h2 enters (subst (λ e. leads s e s2 h2) (sym event) enters') in
        let rest = sequential-one es1 es2 tails (All-tail StepsFirst (Inject port k) es1 first) (All-tail StepsFirst (Inject port' k') es2 first') last last' more (subst (λ x. RunsSequentiallyBy net leads x es2 n' hs2) (sym same.0) more') in
        (λ i. event i ∷ rest.0 i, rest.1, λ i. same.1 i ++ rest.2 i)
    sequential-one es es' packets first first' last last' (injects sequential enters more) (steps goes more') = absurd (needs_copy sequential goes)
    sequential-one es es' packets first first' last last' (steps goes more) rests = absurd (needs_copy last' goes)
    sequential-one es es' packets first first' last last' (steps goes more) (injects sequential enters more') = absurd (needs_copy sequential goes)
    sequential-one es es' {n' = n'} packets first first' last last' (steps {s = s} {s' = s1} {i = i} {es = es1} {h = h1} goes more) (steps {s' = s2} {i = i'} {es = es2} {h = h2} {hs = hs2} goes' more') =
        let event : Step i ≡ Step i' = ap Step (All-head StepsFirst (Step i) es1 first ∙ sym (All-head StepsFirst (Step i') es2 first')) in
        let same = one s (Step i) s1 s2 h1 h2 goes (subst (λ e. leads s e s2 h2) (sym event) goes') in
        let rest = sequential-one es1 es2 packets (All-tail StepsFirst (Step i) es1 first) (All-tail StepsFirst (Step i') es2 first') last last' more (subst (λ x. RunsSequentiallyBy net leads x es2 n' hs2) (sym same.0) more') in
        (λ j. event j ∷ rest.0 j, rest.1, λ j. same.1 j ++ rest.2 j)

    pub plain-one : {begin s s' : S} {ks : List (ℕ × List ℕ)} {es es' : List Event} {hs hs' : List L} → IsPlainRunBy net leads begin ks es s hs → IsPlainRunBy net leads begin ks es' s' hs' → (es ≡ es') × (s ≡ s') × (hs ≡ hs')
    plain-one {es = es} {es' = es'} a b = sequential-one es es' (a.packets ∙ sym b.packets) a.first b.first a.ended b.ended a.run b.run

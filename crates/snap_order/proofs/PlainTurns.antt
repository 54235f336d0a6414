-- A plain run is one in order: each step can be made in order, and leads where it leads without order.
use Rattle.std.proofs.Common.{◌≡◌, ◌⊎◌, inl, inr, ℕ, ◌+◌, List, [], ◌++◌, length, refl, sym, ap, subst, ◌∙◌, arith}
use Rattle.std.specs.List.{All}
use Rattle.std.proofs.lemmas.List.Elements.{All-head, All-tail}
use Rattle.snap_rows.specs.declared.tables.Tables.{Tables}
use Rattle.snap_rows.specs.Network.{Event, Happening, Inject, Leads, Net, RunsSequentially, Step, StepsFirst, inject, injected, step}
use Rattle.snap_rows.specs.Network as network
use Rattle.snap_faithful.proofs.Nodes.{IsTwo}
use Rattle.snap_runs.proofs.OneRun.{leads_one, steps_copies}
use Rattle.snap_order.specs.Ordered.{Ordered, OrderedHappening, LeadsInOrder, injects, begin, happenings}
use Rattle.snap_order.specs.PlainTurns.{PlainRunsTakeTurns}
use Rattle.snap_order.specs.Progress.{CanStep}
use Rattle.snap_order.specs.Runs.{RunsSequentiallyInOrder}
use Rattle.snap_order.specs.Serving.{IsRested, Serves}
use Rattle.snap_order.proofs.Able.{step_of}
use Rattle.snap_order.proofs.Overlap.{happenings_more}
use Rattle.snap_order.proofs.Playing.{step_injected}
use Rattle.snap_order.proofs.Serving.{serves_first, serves_last, serves_step}

module _ (t : Tables) (two : IsTwo t) where
  -- nothing is in flight and each rank has handled all packets, or the last packet is alone on its way
  abbrev Keeps : Ordered → Type 0
  Keeps o = ((o.net.flying ≡ []) × IsRested t o) ⊎ ((i : ℕ) × Serves t i o × (o.net.injected ≡ i + 1))

  rested : (o : Ordered) → Keeps o → o.net.flying ≡ [] → IsRested t o
  rested o (inl k) none = k.1
  rested o (inr k) none = serves_last k.0 k.1 none k.2

  serving : (o : Ordered) (s' : Net) (j : ℕ) (hs : List Happening) → Keeps o → Leads t o.net (Step j) s' hs → (i : ℕ) × Serves t i o × (o.net.injected ≡ i + 1)
  serving o s' j hs (inl k) leads = let there = steps_copies t o.net s' j hs leads in let long : length o.net.flying ≡ 0 = ap length k.0 in absurd (omega (arith, there, long))
  serving o s' j hs (inr k) leads = k

  -- a step can be made in order
  step_in_order : (o : Ordered) {s : Net} {j : ℕ} {hs : List Happening} → Leads t o.net (Step j) s hs → CanStep t o j
  step_in_order o (step {i = j} {c = c} {m = m} {a = a} found does) = step_of t two o j c found m a does c.head refl

  record Runs (o : Ordered) (es : List Event) (s : Net) (hs : List Happening) : Type 0 where
    end : Ordered
    turns : List OrderedHappening
    run : RunsSequentiallyInOrder t o es end turns
    net : end.net ≡ s
    told : happenings turns ≡ hs

  comes_in : (o : Ordered) {s s' : Net} {port : ℕ} {k : List ℕ} {hs : List Happening} → o.net ≡ s → Leads t s (Inject port k) s' hs → (o' : Ordered) × LeadsInOrder t o (Inject port k) o' [] × (o'.net ≡ s') × (hs ≡ [])
  comes_in o same (inject {port = port} {w = w} {k = k} at names) = (record o { net = injected o.net w port k }, injects at names, ap (λ s. injected s w port k) same, refl)

  runs_in_order : {s s' : Net} {es : List Event} {hs : List Happening} (o : Ordered) → o.net ≡ s → Keeps o → All StepsFirst es → RunsSequentially t s es s' hs → Runs o es s' hs
  runs_in_order o same keeps first network.rests = record { end = o; turns = []; run = network.rests; net = same; told = refl }
  runs_in_order o same keeps first (network.injects {s' = s1} {port = port} {k = k} {es = es} {h = h} {hs = hs} none leads onward) =
      let sequential : o.net.flying ≡ [] = ap (λ (x : Net). x.flying) same ∙ none in
      let x = comes_in o same leads in
      let served = serves_first sequential (rested o keeps sequential) x.1 in
      let on = runs_in_order x.0 x.2 (inr (o.net.injected, served.0, served.1)) (All-tail StepsFirst (Inject port k) es first) onward in
      record { end = on.end; turns = [] ++ on.turns; run = network.injects sequential x.1 on.run; net = on.net; told = on.told ∙ ap (λ l. l ++ hs) (sym x.3) }
  runs_in_order o same keeps first (network.steps {s = s} {s' = s1} {i = j} {es = es} {h = h} {hs = hs} leads onward) =
      let here : Leads t o.net (Step j) s1 h = subst (λ x. Leads t x (Step j) s1 h) (sym same) leads in
      let k = serving o s1 j h keeps here in
      let x = step_in_order o here in
      let y = serves_step t two k.0 (All-head StepsFirst (Step j) es first) x.leads k.1 in
      let one = leads_one t two.form o.net (Step j) x.state.net s1 (happenings x.turns) h y.1 here in
      let on = runs_in_order x.state one.0 (inr (k.0, y.0, step_injected x.leads ∙ k.2)) (All-tail StepsFirst (Step j) es first) onward in
      record { end = on.end; turns = x.turns ++ on.turns; run = network.steps x.leads on.run; net = on.net; told = happenings_more x.turns on.turns ∙ (λ z. one.1 z ++ on.told z) }

pub plain_turns : PlainRunsTakeTurns
plain_turns t form valid version m ks es s hs plain =
    let two : IsTwo t = record { form = form; valid = valid; version = version } in
    let r = runs_in_order t two (begin t m) refl (inl (refl, λ q within. refl)) plain.first plain.run in
    record { end = r.end; turns = r.turns; run = record { packets = plain.packets; first = plain.first; run = r.run; ended = ap (λ (x : Net). x.flying) r.net ∙ plain.ended }; net = r.net; told = r.told }

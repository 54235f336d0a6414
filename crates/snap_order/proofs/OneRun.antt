-- The plain run in order of packets is one, and has one report.
use Rattle.std.proofs.Common.{◌≡◌, ℕ, List, [], ◌∷◌, length, refl, sym, ap, subst, ◌∙◌}
use Rattle.std.proofs.lemmas.Option.{slice_get_within, same_Some}
use Rattle.snap_core.specs.Arrays.{zero_arrays}
use Rattle.snap_rows.specs.declared.tables.Tables.{Tables}
use Rattle.snap_rows.specs.Form.{IsWellFormed}
use Rattle.snap_rows.specs.Handles.{Handles}
use Rattle.snap_rows.specs.Network.{Copy, Event, Inject, Step, happening, injected, stepped}
use Rattle.snap_rows.proofs.OneWay.{one_way}
use Rattle.snap_rows.proofs.Runs.{StepsCopies, plain-one}
use Rattle.snap_faithful.specs.InOrder.{TakesTurns}
use Rattle.snap_runs.specs.declared.frames.Frames.TheVariants.{Numbered}
use Rattle.snap_runs.proofs.OneReport.{blocks_one, reports_one}
use Rattle.snap_order.specs.OneRun.{PlainBlocksAreOne, PlainReportsAreOne, StepsAreOne}
use Rattle.snap_order.specs.Ordered.{Ordered, OrderedHappening, Happens, Waits, AwaitsVisit, LeadsInOrder, happenings, injects, moves, turn_of, visited, visits, waits}
use Rattle.snap_order.specs.Reports.{AreBlocks, IsRunReport}
use Rattle.snap_order.specs.Runs.{IsPlainRun}
use Rattle.snap_order.proofs.OneTurn.{comes_one, turns_one}
use Rattle.snap_order.proofs.Taking.{same_rank}

-- ---- one event leads to one state
step_one : (t : Tables) → IsWellFormed t → {s n n' : Ordered} {j : ℕ} {us us' : List OrderedHappening} → LeadsInOrder t s (Step j) n us → LeadsInOrder t s (Step j) n' us' → (n ≡ n') × (us ≡ us')
step_one t form {s = s} {j = j} (moves {c = c} {m = m} {a = a} found none does) (moves {c = c'} {m = m'} {a = a'} found' none' does') =
    let copy : c ≡ c' = same_Some _ _ (sym found ∙ found') in
    let again : Handles t c.at c.packet (s.net.stores c.at) c.head m' a' = subst (λ (x : Copy). Handles t x.at x.packet (s.net.stores x.at) x.head m' a') (sym copy) does' in
    let one = one_way t form c.at c.packet (s.net.stores c.at) c.head m m' a a' does again in
    (λ i. record s { net = stepped s.net j (copy i) (one.0 i) (one.1 i) }, λ i. Happens (happening (copy i) (one.1 i)) ∷ [])
step_one t form {s = s} (moves {c = c} found none does) (visits {c = c'} {r = r} {n = n} found' before turn takes) = absurd (none r n (subst (λ x. AwaitsVisit t s.net x r n) (sym (same_Some c c' (sym found ∙ found'))) before))
step_one t form {s = s} (moves {c = c} found none does) (waits {c = c'} {r = r} {n = n} found' before early) = absurd (none r n (subst (λ x. AwaitsVisit t s.net x r n) (sym (same_Some c c' (sym found ∙ found'))) before))
step_one t form {s = s} (visits {c = c} {r = r} {n = n} found before turn takes) (moves {c = c'} found' none does) = absurd (none r n (subst (λ x. AwaitsVisit t s.net x r n) (same_Some c c' (sym found ∙ found')) before))
step_one t form {s = s} {j = j} (visits {c = c} {r = r} {n = n} {m = m} {h = h} {b = b} found before turn takes) (visits {c = c'} {r = r'} {n = n'} {m = m'} {h = h'} {b = b'} found' before' turn' takes') =
    let copy : c ≡ c' = same_Some _ _ (sym found ∙ found') in
    let before2 : AwaitsVisit t s.net c r' n' = subst (λ x. AwaitsVisit t s.net x r' n') (sym copy) before' in
    let rank : r ≡ r' = same_rank before.comes before2.comes in
    let number : n ≡ n' = comes_one t c.at c.packet (s.net.stores c.at) before.comes before2.comes in
    let again : TakesTurns t c.at c.packet c.number (s.net.stores c.at) s.handled r n m' h' b' =
    subst (λ x. TakesTurns t c.at c.packet c.number (s.net.stores c.at) s.handled r x m' h' b') (sym number)
    (subst (λ x. TakesTurns t c.at c.packet c.number (s.net.stores c.at) s.handled x n' m' h' b') (sym rank)
    (subst (λ (x : Copy). TakesTurns t x.at x.packet x.number (s.net.stores x.at) s.handled r' n' m' h' b') (sym copy) takes')) in
    let one = turns_one t c.at c.packet c.number takes again in
    (λ i. visited s j (copy i) (one.arrays i) (one.handled i) (one.becomes i), λ i. turn_of (copy i) (one.becomes i) ∷ [])
step_one t form {s = s} (visits {c = c} {r = r} found before turn takes) (waits {c = c'} {r = r'} {n = n'} found' before' early) =
    let copy : c ≡ c' = same_Some _ _ (sym found ∙ found') in
    let before2 : AwaitsVisit t s.net c r' n' = subst (λ x. AwaitsVisit t s.net x r' n') (sym copy) before' in
    absurd (early (ap s.handled (sym (same_rank before.comes before2.comes)) ∙ turn ∙ ap (λ (x : Copy). x.number) copy))
step_one t form {s = s} (waits {c = c} {r = r} {n = n} found before early) (moves {c = c'} found' none does) = absurd (none r n (subst (λ x. AwaitsVisit t s.net x r n) (same_Some c c' (sym found ∙ found')) before))
step_one t form {s = s} (waits {c = c} {r = r} found before early) (visits {c = c'} {r = r'} {n = n'} found' before' turn takes) =
    let copy : c ≡ c' = same_Some _ _ (sym found ∙ found') in
    let before2 : AwaitsVisit t s.net c r' n' = subst (λ x. AwaitsVisit t s.net x r' n') (sym copy) before' in
    absurd (early (ap s.handled (same_rank before.comes before2.comes) ∙ turn ∙ ap (λ (x : Copy). x.number) (sym copy)))
step_one t form {s = s} (waits {c = c} {r = r} found before early) (waits {c = c'} {r = r'} {n = n'} found' before' early') =
    let copy : c ≡ c' = same_Some _ _ (sym found ∙ found') in
    let before2 : AwaitsVisit t s.net c r' n' = subst (λ x. AwaitsVisit t s.net x r' n') (sym copy) before' in
    (refl, λ i. Waits (copy i) (same_rank before.comes before2.comes i) ∷ [])

inject_one : (t : Tables) {s n n' : Ordered} {port : ℕ} {k : List ℕ} {us us' : List OrderedHappening} → LeadsInOrder t s (Inject port k) n us → LeadsInOrder t s (Inject port k) n' us' → (n ≡ n') × (us ≡ us')
inject_one t {s = s} {port = port} {k = k} (injects {w = w} own names) (injects {w = w'} own' names') = ((λ i. record s { net = injected s.net (same_Some w w' (sym own ∙ own') i) port k }), refl)

pub leads_one : StepsAreOne
leads_one t form s (Inject port k) n n' us us' a b = inject_one t a b
leads_one t form s (Step j) n n' us us' a b = step_one t form a b

-- a step is of a copy in flight
pub steps_copies : (t : Tables) → StepsCopies (LeadsInOrder t) (λ (o : Ordered). o.net)
steps_copies t s n i us (moves {c = c} found none does) = slice_get_within s.net.flying i c found
steps_copies t s n i us (visits {c = c} found before now takes) = slice_get_within s.net.flying i c found
steps_copies t s n i us (waits {c = c} found before early) = slice_get_within s.net.flying i c found

-- ---- the plain run is one
run_one : (t : Tables) → IsWellFormed t → {ks : List (ℕ × List ℕ)} {es es' : List Event} {s s' : Ordered} {us us' : List OrderedHappening} → IsPlainRun t zero_arrays ks es s us → IsPlainRun t zero_arrays ks es' s' us' → (es ≡ es') × (s ≡ s') × (us ≡ us')
run_one t form a b = plain-one (LeadsInOrder t) (λ (o : Ordered). o.net) (leads_one t form) (steps_copies t) a b

-- ---- reports
pub plain_reports_one : PlainReportsAreOne
plain_reports_one t form hops ks a b x y =
    let one = run_one t form x.run y.run in
    reports_one Numbered t hops (length ks) x.end.net (happenings x.turns) a b x.report
    (subst (λ us. IsRunReport t hops (length ks) x.end.net (happenings us) b) (sym one.2) (subst (λ (s : Ordered). IsRunReport t hops (length ks) s.net (happenings y.turns) b) (sym one.1) y.report))

pub plain_blocks_one : PlainBlocksAreOne
plain_blocks_one t form hops ks a b x y =
    let one = run_one t form x.run y.run in
    blocks_one Numbered t hops (length ks) (happenings x.turns) a b x.blocks (subst (λ us. AreBlocks t hops (length ks) (happenings us) b) (sym one.2) y.blocks)

-- The run by rounds of packets is one, and has one report.
use Rattle.std.proofs.Common.{◌≡◌, ℕ, List, [], ◌∷◌, length, refl, sym, ap, subst, arith}
use Rattle.snap_rows.specs.declared.tables.Tables.{Tables}
use Rattle.snap_rows.specs.Form.{IsWellFormed}
use Rattle.snap_rows.specs.Network.{Event, Inject, Step}
use Rattle.snap_rows.proofs.Runs.{GoesOneWay, IsEnd, runs-end}
use Rattle.snap_order.specs.OneRounds.{RoundReportsAreOne, RoundsRunToEnds}
use Rattle.snap_order.specs.Ordered.{Ordered, OrderedHappening, happenings}
use Rattle.snap_order.specs.Reports.{IsRunReport}
use Rattle.snap_order.specs.Rounds.{GoesByRounds, GoesRound, IsRound, TakesNext, goes_on, injects, takes}
use Rattle.snap_runs.specs.declared.frames.Frames.TheVariants.{Numbered}
use Rattle.snap_runs.proofs.OneReport.{reports_one}
use Rattle.snap_order.proofs.OneRun.{leads_one, steps_copies}
use Rattle.snap_order.proofs.Rounds.{by_rounds_runs}

-- ---- a round
next_one : (t : Tables) → IsWellFormed t → GoesOneWay (TakesNext t) (λ x. Unit {0})
next_one t form x e e' y y' h h' kept (takes {i = i} {j = j} {s = s} {s' = s1} {us = u} leads next) (takes {j = j'} {s' = s2} {us = v} leads' next') =
    let one = leads_one t form s (Step i) s1 s2 u v leads leads' in
    let long = ap (λ (x : Ordered). length x.net.flying) one.0 in
    let at : j ≡ j' = omega (arith, next, next', long) in
    (refl, (λ k. (at k, one.0 k)), one.1, tt)

-- where all copies have made their steps
none_left : (t : Tables) (s : Ordered) → IsEnd (TakesNext t) (length s.net.flying, s)
none_left t s e n h (takes {s' = s'} leads next) = absurd (let w = steps_copies t s s' (length s.net.flying) h leads in omega (arith, w))

round_one : (t : Tables) → IsWellFormed t → {s n n' : Ordered} {es es' : List Event} {us us' : List OrderedHappening} → IsRound t s es n us → IsRound t s es' n' us' → (es ≡ es') × (n ≡ n') × (us ≡ us')
round_one t form {n = n} {n' = n'} a b =
    let one = runs-end (TakesNext t) (λ x. Unit {0}) (next_one t form) tt a b (none_left t n) (none_left t n') in
    (one.0, ap (λ (x : ℕ × Ordered). x.1) one.1, one.2)

-- ---- the rounds of packets
goes_one : (t : Tables) → IsWellFormed t → GoesOneWay (GoesRound t) (λ x. Unit {0})
goes_one t form x e e' y y' h h' kept (injects {port = port} {k = k} {ks = ks} {s = s} {s' = s1} leads round) (injects {s' = s2} {s'' = n} {es = es} {us = us} leads' round') =
    let began = leads_one t form s (Inject port k) s1 s2 [] [] leads leads' in
    let one = round_one t form round (subst (λ x. IsRound t x es n us) (sym began.0) round') in
    ((λ i. Inject port k ∷ one.0 i), (λ i. (ks, one.1 i)), one.2, tt)
goes_one t form x e e' y y' h h' kept (goes_on some round) (goes_on some' round') = let one = round_one t form round round' in (one.0, (λ i. ([], one.1 i)), one.2, tt)

-- no packet is left, and nothing is in flight
all_gone : (t : Tables) (s : Ordered) → s.net.flying ≡ [] → IsEnd (GoesRound t) ([], s)
all_gone t s none e n h (goes_on some round) = absurd (some none)

by_rounds_one : (t : Tables) → IsWellFormed t → {ks : List (ℕ × List ℕ)} {s n n' : Ordered} {es es' : List Event} {us us' : List OrderedHappening} → GoesByRounds t ks s es n us → GoesByRounds t ks s es' n' us' → (n ≡ n') × (us ≡ us')
by_rounds_one t form {n = n} {n' = n'} a b =
    let one = runs-end (GoesRound t) (λ x. Unit {0}) (goes_one t form) tt a.run b.run (all_gone t n a.rests) (all_gone t n' b.rests) in
    (ap (λ (x : List (ℕ × List ℕ) × Ordered). x.1) one.1, one.2)

pub round_reports_one : RoundReportsAreOne
round_reports_one t form hops ks a b x y =
    let one = by_rounds_one t form x.run y.run in
    reports_one Numbered t hops (length ks) x.end.net (happenings x.turns) a b x.report
    (subst (λ us. IsRunReport t hops (length ks) x.end.net (happenings us) b) (sym one.1) (subst (λ (s : Ordered). IsRunReport t hops (length ks) s.net (happenings y.turns) b) (sym one.0) y.report))

pub rounds_run_to_ends : RoundsRunToEnds
rounds_run_to_ends t ks es s us run = let r = by_rounds_runs t run in record { run = r.0; packets = r.1; ended = r.2 }

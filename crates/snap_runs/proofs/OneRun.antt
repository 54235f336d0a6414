-- The plain run of packets is one.
use Rattle.std.proofs.Common.{◌≡◌, [], ◌∷◌, refl, sym, subst, ◌∙◌}
use Rattle.std.proofs.lemmas.Option.{slice_get_within, same_Some}
use Rattle.snap_rows.specs.declared.tables.Tables.{Tables}
use Rattle.snap_rows.specs.Form.{IsWellFormed}
use Rattle.snap_rows.specs.Handles.{Handles}
use Rattle.snap_rows.specs.Network.{Copy, Net, Leads, inject, step, injected, stepped, happening}
use Rattle.snap_rows.proofs.OneWay.{one_way}
use Rattle.snap_rows.proofs.Runs.{LeadsOneWay, StepsCopies, plain-one}
use Rattle.snap_runs.specs.Laws.{PlainRunsAreOne}

-- one event leads to one state, with one happening
pub leads_one : (t : Tables) → IsWellFormed t → LeadsOneWay (Leads t)
leads_one t form s e n n' h h' (inject {port = port} {w = w} {k = k} own names) (inject {w = w'} own' names') = ((λ i. injected s (same_Some w w' (sym own ∙ own') i) port k), refl)
leads_one t form s e n n' h h' (step {i = i} {c = c} {m = m} {a = a} found does) (step {c = c'} {m = m'} {a = a'} found' does') =
    let copy : c ≡ c' = same_Some _ _ (sym found ∙ found') in
    let again : Handles t c.at c.packet (s.stores c.at) c.head m' a' = subst (λ (x : Copy). Handles t x.at x.packet (s.stores x.at) x.head m' a') (sym copy) does' in
    let one = one_way t form c.at c.packet (s.stores c.at) c.head m m' a a' does again in
    ((λ j. stepped s i (copy j) (one.0 j) (one.1 j)), λ j. happening (copy j) (one.1 j) ∷ [])

-- a step is of a copy in flight
pub steps_copies : (t : Tables) → StepsCopies (Leads t) (λ (s : Net). s)
steps_copies t s n i h (step {c = c} found does) = slice_get_within s.flying i c found

pub plain_one : PlainRunsAreOne
plain_one t form m ks es es' s s' hs hs' a b = plain-one (Leads t) (λ (s : Net). s) (leads_one t form) (steps_copies t) a b

-- Each switch holds its own arrays alone.
use Rattle.std.proofs.Common.{◌≡◌, ◌≢◌, ℕ, Bool, true, false, Option, Some, None, List, refl, sym, ap, ◌∙◌, ⊎_elim}
use Rattle.std.specs.Prelude.{◌==◌, option_map, unwrap_or, if◌then◌else◌}
use Rattle.std.proofs.lemmas.Bool.{eqb-true}
use Rattle.snap_core.specs.declared.place.Place.{Place}
use Rattle.snap_core.specs.Arrays.{Arrays}
use Rattle.snap_rows.specs.declared.tables.Tables.{Tables}
use Rattle.snap_rows.specs.Entries.{owner_of}
use Rattle.snap_rows.specs.Form.{IsWellFormed}
use Rattle.snap_rows.specs.Rules.{IsValid}
use Rattle.snap_rows.specs.Network.{Net, Event, Happening, Leads, inject, step, start}
use Rattle.snap_rows.proofs.Runs.{runs-keep}
use Rattle.snap_rows.proofs.Own.{handles_own}
use Rattle.snap_net.specs.Laws.{HoldsOwnAlone, ArraysStayHome}

start_own : (t : Tables) (m : Arrays) → HoldsOwnAlone t (start t m)
start_own t m w p = of (owner_of t p.var)
  where
    of : (o : Option ℕ) → o ≢ Some w → ◌≡◌ {A = ℕ} (if unwrap_or (option_map (λ x. x == w) o) false then m p else 0) 0
    of None other = refl
    of (Some x) other = by (x == w) refl
      where
        by : (b : Bool) → (x == w) ≡ b → ◌≡◌ {A = ℕ} (if b then m p else 0) 0
        by true e = absurd (other (ap Some (eqb-true x w e)))
        by false e = refl

leads_own : (t : Tables) → IsValid t → IsWellFormed t → (s s' : Net) (e : Event) (hs : List Happening) → Leads t s e s' hs → HoldsOwnAlone t s → HoldsOwnAlone t s'
leads_own t valid form s s' e hs (inject at first) own = own
leads_own t valid form s s' e hs (step {i = i} {c = c} {m = m} {a = a} is handles) own = λ w p other. by w p other (w == c.at) refl
  where
    by : (w : ℕ) (p : Place) → owner_of t p.var ≢ Some w → (b : Bool) → (w == c.at) ≡ b → ◌≡◌ {A = ℕ} ((if b then m else s.stores w) p) 0
    by w p other true here =
        let same : w ≡ c.at = eqb-true w c.at here in
        ⊎_elim (λ mine. absurd (other (mine ∙ ap Some (sym same)))) (λ kept. kept ∙ own c.at p (λ mine. other (mine ∙ ap Some (sym same)))) (handles_own t valid form c.at c.packet (s.stores c.at) c.head m a handles p)
    by w p other false away = own w p other

pub arrays_stay_home : ArraysStayHome
arrays_stay_home t valid form m es s hs run = runs-keep (HoldsOwnAlone t) run (leads_own t valid form) (start_own t m)

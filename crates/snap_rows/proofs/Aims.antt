-- On the way to where a head sends its copy nothing is done but forwards.
use Rattle.std.proofs.Common.{◌≡◌, ◌≢◌, ℕ, zero, suc, ◌+◌, ◌-◌, ◌*◌, ◌<◌, ◌≤◌, List, Option, Some, None, refl, ap, arith, ◌∙◌}
use Rattle.std.specs.Prelude.{is_some, if◌then◌else◌}
use Rattle.std.proofs.lemmas.Bool.{false≢true, eq-eqb}
use Rattle.snap_core.specs.Arrays.{Arrays}
use Rattle.snap_rows.specs.declared.tables.Tables.{Tables}
use Rattle.snap_rows.specs.declared.head.Head.{Head}
use Rattle.snap_rows.specs.declared.head.Head.TheVariants.{Walk, Stage, Out, Visit}
use Rattle.snap_rows.specs.Actions.{Forward}
use Rattle.snap_rows.specs.Aims.{aim_of}
use Rattle.snap_rows.specs.Bound.{hops_within, left, longest, to_switch}
use Rattle.snap_rows.specs.Entries.{next, ranks}
use Rattle.snap_rows.specs.Form.{IsWellFormed, switch_count}
use Rattle.snap_rows.specs.Handles.{Handles, carries, seeks}
use Rattle.snap_rows.specs.Home.{AtHome}
use Rattle.snap_rows.specs.Weight.{most_outs, weight}
use Rattle.snap_rows.proofs.Arrives.{owner_below}
use Rattle.snap_rows.proofs.Bounded.{port_below}

no_aim : (x : ℕ) → None ≡ Some x → ⊥
no_aim x e = false≢true (ap (λ (o : Option ℕ). is_some o) e)

pub goes_on : (t : Tables) (h : Head) (x : ℕ) → aim_of t h ≡ Some x → (w : ℕ) (k : List ℕ) (m : Arrays) → x ≢ w → Handles t w k m h m (Forward (next t w x) h)
goes_on t (Out p) x e w k m away = carries e away
goes_on t (Visit r n) x e w k m away = seeks e away
goes_on t (Walk n) x e w k m away = absurd (no_aim x e)
goes_on t (Stage n i) x e w k m away = absurd (no_aim x e)

pub aim_below : (t : Tables) → IsWellFormed t → (h : Head) (x : ℕ) → aim_of t h ≡ Some x → x < switch_count t
aim_below t form (Out p) x e = port_below t form p x e
aim_below t form (Visit r n) x e = owner_below t form r x e
aim_below t form (Walk n) x e = absurd (no_aim x e)
aim_below t form (Stage n i) x e = absurd (no_aim x e)

pub aim_home : (t : Tables) (h : Head) (x w : ℕ) → aim_of t h ≡ Some x → AtHome t w h → AtHome t x h
aim_home t (Out p) x w e home = home
aim_home t (Visit r n) x w e home = home
aim_home t (Walk n) x w e home = absurd (no_aim x e)
aim_home t (Stage n i) x w e home = absurd (no_aim x e)

pub no_hops : (t : Tables) (n x : ℕ) → hops_within t n x x ≡ 0
no_hops t zero x = refl
no_hops t (suc most) x = ap (λ b. if b then 0 else suc (hops_within t most (next t x x) x)) (eq-eqb x x refl)

less : (a b y z : ℕ) → a ≡ 0 → a + y + 1 + z ≤ b + y + 1 + z
less a b y z e = omega arith

less_out : (a b : ℕ) → a ≡ 0 → a + 1 + 0 ≤ b + 1 + 0
less_out a b e = omega arith

-- a copy that is there can make no more steps than on its way
pub aim_lighter : (t : Tables) (h : Head) (x w : ℕ) → aim_of t h ≡ Some x → weight t x h ≤ weight t w h
aim_lighter t (Out p) x w e = less_out (left t x (Out p)) (left t w (Out p)) (ap (to_switch t x) e ∙ no_hops t (switch_count t) x)
aim_lighter t (Visit r n) x w e = less (to_switch t x (aim_of t (Visit r n))) (to_switch t w (aim_of t (Visit r n))) ((ranks t - r) * longest t) (most_outs t * (longest t + 1)) (ap (to_switch t x) e ∙ no_hops t (switch_count t) x)
aim_lighter t (Walk n) x w e = absurd (no_aim x e)
aim_lighter t (Stage n i) x w e = absurd (no_aim x e)

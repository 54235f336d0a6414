-- Where what is left of a copy's way falls with each step, the hops of each copy are bounded.
use Rattle.std.proofs.Common.{◌≡◌, ◌≢◌, ℕ, zero, suc, ◌+◌, ◌<◌, ◌≤◌, Bool, true, false, List, [], ◌∷◌, ◌++◌, take, drop, get_or, Option, Some, None, length, refl, ap, subst, ◌∙◌, arith}
use Rattle.std.specs.Prelude.{slice_get, IfSome, IsSome, is_some, ◌==◌, if◌then◌else◌}
use Rattle.std.specs.List.{All}
use Rattle.std.proofs.lemmas.Bool.{false≢true, eq-eqb, ne_eqb}
use Rattle.std.proofs.lemmas.List.Elements.{All-push, All-append, All-take, All-drop, All-map, All-weaker}
use Rattle.snap_core.specs.Arrays.{Arrays}
use Rattle.snap_core.specs.declared.ports.PortAt.{PortAt}
use Rattle.snap_rows.specs.declared.tables.Tables.{Tables}
use Rattle.snap_rows.specs.declared.tables.Rule.TheVariants.{Loop, Missing}
use Rattle.snap_rows.specs.declared.tables.Spot.TheVariants as spot
use Rattle.snap_rows.specs.declared.head.Head.{Head}
use Rattle.snap_rows.specs.declared.head.Head.TheVariants.{Walk, Out}
use Rattle.snap_rows.specs.Actions.{Action, Forward, Deliver, Fork}
use Rattle.snap_rows.specs.declared.head.Sent.{Sent}
use Rattle.snap_core.specs.Ports.{port_in}
use Rattle.snap_rows.specs.Entries.{Parts, row_at, port_at, next}
use Rattle.snap_rows.specs.Form.{IsWellFormed, IsPortWellFormed, switch_count}
use Rattle.snap_rows.specs.Ways.{Way, here, on}
use Rattle.snap_rows.specs.Rules.{IsValid, PortKeeps}
use Rattle.snap_rows.specs.Home.{AtHome}
use Rattle.snap_rows.specs.Steps.{Arrives, IsSent}
use Rattle.snap_rows.specs.Handles.{Handles, forked}
use Rattle.snap_rows.specs.Network.{Copy, Net, Event, Happening, Leads, inject, step, Runs, moved, start}
use Rattle.snap_rows.proofs.Runs.{runs-keep}
use Rattle.snap_rows.specs.Bound.{hops_within, distance, longest, to_switch, left, most_hops, IsBounded}
use Rattle.std.proofs.lemmas.Option.{same_Some}
use Rattle.snap_rows.proofs.Rows.{All-get}
use Rattle.snap_rows.proofs.Arrives.{way_to, arrives, fork_arrives, next_below}
use Rattle.snap_rows.proofs.Short.{short}

record PortEntry (ps : List PortAt) (p w : ℕ) : Type 0 where
  pub place : ℕ
  pub entry : PortAt
  pub is : slice_get ps place ≡ Some entry
  pub at : entry.at ≡ w

port_entry : (ps : List PortAt) (p w : ℕ) → port_in ps p ≡ Some w → PortEntry ps p w
port_entry [] p w e = absurd (false≢true (ap (λ (o : Option ℕ). is_some o) e))
port_entry (q ∷ ps) p w e = by (q.port == p) e (port_entry ps p w)
  where
    by : (b : Bool) → (if b then Some q.at else port_in ps p) ≡ Some w → (port_in ps p ≡ Some w → PortEntry ps p w) → PortEntry (q ∷ ps) p w
    by true h rest = record { place = 0; entry = q; is = refl; at = same_Some _ _ h }
    by false h rest = let i = rest h in record { place = suc i.place; entry = i.entry; is = i.is; at = i.at }

pub port_below : (t : Tables) → IsWellFormed t → (p w : ℕ) → port_at t p ≡ Some w → w < switch_count t
port_below t form p w e = let i = port_entry t.ports p w e in subst (λ n. n < switch_count t) i.at (All-get (IsPortWellFormed t) t.ports i.place i.entry form.ports i.is).at

pub port_home : (t : Tables) → IsValid t → (p w : ℕ) → port_at t p ≡ Some w → IsSome (row_at t w 0)
port_home t valid p w e = let i = port_entry t.ports p w e in subst (λ w. IsSome (row_at t w 0)) i.at (subst (λ o. IfSome o (PortKeeps t Missing)) i.is (valid Missing (spot.Port i.place)))

-- ---- distances
hops_is : (t : Tables) (x w : ℕ) (ws : List ℕ) → Way t x w ws → (most : ℕ) → length ws ≤ most → hops_within t most w x ≡ length ws
hops_is t x w ws here zero le = refl
hops_is t x w ws here (suc most) le = ap (λ b. if b then 0 else suc (hops_within t most (next t x x) x)) (eq-eqb x x refl)
hops_is t x w ws (on away way) zero le = absurd (omega arith)
hops_is t x w ws (on {w = v} {ws = vs} away way) (suc most) le =
    ap (λ b. if b then 0 else suc (hops_within t most (next t v x) x)) (ne_eqb v x away)
    ∙ ap suc (hops_is t x (next t v x) vs way most (let h : suc (length vs) ≤ suc most = le in omega arith))

distance_is : (t : Tables) → IsWellFormed t → (w x : ℕ) (ws : List ℕ) → w < switch_count t → Way t x w ws → distance t w x ≡ length ws
distance_is t form w x ws low way = hops_is t x w ws way (switch_count t) (let h : length ws < switch_count t = short t form x w ws low way in omega arith)

pub far_short : (t : Tables) → IsValid t → IsWellFormed t → (w x : ℕ) → w < switch_count t → x < switch_count t → distance t w x ≤ longest t
far_short t valid form w x low low' =
    let way = way_to t (valid Loop) form w x low low' in
    let e : distance t w x ≡ length way.0 = distance_is t form w x way.0 low way.1 in
    let h : length way.0 < switch_count t = short t form x w way.0 low way.1 in
    omega arith

nearer_way : (t : Tables) → IsWellFormed t → (w x : ℕ) (ws : List ℕ) → w < switch_count t → x ≢ w → Way t x w ws → distance t (next t w x) x + 1 ≡ distance t w x
nearer_way t form w x ws low away here = absurd (away refl)
nearer_way t form w x ws low away (on {ws = vs} other way) =
    let e : distance t w x ≡ suc (length vs) = distance_is t form w x (next t w x ∷ vs) low (on other way) in
    let f : distance t (next t w x) x ≡ length vs = distance_is t form (next t w x) x vs (next_below t form w x low) way in
    omega arith

-- a next hop is one hop nearer
pub nearer : (t : Tables) → IsValid t → IsWellFormed t → (w x : ℕ) → w < switch_count t → x < switch_count t → x ≢ w → distance t (next t w x) x + 1 ≡ distance t w x
nearer t valid form w x low low' away = let way = way_to t (valid Loop) form w x low low' in nearer_way t form w x way.0 low away way.1

-- ---- what is left after a step: less by one at a forward, and no more at a fork
abbrev pub Falls : Tables → ℕ → ℕ → Action → Type 0
Falls t w b (Forward to head) = left t to head + 1 ≤ b
Falls t w b (Deliver port) = Unit {0}
Falls t w b (Fork copies lost) = All (λ (x : Sent). left t w (Out x.port) ≤ b) copies

pub wider : (t : Tables) (w b c : ℕ) (a : Action) → b ≤ c → Falls t w b a → Falls t w c a
wider t w b c (Forward to head) le f = let h : left t to head + 1 ≤ b = f in omega arith
wider t w b c (Deliver port) le f = tt
wider t w b c (Fork copies lost) le f = λ i d within. let h = f i d within in omega arith

-- the way to a port is the longest at most
pub port_short : (t : Tables) → IsValid t → IsWellFormed t → (w p : ℕ) → w < switch_count t → IsSome (port_at t p) → to_switch t w (port_at t p) ≤ longest t
port_short t valid form w p low some = by (port_at t p) refl some
  where
    by : (o : Option ℕ) → port_at t p ≡ o → IsSome o → to_switch t w o ≤ longest t
    by None e some = absurd (false≢true some)
    by (Some x) e some = far_short t valid form w x low (port_below t form p x e)

-- a fork where the longest way is left
pub fork_falls : (t : Tables) → IsValid t → IsWellFormed t → (w b : ℕ) (os : List Parts) (k : List ℕ) → w < switch_count t → longest t ≤ b → Falls t w b (forked t os k)
fork_falls t valid form w b os k low enough = All-weaker (IsSent t k) (λ (x : Sent). left t w (Out x.port) ≤ b) (λ x is. let h = port_short t valid form w x.port low is.port in omega arith) _ (fork_arrives t k os)

pub carry_falls : (t : Tables) → IsValid t → IsWellFormed t → (w p x : ℕ) → w < switch_count t → port_at t p ≡ Some x → x ≢ w → left t (next t w x) (Out p) + 1 ≤ left t w (Out p)
carry_falls t valid form w p x low at away =
    let e : to_switch t w (port_at t p) ≡ distance t w x = ap (to_switch t w) at in
    let f : to_switch t (next t w x) (port_at t p) ≡ distance t (next t w x) x = ap (to_switch t (next t w x)) at in
    let g = nearer t valid form w x low (port_below t form p x at) away in
    omega arith

-- ---- runs
-- what is left of a copy's way falls with each step, and is at most the bound when it comes into the network
pub record Measures (t : Tables) : Type 0 where
  pub starts : (p w : ℕ) → port_at t p ≡ Some w → left t w (Walk 0) ≤ most_hops t
  pub falls : (w : ℕ) → w < switch_count t → (k : List ℕ) (m : Arrays) (h : Head) (m' : Arrays) (a : Action) → AtHome t w h → Handles t w k m h m' a → Falls t w (left t w h) a

one_copy : (P : Copy → Type 0) (c : Copy) → P c → All P (c ∷ [])
one_copy P c p = λ i d within. by i d within
  where
    by : (i : ℕ) (d : Copy) → i < length (c ∷ []) → P (get_or (c ∷ []) i d)
    by zero d within = p
    by (suc i) d within = absurd (let h : suc i < 1 = within in omega arith)

-- what stands in the place of a copy
pub moved_bounded : (t : Tables) (c : Copy) (a : Action) → IsBounded t c → Arrives t c.packet a → Falls t c.at (left t c.at c.head) a → All (IsBounded t) (moved c a)
moved_bounded t c (Forward to head) is arrives f = one_copy (IsBounded t) _ (record { at = arrives.0; home = arrives.1; most = (let h : left t to head + 1 ≤ left t c.at c.head = f in let g = is.most in omega arith) })
moved_bounded t c (Deliver port) is arrives f = λ i d within. absurd (let h : i < 0 = within in omega arith)
moved_bounded t c (Fork copies lost) is arrives f = All-map (IsBounded t) (λ (x : Sent). record c { head = Out x.port; packet = x.packet; steps = c.steps + 1 }) copies
    (λ i d within. record { at = is.at; home = (arrives i d within).port; most = (let h = f i d within in let g = is.most in omega arith) })

leads_bounded : (t : Tables) → IsValid t → IsWellFormed t → Measures t → (s s' : Net) (e : Event) (hs : List Happening) → Leads t s e s' hs → All (IsBounded t) s.flying → All (IsBounded t) s'.flying
leads_bounded t valid form measures s s' e hs (inject {port = p} {w = w} at first) all =
    All-push (IsBounded t) s.flying _ all (record { at = port_below t form p w at; home = port_home t valid p w at; most = (let h = measures.starts p w at in omega arith) })
leads_bounded t valid form measures s s' e hs (step {i = i} {c = c} {m = m} {a = a} is handles) all =
    let b = All-get (IsBounded t) s.flying i c all is in
    let arr = arrives t valid form c.at b.at c.packet (s.stores c.at) c.head m a b.home handles in
    let f = measures.falls c.at b.at c.packet (s.stores c.at) c.head m a b.home handles in
    All-append (IsBounded t) (take i s.flying) (moved c a ++ drop (i + 1) s.flying) (All-take (IsBounded t) i s.flying all)
    (All-append (IsBounded t) (moved c a) (drop (i + 1) s.flying) (moved_bounded t c a b arr f) (All-drop (IsBounded t) (i + 1) s.flying all))

pub bounded : (t : Tables) → IsValid t → IsWellFormed t → Measures t → (m : Arrays) (es : List Event) (s : Net) (hs : List Happening) → Runs t (start t m) es s hs → All (IsBounded t) s.flying
bounded t valid form measures m es s hs run = runs-keep (λ (n : Net). All (IsBounded t) n.flying) run (leads_bounded t valid form measures) (λ i d within. absurd (let h : i < 0 = within in omega arith))

-- One step of the network.
use Rattle.std.proofs.Common.{◌≡◌, ℕ, ◌+◌, ◌<◌, List, [], ◌∷◌, ◌++◌, map, take, drop, length, refl, sym, ap, subst, ◌∙◌, arith}
use Rattle.std.specs.List.{All}
use Rattle.std.proofs.lemmas.List.Elements.{All-nil, All-cons, All-head, All-tail, All-append, All-push, All-take, All-drop, All-map, All-weaker}
use Rattle.snap_rows.specs.declared.tables.Tables.{Tables}
use Rattle.snap_rows.specs.Actions.{Action, Forward, Deliver, Fork}
use Rattle.snap_rows.specs.declared.head.Head.TheVariants.{Walk, Out}
use Rattle.snap_rows.specs.declared.head.Sent.{Sent}
use Rattle.snap_rows.specs.Network.{Copy, Net, Inject, Step, Happening, Leads, inject, step, happening, moved}
use Rattle.snap_rows.proofs.Rows.{All-get}
use Rattle.snap_net.specs.declared.flying.Flying.{Flying}
use Rattle.snap_net.specs.Shown.{NetView, Represents, flown, moving, store_of}
use Rattle.snap_net.proofs.Carried.{rests_shown}
use Rattle.snap_rows.specs.Happenings.{number_of}
use Rattle.snap_runs.specs.Tallies.{delivered_by}

-- ---- numbers of packets
module _ (P : ℕ → Type 0) where
  pub moved_numbers : (c : Copy) (a : Action) → P c.number → All (λ (d : Copy). P d.number) (moved c a)
  moved_numbers c (Forward to head) here = All-cons (λ (d : Copy). P d.number) _ [] here (All-nil (λ (d : Copy). P d.number))
  moved_numbers c (Deliver port) here = All-nil (λ (d : Copy). P d.number)
  moved_numbers c (Fork copies lost) here = All-map (λ (d : Copy). P d.number) (λ (x : Sent). record c { head = Out x.port; packet = x.packet; steps = c.steps + 1 }) copies (λ k d within. here)

  pub number_of-happening : (c : Copy) (a : Action) → P c.number → P (number_of (happening c a))
  number_of-happening c (Forward to head) here = here
  number_of-happening c (Deliver port) here = here
  number_of-happening c (Fork copies lost) here = here

  -- what holds of the numbers of all copies holds of the one to which a step happens, and of those behind it
  pub step-numbers : (t : Tables) (s s' : Net) (j : ℕ) (hs : List Happening) → All (λ (c : Copy). P c.number) s.flying → Leads t s (Step j) s' hs → All (λ (c : Copy). P c.number) s'.flying × All (λ h. P (number_of h)) hs
  step-numbers t s s' j hs all (step {i = k} {c = c} {m = m} {a = a} is handles) =
      let Q : Copy → Type 0 = λ d. P d.number in
      let here : P c.number = All-get Q s.flying k c all is in (
        All-append Q (take k s.flying) (moved c a ++ drop (k + 1) s.flying) (All-take Q k s.flying all) (All-append Q (moved c a) (drop (k + 1) s.flying) (moved_numbers c a here) (All-drop Q (k + 1) s.flying all)),
        All-cons (λ h. P (number_of h)) (happening c a) [] (number_of-happening c a here) (All-nil (λ h. P (number_of h))),
      )

pub step-injected : (t : Tables) (s s' : Net) (j : ℕ) (hs : List Happening) → Leads t s (Step j) s' hs → s'.injected ≡ s.injected
step-injected t s s' j hs (step {i = k} {c = c} {m = m} {a = a} is handles) = refl

-- an injected copy has the next number
pub inject-numbers : (t : Tables) (s s' : Net) (port : ℕ) (k : List ℕ) (hs : List Happening) → All (λ (c : Copy). c.number < s.injected) s.flying → Leads t s (Inject port k) s' hs
    → All (λ (c : Copy). c.number < s'.injected) s'.flying × (s'.injected ≡ s.injected + 1)
inject-numbers t s s' port k hs all (inject {w = w} at first) =
    let c : Copy = record { number = s.injected; at = w; head = Walk 0; packet = k; hops = 0; steps = 0 } in
    let P : Copy → Type 0 = λ d. d.number < s.injected + 1 in
    (All-push P s.flying c (All-weaker (λ (d : Copy). d.number < s.injected) P (λ d less. omega (arith, less)) s.flying all) (omega arith), refl)

-- ---- a state that is shown
copied : Flying → Copy
copied c = record { number = c.number; at = c.at; head = c.head; packet = c.packet; hops = 0; steps = 0 }

flown_copied : (cs : List Flying) → map flown (map copied cs) ≡ cs
unfolding copied
flown_copied [] = refl
flown_copied (c ∷ cs) = ap (λ l. c ∷ l) (flown_copied cs)

pub shown : (v : NetView) → (s : Net) × Represents v s
shown v = (record { stores = store_of v.stores; injected = v.injected; flying = map copied v.flying }, record { stores = λ w. refl; injected = refl; flying = flown_copied v.flying })

-- what holds of the copies that are held holds of those that are shown
all_shown : (P : Flying → Type 0) (cs : List Copy) → All P (map flown cs) → All (λ c. P (flown c)) cs
all_shown P [] all = All-nil (λ c. P (flown c))
all_shown P (c ∷ cs) all = All-cons (λ c. P (flown c)) c cs (All-head P (flown c) (map flown cs) all) (all_shown P cs (All-tail P (flown c) (map flown cs) all))

pub held-shown : (P : Flying → Type 0) (v : NetView) (s : Net) → Represents v s → All P v.flying → All (λ c. P (flown c)) s.flying
held-shown P v s shows all = all_shown P s.flying (subst (All P) (sym shows.flying) all)

-- nothing is in flight where nothing is held
pub rests-shown : (v : NetView) (s : Net) → Represents v s → v.flying ≡ [] → s.flying ≡ []
rests-shown v s shows none = rests_shown s.flying (shows.flying ∙ none)

-- ---- lengths of packets
pub delivered_long : (n : ℕ) (c : Copy) (a : Action) → length c.packet ≡ n → All (λ k. length k ≡ n) (delivered_by (moving (happening c a)))
delivered_long n c (Forward to head) long = All-nil (λ k. length k ≡ n)
delivered_long n c (Deliver port) long = All-cons (λ k. length k ≡ n) c.packet [] long (All-nil (λ k. length k ≡ n))
delivered_long n c (Fork copies lost) long = All-nil (λ k. length k ≡ n)

pub step-long : (t : Tables) (s s' : Net) (j n : ℕ) (hs : List Happening) → All (λ (c : Copy). length c.packet ≡ n) s.flying → Leads t s (Step j) s' hs → (x : Happening) → hs ≡ x ∷ [] → All (λ k. length k ≡ n) (delivered_by (moving x))
step-long t s s' j n hs all (step {i = k} {c = c} {m = m} {a = a} is handles) x e =
    let same : happening c a ≡ x = cc in
    subst (λ y. All (λ k. length k ≡ n) (delivered_by (moving y))) same (delivered_long n c a (All-get (λ (c : Copy). length c.packet ≡ n) s.flying k c all is))

-- The copies of a packet in flight, step by step, and how they leave the network.
use Rattle.std.proofs.Common.{◌≡◌, ◌≢◌, ℕ, suc, ◌+◌, cond, List, [], ◌∷◌, ◌++◌, take, drop, map, Some, refl, sym, ap, subst, ◌∙◌, arith, append_assoc}
use Rattle.std.specs.Prelude.{slice_get, slice_index, nat_eq}
use Rattle.std.specs.List.{All, filter}
use Rattle.std.specs.List.Sorted.{IsPermutation}
use Rattle.std.proofs.Math.Seq.{split_at}
use Rattle.std.proofs.lemmas.Bool.{eq-eqb, ne_eqb}
use Rattle.std.proofs.lemmas.List.{append-nil, map-append}
use Rattle.std.proofs.lemmas.List.Elements.{All-cons, All-head, All-tail, All-append, All-map, filter-append}
use Rattle.std.proofs.lemmas.List.Sorted.{IsPermutation-refl, IsPermutation-trans, IsPermutation-append_right, IsPermutation-middle, IsPermutation-sym}
use Rattle.std.proofs.lemmas.Option.{slice_get_within, get_or_from_slice_get}
use Rattle.snap_core.proofs.Elements.{All-back, All-front}
use Rattle.snap_core.specs.Arrays.{Arrays}
use Rattle.snap_core.specs.Packets.{PacketSet}
use Rattle.snap_core.specs.Switch.{delivered}
use Rattle.snap_rows.specs.declared.tables.Tables.{Tables}
use Rattle.snap_rows.specs.Actions.{Action, Forward, Deliver, Fork}
use Rattle.snap_rows.specs.declared.head.Head.TheVariants.{Out}
use Rattle.snap_rows.specs.declared.head.Sent.{Sent}
use Rattle.snap_rows.specs.Entries.{port_numbers}
use Rattle.snap_rows.specs.Handles.{sent}
use Rattle.snap_rows.specs.Network.{Net, Copy, Happening, moved, happening, stepped}
use Rattle.snap_rows.specs.Happenings.{deliveries_of, losses_of}
use Rattle.snap_rows.proofs.Happenings.{deliveries_of-append, losses_of-append}
use Rattle.snap_faithful.specs.Agreement.{sent_of, lost_of, CameOut}
use Rattle.snap_faithful.proofs.Nodes.{OutDoes, is_delivered, is_carried}

-- ---- copies
-- those of packet i
abbrev pub copies_of : ℕ → List Copy → List Copy
copies_of i cs = filter (λ (c : Copy). nat_eq c.number i) cs

-- on its way to the port that its packet names
abbrev pub IsLeaving : Copy → Type 0
IsLeaving c = c.head ≡ Out (slice_index c.packet 1)

-- what a copy on its way will deliver
abbrev pub to_deliver : Copy → Sent
to_deliver c = sent c.packet

abbrev pub split_off : Copy → Sent → Copy
split_off c x = record c { head = Out x.port; packet = x.packet; steps = c.steps + 1 }

abbrev pub carried : Copy → ℕ → Copy
carried c x = record c { at = x; head = Out (slice_index c.packet 1); hops = c.hops + 1; steps = c.steps + 1 }

-- ---- packets
-- nothing has happened but crossings of links
pub record IsQuiet (i : ℕ) (hs : List Happening) : Type 0 where
  pub deliveries : deliveries_of i hs ≡ []
  pub losses : losses_of i hs ≡ []

pub quiet_more : (i : ℕ) (hs gs : List Happening) → IsQuiet i hs → IsQuiet i gs → IsQuiet i (hs ++ gs)
quiet_more i hs gs q r = record { deliveries = deliveries_of-append i hs gs ∙ (λ y. q.deliveries y ++ r.deliveries y); losses = losses_of-append i hs gs ∙ (λ y. q.losses y ++ r.losses y) }

-- packet i has become this set: what was delivered and what its copies will deliver is what is to be sent, and the others were counted
pub record Leaving (t : Tables) (i : ℕ) (set : PacketSet) (s : Net) (hs : List Happening) : Type 0 where
  pub out : All IsLeaving (copies_of i s.flying)
  pub ports : IsPermutation (deliveries_of i hs ++ map to_deliver (copies_of i s.flying)) (sent_of t set)
  pub loss : losses_of i hs ≡ lost_of t set ∷ []

-- for packet i nothing changed
pub record Same (i : ℕ) (s s' : Net) (hs hs' : List Happening) : Type 0 where
  pub copies : copies_of i s'.flying ≡ copies_of i s.flying
  pub deliveries : deliveries_of i hs' ≡ deliveries_of i hs
  pub losses : losses_of i hs' ≡ losses_of i hs

pub quiet_still : {i : ℕ} {s s' : Net} {hs hs' : List Happening} → Same i s s' hs hs' → IsQuiet i hs → IsQuiet i hs'
quiet_still same q = record { deliveries = same.deliveries ∙ q.deliveries; losses = same.losses ∙ q.losses }

pub leaving_still : {t : Tables} {i : ℕ} {set : PacketSet} {s s' : Net} {hs hs' : List Happening} → Same i s s' hs hs' → Leaving t i set s hs → Leaving t i set s' hs'
leaving_still {t = t} {set = set} same l = record {
  out = subst (All IsLeaving) (sym same.copies) l.out;
  ports = subst (λ x. IsPermutation x (sent_of t set)) (sym (λ y. same.deliveries y ++ map to_deliver (same.copies y))) l.ports;
  loss = same.losses ∙ l.loss;
}

-- what has come out stays so
pub came_still : {t : Tables} {i : ℕ} {set : PacketSet} (hs gs : List Happening) → IsQuiet i gs → CameOut t i set hs → CameOut t i set (hs ++ gs)
came_still {t = t} {i = i} {set = set} hs gs q came = record {
  ports = subst (λ x. IsPermutation x (sent_of t set)) (sym (deliveries_of-append i hs gs ∙ ap (λ x. deliveries_of i hs ++ x) q.deliveries ∙ append-nil _)) came.ports;
  loss = losses_of-append i hs gs ∙ ap (λ x. losses_of i hs ++ x) q.losses ∙ append-nil _ ∙ came.loss;
}

-- once no copy is left the packet has come out
pub came_out : {t : Tables} {i : ℕ} {set : PacketSet} {s : Net} {hs : List Happening} → s.flying ≡ [] → Leaving t i set s hs → CameOut t i set hs
came_out {t = t} {i = i} {set = set} {hs = hs} none l = record {
  ports = subst (λ x. IsPermutation x (sent_of t set)) (ap (λ f. deliveries_of i hs ++ map to_deliver (copies_of i f)) none ∙ append-nil (deliveries_of i hs)) l.ports;
  loss = l.loss;
}

-- ---- lists
pub split_up : {A : Type 0} (xs : List A) (j : ℕ) (c : A) → slice_get xs j ≡ Some c → xs ≡ take j xs ++ c ∷ drop (j + 1) xs
split_up xs j c found = split_at xs j c (slice_get_within xs j c found) ∙ (λ i. take j xs ++ get_or_from_slice_get xs j c c found i ∷ drop (next i) xs)
  where
    next : suc j ≡ j + 1
    next = omega arith

hands_over : {X : Type 0} (ds fs bs target : List X) (x : X) → IsPermutation (ds ++ (fs ++ x ∷ bs)) target → IsPermutation ((ds ++ x ∷ []) ++ (fs ++ bs)) target
hands_over ds fs bs target x perm =
    subst (λ l. IsPermutation l target) (sym (append_assoc ds (x ∷ []) (fs ++ bs)))
    (IsPermutation-trans _ _ _ (IsPermutation-append_right ds (x ∷ (fs ++ bs)) (fs ++ x ∷ bs) (IsPermutation-sym _ _ (IsPermutation-middle fs x bs))) perm)

-- ---- the copies that take the place of one
forks_none : (i : ℕ) (c : Copy) → c.number ≢ i → (xs : List Sent) → copies_of i (map (split_off c) xs) ≡ []
forks_none i c ne [] = refl
forks_none i c ne (x ∷ xs) = ap (λ b. cond b (split_off c x ∷ copies_of i (map (split_off c) xs)) (copies_of i (map (split_off c) xs))) (ne_eqb c.number i ne) ∙ forks_none i c ne xs

pub forks_all : (c : Copy) (xs : List Sent) → copies_of c.number (map (split_off c) xs) ≡ map (split_off c) xs
forks_all c [] = refl
forks_all c (x ∷ xs) = λ y. cond (eq-eqb c.number c.number refl y) (split_off c x ∷ forks_all c xs y) (forks_all c xs y)

moved_none : (i : ℕ) (c : Copy) (a : Action) → c.number ≢ i → copies_of i (moved c a) ≡ []
moved_none i c (Forward to head) ne = ap (λ b. cond b (record c { at = to; head = head; hops = c.hops + 1; steps = c.steps + 1 } ∷ []) []) (ne_eqb c.number i ne)
moved_none i c (Deliver port) ne = refl
moved_none i c (Fork xs l) ne = forks_none i c ne xs

fork_sends : (c : Copy) (ks : List (List ℕ)) → map to_deliver (map (split_off c) (map sent ks)) ≡ map sent ks
fork_sends c [] = refl
fork_sends c (k ∷ ks) = ap (λ l. sent k ∷ l) (fork_sends c ks)

pub happens_elsewhere : (i : ℕ) (c : Copy) (a : Action) → c.number ≢ i → IsQuiet i (happening c a ∷ [])
happens_elsewhere i c (Forward to head) ne = record { deliveries = refl; losses = refl }
happens_elsewhere i c (Deliver port) ne = record { deliveries = ap (λ b. cond b (record { port = port; packet = c.packet } ∷ []) []) (ne_eqb c.number i ne); losses = refl }
happens_elsewhere i c (Fork xs l) ne = record { deliveries = refl; losses = ap (λ b. cond b (l ∷ []) []) (ne_eqb c.number i ne) }

-- ---- a step of copy c
module _ (s : Net) (c : Copy) (j : ℕ) (found : slice_get s.flying j ≡ Some c) where
  -- the other copies of its packet
  abbrev pub front : List Copy
  front = copies_of c.number (take j s.flying)

  abbrev pub back : List Copy
  back = copies_of c.number (drop (j + 1) s.flying)

  pub copies_before : (i : ℕ) → copies_of i s.flying ≡ copies_of i (take j s.flying) ++ cond (nat_eq c.number i) (c ∷ copies_of i (drop (j + 1) s.flying)) (copies_of i (drop (j + 1) s.flying))
  copies_before i = ap (copies_of i) (split_up s.flying j c found) ∙ filter-append (λ (c : Copy). nat_eq c.number i) (take j s.flying) (c ∷ drop (j + 1) s.flying)

  pub copies_own : copies_of c.number s.flying ≡ front ++ c ∷ back
  copies_own = copies_before c.number ∙ ap (λ b. front ++ cond b (c ∷ back) back) (eq-eqb c.number c.number refl)

  copies_after : (i : ℕ) (m : Arrays) (a : Action) → copies_of i (stepped s j c m a).flying ≡ copies_of i (take j s.flying) ++ (copies_of i (moved c a) ++ copies_of i (drop (j + 1) s.flying))
  copies_after i m a =
      filter-append (λ (c : Copy). nat_eq c.number i) (take j s.flying) (moved c a ++ drop (j + 1) s.flying)
      ∙ ap (λ l. copies_of i (take j s.flying) ++ l) (filter-append (λ (c : Copy). nat_eq c.number i) (moved c a) (drop (j + 1) s.flying))

  -- where another copy takes its place
  pub copies_moved : (m : Arrays) (a : Action) (xs : List Copy) → copies_of c.number (moved c a) ≡ xs → copies_of c.number (stepped s j c m a).flying ≡ front ++ (xs ++ back)
  copies_moved m a xs e = copies_after c.number m a ∙ ap (λ l. front ++ (l ++ back)) e

  copies_other : (i : ℕ) (m : Arrays) (a : Action) → c.number ≢ i → copies_of i (stepped s j c m a).flying ≡ copies_of i s.flying
  copies_other i m a ne =
      copies_after i m a
      ∙ ap (λ l. copies_of i (take j s.flying) ++ (l ++ copies_of i (drop (j + 1) s.flying))) (moved_none i c a ne)
      ∙ sym (copies_before i ∙ ap (λ b. copies_of i (take j s.flying) ++ cond b (c ∷ copies_of i (drop (j + 1) s.flying)) (copies_of i (drop (j + 1) s.flying))) (ne_eqb c.number i ne))

  -- for other packets nothing changes
  pub others_same : (i : ℕ) (m : Arrays) (a : Action) (hs : List Happening) → c.number ≢ i → Same i s (stepped s j c m a) hs (hs ++ happening c a ∷ [])
  others_same i m a hs ne =
      let q = happens_elsewhere i c a ne in record {
        copies = copies_other i m a ne;
        deliveries = deliveries_of-append i hs _ ∙ ap (λ l. deliveries_of i hs ++ l) q.deliveries ∙ append-nil _;
        losses = losses_of-append i hs _ ∙ ap (λ l. losses_of i hs ++ l) q.losses ∙ append-nil _;
      }

  pub own_leaves : All IsLeaving (copies_of c.number s.flying) → IsLeaving c
  own_leaves all = All-head IsLeaving c back (All-back IsLeaving front (c ∷ back) (subst (All IsLeaving) copies_own all))

  to_deliver_before : map to_deliver (copies_of c.number s.flying) ≡ map to_deliver front ++ to_deliver c ∷ map to_deliver back
  to_deliver_before = ap (map to_deliver) copies_own ∙ map-append to_deliver front (c ∷ back)

  -- ---- a copy on its way to its port
  after_delivery : copies_of c.number (stepped s j c (s.stores c.at) (Deliver (slice_index c.packet 1))).flying ≡ front ++ back
  after_delivery = copies_moved (s.stores c.at) (Deliver (slice_index c.packet 1)) [] refl

  after_crossing : (x : ℕ) → copies_of c.number (stepped s j c (s.stores c.at) (Forward x (Out (slice_index c.packet 1)))).flying ≡ front ++ carried c x ∷ back
  after_crossing x = copies_moved (s.stores c.at) (Forward x (Out (slice_index c.packet 1))) (carried c x ∷ []) (ap (λ b. cond b (carried c x ∷ []) []) (eq-eqb c.number c.number refl))

  pub leaves_on : {m : Arrays} {a : Action} → OutDoes (slice_index c.packet 1) (s.stores c.at) m a → All IsLeaving (copies_of c.number s.flying) → All IsLeaving (copies_of c.number (stepped s j c m a).flying)
  leaves_on out all = by out
    where
      mine : All IsLeaving (front ++ c ∷ back)
      mine = subst (All IsLeaving) copies_own all

      front_leaves : All IsLeaving front
      front_leaves = All-front IsLeaving front (c ∷ back) mine

      back_leaves : All IsLeaving back
      back_leaves = All-tail IsLeaving c back (All-back IsLeaving front (c ∷ back) mine)

      by : {m : Arrays} {a : Action} → OutDoes (slice_index c.packet 1) (s.stores c.at) m a → All IsLeaving (copies_of c.number (stepped s j c m a).flying)
      by is_delivered = subst (All IsLeaving) (sym after_delivery) (All-append IsLeaving front back front_leaves back_leaves)
      by (is_carried {x = x}) = subst (All IsLeaving) (sym (after_crossing x)) (All-append IsLeaving front (carried c x ∷ back) front_leaves (All-cons IsLeaving (carried c x) back refl back_leaves))

  pub leaving_on : {t : Tables} {set : PacketSet} {hs : List Happening} {m : Arrays} {a : Action} → OutDoes (slice_index c.packet 1) (s.stores c.at) m a → Leaving t c.number set s hs
      → Leaving t c.number set (stepped s j c m a) (hs ++ happening c a ∷ [])
  leaving_on {t = t} {set = set} {hs = hs} out l = record { out = leaves_on out l.out; ports = ports out; loss = loss out }
    where
      ports : {m : Arrays} {a : Action} → OutDoes (slice_index c.packet 1) (s.stores c.at) m a
          → IsPermutation (deliveries_of c.number (hs ++ happening c a ∷ []) ++ map to_deliver (copies_of c.number (stepped s j c m a).flying)) (sent_of t set)
      ports is_delivered =
          subst (λ x. IsPermutation x (sent_of t set))
          (sym (λ y. (deliveries_of-append c.number hs (happening c (Deliver (slice_index c.packet 1)) ∷ []) ∙ ap (λ b. deliveries_of c.number hs ++ cond b (to_deliver c ∷ []) []) (eq-eqb c.number c.number refl)) y
          ++ (ap (map to_deliver) after_delivery ∙ map-append to_deliver front back) y))
          (hands_over (deliveries_of c.number hs) (map to_deliver front) (map to_deliver back) (sent_of t set) (to_deliver c)
          (subst (λ q. IsPermutation (deliveries_of c.number hs ++ q) (sent_of t set)) to_deliver_before l.ports))
      ports (is_carried {x = x}) =
          subst (λ q. IsPermutation q (sent_of t set))
          (sym (λ y. (deliveries_of-append c.number hs (happening c (Forward x (Out (slice_index c.packet 1))) ∷ []) ∙ append-nil _) y
          ++ (ap (map to_deliver) (after_crossing x) ∙ map-append to_deliver front (carried c x ∷ back) ∙ sym to_deliver_before) y))
          l.ports

      loss : {m : Arrays} {a : Action} → OutDoes (slice_index c.packet 1) (s.stores c.at) m a → losses_of c.number (hs ++ happening c a ∷ []) ≡ lost_of t set ∷ []
      loss is_delivered = losses_of-append c.number hs _ ∙ append-nil _ ∙ l.loss
      loss is_carried = losses_of-append c.number hs _ ∙ append-nil _ ∙ l.loss

  -- the only copy of a packet forks
  pub leaving_begins : (t : Tables) (set : PacketSet) (hs : List Happening) (m : Arrays) → front ≡ [] → back ≡ [] → IsQuiet c.number hs
      → Leaving t c.number set (stepped s j c m (Fork (sent_of t set) (lost_of t set))) (hs ++ happening c (Fork (sent_of t set) (lost_of t set)) ∷ [])
  leaving_begins t set hs m no_front no_back quiet = record {
    out = subst (All IsLeaving) (sym after) (All-map IsLeaving (split_off c) (sent_of t set) (All-map (λ x. IsLeaving (split_off c x)) sent (delivered (port_numbers t) set) (λ i d l. refl)));
    ports = subst (λ l. IsPermutation l (sent_of t set))
        (sym ((λ y. (deliveries_of-append c.number hs (happening c (Fork (sent_of t set) (lost_of t set)) ∷ []) ∙ append-nil _ ∙ quiet.deliveries) y ++ map to_deliver (after y)) ∙ fork_sends c (delivered (port_numbers t) set))) (IsPermutation-refl (sent_of t set));
    loss = losses_of-append c.number hs _ ∙ (λ y. quiet.losses y ++ cond (eq-eqb c.number c.number refl y) (lost_of t set ∷ []) []);
  }
    where
      after : copies_of c.number (stepped s j c m (Fork (sent_of t set) (lost_of t set))).flying ≡ map (split_off c) (sent_of t set)
      after = copies_moved m (Fork (sent_of t set) (lost_of t set)) _ (forks_all c (sent_of t set)) ∙ (λ y. no_front y ++ (map (split_off c) (sent_of t set) ++ no_back y)) ∙ append-nil _

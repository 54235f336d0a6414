-- Runs in any order of events, over tables where a copy does in one step all that the program does.
use Rattle.std.proofs.Common.{◌≡◌, ◌≢◌, ℕ, zero, suc, ◌+◌, ◌<◌, ◌≤◌, ◌⊎◌, inl, inr, ⊎_elim, Bool, true, false, cond, List, [], ◌∷◌, ◌++◌, take, drop, length, map, Option, Some, refl, sym, ap, subst, ◌∙◌, arith, append_assoc}
use Rattle.std.specs.Prelude.{slice_get, slice_index, slice_index_or, nat_eq}
use Rattle.std.specs.List.{All, filter, range_with_len}
use Rattle.std.specs.List.Sorted.{IsPermutation}
use Rattle.std.proofs.lemmas.Bool.{eqb-true, eqb-false, eq-eqb, ne_eqb, cases_lt}
use Rattle.std.proofs.lemmas.List.{append-nil, length-append, map-append}
use Rattle.std.proofs.lemmas.List.Elements.{filter-append}
use Rattle.std.proofs.lemmas.List.Sorted.{IsPermutation-trans, IsPermutation-append_right, IsPermutation-append_left, IsPermutation-middle, IsPermutation-sym}
use Rattle.std.proofs.lemmas.Option.{none-some, slice_get_within, same_Some}
use Rattle.snap_core.specs.declared.policy.Pol.{Pol}
use Rattle.snap_core.specs.Arrays.{Arrays}
use Rattle.snap_core.specs.Inputs.{IsStore, IsPacket}
use Rattle.snap_core.specs.Packets.{PacketSet}
use Rattle.snap_core.specs.Meaning.{Meaning, eval}
use Rattle.snap_core.specs.Switch.{Switched, one_big_switch}
use Rattle.snap_rows.specs.declared.tables.Tables.{Tables}
use Rattle.snap_rows.specs.Actions.{Action, Forward, Deliver, Fork}
use Rattle.snap_rows.specs.declared.head.Head.{Head}
use Rattle.snap_rows.specs.declared.head.Head.TheVariants.{Walk, Out}
use Rattle.snap_rows.specs.declared.head.Sent.{Sent}
use Rattle.snap_rows.specs.Handles.{Handles}
use Rattle.snap_rows.specs.Network as network
use Rattle.snap_rows.specs.Network.{Net, Copy, Event, Inject, Step, Happening, Crossed, Delivered, Forked, Leads, inject, step, Runs, moved, happening, stepped, injected, packets_of}
use Rattle.snap_rows.specs.Happenings.{commits}
use Rattle.snap_faithful.specs.Agreement.{sent_of, lost_of, numbered, in_order}
use Rattle.snap_faithful.specs.Faithful.{packets_in}
use Rattle.snap_dep.specs.Locality.{NeverRaces}
use Rattle.snap_faithful.proofs.Holding.{HoldsOf, NetHoldsOf, OthersOf, held_after, same_store}
use Rattle.snap_faithful.proofs.Nodes.{OutDoes, is_delivered, is_carried, out_does}
use Rattle.snap_faithful.proofs.Leaving.{copies_of, IsLeaving, IsQuiet, quiet_still, quiet_more, Leaving, leaving_still, Same, split_off, split_up, front, back, copies_own, copies_moved, others_same, own_leaves, leaves_on, leaving_on, leaving_begins}
use Rattle.snap_faithful.proofs.Switching.{KeepsStores, behind, switched_more, in_pushed, some_eval, picked_at}

-- ---- lists
pub only_one : {A : Type 0} (xs : List A) (c d : A) (ys : List A) → xs ++ c ∷ ys ≡ d ∷ [] → (xs ≡ []) × (c ≡ d) × (ys ≡ [])
only_one [] c d ys e = (refl, same_Some c d (ap (λ l. slice_get l 0) e), ap (drop 1) e)
only_one (x ∷ xs) c d ys e = absurd (let n : suc (length (xs ++ c ∷ ys)) ≡ 1 = ap length e in let m = length-append xs (c ∷ ys) in omega (arith, n, m))

pub range_more : (a n : ℕ) → range_with_len a (suc n) ≡ range_with_len a n ++ (a + n) ∷ []
range_more a zero = ap (λ x. x ∷ []) (omega arith)
range_more a (suc n) = ap (λ l. a ∷ l) (range_more (a + 1) n ∙ ap (λ x. range_with_len (a + 1) n ++ x ∷ []) (omega arith))

pub one_longer : {A : Type 0} (xs : List A) (x : A) → length (xs ++ x ∷ []) ≡ suc (length xs)
one_longer xs x = length-append xs (x ∷ []) ∙ omega arith

-- of one number and of the others, something is so of each
pub split_by : (x i : ℕ) (P : ℕ → Type 0) → P x → (x ≢ i → P i) → P i
split_by x i P own other = by (nat_eq x i) refl
  where
    by : (b : Bool) → nat_eq x i ≡ b → P i
    by true is = subst P (eqb-true x i is) own
    by false isnt = other (eqb-false x i isnt)

-- one number of the second list goes over to the first
pub commits_one : (ds fs bs target : List ℕ) (x : ℕ) → IsPermutation (ds ++ (fs ++ x ∷ bs)) target → IsPermutation ((ds ++ x ∷ []) ++ (fs ++ bs)) target
commits_one ds fs bs target x perm =
    subst (λ l. IsPermutation l target) (sym (append_assoc ds (x ∷ []) (fs ++ bs)))
    (IsPermutation-trans _ _ _ (IsPermutation-append_right ds (x ∷ (fs ++ bs)) (fs ++ x ∷ bs) (IsPermutation-sym _ _ (IsPermutation-middle fs x bs))) perm)

-- ---- copies that haven't forked
abbrev pub is_unforked : Head → Bool
is_unforked (Out p) = false
is_unforked _ = true

-- their numbers
abbrev pub early_in : List Copy → List ℕ
early_in cs = map (λ (c : Copy). c.number) (filter (λ (c : Copy). is_unforked c.head) cs)

pub early_more : (xs ys : List Copy) → early_in (xs ++ ys) ≡ early_in xs ++ early_in ys
early_more xs ys =
    ap (map (λ (c : Copy). c.number)) (filter-append (λ (c : Copy). is_unforked c.head) xs ys)
    ∙ map-append (λ (c : Copy). c.number) (filter (λ (c : Copy). is_unforked c.head) xs) (filter (λ (c : Copy). is_unforked c.head) ys)

pub forks_late : (c : Copy) (xs : List Sent) → early_in (map (split_off c) xs) ≡ []
forks_late c [] = refl
forks_late c (x ∷ xs) = forks_late c xs

pub commits_more : (hs gs : List Happening) → commits (hs ++ gs) ≡ commits hs ++ commits gs
commits_more [] gs = refl
commits_more (Forked c n l ∷ hs) gs = ap (λ x. c.number ∷ x) (commits_more hs gs)
commits_more (Crossed c x h ∷ hs) gs = commits_more hs gs
commits_more (Delivered c port ∷ hs) gs = commits_more hs gs

module _ (s : Net) (c : Copy) (j : ℕ) (found : slice_get s.flying j ≡ Some c) where
  pub early_before : early_in s.flying ≡ early_in (take j s.flying) ++ early_in (c ∷ drop (j + 1) s.flying)
  early_before = ap early_in (split_up s.flying j c found) ∙ early_more (take j s.flying) (c ∷ drop (j + 1) s.flying)

  pub early_after : (m : Arrays) (a : Action) → early_in (stepped s j c m a).flying ≡ early_in (take j s.flying) ++ (early_in (moved c a) ++ early_in (drop (j + 1) s.flying))
  early_after m a = early_more (take j s.flying) (moved c a ++ drop (j + 1) s.flying) ∙ ap (λ l. early_in (take j s.flying) ++ l) (early_more (moved c a) (drop (j + 1) s.flying))

  abbrev pub first_of : Bool → List ℕ
  first_of b = map (λ (c : Copy). c.number) (cond b (c ∷ filter (λ (c : Copy). is_unforked c.head) (drop (j + 1) s.flying)) (filter (λ (c : Copy). is_unforked c.head) (drop (j + 1) s.flying)))

  -- where the copy is early, and where it isn't
  pub early_before_is : (b : Bool) → is_unforked c.head ≡ b → early_in s.flying ≡ early_in (take j s.flying) ++ first_of b
  early_before_is b e = early_before ∙ ap (λ x. early_in (take j s.flying) ++ first_of x) e

-- ---- what is known of them
-- the step at w of such a copy: it moves on, or does all that the program does with the packet
pub data EarlyDoes (t : Tables) (owner : ℕ → Option ℕ) (IsEarly : Head → Type 0) (m : Arrays) (o : Meaning) (w : ℕ) (s : Arrays) : Arrays → Action → Type 0 where
  moves_on : {s' : Arrays} {x : ℕ} {head : Head} → s' ≡ s → IsEarly head → EarlyDoes t owner IsEarly m o w s s' (Forward x head)
  does_all : {s' : Arrays} {set : PacketSet} → o.packets ≡ set → HoldsOf owner w s' o.arrays → OthersOf owner w m o.arrays → EarlyDoes t owner IsEarly m o w s s' (Fork (sent_of t set) (lost_of t set))

pub record Early (p : Pol) (c : ℕ) (t : Tables) (owner : ℕ → Option ℕ) : Type 1 where
  pub IsEarly : List ℕ → Head → Type 0
  pub enters : (k : List ℕ) → IsEarly k (Walk 0)
  pub before : {k : List ℕ} {head : Head} → IsEarly k head → is_unforked head ≡ true
  pub does : (k : List ℕ) (m : Arrays) (o : Meaning) → IsStore m → IsPacket c k → eval p m k ≡ Some o
      → {w : ℕ} {head : Head} {s s' : Arrays} {a : Action} → IsEarly k head → HoldsOf owner w s m → Handles t w k s head s' a → EarlyDoes t owner (IsEarly k) m o w s s' a

module _ (p : Pol) (c : ℕ) (t : Tables) (owner : ℕ → Option ℕ) (never : NeverRaces p c) (copies : Early p c t owner) (keeps : KeepsStores p c) (m0 : Arrays) (all : List (List ℕ)) where
  -- ---- where the packets are
  abbrev pick : ℕ → List ℕ
  pick i = slice_index_or all i []

  -- nothing is told of packet i, and it hasn't forked
  pub record IsNew (i : ℕ) (hs : List Happening) : Type 0 where
    pub quiet : IsQuiet i hs
    pub uncommitted : (j : ℕ) → slice_get (commits hs) j ≡ Some i → ⊥

  pub record Unseen (i : ℕ) (s : Net) (hs : List Happening) : Type 0 where
    pub new : IsNew i hs
    pub none : copies_of i s.flying ≡ []

  -- it has one copy, which hasn't forked
  pub record Waits (i : ℕ) (s : Net) (hs : List Happening) : Type 0 where
    pub new : IsNew i hs
    pub copy : Copy
    pub only : copies_of i s.flying ≡ copy ∷ []
    pub early : copies.IsEarly (pick i) copy.head
    pub packet : copy.packet ≡ pick i

  -- all its copies are on their way out
  abbrev pub Leaves : ℕ → Net → Type 0
  Leaves i s = All IsLeaving (copies_of i s.flying)

  -- the packets pre have been injected: one big switch over those that forked, in this order, tells what became of them and what the switches hold
  pub record State (pre : List (List ℕ)) (s : Net) (hs : List Happening) : Type 0 where
    pub end : Switched
    pub switched : one_big_switch p m0 (in_order all (commits hs)) ≡ Some end
    pub long : length end.packets ≡ length (commits hs)
    pub store : IsStore end.arrays
    pub held : NetHoldsOf owner s end.arrays
    pub count : s.injected ≡ length pre
    pub shuffled : IsPermutation (commits hs ++ early_in s.flying) (numbered pre)
    pub came : (j i : ℕ) (set : PacketSet) → slice_get (commits hs) j ≡ Some i → slice_get end.packets j ≡ Some set → Leaving t i set s hs
    pub each : (i : ℕ) → i < length pre → Waits i s hs ⊎ Leaves i s
    pub fresh : (i : ℕ) → length pre ≤ i → Unseen i s hs

  -- ---- another packet
  record SameOf (i : ℕ) (s s' : Net) (hs hs' : List Happening) : Type 0 where
    same : Same i s s' hs hs'
    commits : (j : ℕ) → slice_get (commits hs') j ≡ Some i → slice_get (commits hs) j ≡ Some i

  module _ (i : ℕ) (s s' : Net) (hs hs' : List Happening) (o : SameOf i s s' hs hs') where
    new_still : IsNew i hs → IsNew i hs'
    new_still q = record { quiet = quiet_still o.same q.quiet; uncommitted = λ j e. q.uncommitted j (o.commits j e) }

    unseen_still : Unseen i s hs → Unseen i s' hs'
    unseen_still u = record { new = new_still u.new; none = o.same.copies ∙ u.none }

    each_still : Waits i s hs ⊎ Leaves i s → Waits i s' hs' ⊎ Leaves i s'
    each_still (inl w) = inl (record { new = new_still w.new; copy = w.copy; only = o.same.copies ∙ w.only; early = w.early; packet = w.packet })
    each_still (inr l) = inr (subst (All IsLeaving) (sym o.same.copies) l)

  -- ---- injection
  abbrev entering : Net → ℕ → List ℕ → Copy
  entering s w k = record { number = s.injected; at = w; head = Walk 0; packet = k; hops = 0; steps = 0 }

  enter : (pre : List (List ℕ)) (s s' : Net) (hs h : List Happening) (port : ℕ) (k : List ℕ) → pick (length pre) ≡ k → State pre s hs → Leads t s (Inject port k) s' h → State (pre ++ k ∷ []) s' (hs ++ h)
  enter pre s s' hs h port k is st (inject {w = w} own names) = subst (State (pre ++ k ∷ []) (injected s w port k)) (sym (append-nil hs)) state
    where
      injects : (i : ℕ) → copies_of i (injected s w port k).flying ≡ copies_of i s.flying ++ cond (nat_eq s.injected i) (entering s w k ∷ []) []
      injects i = filter-append (λ (c : Copy). nat_eq c.number i) s.flying (entering s w k ∷ [])

      others : (i : ℕ) → s.injected ≢ i → SameOf i s (injected s w port k) hs hs
      others i ne = record {
        same = record { copies = injects i ∙ ap (λ b. copies_of i s.flying ++ cond b (entering s w k ∷ []) []) (ne_eqb s.injected i ne) ∙ append-nil _; deliveries = refl; losses = refl };
        commits = λ j e. e;
      }

      longer : length (pre ++ k ∷ []) ≡ suc (length pre)
      longer = one_longer pre k

      here : Unseen (length pre) s hs
      here = st.fresh (length pre) (omega arith)

      waits : Waits (length pre) (injected s w port k) hs
      waits = record {
        new = here.new;
        copy = entering s w k;
        only = injects (length pre) ∙ (λ x. here.none x ++ cond (eq-eqb s.injected (length pre) st.count x) (entering s w k ∷ []) []);
        early = copies.enters (pick (length pre));
        packet = sym is;
      }

      numbers : numbered (pre ++ k ∷ []) ≡ numbered pre ++ s.injected ∷ []
      numbers = ap (range_with_len 0) longer ∙ range_more 0 (length pre) ∙ ap (λ x. numbered pre ++ x ∷ []) (let y = st.count in omega (arith, y))

      state : State (pre ++ k ∷ []) (injected s w port k) hs
      state = record {
        end = st.end;
        switched = st.switched;
        long = st.long;
        store = st.store;
        held = st.held;
        count = ap (λ x. x + 1) st.count ∙ (let l = longer in omega (arith, l));
        shuffled = subst (IsPermutation (commits hs ++ early_in (s.flying ++ entering s w k ∷ []))) (sym numbers)
            (subst (λ l. IsPermutation l (numbered pre ++ s.injected ∷ []))
            (append_assoc (commits hs) (early_in s.flying) (s.injected ∷ []) ∙ ap (λ l. commits hs ++ l) (sym (early_more s.flying (entering s w k ∷ []))))
            (IsPermutation-append_left (s.injected ∷ []) (commits hs ++ early_in s.flying) (numbered pre) st.shuffled));
        came = λ j i set e f. leaving_still (others i (λ x. here.new.uncommitted j (e ∙ ap Some (sym x ∙ st.count)))).same (st.came j i set e f);
        each = λ i l.
            ⊎_elim
            (λ old. each_still i s (injected s w port k) hs hs (others i (λ x. (let y = st.count in omega (arith, x, y, old)))) (st.each i old))
            (λ new. inl (subst (λ y. Waits y (injected s w port k) hs) (let y = longer in omega (arith, l, new, y)) waits))
            (cases_lt i (length pre));
        fresh = λ i l. unseen_still i s (injected s w port k) hs hs (others i (λ x. (let y = st.count in let z = longer in omega (arith, x, y, z, l)))) (st.fresh i (let z = longer in omega (arith, z, l)));
      }

  -- ---- steps
  module _ (pre : List (List ℕ)) (packets : (i : ℕ) → i < length pre → IsPacket c (pick i)) (s : Net) (hs : List Happening) (st : State pre s hs)
      (x : Copy) (j : ℕ) (found : slice_get s.flying j ≡ Some x) (m : Arrays) where
    others : (a : Action) (i : ℕ) → x.number ≢ i → SameOf i s (stepped s j x m a) hs (hs ++ happening x a ∷ [])
    others a i ne = record { same = others_same s x j found i m a hs ne; commits = old a }
      where
        old : (a : Action) (y : ℕ) → slice_get (commits (hs ++ happening x a ∷ [])) y ≡ Some i → slice_get (commits hs) y ≡ Some i
        old (Forward to head) y e = subst (λ l. slice_get l y ≡ Some i) (commits_more hs _ ∙ append-nil _) e
        old (Deliver port) y e = subst (λ l. slice_get l y ≡ Some i) (commits_more hs _ ∙ append-nil _) e
        old (Fork copies l) y e = ⊎_elim (λ o. o) (λ n. absurd (ne n.1)) (in_pushed (commits hs) x.number i y (subst (λ l. slice_get l y ≡ Some i) (commits_more hs _) e))

    -- a copy in flight has a number that was injected
    below : x.number < length pre
    below =
        ⊎_elim (λ l. l)
        (λ l. absurd (none-some x (sym (ap (λ y. slice_get y 0) (all_gone _ (sym (copies_own s x j found) ∙ (st.fresh x.number l).none))))))
        (cases_lt x.number (length pre))
      where
        all_gone : (fs : List Copy) → fs ++ x ∷ back s x j found ≡ [] → x ∷ back s x j found ≡ []
        all_gone [] e = e
        all_gone (f ∷ fs) e = absurd (let n : suc (length (fs ++ x ∷ back s x j found)) ≡ 0 = ap length e in omega (arith, n))

    -- a step that commits nothing
    quietly : (a : Action) → commits (happening x a ∷ []) ≡ [] → NetHoldsOf owner (stepped s j x m a) st.end.arrays → early_in (stepped s j x m a).flying ≡ early_in s.flying
        → ((y : ℕ) (set : PacketSet) → slice_get (commits hs) y ≡ Some x.number → Leaving t x.number set s hs → Leaving t x.number set (stepped s j x m a) (hs ++ happening x a ∷ []))
        → (Waits x.number (stepped s j x m a) (hs ++ happening x a ∷ []) ⊎ Leaves x.number (stepped s j x m a))
        → State pre (stepped s j x m a) (hs ++ happening x a ∷ [])
    quietly a nothing held early came own = record {
      end = st.end;
      switched = ap (λ l. one_big_switch p m0 (in_order all l)) none ∙ st.switched;
      long = st.long ∙ ap length (sym none);
      store = st.store;
      held = held;
      count = st.count;
      shuffled = subst (λ l. IsPermutation l (numbered pre)) (sym (λ y. none y ++ early y)) st.shuffled;
      came = λ y i set e f. came_on y i set (subst (λ l. slice_get l y ≡ Some i) none e) f;
      each = λ i l.
          split_by x.number i (λ y. Waits y (stepped s j x m a) (hs ++ happening x a ∷ []) ⊎ Leaves y (stepped s j x m a)) own
          (λ ne. each_still i s (stepped s j x m a) hs (hs ++ happening x a ∷ []) (others a i ne) (st.each i l));
      fresh = λ i l. unseen_still i s (stepped s j x m a) hs (hs ++ happening x a ∷ []) (others a i (λ y. (let z = below in omega (arith, y, z, l)))) (st.fresh i l);
    }
      where
        none : commits (hs ++ happening x a ∷ []) ≡ commits hs
        none = commits_more hs (happening x a ∷ []) ∙ ap (λ l. commits hs ++ l) nothing ∙ append-nil (commits hs)

        came_on : (y i : ℕ) (set : PacketSet) → slice_get (commits hs) y ≡ Some i → slice_get st.end.packets y ≡ Some set → Leaving t i set (stepped s j x m a) (hs ++ happening x a ∷ [])
        came_on y i set e f = by (nat_eq x.number i) refl
          where
            by : (b : Bool) → nat_eq x.number i ≡ b → Leaving t i set (stepped s j x m a) (hs ++ happening x a ∷ [])
            by true is =
                let eq = eqb-true x.number i is in
                subst (λ z. Leaving t z set (stepped s j x m a) (hs ++ happening x a ∷ [])) eq (came y set (e ∙ ap Some (sym eq)) (subst (λ z. Leaving t z set s hs) (sym eq) (st.came y i set e f)))
            by false isnt = leaving_still (others a i (eqb-false x.number i isnt)).same (st.came y i set e f)

    -- ---- a copy on its way to a port
    out_step : Leaves x.number s → {a : Action} → OutDoes (slice_index x.packet 1) (s.stores x.at) m a → State pre (stepped s j x m a) (hs ++ happening x a ∷ [])
    out_step leaves {a = a} out =
        quietly a (nothing out) (held_after owner s x j m a st.end.arrays st.end.arrays st.held (same_store owner s x st.end.arrays st.held out) (λ w' ne q at. refl))
        (early_after s x j found m a ∙ ap (λ l. early_in (take j s.flying) ++ (l ++ early_in (drop (j + 1) s.flying))) (late out) ∙ sym (early_before_is s x j found false (ap is_unforked (own_leaves s x j found leaves))))
        (λ y set e left. leaving_on s x j found out left) (inr (leaves_on s x j found out leaves))
      where
        nothing : {s1 s2 : Arrays} {a : Action} → OutDoes (slice_index x.packet 1) s1 s2 a → commits (happening x a ∷ []) ≡ []
        nothing is_delivered = refl
        nothing is_carried = refl

        late : {s1 s2 : Arrays} {a : Action} → OutDoes (slice_index x.packet 1) s1 s2 a → early_in (moved x a) ≡ []
        late is_delivered = refl
        late is_carried = refl

    -- ---- a copy that hasn't forked
    abbrev waiting : ℕ → Head → Copy
    waiting y v = record x { at = y; head = v; hops = x.hops + 1; steps = x.steps + 1 }

    early_one : (y : ℕ) (v : Head) → is_unforked v ≡ true → early_in (moved x (Forward y v)) ≡ x.number ∷ []
    early_one y v e = ap (λ b. map (λ (c : Copy). c.number) (cond b (waiting y v ∷ []) [])) e

    abbrev fork_of : PacketSet → Action
    fork_of set = Fork (sent_of t set) (lost_of t set)

    early_step : (w : Waits x.number s hs) → copies.IsEarly (pick x.number) x.head → x.packet ≡ pick x.number → front s x j found ≡ [] → back s x j found ≡ []
        → (o : Meaning) → eval p st.end.arrays (pick x.number) ≡ Some o → {a : Action} → EarlyDoes t owner (copies.IsEarly (pick x.number)) st.end.arrays o x.at (s.stores x.at) m a → State pre (stepped s j x m a) (hs ++ happening x a ∷ [])
    early_step w early packet no_front no_back o outcome (moves_on {x = y} {head = v} same at) =
        quietly (Forward y v) refl (held_after owner s x j m (Forward y v) st.end.arrays st.end.arrays st.held (λ q at. (λ z. same z q) ∙ st.held x.at q at) (λ w' ne q at. refl))
        (early_after s x j found m (Forward y v) ∙ ap (λ l. early_in (take j s.flying) ++ (l ++ early_in (drop (j + 1) s.flying))) (early_one y v (copies.before at)) ∙ sym (early_before_is s x j found true (copies.before early)))
        (λ z set e left. absurd (w.new.uncommitted z e))
        (inl (record {
          new = record {
            quiet = quiet_more x.number hs _ w.new.quiet (record { deliveries = refl; losses = refl });
            uncommitted = λ z e. w.new.uncommitted z (subst (λ l. slice_get l z ≡ Some x.number) (commits_more hs _ ∙ append-nil _) e);
          };
          copy = waiting y v;
          only = copies_moved s x j found m (Forward y v) (waiting y v ∷ []) (ap (λ b. cond b (waiting y v ∷ []) []) (eq-eqb x.number x.number refl)) ∙ (λ z. no_front z ++ waiting y v ∷ no_back z);
          early = at;
          packet = packet;
        }))
    early_step w early packet no_front no_back o outcome (does_all {set = set} is held away) = record {
      end = behind st.end o;
      switched = ap (λ l. one_big_switch p m0 (in_order all l)) committed ∙ ap (one_big_switch p m0) (map-append pick (commits hs) (x.number ∷ []))
          ∙ switched_more p (in_order all (commits hs)) m0 (pick x.number) st.end o st.switched outcome;
      long = one_longer st.end.packets o.packets ∙ ap suc st.long ∙ sym (one_longer (commits hs) x.number) ∙ ap length (sym committed);
      store = keeps st.end.arrays (pick x.number) o st.store (packets x.number below) outcome;
      held = held_after owner s x j m (fork_of set) st.end.arrays o.arrays st.held held away;
      count = st.count;
      shuffled = subst (λ l. IsPermutation l (numbered pre))
          (sym (λ y. committed y ++ (early_after s x j found m (fork_of set) ∙ ap (λ l. early_in (take j s.flying) ++ (l ++ early_in (drop (j + 1) s.flying))) (forks_late x (sent_of t set))) y))
          (commits_one (commits hs) (early_in (take j s.flying)) (early_in (drop (j + 1) s.flying)) (numbered pre) x.number
          (subst (λ l. IsPermutation (commits hs ++ l) (numbered pre)) (early_before_is s x j found true (copies.before early)) st.shuffled));
      came = λ y i set' e f. by_place y i set' (in_pushed (commits hs) x.number i y (subst (λ l. slice_get l y ≡ Some i) committed e)) (in_pushed st.end.packets o.packets set' y f);
      each = λ i l.
          split_by x.number i (λ y. Waits y (stepped s j x m (fork_of set)) (hs ++ happening x (fork_of set) ∷ []) ⊎ Leaves y (stepped s j x m (fork_of set))) (inr leaving.out) (λ ne. each_still i s (stepped s j x m (fork_of set)) hs (hs ++ happening x (fork_of set) ∷ []) (others (fork_of set) i ne) (st.each i l));
      fresh = λ i l. unseen_still i s (stepped s j x m (fork_of set)) hs (hs ++ happening x (fork_of set) ∷ []) (others (fork_of set) i (λ y. (let z = below in omega (arith, y, z, l)))) (st.fresh i l);
    }
      where
        committed : commits (hs ++ happening x (fork_of set) ∷ []) ≡ commits hs ++ x.number ∷ []
        committed = commits_more hs _

        leaving : Leaving t x.number set (stepped s j x m (fork_of set)) (hs ++ happening x (fork_of set) ∷ [])
        leaving = leaving_begins s x j found t set hs m no_front no_back w.new.quiet

        by_place : (y i : ℕ) (set' : PacketSet) → (slice_get (commits hs) y ≡ Some i) ⊎ ((y ≡ length (commits hs)) × (x.number ≡ i)) → (slice_get st.end.packets y ≡ Some set') ⊎ ((y ≡ length st.end.packets) × (o.packets ≡ set'))
            → Leaving t i set' (stepped s j x m (fork_of set)) (hs ++ happening x (fork_of set) ∷ [])
        by_place y i set' (inl e) (inl f) = leaving_still (others (fork_of set) i (λ z. w.new.uncommitted y (e ∙ ap Some (sym z)))).same (st.came y i set' e f)
        by_place y i set' (inr e) (inr f) =
            subst (λ z. Leaving t z set' (stepped s j x m (fork_of set)) (hs ++ happening x (fork_of set) ∷ [])) e.1
            (subst (λ z. Leaving t x.number z (stepped s j x m (fork_of set)) (hs ++ happening x (fork_of set) ∷ [])) (sym is ∙ f.1) leaving)
        by_place y i set' (inl e) (inr f) = absurd (let l = slice_get_within (commits hs) y i e in let a = f.0 in let b = st.long in omega (arith, l, a, b))
        by_place y i set' (inr e) (inl f) = absurd (let l = slice_get_within st.end.packets y set' f in let a = e.0 in let b = st.long in omega (arith, l, a, b))

    goes_on : {a : Action} → Handles t x.at x.packet (s.stores x.at) x.head m a → Waits x.number s hs ⊎ Leaves x.number s → State pre (stepped s j x m a) (hs ++ happening x a ∷ [])
    goes_on {a = a} does (inl w) =
        let sole = only_one (front s x j found) x w.copy (back s x j found) (sym (copies_own s x j found) ∙ w.only) in
        let early : copies.IsEarly (pick x.number) x.head = subst (λ (y : Copy). copies.IsEarly (pick x.number) y.head) (sym sole.1) w.early in
        let packet : x.packet ≡ pick x.number = ap (λ (y : Copy). y.packet) sole.1 ∙ w.packet in
        let fit = packets x.number below in
        let o = some_eval p st.end.arrays (pick x.number) (never st.end.arrays (pick x.number) st.store fit) in
        early_step w early packet sole.0 sole.2 o.0 o.1
        (copies.does (pick x.number) st.end.arrays o.0 st.store fit o.1 early (st.held x.at) (subst (λ k. Handles t x.at k (s.stores x.at) x.head m a) packet does))
    goes_on {a = a} does (inr l) = out_step l (out_does (subst (λ y. Handles t x.at x.packet (s.stores x.at) y m a) (own_leaves s x j found l) does))

    pub stays : {a : Action} → Handles t x.at x.packet (s.stores x.at) x.head m a → State pre (stepped s j x m a) (hs ++ happening x a ∷ [])
    stays does = goes_on does (st.each x.number below)

  -- ---- whole runs
  picks_fit : (pre es : List (List ℕ)) → All (IsPacket c) all → pre ++ es ≡ all → (i : ℕ) → i < length pre → IsPacket c (pick i)
  picks_fit pre es fits is i l = fits i [] (let e = ap length is in let f = length-append pre es in omega (arith, l, e, f))

  one_event : (pre : List (List ℕ)) (s s' : Net) (hs h : List Happening) (j : ℕ) → ((i : ℕ) → i < length pre → IsPacket c (pick i)) → State pre s hs → Leads t s (Step j) s' h → State pre s' (hs ++ h)
  one_event pre s s' hs h j fits st (step {c = x} {m = m} {a = a} found does) = stays pre fits s hs st x j found m does

  pub all_events : (pre : List (List ℕ)) (gs : List Happening) {s s' : Net} {es : List Event} {hs : List Happening} → All (IsPacket c) all → pre ++ packets_in (packets_of es) ≡ all → State pre s gs → Runs t s es s' hs
      → State all s' (gs ++ hs)
  all_events pre gs {s = s} fits is st network.done = subst (λ l. State l s (gs ++ [])) (sym (append-nil pre) ∙ is) (subst (State pre s) (sym (append-nil gs)) st)
  all_events pre gs {s = s} {s' = s'} fits is st (network.on {s' = s1} {e = Inject port k} {es = es} {h = h} {hs = hs} leads rest) =
      subst (State all s') (append_assoc gs h hs)
      (all_events (pre ++ k ∷ []) (gs ++ h) fits (append_assoc pre (k ∷ []) (packets_in (packets_of es)) ∙ is)
      (enter pre s s1 gs h port k (ap (λ l. slice_index_or l (length pre) []) (sym is) ∙ picked_at pre k (packets_in (packets_of es))) st leads) rest)
  all_events pre gs {s = s} {s' = s'} fits is st (network.on {s' = s1} {e = Step j} {es = es} {h = h} {hs = hs} leads rest) =
      subst (State all s') (append_assoc gs h hs)
      (all_events pre (gs ++ h) fits is (one_event pre s s1 gs h j (picks_fit pre (packets_in (packets_of es)) fits is) st leads) rest)

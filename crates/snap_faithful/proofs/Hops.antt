-- How far copies get over tables of version 1, in any order of events.
use Rattle.std.proofs.Common.{◌≡◌, ◌≢◌, ℕ, suc, ◌+◌, ◌-◌, ◌*◌, ◌<◌, ◌≤◌, ◌⊎◌, inl, inr, Bool, true, false, List, [], ◌∷◌, ◌++◌, take, drop, length, Some, None, refl, sym, ap, subst, ◌∙◌, arith}
use Rattle.std.specs.Prelude.{slice_get, IfSome, nat_eq}
use Rattle.std.specs.List.{All}
use Rattle.std.proofs.lemmas.Bool.{eqb-true, eqb-false}
use Rattle.std.proofs.lemmas.Nat.{mul-le}
use Rattle.std.proofs.lemmas.List.Elements.{All-nil, All-cons, All-append, All-take, All-drop, All-map, All-weaker}
use Rattle.std.proofs.Math.Nat.{suc-mul}
use Rattle.snap_core.specs.Arrays.{Arrays}
use Rattle.snap_core.specs.Packets.{PacketSet}
use Rattle.snap_core.specs.Tests.{results, passes}
use Rattle.snap_core.specs.declared.policy.Test.{Test}
use Rattle.snap_rows.specs.declared.tables.Tables.{Tables}
use Rattle.snap_rows.specs.declared.tables.Row.{Row}
use Rattle.snap_rows.specs.declared.tables.Row.TheVariants.{Field, State, Go, Leaf, Stop, Last}
use Rattle.snap_rows.specs.declared.tables.Stage.{Stage as LeafStage}
use Rattle.snap_rows.specs.Actions.{Action, Forward, Deliver, Fork}
use Rattle.snap_rows.specs.declared.head.Head.{Head}
use Rattle.snap_rows.specs.declared.head.Head.TheVariants.{Walk, Stage, Out, Visit}
use Rattle.snap_rows.specs.declared.head.Sent.{Sent}
use Rattle.snap_rows.specs.Entries.{Parts, row_at, node_of, owner_of, var_of, next, port_at}
use Rattle.snap_rows.specs.Form.{switch_count}
use Rattle.snap_rows.specs.Handles.{Handles, asks, goes, forks, begins, passes_on, goes_on, completes, enters, enters_last, delivers, carries, side}
use Rattle.snap_rows.specs.Network.{Net, Copy, Event, Happening, Leads, Run, inject, step, moved, happening}
use Rattle.snap_rows.proofs.Runs.{runs-tell}
use Rattle.std.proofs.lemmas.Option.{same_Some}
use Rattle.snap_rows.proofs.Rows.{All-get}
use Rattle.snap_faithful.specs.Agreement.{sent_of, lost_of}
use Rattle.snap_faithful.specs.Faithful.{IsWithin, IsDeliveredWithin}
use Rattle.snap_faithful.proofs.Leaving.{split_off}
use Rattle.snap_faithful.specs.StagedFacts.{MayCome, GoesByRank}
use Rattle.snap_faithful.proofs.StagedNodes.{IsOne, own_node, state_owner, goes_to}
use Rattle.snap_faithful.proofs.Bounds.{HasPort, sent_have_ports}
use Rattle.snap_faithful.proofs.Walks.{side_is}

-- next hops shorten a distance that is at most d
pub record HasReach (t : Tables) (dist : ℕ → ℕ → ℕ) (d : ℕ) : Type 0 where
  pub most : (w x : ℕ) → dist w x ≤ d
  pub next : (w x : ℕ) → w < switch_count t → x < switch_count t → w ≢ x → (next t w x < switch_count t) × (dist (next t w x) x < dist w x)
  pub owners : (v x : ℕ) → owner_of t v ≡ Some x → x < switch_count t
  pub stages : (n i : ℕ) (ss : List LeafStage) (os : List Parts) (s : LeafStage) → node_of t n ≡ Some (Leaf ss os) → slice_get ss i ≡ Some s → s.at < switch_count t
  pub ports : (p x : ℕ) → port_at t p ≡ Some x → x < switch_count t

-- the number is of a state row
pub record IsState (t : Tables) (n : ℕ) : Type 0 where
  pub test : Test
  pub yes : ℕ
  pub otherwise : ℕ
  pub node : node_of t n ≡ Some (State test yes otherwise)
  pub at : ℕ
  pub owner : owner_of t (var_of test) ≡ Some at

module _ (t : Tables) (one : IsOne t) (dist : ℕ → ℕ → ℕ) (d : ℕ) (far : HasReach t dist d) (groups : ℕ) (rank : ℕ → ℕ) (by_rank : GoesByRank t groups rank) where
  abbrev most : ℕ
  most = (2 * groups + 1) * d

  -- the way to the state row of n, then once more for each rank behind it, for each stage, and for the way to a port
  abbrev RoomToState : ℕ → ℕ → ℕ → Type 0
  RoomToState w h n = (test : Test) (y z x : ℕ) → node_of t n ≡ Some (State test y z) → owner_of t (var_of test) ≡ Some x → h + dist w x + (2 * groups - rank (var_of test)) * d ≤ most

  -- the way to stage i, then once more for each stage behind it, and for the way to a port
  abbrev RoomToStage : ℕ → ℕ → ℕ → ℕ → Type 0
  RoomToStage w h n i = (ss : List LeafStage) (os : List Parts) (s : LeafStage) → node_of t n ≡ Some (Leaf ss os) → slice_get ss i ≡ Some s → h + dist w s.at + (length ss - i) * d ≤ most

  pub record IsStaged (n i : ℕ) : Type 0 where
    pub ss : List LeafStage
    pub os : List Parts
    pub s : LeafStage
    pub node : node_of t n ≡ Some (Leaf ss os)
    pub turn : slice_get ss i ≡ Some s

  abbrev pub HeadHas : ℕ → ℕ → ℕ → Head → Type 0
  HeadHas w h st (Walk n) = ((h ≡ 0) × (st ≡ 0)) ⊎ ((st ≡ h) × IsState t n × RoomToState w h n)
  HeadHas w h st (Stage n i) = (st ≡ h) × IsStaged n i × RoomToStage w h n i
  HeadHas w h st (Visit r n) = ⊥
  HeadHas w h st (Out p) = (st ≡ h + 1) × ((x : ℕ) × (port_at t p ≡ Some x) × (h + dist w x ≤ most))

  pub record CopyHas (c : Copy) : Type 0 where
    pub at : c.at < switch_count t
    pub head : HeadHas c.at c.hops c.steps c.head

  -- ---- multiples of d
  more : (a b : ℕ) → a + 1 ≤ b → a * d + d ≤ b * d
  more a b l = let x = mul-le (suc a) d b d (omega (arith, l)) (omega arith) in let y = suc-mul a d in omega (arith, x, y)

  fewer : (a b : ℕ) → a ≤ b → a * d ≤ b * d
  fewer a b l = mul-le a d b d l (omega arith)

  -- ---- where a walk stands within a step at w: it has made no hop, or came for this state row, or has passed state rows of w of rank at most r
  data Room (w h n : ℕ) : Type 0 where
    fresh : h ≡ 0 → Room w h n
    came : IsState t n → RoomToState w h n → Room w h n
    past : (v : ℕ) → owner_of t v ≡ Some w → IfSome (node_of t n) (MayCome rank (rank v)) → h + (2 * groups - rank v) * d ≤ most → Room w h n

  -- what a step at w does with a copy that has made h hops and st steps
  data Gets (w h st : ℕ) : Action → Type 0 where
    to_state : {n x : ℕ} → st ≡ h → IsState t n → RoomToState w h n → (test : Test) (y z : ℕ) → node_of t n ≡ Some (State test y z) → owner_of t (var_of test) ≡ Some x → x ≢ w → Gets w h st (Forward (next t w x) (Walk n))
    to_stage : {n i : ℕ} {s : LeafStage} → st ≡ h → (ss : List LeafStage) (os : List Parts) → node_of t n ≡ Some (Leaf ss os) → slice_get ss i ≡ Some s → RoomToStage w h n i → s.at ≢ w → Gets w h st (Forward (next t w s.at) (Stage n i))
    brings : {p x : ℕ} → st ≡ h + 1 → port_at t p ≡ Some x → x ≢ w → h + dist w x ≤ most → Gets w h st (Forward (next t w x) (Out p))
    leaves : {p : ℕ} → Gets w h st (Deliver p)
    splits : (set : PacketSet) → st ≡ h → h + d ≤ most → Gets w h st (Fork (sent_of t set) (lost_of t set))

  -- two nodes of one number
  one_node : (n : ℕ) (b c : Row) → node_of t n ≡ Some b → node_of t n ≡ Some c → b ≡ c
  one_node n b c e f = same_Some b c (sym e ∙ f)

  no_both : {A : Type 0} (n : ℕ) (ss : List LeafStage) (os : List Parts) → node_of t n ≡ Some (Leaf ss os) → IsState t n → A
  no_both n ss os e s = absurd (let f : Leaf ss os ≡ State s.test s.yes s.otherwise = one_node n _ _ e s.node in cc)

  -- ---- at a stage
  at_stage : {w h st : ℕ} {k : List ℕ} {n i : ℕ} {s s' : Arrays} {a : Action} → st ≡ h → RoomToStage w h n i → Handles t w k s (Stage n i) s' a → Gets w h st a
  at_stage {w = w} {n = n} e room (passes_on {ss = ss} {os = os} row found away) = to_stage e ss os (own_node t one w n (Leaf ss os) row refl) found room away
  at_stage {w = w} {h = h} {st = st} {n = n} {i = i} e room (goes_on {s = turn} {ss = ss} {os = os} row found own next_is rest) =
      at_stage {h = h} {st = st} e
      (λ ss' os' turn' node' found'.
      (let same : Leaf ss' os' ≡ Leaf ss os = one_node n _ _ node' (own_node t one w n (Leaf ss os) row refl) in
      let long : length ss' ≡ length ss = ap length cc in
      let a = room ss os turn (own_node t one w n (Leaf ss os) row refl) found in
      let b = more (length ss' - (i + 1)) (length ss - i) (omega (arith, long, next_is)) in
      let c = far.most w turn'.at in
      omega (arith, a, b, c)))
      rest
  at_stage {w = w} {h = h} {k = k} {n = n} {i = i} e room (completes {s = turn} {ss = ss} {os = os} row found own last) =
      splits (results os k) e
      (let a = room ss os turn (own_node t one w n (Leaf ss os) row refl) found in
      let b = more 0 (length ss - i) (omega (arith, last)) in
      omega (arith, a, b))

  -- ---- at a number
  few_ranks : (v w : ℕ) → owner_of t v ≡ Some w → rank v + 1 ≤ groups
  few_ranks v w own = let a = by_rank.below v w own in omega (arith, a)

  room_to : (w h n : ℕ) (x : ℕ) → x ≢ w → Room w h n → (test : Test) (y z : ℕ) → node_of t n ≡ Some (State test y z) → owner_of t (var_of test) ≡ Some x → h + dist w x + (2 * groups - rank (var_of test)) * d ≤ most
  room_to w h n x away (fresh none) test y z node own =
      let a = more (2 * groups - rank (var_of test)) (2 * groups + 1) (omega arith) in let b = far.most w x in omega (arith, a, b, none)
  room_to w h n x away (came is room) test y z node own = room test y z x node own
  room_to w h n x away (past v here may room) test y z node own = by (nat_eq (rank v) (rank (var_of test))) refl
    where
      least : rank v ≤ rank (var_of test)
      least = subst (λ o. IfSome o (MayCome rank (rank v))) node may

      by : (b : Bool) → nat_eq (rank v) (rank (var_of test)) ≡ b → h + dist w x + (2 * groups - rank (var_of test)) * d ≤ most
      by true e = absurd (away (sym (by_rank.together v (var_of test) w x here own (eqb-true (rank v) (rank (var_of test)) e))))
      by false e =
          let ne = eqb-false (rank v) (rank (var_of test)) e in
          let low = few_ranks (var_of test) x own in
          let a = more (2 * groups - rank (var_of test)) (2 * groups - rank v) (omega (arith, ne, least, low)) in
          let b = far.most w x in
          omega (arith, a, b, room)

  same_owner : (n x : ℕ) (test test' : Test) (y z y' z' : ℕ) → node_of t n ≡ Some (State test y z) → node_of t n ≡ Some (State test' y' z') → test ≡ test'
  same_owner n x test test' y z y' z' e f = let g : State test y z ≡ State test' y' z' = one_node n _ _ e f in cc

  at_number : {w h st : ℕ} {k : List ℕ} {n : ℕ} {s s' : Arrays} {a : Action} → st ≡ h → Room w h n → Handles t w k s (Walk n) s' a → Gets w h st a
  at_number {w = w} {h = h} {st = st} {k = k} {n = n} {s = s} e room (asks {x = x} {b = b} version row way rest) =
      at_number {h = h} {st = st} e (by b row way room) rest
    where
      by : (b : Row) → row_at t w n ≡ Some b → side b s k ≡ Some x → Room w h n → Room w h x
      by (Field test y z) row way (fresh none) = fresh none
      by (Field test y z) row way (came is room) = absurd (let f : State is.test is.yes is.otherwise ≡ Field test y z = one_node n _ _ is.node (own_node t one w n (Field test y z) row refl) in cc)
      by (Field test y z) row way (past v own may room) = absurd (subst (λ o. IfSome o (MayCome rank (rank v))) (own_node t one w n (Field test y z) row refl) may)
      by (State test y z) row way room =
          past (var_of test) (state_owner t one w n y z test row)
          (side_is (passes test s k) y z x (λ v. IfSome (node_of t v) (MayCome rank (rank (var_of test)))) (by_rank.order n y z test (own_node t one w n (State test y z) row refl)) way)
          (left room)
        where
          node : node_of t n ≡ Some (State test y z)
          node = own_node t one w n (State test y z) row refl

          left : Room w h n → h + (2 * groups - rank (var_of test)) * d ≤ most
          left (fresh none) = let a = fewer (2 * groups - rank (var_of test)) (2 * groups + 1) (omega arith) in omega (arith, a, none)
          left (came is room) = let a = room test y z w node (state_owner t one w n y z test row) in omega (arith, a)
          left (past v own may room) =
              let least : rank v ≤ rank (var_of test) = subst (λ o. IfSome o (MayCome rank (rank v))) node may in
              let a = fewer (2 * groups - rank (var_of test)) (2 * groups - rank v) (omega (arith, least)) in omega (arith, a, room)
      by (Go y) row way room = absurd (let f : None ≡ Some x = way in cc)
      by (Leaf ss os) row way room = absurd (let f : None ≡ Some x = way in cc)
      by Stop row way room = absurd (let f : None ≡ Some x = way in cc)
      by (Last us os) row way room = absurd (let f : None ≡ Some x = way in cc)
  at_number {w = w} {h = h} {n = n} e room (goes {x = x} row) =
      let g = goes_to t one w n x row in
      to_state e (record { test = g.1.test; yes = g.1.yes; otherwise = g.1.otherwise; node = g.1.node; at = x; owner = g.1.owner })
      (λ test y z x' node own.
      (let same : test ≡ g.1.test = same_owner n x test g.1.test y z g.1.yes g.1.otherwise node g.1.node in
      let at : x ≡ x' = same_Some x x' (sym g.1.owner ∙ ap (λ (q : Test). owner_of t (var_of q)) (sym same) ∙ own) in
      room_to w h n x' (λ f. g.0 (at ∙ f)) room test y z node own))
      g.1.test g.1.yes g.1.otherwise g.1.node g.1.owner g.0
  at_number {w = w} {h = h} {k = k} {n = n} e room (forks {os = os} row) = splits (results os k) e (left room)
    where
      left : Room w h n → h + d ≤ most
      left (fresh none) = let a = more (2 * groups) (2 * groups + 1) (omega arith) in omega (arith, a, none)
      left (came is room) = no_both n [] os (own_node t one w n (Leaf [] os) row refl) is
      left (past v own may room) =
          let low = few_ranks v w own in
          let a = more (2 * groups - (rank v + 1)) (2 * groups - rank v) (omega (arith, low)) in omega (arith, a, room)
  at_number {w = w} {h = h} {st = st} {n = n} e room (begins {s = turn} {ss = ss} {os = os} row rest) = at_stage {h = h} {st = st} e (λ ss' os' s' node found. left ss' os' s' node room) rest
    where
      left : (ss' : List LeafStage) (os' : List Parts) (s' : LeafStage) → node_of t n ≡ Some (Leaf ss' os') → Room w h n → h + dist w s'.at + (length ss' - 0) * d ≤ most
      left ss' os' s' node (fresh none) =
          let few = by_rank.stages n ss' os' node in
          let a = fewer (length ss' - 0) groups (omega (arith, few)) in
          let b = more groups (2 * groups + 1) (omega arith) in
          let c = far.most w s'.at in omega (arith, a, b, c, none)
      left ss' os' s' node (came is room) = no_both n ss' os' node is
      left ss' os' s' node (past v own may room) =
          let few = by_rank.stages n ss' os' node in
          let low = few_ranks v w own in
          let a = fewer (length ss' - 0) groups (omega (arith, few)) in
          let b = more groups (2 * groups - rank v) (omega (arith, low)) in
          let c = far.most w s'.at in omega (arith, a, b, c, room)
  at_number e room (enters version some follow rest) = absurd (let a = one.version in omega (arith, version, a))
  at_number e room (enters_last version none follow row) = absurd (let a = one.version in omega (arith, version, a))

  at_out : {w h st p : ℕ} {k : List ℕ} {s s' : Arrays} {a : Action} → st ≡ h + 1 → ((x : ℕ) → port_at t p ≡ Some x → h + dist w x ≤ most) → Handles t w k s (Out p) s' a → Gets w h st a
  at_out e room (delivers own) = leaves
  at_out e room (carries {x = x} own away) = brings e own away (room x own)

  gets : (w h st : ℕ) (k : List ℕ) (s s' : Arrays) (a : Action) (head : Head) → HeadHas w h st head → Handles t w k s head s' a → Gets w h st a
  gets w h st k s s' a (Walk n) (inl none) does = at_number {h = h} {st = st} (none.1 ∙ sym none.0) (fresh none.0) does
  gets w h st k s s' a (Walk n) (inr has) does = at_number {h = h} {st = st} has.0 (came has.1 has.2) does
  gets w h st k s s' a (Stage n i) has does = at_stage {h = h} {st = st} has.0 has.2 does
  gets w h st k s s' a (Visit r n) has does = absurd has
  gets w h st k s s' a (Out p) has does = at_out has.0 (λ x own. subst (λ y. h + dist w y ≤ most) (same_Some has.1.0 x (sym has.1.1 ∙ own)) has.1.2) does

  -- ---- the copies after a step
  pub few : (w h st : ℕ) (head : Head) → HeadHas w h st head → (h ≤ most) × (st + 1 ≤ most + 2)
  few w h st (Walk n) (inl none) = (let a = none.0 in omega (arith, a), let b = none.1 in omega (arith, b))
  few w h st (Walk n) (inr has) =
      let room : h + dist w has.1.at + (2 * groups - rank (var_of has.1.test)) * d ≤ most = has.2 has.1.test has.1.yes has.1.otherwise has.1.at has.1.node has.1.owner in
      (omega (arith, room), let b = has.0 in omega (arith, room, b))
  few w h st (Stage n i) has =
      let room = has.2 has.1.ss has.1.os has.1.s has.1.node has.1.turn in (omega (arith, room), let b = has.0 in omega (arith, room, b))
  few w h st (Visit r n) has = absurd has
  few w h st (Out p) has = (let a = has.1.2 in omega (arith, a), let a = has.1.2 in let b = has.0 in omega (arith, a, b))

  forked_copy : (c : Copy) → c.at < switch_count t → c.steps ≡ c.hops → c.hops + d ≤ most → (x : Sent) → HasPort t x → CopyHas (split_off c x)
  forked_copy c at e room x port = record { at = at; head = (omega (arith, e), (port.0, port.1, (let l = far.most c.at port.0 in omega (arith, room, l)))) }

  only : (c : Copy) → CopyHas c → All CopyHas (c ∷ [])
  only c i = All-cons CopyHas c [] i (All-nil CopyHas)

  moved_has : (c : Copy) (a : Action) → c.at < switch_count t → Gets c.at c.hops c.steps a → All CopyHas (moved c a)
  moved_has c a at (to_state {n = n} {x = x} e is room test y z node own away) =
      let hop = far.next c.at x at (far.owners (var_of test) x own) (λ f. away (sym f)) in
      only _ (record { at = hop.0; head = inr (omega (arith, e), is, closer hop.1) })
    where
      closer : dist (next t c.at x) x < dist c.at x → RoomToState (next t c.at x) (c.hops + 1) n
      closer near test' y' z' x' node' own' =
          let same : test' ≡ test = same_owner n x test' test y' z' y z node' node in
          let at' : x ≡ x' = same_Some x x' (sym own ∙ ap (λ (q : Test). owner_of t (var_of q)) (sym same) ∙ own') in
          let a = room test' y' z' x' node' own' in
          let b = subst (λ v. dist (next t c.at x) v < dist c.at v) at' near in
          omega (arith, a, b)
  moved_has c a at (to_stage {n = n} {i = i} {s = s} e ss os node turn room away) =
      let hop = far.next c.at s.at at (far.stages n i ss os s node turn) (λ f. away (sym f)) in
      only _ (record { at = hop.0; head = (omega (arith, e), record { ss = ss; os = os; s = s; node = node; turn = turn }, closer hop.1) })
    where
      closer : dist (next t c.at s.at) s.at < dist c.at s.at → RoomToStage (next t c.at s.at) (c.hops + 1) n i
      closer near ss' os' s' node' turn' =
          let same : Leaf ss' os' ≡ Leaf ss os = one_node n _ _ node' node in
          let lists : ss' ≡ ss = cc in
          let turns : s ≡ s' = same_Some s s' (sym turn ∙ ap (λ l. slice_get l i) (sym lists) ∙ turn') in
          let a = room ss' os' s' node' turn' in
          let b = subst (λ (v : LeafStage). dist (next t c.at s.at) v.at < dist c.at v.at) turns near in
          omega (arith, a, b)
  moved_has c a at (brings {p = p} {x = x} e own away room) =
      let hop = far.next c.at x at (far.ports p x own) (λ y. away (sym y)) in
      only _ (record { at = hop.0; head = (omega (arith, e), (x, own, (let y = hop.1 in omega (arith, room, y)))) })
  moved_has c a at leaves = All-nil CopyHas
  moved_has c a at (splits set e room) = All-map CopyHas (split_off c) (sent_of t set) (All-weaker (HasPort t) (λ x. CopyHas (split_off c x)) (λ x port. forked_copy c at e room x port) (sent_of t set) (sent_have_ports t set))

  happens_has : (c : Copy) → CopyHas c → (a : Action) → All (IsDeliveredWithin most) (happening c a ∷ [])
  happens_has c i a = All-cons (IsDeliveredWithin most) (happening c a) [] (by a) (All-nil (IsDeliveredWithin most))
    where
      by : (a : Action) → IsDeliveredWithin most (happening c a)
      by (Forward x head) = tt
      by (Deliver port) = few c.at c.hops c.steps c.head i.head
      by (Fork copies lost) = tt

  one_step : {s s' : Net} {e : Event} {h : List Happening} → Leads t s e s' h → All CopyHas s.flying → All CopyHas s'.flying × All (IsDeliveredWithin most) h
  one_step {s = s} (inject {port = port} {w = w} {k = k} own names) all = (
    All-append CopyHas s.flying (record { number = s.injected; at = w; head = Walk 0; packet = k; hops = 0; steps = 0 } ∷ []) all
        (only (record { number = s.injected; at = w; head = Walk 0; packet = k; hops = 0; steps = 0 }) (record { at = far.ports port w own; head = inl (refl, refl) })),
    All-nil (IsDeliveredWithin most),
  )
  one_step {s = s} (step {i = j} {c = c} {m = m} {a = a} found does) all =
      let has = All-get CopyHas s.flying j c all found in (
        All-append CopyHas (take j s.flying) (moved c a ++ drop (j + 1) s.flying) (All-take CopyHas j s.flying all)
            (All-append CopyHas (moved c a) (drop (j + 1) s.flying)
            (moved_has c a has.at (gets c.at c.hops c.steps c.packet (s.stores c.at) m a c.head has.head does))
            (All-drop CopyHas (j + 1) s.flying all)),
        happens_has c has a,
      )

  -- after every list of events
  pub stays_within : (m : Arrays) (es : List Event) (s : Net) (hs : List Happening) → Run t m es s hs → IsWithin most s hs
  stays_within m es s hs run =
      let all = runs-tell (λ (n : Net). All CopyHas n.flying) (IsDeliveredWithin most) run (λ s s' e h leads kept. one_step leads kept) (All-nil CopyHas) in record {
        flying = All-weaker CopyHas (λ c. (c.hops ≤ most) × (c.steps ≤ most + 2)) (λ c i. (let f = few c.at c.hops c.steps c.head i.head in (f.0, (let l = f.1 in omega (arith, l))))) s.flying all.0;
        delivered = all.1;
      }

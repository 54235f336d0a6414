-- A forwarded head is at home where it goes.
use Rattle.std.proofs.Common.{◌≡◌, ◌≢◌, ℕ, zero, suc, add-one, ◌+◌, ◌<◌, Bool, true, false, List, [], ◌∷◌, ◌++◌, map, drop, Option, Some, None, length, refl, sym, ap, subst, ◌∙◌, arith}
use Rattle.std.specs.Prelude.{slice_get, ◌==◌, ◌&&◌, if◌then◌else◌, slice_index, slice_set, IfSome, IsSome, is_some, Contains}
use Rattle.std.specs.List.{All, filter}
use Rattle.std.proofs.lemmas.Bool.{eqb-true, eq-eqb, false≢true}
use Rattle.std.proofs.lemmas.List.Elements.{All-contains_itself, All-cons, All-tail}
use Rattle.std.proofs.lemmas.Option.{slice_get_within, slice_get-get_or, same_Some}
use Rattle.snap_core.specs.Arrays.{Arrays, value_of}
use Rattle.snap_core.specs.Switch.{goes_out}
use Rattle.snap_core.specs.Packets.{PacketSet, AllLong, listed, no_packets, with_packet}
use Rattle.snap_core.specs.Tests.{results, results_from, after_out, with_parts}
use Rattle.snap_core.proofs.Lengths.{All-listed, AllLong-no_packets, AllLong-with_packet}
use Rattle.std.proofs.lemmas.List.{length-set}
use Rattle.snap_rows.proofs.Own.{rank_entry}
use Rattle.snap_rows.specs.declared.tables.Hop.{Hop}
use Rattle.snap_rows.specs.declared.tables.Row.{Row}
use Rattle.snap_rows.specs.declared.tables.Row.TheVariants.{Field, State, Go, Leaf, Stop, Last}
use Rattle.snap_rows.specs.declared.tables.Rule.TheVariants.{Loop, Kind, Missing}
use Rattle.snap_rows.specs.declared.tables.Spot.TheVariants as spot
use Rattle.snap_rows.specs.declared.tables.Stage.{Stage as LeafStage}
use Rattle.snap_rows.specs.declared.tables.Tables.{Tables}
use Rattle.snap_rows.specs.declared.head.Head.{Head}
use Rattle.snap_rows.specs.declared.head.Head.TheVariants.{Walk, Stage as AtStage, Visit}
use Rattle.snap_rows.specs.Actions.{Action}
use Rattle.snap_rows.specs.Entries.{Parts, row_at, node_of, next, rank_at, hop_in, port_numbers}
use Rattle.snap_rows.specs.Form.{IsWellFormed, IsLeafStageWellFormed, IsHopWellFormed, IsArrayWellFormed, switch_count}
use Rattle.snap_rows.specs.Ways.{Way, here, on, Route, end, leg}
use Rattle.snap_rows.specs.Rules.{IsValid, HopKeeps, IsStateRow, IsFirstSpot}
use Rattle.snap_rows.specs.Handles.{Handles, asks, goes, forks, begins, passes_on, goes_on, completes, enters, enters_last, seeks, visits, concludes, delivers, carries, is_field, sent, forked}
use Rattle.snap_rows.specs.Home.{AtHome, IsStageAtHome}
use Rattle.snap_rows.specs.Steps.{Arrives, IsSent}
use Rattle.snap_rows.proofs.Rows.{row_keeps, rule_keeps, row_form, All-get, nodes}
use Rattle.snap_rows.proofs.Ways.{side_goes}
use Rattle.snap_rows.proofs.Ports.{port_is_found}
use Rattle.snap_rows.proofs.Visited.{visit_end}
use Rattle.snap_rows.proofs.Later.{next_home, enter_home}
use Rattle.snap_rows.proofs.Plans.{way_end}

hop_keeps : (t : Tables) → IsFirstSpot t Loop None → (h : Hop) → Contains t.hops h → HopKeeps t Loop h
hop_keeps t loops h is = subst (λ o. IfSome o (HopKeeps t Loop)) (slice_get-get_or t.hops is.0 h is.1 ∙ ap Some is.2) (loops (spot.Hop is.0))

-- next hops lead from each switch to each switch
pub way_to : (t : Tables) → IsFirstSpot t Loop None → IsWellFormed t → (w x : ℕ) → w < switch_count t → x < switch_count t → (ws : List ℕ) × Way t x w ws
way_to t loops form w x below below' = by (w == x) refl
  where
    by : (b : Bool) → (w == x) ≡ b → (ws : List ℕ) × Way t x w ws
    by true e = ([], subst (λ v. Way t x v []) (sym (eqb-true w x e)) here)
    by false e =
        let other : w ≢ x = λ same. false≢true (sym e ∙ eq-eqb w x same) in
        let h = form.all_hops w x below below' other in
        let way = hop_keeps t loops h.0 h.1 in
        (way.0, subst (λ v. Way t v w way.0) h.3 (subst (λ v. Way t h.0.target v way.0) h.2 way.1))

pub route_to : (t : Tables) → IsFirstSpot t Loop None → IsWellFormed t → (w : ℕ) → w < switch_count t → (ss : List LeafStage) → All (IsLeafStageWellFormed t) ss → (ws : List ℕ) × Route t w (map (λ (s : LeafStage). s.at) ss) ws
route_to t loops form w below [] all = ([], end)
route_to t loops form w below (s ∷ ss) all =
    let first : IsLeafStageWellFormed t s = all 0 s (let n = length ss in omega arith) in
    let rest : All (IsLeafStageWellFormed t) ss = λ i d within. all (suc i) d (let h : i < length ss = within in omega arith) in
    let way = way_to t loops form w s.at below first.at in
    let route = route_to t loops form s.at first.at ss rest in
    (way.0 ++ route.0, leg way.1 route.1)

-- a row of a leaf's number elsewhere is that leaf
pub same_leaf : (t : Tables) → IsFirstSpot t Kind None → IsWellFormed t → t.version ≡ 1 → (w x n : ℕ) (ss : List LeafStage) (os : List Parts) → row_at t w n ≡ Some (Leaf ss os) → IsSome (row_at t x n) → row_at t x n ≡ Some (Leaf ss os)
same_leaf t kind form one w x n ss os row some = by (row_at t x n) refl some
  where
    node : node_of t n ≡ Some (Leaf ss os)
    node = (rule_keeps t Kind kind w n (Leaf ss os) row).0 one

    other : (b : Row) → row_at t x n ≡ Some b → node_of t n ≡ Some b → row_at t x n ≡ Some (Leaf ss os)
    other b e is = e ∙ sym is ∙ node

    not_two : t.version ≡ 2 → ⊥
    not_two two = let h : 1 ≡ 2 = sym one ∙ two in omega arith

    state_there : (y : ℕ) (b : Row) → row_at t y n ≡ Some b → IsStateRow b → ⊥
    state_there y (State test u v) e h = leaf_or (same_Some _ _ (sym node ∙ (rule_keeps t Kind kind y n (State test u v) e).0 one))
      where
        leaf_or : Leaf ss os ≡ State test u v → ⊥
        leaf_or e = cc
    state_there y (Field test u v) e h = h
    state_there y (Go u) e h = h
    state_there y (Leaf u v) e h = h
    state_there y Stop e h = h
    state_there y (Last u v) e h = h

    found : (b : Row) → row_at t x n ≡ Some b → row_at t x n ≡ Some (Leaf ss os)
    found (Field test y z) e = other (Field test y z) e ((rule_keeps t Kind kind x n (Field test y z) e).0 one)
    found (State test y z) e = other (State test y z) e ((rule_keeps t Kind kind x n (State test y z) e).0 one)
    found (Go y) e = let g = (rule_keeps t Kind kind x n (Go y) e).0 one in absurd (state_there y g.1.0 g.1.1 g.1.2)
    found (Leaf us vs) e = other (Leaf us vs) e ((rule_keeps t Kind kind x n (Leaf us vs) e).0 one)
    found Stop e = absurd (not_two (row_form t form x n Stop e))
    found (Last us vs) e = absurd (not_two (row_form t form x n (Last us vs) e).0)

    by : (o : Option Row) → row_at t x n ≡ o → IsSome (row_at t x n) → row_at t x n ≡ Some (Leaf ss os)
    by None e some = absurd (false≢true (sym (ap (λ (o : Option Row). is_some o) e) ∙ some))
    by (Some b) e some = found b e

pub drop_get : {X : Type 0} (xs : List X) (i : ℕ) (x : X) → slice_get xs i ≡ Some x → drop i xs ≡ x ∷ drop (suc i) xs
drop_get [] i x e = absurd (false≢true (ap (λ o. is_some o) e))
drop_get (y ∷ ys) zero x e = ap (λ z. z ∷ ys) (same_Some _ _ e)
drop_get (y ∷ ys) (suc i) x e = drop_get ys i x e

no_way : (t : Tables) (y w : ℕ) (vs : List ℕ) → Way t y w vs → y ≡ w → vs ≡ []
no_way t y w vs here e = refl
no_way t y w vs (on other rest) e = absurd (other (sym e))

-- what is left of a route at its first stop
arrived : (t : Tables) (w : ℕ) (ys xs ws : List ℕ) (x : ℕ) → ys ≡ x ∷ xs → x ≡ w → Route t w ys ws → Route t w xs ws
arrived t w ys xs ws x e h end = absurd (cc)
arrived t w ys xs ws x e h (leg {x = y} {ws = vs} {xs = zs} {vs = us} way route) =
    let first : y ≡ w = cc in
    let rest : zs ≡ xs = cc in
    subst (λ l. Route t w xs (l ++ us)) (sym (no_way t y w vs way first)) (subst (λ l. Route t w l us) rest (subst (λ v. Route t v zs us) first route))

way_first : (t : Tables) (y w : ℕ) (vs : List ℕ) → y ≢ w → Way t y w vs → (us : List ℕ) × (vs ≡ next t w y ∷ us) × Way t y (next t w y) us
way_first t y w vs away here = absurd (away refl)
way_first t y w vs away (on {ws = us} other rest) = (us, refl, rest)

-- what is left of a route after its first hop
passed_from : (t : Tables) (w x : ℕ) (ys xs ws : List ℕ) (P : ℕ → Type 0) → ys ≡ x ∷ xs → x ≢ w → Route t w ys ws → All P ws → P (next t w x) × ((vs : List ℕ) × Route t (next t w x) (x ∷ xs) vs × All P vs)
passed_from t w x ys xs ws P e away end all = absurd (cc)
passed_from t w x ys xs ws P e away (leg {x = y} {ws = vs} {xs = zs} {vs = us} way route) all =
    let first : y ≡ x = cc in
    let rest : zs ≡ xs = cc in
    let f = way_first t x w vs away (subst (λ v. Way t v w vs) first way) in
    let all' : All P (next t w x ∷ (f.0 ++ us)) = subst (λ l. All P (l ++ us)) f.1 all in (
      all' 0 (next t w x) (let n = length (f.0 ++ us) in omega arith),
      (f.0 ++ us, leg f.2 (subst (λ l. Route t x l us) rest (subst (λ v. Route t v zs us) first route)), λ i d within. all' (suc i) d (let h : i < length (f.0 ++ us) = within in omega arith)),
    )

pub passed : (t : Tables) (w x : ℕ) (xs ws : List ℕ) (P : ℕ → Type 0) → x ≢ w → Route t w (x ∷ xs) ws → All P ws → P (next t w x) × ((vs : List ℕ) × Route t (next t w x) (x ∷ xs) vs × All P vs)
passed t w x xs ws P away route all = passed_from t w x (x ∷ xs) xs ws P refl away route all

-- a stage is at home at the next hop towards it
stage_passes : (t : Tables) → IsValid t → IsWellFormed t → t.version ≡ 1 → (w n i : ℕ) (s : LeafStage) (ss : List LeafStage) (os : List Parts) → row_at t w n ≡ Some (Leaf ss os) → slice_get ss i ≡ Some s → s.at ≢ w → IsStageAtHome t w n i → IsStageAtHome t (next t w s.at) n i
stage_passes t valid form one w n i s ss os row is away home =
    let same : Leaf home.stages home.outs ≡ Leaf ss os = same_Some _ _ (sym home.row ∙ row) in
    let stages : home.stages ≡ ss = cc in
    let route : Route t w (map (λ (s : LeafStage). s.at) (s ∷ drop (suc i) ss)) home.ws = subst (λ ss'. Route t w (map (λ (s : LeafStage). s.at) ss') home.ws) (ap (drop i) stages ∙ drop_get ss i s is) home.route in
    let p = passed t w s.at (map (λ (s : LeafStage). s.at) (drop (suc i) ss)) home.ws (λ x. IsSome (row_at t x n)) away route home.rows in
    record {
      stages = ss;
      outs = os;
      ws = p.1.0;
      row = same_leaf t (valid Kind) form one w (next t w s.at) n ss os row p.0;
      more = slice_get_within ss i s is;
      route = subst (λ ss'. Route t (next t w s.at) (map (λ (s : LeafStage). s.at) ss') p.1.0) (sym (drop_get ss i s is)) p.1.1;
      rows = p.1.2;
    }

-- the next stage is at home where this one is done
pub stage_next : (t : Tables) (w n i : ℕ) (s : LeafStage) (ss : List LeafStage) (os : List Parts) → row_at t w n ≡ Some (Leaf ss os) → slice_get ss i ≡ Some s → s.at ≡ w → i + 1 < length ss → IsStageAtHome t w n i → IsStageAtHome t w n (i + 1)
stage_next t w n i s ss os row is stands more home =
    let same : Leaf home.stages home.outs ≡ Leaf ss os = same_Some _ _ (sym home.row ∙ row) in
    let stages : home.stages ≡ ss = cc in
    let route : Route t w (map (λ (s : LeafStage). s.at) (drop i ss)) home.ws = subst (λ ss'. Route t w (map (λ (s : LeafStage). s.at) ss') home.ws) (ap (drop i) stages) home.route in
    record {
      stages = ss;
      outs = os;
      ws = home.ws;
      row = row;
      more = more;
      route = subst (λ j. Route t w (map (λ (s : LeafStage). s.at) (drop j ss)) home.ws) (sym (add-one i))
          (arrived t w (map (λ (s : LeafStage). s.at) (drop i ss)) (map (λ (s : LeafStage). s.at) (drop (suc i) ss)) home.ws s.at (ap (map (λ (s : LeafStage). s.at)) (drop_get ss i s is)) stands route);
      rows = home.rows;
    }

-- the first stage of a leaf is at home
pub stage_first : (t : Tables) → IsValid t → IsWellFormed t → t.version ≡ 1 → (w n : ℕ) (s : LeafStage) (ss : List LeafStage) (os : List Parts) → w < switch_count t → row_at t w n ≡ Some (Leaf (s ∷ ss) os) → IsStageAtHome t w n 0
stage_first t valid form one w n s ss os below row =
    let route = route_to t (valid Loop) form w below (s ∷ ss) (row_form t form w n (Leaf (s ∷ ss) os) row).2 in
    record {
      stages = s ∷ ss;
      outs = os;
      ws = route.0;
      row = row;
      more = (let n = length ss in omega arith);
      route = route.1;
      rows = λ i d within. row_keeps t valid Missing w n (Leaf (s ∷ ss) os) row _ n (refl, (route.0, route.1, All-contains_itself route.0 i d within));
    }

-- a next hop is a switch
pub next_below : (t : Tables) → IsWellFormed t → (w x : ℕ) → w < switch_count t → next t w x < switch_count t
next_below t form w x below = hops t.hops form.hops
  where
    by : (h : Hop) (hs : List Hop) (a b : Bool) → h.next < switch_count t → hop_in hs w x < switch_count t → (if a && b then h.next else hop_in hs w x) < switch_count t
    by h hs true true n r = n
    by h hs true false n r = r
    by h hs false b n r = r

    hops : (hs : List Hop) → All (IsHopWellFormed t) hs → hop_in hs w x < switch_count t
    hops [] all = below
    hops (h ∷ hs) all = by h hs (h.from == w) (h.target == x) (all 0 h (let n = length hs in omega arith)).next (hops hs (All-tail (IsHopWellFormed t) h hs all))

results_long : (os : List Parts) (s : PacketSet) (k : List ℕ) → AllLong (length k) s → AllLong (length k) (results_from s os k)
results_long [] s k all = all
results_long (o ∷ os) s k all = results_long os (with_packet s (after_out o k)) k (AllLong-with_packet (length k) s (after_out o k) all (parts_long o k k))
  where
    parts_long : (ps : Parts) (k r : List ℕ) → length (with_parts ps k r) ≡ length r
    parts_long [] k r = refl
    parts_long (p ∷ ps) k r = parts_long ps k (slice_set r p.0 (value_of p.1 k)) ∙ length-set r p.0 (value_of p.1 k)

sent_arrive : (t : Tables) (k : List ℕ) (ks : List (List ℕ)) → All (λ l. length l ≡ length k) ks → All (IsSent t k) (map sent (filter (goes_out (port_numbers t)) ks))
sent_arrive t k [] all = λ i d within. absurd (let h : i < 0 = within in omega arith)
sent_arrive t k (l ∷ ks) all = by (goes_out (port_numbers t) l) refl (sent_arrive t k ks (All-tail (λ l. length l ≡ length k) l ks all))
  where
    out : List (List ℕ)
    out = filter (goes_out (port_numbers t)) ks

    by : (b : Bool) → goes_out (port_numbers t) l ≡ b → All (IsSent t k) (map sent out) → All (IsSent t k) (map sent (if b then l ∷ out else out))
    by true e rest = All-cons (IsSent t k) _ (map sent out) (record { port = sym (port_is_found t.ports (slice_index l 1)) ∙ e; long = all 0 l (let n = length ks in omega arith) }) rest
    by false e rest = rest

pub fork_arrives : (t : Tables) (k : List ℕ) (os : List Parts) → Arrives t k (forked t os k)
fork_arrives t k os = sent_arrive t k (listed (results os k)) (All-listed (length k) (results os k) (results_long os no_packets k (AllLong-no_packets (length k))))

pub owner_below : (t : Tables) → IsWellFormed t → (r w : ℕ) → rank_at t r ≡ Some w → w < switch_count t
owner_below t form r w e =
    let i = rank_entry t.arrays r w e in
    subst (λ n. n < switch_count t) i.at (All-get (IsArrayWellFormed t) t.arrays i.place i.entry form.arrays i.is).at

pub arrives : (t : Tables) → IsValid t → IsWellFormed t → (w : ℕ) → w < switch_count t → (k : List ℕ) (m : Arrays) (h : Head) (m' : Arrays) (a : Action) → AtHome t w h → Handles t w k m h m' a → Arrives t k a
arrives t valid form w below k m h m' a home (asks {n = n} {x = x} {b = b} one row to f) =
    let there : IsSome (row_at t w x) = (subst (λ o. IfSome o (λ y. (n < y) × IsSome (row_at t w y))) to (side_goes t valid w n b row m k)).1 in
    arrives t valid form w below k m (Walk x) m' a there f
arrives t valid form w below k m h m' a home (goes {n = n} {x = x} row) = (next_below t form w x below, row_keeps t valid Missing w n (Go x) row (next t w x) n (refl, refl))
arrives t valid form w below k m h m' a home (forks {os = os} row) = fork_arrives t k os
arrives t valid form w below k m h m' a home (begins {n = n} {s = s} {ss = ss} {os = os} row f) =
    let one = (row_form t form w n (Leaf (s ∷ ss) os) row).0 in
    arrives t valid form w below k m (AtStage n 0) m' a (one, stage_first t valid form one w n s ss os below row) f
arrives t valid form w below k m h m' a home (passes_on {n = n} {i = i} {s = s} {ss = ss} {os = os} row is away) =
    (next_below t form w s.at below, (home.0, stage_passes t valid form home.0 w n i s ss os row is away home.1))
arrives t valid form w below k m h m' a home (goes_on {n = n} {i = i} {s = s} {ss = ss} {os = os} row is stands more f) =
    arrives t valid form w below k _ (AtStage n (i + 1)) m' a (home.0, stage_next t w n i s ss os row is stands more home.1) f
arrives t valid form w below k m h m' a home (completes {os = os} row is stands last) = fork_arrives t k os
arrives t valid form w below k m h m' a home (enters {n = n} {v = v} two some way f) =
    let e = way_end t w k is_field m n v way in
    arrives t valid form w below k m (Visit 0 v) m' a (two, enter_home t valid form two w v e.0 e.1 e.2 some) f
arrives t valid form w below k m h m' a home (enters_last {os = os} two none way row) = fork_arrives t k os
arrives t valid form w below k m h m' a home (seeks {x = x} rank away) = (next_below t form w x below, home)
arrives t valid form w below k m h m' a home (visits {r = r} {n = n} {v = v} rank visit more f) =
    let h = home.1 in
    let owner : h.owner ≡ w = same_Some _ _ (sym h.rank ∙ rank) in
    let e = visit_end t valid form home.0 (nodes t form) w k r m n v h.body (subst (λ x. row_at t x n ≡ Some h.body) owner h.row) h.visited visit.number in
    arrives t valid form w below k _ (Visit (r + 1) v) m' a (home.0, next_home t valid home.0 w v (r + 1) e.0 e.1 e.2 more) f
arrives t valid form w below k m h m' a home (concludes {os = os} rank visit last row) = fork_arrives t k os
arrives t valid form w below k m h m' a home (delivers at) = tt
arrives t valid form w below k m h m' a home (carries {x = x} at away) = (next_below t form w x below, ap (λ o. is_some o) at)

-- A packet on its way from the arrays m makes the visits of its chain.
use Rattle.std.proofs.Common.{◌≡◌, ℕ, suc, ◌+◌, ◌<◌, ◌≤◌, Bool, true, false, List, [], ◌∷◌, ◌++◌, drop, length, Some, refl, sym, ap, subst, ◌∙◌, arith, append_assoc}
use Rattle.std.specs.Prelude.{slice_get, slice_index, nat_eq}
use Rattle.std.specs.List.{All}
use Rattle.std.proofs.lemmas.Bool.{eqb-true, eqb-false}
use Rattle.std.proofs.lemmas.List.{append-nil}
use Rattle.std.proofs.lemmas.List.Elements.{All-head, All-tail, All-filter}
use Rattle.std.proofs.lemmas.Option.{none-some, same_Some}
use Rattle.snap_core.specs.declared.place.Place.{Place}
use Rattle.snap_core.specs.declared.policy.Update.{Update}
use Rattle.snap_core.specs.Arrays.{Arrays, update, updates}
use Rattle.snap_core.specs.Inputs.{IsZeroFrom}
use Rattle.snap_core.specs.Packets.{PacketSet}
use Rattle.snap_core.specs.Tests.{results}
use Rattle.snap_core.proofs.Unwritten.{updated_keeps}
use Rattle.snap_dep.proofs.Sets.{has-pow_other}
use Rattle.snap_rows.specs.declared.tables.Tables.{Tables}
use Rattle.snap_rows.specs.declared.tables.Row.TheVariants.{Last}
use Rattle.snap_rows.specs.Entries.{Parts, row_at, port_at, rank_at, rank_of, ranks}
use Rattle.snap_rows.specs.Form.{array_count, IsUpdateWellFormed}
use Rattle.snap_rows.specs.Home.{IsVisitAtHome}
use Rattle.snap_rows.specs.Handles.{Follows, Visits, is_field}
use Rattle.snap_rows.specs.Network.{Net, Event, Inject, Happening, Leads, step, RunsSequentially, rests, injects, steps, packets_of}
use Rattle.snap_rows.proofs.Rows.{row_form, nodes}
use Rattle.snap_rows.proofs.Visited.{visits_same}
use Rattle.snap_rows.proofs.Later.{rank_is_below}
use Rattle.snap_faithful.specs.Visits.{Enters, Chained, begun, visited}
use Rattle.snap_faithful.proofs.Nodes.{IsTwo}
use Rattle.snap_faithful.proofs.Walks.{rank_updates}
use Rattle.snap_faithful.proofs.Chained.{visits_one, chains_one, fields_alike, home_on, home_first}
use Rattle.snap_faithful.proofs.Trips as trips
use Rattle.snap_faithful.proofs.Trips.{Trip, trip_on}
use Rattle.snap_faithful.proofs.Guides.{Guide, Holds, NetHolds, standing, after, after_own, after_other, walking, guided}

-- updates of variables below n leave places from n on
beyond : (us : List Update) (s : Arrays) (k : List ℕ) (n : ℕ) (q : Place) → n ≤ q.var → All (λ (u : Update). u.var < n) us → updates s us k q ≡ s q
beyond [] s k n q l all = refl
beyond (u ∷ us) s k n q l all =
    beyond us (update s u k) k n q l (All-tail (λ (u : Update). u.var < n) u us all)
    ∙ updated_keeps u s k q (has-pow_other u.var q.var (λ same. (let x = All-head (λ (u : Update). u.var < n) u us all in omega (arith, x, l, same))))

module _ (t : Tables) (two : IsTwo t) (k : List ℕ) where
  -- a visit's updates, by arrays that are the same at its rank
  pub same_updates : {w r v x : ℕ} {s : Arrays} {us : List Update} → Visits t w k s r v x us → (a b : Arrays) → ((q : Place) → rank_of t q.var ≡ r → a q ≡ b q) → (q : Place) → rank_of t q.var ≡ r → updates a us k q ≡ updates b us k q
  same_updates {r = r} visit a b same q at =
      ap (λ l. updates a l k q) visit.updates
      ∙ rank_updates t k r visit.ups a b (λ p f. same p (eqb-true (rank_of t p.var) r f)) q at
      ∙ sym (rank_updates t k r visit.ups b b (λ p f. refl) q at)
      ∙ sym (ap (λ l. updates b l k q) visit.updates)

  -- a visit by arrays that are the same at its rank
  pub same_visit : (w r v x : ℕ) (s a : Arrays) (us : List Update) → IsVisitAtHome t r v → rank_at t r ≡ Some w → ((q : Place) → rank_of t q.var ≡ r → s q ≡ a q) → Visits t w k s r v x us → Visits t w k a r v x us
  same_visit w r v x s a us home own same visit =
      let there : home.owner ≡ w = same_Some _ _ (sym home.rank ∙ own) in
      visits_same t two.valid two.form two.version (nodes t two.form) w k s a r v x us home.body (subst (λ y. row_at t y v ≡ Some home.body) there home.row) home.visited same visit

  fit : (w r v x : ℕ) (s : Arrays) (us : List Update) → Visits t w k s r v x us → All (λ (u : Update). u.var < array_count t) us
  fit w r v x s us visit =
      let last = row_form t two.form w visit.leaf (Last visit.ups visit.outs) visit.row in
      let fits = All-filter (λ (u : Update). nat_eq (rank_of t u.var) r) (IsUpdateWellFormed t) visit.ups last.1 in
      subst (All (λ (u : Update). u.var < array_count t)) (sym visit.updates) (λ i d l. (fits i d l).fits.var)

  module _ (m : Arrays) where
    -- the chain so far, and the arrays that its visits leave
    pub record Behind (n r v : ℕ) (a : Arrays) : Type 0 where
      pub chained : Chained t k m n r v
      pub own : (w q x y : ℕ) (us : List Update) → q < r → Chained t k m n q x → rank_at t q ≡ Some w → Visits t w k m q x y us → (p : Place) → rank_of t p.var ≡ q → updates m us k p ≡ a p
      pub rest : (p : Place) → r ≤ rank_of t p.var → a p ≡ m p
      pub zeros : IsZeroFrom (array_count t) a

    module _ (n w r v x : ℕ) (s a : Arrays) (us : List Update) (behind : Behind n r v a) (home : IsVisitAtHome t r v) (own : rank_at t r ≡ Some w) (held : Holds t w s a) (visit : Visits t w k s r v x us) where
      level : (q : Place) → rank_of t q.var ≡ r → s q ≡ m q
      level q e = held q (ap (rank_at t) e ∙ own) ∙ behind.rest q (omega (arith, e))

      by_m : Visits t w k m r v x us
      by_m = same_visit w r v x s m us home own level visit

      earlier : (w' q x' y : ℕ) (us' : List Update) → q < r + 1 → Chained t k m n q x' → rank_at t q ≡ Some w' → Visits t w' k m q x' y us' → (p : Place) → rank_of t p.var ≡ q → updates m us' k p ≡ after t k r s us a p
      earlier w' q x' y us' l c own' visit' p at = by (nat_eq q r) refl
        where
          by : (b : Bool) → nat_eq q r ≡ b → updates m us' k p ≡ after t k r s us a p
          by true e =
              let same : q ≡ r = eqb-true q r e in
              let place : x' ≡ v = chains_one t k m n r x' v (subst (λ z. Chained t k m n z x') same c) behind.chained in
              let there : w' ≡ w = same_Some _ _ (sym own' ∙ ap (rank_at t) same ∙ own) in
              let v1 : Visits t w k m r v y us' = subst (λ z. Visits t w k m r z y us') place (subst (λ z. Visits t w k m z x' y us') same (subst (λ z. Visits t z k m q x' y us') there visit')) in
              let ups : us' ≡ us = (visits_one t w k m r v y x us' us v1 by_m).1 in
              ap (λ l. updates m l k p) ups ∙ sym (same_updates visit s m level p (at ∙ same)) ∙ sym (after_own t k r s us a p (at ∙ same))
          by false e =
              let ne = eqb-false q r e in
              behind.own w' q x' y us' (omega (arith, l, ne)) c own' visit' p at ∙ sym (after_other t k r s us a p (λ f. ne (sym at ∙ f)))

      none_beyond : IsZeroFrom (array_count t) (after t k r s us a)
      none_beyond q l = by (nat_eq (rank_of t q.var) r) refl
        where
          by : (b : Bool) → nat_eq (rank_of t q.var) r ≡ b → after t k r s us a q ≡ 0
          by true e =
              let same = eqb-true (rank_of t q.var) r e in
              after_own t k r s us a q same ∙ beyond us s k (array_count t) q l (fit w r v x s us visit) ∙ held q (ap (rank_at t) same ∙ own) ∙ behind.zeros q l
          by false e = after_other t k r s us a q (eqb-false (rank_of t q.var) r e) ∙ behind.zeros q l

      visit_on : Behind n (r + 1) x (after t k r s us a)
      visit_on = record {
        chained = visited behind.chained own by_m;
        own = earlier;
        rest = λ q l. after_other t k r s us a q (λ e. (omega (arith, e, l))) ∙ behind.rest q (omega (arith, l));
        zeros = none_beyond;
      }

    -- ---- the chain as a guide
    pub record Begins (w : ℕ) (a : Arrays) : Type 0 where
      pub port : port_at t (slice_index k 0) ≡ Some w
      pub same : (q : Place) → a q ≡ m q
      pub zeros : IsZeroFrom (array_count t) a

    pub record Stands (r v : ℕ) (a : Arrays) : Type 0 where
      pub first : ℕ
      pub enters : Enters t k m first
      pub behind : Behind first r v a
      pub home : r < ranks t → IsVisitAtHome t r v

    pub record ForkedAt (set : PacketSet) (a : Arrays) : Type 0 where
      pub first : ℕ
      pub last : ℕ
      pub at : ℕ
      pub ups : List Update
      pub outs : List Parts
      pub enters : Enters t k m first
      pub behind : Behind first (ranks t) last a
      pub leaf : row_at t at last ≡ Some (Last ups outs)
      pub made : results outs k ≡ set

    pub start : (w v : ℕ) (s a : Arrays) → Begins w a → Follows t w k is_field s 0 v → Stands 0 v a
    start w v s a b follow = record {
      first = v;
      enters = record { at = w; port = b.port; fields = fields_alike t two.form w k s m 0 v follow };
      behind = record { chained = begun; own = λ w q x y us l. absurd (omega (arith, l)); rest = λ q l. b.same q; zeros = b.zeros };
      home = λ some. home_first t two k s w 0 v follow some;
    }

    pub on : (w r v x : ℕ) (s a : Arrays) (us : List Update) → Stands r v a → rank_at t r ≡ Some w → Holds t w s a → Visits t w k s r v x us → Stands (r + 1) x (after t k r s us a)
    on w r v x s a us at own held visit =
        let home = at.home (rank_is_below t r w own) in record {
          first = at.first;
          enters = at.enters;
          behind = visit_on at.first w r v x s a us at.behind home own held visit;
          home = λ more. home_on t two k s w r v x us home own visit more;
        }

    pub fork : (w v : ℕ) (a : Arrays) (us : List Update) (os : List Parts) → Stands (ranks t) v a → row_at t w v ≡ Some (Last us os) → ForkedAt (results os k) a
    fork w v a us os at row = record { first = at.first; last = v; at = w; ups = us; outs = os; enters = at.enters; behind = at.behind; leaf = row; made = refl }

    abbrev pub by_chain : Guide t k
    by_chain = record { AtWalk = Begins; AtVisit = Stands; AtEnd = ForkedAt; enters = start; goes_on = on; ends = fork }

  -- ---- the run of one packet
  abbrev pub Travels : Guide t k → Net → List Happening → Type 0
  Travels g s hs = Trip t (standing t) k (guided t two k g) 0 s hs

  during : (g : Guide t k) {s s' : Net} {es : List Event} {hs : List Happening} (gs : List Happening) → packets_of es ≡ [] → Travels g s gs → RunsSequentially t s es s' hs → Travels g s' (gs ++ hs)
  during g {s = s} gs no_more state rests = subst (Travels g s) (sym (append-nil gs)) state
  during g gs no_more state (injects {es = es} e leads more) = absurd (let f : suc (length (packets_of es)) ≡ 0 = ap length no_more in omega (arith, f))
  during g {s' = s'} gs no_more state (steps {s = s} {s' = s1} {i = j} {h = h} {hs = hs} leads rest) =
      subst (Travels g s') (append_assoc gs h hs) (during g (gs ++ h) no_more (trip_on t (standing t) k (guided t two k g) 0 j s s1 gs h state leads) rest)

  pub one_run : (g : Guide t k) (a : Arrays) → ((w : ℕ) → port_at t (slice_index k 0) ≡ Some w → g.AtWalk w a) → (port : ℕ) {s s' : Net} {es : List Event} {hs : List Happening}
      → packets_of es ≡ (port, k) ∷ [] → s.flying ≡ [] → s.injected ≡ 0 → NetHolds t s a → RunsSequentially t s es s' hs → Travels g s' hs
  one_run g a begin port one none none_injected held rests = absurd (let f : 0 ≡ 1 = ap length one in omega (arith, f))
  one_run g a begin port one none none_injected held (steps {i = j} (step {c = c} found does) more) = absurd (none-some c (subst (λ f. slice_get f j ≡ Some c) none found))
  one_run g a begin port one none none_injected held (injects {s = s} {s' = s1} {port = port'} {k = k'} {es = es} {h = h} {hs = hs} e leads rest) =
      during g h (ap (λ l. drop 1 l) one)
      (trips.begun t (standing t) k (guided t two k g) 0 s s1 [] h port' a none (λ w at. walking (begin w at)) held none_injected (record { deliveries = refl; losses = refl })
      (subst (λ y. Leads t s (Inject port' y) s1 h) (ap (λ l. (head_first l).1) one) leads))
      rest
    where
      head_first : List (ℕ × List ℕ) → ℕ × List ℕ
      head_first [] = (0, [])
      head_first (x ∷ xs) = x

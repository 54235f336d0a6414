-- Runs with changes of tables that are faithful to the programs in force act as one big switch whose program changes.
use Rattle.std.proofs.Common.{◌≡◌, ℕ, zero, suc, ◌+◌, ◌≤◌, true, false, Option, None, List, [], ◌∷◌, Some, length, map, refl, sym, ap, subst, ◌∙◌, arith}
use Rattle.std.specs.Prelude.{slice_get, slice_index, ◌==◌, option_map, unwrap_or, if◌then◌else◌}
use Rattle.std.specs.List.{All}
use Rattle.std.proofs.lemmas.Bool.{eq-eqb, le-leb}
use Rattle.std.proofs.lemmas.List.{length-map}
use Rattle.std.proofs.lemmas.List.Elements.{All-head, All-tail}
use Rattle.snap_core.specs.declared.place.Place.{Place}
use Rattle.snap_core.specs.declared.program.Program.{Program}
use Rattle.snap_core.specs.Arrays.{Arrays}
use Rattle.snap_core.specs.Fields.{count}
use Rattle.snap_core.specs.Inputs.{IsPacket, IsStore, IsZeroFrom}
use Rattle.snap_core.specs.Packets.{PacketSet}
use Rattle.snap_core.specs.Switch.{Switched}
use Rattle.snap_rows.specs.declared.tables.ArrayAt.{ArrayAt}
use Rattle.snap_rows.specs.declared.tables.Tables.{Tables}
use Rattle.snap_rows.specs.Entries.{owner_of}
use Rattle.snap_rows.specs.Network.{Net, Event, Happening, Run, RunsBy, Inject, done, on, packets_of, start, global_store}
use Rattle.snap_faithful.specs.Agreement.{CameOut}
use Rattle.snap_faithful.specs.Faithful.{IsPacketOf, IsStoreOf}
use Rattle.snap_refinement.proofs.Entered.{IsOfProgram}
use Rattle.snap_runs.specs.Reports.{array_names}
use Rattle.snap_runs.specs.Tracing.{changed}
use Rattle.snap_runs.specs.declared.later.Later.{Later}
use Rattle.snap_runs.specs.Changing.{Between, HaveShapeOf, IsAhead, IsRising, Passage, RunsThrough, TakesTurn, Turn, in_force, changes, goes}
use Rattle.snap_refinement.specs.ChangeLaws.{IsFaithfulTo}
use Rattle.snap_runs.specs.Moving.{IsFrom}
use Rattle.snap_runs.specs.Shapes.{HaveOneShape}
use Rattle.snap_refinement.proofs.Alone.{Acts, acts}
use Rattle.snap_refinement.proofs.Earlier.{counts, later_happening}
use Rattle.snap_runs.proofs.ChangesSettling.{force-now, from-ahead}
use Rattle.snap_refinement.specs.ChangingSwitch.{changing_switch}
use Rattle.snap_refinement.proofs.Pieces.{changing_first}

-- ---- the whole store
-- a store over the arrays of tables
pub record IsStoreFor (t : Tables) (m : Arrays) : Type 0 where
  pub numbers : IsStore m
  pub only : IsZeroFrom (length (array_names t)) m

same_test : (w : ℕ) → (w == w) ≡ true
same_test w = eq-eqb w w refl

-- no array stands past the last
no_owner : (arrays : List ArrayAt) (v : ℕ) → slice_get arrays v ≡ None → length arrays ≤ v
no_owner [] v e = omega arith
no_owner (a ∷ arrays) zero e = absurd (cc)
no_owner (a ∷ arrays) (suc v) e = let h = no_owner arrays v e in omega arith

-- the switches hold the whole store
pub whole-start : (t : Tables) (m : Arrays) → IsStoreFor t m → (q : Place) → global_store t (start t m) q ≡ m q
whole-start t m store q = at (slice_get t.arrays q.var) refl
  where
    at : (o : Option ArrayAt) → slice_get t.arrays q.var ≡ o → global_store t (start t m) q ≡ m q
    at None e =
        let long : length t.arrays ≡ length (array_names t) = sym (length-map t.arrays (λ (a : ArrayAt). a.name)) in
        let past = no_owner t.arrays q.var e in
        ap (λ (o : Option ArrayAt). unwrap_or (option_map (λ w. (start t m).stores w q) (option_map (λ (a : ArrayAt). a.at) o)) 0) e ∙ sym (store.only q (omega (arith, long, past)))
    at (Some a) e =
        let owner : owner_of t q.var ≡ Some a.at = ap (λ (o : Option ArrayAt). option_map (λ (a : ArrayAt). a.at) o) e in
        ap (λ (o : Option ℕ). unwrap_or (option_map (λ w. (start t m).stores w q) o) 0) owner
        ∙ ap (λ (o : Option ℕ). if unwrap_or (option_map (λ y. y == a.at) o) false then m q else 0) owner
        ∙ ap (λ b. if b then m q else 0) (same_test a.at)

-- ---- what happened to the packets
-- what holds of what happens to a packet that is alone
abbrev pub IsOfRuns : (P : Program → Passage → Type 0) → Type 0
IsOfRuns P = (p : Program) (t : Tables) → IsFaithfulTo p t → (m : Arrays) → IsStoreOf p m → (es : List Event) → All (IsOfProgram p) (packets_of es) → (s : Net) (hs : List Happening) → Run t m es s hs
    → (n : ℕ) → P p (record { tables = t; happenings = map (later_happening n) hs })

module _ (programs : ℕ → Program) (P : Program → Passage → Type 0) where
  -- Each packet came out as its set, with tables of its program's fields that were in force. The first has number i
  abbrev pub CameUnder : (force : ℕ → Tables) → (i : ℕ) → List Passage → List PacketSet → Type 0
  CameUnder force i [] [] = Unit {0}
  CameUnder force i (x ∷ xs) (set ∷ sets) = (x.tables ≡ force i) × (x.tables.fields ≡ (programs i).fields) × CameOut x.tables i set x.happenings × P (programs i) x × CameUnder force (i + 1) xs sets
  CameUnder force i [] (set ∷ sets) = ⊥
  CameUnder force i (x ∷ xs) [] = ⊥

  came-as : (f g : ℕ → Tables) (i n : ℕ) (xs : List Passage) (sets : List PacketSet) → n ≤ i → ((j : ℕ) → n ≤ j → f j ≡ g j) → CameUnder f i xs sets → CameUnder g i xs sets
  came-as f g i n [] [] low same came = tt
  came-as f g i n (x ∷ xs) (set ∷ sets) low same came = (came.0 ∙ same i low, came.1, came.2, came.3, came-as f g (i + 1) n xs sets (omega arith) same came.4)
  came-as f g i n [] (set ∷ sets) low same came = absurd came
  came-as f g i n (x ∷ xs) [] low same came = absurd came

  -- the network has made of the packets what one big switch makes of them whose program changes
  pub record ActsAsOne (shape : Tables) (m : Arrays) (ks : List (List ℕ)) (n : ℕ) (force : ℕ → Tables) (turns : List Passage) (end : Tables) (last : Net) : Type 0 where
    pub made : Switched
    pub switched : changing_switch programs n m ks ≡ Some made
    pub came : CameUnder force n turns made.packets
    pub whole_is : (q : Place) → global_store end last q ≡ made.arrays q
    pub names : array_names end ≡ array_names shape

  module _ (each : IsOfRuns P) (shape : Tables) where
    -- where a run stands between two packets
    pub record Stands (t : Tables) (ls : List Later) (s : Net) (ks : List (List ℕ)) (m : Arrays) : Type 0 where
      pub faithful : (i : ℕ) → s.injected ≤ i → IsFaithfulTo (programs i) (in_force t ls i)
      pub same : HaveOneShape t shape
      pub others : HaveShapeOf shape ls
      pub rising : IsRising ls
      pub from : IsFrom ls s.injected
      pub store : IsStoreFor shape m
      pub stores : s.stores ≡ (start t m).stores
      pub rests : s.flying ≡ []
      pub whole_is : (q : Place) → global_store t s q ≡ m q
      pub packets : All (IsPacket (count shape.fields)) ks

    -- behind a change that is due
    due_force : (t : Tables) (l : Later) (ls : List Later) (n i : ℕ) → l.after ≡ n → n ≤ i → in_force t (l ∷ ls) i ≡ in_force l.tables ls i
    due_force t l ls n i due low = ap (λ b. if b then in_force l.tables ls i else t) (le-leb l.after i (omega (arith, due, low)))

    changed_on : (t : Tables) (l : Later) (ls : List Later) (s : Net) (ks : List (List ℕ)) (m : Arrays) → l.after ≡ s.injected → Stands t (l ∷ ls) s ks m → Stands l.tables ls (changed l.tables t s) ks m
    changed_on t l ls s ks m due a =
        let same : global_store t s ≡ m = λ i q. a.whole_is q i in
        let one = All-head (λ (x : Later). HaveOneShape x.tables shape) l ls a.others in
        let held : IsStoreFor l.tables m = record { numbers = a.store.numbers; only = subst (λ names. IsZeroFrom (length names) m) (sym one.names) a.store.only } in
        record {
          faithful = λ i low. subst (IsFaithfulTo (programs i)) (due_force t l ls s.injected i due low) (a.faithful i low);
          same = one;
          others = All-tail (λ (x : Later). HaveOneShape x.tables shape) l ls a.others;
          rising = a.rising.1;
          from = from-ahead ls s.injected l.after (omega (arith, due)) a.rising.0;
          store = a.store;
          stores = ap (λ (x : Arrays). (start l.tables x).stores) same;
          rests = refl;
          whole_is = λ q. ap (λ (x : Arrays). global_store l.tables (start l.tables x) q) same ∙ whole-start l.tables m held q;
          packets = a.packets;
        }

    -- a packet goes through
    module _ (t : Tables) (ls : List Later) (s : Net) (k : List ℕ) (ks : List (List ℕ)) (m : Arrays) (ahead : IsAhead ls s.injected) (a : Stands t ls s (k ∷ ks) m) where
      abbrev p : Program
      p = programs s.injected

      faithful_now : IsFaithfulTo p t
      faithful_now = subst (IsFaithfulTo p) (force-now t ls s.injected ahead) (a.faithful s.injected (omega arith))

      fields_now : shape.fields ≡ p.fields
      fields_now = sym a.same.fields ∙ faithful_now.faithful.shape.fields

      names_now : array_names shape ≡ p.arrays
      names_now = sym a.same.names ∙ faithful_now.faithful.shape.names

      store_now : IsStoreOf p m
      store_now = record { numbers = a.store.numbers; only = subst (λ names. IsZeroFrom (length names) m) names_now a.store.only }

      packet_now : IsPacketOf p k
      packet_now = subst (λ fs. IsPacket (count fs) k) fields_now (All-head (IsPacket (count shape.fields)) k ks a.packets)

      gone_on : (s' : Net) (hs : List Happening) (x : Acts p t m k s.injected s' hs) → s'.flying ≡ [] → Stands t ls s' ks x.outcome.arrays
      gone_on s' hs x none = record {
        faithful = λ i low. a.faithful i (let e = x.injected in omega (arith, e, low));
        same = a.same;
        others = a.others;
        rising = a.rising;
        from = from-ahead ls s'.injected s.injected (let e = x.injected in omega (arith, e)) ahead;
        store = record { numbers = x.store.numbers; only = subst (λ names. IsZeroFrom (length names) x.outcome.arrays) (sym names_now) x.store.only };
        stores = x.stores;
        rests = none;
        whole_is = x.whole_is;
        packets = All-tail (IsPacket (count shape.fields)) k ks a.packets;
      }

    acts_on : {b n : Between} {es : List Turn} {turns : List Passage} → RunsBy TakesTurn b es n turns → n.packets ≡ [] → (m : Arrays) → Stands b.tables b.later b.net b.packets m → ActsAsOne shape m b.packets b.net.injected (in_force b.tables b.later) turns n.tables n.net
    acts_on {n = n} done none m a = subst (λ ks. ActsAsOne shape m ks n.net.injected (in_force n.tables n.later) [] n.tables n.net) (sym none) (record {
      made = record { packets = []; arrays = m };
      switched = refl;
      came = tt;
      whole_is = a.whole_is;
      names = a.same.names;
    })
    acts_on (on {hs = turns} (changes {ks = ks} {t = t} {l = l} {ls = ls} {s = s} due) more_turns) none m a =
        let rest = acts_on more_turns none m (changed_on t l ls s ks m due a) in
        record {
          made = rest.made;
          switched = rest.switched;
          came = came-as (in_force l.tables ls) (in_force t (l ∷ ls)) s.injected s.injected turns rest.made.packets (omega arith) (λ j low. sym (due_force t l ls s.injected j due low)) rest.came;
          whole_is = rest.whole_is;
          names = rest.names;
        }
    acts_on (on {hs = turns} (goes {k = k} {ks = ks} {t = t} {ls = ls} {s = s} {s' = s'} {hs = hs} ahead through) more_turns) none m a =
        let one : length (packets_of (Inject (slice_index k 0) k ∷ through.events)) ≡ 1 = ap (λ (l : List (ℕ × List ℕ)). length ((slice_index k 0, k) ∷ l)) through.no_packets in
        let more : s'.injected ≡ s.injected + 1 = counts t through.run ∙ ap (λ x. s.injected + x) one in
        let now : Program = programs s.injected in
        let f = faithful_now t ls s k ks m ahead a in
        let store = store_now t ls s k ks m ahead a in
        let x = acts now t f m store k (packet_now t ls s k ks m ahead a) s s' hs a.stores a.rests through more in
        let rest = acts_on more_turns none x.outcome.arrays (gone_on t ls s k ks m ahead a s' hs x through.rests) in
        record {
          made = record { packets = x.outcome.packets ∷ rest.made.packets; arrays = rest.made.arrays };
          switched = changing_first programs s.injected m k ks x.outcome rest.made x.is (subst (λ i. changing_switch programs i x.outcome.arrays ks ≡ Some rest.made) more rest.switched);
          came = (
            sym (force-now t ls s.injected ahead),
            f.faithful.shape.fields,
            x.came,
            subst (λ h. P now (record { tables = t; happenings = h })) (sym x.happen) (each now t f m store x.events x.fits x.end x.earlier_hs x.run s.injected),
            subst (λ i. CameUnder (in_force t ls) i turns rest.made.packets) more rest.came,
          );
          whole_is = rest.whole_is;
          names = rest.names;
        }

    pub acts_as_one : {end : Tables} {left : List Later} {last : Net} {t : Tables} {ls : List Later} {s : Net} {ks : List (List ℕ)} {turns : List Passage} → RunsThrough end left last t ls s ks turns → (m : Arrays) → Stands t ls s ks m → ActsAsOne shape m ks s.injected (in_force t ls) turns end last
    acts_as_one run m a = acts_on run.1 refl m a

-- Tables are faithful where each packet on its way alone ends as in one big switch, and, where they are single-owner, commits in one step.
use Rattle.std.proofs.Common.{◌≡◌, ℕ, ◌<◌, List, [], ◌++◌, length, Option, Some, refl, sym, ap, subst, ◌∙◌, arith}
use Rattle.std.specs.Prelude.{slice_get}
use Rattle.std.specs.List.{All}
use Rattle.std.specs.List.Sorted.{IsPermutation}
use Rattle.std.proofs.lemmas.List.{append-nil, length-map}
use Rattle.std.proofs.lemmas.List.Elements.{All-map}
use Rattle.std.proofs.lemmas.List.Sorted.{IsPermutation-refl, IsPermutation-sym, IsPermutation-map, All-permutation}
use Rattle.std.proofs.lemmas.Option.{none-some, same_Some}
use Rattle.snap_core.specs.declared.place.Place.{Place}
use Rattle.snap_core.specs.declared.program.Program.{Program}
use Rattle.snap_core.specs.Arrays.{Arrays}
use Rattle.snap_core.specs.Fields.{count}
use Rattle.snap_core.specs.Inputs.{IsZeroFrom}
use Rattle.snap_core.specs.Switch.{Switched, one_big_switch}
use Rattle.snap_dep.specs.Dependencies.{UsesBelow}
use Rattle.snap_core.specs.Fits.{PolFits}
use Rattle.snap_core.specs.Laws.{PutsSmall}
use Rattle.snap_dep.specs.Locality.{NeverRaces}
use Rattle.snap_dep.proofs.Below.{UsesBelow-fits}
use Rattle.snap_topology.specs.declared.topology.Topology.{Topology}
use Rattle.snap_rows.specs.declared.tables.ArrayAt.{ArrayAt}
use Rattle.snap_rows.specs.declared.tables.Tables.{Tables}
use Rattle.snap_rows.specs.Entries.{owner_of}
use Rattle.snap_rows.specs.Form.{array_count}
use Rattle.snap_rows.specs.SingleOwner.{IsSingleOwner}
use Rattle.snap_rows.specs.Network.{Net, Happening, packets_of, start, global_store}
use Rattle.snap_rows.proofs.Ending.{plain_runs_end}
use Rattle.snap_rows.specs.Happenings.{commits}
use Rattle.snap_faithful.specs.Agreement.{numbered, in_order}
use Rattle.snap_faithful.specs.Faithful.{IsStoreOf, IsPacketOf, AllCanEnter, packets_in, AgreesAsInjected, IsDefined, PlainRunsAgree, SequentialRunsAgree, SingleOwnerRunsAgree, HasShape, IsLiveAndReduced, Faithful, HopsAreBounded}
use Rattle.snap_faithful.proofs.Leaving.{came_out}
use Rattle.snap_faithful.proofs.Holding.{NetHoldsOf, whole_holds, starts}
use Rattle.snap_faithful.proofs.Switching.{KeepsStores, keeps_stores, Ends, ends, picks_all, number_at}
use Rattle.snap_faithful.proofs.SequentialRuns.{Ways, ActedAsOne, sequential_runs}
use Rattle.snap_faithful.proofs.SingleOwnerRuns.{Early, State, all_events, early_in}

pub packets_fit : (p : Program) (t : Tables) (ks : List (ℕ × List ℕ)) → AllCanEnter p t ks → All (IsPacketOf p) (packets_in ks)
packets_fit p t ks can = All-map (IsPacketOf p) (λ e. e.1) ks (λ i e l. (can i e l).packet)

module _ (p : Program) (topology : Topology) (places : List ℕ) (t : Tables) (shape : HasShape p topology places t)
    (fits : PolFits (count p.fields) (length p.arrays) p.body) (small : PutsSmall p.body) (never : NeverRaces p.body (count p.fields)) (owner : ℕ → Option ℕ)
    (stands : (v : ℕ) → v < array_count t → (w : ℕ) × (owner_of t v ≡ Some w) × (owner v ≡ Some w))
    (ways : Ways p.body (count p.fields) t owner) (early : IsSingleOwner t → Early p.body (count p.fields) t owner) where
  uses : UsesBelow (length p.arrays) p.body
  uses = UsesBelow-fits (count p.fields) (length p.arrays) p.body fits

  keeps : KeepsStores p.body (count p.fields)
  keeps = keeps_stores p.body (count p.fields) small

  in_tables : (m : Arrays) → IsZeroFrom (length p.arrays) m → IsZeroFrom (array_count t) m
  in_tables m zeros q l = zeros q (let e = sym (length-map t.arrays (λ (a : ArrayAt). a.name)) ∙ ap length shape.names in omega (arith, l, e))

  ending : (m : Arrays) (ks : List (List ℕ)) → IsStoreOf p m → All (IsPacketOf p) ks → Ends (length p.arrays) p.body m ks
  ending m ks store packets = ends p.body (count p.fields) (length p.arrays) uses keeps never ks m store.numbers store.only packets

  -- ---- one big switch is defined
  defined : IsDefined p
  defined m ks store packets = let e = ending m ks store packets in (e.end, e.is, record { numbers = e.store; only = e.zeros })

  -- ---- sequential runs
  holds_at_end : (m : Arrays) (ks : List (List ℕ)) (s : Net) (end : Switched) → IsStoreOf p m → All (IsPacketOf p) ks → one_big_switch p.body m ks ≡ Some end → NetHoldsOf owner s end.arrays → (q : Place) → global_store t s q ≡ end.arrays q
  holds_at_end m ks s end store packets is held =
      let e = ending m ks store packets in
      whole_holds t owner stands s end.arrays held (in_tables end.arrays (subst (λ (x : Switched). IsZeroFrom (length p.arrays) x.arrays) (same_Some e.end end (sym e.is ∙ is)) e.zeros))

  sequentially : SequentialRunsAgree p t
  sequentially m es s hs store can run none =
      let fits = packets_fit p t (packets_of es) can in
      let acted : ActedAsOne p.body t owner m (packets_in (packets_of es)) s hs =
      sequential_runs p.body (count p.fields) t owner never ways keeps m (start t m) store.numbers (starts t owner stands m (in_tables m store.only)) refl refl es s hs fits run none in
      record {
        each_once = IsPermutation-refl (numbered (packets_in (packets_of es)));
        end = acted.answer;
        switched = ap (one_big_switch p.body m) (picks_all (packets_in (packets_of es))) ∙ acted.switched;
        packets = λ j i set e g. acted.came i set (subst (λ x. slice_get acted.answer.packets x ≡ Some set) (sym (number_at (length (packets_in (packets_of es))) 0 j i e ∙ omega arith)) g);
        arrays = holds_at_end m (packets_in (packets_of es)) s acted.answer store fits acted.switched acted.held;
      }

  -- ---- plain runs
  plainly : PlainRunsAgree p t
  plainly m ks store can =
      let run = plain_runs_end t shape.valid shape.form m ks (λ i e l. (can i e l).injected) in (
        run.0,
        run.1,
        run.2,
        run.3,
        subst (λ x. AgreesAsInjected p t m x run.1 run.2) run.3.packets (sequentially m run.0 run.1 run.2 store (subst (AllCanEnter p t) (sym run.3.packets) can) run.3.run run.3.ended),
      )

  -- ---- single-owner runs
  abbrev SingleOwnerState : IsSingleOwner t → Arrays → List (List ℕ) → List (List ℕ) → Net → List Happening → Type 0
  SingleOwnerState single_owner m all pre s hs = State p.body (count p.fields) t owner never (early single_owner) keeps m all pre s hs

  first_state : (single_owner : IsSingleOwner t) (m : Arrays) (all : List (List ℕ)) → IsStoreOf p m → SingleOwnerState single_owner m all [] (start t m) []
  first_state single_owner m all store = record {
    end = record { packets = []; arrays = m };
    switched = refl;
    long = refl;
    store = store.numbers;
    held = starts t owner stands m (in_tables m store.only);
    count = refl;
    shuffled = IsPermutation-refl [];
    came = λ j i set e g. absurd (none-some i e);
    each = λ i l. absurd (omega (arith, l));
    fresh = λ i l. record { new = record { quiet = record { deliveries = refl; losses = refl }; uncommitted = λ j e. none-some i e }; none = refl };
  }

  picked_fit : (all : List (List ℕ)) → All (IsPacketOf p) all → (order : List ℕ) → IsPermutation order (numbered all) → All (IsPacketOf p) (in_order all order)
  picked_fit all fits order perm =
      All-permutation (IsPacketOf p) (in_order all (numbered all)) (in_order all order) (IsPermutation-map _ (numbered all) order (IsPermutation-sym order (numbered all) perm))
      (subst (All (IsPacketOf p)) (sym (picks_all all)) fits)

  lonely : SingleOwnerRunsAgree p t
  lonely single_owner m es s hs store can run none =
      let fits = packets_fit p t (packets_of es) can in
      let st : SingleOwnerState single_owner m (packets_in (packets_of es)) (packets_in (packets_of es)) s hs =
      all_events p.body (count p.fields) t owner never (early single_owner) keeps m (packets_in (packets_of es)) [] [] fits refl (first_state single_owner m (packets_in (packets_of es)) store) run in
      let perm : IsPermutation (commits hs) (numbered (packets_in (packets_of es))) =
      subst (λ l. IsPermutation l (numbered (packets_in (packets_of es)))) (ap (λ l. commits hs ++ early_in l) none ∙ append-nil (commits hs)) st.shuffled in
      record {
        each_once = perm;
        end = st.end;
        switched = st.switched;
        packets = λ j i set e g. came_out none (st.came j i set e g);
        arrays = holds_at_end m (in_order (packets_in (packets_of es)) (commits hs)) s st.end store (picked_fit (packets_in (packets_of es)) fits (commits hs) perm) st.switched st.held;
      }

  pub agreeing : HopsAreBounded p topology t → IsLiveAndReduced p t → Faithful p topology places t
  agreeing bounded live = record { shape = shape; defined = defined; plain_runs = plainly; sequential_runs = sequentially; single_owner_runs = lonely; hop_bound = bounded; live_and_reduced = live }

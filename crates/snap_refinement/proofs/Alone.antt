-- A packet alone, through the network of faithful tables.
use Rattle.std.proofs.Common.{◌≡◌, ℕ, ◌+◌, Bool, true, false, List, [], ◌∷◌, Option, Some, None, map, refl, sym, ap, subst, ◌∙◌, arith}
use Rattle.std.specs.Prelude.{slice_get, slice_index, ◌==◌, option_map, unwrap_or, if◌then◌else◌}
use Rattle.std.specs.List.{All}
use Rattle.std.proofs.lemmas.Bool.{eqb-true, eq-eqb}
use Rattle.std.proofs.lemmas.List.Elements.{All-cons, All-nil}
use Rattle.std.proofs.lemmas.Option.{none-some, same_Some}
use Rattle.snap_core.specs.declared.place.Place.{Place}
use Rattle.snap_core.specs.declared.program.Program.{Program}
use Rattle.snap_core.specs.Arrays.{Arrays}
use Rattle.snap_core.specs.Meaning.{Meaning, eval}
use Rattle.snap_core.specs.Packets.{PacketSet}
use Rattle.snap_core.specs.Switch.{Switched, one_big_switch}
use Rattle.snap_rows.specs.declared.tables.Tables.{Tables}
use Rattle.snap_rows.specs.Entries.{owner_of}
use Rattle.snap_rows.specs.Network.{Net, Event, Inject, Happening, Run, packets_of, start, global_store}
use Rattle.snap_rows.proofs.Runs.{sequential-run}
use Rattle.snap_net.specs.Laws.{HoldsOwnAlone}
use Rattle.snap_net.proofs.Home.{arrays_stay_home}
use Rattle.snap_faithful.specs.Agreement.{Agrees, CameOut, numbered}
use Rattle.snap_faithful.specs.Faithful.{IsPacketOf, IsStoreOf, packets_in}
use Rattle.snap_faithful.proofs.Switching.{only_outcome, picks_all, switched_first}
use Rattle.snap_refinement.proofs.Entered.{IsOfProgram, all_enter}
use Rattle.snap_runs.specs.Changing.{GoesThrough}
use Rattle.snap_refinement.specs.ChangeLaws.{IsFaithfulTo}
use Rattle.snap_refinement.proofs.Earlier.{Earlier, came-later, earlier, later_happening, later_net, none_flies}

-- ---- stores
-- a switch that holds its own arrays alone holds them as the whole store has them
pub own-start : (t : Tables) (s : Net) (m : Arrays) → HoldsOwnAlone t s → ((q : Place) → global_store t s q ≡ m q) → s.stores ≡ (start t m).stores
own-start t s m own all = λ i w q. at w q (owner_of t q.var) refl i
  where
    at : (w : ℕ) (q : Place) (o : Option ℕ) → owner_of t q.var ≡ o → s.stores w q ≡ (start t m).stores w q
    at w q None e =
        own w q (λ x. none-some w (sym e ∙ x)) ∙ sym (ap (λ (o : Option ℕ). if unwrap_or (option_map (λ x. x == w) o) false then m q else 0) e)
    at w q (Some x) e = by (x == w) refl
      where
        by : (b : Bool) → (x == w) ≡ b → s.stores w q ≡ (start t m).stores w q
        by true same =
            ap (λ v. s.stores v q) (sym (eqb-true x w same))
            ∙ sym (ap (λ (o : Option ℕ). unwrap_or (option_map (λ v. s.stores v q) o) 0) e) ∙ all q
            ∙ sym (ap (λ (o : Option ℕ). if unwrap_or (option_map (λ y. y == w) o) false then m q else 0) e ∙ ap (λ b. if b then m q else 0) same)
        by false other =
            own w q (λ y. false_is_true (sym other ∙ eq-eqb x w (same_Some x w (sym e ∙ y))))
            ∙ sym (ap (λ (o : Option ℕ). if unwrap_or (option_map (λ y. y == w) o) false then m q else 0) e ∙ ap (λ b. if b then m q else 0) other)
          where
            false_is_true : false ≡ true → ⊥
            false_is_true x = absurd (cc)

-- ---- one packet
-- one big switch makes this of the packet, and so has the network
pub record Acts (p : Program) (t : Tables) (m : Arrays) (k : List ℕ) (n : ℕ) (s' : Net) (hs : List Happening) : Type 0 where
  pub outcome : Meaning
  pub is : eval p.body m k ≡ Some outcome
  pub store : IsStoreOf p outcome.arrays
  pub came : CameOut t n outcome.packets hs
  pub whole_is : (q : Place) → global_store t s' q ≡ outcome.arrays q
  pub stores : s'.stores ≡ (start t outcome.arrays).stores
  pub injected : s'.injected ≡ n + 1
  pub events : List Event
  pub fits : All (IsOfProgram p) (packets_of events)
  pub end : Net
  pub earlier_hs : List Happening
  pub run : Run t m events end earlier_hs
  pub happen : hs ≡ map (later_happening n) earlier_hs

module _ (p : Program) (t : Tables) (f : IsFaithfulTo p t) (m : Arrays) (store : IsStoreOf p m) (k : List ℕ) (packet : IsPacketOf p k)
    (s s' : Net) (hs : List Happening) (stores : s.stores ≡ (start t m).stores) (none : s.flying ≡ []) (through : GoesThrough t k s s' hs) where
  abbrev port : ℕ
  port = slice_index k 0

  from_start : s ≡ later_net s.injected (start t m)
  from_start = let z : s.injected ≡ 0 + s.injected = omega arith in λ i. record { stores = stores i; injected = z i; flying = none i }

  run : Earlier s.injected t (start t m) (Inject port k ∷ through.events) s' hs
  run = earlier s.injected t through.run (start t m) from_start

  enters : packets_of (Inject port k ∷ through.events) ≡ (port, k) ∷ []
  enters = ap (λ l. (port, k) ∷ l) through.no_packets

  fits : All (IsOfProgram p) (packets_of (Inject port k ∷ through.events))
  fits = subst (All (IsOfProgram p)) (sym enters) (All-cons (IsOfProgram p) (port, k) [] packet (All-nil (IsOfProgram p)))

  agrees : Agrees p t m (k ∷ []) (numbered (k ∷ [])) run.end run.happenings
  agrees = subst (λ l. Agrees p t m l (numbered l) run.end run.happenings) (ap packets_in enters)
      (f.faithful.sequential_runs m (Inject port k ∷ through.events) run.end run.happenings store (all_enter t p fits (sequential-run run.run)) run.run
      (none_flies s.injected run.end.flying (sym (ap (λ (x : Net). x.flying) run.is) ∙ through.rests)))

  switched : one_big_switch p.body m (k ∷ []) ≡ Some agrees.end
  switched = ap (one_big_switch p.body m) (sym (picks_all (k ∷ []))) ∙ agrees.switched

  made : (o : Meaning) × (eval p.body m k ≡ Some o) × (o.arrays ≡ agrees.end.arrays)
  made = only_outcome p.body m k agrees.end switched

  sets : agrees.end.packets ≡ made.0.packets ∷ []
  sets = ap (λ (x : Switched). x.packets) (same_Some _ _ (sym switched ∙ switched_first p.body m k [] made.0 (record { packets = []; arrays = made.0.arrays }) made.1 refl))

  whole_same : (q : Place) → global_store t s' q ≡ made.0.arrays q
  whole_same q = ap (λ (x : Net). global_store t x q) run.is ∙ agrees.arrays q ∙ sym (ap (λ (x : Arrays). x q) made.2)

  own : HoldsOwnAlone t s'
  own = subst (HoldsOwnAlone t) (sym run.is) (arrays_stay_home t f.faithful.shape.valid f.faithful.shape.form m (Inject port k ∷ through.events) run.end run.happenings (sequential-run run.run))

  left_store : IsStoreOf p made.0.arrays
  left_store =
      let d = f.faithful.defined m (k ∷ []) store (All-cons (IsPacketOf p) k [] packet (All-nil (IsPacketOf p))) in
      subst (IsStoreOf p) (ap (λ (x : Switched). x.arrays) (same_Some _ _ (sym d.1 ∙ switched)) ∙ sym made.2) d.2

  pub acts : s'.injected ≡ s.injected + 1 → Acts p t m k s.injected s' hs
  acts more = record {
    outcome = made.0;
    is = made.1;
    store = left_store;
    came = subst (CameOut t s.injected made.0.packets) (sym run.happen) (came-later s.injected t made.0.packets run.happenings (agrees.packets 0 0 made.0.packets refl (ap (λ (x : List PacketSet). slice_get x 0) sets)));
    whole_is = whole_same;
    stores = own-start t s' made.0.arrays own whole_same;
    injected = more;
    events = Inject port k ∷ through.events;
    fits = fits;
    end = run.end;
    earlier_hs = run.happenings;
    run = sequential-run run.run;
    happen = run.happen;
  }

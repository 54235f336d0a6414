-- `compile` gives tables, or one reason why there are none, but that each pair on which the program races may be told.
use Rattle.std.proofs.Common.{◌≡◌, ◌⊎◌, ℕ, Bool, List, [], ◌∷◌, Option, Result, Ok, Err, refl, sym, ◌∙◌, subst, inl, inr}
use Rattle.snap_tables.specs.Text.{text as tables_text}
use Rattle.snap_build.specs.Whole.{IsRaceOf}
use Rattle.snap_faithful.specs.Faithful.{IsDefined}
use Rattle.snap_cli.specs.Check.{Races}
use Rattle.snap_cli.specs.Compile.{AreMade, AreSpelled, EndsCompile, HasNoTables, IsCompileText, IsCompiled}
use Rattle.snap_cli.specs.PlacementOf.{PlacementOf}
use Rattle.snap_cli.proofs.Shared.{All-cons, All-nil, Appends, Arrays, compile, core_program, Ending, EndsJudged, file_of, Files, IsDue, IsExact, IsPacketOf, IsReadBack, Program, ProgramOf, Refusal, SpellsOneProgram, status_of, Tables, Topology}
use Rattle.snap_cli.proofs.CheckOnce.{judged_once, judged_race, same_race}
use Rattle.snap_cli.proofs.Pipeline.{After, Agree, IsSameOutcome, after_once, next_once, one_program, past, refused_alike}
use Rattle.snap_cli.proofs.PlacementOnce.{placement_once}
use Rattle.snap_cli.proofs.RoutesOnce.{Routed, routed_once}

-- where one big switch is always defined, no pair is a race
never_races : (p : Program) → IsDefined p → (m : Arrays) (k : List ℕ) → IsRaceOf p m k → ⊥
never_races p defined m k race =
    let packet : IsPacketOf p k = race.of.packet in
    let end = defined m (k ∷ []) (record { numbers = race.of.store; only = race.of.only }) (All-cons (IsPacketOf p) k [] packet (All-nil (IsPacketOf p))) in
    let some = rw race.none at end.1 in
    absurd (cc)

-- the text of tables for a placement that was read, or the race that is told
abbrev Made : Program → Topology → (on_demand : Bool) → (places : List ℕ) → Result (List ℕ) Refusal → Type 0
Made p t on_demand places (Ok text) = (tables : Tables) × AreMade p t places on_demand tables × IsReadBack tables × (text ≡ tables_text tables)
Made p t on_demand places (Err e) = EndsJudged p (Err e)

-- ---- programs with one core program

module _ (p q : Program) (same : core_program p ≡ core_program q) where
  told-never : IsDefined p → (e : Refusal) → EndsJudged q (Err e) → ⊥
  told-never defined e h = let race = (judged_race q p (sym same) e h).0 in never_races p defined race.0 race.1 race.2

module _ (p q : Program) (same : core_program p ≡ core_program q) where
  made_once : (t : Topology) (on_demand : Bool) (places others : List ℕ) → Agree (IsSameOutcome (λ a b. Unit {0})) (Made p t on_demand places) (Made q t on_demand others)
  made_once t on_demand places others (Ok a) (Ok b) h k = tt
  made_once t on_demand places others (Ok a) (Err f) h k = told-never p q same h.1.0.defined f k
  made_once t on_demand places others (Err e) (Ok b) h k = told-never q p (sym same) k.1.0.defined e h
  made_once t on_demand places others (Err e) (Err f) h k = judged_once p q same (Err e) (Err f) h k

-- ---- the command

module _ (files : Files) (program topology placement : List ℕ) (on_demand : Bool) where
  abbrev Fails : Refusal → Result (List ℕ) Refusal → Type 0
  Fails e r = r ≡ Err e

  -- the text of tables for a placement, a topology with routes and a program, or why there is none
  abbrev WithPlacement : Program → Topology → Result (List ℕ) Refusal → Type 0
  WithPlacement p t = After (PlacementOf p t (file_of files placement)) Fails (Made p t on_demand)

  abbrev WithTopology : Program → Result (List ℕ) Refusal → Type 0
  WithTopology p = After (Routed (file_of files topology)) Fails (WithPlacement p)

  abbrev pub GivesTables : Result (List ℕ) Refusal → Type 0
  GivesTables = After (ProgramOf (file_of files program)) Fails WithTopology

  pub no_tables : (e : Refusal) → HasNoTables files program topology placement e → GivesTables (Err e)
  no_tables e (inl h) = inl (e, h, refl)
  no_tables e (inr (p, h, inl k)) = inr (p, h, inl (e, k, refl))
  no_tables e (inr (p, h, inr (t, table, k, r, inl m))) = inr (p, h, inr (t, (table, k, r), inl (e, m, refl)))
  no_tables e (inr (p, h, inr (t, table, k, r, inr (places, m, told)))) = inr (p, h, inr (t, (table, k, r), inr (places, m, told)))

  pub tables_text_of : (text : List ℕ) → IsCompiled files program topology placement on_demand text → GivesTables (Ok text)
  tables_text_of text (tables, (p, t, places, is, made), back, same) =
      inr (p, is.the_program, inr (t, (is.has_routes.0, is.the_topology, is.has_routes.1), inr (places, is.the_placement, (tables, made, back, same))))

  module _ (spells : SpellsOneProgram) where
    pub tables_once : Agree (IsSameOutcome (λ a b. Unit {0})) GivesTables GivesTables
    tables_once =
        after_once (one_program spells (file_of files program)) _ _ _ _ (refused_alike _)
        (λ p q same h k. next_once (routed_once (file_of files topology)) _ _ _ _ (refused_alike _)
        (λ t is. after_once (placement_once p q same t (file_of files placement)) _ _ _ _ (refused_alike _) (λ places others alike m n. made_once p q same t on_demand places others)))

    -- what came of a program, a topology with routes and a placement
    module _ (p : Program) (t : Topology) (places : List ℕ) (spelled : AreSpelled files program topology placement p t places) where
      told-race : (e : Refusal) → HasNoTables files program topology placement e → Races p × (status_of (Err e) ≡ 10)
      told-race e h =
          let (q, same, is, on) = past (one_program spells (file_of files program)) Fails WithTopology p spelled.the_program (Err e) (no_tables e h) in
          let (u, at, was, rest) = past (routed_once (file_of files topology)) Fails (WithPlacement q) t (spelled.has_routes.0, spelled.the_topology, spelled.has_routes.1) (Err e) on in
          let here = subst (λ (v : Topology). PlacementOf p v (file_of files placement) (Ok places)) at spelled.the_placement in
          judged_race q p (sym same) e (past (placement_once p q same u (file_of files placement)) Fails (Made q u on_demand) places here (Err e) rest).3

      no-race : (text : List ℕ) → IsCompiled files program topology placement on_demand text → Races p → ⊥
      no-race text (tables, (q, u, also, is, made), back, same) (m, k, race) =
          never_races q made.0.defined m k (same_race p q (spells (file_of files program) (Ok p) (Ok q) spelled.the_program is.the_program) m k race)

      module _ (status : ℕ) (out_old out_new : Option (List ℕ)) (err_before err_now : ℕ) (err_old err_new : Option (List ℕ)) where
        abbrev pub Came : Type 0
        Came =
            ((status ≡ 0) × (Races p → ⊥) × ((text : List ℕ) × IsCompiled files program topology placement on_demand text × Appends out_old out_new text))
            ⊎ ((status ≡ 10) × Races p × Appends out_old out_new [])

        with-text : (e : Ending) (text : List ℕ) → EndsCompile files program topology placement on_demand e → IsCompileText files program topology placement on_demand text → status ≡ status_of e → Appends out_old out_new text → Came
        with-text (Ok u) text h (inl k) is out = absurd (tables_once (Ok h.0) (Err k.0) (tables_text_of h.0 h.1) (no_tables k.0 k.1))
        with-text (Ok u) text h (inr k) is out = inl (is, no-race text k, (text, k, out))
        with-text (Err e) text h (inl k) is out = let race = told-race e h in inr (is ∙ race.1, race.0, subst (Appends out_old out_new) k.2 out)
        with-text (Err e) text h (inr k) is out = absurd (tables_once (Ok text) (Err e) (tables_text_of text k) (no_tables e h))

        pub came : (e : Ending) (text : List ℕ) → IsDue files (compile program topology placement on_demand) e text → IsExact e text status out_old out_new err_before err_now err_old err_new → Came
        came e text due exact = with-text e text due.ends due.has_text exact.status_is exact.out

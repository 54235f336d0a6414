-- What `compile` did, from what its steps did.
use Rattle.std.proofs.Common.{◌⊎◌, ◌≤◌, ℕ, Bool, List, [], Option, Result, Ok, Err, length, refl, ap, inl, inr}
use Rattle.snap_placement.specs.Answer.{IsAnswer}
use Rattle.snap_tables.specs.Text.{text as tables_text}
use Rattle.snap_cli.specs.declared.inputs.Inputs.{Inputs}
use Rattle.snap_cli.specs.Compile.{AreSpelled, AreTables, HasNoTables, HasNoTablesFor, IsCompiled}
use Rattle.snap_cli.specs.CompileSteps.{Compiles, GivesTables, MakesTables, WritesTables}
use Rattle.snap_cli.specs.InputsSteps.{AreInputs, GivesInputs, IsStopped}
use Rattle.snap_cli.specs.PlacementOf.{SpellsPlacement}
use Rattle.snap_cli.specs.Reached.{IsReached}
use Rattle.snap_cli.proofs.Shared.{Command, compile, Ending, Ends, EndsJudged, file_of, Files, IsReadBack, IsText, IsTooLong, MayPrecedeRead, Meets, NoMemory, Program, Refusal, Table, Tables, Topology, Write}
use Rattle.snap_cli.proofs.InputsLemmas.{stopped-map}
use Rattle.snap_cli.proofs.RefusedBy.{by-map, meets-by}

-- ---- a placement

-- why no tables are made for the placement that a text spells, or why it spells none
abbrev Stops : Program → Topology → (text : List ℕ) → Refusal → Type 0
Stops p t text refusal = SpellsPlacement p t text (Err refusal) ⊎ ((places : List ℕ) × SpellsPlacement p t text (Ok places) × EndsJudged p (Err refusal))

pub compiles-made : (p : Program) (t : Topology) (text places : List ℕ) (on_demand : Bool) (r : Result Tables Refusal) → IsAnswer p t text (Ok places) → MakesTables p t places on_demand r → Compiles p t text on_demand r
compiles-made p t text places on_demand (Ok tables) spelled h = (places, spelled, h)
compiles-made p t text places on_demand (Err e) spelled h =
    by-map (λ failed. ⊥) (λ failed. ⊥) (λ x. EndsJudged p (Err x)) (Stops p t text) (λ failed no. no) (λ x told. inr (places, spelled, told)) e h

-- ---- the three files

stops-for : (p : Program) (t : Topology) (file : List ℕ) (e : Refusal) → length file ≤ 1048576 → Stops p t file e → HasNoTablesFor p t file e
stops-for p t file e short (inl none) = inl (inr (short, none))
stops-for p t file e short (inr (places, spelled, told)) = inr (places, inr (short, spelled), told)

module _ (files : Files) (program topology placement : List ℕ) (on_demand : Bool) where
  pub gives-made : (i : Inputs) (r : Result Tables Refusal) → AreInputs files program topology placement i → Compiles i.program i.network.topology (file_of files placement) on_demand r
      → GivesTables files program topology placement on_demand r
  gives-made i (Ok tables) are (places, spelled, made) =
      let named : AreSpelled files program topology placement i.program i.network.topology places = record {
        the_program = are.the_program;
        the_topology = are.the_topology;
        has_routes = (i.network.routes, are.the_routes);
        the_placement = inr (are.short, spelled);
      } in
      (i.program, i.network.topology, places, named, made)
  gives-made i (Err e) are h =
      by-map (λ failed. ⊥) (IsReached files program topology placement) (Stops i.program i.network.topology (file_of files placement)) (HasNoTables files program topology placement) (λ failed no. absurd no)
      (λ x why. inr (i.program, are.the_program, inr (i.network.topology, i.network.routes, are.the_topology, are.the_routes, stops-for i.program i.network.topology (file_of files placement) x are.short why))) e h

  pub gives-none : (e : Refusal) → GivesInputs files program topology placement (Err e) → GivesTables files program topology placement on_demand (Err e)
  gives-none e h =
      let long : Program → Topology → Table → Refusal → Type 0 = λ p t table. IsTooLong 1048576 (file_of files placement) in
      by-map (IsReached files program topology placement) (IsReached files program topology placement) (IsStopped long files program topology) (HasNoTables files program topology placement) (λ failed is. is)
      (stopped-map long (λ p t table. HasNoTablesFor p t (file_of files placement)) files program topology (λ p t table x h. inl (inl (h.0, ap (λ y. Err y) h.1)))) e h

-- ---- the command

module _ (files : Files) (program topology placement : List ℕ) (on_demand : Bool) where
  abbrev command : Command
  command = compile program topology placement on_demand

  pub meets-refused : (out : Option (List ℕ)) (e : Refusal) → GivesTables files program topology placement on_demand (Err e) → Meets files command (Err e) out out
  meets-refused out e h =
      meets-by files command out e (inl refl)
      (by-map (IsReached files program topology placement) (λ name. MayPrecedeRead files command name []) (HasNoTables files program topology placement) (λ x. Ends files command (Err x) × IsText files command [])
      (λ name is. (is, refl)) (λ x no. (no, inl (x, no, refl))) e h)

  module _ (old new : Option (List ℕ)) (tables : Tables) (are : AreTables files program topology placement on_demand tables) (back : IsReadBack tables) where
    written : IsCompiled files program topology placement on_demand (tables_text tables)
    written = (tables, are, back, refl)

    pub meets-written : (e : Ending) → WritesTables tables e old new → Meets files command e old new
    meets-written (Ok u) h = ((tables_text tables, written), (tables_text tables, inr written, h))
    meets-written (Err Write) h = inr (tables_text tables, inr written, h)
    meets-written (Err NoMemory) h = (tables_text tables, inr written, h)
    meets-written (Err e) h = absurd h

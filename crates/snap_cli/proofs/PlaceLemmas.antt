-- What `place` did, from what its steps did.
use Rattle.std.proofs.Common.{ℕ, List, [], Option, Result, Ok, Err, refl, inl, inr}
use Rattle.std.specs.Prelude.{Vec}
use Rattle.std.specs.declared.alloc.Global.{Global}
use Rattle.snap_words.specs.Commands.{place}
use Rattle.snap_cli.specs.declared.inputs.Inputs.{Inputs}
use Rattle.snap_cli.specs.InputsSteps.{AreInputs, GivesInputs, IsStopped}
use Rattle.snap_cli.specs.Place.{HasNoDemand, HasNoPlacement, IsPlacementOf, SpellsNoDemand}
use Rattle.snap_cli.specs.PlaceSteps.{GivesPlacement, Places}
use Rattle.snap_cli.specs.Reached.{IsReached}
use Rattle.snap_cli.proofs.Shared.{Appends-nil, file_of, Files, IsTooLong, Meets, NoMemory, Program, Read, ReadChange, Refusal, Table, Topology, Write}
use Rattle.snap_cli.proofs.InputsLemmas.{stopped-map}
use Rattle.snap_cli.proofs.RefusedBy.{by-map}

-- ---- the three files
module _ (files : Files) (program topology demand : List ℕ) where
  pub gives-placed : (i : Inputs) (r : Result (Vec ℕ Global) Refusal) → AreInputs files program topology demand i → Places i.program i.network.topology i.network.routes (file_of files demand) r
      → GivesPlacement files program topology demand r
  gives-placed i (Ok made) are is =
      let placed : IsPlacementOf i.program i.network.topology i.network.routes (file_of files demand) made.items =
      record { short = are.short; form = is.form; grouping = is.grouping; groups = is.groups; demand = is.demand; spells = is.spells; best = is.best; is_best = is.is_best; is = is.is } in
      (i.program, are.the_program, (i.network.topology, i.network.routes, are.the_topology, are.the_routes, placed))
  gives-placed i (Err e) are h =
      by-map (λ failed. ⊥) (IsReached files program topology demand) (SpellsNoDemand i.program i.network.topology (file_of files demand)) (HasNoPlacement files program topology demand) (λ failed no. absurd no)
      (λ x no. inr (i.program, are.the_program, inr (i.network.topology, i.network.routes, are.the_topology, are.the_routes, inr (are.short, no)))) e h

  pub gives-none : (e : Refusal) → GivesInputs files program topology demand (Err e) → GivesPlacement files program topology demand (Err e)
  gives-none e h =
      let long : Program → Topology → Table → Refusal → Type 0 = λ p t table. IsTooLong 1048576 (file_of files demand) in
      by-map (IsReached files program topology demand) (IsReached files program topology demand) (IsStopped long files program topology) (HasNoPlacement files program topology demand) (λ failed is. is)
      (stopped-map long (λ p t table. HasNoDemand p t (file_of files demand)) files program topology (λ p t table x h. inl h)) e h

-- ---- the command
module _ (files : Files) (program topology demand : List ℕ) where
  pub meets-refused : (out : Option (List ℕ)) (e : Refusal) → GivesPlacement files program topology demand (Err e) → Meets files (place program topology demand) (Err e) out out
  meets-refused out (Read name) h = ([], (h, refl), (0, Appends-nil out))
  meets-refused out (ReadChange name) h = ([], (h, refl), (0, Appends-nil out))
  meets-refused out NoMemory h = ([], refl, (0, Appends-nil out))
  meets-refused out Write h = inl ([], refl, (0, Appends-nil out))
  meets-refused out e h = (h, ([], inl (e, h, refl), Appends-nil out))

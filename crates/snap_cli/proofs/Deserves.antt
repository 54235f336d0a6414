-- Each command deserves one ending and one text: its steps give one result each.
use Rattle.std.proofs.Common.{ℕ, Ok, sym, ◌∙◌, inl, inr}
use Rattle.snap_dep.specs.Dependencies.{TiedIsEquivalence, UsesBelow}
use Rattle.snap_dep.specs.Ranks.{HasOneRank}
use Rattle.snap_report.specs.OneSwitch.{IsReport}
use Rattle.snap_words.specs.Commands.{check, demo, deps, equal, obs, routes, place}
use Rattle.snap_cli.specs.Compile.{EndsCompile}
use Rattle.snap_cli.specs.Deps.{HasOneText}
use Rattle.snap_cli.specs.Laws.{IsSameText}
use Rattle.snap_cli.specs.Place.{EndsPlace}
use Rattle.snap_cli.specs.Routes.{EndsRoutes}
use Rattle.snap_cli.proofs.Shared.{Command, compile, Ends, file_of, Files, HasOneListing, IsSameEnding, IsText, Pol, SpellsOneProgram, trace}
use Rattle.snap_cli.proofs.CheckOnce.{judged_once, text_judged_once}
use Rattle.snap_cli.proofs.CompileOnce.{no_tables, tables_once, tables_text_of}
use Rattle.snap_cli.proofs.DemoOnce.{demo_text_once}
use Rattle.snap_cli.proofs.EqualOnce.{ends_equal_once, equal_text_once}
use Rattle.snap_cli.proofs.ObsOnce.{reports_once, run_once}
use Rattle.snap_cli.proofs.OneTables.{one_tables, spelled_form}
use Rattle.snap_cli.proofs.Pipeline.{Agree, after_once, ends_once, next_once, one_program, relayed, text_once}
use Rattle.snap_cli.proofs.PlaceOnce.{no_placement, placement_text_of, places_once}
use Rattle.snap_cli.proofs.RoutesOnce.{no_routes, routes_once, routes_text_of}
use Rattle.snap_cli.proofs.SameCore.{same_report}
use Rattle.snap_cli.proofs.SameUses.{same_text}
use Rattle.snap_cli.proofs.TraceOnce.{RunsAreOne, network_once, run_text_once}

-- what is known of texts, programs and runs
pub record StepsAreOne : Type 0 where
  pub spells : SpellsOneProgram
  pub lists : HasOneListing
  pub text : HasOneText
  pub tied : (p : Pol) → TiedIsEquivalence p
  pub ranks : (p : Pol) (n : ℕ) → UsesBelow n p → HasOneRank p n
  pub runs : RunsAreOne

module _ (one : StepsAreOne) (files : Files) where
  pub ending_once : (command : Command) → Agree IsSameEnding (Ends files command) (Ends files command)
  ending_once (obs program packets) =
      after_once (one_program one.spells (file_of files program)) _ _ _ _ relayed
      (λ p q same h k a b m n. let file = file_of files packets in
      inl (run_once (IsReport q file) (reports_once one.lists q file) m.0 n.0 a b (m.1.0, same_report p q same file m.1.0 m.0 m.1.1, m.1.2) n.1).0)
  ending_once (deps program) = after_once (one_program one.spells (file_of files program)) _ _ _ _ relayed (λ p q same h k a b m n. inl (m ∙ sym n))
  ending_once (check program) = after_once (one_program one.spells (file_of files program)) _ _ _ _ relayed (λ p q same h k. judged_once p q same)
  ending_once (equal left right) = ends_equal_once one.spells files left right
  ending_once (routes topology) =
      let file = file_of files topology in
      ends_once (routes_once file) (EndsRoutes files topology) (λ h. (h.0, routes_text_of file h.0 h.1)) (no_routes file)
  ending_once (place program topology demand) =
      ends_once (places_once files program topology demand one.spells one.tied one.ranks) (EndsPlace files program topology demand)
      (λ h. (h.0, placement_text_of files program topology demand h.0 h.1)) (no_placement files program topology demand)
  ending_once (compile program topology placement on_demand) =
      ends_once (tables_once files program topology placement on_demand one.spells) (EndsCompile files program topology placement on_demand)
      (λ h. (h.0, tables_text_of files program topology placement on_demand h.0 h.1)) (no_tables files program topology placement on_demand)
  ending_once (trace tables packets hops order) =
      let file = file_of files tables in
      next_once (one_tables one.runs.read file) _ _ _ _ relayed
      (λ t is a b m n. inl (network_once one.runs files t (spelled_form file t is) packets hops order m.0 n.0 a b m.1 n.1).0)
  ending_once (demo switches) = λ a b h k. inl (h ∙ sym k)

  pub text_of_once : (command : Command) → Agree (IsSameText files command) (IsText files command) (IsText files command)
  text_of_once (obs program packets) =
      after_once (one_program one.spells (file_of files program)) _ _ _ _ (λ e a b h k. inl (h ∙ sym k))
      (λ p q same h k a b m n. let file = file_of files packets in inl (reports_once one.lists q file a b m.0 n.0 (same_report p q same file m.0 a m.1) n.1).1)
  text_of_once (deps program) =
      after_once (one_program one.spells (file_of files program)) _ _ _ _ (λ e a b h k. inl (h ∙ sym k))
      (λ p q same h k a b m n. inl (one.text q k.2 a b (same_text p q same a m) n))
  text_of_once (check program) =
      after_once (one_program one.spells (file_of files program)) _ _ _ _ (λ e a b h k. inl (h ∙ sym k)) (λ p q same h k a b m n. inl (text_judged_once p q same a b m n))
  text_of_once (equal left right) = λ a b h k. inl (equal_text_once one.spells files left right a b h k)
  text_of_once (routes topology) =
      let file = file_of files topology in
      text_once (routes_once file) _ _ (no_routes file) (routes_text_of file) (λ a b h k. inl (h ∙ sym k))
      (λ a b h k. inl (routes_once file (Ok a) (Ok b) (routes_text_of file a h) (routes_text_of file b k)))
  text_of_once (place program topology demand) =
      let once = places_once files program topology demand one.spells one.tied one.ranks in
      let text = placement_text_of files program topology demand in
      text_once once _ _ (no_placement files program topology demand) text (λ a b h k. inl (h ∙ sym k)) (λ a b h k. inl (once (Ok a) (Ok b) (text a h) (text b k)))
  text_of_once (compile program topology placement on_demand) =
      text_once (tables_once files program topology placement on_demand one.spells) _ _ (no_tables files program topology placement on_demand)
      (tables_text_of files program topology placement on_demand) (λ a b h k. inl (h ∙ sym k)) (λ a b h k. inr (h, k))
  text_of_once (trace tables packets hops order) =
      let file = file_of files tables in
      next_once (one_tables one.runs.read file) _ _ _ _ (λ e a b h k. inl (h ∙ sym k)) (λ t is a b m n. inl (run_text_once one.runs files t (spelled_form file t is) packets hops order a b m n))
  text_of_once (demo switches) = λ a b h k. inl (demo_text_once one.lists switches a b h k)

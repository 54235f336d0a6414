-- Where all sources are one.
use Rattle.std.proofs.Common.{◌≡◌, ℕ, ◌+◌, List, [], ◌∷◌, ◌++◌, false, length, Ok, refl, sym, subst, ◌∙◌}
use Rattle.std.specs.Prelude.{option_and_then}
use Rattle.snap_core.specs.Meaning.{Meaning}
use Rattle.snap_core.specs.Packets.{PacketSet}
use Rattle.snap_core.specs.Switch.{one_big_switch}
use Rattle.snap_report.specs.Reports.{block, end_text}
use Rattle.snap_refinement.specs.OneSwitch.{port_lines}
use Rattle.snap_rows.specs.Entries.{port_numbers}
use Rattle.snap_refinement.specs.ChangingSwitch.{IsSwitchReportUnder, blocks_under}
use Rattle.snap_cli.proofs.SameCore.{same_eval, same_fields, same_names}
use Rattle.snap_refinement.specs.ChangingSwitch.{IsChangingReport, changing_switch}
use Rattle.snap_cli.specs.Upgrades.{ChangesTraceAsOneSwitch, UpgradesTraceAsOneSwitch}
use Rattle.snap_cli.proofs.Shared.{Arrays, core_program, file_of, in_force, option_map, Program, spelled, SpellsOneProgram, Switched, zero_arrays}

module _ (programs : ℕ → Program) (p : Program) (same : (i : ℕ) → core_program (programs i) ≡ core_program p) where
  one_switch : (i : ℕ) (m : Arrays) (ks : List (List ℕ)) → changing_switch programs i m ks ≡ one_big_switch p.body m ks
  one_switch i m [] = refl
  one_switch i m (k ∷ ks) = λ x.
      option_and_then (λ (o : Meaning). option_map (λ (r : Switched). record { packets = o.packets ∷ r.packets; arrays = r.arrays }) (one_switch (i + 1) o.arrays ks x)) (same_eval (programs i) p (same i) m k x)

  one_blocks : (ports : ℕ → List ℕ) (i : ℕ) (sets : List PacketSet) → blocks_under (λ j. port_lines (programs j).fields (ports j)) i sets ≡ blocks_under (λ j. port_lines p.fields (ports j)) i sets
  one_blocks ports i [] = refl
  one_blocks ports i (set ∷ sets) = λ x. block (port_lines (same_fields (programs i) p (same i) x) (ports i)) (i + 1) set ++ one_blocks ports (i + 1) sets x

  one_report : (ports : ℕ → List ℕ) (ks : List (List ℕ)) (text : List ℕ) → IsChangingReport programs ports ks text → IsSwitchReportUnder p ports ks text
  one_report ports ks text r = record {
    made = r.made;
    defined = sym (one_switch 0 zero_arrays ks) ∙ r.defined;
    entries = r.entries;
    listed = r.listed;
    is = r.is ∙ (λ x. one_blocks ports 0 r.made.packets x ++ end_text (same_names (programs (length ks)) p (same (length ks)) x) r.entries);
  }

pub one_source : SpellsOneProgram → UpgradesTraceAsOneSwitch → ChangesTraceAsOneSwitch
one_source spells law source later tables packets lines report output outputs d =
    let told = law (λ name. source) later tables packets lines false report output outputs d in
    let g = told.0 in
    let p : Program = g.programs 0 in
    record {
      p = p;
      the_program = g.the_programs 0;
      first = g.first;
      the_first = g.the_first;
      others = g.others;
      the_others = g.the_others;
      whole = g.whole;
      report = one_report g.programs p (λ i. spells source (Ok (g.programs i)) (Ok p) (g.the_programs i) (g.the_programs 0)) _ (spelled p.fields (file_of later packets)).packets report
          (subst (IsChangingReport g.programs (λ i. port_numbers (in_force g.first g.others i)) (spelled p.fields (file_of later packets)).packets) (told.1.same refl) told.1.one_switch);
    }

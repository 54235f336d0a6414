-- `Spells` says which program a text spells just as the reading with faults does.
use Rattle.std.proofs.Common.{◌≡◌, ℕ, ◌≤◌, List, length, Ok}
use Rattle.snap_names.specs.Declarations.{Program, core_program, resolved}
use Rattle.snap_lex.specs.Lexemes.{SpellsTokens}
use Rattle.snap_parse.specs.Grammar.{DerivesWithin}
use Rattle.snap_parse.specs.Tree.{SourceTree}
use Rattle.snap_names.specs.Core.{core_policy}
use Rattle.snap_names.specs.Spells.{Token, before_text, SpellsProgram}
use Rattle.snap_names.proofs.FaultlessDeclared.{IsProgramOf-resolved}
use Rattle.snap_names.proofs.DerivedTrees.{SourceWritten-text}
use Rattle.snap_names.proofs.GrownTrees.{program-grown}
use Rattle.snap_names.proofs.ReadableDeclared.{resolved-IsProgramOf}
use Rattle.snap_names.proofs.SpelledTrees.{program-spelled}

-- the tokens of a short text derive a tree that is read as this program
abbrev pub IsReadAs : List ℕ → Program → Type 0
IsReadAs text p = (length text ≤ 262144) × ((ts : List Token) × (s : SourceTree) × SpellsTokens text ts × DerivesWithin 128 ts s × (resolved text s ≡ Ok (core_program p)))

pub SpellsProgram-read : (text : List ℕ) (p : Program) → IsReadAs text p → SpellsProgram text p
SpellsProgram-read text p (short, (ts, s, spelled, derived, read)) =
    let h = IsProgramOf-resolved text s (SourceWritten-text text s (ts, spelled, (128, derived))) p read in
    record {
      short = short;
      tokens = ts;
      spelled = spelled;
      atoms = h.atoms;
      few_atoms = h.few_atoms;
      scope = h.scope;
      read = program-spelled ts s derived (before_text text h.atoms) h.scope (core_policy p.body) h.declared h.body;
      fields = h.fields;
      arrays = h.arrays;
      few_components = h.few_components;
      few_arrays = h.few_arrays;
      few_nodes = h.few_nodes;
      light = h.light;
    }

pub read-SpellsProgram : (text : List ℕ) (p : Program) → SpellsProgram text p → IsReadAs text p
read-SpellsProgram text p h =
    let tree = program-grown (before_text text h.atoms) h.tokens h.scope (core_policy p.body) h.read in (
      h.short,
      (
        h.tokens,
        tree.0,
        h.spelled,
        tree.1,
        resolved-IsProgramOf text tree.0 p (record {
          atoms = h.atoms;
          few_atoms = h.few_atoms;
          scope = h.scope;
          declared = tree.2;
          fields = h.fields;
          arrays = h.arrays;
          body = tree.3;
          few_components = h.few_components;
          few_arrays = h.few_arrays;
          few_nodes = h.few_nodes;
          light = h.light;
        }),
      ),
    )

use Rattle.std.proofs.Common.{◌≡◌, [], length, map}
use Rattle.snap_parse.specs.declared.cursor.TheConstants.{MAX_DEPTH}
use Rattle.snap_parse.specs.Tree.{decl_tree}
use Rattle.snap_parse.specs.Machine.{at_decl, run}
use Rattle.snap_parse.proofs.cursor.Parser.program.Given as goal

abbrev pub invariant-loop-decls : goal.invariant-loop-decls
invariant-loop-decls l = run MAX_DEPTH l.self.end (at_decl []) l.tokens ≡ run MAX_DEPTH l.self.end (at_decl (map decl_tree l.decls.items)) l.rest

abbrev pub decreases-loop-decls : goal.decreases-loop-decls
decreases-loop-decls l = length l.rest

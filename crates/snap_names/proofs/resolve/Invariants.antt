use Rattle.std.proofs.Common.{map, drop}
use Rattle.snap_parse.specs.Tree.{decl_tree}
use Rattle.snap_names.proofs.Resolving.{AreDeclared}
use Rattle.snap_names.proofs.resolve.Given as goal

-- The declarations so far are declared in the scope.
abbrev pub invariant-loop-decl : goal.invariant-loop-decl
invariant-loop-decl l = AreDeclared l.text (map decl_tree l.source.decls.items) (map decl_tree (drop l.decl-index l.source.decls.items)) l.scope l.tally.arities.items

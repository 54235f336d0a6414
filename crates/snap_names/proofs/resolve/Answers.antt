-- A program that is resolved is the reading's, so it is bounded.
use Rattle.std.proofs.Common.{◌≡◌, ◌≢◌, ◌≤◌, ◌<◌, length, get_or, [], Ok, Err, ap, ◌∙◌, subst}
use Rattle.std.proofs.lemmas.Result.{IfErr-weaker, IfOk-weaker}
use Rattle.snap_parse.specs.Tree.{source_tree, decl_tree}
use Rattle.snap_names.specs.Senses.{NoMemory, after}
use Rattle.snap_names.specs.Declarations.{core_program, limited}
use Rattle.snap_names.specs.Scopes.{Limits, declared_in}
use Rattle.snap_names.proofs.Resolving.{AreDeclared, AreDeclared-more, resolved-refused, AreDeclared-rest, map-drop, drop-all, IfErr-from, resolved-read, resolved-limited}
use Rattle.snap_names.proofs.WellFormed.{IfOk-bounded, IfOk-well_formed, IsFields-declared}
use Rattle.snap_names.proofs.DerivedTrees.{SourceWritten-text}
use Rattle.snap_names.proofs.resolve.Goals as goal

pub returns-in_err-declare-clause-refused : goal.returns-in_err-declare-clause-refused
returns-in_err-declare-clause-refused c =
    let h = AreDeclared-rest c.args.text.now _ _ _ c.loop-decl.scope c.loop-decl.tally.arities.items (map-drop decl_tree c.args.source.now.decls.items c.loop-decl.decl-index c.decl-item.result (subst (λ xs. c.loop-decl.decl-index < length xs) c.deref-decl-items.ensures.value c.loop-decl-test.true) (subst (λ xs. c.decl-item.result ≡ get_or xs c.loop-decl.decl-index c.decl-item.result) c.deref-decl-items.ensures.value c.decl-item.is)) c.loop-decl.invariant in
    IfErr-from c.from_residual-in_err-declare.result c.in_err-declare.field-0.0 _ c.from_residual-in_err-declare.ensures.1
    (λ n. resolved-refused c.args.text.now (source_tree c.args.source.now) _ _ c.loop-decl.scope c.loop-decl.tally.arities.items c.in_err-declare.field-0.0 h (c.in_err-declare.ensures n))

pub loop-decl-preserved : goal.loop-decl-preserved
loop-decl-preserved c =
    let h = AreDeclared-rest c.args.text.now _ _ _ c.loop-decl.scope c.loop-decl.tally.arities.items (map-drop decl_tree c.args.source.now.decls.items c.loop-decl.decl-index c.decl-item.result (subst (λ xs. c.loop-decl.decl-index < length xs) c.deref-decl-items.ensures.value c.loop-decl-test.true) (subst (λ xs. c.decl-item.result ≡ get_or xs c.loop-decl.decl-index c.decl-item.result) c.deref-decl-items.ensures.value c.decl-item.is)) c.loop-decl.invariant in
    AreDeclared-more c.args.text.now _ _ _ c.loop-decl.scope c.declare.new.self c.loop-decl.tally.arities.items c.declare.new.tally.arities.items h c.in_ok-declare.ensures

pub returns-in_err-body-clause-refused : goal.returns-in_err-body-clause-refused
returns-in_err-body-clause-refused c =
    let tree = source_tree c.args.source.now in
    let arities = c.loop-decl.tally.arities.items in
    let all : AreDeclared c.args.text.now tree.decls [] c.loop-decl.scope arities = AreDeclared-rest c.args.text.now tree.decls _ _ c.loop-decl.scope arities (drop-all decl_tree c.args.source.now.decls.items c.loop-decl.decl-index (subst (λ xs. length xs ≤ c.loop-decl.decl-index) c.deref-decl-items.ensures.value c.loop-decl-test.false)) c.loop-decl.invariant in
    IfErr-from c.from_residual-in_err-body.result c.in_err-body.field-0.0 _ c.from_residual-in_err-body.ensures.1
    (λ n. resolved-read c.args.text.now tree c.loop-decl.scope arities all
    ∙ ap (λ r. after r (limited (declared_in c.loop-decl.scope all.lets arities))) (c.in_err-body.ensures n all.lets all.scope.bodies))

pub limited-requires : goal.limited-requires
limited-requires c =
    let tree = source_tree c.args.source.now in
    let arities = c.loop-decl.tally.arities.items in
    let all : AreDeclared c.args.text.now tree.decls [] c.loop-decl.scope arities = AreDeclared-rest c.args.text.now tree.decls _ _ c.loop-decl.scope arities (drop-all decl_tree c.args.source.now.decls.items c.loop-decl.decl-index (subst (λ xs. length xs ≤ c.loop-decl.decl-index) c.deref-decl-items.ensures.value c.loop-decl-test.false)) c.loop-decl.invariant in
    IsFields-declared c.args.text.now tree (declared_in c.loop-decl.scope all.lets arities) all.rest_is

pub returns-clause-ok : goal.returns-clause-ok
returns-clause-ok c =
    let tree = source_tree c.args.source.now in
    let arities = c.loop-decl.tally.arities.items in
    let all : AreDeclared c.args.text.now tree.decls [] c.loop-decl.scope arities = AreDeclared-rest c.args.text.now tree.decls _ _ c.loop-decl.scope arities (drop-all decl_tree c.args.source.now.decls.items c.loop-decl.decl-index (subst (λ xs. length xs ≤ c.loop-decl.decl-index) c.deref-decl-items.ensures.value c.loop-decl-test.false)) c.loop-decl.invariant in
    IfOk-weaker c.limited.result _ _
    (λ p (limits : Limits c.loop-decl.scope c.body.new.tally c.in_ok-body.body (λ r. r ≡ Ok (core_program p))). resolved-limited c.args.text.now tree c.loop-decl.scope arities c.loop-decl.tally c.body.new.tally c.in_ok-body.body _ all c.in_ok-body.ensures limits)
    c.limited.ensures.ok

pub returns-clause-bounded : goal.returns-clause-bounded
returns-clause-bounded c = IfOk-bounded c.args.text.now (source_tree c.args.source.now) c.limited.result (returns-clause-ok c)

pub returns-clause-well_formed : goal.returns-clause-well_formed
returns-clause-well_formed c = λ h. IfOk-well_formed c.args.text.now (source_tree c.args.source.now) c.limited.result (SourceWritten-text c.args.text.now (source_tree c.args.source.now) h) (returns-clause-ok c)

pub returns-clause-refused : goal.returns-clause-refused
returns-clause-refused c =
    let tree = source_tree c.args.source.now in
    let arities = c.loop-decl.tally.arities.items in
    let all : AreDeclared c.args.text.now tree.decls [] c.loop-decl.scope arities = AreDeclared-rest c.args.text.now tree.decls _ _ c.loop-decl.scope arities (drop-all decl_tree c.args.source.now.decls.items c.loop-decl.decl-index (subst (λ xs. length xs ≤ c.loop-decl.decl-index) c.deref-decl-items.ensures.value c.loop-decl-test.false)) c.loop-decl.invariant in
    IfErr-weaker c.limited.result _ _
    (λ f (limits : f ≢ NoMemory → Limits c.loop-decl.scope c.body.new.tally c.in_ok-body.body (λ r. r ≡ Err f)) n. resolved-limited c.args.text.now tree c.loop-decl.scope arities c.loop-decl.tally c.body.new.tally c.in_ok-body.body _ all c.in_ok-body.ensures (limits n))
    c.limited.ensures.refused

use Rattle.std.proofs.Common.{◌∙◌, ap, refl, sym, map, Err}
use Rattle.std.proofs.lemmas.List.{map_push}
use Rattle.snap_parse.specs.declared.cursor.TheConstants.{MAX_DEPTH}
use Rattle.snap_parse.specs.Machine.{Unexpected, at_decl, the_end, run}
use Rattle.snap_parse.specs.Tree.{decl_tree, policy_tree}
use Rattle.snap_parse.proofs.Told.{is_empty_tells, not_empty_tells}
use Rattle.snap_parse.proofs.Parts.{some_decl, none_decl, ends, goes_past}
use Rattle.snap_parse.proofs.cursor.Parser.program.Goals as goal

pub loop-decls-init : goal.loop-decls-init
loop-decls-init c = ap (λ ds. run MAX_DEPTH c.args.self.now.end (at_decl (map decl_tree ds)) c.args.tokens.now) (sym c.new-decls.ensures.items)

pub loop-decls-preserved : goal.loop-decls-preserved
loop-decls-preserved c =
    let end = c.args.self.now.end in
    let items = c.loop-decls.decls.items in
    c.loop-decls.invariant
    ∙ (some_decl MAX_DEPTH end c.loop-decls.rest.now c.in_ok-decl.field-0 (c.in-Some.decl, c.in-Some.after) c.in-Some.is c.in_ok-decl.ensures.reads (map decl_tree items)
    ∙ ap (λ ds. run MAX_DEPTH end (at_decl ds) c.in-Some.after.now) (sym (ap (map decl_tree) c.in_ok-push.ensures.items ∙ map_push decl_tree items c.in-Some.decl)))

pub returns-then-is_empty : goal.returns-then-is_empty
returns-then-is_empty c =
    let end = c.args.self.now.end in
    let ds = map decl_tree c.loop-decls.decls.items in
    c.loop-decls.invariant
    ∙ (none_decl MAX_DEPTH end c.loop-decls.rest.now c.in_ok-decl.field-0 c.in_default.is c.in_ok-decl.ensures.reads ds
    ∙ (c.in_ok-policy.ensures.reads (the_end ds) refl
    ∙ ends MAX_DEPTH end ds (policy_tree c.in_ok-policy.policy) c.in_ok-policy.rest.now (is_empty_tells _ c.if-is_empty.ensures)))

pub returns-else-is_empty : goal.returns-else-is_empty
returns-else-is_empty c =
    let end = c.args.self.now.end in
    let ds = map decl_tree c.loop-decls.decls.items in
    c.loop-decls.invariant
    ∙ (none_decl MAX_DEPTH end c.loop-decls.rest.now c.in_ok-decl.field-0 c.in_default.is c.in_ok-decl.ensures.reads ds
    ∙ (c.in_ok-policy.ensures.reads (the_end ds) refl
    ∙ (goes_past MAX_DEPTH end ds (policy_tree c.in_ok-policy.policy) c.in_ok-policy.rest.now (not_empty_tells _ c.if-is_empty.ensures)
    ∙ ap (λ n. Err (Unexpected n)) (sym c.place.ensures))))

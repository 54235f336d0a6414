use Rattle.std.proofs.Common.{◌∙◌, arith}
use Rattle.snap_parse.specs.Kinds.{Kind, Key}
use Rattle.snap_parse.specs.Machine.{in_field, in_array, in_constant, in_let, begin_decl}
use Rattle.snap_parse.specs.declared.cursor.TheConstants.{MAX_DEPTH}
use Rattle.snap_parse.proofs.Steps.{goes, begins, refuses}
use Rattle.snap_parse.proofs.Parts.{no_decl, exits_declaration}
use Rattle.snap_parse.proofs.cursor.Parser.declaration.Goals as goal

pub returns-in_err-found-clause-reads : goal.returns-in_err-found-clause-reads
returns-in_err-found-clause-reads c = let end = c.args.self.now.end in
    exits_declaration MAX_DEPTH end c.args.tokens.now c.from_residual.result _ c.from_residual.ensures.1 (λ ds. refuses MAX_DEPTH end _ _ _ (begins MAX_DEPTH end (begin_decl ds) c.args.tokens.now c.in-Some.rest.now c.in-Some.token (Kind.Key Key.Field) c.in-Some.ensures.0 c.in-Some.ensures.1 ∙ goes MAX_DEPTH end (in_field ds c.in-Some.token.from) c.in-Some.token c.in-Some.rest.now (omega arith)) (c.in_err-found.ensures.reads ds))

pub returns-in_ok-found-clause-reads : goal.returns-in_ok-found-clause-reads
returns-in_ok-found-clause-reads c = λ ds. let end = c.args.self.now.end in
    (begins MAX_DEPTH end (begin_decl ds) c.args.tokens.now c.in-Some.rest.now c.in-Some.token (Kind.Key Key.Field) c.in-Some.ensures.0 c.in-Some.ensures.1 ∙ goes MAX_DEPTH end (in_field ds c.in-Some.token.from) c.in-Some.token c.in-Some.rest.now (omega arith)) ∙ c.in_ok-found.ensures.reads ds

pub returns-in_err-found-2-clause-reads : goal.returns-in_err-found-2-clause-reads
returns-in_err-found-2-clause-reads c = let end = c.args.self.now.end in
    exits_declaration MAX_DEPTH end c.args.tokens.now c.from_residual-in_err-found-2.result _ c.from_residual-in_err-found-2.ensures.1 (λ ds. refuses MAX_DEPTH end _ _ _ (begins MAX_DEPTH end (begin_decl ds) c.args.tokens.now c.in-Some-next_if.rest.now c.in-Some-next_if.token (Kind.Key Key.Array) c.in-Some-next_if.ensures.0 c.in-Some-next_if.ensures.1 ∙ goes MAX_DEPTH end (in_array ds c.in-Some-next_if.token.from) c.in-Some-next_if.token c.in-Some-next_if.rest.now (omega arith)) (c.in_err-found-2.ensures.reads ds))

pub returns-in_ok-found-2-clause-reads : goal.returns-in_ok-found-2-clause-reads
returns-in_ok-found-2-clause-reads c = λ ds. let end = c.args.self.now.end in
    (begins MAX_DEPTH end (begin_decl ds) c.args.tokens.now c.in-Some-next_if.rest.now c.in-Some-next_if.token (Kind.Key Key.Array) c.in-Some-next_if.ensures.0 c.in-Some-next_if.ensures.1 ∙ goes MAX_DEPTH end (in_array ds c.in-Some-next_if.token.from) c.in-Some-next_if.token c.in-Some-next_if.rest.now (omega arith)) ∙ c.in_ok-found-2.ensures.reads ds

pub returns-in_err-found-3-clause-reads : goal.returns-in_err-found-3-clause-reads
returns-in_err-found-3-clause-reads c = let end = c.args.self.now.end in
    exits_declaration MAX_DEPTH end c.args.tokens.now c.from_residual-in_err-found-3.result _ c.from_residual-in_err-found-3.ensures.1 (λ ds. refuses MAX_DEPTH end _ _ _ (begins MAX_DEPTH end (begin_decl ds) c.args.tokens.now c.in-Some-next_if-2.rest.now c.in-Some-next_if-2.token (Kind.Key Key.Const) c.in-Some-next_if-2.ensures.0 c.in-Some-next_if-2.ensures.1 ∙ goes MAX_DEPTH end (in_constant ds c.in-Some-next_if-2.token.from) c.in-Some-next_if-2.token c.in-Some-next_if-2.rest.now (omega arith)) (c.in_err-found-3.ensures.reads ds))

pub returns-in_ok-found-3-clause-reads : goal.returns-in_ok-found-3-clause-reads
returns-in_ok-found-3-clause-reads c = λ ds. let end = c.args.self.now.end in
    (begins MAX_DEPTH end (begin_decl ds) c.args.tokens.now c.in-Some-next_if-2.rest.now c.in-Some-next_if-2.token (Kind.Key Key.Const) c.in-Some-next_if-2.ensures.0 c.in-Some-next_if-2.ensures.1 ∙ goes MAX_DEPTH end (in_constant ds c.in-Some-next_if-2.token.from) c.in-Some-next_if-2.token c.in-Some-next_if-2.rest.now (omega arith)) ∙ c.in_ok-found-3.ensures.reads ds

pub returns-in_err-found-4-clause-reads : goal.returns-in_err-found-4-clause-reads
returns-in_err-found-4-clause-reads c = let end = c.args.self.now.end in
    exits_declaration MAX_DEPTH end c.args.tokens.now c.from_residual-in_err-found-4.result _ c.from_residual-in_err-found-4.ensures.1 (λ ds. refuses MAX_DEPTH end _ _ _ (begins MAX_DEPTH end (begin_decl ds) c.args.tokens.now c.in-Some-next_if-3.rest.now c.in-Some-next_if-3.token (Kind.Key Key.Let) c.in-Some-next_if-3.ensures.0 c.in-Some-next_if-3.ensures.1 ∙ goes MAX_DEPTH end (in_let ds c.in-Some-next_if-3.token.from) c.in-Some-next_if-3.token c.in-Some-next_if-3.rest.now (omega arith)) (c.in_err-found-4.ensures.reads ds))

pub returns-in_ok-found-4-clause-reads : goal.returns-in_ok-found-4-clause-reads
returns-in_ok-found-4-clause-reads c = λ ds. let end = c.args.self.now.end in
    (begins MAX_DEPTH end (begin_decl ds) c.args.tokens.now c.in-Some-next_if-3.rest.now c.in-Some-next_if-3.token (Kind.Key Key.Let) c.in-Some-next_if-3.ensures.0 c.in-Some-next_if-3.ensures.1 ∙ goes MAX_DEPTH end (in_let ds c.in-Some-next_if-3.token.from) c.in-Some-next_if-3.token c.in-Some-next_if-3.rest.now (omega arith)) ∙ c.in_ok-found-4.ensures.reads ds

pub returns-in_default-next_if-3-clause-reads : goal.returns-in_default-next_if-3-clause-reads
returns-in_default-next_if-3-clause-reads c = λ ds. let end = c.args.self.now.end in no_decl MAX_DEPTH end ds c.args.tokens.now c.in_default.ensures c.in_default-next_if.ensures c.in_default-next_if-2.ensures c.in_default-next_if-3.ensures

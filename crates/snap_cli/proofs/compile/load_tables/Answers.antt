use Rattle.std.proofs.Common.{[], ◌∷◌, IfErr, IfSome, refl, subst, ◌∙◌}
use Rattle.std.proofs.lemmas.Option.{IfSome_then}
use Rattle.snap_cli.specs.CompileSteps.{Compiles, GivesTables}
use Rattle.snap_cli.specs.Statuses.{RefusesWith}
use Rattle.snap_cli.proofs.CompileLemmas.{gives-made, gives-none}
use Rattle.snap_cli.proofs.Relayed.{relayed}
use Rattle.snap_cli.proofs.StatusLemmas.{any-refuses-more, of-compiles, refuses-more}
use Rattle.snap_cli.proofs.compile.load_tables.Goals as goal

pub returns-in_err-inputs-clause-gives : goal.returns-in_err-inputs-clause-gives
returns-in_err-inputs-clause-gives g c =
    let told = g.S.Shelf.files c.args.shelf.now in
    let p = c.args.program.now in let t = c.args.topology.now in let l = c.args.placement.now in
    let e = c.in_err-inputs.field-0.0 in
    relayed (λ r. IfSome told (λ files. GivesTables files p t l c.args.on_demand r)) c.from_residual.result e c.from_residual.ensures.1
    (IfSome_then told c.in_err-inputs.ensures.gives (λ files h. gives-none files p t l c.args.on_demand e h))

pub returns-clause-gives : goal.returns-clause-gives
returns-clause-gives g c =
    let i = c.in_ok-inputs.inputs in
    IfSome_then (g.S.Shelf.files c.args.shelf.now) c.in_ok-inputs.ensures.gives (λ files are.
    gives-made files c.args.program.now c.args.topology.now c.args.placement.now c.args.on_demand i c.tables_of-made.result are
    (subst (λ text. Compiles i.program i.network.topology text c.args.on_demand c.tables_of-made.result) (c.deref.ensures.value ∙ are.the_text) c.tables_of-made.ensures.compiles))

pub returns-in_err-inputs-clause-statuses : goal.returns-in_err-inputs-clause-statuses
returns-in_err-inputs-clause-statuses g c =
    let e = c.in_err-inputs.field-0.0 in
    relayed (λ r. IfErr r (RefusesWith (2 ∷ 4 ∷ 5 ∷ 6 ∷ 7 ∷ 8 ∷ 9 ∷ 10 ∷ []))) c.from_residual.result e c.from_residual.ensures.1
    (refuses-more (2 ∷ 4 ∷ 5 ∷ 6 ∷ 7 ∷ 8 ∷ []) (2 ∷ 4 ∷ 5 ∷ 6 ∷ 7 ∷ 8 ∷ 9 ∷ 10 ∷ []) e refl c.in_err-inputs.ensures.statuses)

pub returns-clause-statuses : goal.returns-clause-statuses
returns-clause-statuses g c =
    let i = c.in_ok-inputs.inputs in
    any-refuses-more (2 ∷ 6 ∷ 9 ∷ 10 ∷ []) (2 ∷ 4 ∷ 5 ∷ 6 ∷ 7 ∷ 8 ∷ 9 ∷ 10 ∷ []) c.tables_of-made.result refl
    (of-compiles i.program i.network.topology c.deref.result.now c.args.on_demand c.tables_of-made.result c.tables_of-made.ensures.compiles)

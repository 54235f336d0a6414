use Rattle.std.proofs.Common.{[], ◌∷◌, Ok, IfErr, IfSome, refl, ◌∙◌}
use Rattle.std.proofs.lemmas.Option.{IfSome_then}
use Rattle.snap_io.specs.Files.{file_of}
use Rattle.snap_cli.specs.InputsSteps.{GivesInputs}
use Rattle.snap_cli.specs.NetworkSteps.{GivesNetwork}
use Rattle.snap_cli.specs.ProgramOf.{ProgramOf}
use Rattle.snap_cli.specs.Statuses.{RefusesWith}
use Rattle.snap_cli.proofs.InputsLemmas.{all-read, no-network, no-program, no-text}
use Rattle.snap_cli.proofs.Relayed.{IfSome_both, relayed}
use Rattle.snap_cli.proofs.StatusLemmas.{refuses-more}
use Rattle.snap_cli.proofs.inputs.load_inputs.Goals as goal

pub returns-in_err-program-clause-gives : goal.returns-in_err-program-clause-gives
returns-in_err-program-clause-gives g c =
    let told = g.S.Shelf.files c.args.shelf.now in
    let p = c.args.program.now in let t = c.args.topology.now in let l = c.args.last.now in
    let e = c.in_err-program.field-0.0 in
    relayed (λ r. IfSome told (λ files. GivesInputs files p t l r)) c.from_residual.result e c.from_residual.ensures.1
    (IfSome_then told c.in_err-program.ensures.gives (λ files h. no-program files p t l e h))

pub returns-in_err-network-clause-gives : goal.returns-in_err-network-clause-gives
returns-in_err-network-clause-gives g c =
    let told = g.S.Shelf.files c.args.shelf.now in
    let p = c.args.program.now in let t = c.args.topology.now in let l = c.args.last.now in
    let e = c.in_err-network.field-0.0 in
    relayed (λ r. IfSome told (λ files. GivesInputs files p t l r)) c.from_residual-in_err-network.result e c.from_residual-in_err-network.ensures.1
    (IfSome_both told _ c.in_ok-program.ensures.devices.files c.in_ok-program.ensures.gives c.in_err-network.ensures.gives (λ files h k. no-network files p t l c.in_ok-program.program h e k))

pub returns-in_err-text-clause-gives : goal.returns-in_err-text-clause-gives
returns-in_err-text-clause-gives g c =
    let told = g.S.Shelf.files c.args.shelf.now in
    let p = c.args.program.now in let t = c.args.topology.now in let l = c.args.last.now in
    let e = c.in_err-text.field-0.0 in let x = c.in_ok-program.program in let n = c.in_ok-network.network in
    let same = c.in_ok-program.ensures.devices.files in
    let both : IfSome told (λ files. ProgramOf (file_of files p) (Ok x) × GivesNetwork t (file_of files t) (Ok n)) = IfSome_both told _ same c.in_ok-program.ensures.gives c.in_ok-network.ensures.gives (λ files h k. (h, k)) in
    relayed (λ r. IfSome told (λ files. GivesInputs files p t l r)) c.from_residual-in_err-text.result e c.from_residual-in_err-text.ensures.1
    (IfSome_both told _ (c.in_ok-network.ensures.devices.files ∙ same) both c.in_err-text.ensures.gives (λ files h k. no-text files p t l x n h e k))

pub returns-clause-gives : goal.returns-clause-gives
returns-clause-gives g c =
    let told = g.S.Shelf.files c.args.shelf.now in
    let p = c.args.program.now in let t = c.args.topology.now in let l = c.args.last.now in
    let x = c.in_ok-program.program in let n = c.in_ok-network.network in
    let same = c.in_ok-program.ensures.devices.files in
    let both : IfSome told (λ files. ProgramOf (file_of files p) (Ok x) × GivesNetwork t (file_of files t) (Ok n)) = IfSome_both told _ same c.in_ok-program.ensures.gives c.in_ok-network.ensures.gives (λ files h k. (h, k)) in
    IfSome_both told _ (c.in_ok-network.ensures.devices.files ∙ same) both c.in_ok-text.ensures.gives (λ files h k. all-read files p t l x n h c.in_ok-text.text k)

pub returns-in_err-program-clause-statuses : goal.returns-in_err-program-clause-statuses
returns-in_err-program-clause-statuses g c =
    let e = c.in_err-program.field-0.0 in
    relayed (λ r. IfErr r (RefusesWith (2 ∷ 4 ∷ 5 ∷ 6 ∷ 7 ∷ 8 ∷ []))) c.from_residual.result e c.from_residual.ensures.1
    (refuses-more (2 ∷ 4 ∷ 5 ∷ 6 ∷ []) (2 ∷ 4 ∷ 5 ∷ 6 ∷ 7 ∷ 8 ∷ []) e refl c.in_err-program.ensures.statuses)

pub returns-in_err-network-clause-statuses : goal.returns-in_err-network-clause-statuses
returns-in_err-network-clause-statuses g c =
    let e = c.in_err-network.field-0.0 in
    relayed (λ r. IfErr r (RefusesWith (2 ∷ 4 ∷ 5 ∷ 6 ∷ 7 ∷ 8 ∷ []))) c.from_residual-in_err-network.result e c.from_residual-in_err-network.ensures.1
    (refuses-more (2 ∷ 6 ∷ 7 ∷ 8 ∷ []) (2 ∷ 4 ∷ 5 ∷ 6 ∷ 7 ∷ 8 ∷ []) e refl c.in_err-network.ensures.statuses)

pub returns-in_err-text-clause-statuses : goal.returns-in_err-text-clause-statuses
returns-in_err-text-clause-statuses g c =
    let e = c.in_err-text.field-0.0 in
    relayed (λ r. IfErr r (RefusesWith (2 ∷ 4 ∷ 5 ∷ 6 ∷ 7 ∷ 8 ∷ []))) c.from_residual-in_err-text.result e c.from_residual-in_err-text.ensures.1
    (refuses-more (2 ∷ 6 ∷ []) (2 ∷ 4 ∷ 5 ∷ 6 ∷ 7 ∷ 8 ∷ []) e refl c.in_err-text.ensures.statuses)

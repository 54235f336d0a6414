use Rattle.std.proofs.Common.{ap, sym, ◌∙◌, bytes_eq}
use Rattle.std.specs.Map.{lookup}
use Rattle.snap_names.specs.Senses.{Unknown, word, or_fault}
use Rattle.snap_names.proofs.Lookups.{lookup-names_in}
use Rattle.snap_names.proofs.scope.Scope.sense.Goals as goal

pub returns-in-Some : goal.returns-in-Some
returns-in-Some c =
    let w = word c.args.self.now.text.now c.args.name in
    ap (or_fault (Unknown c.args.name.from))
    (c.in-Some.ensures.value ∙ ap (λ k. lookup (λ v. bytes_eq k v.items) c.args.self.now.names.entries) c.word.ensures ∙ sym (lookup-names_in w c.args.self.now.names.entries))

pub returns-in-None : goal.returns-in-None
returns-in-None c =
    let w = word c.args.self.now.text.now c.args.name in
    ap (or_fault (Unknown c.args.name.from))
    (c.in-None.ensures.value ∙ ap (λ k. lookup (λ v. bytes_eq k v.items) c.args.self.now.names.entries) c.word.ensures ∙ sym (lookup-names_in w c.args.self.now.names.entries))

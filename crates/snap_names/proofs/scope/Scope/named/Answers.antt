use Rattle.std.proofs.Common.{◌≡◌, ◌∙◌, sym, ap, Ok, Some, None, slice_get}
use Rattle.std.proofs.lemmas.Option.{slice_get-get_or, slice_get_past}
use Rattle.snap_names.specs.Senses.{Policy, after, sense_of}
use Rattle.snap_names.specs.Parts.{words_of}
use Rattle.snap_names.proofs.Named.{Reads-named, named-none}
use Rattle.snap_names.proofs.scope.Scope.named.Goals as goal

pub returns-in-Some : goal.returns-in-Some
returns-in-Some c =
    let found : sense_of (words_of c.args.self.now) c.args.name ≡ Ok (Policy c.in-Policy.number) = sym c.sense.ensures ∙ c.in_ok-number.was ∙ ap Ok c.in-Policy.is in
    let at : slice_get c.args.self.now.lets.items c.in-Policy.number ≡ Some c.in-Some.body.now =
    ap (λ xs. slice_get xs c.in-Policy.number) (sym c.deref.ensures.value)
    ∙ slice_get-get_or c.deref.result.now c.in-Policy.number c.in-Some.body.now c.in-Some.ensures.lookup.3.0 ∙ ap Some (sym c.in-Some.ensures.lookup.1) in
    Reads-named c.args.self.now c.args.name c.args.tally.now c.used.new.self c.used.result c.in-Policy.number c.in-Some.body.now found at
    c.used.ensures.part c.used.ensures.nodes c.used.ensures.arities c.used.ensures.err

pub returns-in-None : goal.returns-in-None
returns-in-None c = λ ne lets are.
    let found : sense_of (words_of c.args.self.now) c.args.name ≡ Ok (Policy c.in-Policy.number) = sym c.sense.ensures ∙ c.in_ok-number.was ∙ ap Ok c.in-Policy.is in
    let at : slice_get c.args.self.now.lets.items c.in-Policy.number ≡ None =
    ap (λ xs. slice_get xs c.in-Policy.number) (sym c.deref.ensures.value) ∙ slice_get_past c.deref.result.now c.in-Policy.number c.in-None.ensures.lookup.3 in
    ap (λ r. after r (λ p. Ok (p, c.args.tally.now.arities.items))) (named-none c.args.self.now c.args.name c.in-Policy.number lets found at are)

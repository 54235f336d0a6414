use Rattle.std.proofs.Common.{rules, ◌≡◌, Ok, false, [], ◌∷◌, ◌++◌, length, refl, subst}
use Rattle.snap_names.specs.Senses.{Policy, Twice, word}
use Rattle.snap_names.specs.Declarations.{with_let}
use Rattle.snap_names.specs.Spells.{is_known}
use Rattle.snap_names.specs.Parts.{names_in}
use Rattle.snap_names.specs.Scopes.{declared_in}
use Rattle.snap_names.proofs.Declaring.{HasDeclared-is, is_new, let_declared, IsBody-kept}
use Rattle.snap_names.proofs.scope.Scope.declare_let.Goals as goal

pub returns : goal.returns
returns c = λ at lets h.
    let old = c.args.self.now in
    let name = word old.text.now c.args.name in
    let behind = c.body.new.tally.arities.items in
    let r = c.in_ok-part.ensures lets h.bodies in
    let ns = names_in old.names.entries in
    let counted : c.len-number.result ≡ length old.lets.items = search rules in
    let numbered = subst (λ i. is_known ns c.in_ok-word.word.items ≡ false → names_in c.add.new.names.entries ≡ ns ++ (c.in_ok-word.word.items, Policy i) ∷ []) counted c.in_ok-add.ensures.ok in
    let named = subst (λ w. is_known ns w ≡ false → names_in c.add.new.names.entries ≡ ns ++ (w, Policy (length old.lets.items)) ∷ []) c.in_ok-word.ensures.word numbered in
    HasDeclared-is old.text.now _ (Ok (with_let (declared_in old lets c.args.tally.now.arities.items) name (r.value, behind))) _ behind
    (is_new (is_known (names_in old.names.entries) name) (Twice c.args.name.from) _ _ c.in_ok-word.ensures.new (rw r.reading refl))
    (let_declared old _ lets c.args.tally.now.arities.items behind name _ r.value h
    (IsBody-kept r.value c.body.new.tally.nodes _ c.in_ok-part.part c.min-nodes.ensures r.counted r.stands)
    refl c.in_ok-push.ensures.items refl refl refl
    (named c.in_ok-word.ensures.new))

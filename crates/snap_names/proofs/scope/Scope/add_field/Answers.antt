use Rattle.std.proofs.Common.{ℕ, List, [], ◌∷◌, ◌++◌, ◌+◌, min, refl, ap, ◌∙◌}
use Rattle.snap_core.specs.Fields.{count}
use Rattle.snap_names.proofs.Declaring.{field_declared}
use Rattle.snap_names.proofs.scope.Scope.add_field.Goals as goal

pub returns-clause-ok : goal.returns-clause-ok
returns-clause-ok c = λ new lets h arities.
    field_declared c.args.self.now _ lets arities c.args.name.now c.args.prefix h refl refl refl
    (c.in_ok-push.ensures.items ∙ ap (λ (n : List ℕ). c.args.self.now.fields.items ++ record { name = n; prefix = c.args.prefix } ∷ []) (c.new-name.ensures ∙ c.in_ok-from_slice.ensures.items))
    (c.saturating_add-self.ensures ∙ ap (λ w. min (c.args.self.now.comps + w) 65535) c.width.ensures)
    (c.in_ok-add_names.ensures.ok (count c.args.self.now.fields.items) h.comps new)

use Rattle.std.proofs.Common.{◌≡◌, false, Some, is_some, [], ◌∷◌, ◌++◌, subst, sym, ◌∙◌}
use Rattle.snap_names.specs.Declarations.{field_senses, is_field_known}
use Rattle.snap_names.specs.Spells.{is_known}
use Rattle.snap_names.specs.Senses.{Split}
use Rattle.snap_names.specs.Parts.{names_in}
use Rattle.snap_names.proofs.Declaring.{three_new, split_senses}
use Rattle.snap_names.proofs.declarations.add_names.Goals as goal

pub returns-clause-ok : goal.returns-clause-ok
returns-clause-ok c = λ n e known.
    let ns = names_in c.args.names.now.entries in
    let name = c.args.name.now in
    let new : is_field_known ns name (is_some (Some c.in-Some.prefix)) ≡ false = subst (λ p. is_field_known ns name (is_some p) ≡ false) c.in-Some.is known in
    subst (λ p. names_in c.add-4.new.names.entries ≡ ns ++ field_senses n name p) (sym c.in-Some.is)
    (three_new ns _ _ _ name _ _ _ _ _ new c.in_ok-net_name.ensures.ok c.in_ok-host_name.ensures.ok
    (subst (λ w. is_known ns w ≡ false → names_in c.add-2.new.names.entries ≡ ns ++ (w, Split c.args.comp c.saturating_add-host.result c.in-Some.prefix) ∷ []) c.in_ok-whole.ensures.items c.in_ok-add-2.ensures.ok)
    c.in_ok-add-3.ensures.ok c.in_ok-add-4.ensures.ok
    ∙ split_senses n c.args.comp c.saturating_add-host.result c.in-Some.prefix ns name e c.saturating_add-host.ensures)

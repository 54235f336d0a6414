use Rattle.std.proofs.Common.{◌≡◌, [], refl, ap, sym}
use Rattle.snap_names.specs.Parts.{Scope, names_in, no_bodies}
use Rattle.snap_names.proofs.Declaring.{ports_declared, declared_in-is}
use Rattle.snap_names.proofs.scope.Scope.ports.Goals as goal

pub returns-clause-ok : goal.returns-clause-ok
returns-clause-ok c =
    let s : Scope = record { alloc = c.args.alloc; text = c.args.text; names = c.new.result; lets = c.new-2.result; fields = c.new-3.result; comps = 0; arrays = c.new-4.result } in
    let names : names_in c.new.result.entries ≡ [] = ap names_in c.new.ensures.empty in
    ports_declared c.args.text.now s c.add_field.new.self _
    (sym (declared_in-is [] [] [] [] [] s [] [] (sym c.new-3.ensures.items) (sym c.new-4.ensures.items) refl (sym names) refl))
    refl
    (record { bodies = rw c.new-2.ensures.items no_bodies; comps = rw c.new-3.ensures.items refl })
    c.in_ok-add_field.ensures.ok c.in_ok-add_field-2.ensures.ok

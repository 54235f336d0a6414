use Rattle.std.proofs.Common.{◌≡◌, [], ◌∷◌, refl, sym, subst, arith}
use Rattle.std.specs.Prelude.{codes}
use Rattle.std.specs.List.{IsDistinct}
use Rattle.std.specs.Str.{bytes_eq}
use Rattle.std.proofs.lemmas.List.Elements.{All-cons, All-nil}
use Rattle.snap_core.specs.Fields.{IsFields, PrefixFits, names_of, plain_field, the_ports}
use Rattle.snap_core.proofs.program.Fields.ports.Goals as goal

different : IsDistinct bytes_eq (names_of the_ports)
unfolding IsDistinct
different = ((refl, tt), (tt, tt))

are_fields : IsFields the_ports
are_fields = record {
  ports = refl;
  different = different;
  prefixes = All-cons (λ f. PrefixFits f.prefix) (plain_field (codes "inport")) (plain_field (codes "outport") ∷ []) tt (All-cons (λ f. PrefixFits f.prefix) (plain_field (codes "outport")) [] tt (All-nil (λ f. PrefixFits f.prefix)));
  few = omega arith;
}

pub new-requires : goal.new-requires
new-requires c =
    let items : c.push-2.new.self.items ≡ the_ports = rw (c.in_ok-push-2.ensures.items, c.in_ok-push.ensures.items, c.new-fields.ensures.items, c.in_ok-plain.ensures, c.in_ok-plain-2.ensures) refl in
    subst IsFields (sym items) are_fields

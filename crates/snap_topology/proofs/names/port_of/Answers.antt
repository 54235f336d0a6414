use Rattle.std.proofs.Common.{◌≡◌, ◌∙◌, decimal, Ok, arith, sym, ap, true, false, not, bytes_eq}
use Rattle.std.proofs.lemmas.Bool.{not-false}
use Rattle.std.proofs.lemmas.Fmt.{parse-decimal}
use Rattle.std.proofs.lemmas.Slice.Eq.{bytes_eq-Decides}
use Rattle.snap_topology.proofs.Numerals.{port_number-decimal, port_number-none}
use Rattle.snap_topology.proofs.names.port_of.Goals as goal
use Rattle.snap_topology.proofs.names.port_of.Goals.{then-port-eq0-via-then-port-eq0, then-port-eq0-via-else-port-eq0+then-ne}

pub returns-in_default : goal.returns-in_default
returns-in_default c = port_number-none c.args.text.now (λ p one small is. c.in_default.not-Ok p (parse-decimal 32 p c.args.text.now _ small (omega arith) is c.parse.ensures.value.0))

pub returns-then-port-eq0 : goal.returns-then-port-eq0
returns-then-port-eq0 c = port_number-none c.args.text.now (λ p one small is.
    let read = parse-decimal 32 p c.args.text.now _ small (omega arith) is c.parse.ensures.value.0 in
    let same : c.in-Ok.port ≡ p = (let both : Ok c.in-Ok.port ≡ Ok p = sym c.in-Ok.is ∙ read in cc) in
    elim c.then-port-eq0.branch [
      | then-port-eq0-via-then-port-eq0 w ↦ omega arith
      | then-port-eq0-via-else-port-eq0+then-ne w ↦ let printed = c.format-printed.ensures.text ∙ ap decimal same ∙ sym is in
          let t : true ≡ false = sym w.if-ne.true ∙ w.ne.ensures ∙ ap not ((bytes_eq-Decides c.format-printed.result.now c.args.text.now).1 printed) in cc
    ])

pub returns : goal.returns
returns c =
    let equal : bytes_eq c.format-printed.result.now c.args.text.now ≡ true = not-false _ (sym c.ne.ensures ∙ c.if-ne.false) in
    let printed = (bytes_eq-Decides c.format-printed.result.now c.args.text.now).0 equal in
    port_number-decimal c.args.text.now c.in-Ok.port (omega arith) (omega arith) (sym printed ∙ c.format-printed.ensures.text)

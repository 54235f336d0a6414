use Rattle.std.proofs.Common.{◌∙◌, ap, ◌≡◌, Option, Some, None, Bool, true, false, refl}
use Rattle.std.specs.Prelude.{option_map, IfSome, slice_get, ◌==◌, if◌then◌else◌}
use Rattle.std.proofs.lemmas.Bool.{eqb-true}
use Rattle.std.proofs.Common.{subst, sym, ℕ}
use Rattle.snap_core.specs.declared.ports.PortAt.{PortAt}
use Rattle.snap_rows.specs.Places.{port_said}
use Rattle.snap_rows.proofs.Ports.{port_here, port_said_there}
use Rattle.snap_rows.proofs.look.port.Goals as goal

said : (o : Option PortAt) (n : ℕ) → IfSome (port_said o n) (λ (p : PortAt). p.port ≡ n)
said None n = tt
said (Some p) n = by (p.port == n) refl
  where
    by : (b : Bool) → (p.port == n) ≡ b → IfSome (if b then Some p else None) (λ (p : PortAt). p.port ≡ n)
    by true e = eqb-true p.port n e
    by false e = tt

pub returns-in-Some-clause-at : goal.returns-in-Some-clause-at
returns-in-Some-clause-at c = port_here c.args.ports.now c.requires c.args.number c.port_guess.result c.in-Some.entry (sym c.port_said.ensures ∙ c.in-Some.is)

pub returns-in-Some-clause-number : goal.returns-in-Some-clause-number
returns-in-Some-clause-number c = subst (λ (o : Option PortAt). IfSome o (λ (p : PortAt). p.port ≡ c.args.number)) (sym c.port_said.ensures ∙ c.in-Some.is) (said (slice_get c.args.ports.now c.port_guess.result) c.args.number)

pub returns-in-None-clause-at : goal.returns-in-None-clause-at
returns-in-None-clause-at c = ap (option_map (λ (p : PortAt). p.at)) c.port_said-in-None.ensures ∙ port_said_there c.args.ports.now c.requires c.args.number c.ports_before.result c.ports_before.ensures

pub returns-in-None-clause-number : goal.returns-in-None-clause-number
returns-in-None-clause-number c = subst (λ (o : Option PortAt). IfSome o (λ (p : PortAt). p.port ≡ c.args.number)) (sym c.port_said-in-None.ensures) (said (slice_get c.args.ports.now c.ports_before.result) c.args.number)

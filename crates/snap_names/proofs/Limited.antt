-- A program of a scope within all limits.
use Rattle.std.proofs.Common.{◌≡◌, ◌≤◌, ◌∙◌, IfOk, Result, Ok, Err, Some, None, Option, option_map, ap, sym}
use Rattle.snap_names.specs.Declarations.{Program, core_program}
use Rattle.snap_names.specs.Core.{CorePolicy, core_policy}
use Rattle.snap_names.specs.Scopes.{IsWithin, Limits}
use Rattle.snap_names.specs.Senses.{NameFault}
use Rattle.snap_names.specs.Parts.{Part, Scope, Sizes}

abbrev policy_or : CorePolicy → Option CorePolicy → CorePolicy
policy_or p None = p
policy_or p (Some q) = q

pub Limits-within : (s : Scope) (tally : Sizes) (part : Part) (r : Result Program NameFault) → tally.nodes ≤ 2000 → IsWithin s tally part
    → IfOk r (λ p. (p.fields ≡ s.fields.items) × (p.arrays ≡ s.arrays.items) × (part.policy ≡ Some p.body))
    → IfOk r (λ p. Limits s tally part (λ x. x ≡ Ok (core_program p)))
Limits-within s tally part (Err f) few w h = tt
Limits-within s tally part (Ok p) few w h = λ lets q n is.
    w lets q n is
    ∙ ap (λ b. Ok (record { fields = s.fields.items; arrays = s.arrays.items; body = b })) (ap (policy_or q) (sym (is.built few) ∙ ap (option_map core_policy) h.2))
    ∙ ap (λ v. Ok (record { fields = s.fields.items; arrays = v; body = core_policy p.body })) (sym h.1)
    ∙ ap (λ f. Ok (record { fields = f; arrays = p.arrays; body = core_policy p.body })) (sym h.0)

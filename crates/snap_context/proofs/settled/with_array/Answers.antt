-- One bit more.
use Rattle.std.proofs.Common.{inl, inr, ℕ, ap, sym, ◌∙◌, w64}
use Rattle.std.specs.Prelude.{nat_eq}
use Rattle.std.proofs.lemmas.Bool.{cases_eq}
use Rattle.std.proofs.lemmas.Nat.Bits.{bit_at_set_other}
use Rattle.snap_context.proofs.settled.with_array.Goals as goal

pub returns : goal.returns
returns c = λ a h. elim (cases_eq a c.args.var) [
  | inl e ↦ inr e
  | inr ne ↦ inl (sym (ap (λ (n : ℕ). nat_eq n 1) (bit_at_set_other w64 c.args.set c.args.var c.requires a ne)) ∙ h)
]

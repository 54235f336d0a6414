-- Numbers of 64 bits, as the types say.
use Rattle.std.specs.Prelude.{ℕ, ◌<◌, ◌^◌, List}
use Rattle.std.specs.List.{All}
use Rattle.snap_core.specs.declared.policy.Atom.{Atom}
use Rattle.snap_core.specs.declared.policy.Atom.TheVariants.{Num, Comp}
use Rattle.snap_core.specs.declared.policy.Op.{Op}
use Rattle.snap_core.specs.declared.policy.Op.TheVariants.{Put, Add}
use Rattle.snap_core.specs.declared.policy.Term.{Term}
use Rattle.snap_core.specs.declared.policy.Term.TheVariants.{Num as Only, Plus}
use Rattle.snap_core.specs.declared.policy.Test.{Test}
use Rattle.snap_core.specs.declared.policy.Test.TheVariants.{Value, Equal, State}
use Rattle.snap_core.specs.declared.policy.Update.{Update}

abbrev pub AtomInRange : Atom → Type 0
AtomInRange (Num n) = n < 2 ^ 64
AtomInRange (Comp c) = Unit {0}

abbrev pub TermInRange : Term → Type 0
TermInRange (Only n) = n < 2 ^ 64
TermInRange (Plus c n) = n < 2 ^ 64

abbrev pub TestInRange : Test → Type 0
TestInRange (Value c n) = n < 2 ^ 64
TestInRange (Equal a b n) = n < 2 ^ 64
TestInRange (State v ix x) = All AtomInRange ix × TermInRange x

abbrev pub OpInRange : Op → Type 0
OpInRange (Put a) = AtomInRange a
OpInRange (Add n) = n < 2 ^ 64

pub record UpdateInRange (u : Update) : Type 0 where
  pub index : All AtomInRange u.index
  pub op : OpInRange u.op

-- the parts of an out
abbrev pub OutInRange : List (ℕ × Atom) → Type 0
OutInRange o = All (λ (p : ℕ × Atom). AtomInRange p.1) o

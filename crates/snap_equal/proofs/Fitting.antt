-- Tests over so many components fit them.
use Rattle.std.proofs.Common.{ℕ}
use Rattle.std.proofs.lemmas.List.Elements.{All-weaker}
use Rattle.snap_core.specs.declared.policy.Atom.{Atom}
use Rattle.snap_core.specs.declared.policy.Atom.TheVariants.{Num as Number, Comp}
use Rattle.snap_core.specs.declared.policy.Term.{Term}
use Rattle.snap_core.specs.declared.policy.Term.TheVariants.{Num, Plus}
use Rattle.snap_core.specs.declared.policy.Test.{Test}
use Rattle.snap_core.specs.declared.policy.Test.TheVariants.{Value, Equal, State}
use Rattle.snap_core.specs.Fits.{AtomFits}
use Rattle.snap_core.specs.Tests.{TermFits, TestFits}
use Rattle.snap_context.specs.Classes.{IsAtom, IsTerm, IsTest}

atom_fits : (comps : ℕ) (a : Atom) → IsAtom comps a → AtomFits comps a
atom_fits comps (Number n) h = tt
atom_fits comps (Comp c) h = h

term_fits : (comps : ℕ) (t : Term) → IsTerm comps t → TermFits comps t
term_fits comps (Num n) h = tt
term_fits comps (Plus c p) h = h.0

pub test_fits : (comps : ℕ) (t : Test) → IsTest comps t → TestFits comps t
test_fits comps (Value c n) h = h.0
test_fits comps (Equal l r p) h = (h.0, h.1)
test_fits comps (State v ix t) h = (All-weaker (IsAtom comps) (AtomFits comps) (atom_fits comps) ix h.1, term_fits comps t h.2)

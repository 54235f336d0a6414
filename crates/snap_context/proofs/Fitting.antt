-- Tests that fit, with numbers in range.
use Rattle.std.proofs.Common.{ℕ, ◌≤◌, length, get_or}
use Rattle.snap_core.specs.declared.policy.Atom.{Atom}
use Rattle.snap_core.specs.declared.policy.Atom.TheVariants.{Num as Number, Comp}
use Rattle.snap_core.specs.declared.policy.Term.{Term}
use Rattle.snap_core.specs.declared.policy.Term.TheVariants.{Num, Plus}
use Rattle.snap_core.specs.declared.policy.Test.{Test}
use Rattle.snap_core.specs.declared.policy.Test.TheVariants.{Value, Equal, State}
use Rattle.snap_core.specs.Fits.{AtomFits}
use Rattle.snap_core.specs.Tests.{TermFits, TestFits}
use Rattle.snap_context.specs.Classes.{IsAtom, IsTerm, IsTest, index_of}
use Rattle.snap_core.specs.Ranges.{AtomInRange, TermInRange, TestInRange}

pub is_atom : (comps : ℕ) (a : Atom) → AtomFits comps a → AtomInRange a → IsAtom comps a
is_atom comps (Number n) fits range = range
is_atom comps (Comp c) fits range = fits

pub is_term : (comps : ℕ) (t : Term) → TermFits comps t → TermInRange t → IsTerm comps t
is_term comps (Num n) fits range = range
is_term comps (Plus c p) fits range = (fits, range)

pub is_test : (comps : ℕ) (t : Test) → TestFits comps t → length (index_of t) ≤ 8 → TestInRange t → IsTest comps t
is_test comps (Value c n) fits short range = (fits, range)
is_test comps (Equal l r p) fits short range = (fits.0, fits.1, range)
is_test comps (State v ix t) fits short range =
    (short, (λ k d l. is_atom comps (get_or ix k d) (fits.0 k d l) (range.0 k d l)), is_term comps t fits.1 range.1)

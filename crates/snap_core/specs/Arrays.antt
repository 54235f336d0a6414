-- What the state variables of a program hold: a number at each place.
use Rattle.std.specs.Prelude.{ℕ, ◌+◌, ◌%◌, ◌^◌, Bool, List, [], ◌∷◌, map, ◌&&◌, ◌==◌, nat_eq, slice_index, if◌then◌else◌, not, bit_and}
use Rattle.std.specs.Int.{bit_at}
use lib.Pointwise.{pointwise}
use Rattle.snap_core.specs.declared.place.Place.{Place}
use Rattle.snap_core.specs.declared.policy.Atom.{Atom}
use Rattle.snap_core.specs.declared.policy.Atom.TheVariants.{Num, Comp}
use Rattle.snap_core.specs.declared.policy.Op.{Op}
use Rattle.snap_core.specs.declared.policy.Op.TheVariants.{Put, Add}
use Rattle.snap_core.specs.declared.policy.Update.{Update}

abbrev pub has : ℕ → ℕ → Bool
has w v = bit_at w v == 1

-- whether two sets have a variable in common
abbrev pub meets : ℕ → ℕ → Bool
meets a b = not (bit_and a b == 0)

-- the number at each place
abbrev pub Arrays : Type 0
Arrays = Place → ℕ

-- every array as it is at the start
abbrev pub zero_arrays : Arrays
zero_arrays p = 0

abbrev pub same_place : Place → Place → Bool
same_place p q = (p.var == q.var) && pointwise nat_eq p.index q.index

-- m with v at the place p
abbrev pub put : Arrays → Place → ℕ → Arrays
put m p v q = if same_place p q then v else m q

-- m, with the arrays of a set of variables as they are in n
abbrev pub taken : Arrays → Arrays → ℕ → Arrays
taken m n arrays p = if has arrays p.var then n p else m p

-- m, with one array as it is in n
abbrev pub with_array : Arrays → Arrays → ℕ → Arrays
with_array m n var p = if var == p.var then n p else m p

-- an atom's value on a packet
abbrev pub value_of : Atom → List ℕ → ℕ
value_of (Num n) k = n
value_of (Comp c) k = slice_index k c

-- the place that index atoms give on a packet
abbrev pub place_at : ℕ → List Atom → List ℕ → Place
place_at s es k = record { var = s; index = map (λ e. value_of e k) es }

-- what an operation makes of the old number
abbrev pub number_after : Op → ℕ → List ℕ → ℕ
number_after (Put a) old k = value_of a k
number_after (Add n) old k = (old + n) % 2 ^ 64

-- one update, and a list of updates in order, each on the same packet
abbrev pub update : Arrays → Update → List ℕ → Arrays
update m u k = let p = place_at u.var u.index k in put m p (number_after u.op (m p) k)

abbrev pub updates : Arrays → List Update → List ℕ → Arrays
updates m [] k = m
updates m (u ∷ us) k = updates (update m u k) us k

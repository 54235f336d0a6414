-- One big switch whose program changes, piece by piece.
use Rattle.std.proofs.Common.{◌≡◌, ℕ, ◌+◌, List, [], ◌∷◌, ◌++◌, Option, Some, None, length, refl, sym, ap, ◌∙◌, arith}
use Rattle.std.specs.Prelude.{option_map, option_and_then}
use Rattle.snap_core.specs.declared.program.Program.{Program}
use Rattle.snap_core.specs.Arrays.{Arrays, zero_arrays}
use Rattle.snap_core.specs.Meaning.{Meaning, eval}
use Rattle.snap_core.specs.Switch.{Switched}
use Rattle.snap_refinement.specs.ChangeLaws.{OneProgramReportsOneSwitch, OneSwitchIsReported, PieceIsOneSwitch, PiecesFollow, then_switched}
use Rattle.snap_refinement.specs.ChangingSwitch.{changing_switch}
use Rattle.snap_core.proofs.Switching.{in_front}

pub changing_first : (programs : ℕ → Program) (i : ℕ) (m : Arrays) (k : List ℕ) (ks : List (List ℕ)) (o : Meaning) (a : Switched) → eval (programs i).body m k ≡ Some o → changing_switch programs (i + 1) o.arrays ks ≡ Some a → changing_switch programs i m (k ∷ ks) ≡ Some (in_front o a)
changing_first programs i m k ks o a e f =
    ap (option_and_then (λ (o : Meaning). option_map (in_front o) (changing_switch programs (i + 1) o.arrays ks))) e
    ∙ ap (option_map (in_front o)) f

pub piece : PieceIsOneSwitch
piece programs p i m [] same = refl
piece programs p i m (k ∷ ks) same =
    (λ x. option_and_then (λ (o : Meaning). option_map (in_front o) (changing_switch programs (i + 1) o.arrays ks)) (eval (same i (omega arith) (omega arith) x).body m k))
    ∙ (λ x. option_and_then (λ (o : Meaning). option_map (in_front o) (piece programs p (i + 1) o.arrays ks (λ j low within. same j (omega arith) (omega arith)) x)) (eval p.body m k))

-- ---- one piece behind another
behind_none : (m : Arrays) (x : Option Switched) → x ≡ option_map (then_switched (record { packets = []; arrays = m })) x
behind_none m None = refl
behind_none m (Some r) = refl

behind_more : (o : Meaning) (a : Switched) (x : Option Switched) → option_map (in_front o) (option_map (then_switched a) x) ≡ option_map (then_switched (in_front o a)) x
behind_more o a None = refl
behind_more o a (Some r) = refl

behind_first : (o : Meaning) (f g : Arrays → Option Switched) → f ≡ g → (y : Option Switched)
    → option_map (in_front o) (option_and_then (λ a. option_map (then_switched a) (f a.arrays)) y) ≡ option_and_then (λ a. option_map (then_switched a) (g a.arrays)) (option_map (in_front o) y)
behind_first o f g same None = refl
behind_first o f g same (Some a) = (λ x. option_map (in_front o) (option_map (then_switched a) (same x a.arrays))) ∙ behind_more o a (g a.arrays)

behind_one : (f g h : Arrays → Option Switched) (l : Arrays → Option Switched) → g ≡ h → ((m : Arrays) → f m ≡ option_and_then (λ a. option_map (then_switched a) (g a.arrays)) (l m)) → (x : Option Meaning)
    → option_and_then (λ (o : Meaning). option_map (in_front o) (f o.arrays)) x ≡ option_and_then (λ a. option_map (then_switched a) (h a.arrays)) (option_and_then (λ (o : Meaning). option_map (in_front o) (l o.arrays)) x)
behind_one f g h l same rest None = refl
behind_one f g h l same rest (Some o) = ap (option_map (in_front o)) (rest o.arrays) ∙ behind_first o g h same (l o.arrays)

pub follow : PiecesFollow
follow programs i m [] more =
    let none : i ≡ i + length {A = List ℕ} [] = omega arith in
    ap (λ n. changing_switch programs n m more) none ∙ behind_none m (changing_switch programs (i + length {A = List ℕ} []) m more)
follow programs i m (k ∷ ks) more =
    let next : i + 1 + length ks ≡ i + length (k ∷ ks) = omega arith in
    behind_one (λ n. changing_switch programs (i + 1) n (ks ++ more)) (λ n. changing_switch programs (i + 1 + length ks) n more) (λ n. changing_switch programs (i + length (k ∷ ks)) n more) (λ n. changing_switch programs (i + 1) n ks)
    (λ x n. changing_switch programs (next x) n more) (λ n. follow programs (i + 1) n ks more) (eval (programs i).body m k)

pub one_report : OneProgramReportsOneSwitch
one_report p ports ks text r = record {
  made = r.made;
  defined = sym (piece (λ i. p) p 0 zero_arrays ks (λ j low within. refl)) ∙ r.defined;
  entries = r.entries;
  listed = r.listed;
  is = r.is;
}

pub one_reported : OneSwitchIsReported
one_reported p ports ks text r = record {
  made = r.made;
  defined = piece (λ i. p) p 0 zero_arrays ks (λ j low within. refl) ∙ r.defined;
  entries = r.entries;
  listed = r.listed;
  is = r.is;
}

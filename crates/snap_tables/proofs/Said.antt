-- Which words say what, exactly.
use Rattle.std.proofs.Common.{◌≡◌, ℕ, ◌-◌, ◌^◌, ◌<◌, Bool, true, false, cond, List, [], ◌∷◌, Option, Some, None, refl, ap, ◌∙◌, arith, decimal}
use Rattle.std.specs.Prelude.{◌==◌, nat_lt, option_map}
use Rattle.std.proofs.lemmas.Bool.{eqb-true, ltb-true, lt-ltb}
use Rattle.snap_core.specs.declared.policy.Atom.{Atom}
use Rattle.snap_core.specs.declared.policy.Atom.TheVariants.{Num, Comp}
use Rattle.snap_tables.specs.Text.{atom_word}
use Rattle.snap_tables.specs.Reading.{atom_said, below_said, number_said, u64_said}
use Rattle.snap_tables.specs.Laws.{IsAtom, AtomsAreSaid, NumbersAreSaid}
use Rattle.snap_tables.proofs.Readings.{said-decimal, decimal-said}

pub numbers-said : NumbersAreSaid
numbers-said most n w small = (
  λ e. said-decimal most w n small e,
  λ h. ap (number_said most) h.0 ∙ decimal-said most n small h.1,
)

-- a number below a count
pub below-said : (count n : ℕ) (w : List ℕ) → count < 2 ^ 64 → below_said count w ≡ Some n → (w ≡ decimal n) × (n < count)
below-said count n w small e = at (nat_lt 0 count) refl e
  where
    at : (t : Bool) → nat_lt 0 count ≡ t → cond t (number_said (count - 1) w) None ≡ Some n → (w ≡ decimal n) × (n < count)
    at true some e = let k = said-decimal (count - 1) w n (omega arith) e in (k.0, omega (arith, ltb-true 0 count some, k.1))
    at false some e = absurd (cc)

pub said-below : (count n : ℕ) → count < 2 ^ 64 → n < count → below_said count (decimal n) ≡ Some n
said-below count n small less = ap (λ t. cond t (number_said (count - 1) (decimal n)) None) (lt-ltb 0 count (omega arith)) ∙ decimal-said (count - 1) n (omega arith) (omega arith)

pub map-some : {A B : Type 0} (f : A → B) (o : Option A) (b : B) → option_map f o ≡ Some b → (a : A) × (o ≡ Some a) × (b ≡ f a)
map-some f None b e = absurd (cc)
map-some f (Some a) b e = (a, refl, cc)

pub atom-said : (comps : ℕ) (a : Atom) (w : List ℕ) → comps < 2 ^ 64 → atom_said comps w ≡ Some a → (w ≡ atom_word a) × IsAtom comps a
atom-said comps a [] small e = absurd (cc)
atom-said comps a (b ∷ bs) small e = first (b == 35) refl e
  where
    second : (t : Bool) → (b == 99) ≡ t → cond t (option_map Comp (below_said comps bs)) None ≡ Some a → (b ∷ bs ≡ atom_word a) × IsAtom comps a
    second false is e = absurd (cc)
    second true is e =
        let k = map-some Comp (below_said comps bs) a e in
        let n = below-said comps k.0 bs small k.1 in
        rw k.2 ((λ i. eqb-true b 99 is i ∷ n.0 i), n.1)

    first : (t : Bool) → (b == 35) ≡ t → cond t (option_map Num (u64_said bs)) (cond (b == 99) (option_map Comp (below_said comps bs)) None) ≡ Some a → (b ∷ bs ≡ atom_word a) × IsAtom comps a
    first false is e = second (b == 99) refl e
    first true is e =
        let k = map-some Num (u64_said bs) a e in
        let n = said-decimal (2 ^ 64 - 1) bs k.0 (omega arith) k.1 in
        rw k.2 ((λ i. eqb-true b 35 is i ∷ n.0 i), omega (arith, n.1))

pub said-atom : (comps : ℕ) (a : Atom) → comps < 2 ^ 64 → IsAtom comps a → atom_said comps (atom_word a) ≡ Some a
said-atom comps (Num n) small less = ap (option_map Num) (decimal-said (2 ^ 64 - 1) n (omega arith) (omega arith))
said-atom comps (Comp c) small less = ap (option_map Comp) (said-below comps c small less)

pub atoms-said : AtomsAreSaid
atoms-said comps a w small = (λ e. atom-said comps a w small e, λ h. ap (atom_said comps) h.0 ∙ said-atom comps a small h.1)

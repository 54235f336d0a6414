-- Values behind an out.
use Rattle.std.proofs.Common.{◌≡◌, ℕ, ◌+◌, ◌%◌, ◌^◌, ◌<◌, Bool, true, false, cond, List, [], ◌∷◌, length, refl, sym, ap, ◌∙◌, arith}
use Rattle.std.specs.Prelude.{◌==◌, slice_index, slice_set, map}
use Rattle.std.proofs.lemmas.Bool.{eqb-true, eqb-false}
use Rattle.std.proofs.lemmas.List.{length-map, length-set, get_or-set_same, get_or-set_other}
use Rattle.std.proofs.lemmas.List.Elements.{All-get_or, All-map, All-tail, All-weaker}
use Rattle.snap_core.specs.declared.policy.Atom.{Atom}
use Rattle.snap_core.specs.declared.policy.Atom.TheVariants.{Num as Number, Comp}
use Rattle.snap_core.specs.declared.policy.Term.{Term}
use Rattle.snap_core.specs.declared.policy.Term.TheVariants.{Num, Plus}
use Rattle.snap_core.specs.declared.policy.Test.TheVariants.{Value, Equal, State}
use Rattle.snap_core.specs.Arrays.{Arrays, value_of}
use Rattle.snap_core.specs.Fits.{AtomFits, IndexFits}
use Rattle.snap_core.specs.Tests.{OutFits, PartFits, TermFits, after_out, with_parts, passes, term_value}
use Rattle.snap_core.specs.Inputs.{IsPacket}
use Rattle.snap_context.specs.Classes.{shift}
use Rattle.snap_core.specs.Ranges.{TermInRange}
use Rattle.snap_diagrams.specs.Bounds.{Sizes, TestIn, IsIndex}
use Rattle.snap_compose.specs.declared.pulled_back.Early.{Early}
use Rattle.snap_compose.specs.declared.pulled_back.Early.TheVariants.{Ask}
use Rattle.snap_compose.specs.PulledBack.{atom_from, atom_after, early_atom, early_term, term_of, IsEarly}

-- ---- numbers
pub component_small : (comps : ℕ) (k : List ℕ) (c : ℕ) → IsPacket comps k → c < comps → slice_index k c < 2 ^ 64
component_small comps k c h l = All-get_or (λ n. n < 2 ^ 64) k c 0 (let e = h.long in omega (arith, e, l)) h.numbers

pub term_value-shift : (t : Term) (by : ℕ) (k : List ℕ) → term_value (shift t by) k ≡ (term_value t k + by) % 2 ^ 64
term_value-shift (Num n) by k = refl
term_value-shift (Plus c p) by k = omega arith

pub term_of-value : (comps : ℕ) (a : Atom) (k : List ℕ) → IsPacket comps k → AtomFits comps a → term_value (term_of a) k ≡ value_of a k
term_of-value comps (Number n) k h f = refl
term_of-value comps (Comp c) k h f = let s = component_small comps k c h f in omega (arith, s)

pub term_of-fits : (comps : ℕ) (a : Atom) → AtomFits comps a → TermFits comps (term_of a)
term_of-fits comps (Number n) f = tt
term_of-fits comps (Comp c) f = f

pub shift-fits : (comps : ℕ) (t : Term) (by : ℕ) → TermFits comps t → TermFits comps (shift t by)
shift-fits comps (Num n) by f = tt
shift-fits comps (Plus c p) by f = f

-- ---- an out
set_at : (xs : List ℕ) (i j v : ℕ) → i < length xs → slice_index (slice_set xs i v) j ≡ cond (i == j) v (slice_index xs j)
set_at xs i j v h = by (i == j) refl
  where
    by : (t : Bool) → (i == j) ≡ t → slice_index (slice_set xs i v) j ≡ cond t v (slice_index xs j)
    by true e = ap (λ n. slice_index (slice_set xs i v) n) (sym (eqb-true i j e)) ∙ get_or-set_same xs i v 0 h
    by false e = get_or-set_other xs i j v 0 (λ f. eqb-false i j e (sym f))

pub with_parts-length : (out : List (ℕ × Atom)) (k r : List ℕ) → length (with_parts out k r) ≡ length r
with_parts-length [] k r = refl
with_parts-length (p ∷ ps) k r = with_parts-length ps k (slice_set r p.0 (value_of p.1 k)) ∙ length-set r p.0 (value_of p.1 k)

pub after_out-length : (out : List (ℕ × Atom)) (k : List ℕ) → length (after_out out k) ≡ length k
after_out-length out k = with_parts-length out k k

with_parts-at : (comps : ℕ) (out : List (ℕ × Atom)) (k r : List ℕ) (c : ℕ) (a : Atom) → length r ≡ comps → OutFits comps out
    → slice_index r c ≡ value_of a k → slice_index (with_parts out k r) c ≡ value_of (atom_from a out c) k
with_parts-at comps [] k r c a len fits is = is
with_parts-at comps (p ∷ ps) k r c a len fits is =
    with_parts-at comps ps k (slice_set r p.0 (value_of p.1 k)) c (cond (p.0 == c) p.1 a) (length-set r p.0 (value_of p.1 k) ∙ len) (All-tail (PartFits comps) p ps fits)
    (set_at r p.0 c (value_of p.1 k) (let f = (fits 0 p (omega arith)).comp in omega (arith, len, f)) ∙ by (p.0 == c))
  where
    by : (t : Bool) → cond t (value_of p.1 k) (slice_index r c) ≡ value_of (cond t p.1 a) k
    by true = refl
    by false = is

pub after_out-at : (comps : ℕ) (out : List (ℕ × Atom)) (k : List ℕ) (c : ℕ) → length k ≡ comps → OutFits comps out → slice_index (after_out out k) c ≡ value_of (atom_after out c) k
after_out-at comps out k c len fits = with_parts-at comps out k k c (Comp c) len fits refl

atom_from-fits : (comps : ℕ) (out : List (ℕ × Atom)) (c : ℕ) (a : Atom) → OutFits comps out → AtomFits comps a → AtomFits comps (atom_from a out c)
atom_from-fits comps [] c a fits f = f
atom_from-fits comps (p ∷ ps) c a fits f = atom_from-fits comps ps c (cond (p.0 == c) p.1 a) (All-tail (PartFits comps) p ps fits) (by (p.0 == c))
  where
    by : (t : Bool) → AtomFits comps (cond t p.1 a)
    by true = (fits 0 p (omega arith)).atom
    by false = f

pub atom_after-fits : (comps : ℕ) (out : List (ℕ × Atom)) (c : ℕ) → OutFits comps out → c < comps → AtomFits comps (atom_after out c)
atom_after-fits comps out c fits h = atom_from-fits comps out c (Comp c) fits h

pub early_atom-value : (comps : ℕ) (out : List (ℕ × Atom)) (a : Atom) (k : List ℕ) → length k ≡ comps → OutFits comps out → value_of (early_atom out a) k ≡ value_of a (after_out out k)
early_atom-value comps out (Number n) k len fits = refl
early_atom-value comps out (Comp c) k len fits = sym (after_out-at comps out k c len fits)

pub early_atom-fits : (comps : ℕ) (out : List (ℕ × Atom)) (a : Atom) → OutFits comps out → AtomFits comps a → AtomFits comps (early_atom out a)
early_atom-fits comps out (Number n) fits f = tt
early_atom-fits comps out (Comp c) fits f = atom_after-fits comps out c fits f

pub early_index-values : (comps : ℕ) (out : List (ℕ × Atom)) (ix : List Atom) (k : List ℕ) → length k ≡ comps → OutFits comps out
    → map (λ a. value_of a k) (map (early_atom out) ix) ≡ map (λ a. value_of a (after_out out k)) ix
early_index-values comps out [] k len fits = refl
early_index-values comps out (a ∷ ix) k len fits = λ i. early_atom-value comps out a k len fits i ∷ early_index-values comps out ix k len fits i

pub early_index-fits : (comps : ℕ) (out : List (ℕ × Atom)) (ix : List Atom) → OutFits comps out → IndexFits comps ix → IndexFits comps (map (early_atom out) ix)
early_index-fits comps out ix fits f = All-map (AtomFits comps) (early_atom out) ix (All-weaker (AtomFits comps) (λ a. AtomFits comps (early_atom out a)) (λ a h. early_atom-fits comps out a fits h) ix f)

pub early_index-in : (comps : ℕ) (out : List (ℕ × Atom)) (ix : List Atom) → OutFits comps out → IsIndex comps ix → IsIndex comps (map (early_atom out) ix)
early_index-in comps out ix fits f = record {
  some = let e = length-map ix (early_atom out) in let l = f.some in omega (arith, e, l);
  few = let e = length-map ix (early_atom out) in let l = f.few in omega (arith, e, l);
  atoms = early_index-fits comps out ix fits f.atoms;
}

pub early_term-value : (comps : ℕ) (out : List (ℕ × Atom)) (t : Term) (k : List ℕ) → IsPacket comps k → OutFits comps out → TermFits comps t → term_value (early_term out t) k ≡ term_value t (after_out out k)
early_term-value comps out (Num n) k h fits f = refl
early_term-value comps out (Plus c p) k h fits f =
    term_value-shift (term_of (atom_after out c)) p k
    ∙ ap (λ x. (x + p) % 2 ^ 64) (term_of-value comps (atom_after out c) k h (atom_after-fits comps out c fits f) ∙ sym (after_out-at comps out k c h.long fits))

pub early_term-fits : (comps : ℕ) (out : List (ℕ × Atom)) (t : Term) → OutFits comps out → TermFits comps t → TermFits comps (early_term out t)
early_term-fits comps out (Num n) fits f = tt
early_term-fits comps out (Plus c p) fits f = shift-fits comps (term_of (atom_after out c)) p (term_of-fits comps (atom_after out c) (atom_after-fits comps out c fits f))

early_term-range : (out : List (ℕ × Atom)) (t : Term) → TermInRange t → TermInRange (early_term out t)
early_term-range out (Num n) h = h
early_term-range out (Plus c p) h = by (term_of (atom_after out c))
  where
    by : (t : Term) → TermInRange (shift t p)
    by (Num n) = omega arith
    by (Plus d q) = omega arith

-- ---- tests
pub early_weaker : (s : Sizes) (P Q : Arrays → List ℕ → Bool) (e : Early) → ((m : Arrays) (k : List ℕ) → IsPacket s.comps k → P m k ≡ Q m k) → IsEarly s P e → IsEarly s Q e
early_weaker s P Q e f h = record { is_in = h.is_in; holds = λ m k p. h.holds m k p ∙ f m k p }

-- whether an atom has the value of a term
abbrev pub values_same : Atom → Term → Arrays → List ℕ → Bool
values_same a t m k = value_of a k == term_value t k

pub value_behind : (s : Sizes) (out : List (ℕ × Atom)) (c n : ℕ) (e : Early) → OutFits s.comps out → TestIn s (Value c n)
    → (AtomFits s.comps (atom_after out c) → TermFits s.comps (Num n) → IsEarly s (values_same (atom_after out c) (Num n)) e)
    → IsEarly s (λ m k. passes (Value c n) m (after_out out k)) e
value_behind s out c n e fits h i =
    early_weaker s (values_same (atom_after out c) (Num n)) (λ m k. passes (Value c n) m (after_out out k)) e
    (λ m k p. ap (λ x. x == n) (sym (after_out-at s.comps out k c p.long fits)))
    (i (atom_after-fits s.comps out c fits h.0) tt)

pub equal_behind : (s : Sizes) (out : List (ℕ × Atom)) (l r p : ℕ) (e : Early) → OutFits s.comps out → TestIn s (Equal l r p)
    → (AtomFits s.comps (atom_after out l) → TermFits s.comps (shift (term_of (atom_after out r)) p) → IsEarly s (values_same (atom_after out l) (shift (term_of (atom_after out r)) p)) e)
    → IsEarly s (λ m k. passes (Equal l r p) m (after_out out k)) e
equal_behind s out l r p e fits h i =
    let fl = atom_after-fits s.comps out l fits (omega (arith, h.0, h.1)) in
    let fr = atom_after-fits s.comps out r fits h.1 in
    early_weaker s (values_same (atom_after out l) (shift (term_of (atom_after out r)) p)) (λ m k. passes (Equal l r p) m (after_out out k)) e
    (λ m k q. λ j. sym (after_out-at s.comps out k l q.long fits) j ==
    (term_value-shift (term_of (atom_after out r)) p k ∙ ap (λ x. (x + p) % 2 ^ 64) (term_of-value s.comps (atom_after out r) k q fr ∙ sym (after_out-at s.comps out k r q.long fits))) j)
    (i fl (shift-fits s.comps (term_of (atom_after out r)) p (term_of-fits s.comps (atom_after out r) fr)))

pub state_behind : (s : Sizes) (out : List (ℕ × Atom)) (v : ℕ) (ix : List Atom) (t : Term) → OutFits s.comps out → TestIn s (State v ix t)
    → IsEarly s (λ m k. passes (State v ix t) m (after_out out k)) (Ask (State v (map (early_atom out) ix) (early_term out t)))
state_behind s out v ix t fits h = record {
  is_in = (h.0, early_index-in s.comps out ix fits h.1, early_term-fits s.comps out t fits h.2, early_term-range out t h.3);
  holds = λ m k p. λ j. m (record { var = v; index = early_index-values s.comps out ix k p.long fits j }) == early_term-value s.comps out t k p fits h.2 j;
}

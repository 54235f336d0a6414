-- Classes whose roots, of a set, have the numbers of a packet.
use Rattle.std.proofs.Common.{◌≡◌, ◌≢◌, ℕ, ◌<◌, Bool, true, false, cond, not, List, [], ◌∷◌, length, map, get_or, refl, sym, ap, ◌∙◌, arith}
use Rattle.std.specs.Prelude.{All}
use Rattle.std.proofs.lemmas.Bool.{cond-true, cond-false, and_parts, not-true}
use Rattle.std.proofs.lemmas.List.{length-map, get_or-map}
use Rattle.std.proofs.lemmas.List.Elements.{All-tail}
use Rattle.snap_core.specs.declared.policy.Atom.{Atom}
use Rattle.snap_core.specs.declared.policy.Atom.TheVariants.{Num as Number, Comp}
use Rattle.snap_core.specs.declared.policy.Term.{Term}
use Rattle.snap_core.specs.declared.policy.Term.TheVariants.{Num, Plus}
use Rattle.snap_core.specs.Tests.{term_value}
use Rattle.snap_core.specs.Arrays.{has}
use Rattle.snap_context.specs.Classes.{wrap, shift, class_of, normal, atom_class, IsTerm, IsAtom, IsClass}
use Rattle.snap_context.specs.Known.{within, are_within, outside, are_outside, are_numbers}
use Rattle.snap_context.proofs.Algebra.{term_value-shift}
use Rattle.snap_context.proofs.Wrap.{wrap_below}

-- a class, with the packet's number where its root is in the set
abbrev pub pinned : ℕ → List ℕ → Term → Term
pinned roots k (Num n) = Num n
pinned roots k (Plus r p) = cond (has roots r) (Num (term_value (Plus r p) k)) (Plus r p)

pub pinned_within : (roots : ℕ) (k : List ℕ) (t : Term) → within roots t ≡ true → pinned roots k t ≡ Num (term_value t k)
pinned_within roots k (Num n) e = refl
pinned_within roots k (Plus r p) e = cond-true (has roots r) (Num (term_value (Plus r p) k)) (Plus r p) e

pub pinned_outside : (roots : ℕ) (k : List ℕ) (t : Term) → outside roots t ≡ true → pinned roots k t ≡ t
pinned_outside roots k (Num n) e = refl
pinned_outside roots k (Plus r p) e = cond-false (has roots r) (Num (term_value (Plus r p) k)) (Plus r p) (not-true (has roots r) e)

pinned-shift : (roots : ℕ) (k : List ℕ) (t : Term) (p : ℕ) → pinned roots k (shift t p) ≡ shift (pinned roots k t) p
pinned-shift roots k (Num n) p = refl
pinned-shift roots k (Plus r q) p = by (has roots r)
  where
    by : (b : Bool) → cond b (Num (term_value (Plus r (wrap q p)) k)) (Plus r (wrap q p)) ≡ shift (cond b (Num (term_value (Plus r q) k)) (Plus r q)) p
    by true = ap Num (term_value-shift k (Plus r q) p)
    by false = refl

pub class_of-pinned : (roots : ℕ) (k : List ℕ) (cl : List Term) (c : ℕ) → c < length cl → class_of (map (pinned roots k) cl) c ≡ pinned roots k (class_of cl c)
class_of-pinned roots k cl c h = get_or-map (pinned roots k) cl c (Plus c 0) (Plus c 0) h

pub normal-pinned : (roots : ℕ) (k : List ℕ) (cl : List Term) (x : Term) → IsTerm (length cl) x → normal (map (pinned roots k) cl) x ≡ pinned roots k (normal cl x)
normal-pinned roots k cl (Num n) h = refl
normal-pinned roots k cl (Plus c p) h = rw (class_of-pinned roots k cl c h.0) (sym (pinned-shift roots k (class_of cl c) p))

pub atom-pinned : (roots : ℕ) (k : List ℕ) (cl : List Term) (a : Atom) → IsAtom (length cl) a → atom_class (map (pinned roots k) cl) a ≡ pinned roots k (atom_class cl a)
atom-pinned roots k cl (Number n) h = refl
atom-pinned roots k cl (Comp c) h = class_of-pinned roots k cl c h

pub index-pinned : (roots : ℕ) (k : List ℕ) (cl : List Term) (ix : List Atom) → All (IsAtom (length cl)) ix → map (atom_class (map (pinned roots k) cl)) ix ≡ map (pinned roots k) (map (atom_class cl) ix)
index-pinned roots k cl [] h = refl
index-pinned roots k cl (a ∷ ix) h =
    let x = atom-pinned roots k cl a (h 0 a (omega arith)) in let y = index-pinned roots k cl ix (All-tail (IsAtom (length cl)) a ix h) in (λ i. x i ∷ y i)

pub index_within : (roots : ℕ) (k : List ℕ) (ts : List Term) → are_within roots ts ≡ true → map (pinned roots k) ts ≡ map Num (map (λ t. term_value t k) ts)
index_within roots k [] e = refl
index_within roots k (t ∷ ts) e = let p = and_parts (within roots t) (are_within roots ts) e in let x = pinned_within roots k t p.0 in let y = index_within roots k ts p.1 in (λ i. x i ∷ y i)

pub index_outside : (roots : ℕ) (k : List ℕ) (ts : List Term) → are_outside roots ts ≡ true → map (pinned roots k) ts ≡ ts
index_outside roots k [] h = refl
index_outside roots k (t ∷ ts) h = let p = and_parts (outside roots t) (are_outside roots ts) h in let x = pinned_outside roots k t p.0 in let y = index_outside roots k ts p.1 in (λ i. x i ∷ y i)

pub all_numbers : (xs : List ℕ) → are_numbers (map Num xs) ≡ true
all_numbers [] = refl
all_numbers (x ∷ xs) = all_numbers xs

-- a class is still one, and roots outside of the set are their own
class_pinned : (roots : ℕ) (k : List ℕ) (cl : List Term) (t : Term) → IsClass cl t → IsClass (map (pinned roots k) cl) (pinned roots k t)
class_pinned roots k cl (Num n) h = h
class_pinned roots k cl (Plus r p) h = by (has roots r) refl
  where
    own : has roots r ≡ false → class_of (map (pinned roots k) cl) r ≡ Plus r 0
    own e = class_of-pinned roots k cl r h.0 ∙ (ap (pinned roots k) h.2 ∙ pinned_outside roots k (Plus r 0) (ap not e))

    by : (b : Bool) → has roots r ≡ b → IsClass (map (pinned roots k) cl) (cond b (Num (term_value (Plus r p) k)) (Plus r p))
    by true e = wrap_below (get_or k r 0) p
    by false e = (rw length-map h.0, h.1, own e)

pub classes_pinned : (roots : ℕ) (k : List ℕ) (cl : List Term) → All (IsClass cl) cl → All (IsClass (map (pinned roots k) cl)) (map (pinned roots k) cl)
classes_pinned roots k cl a i d h =
    let l : i < length cl = rw length-map at h in
    rw (get_or-map (pinned roots k) cl i (Plus i 0) d l) (class_pinned roots k cl (get_or cl i (Plus i 0)) (a i (Plus i 0) l))

-- a class that isn't in the set
record IsFree (roots : ℕ) (k : List ℕ) (t : Term) : Type 0 where
  root : ℕ
  plus : ℕ
  is : t ≡ Plus root plus
  stays : pinned roots k t ≡ Plus root plus

free : (roots : ℕ) (k : List ℕ) (t : Term) → within roots t ≡ false → IsFree roots k t
free roots k (Num n) e = absurd (cc)
free roots k (Plus r p) e = record { root = r; plus = p; is = refl; stays = pinned_outside roots k (Plus r p) (ap not e) }

-- classes that differ still do, where the packet's numbers do
pub still_apart : (roots : ℕ) (k : List ℕ) (a b : Term) → a ≢ b → (within roots a ≡ true → within roots b ≡ true → term_value a k ≢ term_value b k) → pinned roots k a ≢ pinned roots k b
still_apart roots k a b ne values = by (within roots a) (within roots b) refl refl
  where
    by : (x y : Bool) → within roots a ≡ x → within roots b ≡ y → pinned roots k a ≢ pinned roots k b
    by true true f g e = values f g (let h : Num (term_value a k) ≡ Num (term_value b k) = sym (pinned_within roots k a f) ∙ (e ∙ pinned_within roots k b g) in cc)
    by true false f g e = absurd (let o = free roots k b g in let h : Num (term_value a k) ≡ Plus o.root o.plus = sym (pinned_within roots k a f) ∙ (e ∙ o.stays) in cc)
    by false true f g e = absurd (let o = free roots k a f in let h : Plus o.root o.plus ≡ Num (term_value b k) = sym o.stays ∙ (e ∙ pinned_within roots k b g) in cc)
    by false false f g e = (let o = free roots k a f in let q = free roots k b g in ne (o.is ∙ (sym o.stays ∙ (e ∙ (q.stays ∙ sym q.is)))))

-- A value that `TreeReadings` knows is read without a fault.
use Rattle.std.proofs.Common.{◌≡◌, ℕ, true, List, [], ◌∷◌, ◌++◌, length, Option, Some, Result, Ok, Err, if◌then◌else◌, refl, sym, ap, ◌∙◌, arith, append_assoc, length-append}
use Rattle.std.proofs.lemmas.Bool.{eq-eqb}
use Rattle.std.proofs.lemmas.List.{append-nil}
use Rattle.snap_core.specs.Figures.{number_of, address_of}
use Rattle.snap_names.specs.Core.{Atom, Num, Comp, field_test, set, seq, net, host, whole_test}
use Rattle.snap_names.specs.Senses.{Span, Literal, Value, Sense, Plain, Split, Constant, NameFault, Unknown, Wide, Kind, Prefix, after, or_fault, word, sense_of, literal, constant, constant_of, field_atom, array_atom, atom_of, address_at, split_address, address_of_sense, split_of_sense, split_atoms, net_if, split_test, test_of_sense, field_equals, set_of_sense, field_gets, value_atoms, atoms_of_sense, atoms_behind, width_of, value_width, width}
use Rattle.snap_names.specs.Spells.{Scope}
use Rattle.snap_names.proofs.Faultless.{words}
use Rattle.snap_names.proofs.TreeReadings.{Means, number, IsAddress, address, constant_address, HasAtoms, literal as a_literal, constant as a_constant, component, components, HaveAtoms, no_place, next_place}

-- one step after another that gives something
pub after-gives : {A B : Type 0} (r : Result A NameFault) (f : A → Result B NameFault) (x : A) → r ≡ Ok x → after r f ≡ f x
after-gives r f x h = ap (λ s. after s f) h

pub sense_of-gives : (e : Scope) (t : Span) (s : Sense) → Means e t s → sense_of (words e) t ≡ Ok s
sense_of-gives e t s m = ap (or_fault (Unknown t.from)) m

pub after_sense-gives : {B : Type 0} (e : Scope) (t : Span) (s : Sense) (f : Sense → Result B NameFault) → Means e t s → after (sense_of (words e) t) f ≡ f s
after_sense-gives e t s f m = after-gives (sense_of (words e) t) f s (sense_of-gives e t s m)

pub literal-gives : (text : List ℕ) (l : Literal) (n : ℕ) → number text l ≡ Some n → literal text l ≡ Ok n
literal-gives text (Literal.Number t) n h = ap (or_fault (Wide t.from)) h
literal-gives text (Literal.Address t) n h = ap (or_fault (Wide t.from)) h
literal-gives text (Literal.True t) n h = ap (or_fault (Wide t.from)) h
literal-gives text (Literal.False t) n h = ap (or_fault (Wide t.from)) h

pub constant-gives : (e : Scope) (v : Value) (n : ℕ) → HasAtoms e v (Num n ∷ []) → constant (words e) v ≡ Ok n
constant-gives e _ n (a_literal {l = l} h) = literal-gives e.text l n h
constant-gives e _ n (a_constant {t = t} {b = b} m) = after_sense-gives e t (Constant n b) (constant_of t.from) m

pub field_atom-gives : (e : Scope) (v : Value) (a : Atom) → HasAtoms e v (a ∷ []) → field_atom (words e) v ≡ Ok a
field_atom-gives e _ _ (a_literal {l = l} {n = n} h) = after-gives (literal e.text l) (λ n. Ok (Num n)) n (literal-gives e.text l n h)
field_atom-gives e _ _ (a_constant {t = t} {n = n} {b = b} m) = after_sense-gives e t (Constant n b) (atom_of t.from) m
field_atom-gives e _ _ (component {t = t} {c = c} m) = after_sense-gives e t (Plain c) (atom_of t.from) m

pub array_atom-gives : (e : Scope) (v : Value) (a : Atom) → HasAtoms e v (a ∷ []) → array_atom (words e) v ≡ Ok a
array_atom-gives e _ _ (a_literal {l = l} {n = n} h) = after-gives (literal e.text l) (λ n. Ok (Num n)) n (literal-gives e.text l n h)
array_atom-gives e _ _ (a_constant {t = t} {n = n} {b = b} m) = after_sense-gives e t (Constant n b) (atom_of t.from) m
array_atom-gives e _ _ (component {t = t} {c = c} m) = after_sense-gives e t (Plain c) (atom_of t.from) m

value_atoms-gives : (e : Scope) (v : Value) (xs : List Atom) → HasAtoms e v xs → value_atoms (words e) v ≡ Ok xs
value_atoms-gives e _ _ (a_literal {l = l} {n = n} h) = after-gives (literal e.text l) (λ n. Ok (Num n ∷ [])) n (literal-gives e.text l n h)
value_atoms-gives e _ _ (a_constant {t = t} {n = n} {b = b} m) = after_sense-gives e t (Constant n b) (atoms_of_sense t.from) m
value_atoms-gives e _ _ (component {t = t} {c = c} m) = after_sense-gives e t (Plain c) (atoms_of_sense t.from) m
value_atoms-gives e _ _ (components {t = t} {a = a} {b = b} {n = n} m) = after_sense-gives e t (Split a b n) (atoms_of_sense t.from) m

pub atoms_behind-gives : (e : Scope) (before : List Atom) (vs : List Value) (xs : List Atom) → HaveAtoms e vs xs → atoms_behind (words e) before vs ≡ Ok (before ++ xs)
atoms_behind-gives e before _ _ no_place = ap Ok (sym (append-nil before))
atoms_behind-gives e before _ _ (next_place {v = v} {vs = vs} {xs = xs} {ys = ys} h k) =
    after-gives (value_atoms (words e) v) (λ es. atoms_behind (words e) (before ++ es) vs) xs (value_atoms-gives e v xs h) ∙ atoms_behind-gives e (before ++ xs) vs ys k ∙ ap Ok (append_assoc before xs ys)

value_width-is : (e : Scope) (v : Value) (xs : List Atom) → HasAtoms e v xs → value_width (words e) v ≡ length xs
value_width-is e _ _ (a_literal h) = refl
value_width-is e _ _ (a_constant {t = t} {n = n} {b = b} m) = ap width_of (sense_of-gives e t (Constant n b) m)
value_width-is e _ _ (component {t = t} {c = c} m) = ap width_of (sense_of-gives e t (Plain c) m)
value_width-is e _ _ (components {t = t} {a = a} {b = b} {n = n} m) = ap width_of (sense_of-gives e t (Split a b n) m)

pub width-is : (e : Scope) (vs : List Value) (xs : List Atom) → HaveAtoms e vs xs → width (words e) vs ≡ length xs
width-is e _ _ no_place = refl
width-is e _ _ (next_place {v = v} {vs = vs} {xs = xs} {ys = ys} h k) = omega (arith, value_width-is e v xs h, width-is e vs ys k, length-append xs ys)

-- ---- fields
split_address-gives : (e : Scope) (v : Value) (x : ℕ) → IsAddress e v x → split_address (words e) v ≡ Ok x
split_address-gives e _ x (address {t = t} h) = ap (or_fault (Wide t.from)) h
split_address-gives e _ x (constant_address {t = t} m) = after_sense-gives e t (Constant x true) (address_of_sense t.from) m

whole_test-gives : (e : Scope) (v : Value) (a b n x : ℕ) → IsAddress e v x → split_test (words e) a b n v ≡ Ok (whole_test a b n x)
whole_test-gives e _ a b n x (address {t = t} h) = after-gives (split_address (words e) (Value.Literal (Literal.Address t))) (λ x. Ok (whole_test a b n x)) x (split_address-gives e _ x (address h))
whole_test-gives e _ a b n x (constant_address {t = t} m) = after-gives (split_address (words e) (Value.Name t)) (λ x. Ok (whole_test a b n x)) x (split_address-gives e _ x (constant_address m))

net_if-gives : (e : Scope) (n : ℕ) (f : NameFault) (u : Span) (x : ℕ) (o : Option ℕ) → address_of (word e.text u) ≡ Some x → o ≡ Some n → net_if n f (address_at e.text u) o ≡ Ok (net n x)
net_if-gives e n f u x o h k =
    ap (net_if n f (address_at e.text u)) k ∙ ap (λ b. if b then after (address_at e.text u) (λ a. Ok (net n a)) else Err f) (eq-eqb n n refl)
    ∙ after-gives (address_at e.text u) (λ a. Ok (net n a)) x (ap (or_fault (Wide u.from)) h)

pub test-gives : (e : Scope) (t : Span) (v : Value) (c n : ℕ) → Means e t (Plain c) → HasAtoms e v (Num n ∷ []) → field_equals (words e) t v ≡ Ok (field_test c n)
test-gives e t v c n m h = after_sense-gives e t (Plain c) (test_of_sense (words e) t.from v) m ∙ after-gives (constant (words e) v) (λ n. Ok (field_test c n)) n (constant-gives e v n h)

pub test_split-gives : (e : Scope) (t : Span) (v : Value) (a b n x : ℕ) → Means e t (Split a b n) → IsAddress e v x → field_equals (words e) t v ≡ Ok (whole_test a b n x)
test_split-gives e t v a b n x m h = after_sense-gives e t (Split a b n) (test_of_sense (words e) t.from v) m ∙ whole_test-gives e v a b n x h

pub test_net-gives : (e : Scope) (t u l : Span) (a b n x : ℕ) → Means e t (Split a b n) → address_of (word e.text u) ≡ Some x → number_of (word e.text l) ≡ Some n → field_equals (words e) t (Value.Prefix u l) ≡ Ok (field_test a (net n x))
test_net-gives e t u l a b n x m h k =
    after_sense-gives e t (Split a b n) (test_of_sense (words e) t.from (Value.Prefix u l)) m
    ∙ ap (λ r. after r (λ y. Ok (field_test a y))) (net_if-gives e n (Prefix u.from) u x (number_of (word e.text l)) h k)

pub gets-gives : (e : Scope) (t : Span) (v : Value) (c : ℕ) (x : Atom) → Means e t (Plain c) → HasAtoms e v (x ∷ []) → field_gets (words e) t v ≡ Ok (set c x)
gets-gives e t v c x m h = after_sense-gives e t (Plain c) (set_of_sense (words e) t.from v) m ∙ after-gives (field_atom (words e) v) (λ x. Ok (set c x)) x (field_atom-gives e v x h)

address_atoms-gives : (e : Scope) (v : Value) (n x : ℕ) → IsAddress e v x → split_atoms (words e) n v ≡ Ok (Num (net n x), Num (host n x))
address_atoms-gives e _ n x (address {t = t} h) = ap (λ r. after r (λ a. Ok (Num (net n a), Num (host n a)))) (ap (or_fault (Wide t.from)) h)
address_atoms-gives e _ n x (constant_address {t = t} m) = after_sense-gives e t (Constant x true) (split_of_sense n t.from) m

pub gets_address-gives : (e : Scope) (t : Span) (v : Value) (a b n x : ℕ) → Means e t (Split a b n) → IsAddress e v x → field_gets (words e) t v ≡ Ok (seq (set a (Num (net n x))) (set b (Num (host n x))))
gets_address-gives e t v a b n x m h =
    after_sense-gives e t (Split a b n) (set_of_sense (words e) t.from v) m
    ∙ after-gives (split_atoms (words e) n v) (λ x. Ok (seq (set a x.0) (set b x.1))) (Num (net n x), Num (host n x)) (address_atoms-gives e v n x h)

pub gets_split-gives : (e : Scope) (t u : Span) (a b c d n : ℕ) → Means e t (Split a b n) → Means e u (Split c d n) → field_gets (words e) t (Value.Name u) ≡ Ok (seq (set a (Comp c)) (set b (Comp d)))
gets_split-gives e t u a b c d n m k =
    after_sense-gives e t (Split a b n) (set_of_sense (words e) t.from (Value.Name u)) m
    ∙ after-gives (split_atoms (words e) n (Value.Name u)) (λ x. Ok (seq (set a x.0) (set b x.1))) (Comp c, Comp d)
    (after_sense-gives e u (Split c d n) (split_of_sense n u.from) k ∙ ap (λ z. if z then Ok (Comp c, Comp d) else Err (Kind u.from)) (eq-eqb n n refl))

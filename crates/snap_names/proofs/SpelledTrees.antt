-- What a tree of tokens reads as is what the tokens spell.
use Rattle.std.proofs.Common.{◌≡◌, ℕ, zero, suc, ◌+◌, ◌<◌, ◌≤◌, Bool, true, false, List, [], ◌∷◌, ◌++◌, Some, refl, sym, subst, ◌∙◌, arith, append_assoc}
use Rattle.std.proofs.lemmas.List.{append-nil}
use Rattle.snap_names.specs.Core.{Atom, Num, CorePolicy, filter}
use Rattle.snap_parse.specs.Tree.{PolicyTree, policy_begin, policy_more, SequenceTree, sequence_begin, sequence_more, ChoiceTree, EitherTree, either_begin, either_more, BothTree, both_begin, both_more, SingleTree, test_tree, set_tree, DeclTree, SourceTree, span_of}
use Rattle.snap_parse.specs.Grammar as grammar
use Rattle.snap_names.specs.Senses.{Literal, Value, Sense, Constant, word, is_address}
use Rattle.snap_names.specs.Spells.{Token, Kind, Sign, Scope}
use Rattle.snap_names.specs.Spells as spells
use Rattle.snap_names.proofs.TreeReadings as readings
use Rattle.snap_names.proofs.Placed.{HasSequence, HasChoice, HasBoth, HasSingle}

-- one token before the rest, of which this holds
abbrev One : (Token → Type 0) → List Token → List Token → Type 0
One P ts rest = (t : Token) × (ts ≡ t ∷ rest) × P t

from-one : {P : Token → Type 0} {ts rest : List Token} (Q : List Token → Type 0) → One P ts rest → ((t : Token) → P t → Q (t ∷ rest)) → Q ts
from-one Q w f = subst Q (sym w.1) (f w.0 w.2)

-- ---- values
literal-spelled : (text : List ℕ) (ts : List Token) (l : Literal) (rest : List Token) → grammar.IsLiteral ts l rest → (n : ℕ) → readings.number text l ≡ Some n → One (λ t. spells.IsLiteral text t n (is_address l)) ts rest
literal-spelled text _ _ _ (grammar.number_literal t a) n h = (t, refl, spells.number a h)
literal-spelled text _ _ _ (grammar.address_literal t a) n h = (t, refl, spells.address a h)
literal-spelled text _ _ _ (grammar.true_literal t a) n h = let e : 1 ≡ n = cc h in (t, refl, subst (λ m. spells.IsLiteral text t m false) e (spells.yes a))
literal-spelled text _ _ _ (grammar.false_literal t a) n h = let e : 0 ≡ n = cc h in (t, refl, subst (λ m. spells.IsLiteral text t m false) e (spells.no a))

atoms-spelled : (e : Scope) (v : Value) (xs : List Atom) → readings.HasAtoms e v xs → (ts rest : List Token) → grammar.IsValue ts v rest → One (λ t. spells.HasAtoms e t xs) ts rest
atoms-spelled e _ _ (readings.literal {n = n} h) _ _ (grammar.literal_value l) = let w = literal-spelled e.text _ _ _ l n h in (w.0, w.1, spells.number (spells.literal w.2))
atoms-spelled e _ _ (readings.constant m) _ _ (grammar.name_value t a) = (t, refl, spells.number (spells.constant (record { name = a; declared = m })))
atoms-spelled e _ _ (readings.component m) _ _ (grammar.name_value t a) = (t, refl, spells.component (record { name = a; declared = m }))
atoms-spelled e _ _ (readings.components m) _ _ (grammar.name_value t a) = (t, refl, spells.components (record { name = a; declared = m }))

has_number : (e : Scope) (t : Token) (n : ℕ) → spells.HasAtoms e t (Num n ∷ []) → (b : Bool) × spells.IsNumber e t n b
has_number e t n (spells.number {b = b} h) = (b, h)

number-spelled : (e : Scope) (v : Value) (n : ℕ) → readings.HasAtoms e v (Num n ∷ []) → (ts rest : List Token) → grammar.IsValue ts v rest → One (λ t. (b : Bool) × spells.IsNumber e t n b) ts rest
number-spelled e v n h ts rest value = let w = atoms-spelled e v (Num n ∷ []) h ts rest value in (w.0, w.1, has_number e w.0 n w.2)

address-spelled : (e : Scope) (v : Value) (x : ℕ) → readings.IsAddress e v x → (ts rest : List Token) → grammar.IsValue ts v rest → One (λ t. spells.IsNumber e t x true) ts rest
address-spelled e _ x (readings.address h) _ _ (grammar.literal_value (grammar.address_literal t a)) = (t, refl, spells.literal (spells.address a h))
address-spelled e _ x (readings.constant_address m) _ _ (grammar.name_value t a) = (t, refl, spells.constant (record { name = a; declared = m }))

-- ---- places
-- no more places, or some
data Remain (e : Scope) : List Token → List Atom → List Token → Type 0 where
  none : {rest : List Token} → Remain e rest [] rest
  some : {ts rest : List Token} {xs : List Atom} → spells.HaveAtoms e ts xs rest → Remain e ts xs rest

place-remain : (e : Scope) (t v u : Token) (xs ys : List Atom) (ts rest : List Token) → spells.IsSign Sign.OpenSquare t → spells.HasAtoms e v xs → spells.IsSign Sign.CloseSquare u → Remain e ts ys rest → spells.HaveAtoms e (t ∷ v ∷ u ∷ ts) (xs ++ ys) rest
place-remain e t v u xs _ _ rest a h b none = subst (λ zs. spells.HaveAtoms e (t ∷ v ∷ u ∷ rest) zs rest) (sym (append-nil xs)) (spells.last a h b)
place-remain e t v u xs _ _ _ a h b (some k) = spells.next a h b k

no_place-remain : (e : Scope) (rest : List Token) (xs : List Atom) → readings.HaveAtoms e [] xs → Remain e rest xs rest
no_place-remain e rest _ readings.no_place = none

first_place-spelled : (e : Scope) (t u : Token) (ts us : List Token) (v : Value) (vs : List Value) (rest : List Token) → spells.IsSign Sign.OpenSquare t → grammar.IsValue ts v (u ∷ us) → spells.IsSign Sign.CloseSquare u
    → ((xs : List Atom) → readings.HaveAtoms e vs xs → Remain e us xs rest) → (xs : List Atom) → readings.HaveAtoms e (v ∷ vs) xs → spells.HaveAtoms e (t ∷ ts) xs rest
first_place-spelled e t u ts us v vs rest a value b more _ (readings.next_place {xs = xs} {ys = ys} h k) =
    from-one (λ ts. spells.HaveAtoms e (t ∷ ts) (xs ++ ys) rest) (atoms-spelled e v xs h ts (u ∷ us) value) (λ w g. place-remain e t w u xs ys us rest a g b (more ys k))

-- the places that are read behind others
places_rest-spelled : (e : Scope) (vs : List Value) (ts : List Token) (ws : List Value) (rest : List Token) → grammar.IsPlacesRest vs ts ws rest
    → (us : List Value) × (ws ≡ vs ++ us) × ((xs : List Atom) → readings.HaveAtoms e us xs → Remain e ts xs rest)
places_rest-spelled e vs ts _ _ grammar.places_end = ([], sym (append-nil vs), no_place-remain e ts)
places_rest-spelled e vs _ _ rest (grammar.places_more {v = v} t u a value b more) =
    let r = places_rest-spelled e (vs ++ v ∷ []) _ _ rest more in
    (v ∷ r.0, r.1 ∙ append_assoc vs (v ∷ []) r.0, λ xs h. some (first_place-spelled e t u _ _ v r.0 rest a value b r.2 xs h))

places-spelled : (e : Scope) (ts : List Token) (vs : List Value) (rest : List Token) → grammar.IsPlaces ts vs rest → (xs : List Atom) → readings.HaveAtoms e vs xs → spells.HaveAtoms e ts xs rest
places-spelled e _ _ rest (grammar.places {v = v} t u a value b more) xs h =
    let r = places_rest-spelled e (v ∷ []) _ _ rest more in
    first_place-spelled e t u _ _ v r.0 rest a value b r.2 xs (subst (λ ws. readings.HaveAtoms e ws xs) r.1 h)

place-spelled : (e : Scope) (t : Token) (ts : List Token) (vs : List Value) (rest : List Token) (var : ℕ) (index : List Atom) → t.kind ≡ Kind.Word → grammar.IsPlaces ts vs rest → readings.IsPlace e (span_of t) vs var index → spells.IsPlace e (t ∷ ts) var index rest
place-spelled e t ts vs rest var index a ps h = spells.place (record { name = a; declared = h.array }) (places-spelled e ts vs rest ps index h.have) h.size

-- what stands between a place and a value
with_value : {X : Type 0} {P : Token → Type 0} (e : Scope) (ts us rest : List Token) (t : Token) (var : ℕ) (index : List Atom) → spells.IsPlace e ts var index (t ∷ us) → One P us rest → ((v : Token) → spells.IsPlace e ts var index (t ∷ v ∷ rest) → P v → X) → X
with_value e ts us rest t var index h w f = f w.0 (subst (λ us. spells.IsPlace e ts var index (t ∷ us)) w.1 h) w.2

-- `name = value` and `name <- value` of a field
test-spelled : (e : Scope) (d : ℕ) (t u : Token) (ts : List Token) (v : Value) (rest : List Token) → t.kind ≡ Kind.Word → spells.IsSign Sign.Equals u → grammar.IsValue ts v rest → (p : CorePolicy) → readings.IsSingle e (test_tree (span_of t) v) p → spells.IsSingle e d (t ∷ u ∷ ts) p rest
test-spelled e d t u ts v rest a b value p (readings.test {n = n} m h) = from-one (λ ts. spells.IsSingle e d (t ∷ u ∷ ts) p rest) (number-spelled e v n h ts rest value) (λ w x. spells.test (record { name = a; declared = m }) b x.1)
test-spelled e d t u ts v rest a b value p (readings.test_split {x = x} m h) = from-one (λ ts. spells.IsSingle e d (t ∷ u ∷ ts) p rest) (address-spelled e v x h ts rest value) (λ w x. spells.test_split (record { name = a; declared = m }) b x)
test-spelled e d t u _ _ rest a b (grammar.prefix_value v w l c f g) p (readings.test_net m x n) = spells.test_net (record { name = a; declared = m }) b (spells.address c x) f g n

set-spelled : (e : Scope) (d : ℕ) (t u : Token) (ts : List Token) (v : Value) (rest : List Token) → t.kind ≡ Kind.Word → spells.IsSign Sign.Arrow u → grammar.IsValue ts v rest → (p : CorePolicy) → readings.IsSingle e (set_tree (span_of t) v) p → spells.IsSingle e d (t ∷ u ∷ ts) p rest
set-spelled e d t u ts v rest a b value p (readings.gets {x = x} m h) = from-one (λ ts. spells.IsSingle e d (t ∷ u ∷ ts) p rest) (atoms-spelled e v (x ∷ []) h ts rest value) (λ w x. spells.gets (record { name = a; declared = m }) b x)
set-spelled e d t u ts v rest a b value p (readings.gets_address {x = x} m h) = from-one (λ ts. spells.IsSingle e d (t ∷ u ∷ ts) p rest) (address-spelled e v x h ts rest value) (λ w x. spells.gets_address (record { name = a; declared = m }) b x)
set-spelled e d t u _ _ rest a b (grammar.name_value v c) p (readings.gets_split m n) = spells.gets_split (record { name = a; declared = m }) b (record { name = c; declared = n })

-- ---- one operand, and one more
one_sequence : (e : Scope) (d at : ℕ) (s : SequenceTree) (ts rest : List Token) → ((p : CorePolicy) → readings.IsSequence e s p → spells.IsSequence e d ts p rest)
    → (p : CorePolicy) → readings.IsPolicy e (policy_more (policy_begin at) s) p → spells.IsPolicy e d ts p rest
one_sequence e d at s ts rest own p (readings.sequence r) = spells.sequence (own p r)
one_sequence e d at s ts rest own _ (readings.plus a b) = elim a [ ]

more_sequences : (e : Scope) (d : ℕ) (q : PolicyTree) (s : SequenceTree) (us ts rest : List Token) (t : Token) → HasSequence q → ((p : CorePolicy) → readings.IsPolicy e q p → spells.IsPolicy e d us p (t ∷ ts)) → spells.IsSign Sign.Plus t
    → ((p : CorePolicy) → readings.IsSequence e s p → spells.IsSequence e d ts p rest) → (p : CorePolicy) → readings.IsPolicy e (policy_more q s) p → spells.IsPolicy e d us p rest
more_sequences e d _ s us ts rest t has before sign own p (readings.sequence r) = absurd has
more_sequences e d q s us ts rest t has before sign own _ (readings.plus {p = p} {q = r} a b) = spells.plus (before p a) sign (own r b)

one_choice : (e : Scope) (d at : ℕ) (c : ChoiceTree) (ts rest : List Token) → ((p : CorePolicy) → readings.IsChoice e c p → spells.IsChoice e d ts p rest)
    → (p : CorePolicy) → readings.IsSequence e (sequence_more (sequence_begin at) c) p → spells.IsSequence e d ts p rest
one_choice e d at c ts rest own p (readings.choose r) = spells.choose (own p r)
one_choice e d at c ts rest own _ (readings.semicolon a b) = elim a [ ]

more_choices : (e : Scope) (d : ℕ) (q : SequenceTree) (c : ChoiceTree) (us ts rest : List Token) (t : Token) → HasChoice q → ((p : CorePolicy) → readings.IsSequence e q p → spells.IsSequence e d us p (t ∷ ts)) → spells.IsSign Sign.Semicolon t
    → ((p : CorePolicy) → readings.IsChoice e c p → spells.IsChoice e d ts p rest) → (p : CorePolicy) → readings.IsSequence e (sequence_more q c) p → spells.IsSequence e d us p rest
more_choices e d _ c us ts rest t has before sign own p (readings.choose r) = absurd has
more_choices e d q c us ts rest t has before sign own _ (readings.semicolon {p = p} {q = r} a b) = spells.semicolon (before p a) sign (own r b)

one_both : (e : Scope) (d at : ℕ) (b : BothTree) (ts rest : List Token) → ((p : CorePolicy) → readings.IsBoth e b p → spells.IsBoth e d ts p rest)
    → (p : CorePolicy) → readings.IsEither e (either_more (either_begin at) b) p → spells.IsEither e d ts p rest
one_both e d at b ts rest own p (readings.both r) = spells.both (own p r)
one_both e d at b ts rest own _ (readings.or h k) = elim h [ ]

more_boths : (e : Scope) (d : ℕ) (q : EitherTree) (b : BothTree) (us ts rest : List Token) (t : Token) → HasBoth q → ((p : CorePolicy) → readings.IsEither e q p → spells.IsEither e d us p (t ∷ ts)) → spells.IsSign Sign.Or t
    → ((p : CorePolicy) → readings.IsBoth e b p → spells.IsBoth e d ts p rest) → (p : CorePolicy) → readings.IsEither e (either_more q b) p → spells.IsEither e d us p rest
more_boths e d _ b us ts rest t has before sign own p (readings.both r) = absurd has
more_boths e d q b us ts rest t has before sign own _ (readings.or {x = x} {y = y} h k) = spells.or (before (filter x) h) sign (own (filter y) k)

one_single : (e : Scope) (d at : ℕ) (s : SingleTree) (ts rest : List Token) → ((p : CorePolicy) → readings.IsSingle e s p → spells.IsSingle e d ts p rest)
    → (p : CorePolicy) → readings.IsBoth e (both_more (both_begin at) s) p → spells.IsBoth e d ts p rest
one_single e d at s ts rest own p (readings.single r) = spells.single (own p r)
one_single e d at s ts rest own _ (readings.and h k) = elim h [ ]

more_singles : (e : Scope) (d : ℕ) (q : BothTree) (s : SingleTree) (us ts rest : List Token) (t : Token) → HasSingle q → ((p : CorePolicy) → readings.IsBoth e q p → spells.IsBoth e d us p (t ∷ ts)) → spells.IsSign Sign.And t
    → ((p : CorePolicy) → readings.IsSingle e s p → spells.IsSingle e d ts p rest) → (p : CorePolicy) → readings.IsBoth e (both_more q s) p → spells.IsBoth e d us p rest
more_singles e d _ s us ts rest t has before sign own p (readings.single r) = absurd has
more_singles e d q s us ts rest t has before sign own _ (readings.and {x = x} {y = y} h k) = spells.and (before (filter x) h) sign (own (filter y) k)

-- ---- policies, where k parts are open and d more may be
pub deeper : (k d : ℕ) → k + suc d ≡ 128 → suc k + d ≡ 128
deeper k d h = omega (arith, h)

full : (k n : ℕ) → (0 ≤ n → k < 128) → k + 0 ≡ 128 → ⊥
full k n deep h = let l : k < 128 = deep (omega arith) in omega (arith, l, h)

mutual
  policy-spelled : (e : Scope) (k : ℕ) (ts : List Token) (q : PolicyTree) (rest : List Token) → grammar.IsPolicy 128 0 k ts q rest → (d : ℕ) → k + d ≡ 128 → (p : CorePolicy) → readings.IsPolicy e q p → spells.IsPolicy e d ts p rest
  policy-spelled e k _ _ rest (grammar.policy {s = s} own more) d sum = policy_rest-spelled e k _ _ _ rest more tt d sum _ (one_sequence e d _ s _ _ (sequence-spelled e k _ _ _ own d sum))

  policy_rest-spelled : (e : Scope) (k : ℕ) (q : PolicyTree) (ts : List Token) (r : PolicyTree) (rest : List Token) → grammar.IsPolicyRest 128 0 k q ts r rest → HasSequence q → (d : ℕ) → k + d ≡ 128 → (us : List Token)
      → ((p : CorePolicy) → readings.IsPolicy e q p → spells.IsPolicy e d us p ts) → (p : CorePolicy) → readings.IsPolicy e r p → spells.IsPolicy e d us p rest
  policy_rest-spelled e k _ _ _ _ grammar.policy_end has d sum us before = before
  policy_rest-spelled e k q _ _ rest (grammar.policy_plus {s = s} t sign own more) has d sum us before = policy_rest-spelled e k _ _ _ rest more tt d sum us (more_sequences e d q s us _ _ t has before sign (sequence-spelled e k _ _ _ own d sum))

  sequence-spelled : (e : Scope) (k : ℕ) (ts : List Token) (s : SequenceTree) (rest : List Token) → grammar.IsSequence 128 0 k ts s rest → (d : ℕ) → k + d ≡ 128 → (p : CorePolicy) → readings.IsSequence e s p → spells.IsSequence e d ts p rest
  sequence-spelled e k _ _ rest (grammar.sequence {c = c} own more) d sum = sequence_rest-spelled e k _ _ _ rest more tt d sum _ (one_choice e d _ c _ _ (choice-spelled e k _ _ _ own d sum))

  sequence_rest-spelled : (e : Scope) (k : ℕ) (q : SequenceTree) (ts : List Token) (r : SequenceTree) (rest : List Token) → grammar.IsSequenceRest 128 0 k q ts r rest → HasChoice q → (d : ℕ) → k + d ≡ 128 → (us : List Token)
      → ((p : CorePolicy) → readings.IsSequence e q p → spells.IsSequence e d us p ts) → (p : CorePolicy) → readings.IsSequence e r p → spells.IsSequence e d us p rest
  sequence_rest-spelled e k _ _ _ _ grammar.sequence_end has d sum us before = before
  sequence_rest-spelled e k q _ _ rest (grammar.sequence_semicolon {c = c} t sign own more) has d sum us before = sequence_rest-spelled e k _ _ _ rest more tt d sum us (more_choices e d q c us _ _ t has before sign (choice-spelled e k _ _ _ own d sum))

  choice-spelled : (e : Scope) (k : ℕ) (ts : List Token) (c : ChoiceTree) (rest : List Token) → grammar.IsChoice 128 0 k ts c rest → (d : ℕ) → k + d ≡ 128 → (p : CorePolicy) → readings.IsChoice e c p → spells.IsChoice e d ts p rest
  choice-spelled e k _ _ _ (grammar.if_choice t u v a deep test b met c unmet) zero sum p h = absurd (full k _ deep sum)
  choice-spelled e k _ _ _ (grammar.if_choice t u v a deep test b met c unmet) (suc d) sum _ (readings.if_then {x = x} {p = p} {q = q} f g h) =
      let sums = deeper k d sum in
      spells.if_then a (either-spelled e (suc k) _ _ _ test d sums (filter x) f) b (policy-spelled e (suc k) _ _ _ met d sums p g) c (choice-spelled e (suc k) _ _ _ unmet d sums q h)
  choice-spelled e k _ _ _ (grammar.plain_choice own) d sum p (readings.no_choice h) = spells.no_choice (either-spelled e k _ _ _ own d sum p h)

  either-spelled : (e : Scope) (k : ℕ) (ts : List Token) (q : EitherTree) (rest : List Token) → grammar.IsEither 128 0 k ts q rest → (d : ℕ) → k + d ≡ 128 → (p : CorePolicy) → readings.IsEither e q p → spells.IsEither e d ts p rest
  either-spelled e k _ _ rest (grammar.either {b = b} own more) d sum = either_rest-spelled e k _ _ _ rest more tt d sum _ (one_both e d _ b _ _ (both-spelled e k _ _ _ own d sum))

  either_rest-spelled : (e : Scope) (k : ℕ) (q : EitherTree) (ts : List Token) (r : EitherTree) (rest : List Token) → grammar.IsEitherRest 128 0 k q ts r rest → HasBoth q → (d : ℕ) → k + d ≡ 128 → (us : List Token)
      → ((p : CorePolicy) → readings.IsEither e q p → spells.IsEither e d us p ts) → (p : CorePolicy) → readings.IsEither e r p → spells.IsEither e d us p rest
  either_rest-spelled e k _ _ _ _ grammar.either_end has d sum us before = before
  either_rest-spelled e k q _ _ rest (grammar.either_or {b = b} t sign own more) has d sum us before = either_rest-spelled e k _ _ _ rest more tt d sum us (more_boths e d q b us _ _ t has before sign (both-spelled e k _ _ _ own d sum))

  both-spelled : (e : Scope) (k : ℕ) (ts : List Token) (q : BothTree) (rest : List Token) → grammar.IsBoth 128 0 k ts q rest → (d : ℕ) → k + d ≡ 128 → (p : CorePolicy) → readings.IsBoth e q p → spells.IsBoth e d ts p rest
  both-spelled e k _ _ rest (grammar.both {s = s} own more) d sum = both_rest-spelled e k _ _ _ rest more tt d sum _ (one_single e d _ s _ _ (single-spelled e k _ _ _ own d sum))

  both_rest-spelled : (e : Scope) (k : ℕ) (q : BothTree) (ts : List Token) (r : BothTree) (rest : List Token) → grammar.IsBothRest 128 0 k q ts r rest → HasSingle q → (d : ℕ) → k + d ≡ 128 → (us : List Token)
      → ((p : CorePolicy) → readings.IsBoth e q p → spells.IsBoth e d us p ts) → (p : CorePolicy) → readings.IsBoth e r p → spells.IsBoth e d us p rest
  both_rest-spelled e k _ _ _ _ grammar.both_end has d sum us before = before
  both_rest-spelled e k q _ _ rest (grammar.both_and {s = s} t sign own more) has d sum us before = both_rest-spelled e k _ _ _ rest more tt d sum us (more_singles e d q s us _ _ t has before sign (single-spelled e k _ _ _ own d sum))

  single-spelled : (e : Scope) (k : ℕ) (ts : List Token) (s : SingleTree) (rest : List Token) → grammar.IsSingle 128 0 k ts s rest → (d : ℕ) → k + d ≡ 128 → (p : CorePolicy) → readings.IsSingle e s p → spells.IsSingle e d ts p rest
  single-spelled e k _ _ _ (grammar.not_single t a deep own) zero sum p h = absurd (full k _ deep sum)
  single-spelled e k _ _ _ (grammar.not_single t a deep own) (suc d) sum _ (readings.negation {x = x} h) = spells.negation a (single-spelled e (suc k) _ _ _ own d (deeper k d sum) (filter x) h)
  single-spelled e k _ _ _ (grammar.id_single t a) d sum _ readings.identity = spells.identity a
  single-spelled e k _ _ _ (grammar.drop_single t a) d sum _ readings.drop = spells.drop a
  single-spelled e k _ _ _ (grammar.group_single t u a deep own b) zero sum p h = absurd (full k _ deep sum)
  single-spelled e k _ _ _ (grammar.group_single t u a deep own b) (suc d) sum p (readings.group h) = spells.group a (policy-spelled e (suc k) _ _ _ own d (deeper k d sum) p h) b
  single-spelled e k _ _ _ (grammar.atomic_single t u v a b deep own c) zero sum p h = absurd (full k _ deep sum)
  single-spelled e k _ _ _ (grammar.atomic_single t u v a b deep own c) (suc d) sum _ (readings.undivided {p = p} h) = spells.undivided a b (policy-spelled e (suc k) _ _ _ own d (deeper k d sum) p h) c
  single-spelled e k _ _ _ (grammar.name_single t a) d sum p (readings.body m h) = spells.body (record { name = a; declared = m }) h
  single-spelled e k _ _ rest (grammar.test_single t u a b value) d sum p h = test-spelled e d t u _ _ rest a b value p h
  single-spelled e k _ _ rest (grammar.set_single t u a b value) d sum p h = set-spelled e d t u _ _ rest a b value p h
  single-spelled e k _ _ rest (grammar.bare_single t a ps) d sum _ (readings.is_one h) = spells.is_one (place-spelled e t _ _ rest _ _ a ps h)
  single-spelled e k _ _ rest (grammar.array_test_single t u a ps b value) d sum _ (readings.test_array {index = index} h x) =
      with_value e _ _ rest u _ index (place-spelled e t _ _ _ _ index a ps h) (atoms-spelled e _ _ x _ rest value) (λ v h x. spells.test_array h b x)
  single-spelled e k _ _ rest (grammar.array_set_single {ts = ts} t u a ps b value) d sum _ (readings.put x c) =
      subst (λ p. spells.IsSingle e d (t ∷ ts) p rest) (sym c.3) (with_value e _ _ rest u _ c.1 (place-spelled e t _ _ _ _ c.1 a ps c.2) (atoms-spelled e _ _ x _ rest value) (λ v h x. spells.puts h b x))
  single-spelled e k _ _ rest (grammar.up_single {ts = ts} t u a ps b) d sum _ (readings.up c) = subst (λ p. spells.IsSingle e d (t ∷ ts) p rest) (sym c.3) (spells.up (place-spelled e t _ _ _ _ c.1 a ps c.2) b)
  single-spelled e k _ _ rest (grammar.down_single {ts = ts} t u a ps b) d sum _ (readings.down c) = subst (λ p. spells.IsSingle e d (t ∷ ts) p rest) (sym c.3) (spells.down (place-spelled e t _ _ _ _ c.1 a ps c.2) b)
  single-spelled e k _ _ rest (grammar.array_add_single {ts = ts} t u a ps b value) d sum _ (readings.add {n = n} x c) =
      subst (λ p. spells.IsSingle e d (t ∷ ts) p rest) (sym c.3) (with_value e _ _ rest u _ c.1 (place-spelled e t _ _ _ _ c.1 a ps c.2) (number-spelled e _ n x _ rest value) (λ v h x. spells.add h b x.1))
  single-spelled e k _ _ rest (grammar.array_sub_single {ts = ts} t u a ps b value) d sum _ (readings.sub {n = n} x c) =
      subst (λ p. spells.IsSingle e d (t ∷ ts) p rest) (sym c.3) (with_value e _ _ rest u _ c.1 (place-spelled e t _ _ _ _ c.1 a ps c.2) (number-spelled e _ n x _ rest value) (λ v h x. spells.sub h b x.1))

-- ---- declarations
decl-spelled : (e : Scope) (ts : List Token) (t : DeclTree) (rest : List Token) → grammar.IsDecl 128 0 ts t rest → (f : Scope) (names : List (List ℕ × Sense)) → readings.Declares e t f names → spells.Declares e ts f names rest
decl-spelled e _ _ _ (grammar.field_decl t u v a b c) _ _ (readings.field readings.plain) = spells.field a b (spells.plain c)
decl-spelled e _ _ _ (grammar.split_field_decl t u v w x a b c f g) _ _ (readings.field (readings.split h i j)) = spells.field a b (spells.split c f h i j g)
decl-spelled e _ _ _ (grammar.array_decl t u v a b c) _ _ readings.array = spells.array a b c
decl-spelled e _ _ rest (grammar.const_decl {l = l} t u v w a b c own g) _ _ (readings.const {n = n} h) =
    from-one (λ ts. spells.Declares e (t ∷ u ∷ v ∷ ts) e ((word e.text (span_of u), Constant n (is_address l)) ∷ []) rest) (literal-spelled e.text _ l (w ∷ rest) own n h) (λ x h. spells.const a b c h g)
decl-spelled e _ _ _ (grammar.let_decl t u v w a b c deep own g) _ _ (readings.body_of_let {p = p} h) = spells.body_of_let a b c (policy-spelled e 1 _ _ _ own 127 refl p h) g

last_program : (e f : Scope) (ts : List Token) (q : PolicyTree) (p : CorePolicy) → grammar.IsPolicy 128 0 0 ts q [] → readings.DeclaresAll e [] f → readings.IsPolicy f q p → spells.IsProgram e ts f p
last_program e _ ts q p own readings.no_more h = spells.policy (policy-spelled e 0 ts q [] own 128 refl p h)

-- what is read behind some declarations
abbrev Behind : List DeclTree → List Token → PolicyTree → Type 0
Behind us ts q = (e f : Scope) (p : CorePolicy) → readings.DeclaresAll e us f → readings.IsPolicy f q p → spells.IsProgram e ts f p

next_program : (e f : Scope) (ts : List Token) (t : DeclTree) (rest : List Token) (us : List DeclTree) (q : PolicyTree) (p : CorePolicy) → grammar.IsDecl 128 0 ts t rest → Behind us rest q → readings.DeclaresAll e (t ∷ us) f → readings.IsPolicy f q p → spells.IsProgram e ts f p
next_program e f ts t rest us q p own more (readings.one_more {d = d} {names = names} one new h) k = spells.declaration (decl-spelled e ts t rest own d names one) new (more (record d { names = e.names ++ names }) f p h k)

program_rest-spelled : (ds : List DeclTree) (ts : List Token) (s : SourceTree) → grammar.IsProgramRest 128 0 ds ts s → (us : List DeclTree) × (s.decls ≡ ds ++ us) × Behind us ts s.policy
program_rest-spelled ds ts _ (grammar.last_policy {p = q} own) = ([], sym (append-nil ds), λ e f p h k. last_program e f ts q p own h k)
program_rest-spelled ds ts s (grammar.next_decl {d = t} {rest = rest} own more) =
    let r = program_rest-spelled (ds ++ t ∷ []) rest s more in
    (t ∷ r.0, r.1 ∙ append_assoc ds (t ∷ []) r.0, λ e f p h k. next_program e f ts t rest r.0 s.policy p own r.2 h k)

pub program-spelled : (ts : List Token) (s : SourceTree) → grammar.DerivesWithin 128 ts s → (e f : Scope) (p : CorePolicy) → readings.DeclaresAll e s.decls f → readings.IsPolicy f s.policy p → spells.IsProgram e ts f p
program-spelled ts s h e f p declared body =
    let r = program_rest-spelled [] ts s h in
    r.2 e f p (subst (λ us. readings.DeclaresAll e us f) r.1 declared) body

-- Tokens that spell something derive a tree that reads as it.
use Rattle.std.proofs.Common.{◌≡◌, ℕ, suc, ◌+◌, ◌<◌, ◌≤◌, Bool, true, List, [], ◌∷◌, ◌++◌, Option, None, Some, refl, sym, subst, arith, append_assoc}
use Rattle.std.proofs.lemmas.List.{append-nil}
use Rattle.snap_names.specs.Core.{Atom, Num, CorePolicy, filter}
use Rattle.snap_parse.specs.Tree.{PolicyTree, policy_begin, policy_more, SequenceTree, sequence_begin, sequence_more, ChoiceTree, if_tree, plain_tree, EitherTree, either_begin, either_more, BothTree, both_begin, both_more, SingleTree, not_tree, id_tree, drop_tree, group_tree, atomic_tree, name_tree, test_tree, set_tree, bare_tree, array_test_tree, array_set_tree, up_tree, down_tree, array_add_tree, array_sub_tree, DeclTree, field_tree, array_tree, const_tree, let_tree, SourceTree, span_of}
use Rattle.snap_parse.specs.Grammar as grammar
use Rattle.snap_names.specs.Senses.{Span, Literal, Value, Sense, Constant, word, is_address}
use Rattle.snap_names.specs.Spells.{Token, Kind, Key, Scope}
use Rattle.snap_names.specs.Spells as spells
use Rattle.snap_names.proofs.SpelledTrees.{deeper}
use Rattle.snap_names.proofs.TreeReadings as readings

-- ---- values
literal-grown : (text : List ℕ) (t : Token) (n : ℕ) (b : Bool) → spells.IsLiteral text t n b → (rest : List Token) → (l : Literal) × grammar.IsLiteral (t ∷ rest) l rest × (readings.number text l ≡ Some n) × (is_address l ≡ b)
literal-grown text t _ _ (spells.number a h) rest = (Literal.Number (span_of t), grammar.number_literal t a, h, refl)
literal-grown text t _ _ (spells.address a h) rest = (Literal.Address (span_of t), grammar.address_literal t a, h, refl)
literal-grown text t _ _ (spells.yes a) rest = (Literal.True (span_of t), grammar.true_literal t a, refl, refl)
literal-grown text t _ _ (spells.no a) rest = (Literal.False (span_of t), grammar.false_literal t a, refl, refl)

-- the token is a value, of which this holds
abbrev GrowsValue : (Value → Type 0) → Token → List Token → Type 0
GrowsValue P t rest = (v : Value) × grammar.IsValue (t ∷ rest) v rest × P v

number-grown : (e : Scope) (t : Token) (n : ℕ) (b : Bool) → spells.IsNumber e t n b → (rest : List Token) → GrowsValue (λ v. readings.HasAtoms e v (Num n ∷ [])) t rest
number-grown e t n b (spells.literal h) rest = let l = literal-grown e.text t n b h rest in (Value.Literal l.0, grammar.literal_value l.1, readings.literal l.2)
number-grown e t n b (spells.constant m) rest = (Value.Name (span_of t), grammar.name_value t m.name, readings.constant m.declared)

atoms-grown : (e : Scope) (t : Token) (xs : List Atom) → spells.HasAtoms e t xs → (rest : List Token) → GrowsValue (λ v. readings.HasAtoms e v xs) t rest
atoms-grown e t _ (spells.number {n = n} {b = b} h) rest = number-grown e t n b h rest
atoms-grown e t _ (spells.component m) rest = (Value.Name (span_of t), grammar.name_value t m.name, readings.component m.declared)
atoms-grown e t _ (spells.components m) rest = (Value.Name (span_of t), grammar.name_value t m.name, readings.components m.declared)

address-grown : (e : Scope) (t : Token) (x : ℕ) → spells.IsNumber e t x true → (rest : List Token) → GrowsValue (λ v. readings.IsAddress e v x) t rest
address-grown e t x (spells.literal (spells.address a h)) rest = (Value.Literal (Literal.Address (span_of t)), grammar.literal_value (grammar.address_literal t a), readings.address h)
address-grown e t x (spells.constant m) rest = (Value.Name (span_of t), grammar.name_value t m.name, readings.constant_address m.declared)

-- ---- places
places_rest-grown : (e : Scope) (ts : List Token) (xs : List Atom) (rest : List Token) → spells.HaveAtoms e ts xs rest → (vs : List Value) → (v : Value) × (us : List Value) × grammar.IsPlacesRest vs ts (vs ++ v ∷ us) rest × readings.HaveAtoms e (v ∷ us) xs
places_rest-grown e _ xs rest (spells.last {t = t} {v = v} {u = u} a h b) vs =
    let w = atoms-grown e v xs h (u ∷ rest) in
    (w.0, [], grammar.places_more t u a w.1 b grammar.places_end, subst (readings.HaveAtoms e (w.0 ∷ [])) (append-nil xs) (readings.next_place w.2 readings.no_place))
places_rest-grown e _ _ rest (spells.next {t = t} {v = v} {u = u} {ts = ts} {xs = xs} {ys = ys} a h b more) vs =
    let w = atoms-grown e v xs h (u ∷ ts) in
    let r = places_rest-grown e ts ys rest more (vs ++ w.0 ∷ []) in
    (w.0, r.0 ∷ r.1, grammar.places_more t u a w.1 b (subst (λ ws. grammar.IsPlacesRest (vs ++ w.0 ∷ []) ts ws rest) (append_assoc vs (w.0 ∷ []) (r.0 ∷ r.1)) r.2), readings.next_place w.2 r.3)

some_places : (ts : List Token) (v : Value) (vs : List Value) (rest : List Token) → grammar.IsPlacesRest [] ts (v ∷ vs) rest → grammar.IsPlaces ts (v ∷ vs) rest
some_places _ v vs rest (grammar.places_more t u a value b more) = grammar.places t u a value b more

-- ---- a rule's first operand, and more at its end
policy-one : (k : ℕ) (ts : List Token) (s : SequenceTree) (rest : List Token) → grammar.IsSequence 128 0 k ts s rest → (at : ℕ) × grammar.IsPolicy 128 0 k ts (policy_more (policy_begin at) s) rest
policy-one k [] s rest h = elim h [ ]
policy-one k (t ∷ ts) s rest h = (t.from, grammar.policy h grammar.policy_end)

policy_rest-join : (k : ℕ) (p : PolicyTree) (ts : List Token) (q : PolicyTree) (us : List Token) (r : PolicyTree) (rest : List Token) → grammar.IsPolicyRest 128 0 k p ts q us → grammar.IsPolicyRest 128 0 k q us r rest → grammar.IsPolicyRest 128 0 k p ts r rest
policy_rest-join k _ _ _ _ r rest grammar.policy_end b = b
policy_rest-join k _ _ _ _ r rest (grammar.policy_plus t a s more) b = grammar.policy_plus t a s (policy_rest-join k _ _ _ _ r rest more b)

policy-join : (k : ℕ) (ts : List Token) (q : PolicyTree) (us : List Token) (r : PolicyTree) (rest : List Token) → grammar.IsPolicy 128 0 k ts q us → grammar.IsPolicyRest 128 0 k q us r rest → grammar.IsPolicy 128 0 k ts r rest
policy-join k _ _ _ r rest (grammar.policy s more) b = grammar.policy s (policy_rest-join k _ _ _ _ r rest more b)

sequence-one : (k : ℕ) (ts : List Token) (c : ChoiceTree) (rest : List Token) → grammar.IsChoice 128 0 k ts c rest → (at : ℕ) × grammar.IsSequence 128 0 k ts (sequence_more (sequence_begin at) c) rest
sequence-one k [] _ rest (grammar.plain_choice h) = elim h [ ]
sequence-one k (t ∷ ts) c rest h = (t.from, grammar.sequence h grammar.sequence_end)

sequence_rest-join : (k : ℕ) (p : SequenceTree) (ts : List Token) (q : SequenceTree) (us : List Token) (r : SequenceTree) (rest : List Token) → grammar.IsSequenceRest 128 0 k p ts q us → grammar.IsSequenceRest 128 0 k q us r rest → grammar.IsSequenceRest 128 0 k p ts r rest
sequence_rest-join k _ _ _ _ r rest grammar.sequence_end b = b
sequence_rest-join k _ _ _ _ r rest (grammar.sequence_semicolon t a c more) b = grammar.sequence_semicolon t a c (sequence_rest-join k _ _ _ _ r rest more b)

sequence-join : (k : ℕ) (ts : List Token) (q : SequenceTree) (us : List Token) (r : SequenceTree) (rest : List Token) → grammar.IsSequence 128 0 k ts q us → grammar.IsSequenceRest 128 0 k q us r rest → grammar.IsSequence 128 0 k ts r rest
sequence-join k _ _ _ r rest (grammar.sequence c more) b = grammar.sequence c (sequence_rest-join k _ _ _ _ r rest more b)

either-one : (k : ℕ) (ts : List Token) (b : BothTree) (rest : List Token) → grammar.IsBoth 128 0 k ts b rest → (at : ℕ) × grammar.IsEither 128 0 k ts (either_more (either_begin at) b) rest
either-one k [] b rest h = elim h [ ]
either-one k (t ∷ ts) b rest h = (t.from, grammar.either h grammar.either_end)

either_rest-join : (k : ℕ) (p : EitherTree) (ts : List Token) (q : EitherTree) (us : List Token) (r : EitherTree) (rest : List Token) → grammar.IsEitherRest 128 0 k p ts q us → grammar.IsEitherRest 128 0 k q us r rest → grammar.IsEitherRest 128 0 k p ts r rest
either_rest-join k _ _ _ _ r rest grammar.either_end b = b
either_rest-join k _ _ _ _ r rest (grammar.either_or t a s more) b = grammar.either_or t a s (either_rest-join k _ _ _ _ r rest more b)

either-join : (k : ℕ) (ts : List Token) (q : EitherTree) (us : List Token) (r : EitherTree) (rest : List Token) → grammar.IsEither 128 0 k ts q us → grammar.IsEitherRest 128 0 k q us r rest → grammar.IsEither 128 0 k ts r rest
either-join k _ _ _ r rest (grammar.either s more) b = grammar.either s (either_rest-join k _ _ _ _ r rest more b)

both-one : (k : ℕ) (ts : List Token) (s : SingleTree) (rest : List Token) → grammar.IsSingle 128 0 k ts s rest → (at : ℕ) × grammar.IsBoth 128 0 k ts (both_more (both_begin at) s) rest
both-one k [] s rest h = elim h [ ]
both-one k (t ∷ ts) s rest h = (t.from, grammar.both h grammar.both_end)

both_rest-join : (k : ℕ) (p : BothTree) (ts : List Token) (q : BothTree) (us : List Token) (r : BothTree) (rest : List Token) → grammar.IsBothRest 128 0 k p ts q us → grammar.IsBothRest 128 0 k q us r rest → grammar.IsBothRest 128 0 k p ts r rest
both_rest-join k _ _ _ _ r rest grammar.both_end b = b
both_rest-join k _ _ _ _ r rest (grammar.both_and t a s more) b = grammar.both_and t a s (both_rest-join k _ _ _ _ r rest more b)

both-join : (k : ℕ) (ts : List Token) (q : BothTree) (us : List Token) (r : BothTree) (rest : List Token) → grammar.IsBoth 128 0 k ts q us → grammar.IsBothRest 128 0 k q us r rest → grammar.IsBoth 128 0 k ts r rest
both-join k _ _ _ r rest (grammar.both s more) b = grammar.both s (both_rest-join k _ _ _ _ r rest more b)

-- ---- policies, where k parts are open and d more may be
below : (k d n : ℕ) → k + suc d ≡ 128 → 0 ≤ n → k < 128
below k d n h l = omega (arith, h)

-- the tokens before the rest derive a part that reads as this
abbrev GrowsSingle : Scope → ℕ → List Token → CorePolicy → List Token → Type 0
GrowsSingle e k ts p rest = (s : SingleTree) × grammar.IsSingle 128 0 k ts s rest × readings.IsSingle e s p

with_place : (e : Scope) (k : ℕ) (ts : List Token) (p : CorePolicy) (rest us : List Token) (var : ℕ) (index : List Atom) → spells.IsPlace e ts var index us
    → ((t : Token) (ts : List Token) (vs : List Value) → t.kind ≡ Kind.Word → grammar.IsPlaces ts vs us → readings.IsPlace e (span_of t) vs var index → GrowsSingle e k (t ∷ ts) p rest) → GrowsSingle e k ts p rest
with_place e k _ p rest us var index (spells.place {t = t} {ts = ts} m h size) f =
    let r = places_rest-grown e ts index us h [] in
    f t ts (r.0 ∷ r.1) m.name (some_places ts r.0 r.1 us r.2) (record { array = m.declared; have = r.3; size = size })

mutual
  policy-grown : (e : Scope) (d : ℕ) (ts : List Token) (p : CorePolicy) (rest : List Token) → spells.IsPolicy e d ts p rest → (k : ℕ) → k + d ≡ 128 → (q : PolicyTree) × grammar.IsPolicy 128 0 k ts q rest × readings.IsPolicy e q p
  policy-grown e d ts p rest (spells.sequence h) k sum =
      let r = sequence-grown e d ts p rest h k sum in
      let own = policy-one k ts r.0 rest r.1 in
      (policy_more (policy_begin own.0) r.0, own.1, readings.sequence r.2)
  policy-grown e d ts _ rest (spells.plus {t = t} {us = us} {p = p} {q = q} f a g) k sum =
      let l = policy-grown e d ts p (t ∷ us) f k sum in
      let r = sequence-grown e d us q rest g k sum in
      (policy_more l.0 r.0, policy-join k ts l.0 (t ∷ us) _ rest l.1 (grammar.policy_plus t a r.1 grammar.policy_end), readings.plus l.2 r.2)

  sequence-grown : (e : Scope) (d : ℕ) (ts : List Token) (p : CorePolicy) (rest : List Token) → spells.IsSequence e d ts p rest → (k : ℕ) → k + d ≡ 128 → (q : SequenceTree) × grammar.IsSequence 128 0 k ts q rest × readings.IsSequence e q p
  sequence-grown e d ts p rest (spells.choose h) k sum =
      let r = choice-grown e d ts p rest h k sum in
      let own = sequence-one k ts r.0 rest r.1 in
      (sequence_more (sequence_begin own.0) r.0, own.1, readings.choose r.2)
  sequence-grown e d ts _ rest (spells.semicolon {t = t} {us = us} {p = p} {q = q} f a g) k sum =
      let l = sequence-grown e d ts p (t ∷ us) f k sum in
      let r = choice-grown e d us q rest g k sum in
      (sequence_more l.0 r.0, sequence-join k ts l.0 (t ∷ us) _ rest l.1 (grammar.sequence_semicolon t a r.1 grammar.sequence_end), readings.semicolon l.2 r.2)

  choice-grown : (e : Scope) (d : ℕ) (ts : List Token) (p : CorePolicy) (rest : List Token) → spells.IsChoice e d ts p rest → (k : ℕ) → k + d ≡ 128 → (c : ChoiceTree) × grammar.IsChoice 128 0 k ts c rest × readings.IsChoice e c p
  choice-grown e _ _ _ rest (spells.if_then {d = d} {t = t} {u = u} {v = v} {ts = ts} {us = us} {vs = vs} {x = x} {p = p} {q = q} a f b g c h) k sum =
      let sums = deeper k d sum in
      let l = either-grown e d ts (filter x) (u ∷ us) f (suc k) sums in
      let m = policy-grown e d us p (v ∷ vs) g (suc k) sums in
      let r = choice-grown e d vs q rest h (suc k) sums in
      (if_tree t.from l.0 m.0 r.0, grammar.if_choice t u v a (below k d _ sum) l.1 b m.1 c r.1, readings.if_then l.2 m.2 r.2)
  choice-grown e d ts p rest (spells.no_choice h) k sum = let r = either-grown e d ts p rest h k sum in (plain_tree r.0, grammar.plain_choice r.1, readings.no_choice r.2)

  either-grown : (e : Scope) (d : ℕ) (ts : List Token) (p : CorePolicy) (rest : List Token) → spells.IsEither e d ts p rest → (k : ℕ) → k + d ≡ 128 → (q : EitherTree) × grammar.IsEither 128 0 k ts q rest × readings.IsEither e q p
  either-grown e d ts p rest (spells.both h) k sum =
      let r = both-grown e d ts p rest h k sum in
      let own = either-one k ts r.0 rest r.1 in
      (either_more (either_begin own.0) r.0, own.1, readings.both r.2)
  either-grown e d ts _ rest (spells.or {t = t} {us = us} {x = x} {y = y} f a g) k sum =
      let l = either-grown e d ts (filter x) (t ∷ us) f k sum in
      let r = both-grown e d us (filter y) rest g k sum in
      (either_more l.0 r.0, either-join k ts l.0 (t ∷ us) _ rest l.1 (grammar.either_or t a r.1 grammar.either_end), readings.or l.2 r.2)

  both-grown : (e : Scope) (d : ℕ) (ts : List Token) (p : CorePolicy) (rest : List Token) → spells.IsBoth e d ts p rest → (k : ℕ) → k + d ≡ 128 → (q : BothTree) × grammar.IsBoth 128 0 k ts q rest × readings.IsBoth e q p
  both-grown e d ts p rest (spells.single h) k sum =
      let r = single-grown e d ts p rest h k sum in
      let own = both-one k ts r.0 rest r.1 in
      (both_more (both_begin own.0) r.0, own.1, readings.single r.2)
  both-grown e d ts _ rest (spells.and {t = t} {us = us} {x = x} {y = y} f a g) k sum =
      let l = both-grown e d ts (filter x) (t ∷ us) f k sum in
      let r = single-grown e d us (filter y) rest g k sum in
      (both_more l.0 r.0, both-join k ts l.0 (t ∷ us) _ rest l.1 (grammar.both_and t a r.1 grammar.both_end), readings.and l.2 r.2)

  single-grown : (e : Scope) (d : ℕ) (ts : List Token) (p : CorePolicy) (rest : List Token) → spells.IsSingle e d ts p rest → (k : ℕ) → k + d ≡ 128 → GrowsSingle e k ts p rest
  single-grown e _ _ _ rest (spells.negation {d = d} {t = t} {ts = ts} {x = x} a h) k sum =
      let r = single-grown e d ts (filter x) rest h (suc k) (deeper k d sum) in
      (not_tree t.from r.0, grammar.not_single t a (below k d _ sum) r.1, readings.negation r.2)
  single-grown e _ _ _ rest (spells.identity {t = t} a) k sum = (id_tree t.from, grammar.id_single t a, readings.identity)
  single-grown e _ _ _ rest (spells.drop {t = t} a) k sum = (drop_tree t.from, grammar.drop_single t a, readings.drop)
  single-grown e _ _ p rest (spells.group {d = d} {t = t} {u = u} {ts = ts} a h b) k sum =
      let r = policy-grown e d ts p (u ∷ rest) h (suc k) (deeper k d sum) in
      (group_tree t.from r.0, grammar.group_single t u a (below k d _ sum) r.1 b, readings.group r.2)
  single-grown e _ _ _ rest (spells.undivided {d = d} {t = t} {u = u} {v = v} {ts = ts} {p = p} a b h c) k sum =
      let r = policy-grown e d ts p (v ∷ rest) h (suc k) (deeper k d sum) in
      (atomic_tree t.from r.0, grammar.atomic_single t u v a b (below k d _ sum) r.1 c, readings.undivided r.2)
  single-grown e _ _ _ rest (spells.body {t = t} m h) k sum = (name_tree (span_of t), grammar.name_single t m.name, readings.body m.declared h)
  single-grown e _ _ _ rest (spells.test {n = n} {b = b} {t = t} {u = u} {v = v} m a h) k sum = let w = number-grown e v n b h rest in (test_tree (span_of t) w.0, grammar.test_single t u m.name a w.1, readings.test m.declared w.2)
  single-grown e _ _ _ rest (spells.test_split {x = x} {t = t} {u = u} {v = v} m a h) k sum = let w = address-grown e v x h rest in (test_tree (span_of t) w.0, grammar.test_single t u m.name a w.1, readings.test_split m.declared w.2)
  single-grown e _ _ _ rest (spells.test_net {t = t} {u = u} {v = v} {w = w} {l = l} m a (spells.address c x) f g n) k sum =
      (test_tree (span_of t) (Value.Prefix (span_of v) (span_of l)), grammar.test_single t u m.name a (grammar.prefix_value v w l c f g), readings.test_net m.declared x n)
  single-grown e _ _ _ rest (spells.gets {x = x} {t = t} {u = u} {v = v} m a h) k sum = let w = atoms-grown e v (x ∷ []) h rest in (set_tree (span_of t) w.0, grammar.set_single t u m.name a w.1, readings.gets m.declared w.2)
  single-grown e _ _ _ rest (spells.gets_address {x = x} {t = t} {u = u} {v = v} m a h) k sum = let w = address-grown e v x h rest in (set_tree (span_of t) w.0, grammar.set_single t u m.name a w.1, readings.gets_address m.declared w.2)
  single-grown e _ _ _ rest (spells.gets_split {t = t} {u = u} {v = v} m a n) k sum = (set_tree (span_of t) (Value.Name (span_of v)), grammar.set_single t u m.name a (grammar.name_value v n.name), readings.gets_split m.declared n.declared)
  single-grown e _ ts p rest (spells.is_one {var = var} {index = index} h) k sum =
      with_place e k ts p rest rest var index h (λ t ts vs a ps r. (bare_tree (span_of t) vs, grammar.bare_single t a ps, readings.is_one r))
  single-grown e _ ts p rest (spells.test_array {var = var} {index = index} {x = x} {u = u} {v = v} h b y) k sum =
      let w = atoms-grown e v (x ∷ []) y rest in
      with_place e k ts p rest (u ∷ v ∷ rest) var index h (λ t ts vs a ps r. (array_test_tree (span_of t) vs w.0, grammar.array_test_single t u a ps b w.1, readings.test_array r w.2))
  single-grown e _ ts p rest (spells.puts {var = var} {index = index} {x = x} {u = u} {v = v} h b y) k sum =
      let w = atoms-grown e v (x ∷ []) y rest in
      with_place e k ts p rest (u ∷ v ∷ rest) var index h (λ t ts vs a ps r. (array_set_tree (span_of t) vs w.0, grammar.array_set_single t u a ps b w.1, readings.put w.2 (var, index, r, refl)))
  single-grown e _ ts p rest (spells.up {var = var} {index = index} {u = u} h b) k sum =
      with_place e k ts p rest (u ∷ rest) var index h (λ t ts vs a ps r. (up_tree (span_of t) vs, grammar.up_single t u a ps b, readings.up (var, index, r, refl)))
  single-grown e _ ts p rest (spells.down {var = var} {index = index} {u = u} h b) k sum =
      with_place e k ts p rest (u ∷ rest) var index h (λ t ts vs a ps r. (down_tree (span_of t) vs, grammar.down_single t u a ps b, readings.down (var, index, r, refl)))
  single-grown e _ ts p rest (spells.add {var = var} {n = n} {b = c} {index = index} {u = u} {v = v} h b y) k sum =
      let w = number-grown e v n c y rest in
      with_place e k ts p rest (u ∷ v ∷ rest) var index h (λ t ts vs a ps r. (array_add_tree (span_of t) vs w.0, grammar.array_add_single t u a ps b w.1, readings.add w.2 (var, index, r, refl)))
  single-grown e _ ts p rest (spells.sub {var = var} {n = n} {b = c} {index = index} {u = u} {v = v} h b y) k sum =
      let w = number-grown e v n c y rest in
      with_place e k ts p rest (u ∷ v ∷ rest) var index h (λ t ts vs a ps r. (array_sub_tree (span_of t) vs w.0, grammar.array_sub_single t u a ps b w.1, readings.sub w.2 (var, index, r, refl)))

-- ---- declarations
length-grown : (text : List ℕ) (ts : List Token) (n : Option ℕ) (rest : List Token) → spells.IsLength text ts n rest → (t u : Token) → spells.IsKey Key.Field t → u.kind ≡ Kind.Word → (l : Option Span) × grammar.IsDecl 128 0 (t ∷ u ∷ ts) (field_tree t.from (span_of u) l) rest × readings.IsLength text l n
length-grown text _ _ rest (spells.plain {t = v} c) t u a b = (None, grammar.field_decl t u v a b c, readings.plain)
length-grown text _ _ rest (spells.split {t = v} {l = w} {u = x} c f h i j g) t u a b = (Some (span_of w), grammar.split_field_decl t u v w x a b c f g, readings.split h i j)

decl-grown : (e : Scope) (ts : List Token) (f : Scope) (names : List (List ℕ × Sense)) (rest : List Token) → spells.Declares e ts f names rest → (t : DeclTree) × grammar.IsDecl 128 0 ts t rest × readings.Declares e t f names
decl-grown e _ _ _ rest (spells.field {n = n} {t = t} {u = u} {ts = ts} a b h) = let r = length-grown e.text ts n rest h t u a b in (field_tree t.from (span_of u) r.0, r.1, readings.field r.2)
decl-grown e _ _ _ rest (spells.array {t = t} {u = u} {v = v} a b c) = (array_tree t.from (span_of u), grammar.array_decl t u v a b c, readings.array)
decl-grown e _ _ _ rest (spells.const {n = n} {b = is} {t = t} {u = u} {v = v} {l = l} {w = w} a b c h g) =
    let r = literal-grown e.text l n is h (w ∷ rest) in
    (const_tree t.from (span_of u) r.0, grammar.const_decl t u v w a b c r.1 g, subst (λ x. readings.Declares e (const_tree t.from (span_of u) r.0) e ((word e.text (span_of u), Constant n x) ∷ [])) r.3 (readings.const r.2))
decl-grown e _ _ _ rest (spells.body_of_let {t = t} {u = u} {v = v} {w = w} {ts = ts} {p = p} a b c h g) =
    let r = policy-grown e 127 ts p (w ∷ rest) h 1 refl in
    (let_tree t.from (span_of u) r.0, grammar.let_decl t u v w a b c (λ l. omega arith) r.1 g, readings.body_of_let r.2)

program_rest-grown : (e : Scope) (ts : List Token) (f : Scope) (p : CorePolicy) → spells.IsProgram e ts f p → (ds : List DeclTree)
    → (us : List DeclTree) × (q : PolicyTree) × grammar.IsProgramRest 128 0 ds ts (record { decls = ds ++ us; policy = q }) × readings.DeclaresAll e us f × readings.IsPolicy f q p
program_rest-grown e ts _ p (spells.policy h) ds =
    let r = policy-grown e 128 ts p [] h 0 refl in
    ([], r.0, subst (λ xs. grammar.IsProgramRest 128 0 ds ts (record { decls = xs; policy = r.0 })) (sym (append-nil ds)) (grammar.last_policy r.1), readings.no_more, r.2)
program_rest-grown e ts f p (spells.declaration {d = d} {rest = rest} {names = names} one new more) ds =
    let t = decl-grown e ts d names rest one in
    let r = program_rest-grown (record d { names = e.names ++ names }) rest f p more (ds ++ t.0 ∷ []) in
    (t.0 ∷ r.0, r.1, grammar.next_decl t.1 (subst (λ xs. grammar.IsProgramRest 128 0 (ds ++ t.0 ∷ []) rest (record { decls = xs; policy = r.1 })) (append_assoc ds (t.0 ∷ []) r.0) r.2), readings.one_more t.2 new r.3, r.4)

pub program-grown : (e : Scope) (ts : List Token) (f : Scope) (p : CorePolicy) → spells.IsProgram e ts f p → (s : SourceTree) × grammar.DerivesWithin 128 ts s × readings.DeclaresAll e s.decls f × readings.IsPolicy f s.policy p
program-grown e ts f p h = let r = program_rest-grown e ts f p h [] in (record { decls = r.0; policy = r.1 }, r.2, r.3, r.4)

-- The tree of a text has names for names, operands in each repeated part, and no empty list of places.
use Rattle.std.proofs.Common.{ℕ, suc, ◌≤◌, List, [], ◌∷◌, length, arith, length-append}
use Rattle.std.specs.List.{AllByRecursion}
use Rattle.snap_names.specs.Spells.{Token}
use Rattle.snap_names.specs.Senses.{Literal, Value}
use Rattle.snap_parse.specs.Tree.{PolicyTree, SequenceTree, ChoiceTree, EitherTree, BothTree, SingleTree, DeclTree, SourceTree}
use Rattle.snap_parse.specs.Grammar.{IsLiteral, number_literal, IsValue, literal_value, prefix_value, name_value, IsPlacesRest, places_end, places_more, IsPlaces, places, IsPolicy, policy, IsPolicyRest, policy_end, policy_plus, IsSequence, sequence, IsSequenceRest, sequence_end, sequence_semicolon, IsChoice, if_choice, plain_choice, IsEither, either, IsEitherRest, either_end, either_or, IsBoth, both, IsBothRest, both_end, both_and, IsSingle, not_single, id_single, drop_single, group_single, atomic_single, name_single, test_single, set_single, bare_single, array_test_single, array_set_single, up_single, down_single, array_add_single, array_sub_single, IsDecl, field_decl, split_field_decl, array_decl, const_decl, let_decl, IsProgramRest, last_policy, next_decl}
use Rattle.snap_names.specs.Texts.{HasTree}
use Rattle.snap_core.proofs.Entries.{both as AllByRecursion-append}
use Rattle.snap_names.proofs.Placed.{HasSequence, HasChoice, HasBoth, HasSingle, PolicyPlaced, SequencePlaced, ChoicePlaced, EitherPlaced, BothPlaced, SinglePlaced, DeclWritten, SourceWritten}
use Rattle.snap_names.proofs.SpelledNames.{IsNamed, SpellsTokens-named}

-- What holds of each token holds of those behind a part.
literal-rest : (P : Token → Type 0) (ts : List Token) (l : Literal) (rest : List Token) → IsLiteral ts l rest → AllByRecursion P ts → AllByRecursion P rest
literal-rest P _ _ _ (number_literal t k) h = h.1
literal-rest P _ _ _ _ h = h.1

value-rest : (P : Token → Type 0) (ts : List Token) (y : Value) (rest : List Token) → IsValue ts y rest → AllByRecursion P ts → AllByRecursion P rest
value-rest P _ _ _ (literal_value l) h = literal-rest P _ _ _ l h
value-rest P _ _ _ (prefix_value t t1 t2 a b c) h = h.1.1.1
value-rest P _ _ _ (name_value t k) h = h.1

places_rest-some : (P : Token → Type 0) (vs : List Value) (ts : List Token) (ws : List Value) (rest : List Token) → IsPlacesRest vs ts ws rest → AllByRecursion P ts → 1 ≤ length vs → AllByRecursion P rest × (1 ≤ length ws)
places_rest-some P _ _ _ _ places_end h l = (h, l)
places_rest-some P vs _ _ _ (places_more {v = y} t t1 a value b more) h l = places_rest-some P _ _ _ _ more (value-rest P _ _ _ value h.1).1 (omega (arith, l, length-append vs (y ∷ [])))

places-some : (P : Token → Type 0) (ts : List Token) (ws : List Value) (rest : List Token) → IsPlaces ts ws rest → AllByRecursion P ts → AllByRecursion P rest × (1 ≤ length ws)
places-some P _ _ _ (places t t1 a value b more) h = places_rest-some P _ _ _ _ more (value-rest P _ _ _ value h.1).1 (omega arith)

mutual
  policy-placed : (P : Token → Type 0) (l f d : ℕ) (ts : List Token) (p : PolicyTree) (rest : List Token) → IsPolicy l f d ts p rest → AllByRecursion P ts → AllByRecursion P rest × (PolicyPlaced p × HasSequence p)
  policy-placed P l f d _ _ _ (policy s more) h =
      let a = sequence-placed P l f d _ _ _ s h in
      policy_rest-placed P l f d _ _ _ _ more a.0 ((tt, a.1), tt)

  policy_rest-placed : (P : Token → Type 0) (l f d : ℕ) (p : PolicyTree) (ts : List Token) (q : PolicyTree) (rest : List Token) → IsPolicyRest l f d p ts q rest → AllByRecursion P ts → PolicyPlaced p × HasSequence p → AllByRecursion P rest × (PolicyPlaced q × HasSequence q)
  policy_rest-placed P l f d _ _ _ _ policy_end h k = (h, k)
  policy_rest-placed P l f d _ _ _ _ (policy_plus t e s more) h k =
      let a = sequence-placed P l f d _ _ _ s h.1 in
      policy_rest-placed P l f d _ _ _ _ more a.0 ((k.0, a.1), tt)

  sequence-placed : (P : Token → Type 0) (l f d : ℕ) (ts : List Token) (s : SequenceTree) (rest : List Token) → IsSequence l f d ts s rest → AllByRecursion P ts → AllByRecursion P rest × (SequencePlaced s × HasChoice s)
  sequence-placed P l f d _ _ _ (sequence c more) h =
      let a = choice-placed P l f d _ _ _ c h in
      sequence_rest-placed P l f d _ _ _ _ more a.0 ((tt, a.1), tt)

  sequence_rest-placed : (P : Token → Type 0) (l f d : ℕ) (s : SequenceTree) (ts : List Token) (q : SequenceTree) (rest : List Token) → IsSequenceRest l f d s ts q rest → AllByRecursion P ts → SequencePlaced s × HasChoice s → AllByRecursion P rest × (SequencePlaced q × HasChoice q)
  sequence_rest-placed P l f d _ _ _ _ sequence_end h k = (h, k)
  sequence_rest-placed P l f d _ _ _ _ (sequence_semicolon t e c more) h k =
      let a = choice-placed P l f d _ _ _ c h.1 in
      sequence_rest-placed P l f d _ _ _ _ more a.0 ((k.0, a.1), tt)

  choice-placed : (P : Token → Type 0) (l f d : ℕ) (ts : List Token) (c : ChoiceTree) (rest : List Token) → IsChoice l f d ts c rest → AllByRecursion P ts → AllByRecursion P rest × ChoicePlaced c
  choice-placed P l f d _ _ _ (plain_choice e) h = either-placed P l f d _ _ _ e h
  choice-placed P l f d _ _ _ (if_choice t t1 t2 k deep e k1 p k2 c) h =
      let a = either-placed P l f (suc d) _ _ _ e h.1 in
      let b = policy-placed P l f (suc d) _ _ _ p a.0.1 in
      let g = choice-placed P l f (suc d) _ _ _ c b.0.1 in
      (g.0, (a.1, b.1, g.1))

  either-placed : (P : Token → Type 0) (l f d : ℕ) (ts : List Token) (e : EitherTree) (rest : List Token) → IsEither l f d ts e rest → AllByRecursion P ts → AllByRecursion P rest × (EitherPlaced e × HasBoth e)
  either-placed P l f d _ _ _ (either b more) h =
      let a = both-placed P l f d _ _ _ b h in
      either_rest-placed P l f d _ _ _ _ more a.0 ((tt, a.1), tt)

  either_rest-placed : (P : Token → Type 0) (l f d : ℕ) (e : EitherTree) (ts : List Token) (q : EitherTree) (rest : List Token) → IsEitherRest l f d e ts q rest → AllByRecursion P ts → EitherPlaced e × HasBoth e → AllByRecursion P rest × (EitherPlaced q × HasBoth q)
  either_rest-placed P l f d _ _ _ _ either_end h k = (h, k)
  either_rest-placed P l f d _ _ _ _ (either_or t e b more) h k =
      let a = both-placed P l f d _ _ _ b h.1 in
      either_rest-placed P l f d _ _ _ _ more a.0 ((k.0, a.1), tt)

  both-placed : (P : Token → Type 0) (l f d : ℕ) (ts : List Token) (b : BothTree) (rest : List Token) → IsBoth l f d ts b rest → AllByRecursion P ts → AllByRecursion P rest × (BothPlaced b × HasSingle b)
  both-placed P l f d _ _ _ (both s more) h =
      let a = single-placed P l f d _ _ _ s h in
      both_rest-placed P l f d _ _ _ _ more a.0 ((tt, a.1), tt)

  both_rest-placed : (P : Token → Type 0) (l f d : ℕ) (b : BothTree) (ts : List Token) (q : BothTree) (rest : List Token) → IsBothRest l f d b ts q rest → AllByRecursion P ts → BothPlaced b × HasSingle b → AllByRecursion P rest × (BothPlaced q × HasSingle q)
  both_rest-placed P l f d _ _ _ _ both_end h k = (h, k)
  both_rest-placed P l f d _ _ _ _ (both_and t e s more) h k =
      let a = single-placed P l f d _ _ _ s h.1 in
      both_rest-placed P l f d _ _ _ _ more a.0 ((k.0, a.1), tt)

  single-placed : (P : Token → Type 0) (l f d : ℕ) (ts : List Token) (s : SingleTree) (rest : List Token) → IsSingle l f d ts s rest → AllByRecursion P ts → AllByRecursion P rest × SinglePlaced s
  single-placed P l f d _ _ _ (not_single t k deep s) h = single-placed P l f (suc d) _ _ _ s h.1
  single-placed P l f d _ _ _ (id_single t k) h = (h.1, tt)
  single-placed P l f d _ _ _ (drop_single t k) h = (h.1, tt)
  single-placed P l f d _ _ _ (group_single t t1 k deep p k1) h =
      let a = policy-placed P l f (suc d) _ _ _ p h.1 in
      (a.0.1, a.1)
  single-placed P l f d _ _ _ (atomic_single t t1 t2 k k1 deep p k2) h =
      let a = policy-placed P l f (suc d) _ _ _ p h.1.1 in
      (a.0.1, a.1)
  single-placed P l f d _ _ _ (name_single t k) h = (h.1, tt)
  single-placed P l f d _ _ _ (test_single t t1 k k1 y) h = (value-rest P _ _ _ y h.1.1, tt)
  single-placed P l f d _ _ _ (set_single t t1 k k1 y) h = (value-rest P _ _ _ y h.1.1, tt)
  single-placed P l f d _ _ _ (bare_single t k ys) h = places-some P _ _ _ ys h.1
  single-placed P l f d _ _ _ (array_test_single t t1 k ys k1 y) h =
      let a = places-some P _ _ _ ys h.1 in
      (value-rest P _ _ _ y a.0.1, a.1)
  single-placed P l f d _ _ _ (array_set_single t t1 k ys k1 y) h =
      let a = places-some P _ _ _ ys h.1 in
      (value-rest P _ _ _ y a.0.1, a.1)
  single-placed P l f d _ _ _ (up_single t t1 k ys k1) h =
      let a = places-some P _ _ _ ys h.1 in
      (a.0.1, a.1)
  single-placed P l f d _ _ _ (down_single t t1 k ys k1) h =
      let a = places-some P _ _ _ ys h.1 in
      (a.0.1, a.1)
  single-placed P l f d _ _ _ (array_add_single t t1 k ys k1 y) h =
      let a = places-some P _ _ _ ys h.1 in
      (value-rest P _ _ _ y a.0.1, a.1)
  single-placed P l f d _ _ _ (array_sub_single t t1 k ys k1 y) h =
      let a = places-some P _ _ _ ys h.1 in
      (value-rest P _ _ _ y a.0.1, a.1)

decl-written : (text : List ℕ) (l f : ℕ) (ts : List Token) (d : DeclTree) (rest : List Token) → IsDecl l f ts d rest → AllByRecursion (IsNamed text) ts → AllByRecursion (IsNamed text) rest × DeclWritten text d
decl-written text l f _ _ _ (field_decl t t1 t2 k k1 k2) h = (h.1.1.1, h.1.0 k1)
decl-written text l f _ _ _ (split_field_decl t t1 t2 t3 t4 k k1 k2 k3 k4) h = (h.1.1.1.1.1, h.1.0 k1)
decl-written text l f _ _ _ (array_decl t t1 t2 k k1 k2) h = (h.1.1.1, h.1.0 k1)
decl-written text l f _ _ _ (const_decl t t1 t2 t3 k k1 k2 y k3) h = ((literal-rest (IsNamed text) _ _ _ y h.1.1.1).1, tt)
decl-written text l f _ _ _ (let_decl t t1 t2 t3 k k1 k2 deep p k3) h =
    let a = policy-placed (IsNamed text) l f 1 _ _ _ p h.1.1.1 in
    (a.0.1, a.1)

program-written : (text : List ℕ) (l f : ℕ) (ds : List DeclTree) (ts : List Token) (s : SourceTree) → IsProgramRest l f ds ts s → AllByRecursion (IsNamed text) ts → AllByRecursion (DeclWritten text) ds → SourceWritten text s
program-written text l f ds ts _ (last_policy p) h k = (k, (policy-placed (IsNamed text) l f 0 _ _ _ p h).1)
program-written text l f ds ts _ (next_decl {d = decl} d more) h k =
    let a = decl-written text l f _ _ _ d h in
    program-written text l f _ _ _ more a.0 (AllByRecursion-append (DeclWritten text) ds (decl ∷ []) k (a.1, tt))

-- The tree of a text is written as trees of texts are.
pub SourceWritten-text : (text : List ℕ) (s : SourceTree) → HasTree text s → SourceWritten text s
SourceWritten-text text s h = program-written text h.2.0 0 [] h.0 s h.2.1 (SpellsTokens-named text h.0 h.1) tt

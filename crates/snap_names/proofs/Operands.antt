-- Parts of trees with operands that stand one behind another.
use Rattle.std.proofs.Common.{◌≡◌, ◌≢◌, ℕ, List, [], ◌∷◌, length, get_or, map, refl, ap, sym, ◌∙◌, subst, arith}
use Rattle.snap_parse.specs.declared.tree.Sequence.{Sequence}
use Rattle.snap_parse.specs.declared.tree.Choice.{Choice}
use Rattle.snap_parse.specs.declared.tree.Both.{Both}
use Rattle.snap_parse.specs.declared.tree.Single.{Single}
use Rattle.snap_parse.specs.Tree.{PolicyTree, policy_begin, policy_more, policy_append, SequenceTree, sequence_begin, sequence_more, sequence_append, ChoiceTree, EitherTree, either_begin, either_more, either_append, BothTree, both_begin, both_more, both_append, SingleTree, sequence_tree, choice_tree, both_tree, single_tree}

-- the tree of an operand; a part without operands, with one more, and with more; and what these come to
pub record Repeats (P X T : Type 0) : Type 0 where
  pub tree : P → X
  pub none : T
  pub behind : T → X → T
  pub append : T → List X → T
  pub append_none : (t : T) → append t [] ≡ t
  pub append_one : (t : T) (x : X) (xs : List X) → append t (x ∷ xs) ≡ append (behind t x) xs

abbrev pub policies : ℕ → Repeats Sequence SequenceTree PolicyTree
policies at = record { tree = sequence_tree; none = policy_begin at; behind = policy_more; append = policy_append; append_none = λ t. refl; append_one = λ t x xs. refl }

abbrev pub sequences : ℕ → Repeats Choice ChoiceTree SequenceTree
sequences at = record { tree = choice_tree; none = sequence_begin at; behind = sequence_more; append = sequence_append; append_none = λ t. refl; append_one = λ t x xs. refl }

abbrev pub eithers : ℕ → Repeats Both BothTree EitherTree
eithers at = record { tree = both_tree; none = either_begin at; behind = either_more; append = either_append; append_none = λ t. refl; append_one = λ t x xs. refl }

abbrev pub boths : ℕ → Repeats Single SingleTree BothTree
boths at = record { tree = single_tree; none = both_begin at; behind = both_more; append = both_append; append_none = λ t. refl; append_one = λ t x xs. refl }

module _ {P X T : Type 0} (r : Repeats P X T) where
  -- the tree of these operands
  abbrev pub of : List P → T
  of xs = r.append r.none (map r.tree xs)

  -- what holds of one operand alone, and of none
  pub alone : {A : Type 0} (f : T → A) (one : X → A) → ((x : X) → f (r.behind r.none x) ≡ one x) → (xs : List P) (x : P) → length xs ≡ 1 → x ≡ get_or xs 0 x → f (of xs) ≡ one (r.tree x)
  alone f one is (y ∷ []) x h same = ap f (r.append_one r.none (r.tree y) [] ∙ r.append_none _) ∙ is (r.tree y) ∙ ap (λ z. one (r.tree z)) (sym same)
  alone f one is _ x h same = absurd (omega arith)

  pub empty : {A : Type 0} (f : T → A) (xs : List P) → length xs ≡ 0 → f (of xs) ≡ f r.none
  empty f [] h = ap f (r.append_none r.none)
  empty f (x ∷ xs) h = absurd (omega arith)

  -- what holds of two operands and stays as one more comes
  module _ (Q : T → Type 0) (next : (t : T) (x y z : X) → Q (r.behind (r.behind t x) y) → Q (r.behind (r.behind (r.behind t x) y) z)) where
    many : (t : T) (x y : X) (xs : List X) → Q (r.behind (r.behind t x) y) → Q (r.append (r.behind (r.behind t x) y) xs)
    many t x y [] h = subst Q (sym (r.append_none _)) h
    many t x y (z ∷ xs) h = subst Q (sym (r.append_one _ z xs)) (many (r.behind t x) y z xs (next t x y z h))

    pub several : ((x y : X) → Q (r.behind (r.behind r.none x) y)) → (xs : List P) → (length xs ≡ 0 → Q r.none) → length xs ≢ 1 → Q (of xs)
    several two [] none k = subst Q (sym (r.append_none r.none)) (none refl)
    several two (x ∷ []) none k = absurd (k refl)
    several two (x ∷ y ∷ xs) none k = subst Q (sym (r.append_one r.none (r.tree x) _ ∙ r.append_one _ (r.tree y) (map r.tree xs))) (many r.none (r.tree x) (r.tree y) (map r.tree xs) (two (r.tree x) (r.tree y)))

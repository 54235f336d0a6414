-- Facts as words, and words as facts.
use Rattle.std.proofs.Common.{◌≡◌, ℕ, zero, suc, ◌+◌, ◌-◌, ◌<◌, ◌≤◌, List, [], ◌∷◌, ◌++◌, length, get_or, Option, Some, None, inl, inr, refl, sym, ap, subst, ◌∙◌, arith, append_assoc, append-nil}
use Rattle.std.specs.Prelude.{All}
use Rattle.std.specs.Global.{Vec}
use Rattle.std.specs.List.{Contains}
use Rattle.std.specs.List.Sorted.{IsPermutation}
use Rattle.std.proofs.lemmas.Bool.{cases_eq}
use Rattle.std.proofs.lemmas.List.{get_or_default}
use Rattle.std.proofs.lemmas.List.Elements.{Contains-append_left, Contains-append_right, Contains-append_cases, Contains-get_or}
use Rattle.std.proofs.lemmas.List.Sorted.{Contains-permutation}
use Rattle.snap_core.specs.declared.policy.Term.{Term}
use Rattle.snap_context.specs.declared.fact.Fact.{Fact}
use Rattle.snap_context.specs.Known.{Normal, Differ, Held, all_known, known, normal_key, normals_key, some_key, with_some, AreSame, HasWords, IsWord}
use Rattle.snap_context.proofs.Keys.{same_word}
use Rattle.snap_core.proofs.Members.{Contains-here}

with_some-append : (o : Option Normal) (ns os : List Normal) → with_some o (ns ++ os) ≡ with_some o ns ++ os
with_some-append None ns os = refl
with_some-append (Some n) ns os = refl

pub all_known-push : (cl : List Term) (roots settled : ℕ) (fs : List Fact) (f : Fact) → all_known cl roots settled (fs ++ f ∷ []) ≡ all_known cl roots settled fs ++ with_some (known cl roots settled f.test f.yes) []
all_known-push cl roots settled [] f = refl
all_known-push cl roots settled (g ∷ fs) f = ap (with_some (known cl roots settled g.test g.yes)) (all_known-push cl roots settled fs f)
    ∙ with_some-append (known cl roots settled g.test g.yes) (all_known cl roots settled fs) (with_some (known cl roots settled f.test f.yes) [])

normals_key-push : (ns : List Normal) (n : Normal) → normals_key (ns ++ n ∷ []) ≡ normals_key ns ++ normal_key n
normals_key-push [] n = append-nil (normal_key n)
normals_key-push (m ∷ ns) n = ap (λ (xs : List ℕ). normal_key m ++ xs) (normals_key-push ns n) ∙ sym (append_assoc (normal_key m) (normals_key ns) (normal_key n))

only_one : (n m : Normal) → Contains (n ∷ []) m → n ≡ m
only_one n m (zero, l, e) = e
only_one n m (suc k, l, e) = absurd (omega (arith, l))

-- ---- words of facts
pub no_words : HasWords [] []
no_words = record { each = λ n h. absurd (omega (arith, h.1)); only = λ w h. absurd (omega (arith, h.1)) }

-- a fact more, with its word
word_more : (ws : List (Vec ℕ)) (ns : List Normal) (w : Vec ℕ) (n : Normal) → HasWords ws ns → w.items ≡ normal_key n → HasWords (ws ++ w ∷ []) (ns ++ n ∷ [])
word_more ws ns w n h e = record {
  each = λ m c. elim (Contains-append_cases ns (n ∷ []) m c) [
    | inl o ↦ (let k = h.each m o in (k.0, Contains-append_left ws (w ∷ []) k.0 k.1, k.2))
    | inr o ↦ (w, Contains-append_right ws (w ∷ []) w (Contains-here w []), e ∙ ap normal_key (only_one n m o))
  ];
  only = λ u c. elim (Contains-append_cases ws (w ∷ []) u c) [
    | inl o ↦ (let k = h.only u o in (k.0, Contains-append_left ns (n ∷ []) k.0 k.1, k.2))
    | inr o ↦ (n, Contains-append_right ns (n ∷ []) n (Contains-here n []), subst (λ (v : Vec ℕ). v.items ≡ normal_key n) (one_word w u o) e)
  ];
}
  where
    one_word : (w u : Vec ℕ) → Contains (w ∷ []) u → w ≡ u
    one_word w u (zero, l, e) = e
    one_word w u (suc k, l, e) = absurd (omega (arith, l))

pub words_more : (ws : List (Vec ℕ)) (ns : List Normal) (w : Vec ℕ) (o : Option Normal) → HasWords ws ns → w.items ≡ some_key o → ¬ (length w.items ≡ 0) → HasWords (ws ++ w ∷ []) (ns ++ with_some o [])
words_more ws ns w None h e some = absurd (some (ap length e))
words_more ws ns w (Some n) h e some = word_more ws ns w n h e

pub words_same : (ws : List (Vec ℕ)) (ns : List Normal) (w : List ℕ) (o : Option Normal) → HasWords ws ns → w ≡ some_key o → length w ≡ 0 → HasWords ws (ns ++ with_some o [])
words_same ws ns w None h e none = subst (HasWords ws) (sym (append-nil ns)) h
words_same ws ns w (Some (Differ a b)) h e none = absurd (let l = ap length e in omega (arith, l, none))
words_same ws ns w (Some (Held v ix t y)) h e none = absurd (let l = ap length e in omega (arith, l, none))

pub each_is_word : (ws : List (Vec ℕ)) (ns : List Normal) → HasWords ws ns → All IsWord ws
each_is_word ws ns h = λ i d l. (let k = h.only (get_or ws i d) (Contains-get_or ws i d l) in (k.0, k.2))

pub words_sorted : (ws us : List (Vec ℕ)) (ns : List Normal) → IsPermutation ws us → IsPermutation us ws → HasWords ws ns → HasWords us ns
words_sorted ws us ns p q h = record {
  each = λ n c. (let k = h.each n c in (k.0, Contains-permutation ws us k.0 p k.1, k.2));
  only = λ w c. h.only w (Contains-permutation us ws w q c);
}

-- one list of words is of one set of facts
pub same_facts : (ws : List (Vec ℕ)) (ns os : List Normal) → HasWords ws ns → HasWords ws os → AreSame ns os
same_facts ws ns os h i = λ n. (over ns os h i n, over os ns i h n)
  where
    over : (ns os : List Normal) → HasWords ws ns → HasWords ws os → (n : Normal) → Contains ns n → Contains os n
    over ns os h i n c =
        let k = h.each n c in
        let l = i.only k.0 k.1 in
        subst (Contains os) (sym (same_word n l.0 (sym k.2 ∙ l.2))) l.1

-- ---- words one after another, but those that are equal to the ones before
pub record IsPushed (ws : List (Vec ℕ)) (i : ℕ) (old key : List ℕ) : Type 0 where
  pub told : List Normal
  pub is : key ≡ old ++ normals_key told
  pub each : (n : Normal) → Contains told n → (w : Vec ℕ) × Contains ws w × (w.items ≡ normal_key n)
  pub only : (k : ℕ) (d : Vec ℕ) → k < i → (n : Normal) × Contains told n × ((get_or ws k d).items ≡ normal_key n)

pub pushed_none : (ws : List (Vec ℕ)) (old : List ℕ) → IsPushed ws 0 old old
pushed_none ws old = record { told = []; is = sym (append-nil old); each = λ n h. absurd (omega (arith, h.1)); only = λ k d l. absurd (omega (arith, l)) }

earlier_or_last : (P : ℕ → Type 0) (i k : ℕ) → k < i + 1 → (k < i → P k) → P i → P k
earlier_or_last P i k l before last = elim (cases_eq k i) [ inl e ↦ subst P (sym e) last | inr o ↦ before (omega (arith, l, o)) ]

pub pushed_more : (ws : List (Vec ℕ)) (i : ℕ) (old key new : List ℕ) (e : Vec ℕ) → i < length ws → IsWord (get_or ws i e) → new ≡ key ++ (get_or ws i e).items → IsPushed ws i old key → IsPushed ws (i + 1) old new
pushed_more ws i old key new e l word is h = record {
  told = h.told ++ word.0 ∷ [];
  is = is ∙ ((λ j. h.is j ++ word.1 j) ∙ (append_assoc old (normals_key h.told) (normal_key word.0) ∙ ap (λ (xs : List ℕ). old ++ xs) (sym (normals_key-push h.told word.0))));
  each = λ n c. elim (Contains-append_cases h.told (word.0 ∷ []) n c) [
    | inl o ↦ h.each n o
    | inr o ↦ (get_or ws i e, Contains-get_or ws i e l, word.1 ∙ ap normal_key (only_one word.0 n o))
  ];
  only = λ k d m. earlier_or_last (λ (k : ℕ). (n : Normal) × Contains (h.told ++ word.0 ∷ []) n × ((get_or ws k d).items ≡ normal_key n)) i k m
      (λ b. let o = h.only k d b in (o.0, Contains-append_left h.told (word.0 ∷ []) o.0 o.1, o.2))
      (word.0, Contains-append_right h.told (word.0 ∷ []) word.0 (Contains-here word.0 []), ap (λ (w : Vec ℕ). w.items) (get_or_default ws i d e l) ∙ word.1);
}

pub pushed_skip : (ws : List (Vec ℕ)) (i : ℕ) (old key : List ℕ) (e f : Vec ℕ) → i < length ws → 1 ≤ i → (get_or ws i e).items ≡ (get_or ws (i - 1) f).items → IsPushed ws i old key → IsPushed ws (i + 1) old key
pushed_skip ws i old key e f l some same h = record {
  told = h.told;
  is = h.is;
  each = h.each;
  only = λ k d m. earlier_or_last (λ (k : ℕ). (n : Normal) × Contains h.told n × ((get_or ws k d).items ≡ normal_key n)) i k m (h.only k d)
      (let o = h.only (i - 1) f (omega (arith, some)) in (o.0, o.1, ap (λ (w : Vec ℕ). w.items) (get_or_default ws i d e l) ∙ (same ∙ o.2)));
}

pub pushed_all : (ws : List (Vec ℕ)) (i : ℕ) (old key : List ℕ) → length ws ≤ i → IsPushed ws i old key → (ns : List Normal) × HasWords ws ns × (key ≡ old ++ normals_key ns)
pushed_all ws i old key l h = (h.told, record { each = h.each; only = λ w c. (let o = h.only c.0 w (omega (arith, c.1, l)) in (o.0, o.1, ap (λ (v : Vec ℕ). v.items) (sym c.2) ∙ o.2)) }, h.is)

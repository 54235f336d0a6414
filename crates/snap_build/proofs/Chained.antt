-- Chains of predicates.
use Rattle.std.proofs.Common.{◌≡◌, ℕ, ◌<◌, Bool, true, false, List, [], ◌∷◌, ◌++◌, inl, inr, length, length-append, refl, sym, ap, subst, ◌∙◌, arith, bit_or}
use Rattle.std.specs.Prelude.{All, not}
use Rattle.std.specs.Int.Bits.{or_zero_l, or_zero_r}
use Rattle.std.proofs.lemmas.List.Elements.{All-cons, All-head, All-nil, All-push, All-tail, All-weaker}
use Rattle.snap_core.specs.declared.policy.Pred.{Pred}
use Rattle.snap_core.specs.Arrays.{Arrays}
use Rattle.snap_core.specs.Meaning.{truth, vars_of}
use Rattle.snap_core.proofs.Together.{or_assoc}
use Rattle.snap_dep.specs.Ranks.{Grouping}
use Rattle.snap_context.specs.View.{View}
use Rattle.snap_diagrams.specs.declared.node.Node.{Node}
use Rattle.snap_diagrams.specs.Arena.{ExtendsArena}
use Rattle.snap_diagrams.specs.declared.leaf.Leaf.{Leaf}
use Rattle.snap_diagrams.specs.Contexts.{Under}
use Rattle.snap_diagrams.specs.Diagrams.{Only, diagram, walk}
use Rattle.snap_diagrams.specs.Leaves.{answer_of}
use Rattle.snap_diagrams.proofs.Shared.{kept, argument_kept}
use Rattle.snap_compose.specs.Predicates.{IsPredicateLeaf, passed, reads_of, holds, reads, test_answer, reads_of_both}
use Rattle.snap_compose.proofs.Tested.{answer_is}
use Rattle.snap_build.specs.declared.chains.Link.{Link}
use Rattle.snap_build.specs.Chains.{joined, holding, reading, AreLinks, IsLink, IsLinkOf, IsSplit, IsTrueLink}
use Rattle.snap_build.specs.Parts.{IsTestOf, IsTold, test_leaf}
use Rattle.snap_build.proofs.Doing.{told_is, told_kept}

-- ---- what a diagram tells
pub told_same : (v : View) (P Q : Arrays → List ℕ → Bool) (R S : Arrays → List ℕ → ℕ) (ns : List (Node Leaf)) (d : ℕ)
    → Under v (λ m k. (P m k ≡ Q m k) × (R m k ≡ S m k)) → IsTold v P R ns d → IsTold v Q S ns d
told_same v P Q R S ns d h t = record {
  predicate = t.predicate;
  answer = λ m k met. let e = h m k met in t.answer m k met ∙ (λ i. test_answer (e.0 i) (e.1 i) k);
}

holds_kept : (old new : List (Node Leaf)) (d : ℕ) → ExtendsArena old new → d < length old → (m : Arrays) (k : List ℕ) → holds new d m k ≡ holds old d m k
holds_kept old new d more h m k = ap (λ y. passed (walk y m k)) (kept old new d more h)

reads_kept : (old new : List (Node Leaf)) (d : ℕ) → ExtendsArena old new → d < length old → (m : Arrays) (k : List ℕ) → reads new d m k ≡ reads old d m k
reads_kept old new d more h m k = ap (λ y. reads_of (walk y m k)) (kept old new d more h)

-- ---- links
pub link_same : (g : Grouping) (v : View) (P Q : Arrays → List ℕ → Bool) (R S : Arrays → List ℕ → ℕ) (ns : List (Node Leaf)) (l : Link)
    → Under v (λ m k. (P m k ≡ Q m k) × (R m k ≡ S m k)) → IsLinkOf g v P R ns l → IsLinkOf g v Q S ns l
link_same g v P Q R S ns l e h = record { diagram = h.diagram; last = h.last; told = told_same v P Q R S ns l.diagram e h.told }

-- each is the link of the predicate that its diagram is
pub own_link : (g : Grouping) (v : View) (P : Arrays → List ℕ → Bool) (R : Arrays → List ℕ → ℕ) (ns : List (Node Leaf)) (l : Link) → IsLinkOf g v P R ns l → IsLink g v ns l
own_link g v P R ns l h = link_same g v P (holds ns l.diagram) R (reads ns l.diagram) ns l (λ m k met. let e = told_is v P R ns l.diagram h.told m k met in (sym e.0, sym e.1)) h

pub link_kept : (g : Grouping) (v : View) (P : Arrays → List ℕ → Bool) (R : Arrays → List ℕ → ℕ) (old new : List (Node Leaf)) (l : Link) → ExtendsArena old new → IsLinkOf g v P R old l → IsLinkOf g v P R new l
link_kept g v P R old new l more h = record {
  diagram = argument_kept g v old new l.diagram more h.diagram;
  last = argument_kept g v old new l.last more h.last;
  told = told_kept v P R old new l.diagram more h.diagram.below h.told;
}

pub own_kept : (g : Grouping) (v : View) (old new : List (Node Leaf)) (l : Link) → ExtendsArena old new → IsLink g v old l → IsLink g v new l
own_kept g v old new l more h = own_link g v (holds old l.diagram) (reads old l.diagram) new l (link_kept g v (holds old l.diagram) (reads old l.diagram) old new l more h)

pub links_kept : (g : Grouping) (v : View) (old new : List (Node Leaf)) (ls : List Link) → ExtendsArena old new → All (IsLink g v old) ls → All (IsLink g v new) ls
links_kept g v old new ls more h = All-weaker (IsLink g v old) (IsLink g v new) (λ l. own_kept g v old new l more) ls h

-- ---- two of them
joined_assoc : (any a b c : Bool) → joined any a (joined any b c) ≡ joined any (joined any a b) c
joined_assoc true true b c = refl
joined_assoc true false b c = refl
joined_assoc false true b c = refl
joined_assoc false false b c = refl

joined_none : (any b : Bool) → joined any (not any) b ≡ b
joined_none true b = refl
joined_none false b = refl

joined_end : (any b : Bool) → joined any b (not any) ≡ b
joined_end true true = refl
joined_end true false = refl
joined_end false true = refl
joined_end false false = refl

-- what two links say together, by what each says
pub two_links : (any : Bool) (g : Grouping) (v : View) (P Q : Arrays → List ℕ → Bool) (R S : Arrays → List ℕ → ℕ) (old new : List (Node Leaf)) (a b l : Link)
    → IsLinkOf g v P R old a → IsLinkOf g v Q S old b
    → IsLinkOf g v (λ m k. joined any (holds old a.diagram m k) (holds old b.diagram m k)) (reads_of_both old a.diagram b.diagram) new l
    → IsLinkOf g v (λ m k. joined any (P m k) (Q m k)) (λ m k. bit_or (R m k) (S m k)) new l
two_links any g v P Q R S old new a b l ha hb h =
    link_same g v _ (λ m k. joined any (P m k) (Q m k)) _ (λ m k. bit_or (R m k) (S m k)) new l
    (λ m k met.
    let x = told_is v P R old a.diagram ha.told m k met in
    let y = told_is v Q S old b.diagram hb.told m k met in
    ((λ i. joined any (x.0 i) (y.0 i)), (λ i. bit_or (x.1 i) (y.1 i)))) h

-- ---- lists of them
pub holding_kept : (any : Bool) (g : Grouping) (v : View) (old new : List (Node Leaf)) (ls : List Link) → ExtendsArena old new → All (IsLink g v old) ls → (m : Arrays) (k : List ℕ) → holding any new ls m k ≡ holding any old ls m k
holding_kept any g v old new [] more h m k = refl
holding_kept any g v old new (l ∷ ls) more h m k =
    let e = holds_kept old new l.diagram more (All-head (IsLink g v old) l ls h).diagram.below m k in
    let f = holding_kept any g v old new ls more (All-tail (IsLink g v old) l ls h) m k in
    λ i. joined any (e i) (f i)

pub reading_kept : (g : Grouping) (v : View) (old new : List (Node Leaf)) (ls : List Link) → ExtendsArena old new → All (IsLink g v old) ls → (m : Arrays) (k : List ℕ) → reading new ls m k ≡ reading old ls m k
reading_kept g v old new [] more h m k = refl
reading_kept g v old new (l ∷ ls) more h m k =
    let e = reads_kept old new l.diagram more (All-head (IsLink g v old) l ls h).diagram.below m k in
    let f = reading_kept g v old new ls more (All-tail (IsLink g v old) l ls h) m k in
    λ i. bit_or (e i) (f i)

pub holding-append : (any : Bool) (ns : List (Node Leaf)) (xs ys : List Link) (m : Arrays) (k : List ℕ) → holding any ns (xs ++ ys) m k ≡ joined any (holding any ns xs m k) (holding any ns ys m k)
holding-append any ns [] ys m k = sym (joined_none any (holding any ns ys m k))
holding-append any ns (x ∷ xs) ys m k =
    ap (joined any (holds ns x.diagram m k)) (holding-append any ns xs ys m k)
    ∙ joined_assoc any (holds ns x.diagram m k) (holding any ns xs m k) (holding any ns ys m k)

pub reading-append : (ns : List (Node Leaf)) (xs ys : List Link) (m : Arrays) (k : List ℕ) → reading ns (xs ++ ys) m k ≡ bit_or (reading ns xs m k) (reading ns ys m k)
reading-append ns [] ys m k = sym (or_zero_l (reading ns ys m k))
reading-append ns (x ∷ xs) ys m k =
    ap (bit_or (reads ns x.diagram m k)) (reading-append ns xs ys m k)
    ∙ or_assoc (reads ns x.diagram m k) (reading ns xs m k) (reading ns ys m k)

pub holding-one : (any : Bool) (ns : List (Node Leaf)) (l : Link) (m : Arrays) (k : List ℕ) → holding any ns (l ∷ []) m k ≡ holds ns l.diagram m k
holding-one any ns l m k = joined_end any (holds ns l.diagram m k)

pub reading-one : (ns : List (Node Leaf)) (l : Link) (m : Arrays) (k : List ℕ) → reading ns (l ∷ []) m k ≡ reads ns l.diagram m k
reading-one ns l m k = or_zero_r (reads ns l.diagram m k)

-- the links of two stretches, one after the other
pub whole_chain : (any : Bool) (g : Grouping) (v : View) (old new : List (Node Leaf)) (xs ys ls : List Link) (l : Link) → xs ++ ys ≡ ls
    → IsLinkOf g v (λ m k. joined any (holding any old xs m k) (holding any old ys m k)) (λ m k. bit_or (reading old xs m k) (reading old ys m k)) new l
    → IsLinkOf g v (holding any old ls) (reading old ls) new l
whole_chain any g v old new xs ys ls l e h =
    link_same g v _ (holding any old ls) _ (reading old ls) new l
    (λ m k met. (
      sym (holding-append any old xs ys m k) ∙ ap (λ zs. holding any old zs m k) e,
      sym (reading-append old xs ys m k) ∙ ap (λ zs. reading old zs m k) e,
    )) h

pub only_link : (any : Bool) (g : Grouping) (v : View) (ns : List (Node Leaf)) (ls : List Link) (l : Link) → ls ≡ l ∷ [] → IsLink g v ns l → IsLinkOf g v (holding any ns ls) (reading ns ls) ns l
only_link any g v ns ls l e h =
    link_same g v (holds ns l.diagram) (holding any ns ls) (reads ns l.diagram) (reading ns ls) ns l
    (λ m k met. (
      sym (ap (λ zs. holding any ns zs m k) e ∙ holding-one any ns l m k),
      sym (ap (λ zs. reading ns zs m k) e ∙ reading-one ns l m k),
    )) h

-- ---- the links of predicates
pub one_link : (any : Bool) (g : Grouping) (v : View) (x : Pred) (ns : List (Node Leaf)) (l : Link) → IsTrueLink g v x ns l → AreLinks any g v x ns (l ∷ [])
one_link any g v x ns l h = record {
  some = omega arith;
  links = All-cons (IsLink g v ns) l [] (own_link g v (truth x) (λ m k. vars_of x) ns l h) (All-nil (IsLink g v ns));
  holds = λ m k met. holding-one any ns l m k ∙ (told_is v (truth x) (λ m k. vars_of x) ns l.diagram h.told m k met).0;
  reads = λ m k met. reading-one ns l m k ∙ (told_is v (truth x) (λ m k. vars_of x) ns l.diagram h.told m k met).1;
}

pub pushed_links : (any : Bool) (g : Grouping) (v : View) (x y : Pred) (old new : List (Node Leaf)) (ls : List Link) (l : Link) → ExtendsArena old new → AreLinks any g v x old ls → IsTrueLink g v y new l
    → All (IsLink g v new) (ls ++ l ∷ [])
pushed_links any g v x y old new ls l more h k =
    All-push (IsLink g v new) ls l (links_kept g v old new ls more h.links) (own_link g v (truth y) (λ m k. vars_of y) new l k)

pub pushed_tell : (any : Bool) (g : Grouping) (v : View) (x y : Pred) (old new : List (Node Leaf)) (ls : List Link) (l : Link) → ExtendsArena old new → AreLinks any g v x old ls → IsTrueLink g v y new l
    → Under v (λ m k. (holding any new (ls ++ l ∷ []) m k ≡ joined any (truth x m k) (truth y m k)) × (reading new (ls ++ l ∷ []) m k ≡ bit_or (vars_of x) (vars_of y)))
pushed_tell any g v x y old new ls l more h t m k met =
    let e = told_is v (truth y) (λ m k. vars_of y) new l.diagram t.told m k met in
    let p : holding any new ls m k ≡ truth x m k = holding_kept any g v old new ls more h.links m k ∙ h.holds m k met in
    let q : holding any new (l ∷ []) m k ≡ truth y m k = holding-one any new l m k ∙ e.0 in
    let r : reading new ls m k ≡ vars_of x = reading_kept g v old new ls more h.links m k ∙ h.reads m k met in
    let s : reading new (l ∷ []) m k ≡ vars_of y = reading-one new l m k ∙ e.1 in (
      holding-append any new ls (l ∷ []) m k ∙ (λ i. joined any (p i) (q i)),
      reading-append new ls (l ∷ []) m k ∙ (λ i. bit_or (r i) (s i)),
    )

pub pushed_all : (any : Bool) (g : Grouping) (v : View) (x y z : Pred) (old new : List (Node Leaf)) (ls items : List Link) (l : Link) → IsSplit any x y z → ExtendsArena old new → AreLinks any g v y old ls → IsTrueLink g v z new l
    → items ≡ ls ++ l ∷ [] → AreLinks any g v x new items
pushed_all any g v x y z old new ls items l split more h t e =
    let n = length-append ls (l ∷ []) in
    let tell = pushed_tell any g v y z old new ls l more h t in
    rw e (record {
      some = omega (arith, n);
      links = pushed_links any g v y z old new ls l more h t;
      holds = λ m k met. (tell m k met).0 ∙ sym (split.truth m k);
      reads = λ m k met. (tell m k met).1 ∙ sym split.arrays;
    })

-- what all links of two predicates say, and what two links do
pub chain_told : (any : Bool) (g : Grouping) (v : View) (x y : Pred) (old new last : List (Node Leaf)) (ls items : List Link) (l r : Link) → ExtendsArena old new → AreLinks any g v x old ls → IsTrueLink g v y new l → items ≡ ls ++ l ∷ []
    → IsLinkOf g v (holding any new items) (reading new items) last r → IsLinkOf g v (λ m k. joined any (truth x m k) (truth y m k)) (λ m k. bit_or (vars_of x) (vars_of y)) last r
chain_told any g v x y old new last ls items l r more h t e k =
    link_same g v (holding any new items) (λ m k. joined any (truth x m k) (truth y m k)) (reading new items) (λ m k. bit_or (vars_of x) (vars_of y)) last r
    (λ m k met.
    let tell = pushed_tell any g v x y old new ls l more h t m k met in
    (ap (λ is. holding any new is m k) e ∙ tell.0, ap (λ is. reading new is m k) e ∙ tell.1)) k

pub pair_told : (any : Bool) (g : Grouping) (v : View) (x y : Pred) (old new last : List (Node Leaf)) (a b r : Link) → ExtendsArena old new → IsTrueLink g v x old a → IsTrueLink g v y new b
    → IsLinkOf g v (λ m k. joined any (holds new a.diagram m k) (holds new b.diagram m k)) (reads_of_both new a.diagram b.diagram) last r
    → IsLinkOf g v (λ m k. joined any (truth x m k) (truth y m k)) (λ m k. bit_or (vars_of x) (vars_of y)) last r
pair_told any g v x y old new last a b r more ha hb h =
    two_links any g v (truth x) (truth y) (λ m k. vars_of x) (λ m k. vars_of y) new last a b r (link_kept g v (truth x) (λ m k. vars_of x) old new a more ha) hb h

-- a predicate, by what it is made of
pub true_link : (g : Grouping) (v : View) (x : Pred) (P : Arrays → List ℕ → Bool) (R : Arrays → List ℕ → ℕ) (ns : List (Node Leaf)) (l : Link)
    → ((m : Arrays) (k : List ℕ) → truth x m k ≡ P m k) → ((m : Arrays) (k : List ℕ) → vars_of x ≡ R m k) → IsLinkOf g v P R ns l → IsTrueLink g v x ns l
true_link g v x P R ns l p r h = link_same g v P (truth x) R (λ m k. vars_of x) ns l (λ m k met. (sym (p m k), sym (r m k))) h

pub turned_told : (g : Grouping) (v : View) (x y : Pred) (old new : List (Node Leaf)) (a r : Link) → ((m : Arrays) (k : List ℕ) → truth x m k ≡ not (truth y m k)) → vars_of x ≡ vars_of y → IsTrueLink g v y old a
    → IsLinkOf g v (λ m k. not (holds old a.diagram m k)) (reads old a.diagram) new r → IsTrueLink g v x new r
turned_told g v x y old new a r p q ha h =
    link_same g v _ (truth x) _ (λ m k. vars_of x) new r
    (λ m k met.
    let e = told_is v (truth y) (λ m k. vars_of y) old a.diagram ha.told m k met in
    (ap not e.0 ∙ sym (p m k), e.1 ∙ sym q)) h

-- the diagram of a test
test_fits : (b : Bool) (r : ℕ) → IsPredicateLeaf (test_leaf b r)
test_fits true r = (refl, inr refl)
test_fits false r = (refl, inl refl)

test_says : (b : Bool) (r : ℕ) (k : List ℕ) → answer_of (test_leaf b r) k ≡ test_answer b r k
test_says true r k = answer_is (test_leaf true r) k (test_fits true r) refl
test_says false r k = answer_is (test_leaf false r) k (test_fits false r) refl

pub test_told : (v : View) (P : Arrays → List ℕ → Bool) (r : ℕ) (ns : List (Node Leaf)) (d : ℕ) → IsTestOf P r ns d → IsTold v P (λ m k. r) ns d
test_told v P r ns d h = record {
  predicate = λ m k. subst IsPredicateLeaf (sym (h m k)) (test_fits (P m k) r);
  answer = λ m k met. ap (λ l. answer_of l k) (h m k) ∙ test_says (P m k) r k;
}

pub leaf_told : (v : View) (b : Bool) (r : ℕ) (ns : List (Node Leaf)) (d : ℕ) → diagram ns d ≡ Only (test_leaf b r) → IsTold v (λ m k. b) (λ m k. r) ns d
leaf_told v b r ns d e = test_told v (λ m k. b) r ns d (λ m k. ap (λ x. walk x m k) e)

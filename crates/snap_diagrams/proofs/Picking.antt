-- Sides and picks.
use Rattle.std.proofs.Common.{◌≡◌, ◌≢◌, ◌⊎◌, inl, inr, ◌+◌, ◌≤◌, arith, ℕ, Bool, true, false, cond, List, refl, sym, ap, subst, ◌∙◌}
use Rattle.std.specs.Prelude.{if◌then◌else◌, ◌<◌, ◌==◌, length, Result, Ok, Err, IfOk}
use Rattle.std.proofs.lemmas.Bool.{eqb-false}
use Rattle.std.proofs.lemmas.Bool.Decides.{Decides-eqb}
use Rattle.snap_dep.specs.Ranks.{Grouping}
use Rattle.snap_context.specs.View.{View}
use Rattle.snap_diagrams.specs.declared.node.Node.{Node}
use Rattle.snap_diagrams.specs.declared.node.Node.TheVariants as node
use Rattle.snap_diagrams.specs.Arena.{ExtendsArena, IsNoted}
use Rattle.snap_diagrams.proofs.Shared.{new_ask}
use Rattle.std.specs.declared.cmp.Ordering.TheVariants.{Less, Greater}
use Rattle.snap_core.specs.declared.policy.Test.{Test}
use Rattle.snap_core.specs.Arrays.{Arrays}
use Rattle.snap_diagrams.specs.declared.leaf.Leaf.{Leaf}
use Rattle.snap_core.specs.Tests.{passes}
use Rattle.snap_diagrams.specs.Leaves.{answer_of}
use Rattle.snap_diagrams.specs.Diagrams.{Diagram, Only, Asks, walk, diagram}
use Rattle.snap_diagrams.specs.Order.{test_cmp, Above, NotBelow}
use Rattle.snap_diagrams.specs.Bounds.{Sizes, TestIn}
use Rattle.snap_diagrams.specs.Picks.{IsDiagram, Where, Anywhere, IsSide, IsPick, StartsWith, IsLeast, IsLower, sizes, IsWellFormedDiagram}
use Rattle.snap_diagrams.proofs.Comparing.{less_trans, less_if, less_from_greater, not_below_itself, not_below_less, above_trans, above_at}

pub yes_part : (ranks : List ℕ) (s : Sizes) (t : Test) (y n : Diagram) → IsDiagram ranks s (Asks t y n) → IsDiagram ranks s y
yes_part ranks s t y n d = record { ordered = d.ordered.2; bounds = d.bounds.1 }

pub no_part : (ranks : List ℕ) (s : Sizes) (t : Test) (y n : Diagram) → IsDiagram ranks s (Asks t y n) → IsDiagram ranks s n
no_part ranks s t y n d = record { ordered = d.ordered.3; bounds = d.bounds.2 }

-- the other test isn't told
pub side_here : (ranks : List ℕ) (s : Sizes) (t : Test) (b : Bool) (u : Test) (y n : Diagram) → IsDiagram ranks s (Asks u y n) → t ≢ u → IsSide ranks s t b (Asks u y n) (Asks u y n)
side_here ranks s t b u y n d differ = record { walks = λ m k w. refl; keeps = d; above = λ low a. a; over = λ g. less_if ranks t u g differ }

pub side_yes : (ranks : List ℕ) (s : Sizes) (t : Test) (b : Bool) (u : Test) (y n r : Diagram) → IsDiagram ranks s (Asks u y n)
    → ((m : Arrays) (k : List ℕ) → Where t b m k → passes u m k ≡ true) → IsSide ranks s t b y r → IsSide ranks s t b (Asks u y n) r
side_yes ranks s t b u y n r d told i = record {
  walks = λ m k w. i.walks m k w ∙ (rw (told m k w) refl);
  keeps = i.keeps;
  above = λ low a. i.above low (above_trans ranks low u y a d.ordered.0);
  over = λ g. i.above t (above_at ranks t u y g d.ordered.0);
}

pub side_no : (ranks : List ℕ) (s : Sizes) (t : Test) (b : Bool) (u : Test) (y n r : Diagram) → IsDiagram ranks s (Asks u y n)
    → ((m : Arrays) (k : List ℕ) → Where t b m k → passes u m k ≡ false) → IsSide ranks s t b n r → IsSide ranks s t b (Asks u y n) r
side_no ranks s t b u y n r d told i = record {
  walks = λ m k w. i.walks m k w ∙ (rw (told m k w) refl);
  keeps = i.keeps;
  above = λ low a. i.above low (above_trans ranks low u n a d.ordered.1);
  over = λ g. i.above t (above_at ranks t u n g d.ordered.1);
}

-- a side of an argument is one
pub side_argument : (g : Grouping) (v : View) (ns : List (Node Leaf)) (t : Test) (b : Bool) (a r : ℕ) → IsWellFormedDiagram g v ns a → r ≤ a
    → ((ranks : List ℕ) (s : Sizes) → IsDiagram ranks s (diagram ns a) → IsSide ranks s t b (diagram ns a) (diagram ns r)) → IsWellFormedDiagram g v ns r
side_argument g v ns t b a r i le side = record { below = omega (arith, le, i.below); keeps = (side g.ranks (sizes g v) i.keeps).keeps }

same_ways : (b : Bool) (l : Leaf) → l ≡ (if b then l else l)
same_ways true l = refl
same_ways false l = refl

-- a test with two ways above it
pub asked : (ranks : List ℕ) (s : Sizes) (On : Arrays → List ℕ → Type 0) (t : Test) (a b : Diagram) → IsDiagram ranks s a → IsDiagram ranks s b → TestIn s t
    → Above ranks t a → Above ranks t b → IsPick ranks s On t a b (Asks t a b)
asked ranks s On t a b da db it ha hb = record {
  walks = λ m k o. refl;
  keeps = record { ordered = (ha, hb, da.ordered, db.ordered); bounds = (it, da.bounds, db.bounds) };
  above = λ low l la lb. l;
}

pub asked_one : (ranks : List ℕ) (s : Sizes) (On : Arrays → List ℕ → Type 0) (t : Test) (a : Diagram) → IsDiagram ranks s a → IsPick ranks s On t a a a
asked_one ranks s On t a da = record { walks = λ m k o. same_ways (passes t m k) (walk a m k); keeps = da; above = λ low l la lb. la }

-- the test itself is asked first
pub picked_here : (ranks : List ℕ) (s : Sizes) (On : Arrays → List ℕ → Type 0) (t : Test) (a b ay bn r : Diagram)
    → IsSide ranks s t true a ay → IsSide ranks s t false b bn → IsPick ranks s On t ay bn r → IsPick ranks s On t a b r
picked_here ranks s On t a b ay bn r sy sn p = record {
  walks = λ m k o. p.walks m k o ∙
      (let by : (v : Bool) → passes t m k ≡ v → (if v then walk ay m k else walk bn m k) ≡ (if v then walk a m k else walk b m k)
      = λ v. elim v as (λ (v : Bool). passes t m k ≡ v → (if v then walk ay m k else walk bn m k) ≡ (if v then walk a m k else walk b m k)) [ true ↦ λ e. sy.walks m k e | false ↦ λ e. sn.walks m k e ] in
      by (passes t m k) refl);
  keeps = p.keeps;
  above = λ low l la lb. p.above low l (sy.above low la) (sn.above low lb);
}

starts_above : (ranks : List ℕ) (low u : Test) (d : Diagram) → StartsWith u d → Above ranks low d → test_cmp ranks low u ≡ Less
starts_above ranks low u (Only l) e h = absurd e
starts_above ranks low u (Asks t y n) e h = rw e h

pub low_below : (ranks : List ℕ) (low u : Test) (a b : Diagram) → StartsWith u a ⊎ StartsWith u b → Above ranks low a → Above ranks low b → test_cmp ranks low u ≡ Less
low_below ranks low u a b (inl e) ha hb = starts_above ranks low u a e ha
low_below ranks low u a b (inr e) ha hb = starts_above ranks low u b e hb

-- another test is asked first
pub picked_later : (ranks : List ℕ) (s : Sizes) (On : Arrays → List ℕ → Type 0) (t u : Test) (a b ay an b1 bn ry rn r : Diagram)
    → test_cmp ranks u t ≡ Less → StartsWith u a ⊎ StartsWith u b → NotBelow ranks u a → NotBelow ranks u b
    → IsSide ranks s u true a ay → IsSide ranks s u false a an → IsSide ranks s u true b b1 → IsSide ranks s u false b bn
    → IsPick ranks s (Where u true) t ay b1 ry → IsPick ranks s (Where u false) t an bn rn → IsPick ranks s On u ry rn r → IsPick ranks s On t a b r
picked_later ranks s On t u a b ay an b1 bn ry rn r less starts na nb say san sby sbn py pn p = record {
  walks = λ m k o. p.walks m k o ∙
      (let Goal : Bool → Type 0 = λ v. passes u m k ≡ v → (if v then walk ry m k else walk rn m k) ≡ (if passes t m k then walk a m k else walk b m k) in
      let by : (v : Bool) → Goal v
      = λ v. elim v as Goal [ true ↦ λ e. (let w = py.walks m k e in let x = say.walks m k e in let y = sby.walks m k e in rw (sym x, sym y) w) | false ↦ λ e. (let w = pn.walks m k e in let x = san.walks m k e in let y = sbn.walks m k e in rw (sym x, sym y) w) ] in
      by (passes u m k) refl);
  keeps = p.keeps;
  above = λ low l la lb.
      let lu = low_below ranks low u a b starts la lb in
      p.above low lu
      (above_trans ranks low u ry lu (py.above u less (say.over na) (sby.over nb)))
      (above_trans ranks low u rn lu (pn.above u less (san.over na) (sbn.over nb)));
}

pub lower_first : (ranks : List ℕ) (s : Sizes) (t u : Test) (y n d : Diagram) → d ≡ Asks u y n → IsDiagram ranks s d → test_cmp ranks t u ≡ Greater → IsLower ranks s t d u
lower_first ranks s t u y n d e i g = rw e (record {
  not_below = not_below_itself ranks u;
  is_in = (subst (IsDiagram ranks s) e i).bounds.0;
  which = inr (less_from_greater ranks t u g, refl);
})

pub least_of : (ranks : List ℕ) (s : Sizes) (t u v : Test) (a b : Diagram) → IsLower ranks s t a u → IsLower ranks s u b v → IsLeast ranks s t a b v
least_of ranks s t u v a b i j = record {
  first = elim j.which [ inl e ↦ rw e i.not_below | inr l ↦ not_below_less ranks v u a l.0 i.not_below ];
  second = j.not_below;
  is_in = j.is_in;
  which = elim j.which [
    | inl e ↦ elim i.which [ inl f ↦ inl (e ∙ f) | inr l ↦ inr ((rw e l.0), inl (rw e l.1)) ]
    | inr l ↦ inr ((elim i.which [ inl f ↦ rw (sym f) l.0 | inr k ↦ less_trans ranks v u t l.0 k.0 ]), inr l.1)
  ];
}

-- what the arena's answer says of the diagrams
pub ask_pick : {E : Type 0} (ranks : List ℕ) (s : Sizes) (t : Test) (old new : List (Node Leaf)) (y n : ℕ) (r : Result ℕ E) → ExtendsArena old new → y < length old → n < length old
    → IsDiagram ranks s (diagram old y) → IsDiagram ranks s (diagram old n) → TestIn s t → Above ranks t (diagram old y) → Above ranks t (diagram old n)
    → IfOk r (λ d. y ≡ n → (d ≡ y) × (new ≡ old)) → IfOk r (λ d. y ≢ n → IsNoted old (node.Ask t y n) new d) → IfOk r (λ d. y ≢ n → (y < d) × (n < d))
    → IfOk r (λ d. IsPick ranks s Anywhere t (diagram old y) (diagram old n) (diagram new d))
ask_pick ranks s t old new y n (Err e) g hy hn dy dn it ay an both two low = tt
ask_pick ranks s t old new y n (Ok d) g hy hn dy dn it ay an both two low =
    let by : (v : Bool) → (y == n) ≡ v → IsPick ranks s Anywhere t (diagram old y) (diagram old n) (diagram new d)
    = λ v. elim v as (λ (v : Bool). (y == n) ≡ v → IsPick ranks s Anywhere t (diagram old y) (diagram old n) (diagram new d)) [
      | true ↦ λ e. (let same : y ≡ n = (Decides-eqb y n).0 e in let p = both same in rw (p.0, p.1, sym same) (asked_one ranks s Anywhere t (diagram old y) dy))
      | false ↦ λ e. (let differ : y ≢ n = eqb-false y n e in let p = two differ in let l = low differ in rw (new_ask old new d t y n g hy hn l.0 l.1 p.at) (asked ranks s Anywhere t (diagram old y) (diagram old n) dy dn it ay an))
    ] in
    by (y == n) refl

pub falls_both : (a b x y : ℕ) (A B : Type 0) → x ≤ a → y ≤ b → (A → x < a) → (B → y < b) → A ⊎ B → x + y < a + b
falls_both a b x y A B hx hy fx fy (inl e) = let l = fx e in omega (arith, l, hx, hy)
falls_both a b x y A B hx hy fx fy (inr e) = let l = fy e in omega (arith, l, hx, hy)

pub later : (ranks : List ℕ) (s : Sizes) (t : Test) (a b : Diagram) (u : Test) → IsLeast ranks s t a b u → t ≢ u → (test_cmp ranks u t ≡ Less) × (StartsWith u a ⊎ StartsWith u b)
later ranks s t a b u l differ = elim l.which [ inl e ↦ absurd (differ (sym e)) | inr p ↦ p ]

pub picked_answer : (ranks : List ℕ) (s : Sizes) (t : Test) (a b r : Diagram) → IsPick ranks s Anywhere t a b r → (m : Arrays) (k : List ℕ)
    → answer_of (walk r m k) k ≡ (if passes t m k then answer_of (walk a m k) k else answer_of (walk b m k) k)
picked_answer ranks s t a b r p m k = ap (λ (l : Leaf). answer_of l k) (p.walks m k tt) ∙ by (passes t m k)
  where
    by : (v : Bool) → answer_of (cond v (walk a m k) (walk b m k)) k ≡ cond v (answer_of (walk a m k) k) (answer_of (walk b m k) k)
    by true = refl
    by false = refl

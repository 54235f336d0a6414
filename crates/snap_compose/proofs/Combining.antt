-- Two diagrams combined.
use Rattle.std.proofs.Common.{◌≡◌, inl, inr, ℕ, Bool, true, false, cond, List, [], ◌∷◌, ◌++◌, refl, sym, ap, subst, ◌∙◌, bit_or, pow_pos}
use Rattle.std.specs.Prelude.{All}
use Rattle.std.proofs.lemmas.List.Elements.{All-append, All-nil, All-filter}
use Rattle.std.proofs.lemmas.Nat.{or_lt}
use Rattle.std.specs.declared.cmp.Ordering.TheVariants.{Less, Greater}
use Rattle.snap_core.specs.declared.policy.Test.{Test}
use Rattle.snap_core.specs.Arrays.{Arrays, has}
use Rattle.snap_core.specs.declared.policy.Atom.{Atom}
use Rattle.snap_diagrams.specs.declared.leaf.Go.{Go}
use Rattle.snap_diagrams.specs.declared.leaf.Leaf.{Leaf}
use Rattle.snap_diagrams.specs.declared.leaf.Leaf.TheVariants.{Race, Go as Goes}
use Rattle.snap_diagrams.specs.Leaves.{answer_of}
use Rattle.snap_compose.specs.Beside.{logs_clash, beside}
use Rattle.snap_core.specs.Tests.{passes}
use Rattle.snap_diagrams.specs.Diagrams.{Diagram, Only, Asks, walk}
use Rattle.snap_core.specs.Tests.{OutFits}
use Rattle.snap_diagrams.specs.Bounds.{Sizes, LeafIn, UpdateIn}
use Rattle.snap_diagrams.specs.Picks.{IsDiagram, IsSide, IsPick, Anywhere, IsLower}
use Rattle.snap_diagrams.proofs.Comparing.{above_trans, not_below_itself}
use Rattle.snap_diagrams.proofs.Picking.{low_below}
use Rattle.snap_compose.specs.declared.leaves.How.{How}
use Rattle.snap_compose.specs.declared.leaves.How.TheVariants.{Beside, AndBoth, OrEither, Logged}
use Rattle.snap_compose.specs.United.{united}
use Rattle.snap_compose.proofs.Changes.{answer_beside}
use Rattle.snap_compose.proofs.United.{all_united}
use Rattle.snap_compose.specs.Joined.{only, both_outs, either_outs, combined, IsJoined, AreLeaves, IsFirst}

less_greater : Less ≡ Greater → ⊥
less_greater e = absurd (cc)

beside_in : (s : Sizes) (x y : Go) → LeafIn s (Goes x) → LeafIn s (Goes y) → LeafIn s (combined Beside (Goes x) (Goes y))
beside_in s x y hx hy = by (logs_clash x.reads x.writes y.reads y.writes)
  where
    both : Leaf
    both = Goes (record { outs = united x.outs y.outs; ups = only x.writes x.ups ++ only y.writes y.ups; reads = bit_or x.reads y.reads; writes = bit_or x.writes y.writes })

    by : (t : Bool) → LeafIn s (cond t Race both)
    by true = tt
    by false = (
      all_united (OutFits s.comps) x.outs y.outs hx.0 hy.0,
      All-append (UpdateIn s) (only x.writes x.ups) (only y.writes y.ups)
          (All-filter (λ u. has x.writes u.var) (UpdateIn s) x.ups hx.1) (All-filter (λ u. has y.writes u.var) (UpdateIn s) y.ups hy.1),
      or_lt s.arrays x.reads y.reads hx.2 hy.2,
      or_lt s.arrays x.writes y.writes hx.3 hy.3,
    )

both_in : (P : List (ℕ × Atom) → Type 0) (xs ys : List (List (ℕ × Atom))) → All P xs → All P ys → All P (both_outs xs ys)
both_in P [] ys a b = a
both_in P (x ∷ xs) ys a b = b

either_in : (P : List (ℕ × Atom) → Type 0) (xs ys : List (List (ℕ × Atom))) → All P xs → All P ys → All P (either_outs xs ys)
either_in P [] ys a b = b
either_in P (x ∷ xs) ys a b = a

pub combined_in : (s : Sizes) (how : How) (x y : Leaf) → LeafIn s x → LeafIn s y → LeafIn s (combined how x y)
combined_in s Beside Race y hx hy = tt
combined_in s Beside (Goes x) Race hx hy = tt
combined_in s Beside (Goes x) (Goes y) hx hy = beside_in s x y hx hy
combined_in s AndBoth Race y hx hy = tt
combined_in s AndBoth (Goes x) Race hx hy = tt
combined_in s AndBoth (Goes x) (Goes y) hx hy = (both_in (OutFits s.comps) x.outs y.outs hx.0 hy.0, All-nil (UpdateIn s), or_lt s.arrays x.reads y.reads hx.2 hy.2, pow_pos s.arrays)
combined_in s OrEither Race y hx hy = tt
combined_in s OrEither (Goes x) Race hx hy = tt
combined_in s OrEither (Goes x) (Goes y) hx hy = (either_in (OutFits s.comps) x.outs y.outs hx.0 hy.0, All-nil (UpdateIn s), or_lt s.arrays x.reads y.reads hx.2 hy.2, pow_pos s.arrays)
combined_in s Logged Race y hx hy = tt
combined_in s Logged (Goes x) Race hx hy = tt
combined_in s Logged (Goes x) (Goes y) hx hy = (hy.0, hy.1, or_lt s.arrays x.reads y.reads hx.2 hy.2, hy.3)

pub joined_leaves : (ranks : List ℕ) (s : Sizes) (how : How) (a b r : Diagram) (l : Leaf) → IsDiagram ranks s a → IsDiagram ranks s b → AreLeaves how a b l → r ≡ Only l → IsJoined ranks s how a b r
joined_leaves ranks s how a b r l da db h e = rw (e, h.first, h.second, h.is) (record {
  walks = λ m k. refl;
  keeps = record { ordered = tt; bounds = combined_in s how h.left h.right (subst (IsDiagram ranks s) h.first da).bounds (subst (IsDiagram ranks s) h.second db).bounds };
  above = λ low la lb. tt;
})

pub joined_later : (ranks : List ℕ) (s : Sizes) (how : How) (u : Test) (a b ay an b1 bn ry rn r : Diagram) → IsFirst ranks s a b u
    → IsSide ranks s u true a ay → IsSide ranks s u false a an → IsSide ranks s u true b b1 → IsSide ranks s u false b bn
    → IsJoined ranks s how ay b1 ry → IsJoined ranks s how an bn rn → IsPick ranks s Anywhere u ry rn r → IsJoined ranks s how a b r
joined_later ranks s how u a b ay an b1 bn ry rn r f say san sby sbn jy jn p = record {
  walks = λ m k. p.walks m k tt ∙
      (let Goal : Bool → Type 0 = λ v. passes u m k ≡ v → cond v (walk ry m k) (walk rn m k) ≡ combined how (walk a m k) (walk b m k) in
      let by : (v : Bool) → Goal v
      = λ v. elim v as Goal [ true ↦ λ e. (let x = say.walks m k e in let y = sby.walks m k e in rw (sym x, sym y) (jy.walks m k)) | false ↦ λ e. (let x = san.walks m k e in let y = sbn.walks m k e in rw (sym x, sym y) (jn.walks m k)) ] in
      by (passes u m k) refl);
  keeps = p.keeps;
  above = λ low la lb.
      let lu = low_below ranks low u a b f.starts la lb in
      p.above low lu
      (above_trans ranks low u ry lu (jy.above u (say.over f.first) (sby.over f.second)))
      (above_trans ranks low u rn lu (jn.above u (san.over f.first) (sbn.over f.second)));
}

pub first_of_lower : (ranks : List ℕ) (s : Sizes) (t u : Test) (y n a b : Diagram) → a ≡ Asks t y n → IsLower ranks s t b u → IsFirst ranks s a b u
first_of_lower ranks s t u y n a b e l = rw e (record {
  first = elim l.which [ inl f ↦ rw f (not_below_itself ranks t) | inr p ↦ λ g. absurd (less_greater (sym p.0 ∙ g)) ];
  second = l.not_below;
  is_in = l.is_in;
  starts = elim l.which [ inl f ↦ inl f | inr p ↦ inr p.1 ];
})

pub first_of_second : (ranks : List ℕ) (s : Sizes) (t : Test) (y n a b : Diagram) (l : Leaf) → a ≡ Only l → b ≡ Asks t y n → IsDiagram ranks s b → IsFirst ranks s a b t
first_of_second ranks s t y n a b l e f d = rw (e, f) (record {
  first = tt;
  second = not_below_itself ranks t;
  is_in = (subst (IsDiagram ranks s) f d).bounds.0;
  starts = inr refl;
})

pub joined_answer : (ranks : List ℕ) (s : Sizes) (a b r : Diagram) (m : Arrays) (k : List ℕ) → IsJoined ranks s Beside a b r
    → answer_of (walk r m k) k ≡ beside (answer_of (walk a m k) k) (answer_of (walk b m k) k)
joined_answer ranks s a b r m k j = ap (λ (l : Leaf). answer_of l k) (j.walks m k) ∙ answer_beside (walk a m k) (walk b m k) k

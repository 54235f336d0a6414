-- Numbers are given down the arena.
use Rattle.std.proofs.Common.{◌≡◌, ◌≢◌, ℕ, zero, suc, ◌-◌, ◌<◌, ◌≤◌, ◌⊎◌, inl, inr, ⊎_elim, Bool, true, false, List, [], ◌∷◌, ◌++◌, length, Some, refl, sym, ap, subst, ◌∙◌, arith}
use Rattle.std.specs.Prelude.{slice_get, slice_index, slice_index_or, slice_set, nat_eq, replicate}
use Rattle.std.proofs.lemmas.Bool.{both_ways, cases_lt, eqb-true, eqb-false}
use Rattle.std.proofs.lemmas.List.{get_or-set_same, get_or-set_other, length-set, length-replicate}
use Rattle.std.proofs.lemmas.Option.{none-some, same_Some, slice_get_within}
use Rattle.snap_core.specs.declared.policy.Test.{Test}
use Rattle.snap_diagrams.specs.declared.node.Node.{Node}
use Rattle.snap_diagrams.specs.declared.node.Node.TheVariants as node
use Rattle.snap_diagrams.specs.Arena.{IsArena}
use Rattle.snap_diagrams.specs.declared.leaf.Leaf.{Leaf}
use Rattle.snap_faithful.specs.Marked.{Marked, Marks, with_ways}
use Rattle.snap_faithful.specs.Shown.{Leads, here, yes_way, no_way, IsNumbering}
use Rattle.snap_faithful.proofs.Switching.{in_pushed}
use Rattle.snap_diagrams.proofs.Numbered.{slice_get-append, slice_get-append_last}

pub leads_low : (ns : List (Node Leaf)) (root : ℕ) → IsArena ns → {d : ℕ} → Leads ns root d → d ≤ root
leads_low ns root arena here = omega arith
leads_low ns root arena (yes_way {d = d} {y = y} {z = z} {t = t} chain is) = let l = leads_low ns root arena chain in let w = (arena.lower d (node.Ask t y z) is).0 in omega (arith, l, w)
leads_low ns root arena (no_way {d = d} {y = y} {z = z} {t = t} chain is) = let l = leads_low ns root arena chain in let w = (arena.lower d (node.Ask t y z) is).1 in omega (arith, l, w)

module _ (ns : List (Node Leaf)) (root : ℕ) (arena : IsArena ns) (id : ℕ) (ids numbers : List ℕ) (reached : List Bool) (m : Marks ns root (suc id) ids numbers reached) where
  pub skip : slice_index_or reached id false ≡ false → Marks ns root id ids numbers reached
  skip no_mark = record {
    many = m.many;
    wide = m.wide;
    marked_root = m.marked_root;
    leads = m.leads;
    seen = λ d marked l. ⊎_elim (λ e. m.seen d marked e) (λ e. absurd (both_ways _ no_mark (subst (Marked reached) (let s : d ≡ id = omega (arith, l, e) in s) marked))) (by_order (suc id) d);
    own = λ i d e. (let o = m.own i d e in (o.0, (let l = o.1 in omega (arith, l)), o.2, o.3));
    ways = m.ways;
    falls = m.falls;
    first = λ l. ⊎_elim (λ e. m.first e) (λ e. absurd (both_ways _ no_mark (subst (Marked reached) (let s : root ≡ id = omega (arith, l, e) in s) m.marked_root))) (by_order (suc id) root);
    none = λ l. m.none (omega (arith, l));
  }
    where
      by_order : (a b : ℕ) → (a ≤ b) ⊎ (b < a)
      by_order a b = ⊎_elim (λ l. inr l) (λ l. inl l) (cases_lt b a)

  pub push : id < length ns → Marked reached id → (after : List Bool) → length after ≡ length ns → ((d : ℕ) → Marked reached d → Marked after d) → ((d : ℕ) → Marked after d → Leads ns root d)
      → ((d : ℕ) → Marked after d → id ≤ d → Marked reached d) → ((y z : ℕ) (t : Test) → slice_get ns id ≡ Some (node.Ask t y z) → Marked after y × Marked after z)
      → Marks ns root id (ids ++ id ∷ []) (slice_set numbers id (length ids)) after
  push low mark after wide more only high sides = record {
    many = length-set numbers id (length ids) ∙ m.many;
    wide = wide;
    marked_root = more root m.marked_root;
    leads = only;
    seen = λ d marked l. seen_at d (high d marked l) l (nat_eq d id) refl;
    own = λ i d e. owned i d (in_pushed ids id d i e);
    ways = λ i d y z t e is. sided i d y z t is (in_pushed ids id d i e);
    falls = λ i j d e l a b. fallen i j d e l (in_pushed ids id d i a) (in_pushed ids id e j b);
    first = λ l. at_first l (nat_eq id root) refl;
    none = λ l. absurd (let h = leads_low ns root arena (m.leads id mark) in omega (arith, h, l));
  }
    where
      here_is : slice_index (slice_set numbers id (length ids)) id ≡ length ids
      here_is = get_or-set_same numbers id (length ids) 0 (let e = m.many in omega (arith, e, low))

      there_is : (d : ℕ) → d ≢ id → slice_index (slice_set numbers id (length ids)) d ≡ slice_index numbers d
      there_is d ne = get_or-set_other numbers id d (length ids) 0 ne

      seen_at : (d : ℕ) → Marked reached d → id ≤ d → (b : Bool) → nat_eq d id ≡ b → slice_get (ids ++ id ∷ []) (slice_index (slice_set numbers id (length ids)) d) ≡ Some d
      seen_at d marked l true e =
          let same = eqb-true d id e in
          subst (λ x. slice_get (ids ++ id ∷ []) (slice_index (slice_set numbers id (length ids)) x) ≡ Some x) (sym same) (ap (slice_get (ids ++ id ∷ [])) here_is ∙ slice_get-append_last ids id)
      seen_at d marked l false e =
          let ne = eqb-false d id e in
          ap (slice_get (ids ++ id ∷ [])) (there_is d ne) ∙ slice_get-append ids (id ∷ []) (slice_index numbers d) d (m.seen d marked (omega (arith, l, ne)))

      owned : (i d : ℕ) → (slice_get ids i ≡ Some d) ⊎ ((i ≡ length ids) × (id ≡ d)) → (slice_index (slice_set numbers id (length ids)) d ≡ i) × (id ≤ d) × (d < length ns) × Marked after d
      owned i d (inl e) = let o = m.own i d e in let l = o.1 in (there_is d (λ s. (omega (arith, s, l))) ∙ o.0, omega (arith, l), o.2, more d o.3)
      owned i d (inr e) = subst (λ x. (slice_index (slice_set numbers id (length ids)) x ≡ i) × (id ≤ x) × (x < length ns) × Marked after x) e.1 (here_is ∙ sym e.0, omega arith, low, more id mark)

      sided : (i d y z : ℕ) (t : Test) → slice_get ns d ≡ Some (node.Ask t y z) → (slice_get ids i ≡ Some d) ⊎ ((i ≡ length ids) × (id ≡ d)) → Marked after y × Marked after z
      sided i d y z t is (inl e) = let w = m.ways i d y z t e is in (more y w.0, more z w.1)
      sided i d y z t is (inr e) = sides y z t (ap (slice_get ns) e.1 ∙ is)

      fallen : (i j d e : ℕ) → i < j → (slice_get ids i ≡ Some d) ⊎ ((i ≡ length ids) × (id ≡ d)) → (slice_get ids j ≡ Some e) ⊎ ((j ≡ length ids) × (id ≡ e)) → e < d
      fallen i j d e l (inl a) (inl b) = m.falls i j d e l a b
      fallen i j d e l (inl a) (inr b) = let h = (m.own i d a).1 in let s = b.1 in omega (arith, h, s)
      fallen i j d e l (inr a) (inl b) = absurd (let w = slice_get_within ids j e b in let s = a.0 in omega (arith, w, s, l))
      fallen i j d e l (inr a) (inr b) = absurd (let s = a.0 in let u = b.0 in omega (arith, s, u, l))

      at_first : id ≤ root → (b : Bool) → nat_eq id root ≡ b → slice_get (ids ++ id ∷ []) 0 ≡ Some root
      at_first l true e =
          let same = eqb-true id root e in
          ap (λ (xs : List ℕ). slice_get (xs ++ id ∷ []) 0) (m.none (omega (arith, same))) ∙ ap Some same
      at_first l false e = let ne = eqb-false id root e in slice_get-append ids (id ∷ []) 0 root (m.first (omega (arith, l, ne)))

  -- the marks of the ways of the node
  push_node : id < length ns → Marked reached id → (n : Node Leaf) → slice_get ns id ≡ Some n → Marks ns root id (ids ++ id ∷ []) (slice_set numbers id (length ids)) (with_ways n reached)
  push_node low mark (node.Leaf l) is = push low mark reached m.wide (λ d h. h) (λ d h. m.leads d h) (λ d h l. h) (λ y z t e. absurd (let same : node.Leaf l ≡ node.Ask t y z = same_Some _ _ (sym is ∙ e) in cc))
  push_node low mark (node.Ask t y z) is =
      push low mark (slice_set (slice_set reached y true) z true) (length-set (slice_set reached y true) z true ∙ length-set reached y true ∙ m.wide)
      (λ d h. after d (nat_eq d z) (nat_eq d y) refl refl (inr (inr h)))
      (λ d h. led d h (nat_eq d z) (nat_eq d y) refl refl)
      (λ d h l. high d h l (nat_eq d z) (nat_eq d y) refl refl)
      (λ y' z' t' e.
      (let s : node.Ask t y z ≡ node.Ask t' y' z' = same_Some _ _ (sym is ∙ e) in
      let ys : y' ≡ y = cc in
      let zs : z' ≡ z = cc in
      (after y' (nat_eq y' z) (nat_eq y' y) refl refl (inr (inl ys)), after z' (nat_eq z' z) (nat_eq z' y) refl refl (inl zs))))
    where
      yl : y < id
      yl = (arena.lower id (node.Ask t y z) is).0

      zl : z < id
      zl = (arena.lower id (node.Ask t y z) is).1

      wide_y : z < length (slice_set reached y true)
      wide_y = let a = length-set reached y true in let b = m.wide in let c = zl in omega (arith, a, b, c, low)

      at_z : slice_index_or (slice_set (slice_set reached y true) z true) z false ≡ true
      at_z = get_or-set_same (slice_set reached y true) z true false wide_y

      not_z : (d : ℕ) → d ≢ z → slice_index_or (slice_set (slice_set reached y true) z true) d false ≡ slice_index_or (slice_set reached y true) d false
      not_z d ne = get_or-set_other (slice_set reached y true) z d true false ne

      at_y : slice_index_or (slice_set reached y true) y false ≡ true
      at_y = get_or-set_same reached y true false (let b = m.wide in let c = yl in omega (arith, b, c, low))

      not_y : (d : ℕ) → d ≢ y → slice_index_or (slice_set reached y true) d false ≡ slice_index_or reached d false
      not_y d ne = get_or-set_other reached y d true false ne

      after : (d : ℕ) (a b : Bool) → nat_eq d z ≡ a → nat_eq d y ≡ b → (d ≡ z) ⊎ ((d ≡ y) ⊎ Marked reached d) → Marked (slice_set (slice_set reached y true) z true) d
      after d true b e f why = subst (Marked (slice_set (slice_set reached y true) z true)) (sym (eqb-true d z e)) at_z
      after d false true e f why = not_z d (eqb-false d z e) ∙ ap (λ x. slice_index_or (slice_set reached y true) x false) (eqb-true d y f) ∙ at_y
      after d false false e f (inl s) = absurd (eqb-false d z e s)
      after d false false e f (inr (inl s)) = absurd (eqb-false d y f s)
      after d false false e f (inr (inr h)) = not_z d (eqb-false d z e) ∙ not_y d (eqb-false d y f) ∙ h

      led : (d : ℕ) → Marked (slice_set (slice_set reached y true) z true) d → (a b : Bool) → nat_eq d z ≡ a → nat_eq d y ≡ b → Leads ns root d
      led d h true b e f = subst (Leads ns root) (sym (eqb-true d z e)) (no_way (m.leads id mark) is)
      led d h false true e f = subst (Leads ns root) (sym (eqb-true d y f)) (yes_way (m.leads id mark) is)
      led d h false false e f = m.leads d (sym (not_z d (eqb-false d z e) ∙ not_y d (eqb-false d y f)) ∙ h)

      high : (d : ℕ) → Marked (slice_set (slice_set reached y true) z true) d → id ≤ d → (a b : Bool) → nat_eq d z ≡ a → nat_eq d y ≡ b → Marked reached d
      high d h l true b e f = absurd (let s = eqb-true d z e in let w = zl in omega (arith, s, w, l))
      high d h l false true e f = absurd (let s = eqb-true d y f in let w = yl in omega (arith, s, w, l))
      high d h l false false e f = sym (not_z d (eqb-false d z e) ∙ not_y d (eqb-false d y f)) ∙ h

-- as the code does it
pub done_node : (ns : List (Node Leaf)) (root : ℕ) → IsArena ns → (id : ℕ) (ids numbers : List ℕ) (reached : List Bool) → Marks ns root (suc id) ids numbers reached → id < length ns → Marked reached id
    → (n : Node Leaf) → slice_get ns id ≡ Some n → Marks ns root id (ids ++ id ∷ []) (slice_set numbers id (length ids)) (with_ways n reached)
done_node ns root arena id ids numbers reached m low mark n is = push_node ns root arena id ids numbers reached m low mark n is

-- at the end
pub numbered : (ns : List (Node Leaf)) (root : ℕ) → IsArena ns → (ids numbers : List ℕ) (reached : List Bool) → Marks ns root 0 ids numbers reached → IsNumbering ns root ids (slice_index numbers)
numbered ns root arena ids numbers reached m = record {
  first = m.first (omega arith);
  own = λ i d e. (m.own i d e).0;
  nodes = λ i d e. (m.own i d e).2;
  yes_side = λ i d y z t e is. (let s = m.seen y (m.ways i d y z t e is).0 (omega arith) in (above i d y e s (arena.lower d (node.Ask t y z) is).0, s));
  no_side = λ i d y z t e is. (let s = m.seen z (m.ways i d y z t e is).1 (omega arith) in (above i d z e s (arena.lower d (node.Ask t y z) is).1, s));
  reached = λ i d e. m.leads d (m.own i d e).3;
}
  where
    above : (i d y : ℕ) → slice_get ids i ≡ Some d → slice_get ids (slice_index numbers y) ≡ Some y → y < d → i < slice_index numbers y
    above i d y e s l = ⊎_elim (λ h. h) (λ h. absurd (by (nat_eq (slice_index numbers y) i) refl h)) (cases_lt i (slice_index numbers y))
      where
        by : (b : Bool) → nat_eq (slice_index numbers y) i ≡ b → slice_index numbers y ≤ i → ⊥
        by true f h = let same = same_Some y d (sym s ∙ ap (slice_get ids) (eqb-true (slice_index numbers y) i f) ∙ e) in omega (arith, same, l)
        by false f h = let ne = eqb-false (slice_index numbers y) i f in let w = m.falls (slice_index numbers y) i y d (omega (arith, ne, h)) s e in omega (arith, w, l)

-- at the start
none_marked : (n d : ℕ) → slice_index_or (replicate n false) d false ≡ false
none_marked zero d = refl
none_marked (suc n) zero = refl
none_marked (suc n) (suc d) = none_marked n d

pub begun : (ns : List (Node Leaf)) (root n : ℕ) → root < length ns → n ≡ length ns → (ids numbers : List ℕ) (reached : List Bool) → ids ≡ [] → length numbers ≡ n → reached ≡ replicate n false → Marks ns root (n - 0) ids numbers (slice_set reached root true)
begun ns root n low size ids numbers reached ei en er = record {
  many = en ∙ size;
  wide = length-set reached root true ∙ ap length er ∙ length-replicate n false ∙ size;
  marked_root = get_or-set_same reached root true false (let a = ap length er in let b = length-replicate n false in omega (arith, a, b, size, low));
  leads = λ d h. subst (Leads ns root) (sym (only d h (nat_eq d root) refl)) here;
  seen = λ d h l. absurd (let s = only d h (nat_eq d root) refl in omega (arith, s, l, size, low));
  own = λ i d e. absurd (none-some d (sym (ap (λ l. slice_get l i) ei) ∙ e));
  ways = λ i d y z t e is. absurd (none-some d (sym (ap (λ l. slice_get l i) ei) ∙ e));
  falls = λ i j d e l a b. absurd (none-some d (sym (ap (λ l. slice_get l i) ei) ∙ a));
  first = λ l. absurd (omega (arith, l, size, low));
  none = λ l. ei;
}
  where
    only : (d : ℕ) → Marked (slice_set reached root true) d → (b : Bool) → nat_eq d root ≡ b → d ≡ root
    only d h true e = eqb-true d root e
    only d h false e = absurd (both_ways _ (get_or-set_other reached root d true false (eqb-false d root e) ∙ ap (λ l. slice_index_or l d false) er ∙ none_marked n d) h)

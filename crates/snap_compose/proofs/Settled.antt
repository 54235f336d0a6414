-- Outs that give equal packets, and leaves with one out more.
use Rattle.std.proofs.Common.{◌≡◌, ◌≢◌, ℕ, suc, zero, ◌<◌, Bool, true, false, cond, ◌||◌, ◌&&◌, List, [], ◌∷◌, ◌++◌, Some, length, refl, sym, ap, ◌∙◌, subst, arith}
use Rattle.std.specs.Prelude.{◌==◌, All, map, slice_index, option_map}
use Rattle.std.specs.Ordering.{eq_by_cmp}
use Rattle.std.specs.FinMap.{contains_key}
use Rattle.std.specs.Cmp.Lexicographic.{nat_list_cmp_total}
use Rattle.std.proofs.lemmas.Cmp.{eq_by_cmp_equiv}
use Rattle.std.proofs.lemmas.Map.Lookups.{exact_bytes}
use Rattle.std.proofs.lemmas.Bool.{eqb-true, eqb-false, eq-eqb, and_parts, or_parts, false≢true, or_left, or_right}
use Rattle.std.proofs.lemmas.List.{ext_get_or, map-append}
use Rattle.std.proofs.lemmas.List.Elements.{All-cons, All-head, All-nil, All-push, All-rest, All-tail}
use Rattle.snap_dep.specs.Ranks.{Grouping}
use Rattle.snap_core.specs.declared.policy.Atom.{Atom}
use Rattle.snap_core.specs.Arrays.{Arrays, value_of}
use Rattle.snap_core.specs.Packets.{PacketSet, packet_cmp, no_packets, with_packet}
use Rattle.snap_core.specs.Tests.{OutFits, after_out, results, results_from}
use Rattle.snap_core.proofs.PacketSets.{same_packets, contains-with_packet}
use Rattle.snap_core.proofs.Orders.{is_eq-true}
use Rattle.snap_context.specs.View.{View}
use Rattle.snap_diagrams.specs.declared.leaf.Leaf.{Leaf}
use Rattle.snap_diagrams.specs.declared.leaf.Go.{Go}
use Rattle.snap_diagrams.specs.declared.leaf.Leaf.TheVariants.{Go as Goes}
use Rattle.snap_core.specs.declared.policy.Test.{Test}
use Rattle.snap_core.specs.Tests.{passes}
use Rattle.snap_diagrams.specs.Bounds.{Sizes}
use Rattle.snap_diagrams.specs.Diagrams.{Diagram, Only, Asks, walk}
use Rattle.snap_diagrams.specs.Leaves.{answer_of}
use Rattle.snap_diagrams.specs.Picks.{IsDiagram, sizes}
use Rattle.snap_compose.specs.declared.pulled_back.Early.{Early}
use Rattle.snap_compose.specs.PulledBack.{atom_after, term_of, early_holds, IsEarly}
use Rattle.snap_compose.specs.Substituted.{OnStores}
use Rattle.snap_compose.specs.Splits.{IsSplit}
use Rattle.snap_compose.specs.Sequence.{AreDifferent, IsSettledLeaf}
use Rattle.snap_compose.specs.Separating.{equal_below, any_equal, more_outs, IsWider}
use Rattle.snap_compose.proofs.Values.{values_same, term_of-value, atom_after-fits, after_out-at, after_out-length, term_of-fits}
use Rattle.snap_compose.proofs.Splitting.{split_and}

-- ---- equal numbers at the first components
pub early_equal : (s : Sizes) (a b : List (ℕ × Atom)) (i : ℕ) (x y : Atom) (t : _) (e : Early) → i < s.comps → OutFits s.comps a → OutFits s.comps b → x ≡ atom_after a i → y ≡ atom_after b i → t ≡ term_of y
    → (Rattle.snap_core.specs.Fits.AtomFits s.comps x → Rattle.snap_core.specs.Tests.TermFits s.comps t → IsEarly s (values_same x t) e) → IsEarly s (values_same (atom_after a i) (term_of (atom_after b i))) e
early_equal s a b i x y t e hi fa fb ex ey et f =
    rw (sym ex, sym ey, sym et) (f (rw ex (atom_after-fits s.comps a i fa hi)) (rw (et, ey) (term_of-fits s.comps (atom_after b i) (atom_after-fits s.comps b i fb hi))))

pub equal_more : (groups : Grouping) (v : View) (a b : List (ℕ × Atom)) (n i : ℕ) (e : Early) (x y r1 r : Diagram) → n ≡ suc i → i < (sizes groups v).comps → OutFits (sizes groups v).comps b
    → IsEarly (sizes groups v) (values_same (atom_after a i) (term_of (atom_after b i))) e → IsSplit groups v (equal_below a b i) x y r1 → IsSplit groups v (early_holds e) r1 y r → IsSplit groups v (equal_below a b n) x y r
equal_more groups v a b n i e x y r1 r next hi fb early p q = rw next
    (split_and groups v (equal_below a b i) (early_holds e) (equal_below a b (suc i)) x y r1 r p q
    (λ m k met small. ap (λ t. t && equal_below a b i m k)
    (early.holds m k met.packet ∙ ap (λ z. value_of (atom_after a i) k == z) (term_of-value (sizes groups v).comps (atom_after b i) k met.packet (atom_after-fits (sizes groups v).comps b i fb hi)))))

equal_all : (a b : List (ℕ × Atom)) (n : ℕ) (m : Arrays) (k : List ℕ) → equal_below a b n m k ≡ true → (c : ℕ) → c < n → value_of (atom_after a c) k ≡ value_of (atom_after b c) k
equal_all a b zero m k e c h = absurd (omega arith)
equal_all a b (suc n) m k e c h =
    let parts = and_parts (value_of (atom_after a n) k == value_of (atom_after b n) k) (equal_below a b n m k) e in
    by (eqb-true (value_of (atom_after a n) k) (value_of (atom_after b n) k) parts.0) (λ l. equal_all a b n m k parts.1 c l) (c == n) refl
  where
    by : value_of (atom_after a n) k ≡ value_of (atom_after b n) k → (c < n → value_of (atom_after a c) k ≡ value_of (atom_after b c) k) → (t : Bool) → (c == n) ≡ t → value_of (atom_after a c) k ≡ value_of (atom_after b c) k
    by last rest true f = rw (eqb-true c n f) last
    by last rest false f = rest (let d = eqb-false c n f in omega (arith, h, d))

all_equal : (a b : List (ℕ × Atom)) (n : ℕ) (m : Arrays) (k : List ℕ) → ((c : ℕ) → c < n → value_of (atom_after a c) k ≡ value_of (atom_after b c) k) → equal_below a b n m k ≡ true
all_equal a b zero m k h = refl
all_equal a b (suc n) m k h = (λ i. eq-eqb (value_of (atom_after a n) k) (value_of (atom_after b n) k) (h n (omega arith)) i && all_equal a b n m k (λ c l. h c (omega (arith, l))) i)

equal_packets : (comps : ℕ) (a b : List (ℕ × Atom)) (m : Arrays) (k : List ℕ) → length k ≡ comps → OutFits comps a → OutFits comps b → equal_below a b comps m k ≡ true → after_out a k ≡ after_out b k
equal_packets comps a b m k len fa fb e = ext_get_or 0 _ _ (after_out-length a k ∙ sym (after_out-length b k))
    (λ c l. after_out-at comps a k c len fa ∙ equal_all a b comps m k e c (let g = after_out-length a k in omega (arith, l, g, len)) ∙ sym (after_out-at comps b k c len fb))

different_packets : (comps : ℕ) (a b : List (ℕ × Atom)) (m : Arrays) (k : List ℕ) → length k ≡ comps → OutFits comps a → OutFits comps b → equal_below a b comps m k ≡ false → after_out a k ≢ after_out b k
different_packets comps a b m k len fa fb e same =
    false≢true (sym e ∙ all_equal a b comps m k (λ c l. sym (after_out-at comps a k c len fa) ∙ ap (λ xs. slice_index xs c) same ∙ after_out-at comps b k c len fb))

-- ---- one of others
pub any_more : (groups : Grouping) (v : View) (comps : ℕ) (o f : List (ℕ × Atom)) (os : List (List (ℕ × Atom))) (x y r1 r : Diagram)
    → IsSplit groups v (any_equal comps o os) x y r1 → IsSplit groups v (equal_below o f comps) x r1 r → IsSplit groups v (any_equal comps o (f ∷ os)) x y r
any_more groups v comps o f os x y r1 r p q = record {
  walks = λ m k met small.
      q.walks m k met small
      ∙ ap (λ (l : Leaf). cond (equal_below o f comps m k) (walk x m k) l) (p.walks m k met small)
      ∙ either (equal_below o f comps m k) (any_equal comps o os m k) (walk x m k) (walk y m k);
  keeps = q.keeps;
}
  where
    either : {A : Type 0} (s t : Bool) (a b : A) → cond s a (cond t a b) ≡ cond (s || t) a b
    either true t a b = refl
    either false t a b = refl

pub head_fits : (comps : ℕ) (all more : List (List (ℕ × Atom))) (f : List (ℕ × Atom)) → all ≡ f ∷ more → All (λ (o : List (ℕ × Atom)). OutFits comps o) all → OutFits comps f
head_fits comps all more f e a = All-head (OutFits comps) f more (subst (All (OutFits comps)) e a)

pub tail_fits : (comps : ℕ) (all more : List (List (ℕ × Atom))) (f : List (ℕ × Atom)) → all ≡ f ∷ more → All (λ (o : List (ℕ × Atom)). OutFits comps o) all → All (λ (o : List (ℕ × Atom)). OutFits comps o) more
tail_fits comps all more f e a = All-rest (OutFits comps) f more all e a

-- ---- packets
stays : (s : PacketSet) (os : List (List (ℕ × Atom))) (k q : List ℕ) → contains_key s q ≡ true → contains_key (results_from s os k) q ≡ true
stays s [] k q e = e
stays s (o ∷ os) k q e = stays (with_packet s (after_out o k)) os k q (contains-with_packet s (after_out o k) q ∙ or_right (eq_by_cmp packet_cmp q (after_out o k)) (contains_key s q) e)

own : (k : List ℕ) → eq_by_cmp packet_cmp k k ≡ true
own k = (eq_by_cmp_equiv nat_list_cmp_total).refl k

among : (comps : ℕ) (o : List (ℕ × Atom)) (os : List (List (ℕ × Atom))) (s : PacketSet) (m : Arrays) (k : List ℕ) → length k ≡ comps → OutFits comps o → All (λ (x : List (ℕ × Atom)). OutFits comps x) os
    → any_equal comps o os m k ≡ true → contains_key (results_from s os k) (after_out o k) ≡ true
among comps o [] s m k len fo fs e = absurd (false≢true e)
among comps o (x ∷ os) s m k len fo fs e = by (λ g. among comps o os (with_packet s (after_out x k)) m k len fo (All-tail (OutFits comps) x os fs) g) (equal_below o x comps m k) refl
  where
    by : (any_equal comps o os m k ≡ true → contains_key (results_from (with_packet s (after_out x k)) os k) (after_out o k) ≡ true) → (t : Bool) → equal_below o x comps m k ≡ t → contains_key (results_from (with_packet s (after_out x k)) os k) (after_out o k) ≡ true
    by rest true f = stays (with_packet s (after_out x k)) os k (after_out o k)
        (contains-with_packet s (after_out x k) (after_out o k) ∙ or_left (eq_by_cmp packet_cmp (after_out o k) (after_out x k)) (contains_key s (after_out o k))
        (ap (λ p. eq_by_cmp packet_cmp p (after_out x k)) (equal_packets comps o x m k len fo (fs 0 x (omega arith)) f) ∙ own (after_out x k)))
    by rest false f = rest (sym (ap (λ t. t || any_equal comps o os m k) f) ∙ e)

with_old : (s : PacketSet) (p : List ℕ) → contains_key s p ≡ true → with_packet s p ≡ s
with_old s p e = same_packets _ _ (λ q. contains-with_packet s p q ∙ by q (eq_by_cmp packet_cmp q p) refl)
  where
    by : (q : List ℕ) (t : Bool) → eq_by_cmp packet_cmp q p ≡ t → (t || contains_key s q) ≡ contains_key s q
    by q true f = sym (ap (contains_key s) (same q p f) ∙ e)
      where
        same : (x y : List ℕ) → eq_by_cmp packet_cmp x y ≡ true → x ≡ y
        same x y h = exact_bytes x y (is_eq-true (packet_cmp x y) h)
    by q false f = refl

pub results_push : (s : PacketSet) (os : List (List (ℕ × Atom))) (o : List (ℕ × Atom)) (k : List ℕ) → results_from s (os ++ o ∷ []) k ≡ with_packet (results_from s os k) (after_out o k)
results_push s [] o k = refl
results_push s (x ∷ os) o k = results_push (with_packet s (after_out x k)) os o k

none_equal : (comps : ℕ) (o : List (ℕ × Atom)) (os : List (List (ℕ × Atom))) (m : Arrays) (k : List ℕ) → length k ≡ comps → OutFits comps o → All (λ (x : List (ℕ × Atom)). OutFits comps x) os
    → any_equal comps o os m k ≡ false → All (λ (p : List ℕ). p ≢ after_out o k) (map (λ x. after_out x k) os)
none_equal comps o [] m k len fo fs e = All-nil (λ (p : List ℕ). p ≢ after_out o k)
none_equal comps o (x ∷ os) m k len fo fs e =
    let parts = or_parts (equal_below o x comps m k) (any_equal comps o os m k) e in
    let first : OutFits comps x = fs 0 x (omega arith) in
    All-cons (λ (p : List ℕ). p ≢ after_out o k) (after_out x k) (map (λ x. after_out x k) os) (λ h. different_packets comps o x m k len fo first parts.0 (sym h))
    (none_equal comps o os m k len fo (All-tail (OutFits comps) x os fs) parts.1)

different_push : (ps : List (List ℕ)) (p : List ℕ) → AreDifferent ps → All (λ (x : List ℕ). x ≢ p) ps → AreDifferent (ps ++ p ∷ [])
different_push [] p d n = (All-nil (λ (y : List ℕ). p ≢ y), tt)
different_push (x ∷ ps) p d n = (All-push (λ (y : List ℕ). x ≢ y) ps p d.0 (n 0 x (omega arith)), different_push ps p d.1 (All-tail (λ (y : List ℕ). y ≢ p) x ps n))

-- ---- one out more at a leaf
pub wider_leaf : (groups : Grouping) (v : View) (g : Go) (o : List (ℕ × Atom)) (d a r : Diagram) → d ≡ Only (Goes g) → a ≡ Only (Goes (record g { outs = g.outs ++ o ∷ [] })) → OutFits (sizes groups v).comps o → All (λ (x : List (ℕ × Atom)). OutFits (sizes groups v).comps x) g.outs
    → IsSplit groups v (any_equal (sizes groups v).comps o g.outs) d a r → IsWider groups v (o ∷ []) d r
wider_leaf groups v g o d a r ed ea fo fs s = rw ed (record {
  answers = λ m k met small. ap (λ (l : Leaf). answer_of l k) (goes m k met small) ∙ answer m k met.packet.long (any_equal comps o g.outs m k) refl;
  settled = λ m k met small old. subst (λ (l : Leaf). IsSettledLeaf l k) (sym (goes m k met small)) (separate m k met.packet.long old (any_equal comps o g.outs m k) refl);
  keeps = s.keeps;
})
  where
    comps : ℕ
    comps = (sizes groups v).comps

    more : Go
    more = record g { outs = g.outs ++ o ∷ [] }

    goes : OnStores v (λ m k. walk r m k ≡ cond (any_equal comps o g.outs m k) (Goes g) (Goes more))
    goes m k met small = s.walks m k met small ∙ (λ i. cond (any_equal comps o g.outs m k) (walk (ed i) m k) (walk (ea i) m k))

    answer : (m : Arrays) (k : List ℕ) → length k ≡ comps → (t : Bool) → any_equal comps o g.outs m k ≡ t → answer_of (cond t (Goes g) (Goes more)) k ≡ option_map (more_outs (o ∷ []) k) (answer_of (Goes g) k)
    answer m k len true e = λ i. Some (record { packets = sym (with_old (results g.outs k) (after_out o k) (among comps o g.outs no_packets m k len fo fs e)) i; reads = g.reads; writes = g.writes; change = λ n. Rattle.snap_core.specs.Arrays.updates n g.ups k })
    answer m k len false e = λ i. Some (record { packets = results_push no_packets g.outs o k i; reads = g.reads; writes = g.writes; change = λ n. Rattle.snap_core.specs.Arrays.updates n g.ups k })

    separate : (m : Arrays) (k : List ℕ) → length k ≡ comps → IsSettledLeaf (Goes g) k → (t : Bool) → any_equal comps o g.outs m k ≡ t → IsSettledLeaf (cond t (Goes g) (Goes more)) k
    separate m k len old true e = old
    separate m k len old false e = subst AreDifferent (sym (map-append (λ (x : List (ℕ × Atom)). after_out x k) g.outs (o ∷ []))) (different_push (map (λ x. after_out x k) g.outs) (after_out o k) old (none_equal comps o g.outs m k len fo fs e))

pub wider_split : (groups : Grouping) (v : View) (os : List (List (ℕ × Atom))) (t : Test) (y n d ry rn r : Diagram) → d ≡ Asks t y n → IsWider groups v os y ry → IsWider groups v os n rn
    → ((m : Arrays) (k : List ℕ) → walk r m k ≡ cond (passes t m k) (walk ry m k) (walk rn m k)) → IsDiagram groups.ranks (sizes groups v) r → IsWider groups v os d r
wider_split groups v os t y n d ry rn r e wy wn w keeps = rw e (record {
  answers = λ m k met small.
      let Goal : Bool → Type 0 = λ b. answer_of (cond b (walk ry m k) (walk rn m k)) k ≡ option_map (more_outs os k) (answer_of (cond b (walk y m k) (walk n m k)) k) in
      let by : (b : Bool) → Goal b = λ b. elim b as Goal [ true ↦ wy.answers m k met small | false ↦ wn.answers m k met small ] in
      ap (λ (l : Leaf). answer_of l k) (w m k) ∙ by (passes t m k);
  settled = λ m k met small.
      let Goal : Bool → Type 0 = λ b. IsSettledLeaf (cond b (walk y m k) (walk n m k)) k → IsSettledLeaf (cond b (walk ry m k) (walk rn m k)) k in
      let by : (b : Bool) → Goal b = λ b. elim b as Goal [ true ↦ wy.settled m k met small | false ↦ wn.settled m k met small ] in
      λ h. subst (λ (l : Leaf). IsSettledLeaf l k) (sym (w m k)) (by (passes t m k) h);
  keeps = keeps;
})

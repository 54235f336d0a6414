-- One of two diagrams, by parts of a truth.
use Rattle.std.proofs.Common.{◌≡◌, ◌≢◌, ℕ, suc, ◌+◌, ◌-◌, ◌%◌, ◌^◌, ◌<◌, ◌≤◌, Bool, true, false, cond, ◌&&◌, List, [], ◌∷◌, ◌++◌, length, take, drop, get_or, refl, sym, ap, ◌∙◌, subst, arith}
use Rattle.std.specs.Prelude.{◌==◌, nat_eq, All, map, slice_index}
use Rattle.std.proofs.Math.Bool.{and-false}
use Rattle.std.proofs.lemmas.Bool.{eqb-true, eqb-false, eq-eqb, ne_eqb, and_from, and_left, and_parts, cond-true, cond-false}
use Rattle.std.proofs.lemmas.List.{take_more, take_all}
use Rattle.std.proofs.lemmas.List.Elements.{All-get_or, All-tail, All-take}
use Rattle.std.proofs.lemmas.Slice.Eq.{bytes_eq-Decides}
use lib.Pointwise.{pointwise}
use Rattle.snap_dep.specs.Ranks.{Grouping}
use Rattle.snap_core.specs.declared.place.Place.{Place}
use Rattle.snap_core.specs.declared.policy.Atom.{Atom}
use Rattle.snap_core.specs.declared.policy.Atom.TheVariants.{Num as Number, Comp}
use Rattle.snap_core.specs.declared.policy.Op.{Op}
use Rattle.snap_core.specs.declared.policy.Op.TheVariants.{Put, Add}
use Rattle.snap_core.specs.declared.policy.Term.{Term}
use Rattle.snap_core.specs.declared.policy.Term.TheVariants.{Num, Plus}
use Rattle.snap_core.specs.declared.policy.Test.TheVariants.{State}
use Rattle.snap_core.specs.declared.policy.Update.{Update}
use Rattle.snap_core.specs.Arrays.{Arrays, value_of, place_at, same_place, number_after, update, updates}
use Rattle.snap_core.specs.Fits.{AtomFits, OpFits, IndexFits}
use Rattle.snap_core.specs.Tests.{passes, term_value, TermFits}
use Rattle.snap_core.specs.Inputs.{IsStore, IsPacket}
use Rattle.snap_core.proofs.Places.{same_place-exact, same_place-itself}
use Rattle.snap_core.proofs.Updates.{updates-append}
use Rattle.snap_core.specs.Ranges.{AtomInRange, OpInRange, UpdateInRange}
use Rattle.snap_context.specs.View.{View}
use Rattle.snap_context.specs.declared.context.Verdict.{Verdict}
use Rattle.snap_context.specs.declared.context.Verdict.TheVariants.{Always, Never, Unsure}
use Rattle.snap_diagrams.specs.Bounds.{Sizes, UpdateIn}
use Rattle.snap_diagrams.specs.Diagrams.{Diagram, walk}
use Rattle.snap_diagrams.specs.Picks.{sizes}
use Rattle.snap_compose.specs.declared.pulled_back.Early.{Early}
use Rattle.snap_compose.specs.declared.pulled_back.Early.TheVariants.{Ask}
use Rattle.snap_compose.specs.PulledBack.{term_of, early_holds, IsEarly}
use Rattle.snap_compose.specs.Substituted.{OnStores}
use Rattle.snap_compose.specs.Splits.{also, IsSplit, IsSplitOn, MayBeSaid, same_index_on, passes_after, passes_after_op, number_of, with_number}
use Rattle.snap_compose.proofs.Values.{component_small, values_same, term_of-value, term_of-fits}

abbrev Truth : Type 0
Truth = Arrays → List ℕ → Bool

pub split_weaker : (groups : Grouping) (v : View) (P Q : Truth) (a b r : Diagram) → OnStores v (λ m k. P m k ≡ Q m k) → IsSplit groups v P a b r → IsSplit groups v Q a b r
split_weaker groups v P Q a b r e s = record {
  walks = λ m k met small. s.walks m k met small ∙ ap (λ t. cond t (walk a m k) (walk b m k)) (e m k met small);
  keeps = s.keeps;
}

-- on fewer stores and packets, by a truth that is the same there
pub split_on : (groups : Grouping) (v : View) (C D P Q : Truth) (a b r : Diagram) → OnStores v (λ m k. D m k ≡ true → (C m k ≡ true) × (P m k ≡ Q m k)) → IsSplitOn groups v C P a b r → IsSplitOn groups v D Q a b r
split_on groups v C D P Q a b r e s = record {
  walks = λ m k met small d.
      let h : (C m k ≡ true) × (P m k ≡ Q m k) = e m k met small d in
      s.walks m k met small h.0 ∙ ap (λ t. cond t (walk a m k) (walk b m k)) h.1;
  keeps = s.keeps;
}

pub split_anywhere : (groups : Grouping) (v : View) (C P Q : Truth) (a b r : Diagram) → OnStores v (λ m k. P m k ≡ Q m k) → IsSplit groups v P a b r → IsSplitOn groups v C Q a b r
split_anywhere groups v C P Q a b r e s = record {
  walks = λ m k met small c. s.walks m k met small ∙ ap (λ t. cond t (walk a m k) (walk b m k)) (e m k met small);
  keeps = s.keeps;
}

-- by the first, and then by the other
pub split_and : (groups : Grouping) (v : View) (P Q R : Truth) (a b r1 r : Diagram) → IsSplit groups v P a b r1 → IsSplit groups v Q r1 b r → OnStores v (λ m k. (Q m k && P m k) ≡ R m k) → IsSplit groups v R a b r
split_and groups v P Q R a b r1 r p q e = record {
  walks = λ m k met small.
      q.walks m k met small
      ∙ ap (λ (l : _). cond (Q m k) l (walk b m k)) (p.walks m k met small)
      ∙ both (Q m k) (P m k) (walk a m k) (walk b m k)
      ∙ ap (λ t. cond t (walk a m k) (walk b m k)) (e m k met small);
  keeps = q.keeps;
}
  where
    both : {A : Type 0} (s t : Bool) (x y : A) → cond s (cond t x y) y ≡ cond (s && t) x y
    both true t x y = refl
    both false t x y = refl

pub same_more : (groups : Grouping) (v : View) (a b : Atom) (more others : List Atom) (e : Early) (x y r1 r : Diagram)
    → AtomFits (sizes groups v).comps b
    → IsEarly (sizes groups v) (values_same a (term_of b)) e
    → IsSplit groups v (same_index_on more others) x y r1 → IsSplit groups v (early_holds e) r1 y r → IsSplit groups v (same_index_on (a ∷ more) (b ∷ others)) x y r
same_more groups v a b more others e x y r1 r f early p q =
    split_and groups v (same_index_on more others) (early_holds e) (same_index_on (a ∷ more) (b ∷ others)) x y r1 r p q
    (λ m k met small. ap (λ t. t && same_index_on more others m k)
    (early.holds m k met.packet ∙ ap (λ n. value_of a k == n) (term_of-value (sizes groups v).comps b k met.packet f)))

-- by the first atoms of two lists, and the others
pub same_lists : (groups : Grouping) (v : View) (xs ys : List Atom) (c d : Atom) (e : Early) (x y r1 r : Diagram) → 1 ≤ length xs → 1 ≤ length ys
    → IndexFits (sizes groups v).comps ys
    → IsEarly (sizes groups v) (values_same (get_or xs 0 c) (term_of (get_or ys 0 d))) e
    → IsSplit groups v (same_index_on (take (length xs - 1) (drop 1 xs)) (take (length ys - 1) (drop 1 ys))) x y r1 → IsSplit groups v (early_holds e) r1 y r → IsSplit groups v (same_index_on xs ys) x y r
same_lists groups v [] ys c d e x y r1 r hx hy f early p q = absurd (omega arith)
same_lists groups v (a ∷ xs) [] c d e x y r1 r hx hy f early p q = absurd (omega arith)
same_lists groups v (a ∷ xs) (b ∷ ys) c d e x y r1 r hx hy f early p q =
    let nx : ℕ = suc (length xs) - 1 in
    let ny : ℕ = suc (length ys) - 1 in
    let ex : take nx xs ≡ xs = take_all nx xs (omega arith) in
    let ey : take ny ys ≡ ys = take_all ny ys (omega arith) in
    same_more groups v a b xs ys e x y r1 r (f 0 b (omega arith)) early (subst (λ (zs : List Atom). IsSplit groups v (same_index_on zs ys) x y r1) ex (subst (λ (zs : List Atom). IsSplit groups v (same_index_on (take nx xs) zs) x y r1) ey p)) q

-- ---- indices that give one place
-- where two do, a third gives the place of one as it gives that of the other
same_through : (us xs ys : List Atom) (m : Arrays) (k : List ℕ) → same_index_on xs ys m k ≡ true → same_index_on us ys m k ≡ same_index_on us xs m k
same_through us xs ys m k e =
    let vals : List Atom → List ℕ = map (λ a. value_of a k) in
    ap (λ (l : List ℕ). pointwise nat_eq (vals us) l) (sym ((bytes_eq-Decides (vals xs) (vals ys)).0 e))

same_itself : (xs : List Atom) (m : Arrays) (k : List ℕ) → same_index_on xs xs m k ≡ true
same_itself xs m k = let vals : List ℕ = map (λ a. value_of a k) xs in (bytes_eq-Decides vals vals).1 refl

pub split_whole : (groups : Grouping) (v : View) (ix : List Atom) (P : Truth) (a b r : Diagram) → IsSplitOn groups v (same_index_on ix ix) P a b r → IsSplit groups v P a b r
split_whole groups v ix P a b r s = record { walks = λ m k met small. s.walks m k met small (same_itself ix m k); keeps = s.keeps }

-- ---- what may be said of two indices
-- the first atoms are the same always: it is said of the others
pub said_always : (xs ys : List Atom) (c d : Atom) (first said : Verdict) → 1 ≤ length xs → 1 ≤ length ys → first ≡ Always
    → MayBeSaid (λ m k. value_of (get_or xs 0 c) k == value_of (get_or ys 0 d) k) first
    → MayBeSaid (same_index_on (take (length xs - 1) (drop 1 xs)) (take (length ys - 1) (drop 1 ys))) said → MayBeSaid (same_index_on xs ys) said
said_always [] ys c d first said hx hy is f r = absurd (omega arith)
said_always (a ∷ xs) [] c d first said hx hy is f r = absurd (omega arith)
said_always (a ∷ xs) (b ∷ ys) c d first said hx hy is f r =
    by said (subst (λ (zs : List Atom). MayBeSaid (same_index_on zs ys) said) (take_all (suc (length xs) - 1) xs (omega arith))
    (subst (λ (zs : List Atom). MayBeSaid (same_index_on (take (suc (length xs) - 1) xs) zs) said) (take_all (suc (length ys) - 1) ys (omega arith)) r))
  where
    same : MayBeSaid (λ m k. value_of a k == value_of b k) Always
    same = subst (MayBeSaid (λ m k. value_of a k == value_of b k)) is f

    by : (s : Verdict) → MayBeSaid (same_index_on xs ys) s → MayBeSaid (same_index_on (a ∷ xs) (b ∷ ys)) s
    by Always r = λ m k. ap (λ t. t && same_index_on xs ys m k) (same m k) ∙ r m k
    by Never r = λ m k. ap (λ t. t && same_index_on xs ys m k) (same m k) ∙ r m k
    by Unsure r = tt

-- the first atoms are never the same
pub said_never : (xs ys : List Atom) (c d : Atom) (first : Verdict) → 1 ≤ length xs → 1 ≤ length ys → first ≡ Never
    → MayBeSaid (λ m k. value_of (get_or xs 0 c) k == value_of (get_or ys 0 d) k) first → MayBeSaid (same_index_on xs ys) Never
said_never [] ys c d first hx hy is f = absurd (omega arith)
said_never (a ∷ xs) [] c d first hx hy is f = absurd (omega arith)
said_never (a ∷ xs) (b ∷ ys) c d first hx hy is f = λ m k. ap (λ t. t && same_index_on xs ys m k) (subst (MayBeSaid (λ m k. value_of a k == value_of b k)) is f m k)

-- the others never are
pub said_never_behind : (xs ys : List Atom) (rest : Verdict) → 1 ≤ length xs → 1 ≤ length ys → rest ≡ Never
    → MayBeSaid (same_index_on (take (length xs - 1) (drop 1 xs)) (take (length ys - 1) (drop 1 ys))) rest → MayBeSaid (same_index_on xs ys) Never
said_never_behind [] ys rest hx hy is r = absurd (omega arith)
said_never_behind (a ∷ xs) [] rest hx hy is r = absurd (omega arith)
said_never_behind (a ∷ xs) (b ∷ ys) rest hx hy is r = λ m k. ap (λ t. (value_of a k == value_of b k) && t) (never m k) ∙ and-false (value_of a k == value_of b k)
  where
    never : MayBeSaid (same_index_on xs ys) Never
    never = subst (λ (zs : List Atom). MayBeSaid (same_index_on zs ys) Never) (take_all (suc (length xs) - 1) xs (omega arith))
        (subst (λ (zs : List Atom). MayBeSaid (same_index_on (take (suc (length xs) - 1) xs) zs) Never) (take_all (suc (length ys) - 1) ys (omega arith))
        (subst (MayBeSaid (same_index_on (take (suc (length xs) - 1) xs) (take (suc (length ys) - 1) ys))) is r))

-- ---- numbers
value_small : (comps : ℕ) (a : Atom) (k : List ℕ) → IsPacket comps k → AtomFits comps a → AtomInRange a → value_of a k < 2 ^ 64
value_small comps (Number n) k h f r = r
value_small comps (Comp c) k h f r = component_small comps k c h f

after_small : (comps : ℕ) (op : Op) (n : ℕ) (k : List ℕ) → IsPacket comps k → OpFits comps op → OpInRange op → number_after op n k < 2 ^ 64
after_small comps (Put a) n k h f r = value_small comps a k h f r
after_small comps (Add b) n k h f r = omega arith

update_small : (comps : ℕ) (m : Arrays) (u : Update) (k : List ℕ) → IsPacket comps k → OpFits comps u.op → OpInRange u.op → IsStore m → IsStore (update m u k)
update_small comps m u k h f r s p = by (same_place (place_at u.var u.index k) p)
  where
    by : (t : Bool) → cond t (number_after u.op (m (place_at u.var u.index k)) k) (m p) < 2 ^ 64
    by true = after_small comps u.op (m (place_at u.var u.index k)) k h f r
    by false = s p

small_after : (s : Sizes) (m : Arrays) (us : List Update) (k : List ℕ) → IsPacket s.comps k → All (UpdateIn s) us → All UpdateInRange us → IsStore m → IsStore (updates m us k)
small_after s m [] k h f r small = small
small_after s m (u ∷ us) k h f r small = small_after s (update m u k) us k h (All-tail (UpdateIn s) u us f) (All-tail UpdateInRange u us r) (update_small s.comps m u k h (f 0 u (omega arith)).op (r 0 u (omega arith)).op small)

-- ---- updates behind others, and one more
pub updates_more : (m : Arrays) (us : List Update) (u : Update) (k : List ℕ) → updates m (us ++ u ∷ []) k ≡ update (updates m us k) u k
updates_more m us u k = updates-append us (u ∷ []) m k

-- the place of an update, and another
pub hit : (u : Update) (m : Arrays) (k : List ℕ) (p : Place) → place_at u.var u.index k ≡ p → update m u k p ≡ number_after u.op (m p) k
hit u m k p e =
    subst (λ (q : Place). update m u k q ≡ number_after u.op (m q) k) e
    (cond-true (same_place (place_at u.var u.index k) (place_at u.var u.index k)) _ _ (same_place-itself (place_at u.var u.index k)))

pub missed : (u : Update) (m : Arrays) (k : List ℕ) (p : Place) → same_place (place_at u.var u.index k) p ≡ false → update m u k p ≡ m p
missed u m k p e = cond-false (same_place (place_at u.var u.index k) p) _ (m p) e

pub at_other : (m : Arrays) (u : Update) (v : ℕ) (ix : List Atom) (k : List ℕ) → u.var ≢ v → update m u k (place_at v ix k) ≡ m (place_at v ix k)
at_other m u v ix k d = missed u m k (place_at v ix k) (and_left (nat_eq u.var v) _ (ne_eqb u.var v d))

-- a state test behind one update more, of another array
pub behind_other : (groups : Grouping) (v : View) (C : Truth) (us : List Update) (u : Update) (n i var : ℕ) (ix : List Atom) (t : Term) (a b r : Diagram) → n ≡ i + 1 → i < length us → u ≡ get_or us i u → u.var ≢ var
    → IsSplitOn groups v C (passes_after (take i us) var ix t) a b r → IsSplitOn groups v C (passes_after (take n us) var ix t) a b r
behind_other groups v C us u n i var ix t a b r next h e d s =
    rw next (split_on groups v C C (passes_after (take i us) var ix t) (passes_after (take (i + 1) us) var ix t) a b r
    (λ m k met small c. (
      c,
      sym (ap (λ n. n == term_value t k) (ap (λ (xs : List Update). updates m xs k (place_at var ix k)) (take_more us i u h ∙ ap (λ x. take i us ++ x ∷ []) (sym e))
          ∙ ap (λ (n : Arrays). n (place_at var ix k)) (updates_more m (take i us) u k)
          ∙ at_other (updates m (take i us) k) u var ix k d)),
    )) s)

-- ---- one update more, of the array itself: where the indices give one place, and elsewhere
at_same : (m : Arrays) (u : Update) (var : ℕ) (ix : List Atom) (t : Term) (k : List ℕ) → u.var ≡ var
    → (update m u k (place_at var ix k) == term_value t k) ≡ cond (same_index_on u.index ix m k) (number_after u.op (m (place_at var ix k)) k == term_value t k) (m (place_at var ix k) == term_value t k)
at_same m u var ix t k e = by (same_index_on u.index ix m k) refl
  where
    p : Place
    p = place_at var ix k

    by : (s : Bool) → same_index_on u.index ix m k ≡ s → (update m u k p == term_value t k) ≡ cond s (number_after u.op (m p) k == term_value t k) (m p == term_value t k)
    by true f =
        let same : same_place (place_at u.var u.index k) p ≡ true = ap (λ b. b && same_index_on u.index ix m k) (eq-eqb u.var var e) ∙ f in
        ap (λ n. n == term_value t k) (cond-true _ _ _ same ∙ ap (λ q. number_after u.op (m q) k) (same_place-exact (place_at u.var u.index k) p same))
    by false f =
        let other : same_place (place_at u.var u.index k) p ≡ false = ap (λ b. b && same_index_on u.index ix m k) (eq-eqb u.var var e) ∙ f in
        ap (λ n. n == term_value t k) (cond-false _ _ _ other)

passes_more : (m : Arrays) (us : List Update) (u : Update) (n i var : ℕ) (ix : List Atom) (t : Term) (k : List ℕ) → n ≡ i + 1 → i < length us → u ≡ get_or us i u → u.var ≡ var
    → passes_after (take n us) var ix t m k ≡ cond (same_index_on u.index ix m k) (passes_after_op u.op (take i us) var ix t m k) (passes_after (take i us) var ix t m k)
passes_more m us u n i var ix t k next h e same =
    ap (λ (xs : List Update). updates m xs k (place_at var ix k) == term_value t k) (ap (λ j. take j us) next ∙ take_more us i u h ∙ ap (λ x. take i us ++ x ∷ []) (sym e))
    ∙ ap (λ (n : Arrays). n (place_at var ix k) == term_value t k) (updates_more m (take i us) u k)
    ∙ at_same (updates m (take i us) k) u var ix t k same

pub behind_same : (groups : Grouping) (v : View) (C : Truth) (us : List Update) (u : Update) (n i var : ℕ) (ix : List Atom) (t : Term) (a b rh ro r : Diagram) → n ≡ i + 1 → i < length us → u ≡ get_or us i u → u.var ≡ var
    → IsSplitOn groups v (also C (same_index_on u.index ix)) (passes_after_op u.op (take i us) var ix t) a b rh → IsSplitOn groups v C (passes_after (take i us) var ix t) a b ro → IsSplit groups v (same_index_on u.index ix) rh ro r
    → IsSplitOn groups v C (passes_after (take n us) var ix t) a b r
behind_same groups v C us u n i var ix t a b rh ro r next h e same sh so s = record {
  walks = λ m k met small c.
      s.walks m k met small
      ∙ folded (same_index_on u.index ix m k) (passes_after_op u.op (take i us) var ix t m k) (passes_after (take i us) var ix t m k) (walk a m k) (walk b m k) (walk rh m k) (walk ro m k)
      (λ f. sh.walks m k met small (and_from (C m k) (same_index_on u.index ix m k) c f)) (so.walks m k met small c)
      ∙ sym (ap (λ z. cond z (walk a m k) (walk b m k)) (passes_more m us u n i var ix t k next h e same));
  keeps = s.keeps;
}
  where
    folded : {A : Type 0} (s x y : Bool) (p q g l : A) → (s ≡ true → g ≡ cond x p q) → l ≡ cond y p q → cond s g l ≡ cond (cond s x y) p q
    folded true x y p q g l hit other = hit refl
    folded false x y p q g l hit other = other

-- behind an update that gives the place: it is known that both truths hold
pub hit_known : (groups : Grouping) (v : View) (C D P : Truth) (a b r : Diagram) → IsSplitOn groups v C P a b r → IsSplitOn groups v (also C D) P a b r
hit_known groups v C D P a b r s = split_on groups v C (also C D) P P a b r (λ m k met small c. ((and_parts (C m k) (D m k) c).0, refl)) s

pub hit_found : (groups : Grouping) (v : View) (C D P : Truth) (a b r : Diagram) → IsSplitOn groups v D P a b r → IsSplitOn groups v (also C D) P a b r
hit_found groups v C D P a b r s = split_on groups v D (also C D) P P a b r (λ m k met small c. ((and_parts (C m k) (D m k) c).1, refl)) s

-- where the indices give one place always, and where never
pub behind_always : (groups : Grouping) (v : View) (at : List Atom) (us : List Update) (u : Update) (n i var : ℕ) (ix : List Atom) (t : Term) (said : Verdict) (a b r : Diagram) → n ≡ i + 1 → i < length us → u ≡ get_or us i u → u.var ≡ var
    → MayBeSaid (same_index_on u.index at) said → said ≡ Always → IsSplitOn groups v (same_index_on at ix) (passes_after_op u.op (take i us) var ix t) a b r → IsSplitOn groups v (same_index_on at ix) (passes_after (take n us) var ix t) a b r
behind_always groups v at us u n i var ix t said a b r next h e same s is hit =
    split_on groups v (same_index_on at ix) (same_index_on at ix) (passes_after_op u.op (take i us) var ix t) (passes_after (take n us) var ix t) a b r
    (λ m k met small c. (c, sym (passes_more m us u n i var ix t k next h e same ∙ cond-true _ _ _ (same_through u.index at ix m k c ∙ (rw is at s) m k)))) hit

pub behind_never : (groups : Grouping) (v : View) (at : List Atom) (us : List Update) (u : Update) (n i var : ℕ) (ix : List Atom) (t : Term) (said : Verdict) (a b r : Diagram) → n ≡ i + 1 → i < length us → u ≡ get_or us i u → u.var ≡ var
    → MayBeSaid (same_index_on u.index at) said → said ≡ Never → IsSplitOn groups v (same_index_on at ix) (passes_after (take i us) var ix t) a b r → IsSplitOn groups v (same_index_on at ix) (passes_after (take n us) var ix t) a b r
behind_never groups v at us u n i var ix t said a b r next h e same s is other =
    split_on groups v (same_index_on at ix) (same_index_on at ix) (passes_after (take i us) var ix t) (passes_after (take n us) var ix t) a b r
    (λ m k met small c. (c, sym (passes_more m us u n i var ix t k next h e same ∙ cond-false _ _ _ (same_through u.index at ix m k c ∙ (rw is at s) m k)))) other

-- ---- a number put, and a number added
pub put_op : (groups : Grouping) (v : View) (C : Truth) (us : List Update) (var : ℕ) (ix : List Atom) (t : Term) (op : Op) (a : Atom) (e : Early) (x y r : Diagram) → op ≡ Put a
    → IsEarly (sizes groups v) (values_same a t) e → IsSplit groups v (early_holds e) x y r → IsSplitOn groups v C (passes_after_op op us var ix t) x y r
put_op groups v C us var ix t op a e x y r o early s = rw o (split_anywhere groups v C (early_holds e) (passes_after_op (Put a) us var ix t) x y r (λ m k met small. early.holds m k met.packet) s)

same_if : (a b c d : ℕ) → (a ≡ b → c ≡ d) → (c ≡ d → a ≡ b) → (a == b) ≡ (c == d)
same_if a b c d f g = by (a == b) refl
  where
    by : (t : Bool) → (a == b) ≡ t → (a == b) ≡ (c == d)
    by true e = e ∙ sym (eq-eqb c d (f (eqb-true a b e)))
    by false e = e ∙ sym (ne_eqb c d (λ h. eqb-false a b e (g h)))

less : (x t u n : ℕ) → x < 2 ^ 64 → t < 2 ^ 64 → u ≡ (t + (2 ^ 64 - n)) % 2 ^ 64 → n < 2 ^ 64 → (x == u) ≡ ((x + n) % 2 ^ 64 == t)
less x t u n hx ht e hn = same_if x u ((x + n) % 2 ^ 64) t (λ f. omega (arith, hx, ht, e, hn, f)) (λ f. omega (arith, hx, ht, e, hn, f))

number_op : (comps : ℕ) (t : Term) (num by less' x : ℕ) (k : List ℕ) → IsPacket comps k → TermFits comps t → x < 2 ^ 64 → num < 2 ^ 64 → by < 2 ^ 64 → less' ≡ (num + (2 ^ 64 - by)) % 2 ^ 64
    → (x == term_value (with_number t less') k) ≡ ((x + by) % 2 ^ 64 == term_value (with_number t num) k)
number_op comps (Num n) num by less' x k h f hx hn hb e = less x num less' by hx hn e hb
number_op comps (Plus c n) num by less' x k h f hx hn hb e =
    less x ((slice_index k c + num) % 2 ^ 64) ((slice_index k c + less') % 2 ^ 64) by hx (omega arith) (omega (arith, e, hn, hb)) hb

pub add_op : (groups : Grouping) (v : View) (C : Truth) (us : List Update) (i var : ℕ) (ix : List Atom) (t : Term) (num : ℕ) (op : Op) (by less' : ℕ) (x y r : Diagram) → op ≡ Add by → num < 2 ^ 64 → by < 2 ^ 64 → less' ≡ (num + (2 ^ 64 - by)) % 2 ^ 64
    → All (UpdateIn (sizes groups v)) us → All UpdateInRange us → TermFits (sizes groups v).comps t
    → IsSplitOn groups v C (passes_after (take i us) var ix (with_number t less')) x y r → IsSplitOn groups v C (passes_after_op op (take i us) var ix (with_number t num)) x y r
add_op groups v C us i var ix t num op by less' x y r o hn hb e fits ranges tf s =
    rw o (split_on groups v C C (passes_after (take i us) var ix (with_number t less')) (passes_after_op (Add by) (take i us) var ix (with_number t num)) x y r
    (λ m k met small c.
    let st : IsStore (updates m (take i us) k) = small_after (sizes groups v) m (take i us) k met.packet
    (All-take (UpdateIn (sizes groups v)) i us fits) (All-take UpdateInRange i us ranges) small in
    (c, number_op (sizes groups v).comps t num by less' (updates m (take i us) k (place_at var ix k)) k met.packet tf (st (place_at var ix k)) hn hb e)) s)

pub split_nothing : (groups : Grouping) (v : View) (C : Truth) (us : List Update) (i var : ℕ) (ix : List Atom) (t : Term) (a b r : Diagram) → i ≡ 0 → IsSplit groups v (λ m k. passes (State var ix t) m k) a b r → IsSplitOn groups v C (passes_after (take i us) var ix t) a b r
split_nothing groups v C us i var ix t a b r e s = rw e (split_anywhere groups v C (λ m k. passes (State var ix t) m k) (λ m k. passes (State var ix t) m k) a b r (λ m k met small. refl) s)

with_own : (t : Term) → with_number t (number_of t) ≡ t
with_own (Num n) = refl
with_own (Plus c p) = refl

-- behind all updates
pub split_behind : (groups : Grouping) (v : View) (us : List Update) (e : Early) (var : ℕ) (ix : List Atom) (t : Term) (n num : ℕ) (a b r : Diagram) → e ≡ Ask (State var ix t) → n ≡ length us → num ≡ number_of t
    → IsSplitOn groups v (same_index_on ix ix) (passes_after (take n us) var ix (with_number t num)) a b r → IsSplit groups v (λ m k. early_holds e (updates m us k) k) a b r
split_behind groups v us e var ix t n num a b r is all own s =
    let et : with_number t num ≡ t = ap (with_number t) own ∙ with_own t in
    let eu : take n us ≡ us = take_all n us (omega (arith, all)) in
    split_weaker groups v (passes_after (take n us) var ix (with_number t num)) (λ m k. early_holds e (updates m us k) k) a b r
    (λ m k met small. (λ i. passes (State var ix (et i)) (updates m (eu i) k) k) ∙ sym (ap (λ x. early_holds x (updates m us k) k) is))
    (split_whole groups v ix (passes_after (take n us) var ix (with_number t num)) a b r s)

pub with_number-fits : (comps : ℕ) (t : Term) (n : ℕ) → TermFits comps t → TermFits comps (with_number t n)
with_number-fits comps (Num x) n f = tt
with_number-fits comps (Plus c x) n f = f

-- what an update among those that fit puts
pub op_fits : (s : Sizes) (us : List Update) (u : Update) (i : ℕ) → i < length us → u ≡ get_or us i u → All (UpdateIn s) us → OpFits s.comps u.op
op_fits s us u i h e a = subst (λ (x : Update). OpFits s.comps x.op) (sym e) (All-get_or (UpdateIn s) us i u h a).op

pub early_first : (s : Sizes) (xs ys : List Atom) (t : Term) (e : Early) → 1 ≤ length xs → 1 ≤ length ys → IndexFits s.comps xs → IndexFits s.comps ys → t ≡ term_of (get_or ys 0 (Number 0))
    → (AtomFits s.comps (get_or xs 0 (Number 0)) → TermFits s.comps t → IsEarly s (values_same (get_or xs 0 (Number 0)) t) e)
    → IsEarly s (values_same (get_or xs 0 (Number 0)) (term_of (get_or ys 0 (Number 0)))) e
early_first s xs ys t e hx hy fx fy is i =
    subst (λ (u : Term). IsEarly s (values_same (get_or xs 0 (Number 0)) u) e) is
    (i (fx 0 (Number 0) (omega (arith, hx))) (rw is (term_of-fits s.comps (get_or ys 0 (Number 0)) (fy 0 (Number 0) (omega (arith, hy))))))

-- whether the atom that an operation puts has the value of a term
pub early_put : (s : Sizes) (op : Op) (a : Atom) (t t' : Term) (num : ℕ) (e : Early) → OpFits s.comps op → op ≡ Put a → TermFits s.comps t → t' ≡ with_number t num
    → (AtomFits s.comps a → TermFits s.comps t' → IsEarly s (values_same a t') e) → IsEarly s (values_same a (with_number t num)) e
early_put s op a t t' num e fits put tf same f =
    subst (λ (x : Term). IsEarly s (values_same a x) e) same (f (subst (OpFits s.comps) put fits) (rw same (with_number-fits s.comps t num tf)))

pub index_fits : (s : Sizes) (us : List Update) (u : Update) (i : ℕ) → i < length us → u ≡ get_or us i u → All (UpdateIn s) us → IndexFits s.comps u.index
index_fits s us u i h e a = subst (λ (x : Update). IndexFits s.comps x.index) (sym e) (All-get_or (UpdateIn s) us i u h a).index.atoms

-- Evaluation from arrays that agree on all that a policy reads.
use Rattle.std.proofs.Common.{◌≡◌, ℕ, Bool, true, false, cond, ◌||◌, ◌&&◌, inl, inr, List, [], ◌∷◌, Option, Some, None, map, refl, sym, ap, subst, ◌∙◌, bit_or}
use Rattle.std.specs.Prelude.{not, nat_eq, option_and_then, option_map}
use Rattle.std.specs.List.{list_any}
use Rattle.std.proofs.lemmas.Bool.{eqb-true, cond-true, cond-false, and_parts}
use Rattle.snap_core.specs.declared.policy.Update.{Update}
use Rattle.snap_core.specs.declared.policy.Pred.{Pred}
use Rattle.snap_core.specs.declared.policy.Pred.TheVariants.{Id, Drop, Field, State, Not', And', Or'}
use Rattle.snap_core.specs.declared.policy.Pol.{Pol}
use Rattle.snap_core.specs.declared.policy.Pol.TheVariants.{Filter, Set, Change, Par', Seq', If', Atomic'}
use Rattle.snap_core.specs.Arrays.{Arrays, same_place, place_at, value_of, number_after, update, has, meets}
use Rattle.snap_core.specs.Packets.{with_packet, no_packets, listed, union}
use Rattle.snap_core.specs.Meaning.{Meaning, eval, truth, vars_of, clash, any_clash, merge, all_packets, all_reads, all_writes, together, all_defined, all_together, logged}
use Rattle.snap_dep.specs.Dependencies.{Tests, Reads}
use Rattle.snap_dep.specs.Locality.{AgreeOn}

-- ---- truth
pub same_truth : (S : ℕ → Bool) (m n : Arrays) (k : List ℕ) → AgreeOn S m n → (x : Pred) → ((v : ℕ) → Tests x v → S v ≡ true) → truth x m k ≡ truth x n k
same_truth S m n k h Id c = refl
same_truth S m n k h Drop c = refl
same_truth S m n k h (Field i v) c = refl
same_truth S m n k h (State s es a) c = ap (λ v. nat_eq v (value_of a k)) (h (place_at s es k) (c s refl))
same_truth S m n k h (Not' _ x) c = ap not (same_truth S m n k h x c)
same_truth S m n k h (And' _ x _ y) c = λ i. same_truth S m n k h x (λ v t. c v (inl t)) i && same_truth S m n k h y (λ v t. c v (inr t)) i
same_truth S m n k h (Or' _ x _ y) c = λ i. same_truth S m n k h x (λ v t. c v (inl t)) i || same_truth S m n k h y (λ v t. c v (inr t)) i

-- ---- one update
pub update_agrees : (S : ℕ → Bool) (u : Update) (m n : Arrays) (k : List ℕ) → AgreeOn S m n → AgreeOn S (update m u k) (update n u k)
update_agrees S u m n k h q inside = by_place (same_place (place_at u.var u.index k) q) refl
  where
    by_place : (t : Bool) → same_place (place_at u.var u.index k) q ≡ t → update m u k q ≡ update n u k q
    by_place true s =
        let var : q.var ≡ u.var = sym (eqb-true u.var q.var (and_parts _ _ s).0) in
        cond-true _ _ _ s ∙ ap (λ x. number_after u.op x k) (h (place_at u.var u.index k) (ap S (sym var) ∙ inside)) ∙ sym (cond-true _ _ _ s)
    by_place false s = cond-false _ _ _ s ∙ h q inside ∙ sym (cond-false _ _ _ s)

-- ---- outcomes that differ outside S alone
pub record SameOn (S : ℕ → Bool) (a b : Meaning) : Type 0 where
  pub arrays : AgreeOn S a.arrays b.arrays
  pub packets : a.packets ≡ b.packets
  pub reads : a.reads ≡ b.reads
  pub writes : a.writes ≡ b.writes

-- both are undefined, or both are defined and P holds of them
abbrev pub Alike : {A : Type 0} → (A → A → Type 0) → Option A → Option A → Type 0
Alike P None None = Unit {0}
Alike P None (Some b) = ⊥
Alike P (Some a) None = ⊥
Alike P (Some a) (Some b) = P a b

abbrev pub Each : {A : Type 0} → (A → A → Type 0) → List A → List A → Type 0
Each P [] [] = Unit {0}
Each P [] (y ∷ ys) = ⊥
Each P (x ∷ xs) [] = ⊥
Each P (x ∷ xs) (y ∷ ys) = P x y × Each P xs ys

module _ (S : ℕ → Bool) where
  same_clash : (a b c d : Meaning) → SameOn S a b → SameOn S c d → clash a c ≡ clash b d
  same_clash a b c d x y = λ i. meets (x.writes i) (bit_or (y.reads i) (y.writes i)) || meets (y.writes i) (bit_or (x.reads i) (x.writes i))

  same_list_any : (a b : Meaning) → SameOn S a b → (os us : List Meaning) → Each (SameOn S) os us → list_any (clash a) os ≡ list_any (clash b) us
  same_list_any a b x [] [] h = refl
  same_list_any a b x [] (u ∷ us) h = absurd h
  same_list_any a b x (o ∷ os) [] h = absurd h
  same_list_any a b x (o ∷ os) (u ∷ us) h = λ i. same_clash a b o u x h.0 i || same_list_any a b x os us h.1 i

  same_any_clash : (os us : List Meaning) → Each (SameOn S) os us → any_clash os ≡ any_clash us
  same_any_clash [] [] h = refl
  same_any_clash [] (u ∷ us) h = absurd h
  same_any_clash (o ∷ os) [] h = absurd h
  same_any_clash (o ∷ os) (u ∷ us) h = λ i. same_list_any o u h.0 os us h.1 i || same_any_clash os us h.1 i

  same_merge : (m n : Arrays) → AgreeOn S m n → (os us : List Meaning) → Each (SameOn S) os us → AgreeOn S (merge m os) (merge n us)
  same_merge m n h [] [] e q inside = h q inside
  same_merge m n h [] (u ∷ us) e q inside = absurd e
  same_merge m n h (o ∷ os) [] e q inside = absurd e
  same_merge m n h (o ∷ os) (u ∷ us) e q inside = λ i. cond (has (e.0.writes i) q.var) (e.0.arrays q inside i) (same_merge m n h os us e.1 q inside i)

  same_packets : (os us : List Meaning) → Each (SameOn S) os us → all_packets os ≡ all_packets us
  same_packets [] [] h = refl
  same_packets [] (u ∷ us) h = absurd h
  same_packets (o ∷ os) [] h = absurd h
  same_packets (o ∷ os) (u ∷ us) h = λ i. union (h.0.packets i) (same_packets os us h.1 i)

  same_reads : (os us : List Meaning) → Each (SameOn S) os us → all_reads os ≡ all_reads us
  same_reads [] [] h = refl
  same_reads [] (u ∷ us) h = absurd h
  same_reads (o ∷ os) [] h = absurd h
  same_reads (o ∷ os) (u ∷ us) h = λ i. bit_or (h.0.reads i) (same_reads os us h.1 i)

  same_writes : (os us : List Meaning) → Each (SameOn S) os us → all_writes os ≡ all_writes us
  same_writes [] [] h = refl
  same_writes [] (u ∷ us) h = absurd h
  same_writes (o ∷ os) [] h = absurd h
  same_writes (o ∷ os) (u ∷ us) h = λ i. bit_or (h.0.writes i) (same_writes os us h.1 i)

  if_none : {A : Type 0} (P : A → A → Type 0) (s t : Bool) (a b : A) → s ≡ t → P a b → Alike P (cond s None (Some a)) (cond t None (Some b))
  if_none P s t a b e h = subst (λ t. Alike P (cond s None (Some a)) (cond t None (Some b))) e (same s)
    where
      same : (s : Bool) → Alike P (cond s None (Some a)) (cond s None (Some b))
      same true = tt
      same false = h

  together_alike : (m n : Arrays) → AgreeOn S m n → (os us : List Meaning) → Each (SameOn S) os us → Alike (SameOn S) (together m os) (together n us)
  together_alike m n h os us e = if_none (SameOn S) (any_clash os) (any_clash us) _ _ (same_any_clash os us e)
      (record { arrays = same_merge m n h os us e; packets = same_packets os us e; reads = same_reads os us e; writes = same_writes os us e })

  cons_alike : (x y : Meaning) → SameOn S x y → (a b : Option (List Meaning)) → Alike (Each (SameOn S)) a b
      → Alike (Each (SameOn S)) (option_map (λ xs. x ∷ xs) a) (option_map (λ xs. y ∷ xs) b)
  cons_alike x y h None None e = tt
  cons_alike x y h None (Some b) e = absurd e
  cons_alike x y h (Some a) None e = absurd e
  cons_alike x y h (Some a) (Some b) e = (h, e)

  all_defined_alike : (xs ys : List (Option Meaning)) → Each (Alike (SameOn S)) xs ys → Alike (Each (SameOn S)) (all_defined xs) (all_defined ys)
  all_defined_alike [] [] h = tt
  all_defined_alike [] (y ∷ ys) h = absurd h
  all_defined_alike (x ∷ xs) [] h = absurd h
  all_defined_alike (None ∷ xs) (None ∷ ys) h = tt
  all_defined_alike (None ∷ xs) (Some y ∷ ys) h = absurd h.0
  all_defined_alike (Some x ∷ xs) (None ∷ ys) h = absurd h.0
  all_defined_alike (Some x ∷ xs) (Some y ∷ ys) h = cons_alike x y h.0 (all_defined xs) (all_defined ys) (all_defined_alike xs ys h.1)

  then_alike : {A B : Type 0} (P : A → A → Type 0) (Q : B → B → Type 0) (f g : A → Option B) → ((a b : A) → P a b → Alike Q (f a) (g b))
      → (x y : Option A) → Alike P x y → Alike Q (option_and_then f x) (option_and_then g y)
  then_alike P Q f g next None None h = tt
  then_alike P Q f g next None (Some b) h = absurd h
  then_alike P Q f g next (Some a) None h = absurd h
  then_alike P Q f g next (Some a) (Some b) h = next a b h

  pub all_together_alike : (m n : Arrays) → AgreeOn S m n → (xs ys : List (Option Meaning)) → Each (Alike (SameOn S)) xs ys → Alike (SameOn S) (all_together m xs) (all_together n ys)
  all_together_alike m n h xs ys e = then_alike (Each (SameOn S)) (SameOn S) (together m) (together n) (together_alike m n h) (all_defined xs) (all_defined ys) (all_defined_alike xs ys e)

  logged_alike : (r s w v : ℕ) → r ≡ s → w ≡ v → (x y : Option Meaning) → Alike (SameOn S) x y → Alike (SameOn S) (option_map (logged r w) x) (option_map (logged s v) y)
  logged_alike r s w v p q None None h = tt
  logged_alike r s w v p q None (Some b) h = absurd h
  logged_alike r s w v p q (Some a) None h = absurd h
  logged_alike r s w v p q (Some a) (Some b) h = record { arrays = h.arrays; packets = h.packets; reads = λ i. bit_or (p i) (h.reads i); writes = λ i. bit_or (q i) (h.writes i) }

  choice_alike : (s t : Bool) → s ≡ t → (x y z u : Option Meaning) → Alike (SameOn S) x z → Alike (SameOn S) y u → Alike (SameOn S) (cond s x y) (cond t z u)
  choice_alike s t e x y z u a b = subst (λ t. Alike (SameOn S) (cond s x y) (cond t z u)) e (same s)
    where
      same : (s : Bool) → Alike (SameOn S) (cond s x y) (cond s z u)
      same true = a
      same false = b

  each_map : (f g : List ℕ → Option Meaning) → ((k : List ℕ) → Alike (SameOn S) (f k) (g k)) → (ks : List (List ℕ)) → Each (Alike (SameOn S)) (map f ks) (map g ks)
  each_map f g h [] = tt
  each_map f g h (k ∷ ks) = (h k, each_map f g h ks)

  -- the outcomes agree where the arrays agree on all that the policy reads
  pub reads_decide : (p : Pol) → ((v : ℕ) → Reads p v → S v ≡ true) → (m n : Arrays) (k : List ℕ) → AgreeOn S m n → Alike (SameOn S) (eval p m k) (eval p n k)
  reads_decide (Filter x) c m n k h =
      record { arrays = h; packets = ap (λ t. cond t (with_packet no_packets k) no_packets) (same_truth S m n k h x c); reads = refl; writes = refl }
  reads_decide (Set i a) c m n k h = record { arrays = h; packets = refl; reads = refl; writes = refl }
  reads_decide (Change u) c m n k h = record { arrays = update_agrees S u m n k h; packets = refl; reads = refl; writes = refl }
  reads_decide (Par' _ a _ b) c m n k h =
      all_together_alike m n h (eval a m k ∷ eval b m k ∷ []) (eval a n k ∷ eval b n k ∷ [])
      (reads_decide a (λ v r. c v (inl r)) m n k h, (reads_decide b (λ v r. c v (inr r)) m n k h, tt))
  reads_decide (Seq' _ a _ b) c m n k h =
      then_alike (SameOn S) (SameOn S) _ _
      (λ o u e. logged_alike o.reads u.reads o.writes u.writes e.reads e.writes _ _
      (all_together_alike o.arrays u.arrays e.arrays _ _
      (subst (λ s. Each (Alike (SameOn S)) (map (λ k'. eval b o.arrays k') (listed o.packets)) (map (λ k'. eval b u.arrays k') (listed s))) e.packets
      (each_map _ _ (λ k'. reads_decide b (λ v r. c v (inr r)) o.arrays u.arrays k' e.arrays) (listed o.packets)))))
      (eval a m k) (eval a n k) (reads_decide a (λ v r. c v (inl r)) m n k h)
  reads_decide (If' x _ a _ b) c m n k h =
      logged_alike (vars_of x) (vars_of x) 0 0 refl refl _ _
      (choice_alike (truth x m k) (truth x n k) (same_truth S m n k h x (λ v t. c v (inl t))) _ _ _ _
      (reads_decide a (λ v r. c v (inr (inl r))) m n k h) (reads_decide b (λ v r. c v (inr (inr r))) m n k h))
  reads_decide (Atomic' _ a) c m n k h = reads_decide a c m n k h

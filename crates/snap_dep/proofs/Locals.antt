-- Evaluation from arrays that agree on a set of variables closed under dependencies.
use Rattle.std.proofs.Common.{◌≡◌, ◌||◌, ℕ, Bool, true, false, cond, ◌⊎◌, inl, inr, List, [], ◌∷◌, Option, Some, None, map, refl, sym, ap, subst, ◌∙◌, bit_or}
use Rattle.std.specs.Prelude.{option_and_then, option_map}
use Rattle.std.proofs.lemmas.Bool.{cond-false}
use Rattle.snap_core.specs.declared.place.Place.{Place}
use Rattle.snap_core.specs.declared.policy.Pol.{Pol}
use Rattle.snap_core.specs.declared.policy.Pol.TheVariants.{Filter, Set, Change, Par', Seq', If', Atomic'}
use Rattle.snap_core.specs.Arrays.{Arrays, has}
use Rattle.snap_core.specs.Packets.{listed}
use Rattle.snap_core.specs.Meaning.{Meaning, eval, truth, vars_of, any_clash, merge, all_writes, together, all_defined, all_together, logged}
use Rattle.snap_core.proofs.Unwritten.{updated_keeps}
use Rattle.snap_dep.specs.Dependencies.{Reads, Writes}
use Rattle.snap_dep.specs.Locality.{AgreeOn, IsClosed}
use Rattle.snap_dep.proofs.Chains.{dec_writes}
use Rattle.snap_dep.proofs.Choices.{dec_either}
use Rattle.snap_core.proofs.Framed.{has-zero, has-or_neither}
use Rattle.snap_dep.proofs.Sets.{has-or, has-pow_other}
use Rattle.snap_dep.proofs.Agreement.{SameOn, Alike, Each, same_truth, update_agrees, reads_decide}

-- ---- logs of one variable: both sets or neither
has-or_same : (a b c d v : ℕ) → has a v ≡ has c v → has b v ≡ has d v → has (bit_or a b) v ≡ has (bit_or c d) v
has-or_same a b c d v p q = has-or a b v ∙ (λ i. p i || q i) ∙ sym (has-or c d v)

-- ---- a variable without an update stays as it was
abbrev pub IfDefined : {A : Type 0} → (A → Type 0) → Option A → Type 0
IfDefined P None = Unit {0}
IfDefined P (Some a) = P a

pub record Untouched (q : Place) (m : Arrays) (o : Meaning) : Type 0 where
  pub writes : has o.writes q.var ≡ false
  pub arrays : o.arrays q ≡ m q

abbrev pub Every : (Meaning → Type 0) → List Meaning → Type 0
Every P [] = Unit {0}
Every P (o ∷ os) = P o × Every P os

module _ (q : Place) where
  all_unwritten : (m : Arrays) (os : List Meaning) → Every (Untouched q m) os → has (all_writes os) q.var ≡ false
  all_unwritten m [] h = has-zero q.var
  all_unwritten m (o ∷ os) h = has-or_neither o.writes (all_writes os) q.var h.0.writes (all_unwritten m os h.1)

  merge_untouched : (m n : Arrays) (os : List Meaning) → Every (Untouched q n) os → merge m os q ≡ m q
  merge_untouched m n [] h = refl
  merge_untouched m n (o ∷ os) h = cond-false (has o.writes q.var) _ _ h.0.writes ∙ merge_untouched m n os h.1

  if_untouched : (P : Meaning → Type 0) (t : Bool) (o : Meaning) → P o → IfDefined P (cond t None (Some o))
  if_untouched P true o h = tt
  if_untouched P false o h = h

  abbrev EachDefined : Arrays → List (Option Meaning) → Type 0
  EachDefined m [] = Unit {0}
  EachDefined m (x ∷ xs) = IfDefined (Untouched q m) x × EachDefined m xs

  cons_untouched : (m : Arrays) (x : Meaning) → Untouched q m x → (d : Option (List Meaning)) → IfDefined (Every (Untouched q m)) d → IfDefined (Every (Untouched q m)) (option_map (λ xs. x ∷ xs) d)
  cons_untouched m x h None e = tt
  cons_untouched m x h (Some d) e = (h, e)

  every_defined : (m : Arrays) (xs : List (Option Meaning)) → EachDefined m xs → IfDefined (Every (Untouched q m)) (all_defined xs)
  every_defined m [] h = tt
  every_defined m (None ∷ xs) h = tt
  every_defined m (Some x ∷ xs) h = cons_untouched m x h.0 (all_defined xs) (every_defined m xs h.1)

  together_untouched : (m : Arrays) (d : Option (List Meaning)) → IfDefined (Every (Untouched q m)) d → IfDefined (Untouched q m) (option_and_then (together m) d)
  together_untouched m None h = tt
  together_untouched m (Some os) h = if_untouched (Untouched q m) (any_clash os) _ (record { writes = all_unwritten m os h; arrays = merge_untouched m m os h })

  all_untouched : (m : Arrays) (xs : List (Option Meaning)) → EachDefined m xs → IfDefined (Untouched q m) (all_together m xs)
  all_untouched m xs h = together_untouched m (all_defined xs) (every_defined m xs h)

  logged_untouched : (m n : Arrays) (r w : ℕ) → has w q.var ≡ false → n q ≡ m q → (x : Option Meaning) → IfDefined (Untouched q n) x → IfDefined (Untouched q m) (option_map (logged r w) x)
  logged_untouched m n r w a e None h = tt
  logged_untouched m n r w a e (Some o) h = record { writes = has-or_neither w o.writes q.var a h.writes; arrays = h.arrays ∙ e }

  then_untouched : (m : Arrays) (f : Meaning → Option Meaning) → ((o : Meaning) → Untouched q m o → IfDefined (Untouched q m) (f o)) → (x : Option Meaning) → IfDefined (Untouched q m) x → IfDefined (Untouched q m) (option_and_then f x)
  then_untouched m f next None h = tt
  then_untouched m f next (Some o) h = next o h

  choice_untouched : (m : Arrays) (t : Bool) (x y : Option Meaning) → IfDefined (Untouched q m) x → IfDefined (Untouched q m) y → IfDefined (Untouched q m) (cond t x y)
  choice_untouched m true x y a b = a
  choice_untouched m false x y a b = b

  map_untouched : (m : Arrays) (f : List ℕ → Option Meaning) → ((k : List ℕ) → IfDefined (Untouched q m) (f k)) → (ks : List (List ℕ)) → EachDefined m (map f ks)
  map_untouched m f h [] = tt
  map_untouched m f h (k ∷ ks) = (h k, map_untouched m f h ks)

  pub untouched : (p : Pol) → (Writes p q.var → ⊥) → (m : Arrays) (k : List ℕ) → IfDefined (Untouched q m) (eval p m k)
  untouched (Filter x) ne m k = record { writes = has-zero q.var; arrays = refl }
  untouched (Set c a) ne m k = record { writes = has-zero q.var; arrays = refl }
  untouched (Change u) ne m k = record { writes = has-pow_other u.var q.var ne; arrays = updated_keeps u m k q (has-pow_other u.var q.var ne) }
  untouched (Par' _ a _ b) ne m k = all_untouched m (eval a m k ∷ eval b m k ∷ []) (untouched a (λ w. ne (inl w)) m k, (untouched b (λ w. ne (inr w)) m k, tt))
  untouched (Seq' _ a _ b) ne m k =
      then_untouched m _
      (λ o h. logged_untouched m o.arrays o.reads o.writes h.writes h.arrays _
      (all_untouched o.arrays (map (λ k'. eval b o.arrays k') (listed o.packets)) (map_untouched o.arrays _ (λ k'. untouched b (λ w. ne (inr w)) o.arrays k') (listed o.packets))))
      (eval a m k) (untouched a (λ w. ne (inl w)) m k)
  untouched (If' x _ a _ b) ne m k =
      logged_untouched m m (vars_of x) 0 (has-zero q.var) refl _
      (choice_untouched m (truth x m k) (eval a m k) (eval b m k) (untouched a (λ w. ne (inl w)) m k) (untouched b (λ w. ne (inr w)) m k))
  untouched (Atomic' _ a) ne m k = untouched a ne m k

-- ---- two evaluations
abbrev pub IfBoth : {A : Type 0} → (A → A → Type 0) → Option A → Option A → Type 0
IfBoth P None y = Unit {0}
IfBoth P (Some a) None = Unit {0}
IfBoth P (Some a) (Some b) = P a b

-- one place is the same, and its variable was written by both or by neither
pub record SettledAt (q : Place) (a b : Meaning) : Type 0 where
  pub arrays : a.arrays q ≡ b.arrays q
  pub writes : has a.writes q.var ≡ has b.writes q.var

right_none : {A : Type 0} (P : A → A → Type 0) (x : Option A) → IfBoth P x None
right_none P None = tt
right_none P (Some a) = tt

module _ (q : Place) where
  if_both : (s t : Bool) (a b : Meaning) → SettledAt q a b → IfBoth (SettledAt q) (cond s None (Some a)) (cond t None (Some b))
  if_both true t a b h = tt
  if_both false true a b h = tt
  if_both false false a b h = h

  merge_both : (m n : Arrays) → m q ≡ n q → (os us : List Meaning) → Each (SettledAt q) os us → merge m os q ≡ merge n us q
  merge_both m n e [] [] h = e
  merge_both m n e [] (u ∷ us) h = absurd h
  merge_both m n e (o ∷ os) [] h = absurd h
  merge_both m n e (o ∷ os) (u ∷ us) h = λ i. cond (h.0.writes i) (h.0.arrays i) (merge_both m n e os us h.1 i)

  written_both : (os us : List Meaning) → Each (SettledAt q) os us → has (all_writes os) q.var ≡ has (all_writes us) q.var
  written_both [] [] h = refl
  written_both [] (u ∷ us) h = absurd h
  written_both (o ∷ os) [] h = absurd h
  written_both (o ∷ os) (u ∷ us) h = has-or_same o.writes (all_writes os) u.writes (all_writes us) q.var h.0.writes (written_both os us h.1)

  together_both : (m n : Arrays) → m q ≡ n q → (c d : Option (List Meaning)) → IfBoth (Each (SettledAt q)) c d → IfBoth (SettledAt q) (option_and_then (together m) c) (option_and_then (together n) d)
  together_both m n e None d h = tt
  together_both m n e (Some os) None h = right_none (SettledAt q) (together m os)
  together_both m n e (Some os) (Some us) h = if_both (any_clash os) (any_clash us) _ _ (record { arrays = merge_both m n e os us h; writes = written_both os us h })

  cons_both : (x y : Meaning) → SettledAt q x y → (c d : Option (List Meaning)) → IfBoth (Each (SettledAt q)) c d → IfBoth (Each (SettledAt q)) (option_map (λ xs. x ∷ xs) c) (option_map (λ ys. y ∷ ys) d)
  cons_both x y h None d e = tt
  cons_both x y h (Some c) None e = tt
  cons_both x y h (Some c) (Some d) e = (h, e)

  all_defined_both : (xs ys : List (Option Meaning)) → Each (IfBoth (SettledAt q)) xs ys → IfBoth (Each (SettledAt q)) (all_defined xs) (all_defined ys)
  all_defined_both [] [] h = tt
  all_defined_both [] (y ∷ ys) h = absurd h
  all_defined_both (x ∷ xs) [] h = absurd h
  all_defined_both (None ∷ xs) (y ∷ ys) h = tt
  all_defined_both (Some x ∷ xs) (None ∷ ys) h = right_none (Each (SettledAt q)) (option_map (λ l. x ∷ l) (all_defined xs))
  all_defined_both (Some x ∷ xs) (Some y ∷ ys) h = cons_both x y h.0 (all_defined xs) (all_defined ys) (all_defined_both xs ys h.1)

  all_both : (m n : Arrays) → m q ≡ n q → (xs ys : List (Option Meaning)) → Each (IfBoth (SettledAt q)) xs ys → IfBoth (SettledAt q) (all_together m xs) (all_together n ys)
  all_both m n e xs ys h = together_both m n e (all_defined xs) (all_defined ys) (all_defined_both xs ys h)

  map_both : (f g : List ℕ → Option Meaning) → ((k : List ℕ) → IfBoth (SettledAt q) (f k) (g k)) → (ks : List (List ℕ)) → Each (IfBoth (SettledAt q)) (map f ks) (map g ks)
  map_both f g h [] = tt
  map_both f g h (k ∷ ks) = (h k, map_both f g h ks)

  logged_both : (r s w v : ℕ) → has w q.var ≡ has v q.var → (x y : Option Meaning) → IfBoth (SettledAt q) x y → IfBoth (SettledAt q) (option_map (logged r w) x) (option_map (logged s v) y)
  logged_both r s w v e None y h = tt
  logged_both r s w v e (Some a) None h = tt
  logged_both r s w v e (Some a) (Some b) h = record { arrays = h.arrays; writes = has-or_same w a.writes v b.writes q.var e h.writes }

  choice_both : (s t : Bool) → s ≡ t → (x y z u : Option Meaning) → IfBoth (SettledAt q) x z → IfBoth (SettledAt q) y u → IfBoth (SettledAt q) (cond s x y) (cond t z u)
  choice_both s t e x y z u a b = subst (λ t. IfBoth (SettledAt q) (cond s x y) (cond t z u)) e (same s)
    where
      same : (s : Bool) → IfBoth (SettledAt q) (cond s x y) (cond s z u)
      same true = a
      same false = b

  untouched_both : (m n : Arrays) → m q ≡ n q → (x y : Option Meaning) → IfDefined (Untouched q m) x → IfDefined (Untouched q n) y → IfBoth (SettledAt q) x y
  untouched_both m n e None y a b = tt
  untouched_both m n e (Some x) None a b = tt
  untouched_both m n e (Some x) (Some y) a b = record { arrays = a.arrays ∙ e ∙ sym b.arrays; writes = a.writes ∙ sym b.writes }

module _ (S : ℕ → Bool) where
  from_alike : (q : Place) → S q.var ≡ true → (x y : Option Meaning) → Alike (SameOn S) x y → IfBoth (SettledAt q) x y
  from_alike q s None y h = tt
  from_alike q s (Some a) None h = tt
  from_alike q s (Some a) (Some b) h = record { arrays = h.arrays q s; writes = ap (λ w. has w q.var) h.writes }

  -- all places of S are settled
  abbrev Settled : Option Meaning → Option Meaning → Type 0
  Settled x y = (q : Place) → S q.var ≡ true → IfBoth (SettledAt q) x y

  then_both : (q : Place) (R : Type 0) (f g : Meaning → Option Meaning)
      → ((o u : Meaning) → ((p : Place) → S p.var ≡ true → SettledAt p o u) → (R → o.packets ≡ u.packets) → IfBoth (SettledAt q) (f o) (g u))
      → (x y : Option Meaning) → Settled x y → (R → Alike (SameOn S) x y) → IfBoth (SettledAt q) (option_and_then f x) (option_and_then g y)
  then_both q R f g next None y h e = tt
  then_both q R f g next (Some o) None h e = right_none (SettledAt q) (f o)
  then_both q R f g next (Some o) (Some u) h e = next o u h (λ r. (e r).packets)

  pub settled : (p : Pol) → IsClosed p S → (m n : Arrays) (k : List ℕ) → AgreeOn S m n → Settled (eval p m k) (eval p n k)
  settled (Filter x) c m n k h q s = record { arrays = h q s; writes = refl }
  settled (Set i a) c m n k h q s = record { arrays = h q s; writes = refl }
  settled (Change u) c m n k h q s = record { arrays = update_agrees S u m n k h q s; writes = refl }
  settled (Par' _ a _ b) c m n k h q s =
      all_both q m n (h q s) (eval a m k ∷ eval b m k ∷ []) (eval a n k ∷ eval b n k ∷ [])
      (settled a (λ v t d. c v t (inl d)) m n k h q s, (settled b (λ v t d. c v t (inr d)) m n k h q s, tt))
  settled (Seq' _ a _ b) c m n k h q s =
      then_both q ((v : ℕ) → Reads a v → S v ≡ true) _ _ (by_writes (λ m' n' k' h'. settled b (λ v t d. c v t (inl (inr d))) m' n' k' h' q s) (dec_writes b q.var)) (eval a m k) (eval a n k)
      (settled a (λ v t d. c v t (inl (inl d))) m n k h) (λ r. reads_decide S a r m n k h)
    where
      by_writes : ((m' n' : Arrays) (k' : List ℕ) → AgreeOn S m' n' → IfBoth (SettledAt q) (eval b m' k') (eval b n' k')) → Writes b q.var ⊎ (Writes b q.var → ⊥) → (o u : Meaning) → ((p : Place) → S p.var ≡ true → SettledAt p o u) → (((v : ℕ) → Reads a v → S v ≡ true) → o.packets ≡ u.packets)
          → IfBoth (SettledAt q) (option_map (logged o.reads o.writes) (all_together o.arrays (map (λ k'. eval b o.arrays k') (listed o.packets)))) (option_map (logged u.reads u.writes) (all_together u.arrays (map (λ k'. eval b u.arrays k') (listed u.packets))))
      by_writes ih (inl w) o u e packets =
          logged_both q o.reads u.reads o.writes u.writes (e q s).writes _ _
          (all_both q o.arrays u.arrays (e q s).arrays _ _
          (subst (λ l. Each (IfBoth (SettledAt q)) (map (λ k'. eval b o.arrays k') (listed o.packets)) (map (λ k'. eval b u.arrays k') (listed l))) (packets (λ v r. c v q.var (inr (r, w)) s))
          (map_both q _ _ (λ k'. ih o.arrays u.arrays k' (λ p inside. (e p inside).arrays)) (listed o.packets))))
      by_writes ih (inr ne) o u e packets =
          logged_both q o.reads u.reads o.writes u.writes (e q s).writes _ _
          (untouched_both q o.arrays u.arrays (e q s).arrays _ _
          (all_untouched q o.arrays _ (map_untouched q o.arrays _ (λ k'. untouched q b ne o.arrays k') (listed o.packets)))
          (all_untouched q u.arrays _ (map_untouched q u.arrays _ (λ k'. untouched q b ne u.arrays k') (listed u.packets))))
  settled (If' x _ a _ b) c m n k h q s =
      logged_both q (vars_of x) (vars_of x) 0 0 refl _ _
      (by_writes (settled a (λ v t d. c v t (inl (inl d))) m n k h q s) (settled b (λ v t d. c v t (inl (inr d))) m n k h q s) (dec_either (dec_writes a q.var) (dec_writes b q.var)))
    where
      by_writes : IfBoth (SettledAt q) (eval a m k) (eval a n k) → IfBoth (SettledAt q) (eval b m k) (eval b n k) → (Writes a q.var ⊎ Writes b q.var) ⊎ ((Writes a q.var ⊎ Writes b q.var) → ⊥) → IfBoth (SettledAt q) (cond (truth x m k) (eval a m k) (eval b m k)) (cond (truth x n k) (eval a n k) (eval b n k))
      by_writes first second (inl w) =
          choice_both q (truth x m k) (truth x n k) (same_truth S m n k h x (λ v t. c v q.var (inr (t, w)) s)) _ _ _ _
          first second
      by_writes first second (inr ne) =
          untouched_both q m n (h q s) _ _
          (choice_untouched q m (truth x m k) _ _ (untouched q a (λ w. ne (inl w)) m k) (untouched q b (λ w. ne (inr w)) m k))
          (choice_untouched q n (truth x n k) _ _ (untouched q a (λ w. ne (inl w)) n k) (untouched q b (λ w. ne (inr w)) n k))
  settled (Atomic' _ a) c m n k h q s = by_writes (dec_writes a q.var)
    where
      by_writes : Writes a q.var ⊎ (Writes a q.var → ⊥) → IfBoth (SettledAt q) (eval a m k) (eval a n k)
      by_writes (inl w) = from_alike q s _ _ (reads_decide S a (λ v r. c v q.var (inl r, inr w) s) m n k h)
      by_writes (inr ne) = untouched_both q m n (h q s) _ _ (untouched q a ne m k) (untouched q a ne n k)

  pub agreed : (a b : Meaning) (x y : Option Meaning) → x ≡ Some a → y ≡ Some b → Settled x y → AgreeOn S a.arrays b.arrays
  agreed a b x y e f h q s = (subst (λ z. IfBoth (SettledAt q) (Some a) z) f (subst (λ z. IfBoth (SettledAt q) z y) e (h q s))).arrays

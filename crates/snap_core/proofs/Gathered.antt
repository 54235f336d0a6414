-- What holds of each outcome holds of outcomes side by side.
use Rattle.std.proofs.Common.{ℕ, Bool, true, false, cond, List, [], ◌∷◌, Option, None, Some, map, arith}
use Rattle.std.specs.Prelude.{option_and_then, option_map, IfSome}
use Rattle.std.specs.List.{All}
use Rattle.std.proofs.lemmas.List.Elements.{All-cons, All-from_recursion, All-map, All-nil, All-tail, All-weaker}
use Rattle.snap_core.specs.Arrays.{Arrays}
use Rattle.snap_core.specs.Meaning.{Meaning, any_clash, merge, all_packets, all_reads, all_writes, together, all_defined, all_together, logged}
use Rattle.snap_core.proofs.Kept.{IfDefined}

abbrev pub beside_all : Arrays → List Meaning → Meaning
beside_all m os = record { arrays = merge m os; packets = all_packets os; reads = all_reads os; writes = all_writes os }

module _ (P : Meaning → Type 0) where
  one_more : (o : Meaning) (d : Option (List Meaning)) → P o → IfSome d (All P) → IfSome (option_map (λ os. o ∷ os) d) (All P)
  one_more o None h k = tt
  one_more o (Some os) h k = All-cons P o os h k

  all_defined_have : (xs : List (Option Meaning)) → All (IfDefined P) xs → IfSome (all_defined xs) (All P)
  all_defined_have [] h = All-nil P
  all_defined_have (None ∷ xs) h = tt
  all_defined_have (Some o ∷ xs) h = one_more o (all_defined xs) (h 0 (Some o) (omega arith)) (all_defined_have xs (All-tail (IfDefined P) (Some o) xs h))

  module _ (Q : Meaning → Type 0) (m : Arrays) (gather : (os : List Meaning) → All P os → Q (beside_all m os)) where
    by_clash : (os : List Meaning) (t : Bool) → All P os → IfDefined Q (cond t None (Some (beside_all m os)))
    by_clash os true h = tt
    by_clash os false h = gather os h

    defined_have : (d : Option (List Meaning)) → IfSome d (All P) → IfDefined Q (option_and_then (together m) d)
    defined_have None h = tt
    defined_have (Some os) h = by_clash os (any_clash os) h

    pub all_together_has : (xs : List (Option Meaning)) → All (IfDefined P) xs → IfDefined Q (all_together m xs)
    all_together_has xs h = defined_have (all_defined xs) (all_defined_have xs h)

    pub two_together_have : (x y : Option Meaning) → IfDefined P x → IfDefined P y → IfDefined Q (all_together m (x ∷ y ∷ []))
    two_together_have x y h k = all_together_has (x ∷ y ∷ []) (All-from_recursion (IfDefined P) (x ∷ y ∷ []) (h, (k, tt)))

pub weaker : (P Q : Meaning → Type 0) (o : Option Meaning) → ((x : Meaning) → P x → Q x) → IfDefined P o → IfDefined Q o
weaker P Q None f h = tt
weaker P Q (Some x) f h = f x h

pub logged_has : (P Q : Meaning → Type 0) (r w : ℕ) (o : Option Meaning) → ((x : Meaning) → P x → Q (logged r w x)) → IfDefined P o → IfDefined Q (option_map (logged r w) o)
logged_has P Q r w None f h = tt
logged_has P Q r w (Some x) f h = f x h

pub then_has : (P Q : Meaning → Type 0) (o : Option Meaning) (f : Meaning → Option Meaning) → ((x : Meaning) → P x → IfDefined Q (f x)) → IfDefined P o → IfDefined Q (option_and_then f o)
then_has P Q None f next h = tt
then_has P Q (Some x) f next h = next x h

pub either_has : (Q : Meaning → Type 0) (t : Bool) (x y : Option Meaning) → IfDefined Q x → IfDefined Q y → IfDefined Q (cond t x y)
either_has Q true x y a b = a
either_has Q false x y a b = b

pub each_has : {A : Type 0} (G : A → Type 0) (P : Meaning → Type 0) (f : A → Option Meaning) (ks : List A) → ((k : A) → G k → IfDefined P (f k)) → All G ks → All (IfDefined P) (map f ks)
each_has G P f ks h all = All-map (IfDefined P) f ks (All-weaker G (λ k. IfDefined P (f k)) h ks all)

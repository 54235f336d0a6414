-- What holds of each element, and of what a reading gives, step by step.
use Rattle.std.proofs.Common.{◌≡◌, ℕ, zero, suc, ◌≤◌, Bool, true, false, List, [], ◌∷◌, Option, None, Some, Result, Ok, Err, IfOk, IfSome, if◌then◌else◌, slice_get, nat_lt, refl, ltb-false}
use Rattle.std.specs.List.{All}
use Rattle.std.proofs.lemmas.List.Elements.{All-head, All-tail}
use Rattle.snap_core.specs.declared.program.Which.{Which}
use Rattle.snap_names.specs.Senses.{NameFault, after, or_fault}
use Rattle.snap_names.specs.Declarations.{within}

pub All-slice_get : {X : Type 0} (P : X → Type 0) (xs : List X) (i : ℕ) → All P xs → IfSome (slice_get xs i) P
All-slice_get P [] i h = tt
All-slice_get P (x ∷ xs) zero h = All-head P x xs h
All-slice_get P (x ∷ xs) (suc i) h = All-slice_get P xs i (All-tail P x xs h)

pub IfOk-or_fault : {A : Type 0} (P : A → Type 0) (f : NameFault) (o : Option A) → IfSome o P → IfOk (or_fault f o) P
IfOk-or_fault P f None h = tt
IfOk-or_fault P f (Some x) h = h

pub IfOk-after : {A B : Type 0} (P : A → Type 0) (Q : B → Type 0) (r : Result A NameFault) (f : A → Result B NameFault) → IfOk r P → ((x : A) → P x → IfOk (f x) Q) → IfOk (after r f) Q
IfOk-after P Q (Ok x) f h k = k x h
IfOk-after P Q (Err e) f h k = tt

-- whatever the first gives
pub IfOk-after_any : {A B : Type 0} (Q : B → Type 0) (r : Result A NameFault) (f : A → Result B NameFault) → ((x : A) → IfOk (f x) Q) → IfOk (after r f) Q
IfOk-after_any Q (Ok x) f k = k x
IfOk-after_any Q (Err e) f k = tt

pub IfOk-if : {A : Type 0} (P : A → Type 0) (b : Bool) (r : Result A NameFault) (f : NameFault) → IfOk r P → IfOk (if b then r else Err f) P
IfOk-if P true r f h = h
IfOk-if P false r f h = tt

pub IfOk-unless : {A : Type 0} (P : A → Type 0) (b : Bool) (f : NameFault) (r : Result A NameFault) → IfOk r P → IfOk (if b then Err f else r) P
IfOk-unless P true f r h = tt
IfOk-unless P false f r h = h

pub IfOk-unless_is : {A : Type 0} (P : A → Type 0) (b : Bool) (f : NameFault) (r : Result A NameFault) → (b ≡ false → IfOk r P) → IfOk (if b then Err f else r) P
IfOk-unless_is P true f r h = tt
IfOk-unless_is P false f r h = h refl

-- what is within a limit may use that it is
pub IfOk-within : {A : Type 0} (P : A → Type 0) (which : Which) (n most : ℕ) (r : Result A NameFault) → (n ≤ most → IfOk r P) → IfOk (within which n most r) P
IfOk-within P which n most r k = by_test (nat_lt most n) refl
  where
    by_test : (b : Bool) → nat_lt most n ≡ b → IfOk (within which n most r) P
    by_test true e = rw e tt
    by_test false e = rw e (k (ltb-false most n e))

pub IfOk-both : {A : Type 0} (P Q : A → Type 0) (r : Result A NameFault) → IfOk r P → IfOk r Q → IfOk r (λ x. P x × Q x)
IfOk-both P Q (Ok x) h k = (h, k)
IfOk-both P Q (Err f) h k = tt

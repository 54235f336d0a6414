-- Where each step of a command gives one result at most, the command ends in one way.
use Rattle.std.proofs.Common.{◌≡◌, ◌⊎◌, ℕ, ◌<◌, ◌≤◌, List, [], Result, Ok, Err, refl, sym, ◌∙◌, subst, inl, inr, arith}
use Rattle.snap_cli.proofs.Shared.{core_program, Ending, IsSameEnding, ProgramOf, Refusal, SpellsOneProgram}

-- whatever has the one property and whatever has the other are related
abbrev pub Agree : {A B : Type 0} → (A → B → Type 0) → (A → Type 0) → (B → Type 0) → Type 0
Agree {A} {B} S P Q = (a : A) (b : B) → P a → Q b → S a b

-- one refusal, or two values that are related
abbrev pub Alike : {X : Type 0} → (X → X → Type 0) → Result X Refusal → Result X Refusal → Type 0
Alike R (Ok x) (Ok z) = R x z
Alike R (Err e) (Err f) = e ≡ f
Alike R a b = ⊥

-- what is made of a step's refusal, or what follows its value
abbrev pub After : {X Y : Type 0} → (Result X Refusal → Type 0) → (Refusal → Y → Type 0) → (X → Y → Type 0) → Y → Type 0
After {X} P Refuses Rest y = ((e : Refusal) × P (Err e) × Refuses e y) ⊎ ((x : X) × P (Ok x) × Rest x y)

module _ {X : Type 0} {R : X → X → Type 0} {P Q : Result X Refusal → Type 0} (once : Agree (Alike R) P Q) where
  -- what follows a value that is known
  pub past : {Z : Type 0} (G : Refusal → Z → Type 0) (B : X → Z → Type 0) (x : X) → P (Ok x) → (b : Z) → After Q G B b → (z : X) × R x z × Q (Ok z) × B z b
  past G B x h b (inl (f, k, is)) = absurd (once (Ok x) (Err f) h k)
  past G B x h b (inr (z, k, rest)) = (z, once (Ok x) (Ok z) h k, k, rest)

  -- **what is made of one refusal agrees, and so does what follows values that are related: then so does the whole**
  pub after_once : {Y Z : Type 0} {S : Y → Z → Type 0} (F : Refusal → Y → Type 0) (G : Refusal → Z → Type 0) (A : X → Y → Type 0) (B : X → Z → Type 0)
      → ((e : Refusal) → Agree S (F e) (G e)) → ((x z : X) → R x z → P (Ok x) → Q (Ok z) → Agree S (A x) (B z)) → Agree S (After P F A) (After Q G B)
  after_once F G A B refused rest a b (inl (e, h, is)) (inl (f, k, was)) = refused f a b (subst (λ x. F x a) (once (Err e) (Err f) h k) is) was
  after_once F G A B refused rest a b (inl (e, h, is)) (inr (z, k, more)) = absurd (once (Err e) (Ok z) h k)
  after_once F G A B refused rest a b (inr (x, h, less)) k = let (z, same, is, more) = past G B x h b k in rest x z same h is a b less more

-- the same behind a step whose values are equal
pub next_once : {X Y Z : Type 0} {P : Result X Refusal → Type 0} {S : Y → Z → Type 0} → Agree (Alike ◌≡◌) P P
    → (F : Refusal → Y → Type 0) (G : Refusal → Z → Type 0) (A : X → Y → Type 0) (B : X → Z → Type 0)
    → ((e : Refusal) → Agree S (F e) (G e)) → ((x : X) → P (Ok x) → Agree S (A x) (B x)) → Agree S (After P F A) (After P G B)
next_once once F G A B refused rest = after_once once F G A B refused (λ x z same h k a b m n. rest z k a b (subst (λ x. A x a) same m) n)

-- a refusal is how the command ends
pub relayed : (e : Refusal) → Agree IsSameEnding (λ a. a ≡ Err e) (λ a. a ≡ Err e)
relayed e a b h k = inl (h ∙ sym k)

-- a step whose results are equal
pub alike : {X : Type 0} {P Q : Result X Refusal → Type 0} → Agree ◌≡◌ P Q → Agree (Alike ◌≡◌) P Q
alike one (Ok x) (Ok z) h k = let e = one (Ok x) (Ok z) h k in cc
alike one (Ok x) (Err f) h k = let e = one (Ok x) (Err f) h k in absurd (cc)
alike one (Err e) (Ok z) h k = let e = one (Err e) (Ok z) h k in absurd (cc)
alike one (Err e) (Err f) h k = let e = one (Err e) (Err f) h k in cc

-- a text's program is one but for where it lies in memory
pub one_program : SpellsOneProgram → (text : List ℕ) → Agree (Alike (λ p q. core_program p ≡ core_program q)) (ProgramOf text) (ProgramOf text)
one_program spells text (Ok p) (Ok q) h k = spells text (Ok p) (Ok q) h k
one_program spells text (Ok p) (Err f) h k = spells text (Ok p) (Err f) h k
one_program spells text (Err e) (Ok q) h k = spells text (Err e) (Ok q) h k
one_program spells text (Err e) (Err f) h k = spells text (Err e) (Err f) h k

-- two cases that exclude each other
pub cases_once : {A B C D S : Type 0} → (A → C → S) → (A → D → ⊥) → (C → B → ⊥) → (B → D → S) → A ⊎ B → C ⊎ D → S
cases_once first left right second (inl h) (inl k) = first h k
cases_once first left right second (inl h) (inr k) = absurd (left h k)
cases_once first left right second (inr h) (inl k) = absurd (right k h)
cases_once first left right second (inr h) (inr k) = second h k

-- a file that is too long is refused, whatever it spells
pub within_once : {Y : Type 0} (n size : ℕ) (r : Y) (A B : Y → Type 0) → Agree ◌≡◌ A B
    → Agree ◌≡◌ (λ y. ((n < size) × (y ≡ r)) ⊎ ((size ≤ n) × A y)) (λ y. ((n < size) × (y ≡ r)) ⊎ ((size ≤ n) × B y))
within_once n size r A B once a b =
    cases_once (λ h k. h.1 ∙ sym k.1) (λ h k. omega (arith, h.0, k.0)) (λ h k. omega (arith, h.0, k.0)) (λ h k. once a b h.1 k.1)

-- ---- commands that end well just where there is a text
-- two texts that are related, or refusals that tell the same
abbrev pub IsSameOutcome : (List ℕ → List ℕ → Type 0) → Result (List ℕ) Refusal → Result (List ℕ) Refusal → Type 0
IsSameOutcome T (Ok a) (Ok b) = T a b
IsSameOutcome T (Err e) (Err f) = IsSameEnding (Err e) (Err f)
IsSameOutcome T a b = ⊥

pub refused_alike : (T : List ℕ → List ℕ → Type 0) (e : Refusal) → Agree (IsSameOutcome T) (λ r. r ≡ Err e) (λ r. r ≡ Err e)
refused_alike T e a b h k = rw h (rw k (inl refl))

module _ {T : List ℕ → List ℕ → Type 0} {Gives : Result (List ℕ) Refusal → Type 0} (once : Agree (IsSameOutcome T) Gives Gives) where
  pub ends_once : (Ends : Ending → Type 0) → (Ends (Ok tt) → (text : List ℕ) × Gives (Ok text)) → ((e : Refusal) → Ends (Err e) → Gives (Err e)) → Agree IsSameEnding Ends Ends
  ends_once Ends well ill (Ok u) (Ok v) h k = inl refl
  ends_once Ends well ill (Ok u) (Err f) h k = let given = well h in absurd (once (Ok given.0) (Err f) given.1 (ill f k))
  ends_once Ends well ill (Err e) (Ok v) h k = let given = well k in absurd (once (Err e) (Ok given.0) (ill e h) given.1)
  ends_once Ends well ill (Err e) (Err f) h k = once (Err e) (Err f) (ill e h) (ill f k)

  pub text_once : {S : List ℕ → List ℕ → Type 0} (No : Refusal → Type 0) (Is : List ℕ → Type 0) → ((e : Refusal) → No e → Gives (Err e)) → ((text : List ℕ) → Is text → Gives (Ok text))
      → Agree S (λ a. a ≡ []) (λ b. b ≡ []) → Agree S Is Is → Agree S (λ a. ((e : Refusal) × No e × (a ≡ [])) ⊎ Is a) (λ b. ((e : Refusal) × No e × (b ≡ [])) ⊎ Is b)
  text_once No Is ill well none some a b =
      cases_once (λ h k. none a b h.2 k.2) (λ h k. once (Err h.0) (Ok b) (ill h.0 h.1) (well b k)) (λ h k. once (Err h.0) (Ok a) (ill h.0 h.1) (well a k)) (λ h k. some a b h k)

-- ---- two least pairs are one
pub least_once : (a b c d : ℕ) → ((c < a) ⊎ ((c ≡ a) × (d < b)) → ⊥) → ((a < c) ⊎ ((a ≡ c) × (b < d)) → ⊥) → (a ≡ c) × (b ≡ d)
least_once a b c d h k =
    let up : a < c → ⊥ = λ l. k (inl l) in
    let down : c < a → ⊥ = λ l. h (inl l) in
    let first : a ≡ c = omega (arith, up, down) in
    let over : b < d → ⊥ = λ l. k (inr (first, l)) in
    let under : d < b → ⊥ = λ l. h (inr (sym first, l)) in
    (first, omega (arith, over, under))

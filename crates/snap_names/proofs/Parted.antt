-- Readings by the form of a tree, and the faults of a choice.
use Rattle.std.proofs.Common.{◌≡◌, ◌≢◌, ℕ, List, length, Result, Ok, Err, refl, ap, sym, ◌∙◌, subst}
use Rattle.snap_parse.specs.declared.tree.Both.{Both}
use Rattle.snap_parse.specs.declared.tree.Single.{Single}
use Rattle.snap_names.specs.Parts.{Scope, Part, Sizes, AreBodies, itself, HasRead, Reads, env_in}
use Rattle.snap_names.specs.Senses.{NameFault, NoMemory, Arities, after}
use Rattle.snap_names.specs.Core.{CorePolicy, choice, filter}
use Rattle.snap_names.specs.Reading.{Env, Reading, TestReading, whole_test, read_both, read_singles, read_either, read_boths}
use Rattle.snap_names.proofs.Operands.{eithers, boths, of, several}

-- One operand stands alone, and others are joined.
pub read_both-several : (e : Env) (at : ℕ) (xs : List Single) (a : Arities) → length xs ≢ 1 → read_both e (of (boths at) xs) a ≡ after (read_singles e (of (boths at) xs) a) whole_test
read_both-several e at xs a = several (boths at) (λ t. read_both e t a ≡ after (read_singles e t a) whole_test) (λ t x y z h. refl) (λ x y. refl) xs (λ _. refl)

pub read_either-several : (e : Env) (at : ℕ) (xs : List Both) (a : Arities) → length xs ≢ 1 → read_either e (of (eithers at) xs) a ≡ after (read_boths e (of (eithers at) xs) a) whole_test
read_either-several e at xs a = several (eithers at) (λ t. read_either e t a ≡ after (read_boths e t a) whole_test) (λ t x y z h. refl) (λ x y. refl) xs (λ _. refl)

-- Equal readings read the same.
pub Reads-same : (s : Scope) (read same : Env → Arities → Reading) (old new : Sizes) (result : Result Part NameFault) → ((e : Env) (arities : Arities) → read e arities ≡ same e arities) →
    Reads s read old new result → Reads s same old new result
Reads-same s read same old new result is h = subst (λ r. Reads s r old new result) (λ i. λ e arities. is e arities i) h

-- A refusal is that of the reading.
pub Reads-err : (s : Scope) (read : Env → Arities → Reading) (old new : Sizes) (result : Result Part NameFault) (f : NameFault) → result ≡ Err f →
    (f ≢ NoMemory → (lets : List CorePolicy) → AreBodies s.lets.items lets → read (env_in s lets) old.arities.items ≡ Err f) → Reads s read old new result
Reads-err s read old new result f is h = subst (λ r. Reads s read old new r) (sym is) h

-- The faults of the two sides of a choice.
pub choice-met_refused : (test : TestReading) (met unmet : Arities → Reading) (old a : Sizes) (x : Part) (f : NameFault) →
    HasRead filter test old a x → met a.arities.items ≡ Err f →
    after test (λ x. after (met x.1) (λ p. after {B = CorePolicy × Arities} (unmet p.1) (λ q. Ok (choice x.0 p.0 q.0, q.1)))) ≡ Err f
choice-met_refused test met unmet old a x f h k =
    ap (λ y. after y (λ x. after (met x.1) (λ p. after {B = CorePolicy × Arities} (unmet p.1) (λ q. Ok (choice x.0 p.0 q.0, q.1))))) h.reading
    ∙ ap (λ y. after y (λ p. after {B = CorePolicy × Arities} (unmet p.1) (λ q. Ok (choice h.value p.0 q.0, q.1)))) k

pub choice-unmet_refused : (test : TestReading) (met unmet : Arities → Reading) (old a b : Sizes) (x p : Part) (f : NameFault) →
    HasRead filter test old a x → HasRead itself (met a.arities.items) a b p → unmet b.arities.items ≡ Err f →
    after test (λ x. after (met x.1) (λ p. after {B = CorePolicy × Arities} (unmet p.1) (λ q. Ok (choice x.0 p.0 q.0, q.1)))) ≡ Err f
choice-unmet_refused test met unmet old a b x p f h k l =
    ap (λ y. after y (λ x. after (met x.1) (λ p. after {B = CorePolicy × Arities} (unmet p.1) (λ q. Ok (choice x.0 p.0 q.0, q.1))))) h.reading
    ∙ ap (λ y. after y (λ p. after {B = CorePolicy × Arities} (unmet p.1) (λ q. Ok (choice h.value p.0 q.0, q.1)))) k.reading
    ∙ ap (λ y. after {B = CorePolicy × Arities} y (λ q. Ok (choice h.value k.value q.0, q.1))) l

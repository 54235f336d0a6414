-- Codes of terms, and the packets that they make.
use Rattle.std.proofs.Common.{◌≡◌, ◌<◌, ◌+◌, ℕ, true, List, [], ◌∷◌, ◌++◌, take, get_or, length, refl, sym, ap, ◌∙◌, add-one, append_assoc}
use Rattle.std.proofs.Math.Seq.{take-suc}
use Rattle.std.specs.Prelude.{Option, Some, None, is_some}
use Rattle.snap_core.specs.declared.policy.Term.{Term}
use Rattle.snap_core.specs.declared.policy.Term.TheVariants.{Num, Plus}
use Rattle.snap_core.specs.Tests.{term_value}
use Rattle.snap_core.specs.Terms.{term_code}
use Rattle.snap_equal.specs.Made.{packet_of}

packet_of-term_code : (t : Term) (q k : List ℕ) → packet_of (term_code t ++ q) k ≡ term_value t k ∷ packet_of q k
packet_of-term_code (Num n) q k = refl
packet_of-term_code (Plus c p) q k = refl

-- one term more, which has the next number of xs
pub packet_of-more : (code : List ℕ) (t : Term) (r k xs : List ℕ) (i : ℕ) → i < length xs → term_value t k ≡ get_or xs i 0
    → packet_of (code ++ (term_code t ++ r)) k ≡ take i xs ++ packet_of (term_code t ++ r) k → packet_of ((code ++ term_code t) ++ r) k ≡ take (i + 1) xs ++ packet_of r k
packet_of-more code t r k xs i l e h =
    ap (λ q. packet_of q k) (append_assoc code (term_code t) r)
    ∙ h
    ∙ ap (λ q. take i xs ++ q) (packet_of-term_code t r k ∙ ap (λ x. x ∷ packet_of r k) e)
    ∙ sym (append_assoc (take i xs) (get_or xs i 0 ∷ []) (packet_of r k))
    ∙ ap (λ q. q ++ packet_of r k) (sym (rw add-one (take-suc xs i 0 l)))

-- what holds where a number is found holds where one is there
pub by_some : (A : Type 0) (o : Option ℕ) → is_some o ≡ true → ((d : ℕ) → o ≡ Some d → A) → A
by_some A None e f = absurd (cc)
by_some A (Some d) e f = f d refl

-- The bytes of packets.
use Rattle.std.proofs.Common.{◌≡◌, ℕ, List, [], ◌∷◌, ◌++◌, sym, ap, ◌∙◌, append_assoc, append-nil}
use Rattle.std.specs.Int.{to_be_bytes}
use mir.Syntax.{w64}
use Rattle.snap_net.specs.Frames.{packet_bytes}

-- one more number
pub one_more : (xs : List ℕ) (x : ℕ) (front back rest : List ℕ) → to_be_bytes w64 x ≡ front → front ++ back ≡ rest → packet_bytes (xs ++ x ∷ []) ++ back ≡ packet_bytes xs ++ rest
one_more [] x front back rest e f = ap (λ l. l ++ back) (append-nil (to_be_bytes w64 x) ∙ e) ∙ f
one_more (y ∷ ys) x front back rest e f =
    append_assoc (to_be_bytes w64 y) (packet_bytes (ys ++ x ∷ [])) back
    ∙ ap (λ l. to_be_bytes w64 y ++ l) (one_more ys x front back rest e f)
    ∙ sym (append_assoc (to_be_bytes w64 y) (packet_bytes ys) rest)

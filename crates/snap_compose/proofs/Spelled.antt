-- Outs are equal where their codes are.
use Rattle.std.proofs.Common.{◌≡◌, ℕ, Bool, List, [], ◌++◌, ap}
use Rattle.std.specs.Bool.{Decides}
use Rattle.std.specs.Str.{bytes_eq}
use Rattle.std.proofs.lemmas.Bool.Decides.{same_from_decides, Decides-like}
use Rattle.std.proofs.lemmas.Slice.Eq.{bytes_eq-Decides}
use Rattle.snap_core.specs.declared.policy.Atom.{Atom}
use Rattle.snap_diagrams.specs.LeafCodes.{out_code}
use Rattle.snap_diagrams.proofs.Differ.{same_out}

pub same_by_code : (a b : List (ℕ × Atom)) → out_code a ≡ out_code b → a ≡ b
same_by_code a b e = (same_out a b [] [] (ap (λ c. c ++ []) e)).0

pub spelled : (a b : List (ℕ × Atom)) (r : Bool) → Decides r (a ≡ b) → r ≡ bytes_eq (out_code a) (out_code b)
spelled a b r d = same_from_decides r (bytes_eq (out_code a) (out_code b)) d (Decides-like (bytes_eq (out_code a) (out_code b)) (same_by_code a b) (ap out_code) (bytes_eq-Decides (out_code a) (out_code b)))

-- What holds of each file that a shelf may tell.
use Rattle.std.proofs.Common.{◌≡◌, ℕ, List, Option, Some, None, IfSome, subst}
use Rattle.snap_io.specs.Files.{Files, file_of}

-- what holds of each file that a shelf may tell holds of the one that it tells
pub where_told : (told : Option Files) (P Q : Files → Type 0) → ((files : Files) → P files → Q files) → IfSome told P → IfSome told Q
where_told None P Q f h = tt
where_told (Some files) P Q f h = f files h

pub whatever_told : (told : Option Files) (Q : Files → Type 0) → ((files : Files) → Q files) → IfSome told Q
whatever_told None Q f = tt
whatever_told (Some files) Q f = f files

-- what holds of each file that a shelf may tell, from two facts
pub where_both_told : (told : Option Files) (P Q R : Files → Type 0) → ((files : Files) → P files → Q files → R files) → IfSome told P → IfSome told Q → IfSome told R
where_both_told None P Q R f h k = tt
where_both_told (Some files) P Q R f h k = f files h k

-- what a step makes of each file that a shelf tells, where it tells the same files as before
pub told-on : (told told' : Option Files) (name name' : List ℕ) (P Q : List ℕ → Type 0) → told' ≡ told → name' ≡ name → IfSome told (λ files. P (file_of files name))
    → IfSome told' (λ files. P (file_of files name') → Q (file_of files name')) → IfSome told (λ files. Q (file_of files name))
told-on told told' name name' P Q same called came steps =
    where_both_told told (λ files. P (file_of files name)) (λ files. P (file_of files name) → Q (file_of files name)) (λ files. Q (file_of files name)) (λ files p f. f p) came
    (subst (λ o. IfSome o (λ files. P (file_of files name) → Q (file_of files name))) same (subst (λ n. IfSome told' (λ files. P (file_of files n) → Q (file_of files n))) called steps))

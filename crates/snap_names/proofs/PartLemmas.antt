-- Parts stand for core policies as more is counted.
use Rattle.std.proofs.Common.{◌≡◌, ℕ, ◌+◌, Option, Some, None, arith}
use Rattle.snap_names.specs.Parts.{Part, IsPart, IsPartOf}
use Rattle.snap_names.specs.Core.{CorePolicy}
use Rattle.snap_names.specs.Declarations.{capped}

pub IsPart-later : (p : CorePolicy) (all later n : ℕ) (part : Part) → capped later ≡ capped (all + n) → IsPart p all part → IsPart p later part
IsPart-later p all later n part e h = record { is_test = h.is_test; weight = h.weight; built = λ small. h.built (omega arith) }

pub IsPartOf-later : {A : Type 0} (form : A → CorePolicy) (x : Option A) (all later n : ℕ) (part : Option Part) → capped later ≡ capped (all + n) → IsPartOf form x all part → IsPartOf form x later part
IsPartOf-later form (Some x) all later n (Some part) e h = IsPart-later (form x) all later n part e h
IsPartOf-later form None all later n (Some part) e h = h
IsPartOf-later form None all later n None e h = h
IsPartOf-later form (Some x) all later n None e h = h

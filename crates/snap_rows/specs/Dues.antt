-- Updates that are due, as references lend them.
use Rattle.std.specs.Prelude.{List, [], ◌∷◌, map}
use Rattle.std.proofs.Common.{Bor}
use Rattle.snap_core.specs.declared.policy.Update.{Update}
use Rattle.snap_rows.specs.declared.dues.First.{First}
use Rattle.snap_rows.specs.declared.dues.First.TheVariants.{Nothing, One, Two}

abbrev pub first_of : First → List Update
first_of Nothing = []
first_of (One u) = u.now ∷ []
first_of (Two u v) = u.now ∷ v.now ∷ []

abbrev pub seen : List (Bor Update) → List Update
seen xs = map (λ u. u.now) xs

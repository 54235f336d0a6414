-- What is left of a copy's way is measured in both versions.
use Rattle.std.proofs.Common.{⊎_elim, arith}
use Rattle.std.proofs.lemmas.List.Elements.{All-weaker}
use Rattle.snap_rows.specs.declared.tables.Tables.{Tables}
use Rattle.snap_rows.specs.Form.{IsWellFormed}
use Rattle.snap_rows.specs.Rules.{IsValid}
use Rattle.snap_rows.specs.Bound.{HopsAreBounded, IsBounded, IsWithin, most_hops_by}
use Rattle.snap_rows.proofs.Bounded.{Measures, bounded}
use Rattle.snap_rows.proofs.Falls.{measures as measures_two}
use Rattle.snap_rows.proofs.FallsOne.{measures as measures_one}
use Rattle.snap_rows.proofs.StateNumbers.{enough}

pub measures : (t : Tables) → IsValid t → IsWellFormed t → Measures t
measures t valid form = ⊎_elim (λ one. measures_one t valid form one) (λ two. measures_two t valid form two) form.version

pub hops_are_bounded : HopsAreBounded
hops_are_bounded t valid form ns have m es s hs run = All-weaker (IsBounded t) (IsWithin t (most_hops_by t ns))
    (λ c b. record { at = b.at; home = b.home; hops = (let h = b.most in let few = enough t valid form ns have in omega arith) })
    s.flying (bounded t valid form (measures t valid form) m es s hs run)

-- The placement gives each array a switch.
use Rattle.std.proofs.Common.{◌≡◌, ℕ, ◌/◌, ◌<◌, ◌≤◌, [], ◌∷◌, length, sym, ap, subst, arith}
use Rattle.std.proofs.lemmas.List.Elements.{All-cons, All-nil}
use Rattle.std.proofs.lemmas.List.FromFn.{length-map-range_with_len}
use Rattle.snap_core.specs.declared.program.Program.{Program}
use Rattle.snap_dep.specs.Dependencies.{Tied}
use Rattle.snap_names.specs.Declarations.{CoreProgram}
use Rattle.snap_placement.specs.Answer.{GivesSwitches}
use Rattle.snap_demo.specs.Row.{stated_places, stated_topology, switch_name, switches}
use Rattle.snap_demo.specs.Stated.{IsStated, arrays}

pub stated_vars : (n : ℕ) (p : Program) → IsStated n p → p.arrays ≡ arrays
stated_vars n p stated = ap (λ (c : CoreProgram). c.arrays) stated

pub places_fit : (n : ℕ) (p : Program) → 1 ≤ n → IsStated n p → (Tied p.body 0 1 → ⊥) → GivesSwitches p (stated_topology n) (stated_places n)
places_fit n p some stated apart = record {
  count = sym (ap length (stated_vars n p stated));
  below = All-cons (λ at. at < length (switches n)) (n / 2) (0 ∷ []) (omega (arith, count)) (All-cons (λ at. at < length (switches n)) 0 [] (omega (arith, count)) (All-nil (λ at. at < length (switches n))));
  together = λ a b less within tied.
      let w : b < 2 = within in
      let first : a ≡ 0 = omega (arith, less, w) in
      let second : b ≡ 1 = omega (arith, less, w) in
      absurd (apart (subst (λ x. Tied p.body x 1) first (subst (Tied p.body a) second tied)));
}
  where
    count : length (switches n) ≡ n
    count = length-map-range_with_len switch_name 0 n

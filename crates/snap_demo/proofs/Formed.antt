-- The program is in form, and its arrays aren't tied.
use Rattle.std.proofs.Common.{◌≡◌, ℕ, ◌++◌, length, refl, sym, ap, subst, inl, inr, arith, lit≤}
use Rattle.std.specs.List.{All, IsDistinct}
use Rattle.std.specs.Str.{bytes_eq}
use Rattle.std.proofs.lemmas.List.Elements.{All-from_recursion}
use Rattle.snap_core.specs.declared.program.Field.{Field}
use Rattle.snap_core.specs.declared.program.Program.{Program}
use Rattle.snap_core.specs.declared.policy.Pol.{Pol}
use Rattle.snap_core.specs.Fields.{IsFields, PrefixFits, count, names_of}
use Rattle.snap_core.specs.Fits.{PolFits}
use Rattle.snap_core.specs.Names.{IsName}
use Rattle.snap_core.specs.Programs.{IsWellFormed}
use Rattle.snap_dep.specs.Dependencies.{Depends, Reaches, Tied, more, one}
use Rattle.snap_names.specs.Declarations.{CoreProgram}
use Rattle.snap_demo.specs.Parts.{IsMild}
use Rattle.snap_demo.specs.Stated.{IsStated, arrays, fields}

all_different : IsDistinct bytes_eq (names_of fields ++ arrays)
unfolding IsDistinct
all_different = ((refl, (refl, (refl, (refl, tt)))), ((refl, (refl, (refl, tt))), ((refl, (refl, tt)), ((refl, tt), (tt, tt)))))

pub fields_well_formed : IsFields fields
unfolding IsDistinct
fields_well_formed = record {
  ports = refl;
  different = ((refl, (refl, tt)), ((refl, tt), (tt, tt)));
  prefixes = All-from_recursion (λ (f : Field). PrefixFits f.prefix) fields (tt, (tt, (tt, tt)));
  few = lit≤ tt;
}

pub program_well_formed : (n : ℕ) (p : Program) → IsStated n p → IsMild p.body → IsWellFormed p
program_well_formed n p stated mild =
    let same_fields : p.fields ≡ fields = ap (λ (c : CoreProgram). c.fields) stated in
    let same_vars : p.arrays ≡ arrays = ap (λ (c : CoreProgram). c.arrays) stated in
    let names : names_of p.fields ++ p.arrays ≡ names_of fields ++ arrays = λ i. names_of (same_fields i) ++ same_vars i in
    let comps : count p.fields ≡ 3 = ap count same_fields in
    let as_many : length p.arrays ≡ 2 = ap length same_vars in
    record {
      fields = subst IsFields (sym same_fields) fields_well_formed;
      names = subst (All IsName) (sym names) (All-from_recursion IsName (names_of fields ++ arrays) (refl, (refl, (refl, (refl, (refl, tt))))));
      different = subst (IsDistinct bytes_eq) (sym names) all_different;
      few = omega arith;
      fits = subst (λ c. PolFits c (length p.arrays) p.body) (sym comps) (subst (λ v. PolFits 3 v p.body) (sym as_many) mild.fits);
      indices = record { arity = λ v. 1; from_1_to_8 = λ v. (omega arith, omega arith); of_each = mild.arity };
    }

-- where dependencies are from the first array alone, the second isn't tied to it
pub arrays_apart : (p : Pol) → ((s t : ℕ) → Depends p s t → s ≡ 0) → Tied p 0 1 → ⊥
arrays_apart p first (inl same) = absurd (omega (arith, same))
arrays_apart p first (inr (there, back)) = from_second back
  where
    from_second : Reaches p 1 0 → ⊥
    from_second (one depends) = let e : 1 ≡ 0 = first 1 0 depends in omega (arith, e)
    from_second (more {t = t} depends onward) = let e : 1 ≡ 0 = first 1 t depends in omega (arith, e)

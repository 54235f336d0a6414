-- A program that is resolved is in form.
use Rattle.std.proofs.Common.{◌≡◌, ℕ, zero, suc, ◌≤◌, ◌++◌, min, max, List, [], ◌∷◌, length, slice_get, Option, None, Some, Result, Ok, IfOk, sym, ap, ◌∙◌, subst, arith, bytes_eq}
use Rattle.std.proofs.Math.Nat.{le-max_left, le-max_right}
use Rattle.std.proofs.lemmas.Result.{IfOk-weaker}
use Rattle.std.specs.List.{AllByRecursion, IsDistinct}
use Rattle.std.proofs.lemmas.List.Elements.{All-from_recursion}
use Rattle.snap_names.specs.Core.{Atom, Pol, Filter, Set, Change, Par', Seq', If', Atomic', Pred, State, Not', And', Or', CorePolicy, core_test, core_policy, nodes, weight}
use Rattle.snap_names.specs.Declarations.{Program, Components, Arrays, Atoms, Nodes, Weight, Declared, ports, env_of, declare, declare_all, CoreProgram, core_program, greatest, limited, resolved}
use Rattle.snap_core.specs.Fields.{IsFields, count, names_of}
use Rattle.snap_core.specs.Names.{IsName}
use Rattle.snap_core.specs.Programs.{PredHasArity, HasArity, IsWellFormed, IsBounded}
use Rattle.snap_parse.specs.Tree.{DeclTree, SourceTree}
use Rattle.snap_names.specs.Senses.{NameFault, Arities}
use Rattle.snap_names.specs.Reading.{read_policy}
use Rattle.snap_names.proofs.BoundedCore.{IsIndexed, TestFits, PolicyFits, PolFits-core_policy}
use Rattle.snap_names.proofs.BoundedDeclared.{DeclaredFits, PolicyRead, policy-read, declare-fits, ports-fit}
use Rattle.snap_names.proofs.BoundedSteps.{IfOk-after, IfOk-both, IfOk-within}
use Rattle.snap_names.proofs.DeclaredFields.{FieldsStand, declare-stands, ports-stand, IsFields-stand}
use Rattle.snap_names.proofs.Placed.{DeclWritten, SourceWritten}

-- the number of atoms that an array was indexed with, from 1 to 8
abbrev pub seen_or : Option (Option ℕ) → ℕ
seen_or (Some (Some n)) = n
seen_or _ = 1

abbrev arity_in : Arities → ℕ → ℕ
arity_in seen s = max 1 (min 8 (seen_or (slice_get seen s)))

from_1_to_8 : (seen : Arities) (s : ℕ) → (1 ≤ arity_in seen s) × (arity_in seen s ≤ 8)
from_1_to_8 seen s = (omega arith, omega arith)

pub greatest-bounds : (seen : Arities) (i n : ℕ) → slice_get seen i ≡ Some (Some n) → n ≤ greatest seen
greatest-bounds [] i n h = cc
greatest-bounds (None ∷ seen) zero n h = absurd (let no' : Some None ≡ Some (Some n) = h in cc)
greatest-bounds (None ∷ seen) (suc i) n h = greatest-bounds seen i n h
greatest-bounds (Some m ∷ seen) zero n h =
    let same : m ≡ n = cc h in
    omega (arith, same, le-max_left m (greatest seen))
greatest-bounds (Some m ∷ seen) (suc i) n h = omega (arith, greatest-bounds seen i n h, le-max_right m (greatest seen))

arity-of_index : (W : Type 0) (v : ℕ) (seen : Arities) → W → v ≤ 64 → greatest seen ≤ 8 → (s : ℕ) (es : List Atom) → IsIndexed W v seen s es → length es ≡ arity_in seen s
arity-of_index W v seen w few most s es h =
    let same : s ≡ h.array = omega (arith, h.number, h.below, few) in
    let here : slice_get seen s ≡ Some (Some (length es)) = ap (slice_get seen) same ∙ h.arity in
    let at_most : length es ≤ greatest seen = greatest-bounds seen s (length es) here in
    let at_least : 1 ≤ length es = h.some w in
    let kept : length es ≡ max 1 (min 8 (length es)) = omega (arith, at_most, at_least, most) in
    kept ∙ ap (λ o. max 1 (min 8 (seen_or o))) (sym here)

PredHasArity-core_test : (W : Type 0) (c v : ℕ) (seen : Arities) → W → v ≤ 64 → greatest seen ≤ 8 → (x : Pred) → TestFits W c v seen (core_test x) → PredHasArity (arity_in seen) x
PredHasArity-core_test W c v seen w few most (State s es a) h = arity-of_index W v seen w few most s es h.0
PredHasArity-core_test W c v seen w few most (Not' _ x) h = PredHasArity-core_test W c v seen w few most x h
PredHasArity-core_test W c v seen w few most (And' _ x _ y) h = (PredHasArity-core_test W c v seen w few most x h.0, PredHasArity-core_test W c v seen w few most y h.1)
PredHasArity-core_test W c v seen w few most (Or' _ x _ y) h = (PredHasArity-core_test W c v seen w few most x h.0, PredHasArity-core_test W c v seen w few most y h.1)
PredHasArity-core_test W c v seen w few most _ h = tt

HasArity-core_policy : (W : Type 0) (c v : ℕ) (seen : Arities) → W → v ≤ 64 → greatest seen ≤ 8 → (p : Pol) → PolicyFits W c v seen (core_policy p) → HasArity (arity_in seen) p
HasArity-core_policy W c v seen w few most (Filter x) h = PredHasArity-core_test W c v seen w few most x h
HasArity-core_policy W c v seen w few most (Set i a) h = tt
HasArity-core_policy W c v seen w few most (Change u) h = arity-of_index W v seen w few most u.var u.index h.0
HasArity-core_policy W c v seen w few most (Par' _ p _ q) h = (HasArity-core_policy W c v seen w few most p h.0, HasArity-core_policy W c v seen w few most q h.1)
HasArity-core_policy W c v seen w few most (Seq' _ p _ q) h = (HasArity-core_policy W c v seen w few most p h.0, HasArity-core_policy W c v seen w few most q h.1)
HasArity-core_policy W c v seen w few most (If' x _ p _ q) h = (PredHasArity-core_test W c v seen w few most x h.0, HasArity-core_policy W c v seen w few most p h.1, HasArity-core_policy W c v seen w few most q h.2)
HasArity-core_policy W c v seen w few most (Atomic' _ p) h = HasArity-core_policy W c v seen w few most p h

-- what is declared fits, and its names differ
abbrev Stands : Type 0 → Declared → Type 0
Stands W d = DeclaredFits W d × FieldsStand W d

declare_all-stands : (W : Type 0) (text : List ℕ) (ts : List DeclTree) (d : Declared) → Stands W d → (W → AllByRecursion (DeclWritten text) ts) → IfOk (declare_all text ts d) (Stands W)
declare_all-stands W text [] d h w = h
declare_all-stands W text (t ∷ ts) d h w =
    IfOk-after (Stands W) (Stands W) (declare text d t) (declare_all text ts)
    (IfOk-both (DeclaredFits W) (FieldsStand W) (declare text d t) (declare-fits W text d h.0 t (λ q. (w q).0)) (declare-stands W text d h.1 t (λ q. (w q).0)))
    (λ e k. declare_all-stands W text ts e k (λ q. (w q).1))

-- A core program in form, but for its indices, which may be empty where W doesn't hold.
record CoreStands (W : Type 0) (p : CoreProgram) : Type 0 where
  fields : IsFields p.fields
  distinct : IsDistinct bytes_eq (names_of p.fields ++ p.arrays)
  named : W → AllByRecursion IsName (names_of p.fields ++ p.arrays)
  few : length p.arrays ≤ 64
  seen : Arities
  most : greatest seen ≤ 8
  fits : PolicyFits W (count p.fields) (length p.arrays) seen p.body

limited-stands : (W : Type 0) (d : Declared) → FieldsStand W d → (x : CorePolicy × Arities) → PolicyFits W (count d.fields) (length d.arrays) x.1 x.0 → IfOk (limited d x) (CoreStands W)
limited-stands W d stands x h =
    IfOk-within (CoreStands W) Components (count d.fields) 64 _ (λ comps.
    IfOk-within (CoreStands W) Arrays (length d.arrays) 64 _ (λ few.
    IfOk-within (CoreStands W) Atoms (greatest x.1) 8 _ (λ most.
    IfOk-within (CoreStands W) Nodes (nodes x.0) 2000 _ (λ _.
    IfOk-within (CoreStands W) Weight (weight x.0) 16777216 _ (λ _.
    record { fields = IsFields-stand W d stands comps; distinct = stands.distinct; named = stands.named; few = few; seen = x.1; most = most; fits = h })))))

resolved-stands : (text : List ℕ) (s : SourceTree) → IfOk (resolved text s) (CoreStands (SourceWritten text s))
resolved-stands text s =
    let W = SourceWritten text s in
    IfOk-after (Stands W) (CoreStands W) (declare_all text s.decls ports) _ (declare_all-stands W text s.decls ports (ports-fit W, ports-stand W) (λ q. q.0)) (λ d h.
    IfOk-after (PolicyRead W text (λ i. i) d s.policy) (CoreStands W) (read_policy (env_of text d) s.policy d.arities) (limited d) (policy-read W text (λ i. i) d h.0 s.policy (λ q. q.1)) (λ x k. limited-stands W d h.1 x k.1.0))

program-stands : (text : List ℕ) (s : SourceTree) (p : Program) → resolved text s ≡ Ok (core_program p) → CoreStands (SourceWritten text s) (core_program p)
program-stands text s p e = subst (λ r. IfOk r (CoreStands (SourceWritten text s))) e (resolved-stands text s)

-- What a tree is read as is bounded.
pub IsBounded-resolved : (text : List ℕ) (s : SourceTree) (p : Program) → resolved text s ≡ Ok (core_program p) → IsBounded p
IsBounded-resolved text s p e =
    let h : CoreStands (SourceWritten text s) (core_program p) = program-stands text s p e in
    record { few = h.few; fits = PolFits-core_policy (SourceWritten text s) (count p.fields) (length p.arrays) h.seen p.body h.fits }

-- What the tree of a text is read as is in form.
IsWellFormed-resolved : (text : List ℕ) (s : SourceTree) → SourceWritten text s → (p : Program) → resolved text s ≡ Ok (core_program p) → IsWellFormed p
IsWellFormed-resolved text s w p e =
    let h : CoreStands (SourceWritten text s) (core_program p) = program-stands text s p e in
    record {
      fields = h.fields;
      names = All-from_recursion IsName _ (h.named w);
      different = h.distinct;
      few = h.few;
      fits = PolFits-core_policy (SourceWritten text s) (count p.fields) (length p.arrays) h.seen p.body h.fits;
      indices = record { arity = arity_in h.seen; from_1_to_8 = from_1_to_8 h.seen; of_each = HasArity-core_policy (SourceWritten text s) (count p.fields) (length p.arrays) h.seen w h.few h.most p.body h.fits };
    }

pub IfOk-bounded : (text : List ℕ) (s : SourceTree) (r : Result Program NameFault) → IfOk r (λ p. resolved text s ≡ Ok (core_program p)) → IfOk r IsBounded
IfOk-bounded text s r h = IfOk-weaker r _ IsBounded (IsBounded-resolved text s) h

pub IfOk-well_formed : (text : List ℕ) (s : SourceTree) (r : Result Program NameFault) → SourceWritten text s → IfOk r (λ p. resolved text s ≡ Ok (core_program p)) → IfOk r IsWellFormed
IfOk-well_formed text s r w h = IfOk-weaker r _ IsWellFormed (IsWellFormed-resolved text s w) h

declared-stands : (text : List ℕ) (s : SourceTree) → IfOk (declare_all text s.decls ports) (FieldsStand ⊥)
declared-stands text s = IfOk-weaker (declare_all text s.decls ports) (Stands ⊥) (FieldsStand ⊥) (λ d h. h.1) (declare_all-stands ⊥ text s.decls ports (ports-fit ⊥, ports-stand ⊥) (λ q. absurd q))

-- What a text declares are the fields of a program, but for their number.
pub IsFields-declared : (text : List ℕ) (s : SourceTree) (d : Declared) → declare_all text s.decls ports ≡ Ok d → count d.fields ≤ 64 → IsFields d.fields
IsFields-declared text s d e few = IsFields-stand ⊥ d (subst (λ r. IfOk r (FieldsStand ⊥)) e (declared-stands text s)) few

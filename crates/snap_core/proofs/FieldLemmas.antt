-- The names and the components of fields.
use Rattle.std.proofs.Common.{suc, zero-add, codes, subst, add_assoc, ◌≡◌, ℕ, ◌+◌, ◌≤◌, Bool, true, false, ◌&&◌, List, [], ◌∷◌, ◌++◌, Option, None, Some, cond, length, take, drop, refl, sym, ap, ◌∙◌, arith, ◌≢◌}
use Rattle.std.proofs.Math.Bool.{and_assoc}
use Rattle.std.proofs.lemmas.Bool.{false_from_ne_true}
use Rattle.std.proofs.lemmas.Slice.Eq.{bytes_eq-Decides}
use Rattle.std.specs.Prelude.{nat_eq}
use Rattle.std.specs.Map.{lookup}
use Rattle.std.specs.Str.{bytes_eq}
use Rattle.snap_core.specs.declared.program.Field.{Field}
use Rattle.snap_core.specs.declared.program.Found.{Found}
use Rattle.snap_core.specs.declared.program.Found.TheVariants.{Plain, Split}
use Rattle.std.specs.List.{All}
use Rattle.snap_core.specs.Fields.{count, width, declared_at, declared_from, FoundFits, PrefixFits, IsFields, found}

pub count-append : (fs gs : List Field) → count (fs ++ gs) ≡ count fs + count gs
count-append [] gs = omega arith
count-append (f ∷ fs) gs = ap (λ n. width f.prefix + n) (count-append fs gs) ∙ sym (add_assoc (width f.prefix) (count fs) (count gs))

pub bytes_eq-apart : (xs ys : List ℕ) → length xs ≢ length ys → bytes_eq xs ys ≡ false
bytes_eq-apart xs ys h = false_from_ne_true (bytes_eq xs ys) (λ e. h (ap length ((bytes_eq-Decides xs ys).0 e)))

-- a text is two others joined, if its front and its rest are these
pub bytes_eq-joined : (front back text : List ℕ) → length front ≤ length text → bytes_eq text (front ++ back) ≡ (bytes_eq (take (length front) text) front && bytes_eq (drop (length front) text) back)
bytes_eq-joined [] back text h = refl
bytes_eq-joined (x ∷ front) back [] h = absurd (omega arith)
bytes_eq-joined (x ∷ front) back (y ∷ text) h =
    ap (λ b. nat_eq y x && b) (bytes_eq-joined front back text (omega arith))
    ∙ sym (and_assoc (nat_eq y x) (bytes_eq (take (length front) text) front) (bytes_eq (drop (length front) text) back))

pub width-bound : (n : Option ℕ) → (1 ≤ width n) × (width n ≤ 2)
width-bound None = (omega arith, omega arith)
width-bound (Some n) = (omega arith, omega arith)

-- the names of one field, and what stands behind them
found-at : (test : List ℕ → Bool) (c n : ℕ) (name : List ℕ) (prefix : Option ℕ) (rest : List (List ℕ × Found)) → PrefixFits prefix
    → FoundFits (c + (width prefix + n)) (lookup test rest) → FoundFits (c + (width prefix + n)) (lookup test (declared_at c name prefix ++ rest))
found-at test c n name None rest p h =
    elim (test name) as (λ t. FoundFits (c + (1 + n)) (cond t (Some (Plain c)) (lookup test rest))) [ true ↦ omega arith | false ↦ h ]
found-at test c n name (Some k) rest p h =
    let most = c + (2 + n) in
    let more = lookup test rest in
    let host = cond (test (name ++ codes ".host")) (Some (Plain (c + 1))) more in
    let of_host : FoundFits most host = elim (test (name ++ codes ".host")) as (λ t. FoundFits most (cond t (Some (Plain (c + 1))) more)) [ true ↦ omega arith | false ↦ h ] in
    let of_net : FoundFits most (cond (test (name ++ codes ".net")) (Some (Plain c)) host) = elim (test (name ++ codes ".net")) as (λ t. FoundFits most (cond t (Some (Plain c)) host)) [ true ↦ omega arith | false ↦ of_host ] in
    elim (test name) as (λ t. FoundFits most (cond t (Some (Split c (c + 1) k)) (cond (test (name ++ codes ".net")) (Some (Plain c)) host))) [
      | true ↦ (omega arith, omega arith, p.0, p.1)
      | false ↦ of_net
    ]

found-fits : (test : List ℕ → Bool) (c : ℕ) (fs : List Field) → All (λ f. PrefixFits f.prefix) fs → FoundFits (c + count fs) (lookup test (declared_from c fs))
found-fits test c [] p = tt
found-fits test c (f ∷ fs) p =
    found-at test c (count fs) f.name f.prefix (declared_from (c + width f.prefix) fs) (p 0 f (omega arith))
    (subst (λ n. FoundFits n (lookup test (declared_from (c + width f.prefix) fs))) (add_assoc c (width f.prefix) (count fs)) (found-fits test (c + width f.prefix) fs (λ i d lt. p (suc i) d (omega arith))))

pub count-fields : (fs : List Field) → IsFields fs → 2 ≤ count fs
count-fields [] h = let none = h.ports in absurd (cc)
count-fields (f ∷ []) h = let one = h.ports in absurd (cc)
count-fields (f ∷ g ∷ fs) h = omega (arith, (width-bound f.prefix).0, (width-bound g.prefix).0)

pub found-within : (fs : List Field) (name : List ℕ) → IsFields fs → FoundFits (count fs) (found fs name)
found-within fs name h = subst (λ n. FoundFits n (found fs name)) (zero-add (count fs)) (found-fits (bytes_eq name) 0 fs h.prefixes)

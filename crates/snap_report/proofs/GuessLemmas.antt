-- What the name of a field stands for, found by the field's place.
use Rattle.std.proofs.Common.{◌≡◌, ℕ, zero, suc, ◌+◌, ◌<◌, List, [], ◌∷◌, Option, None, Some, length, drop, get_or, refl, sym, ap, subst, ◌∙◌, arith, add-one, zero-add, codes}
use Rattle.std.proofs.Math.Seq.{drop-cons}
use Rattle.std.specs.List.{Contains}
use Rattle.std.proofs.lemmas.List.Elements.{Contains-append_left, Contains-append_right}
use Rattle.std.specs.Cmp.Lexicographic.{nat_list_eq_equiv}
use Rattle.std.proofs.lemmas.Map.Views.{lookup-from_Contains}
use Rattle.snap_core.specs.declared.program.Field.{Field}
use Rattle.snap_core.specs.Fields.{IsFields, count, width, declared_at, declared_from, found, plain_field}
use Rattle.snap_report.specs.Guesses.{whole_of}

-- the components of the field at a place, and those behind it
pub count_drop : (fs : List Field) (i : ℕ) (d : Field) → i < length fs → count (drop i fs) ≡ width (get_or fs i d).prefix + count (drop (i + 1) fs)
count_drop fs i d h =
    let cut : drop i fs ≡ get_or fs i d ∷ drop (i + 1) fs = rw add-one (drop-cons fs i d h) in
    ap count cut

first_declared : (c : ℕ) (name : List ℕ) (prefix : Option ℕ) → Contains (declared_at c name prefix) (name, whole_of c prefix)
first_declared c name None = (0, omega arith, refl)
first_declared c name (Some n) = (0, omega arith, refl)

declared_in : (c : ℕ) (fs : List Field) (i : ℕ) (d : Field) (comp : ℕ) → i < length fs → comp + count (drop i fs) ≡ c + count fs
    → Contains (declared_from c fs) ((get_or fs i d).name, whole_of comp (get_or fs i d).prefix)
declared_in c [] i d comp h e = absurd (omega arith)
declared_in c (f ∷ fs) zero d comp h e =
    let same : comp ≡ c = omega arith in
    Contains-append_left (declared_at c f.name f.prefix) (declared_from (c + width f.prefix) fs) (f.name, whole_of comp f.prefix)
    (subst (λ n. Contains (declared_at c f.name f.prefix) (f.name, whole_of n f.prefix)) (sym same) (first_declared c f.name f.prefix))
declared_in c (f ∷ fs) (suc i) d comp h e =
    Contains-append_right (declared_at c f.name f.prefix) (declared_from (c + width f.prefix) fs) ((get_or fs i d).name, whole_of comp (get_or fs i d).prefix)
    (declared_in (c + width f.prefix) fs i d comp (omega arith) (omega arith))

-- the name of the field at a place stands for its components
pub found_at : (fs : List Field) (i : ℕ) (d : Field) (comp : ℕ) (name : List ℕ) → IsFields fs → i < length fs → comp + count (drop i fs) ≡ count fs
    → name ≡ (get_or fs i d).name → found fs name ≡ Some (whole_of comp (get_or fs i d).prefix)
found_at fs i d comp name fields h e same =
    ap (found fs) same
    ∙ lookup-from_Contains nat_list_eq_equiv (get_or fs i d).name (whole_of comp (get_or fs i d).prefix) (declared_from 0 fs) fields.different (declared_in 0 fs i d comp h (e ∙ sym (zero-add (count fs))))

-- one field further
pub stands_behind : (fs list : List Field) (i comp w : ℕ) (f : Field) → list ≡ fs → i < length list → f ≡ get_or list i f → w ≡ width f.prefix
    → comp + count (drop i fs) ≡ count fs → comp + w + count (drop (i + 1) fs) ≡ count fs
stands_behind fs list i comp w f same h is e before =
    let there : i < length fs = subst (λ (l : List Field). i < length l) same h in
    let own : f ≡ get_or fs i f = is ∙ ap (λ l. get_or l i f) same in
    let wide : w ≡ width (get_or fs i f).prefix = e ∙ ap (λ (g : Field). width g.prefix) own in
    let next = count_drop fs i f there in
    omega (arith, wide, next, before)

-- what the name of a field stands for, as the list of fields lends it
pub found_there : (fs list : List Field) (i comp : ℕ) (f : Field) → IsFields fs → list ≡ fs → i < length list → f ≡ get_or list i f
    → comp + count (drop i fs) ≡ count fs → found fs f.name ≡ Some (whole_of comp f.prefix)
found_there fs list i comp f fields same h is before =
    let there : i < length fs = subst (λ (l : List Field). i < length l) same h in
    let own : f ≡ get_or fs i f = is ∙ ap (λ l. get_or l i f) same in
    found_at fs i f comp f.name fields there before (ap (λ (g : Field). g.name) own)
    ∙ ap (λ (g : Field). Some (whole_of comp g.prefix)) (sym own)

-- behind the ports
pub behind_ports : (fs : List Field) → IsFields fs → 2 + count (drop 2 fs) ≡ count fs
behind_ports [] fields = absurd (let e = fields.ports in cc)
behind_ports (f ∷ []) fields = absurd (let e = fields.ports in cc)
behind_ports (f ∷ g ∷ fs) fields =
    let e = fields.ports in
    let first : f ≡ plain_field (codes "inport") = cc in
    let second : g ≡ plain_field (codes "outport") = cc in
    let one : width f.prefix ≡ 1 = ap (λ (h : Field). width h.prefix) first in
    let other : width g.prefix ≡ 1 = ap (λ (h : Field). width h.prefix) second in
    omega (arith, one, other)

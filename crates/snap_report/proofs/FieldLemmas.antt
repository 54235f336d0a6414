-- Fields that are put from the last one on.
use Rattle.std.proofs.Common.{◌≡◌, ℕ, ◌+◌, ◌<◌, List, [], ◌∷◌, ◌++◌, drop, get_or, length, take, sym, ap, ◌∙◌, arith, append_assoc}
use Rattle.std.proofs.lemmas.List.{drop_more, take_more}
use Rattle.snap_core.specs.declared.program.Field.{Field}
use Rattle.snap_core.specs.Fields.{count, width}
use Rattle.snap_report.specs.Reports.{field_text, fields_text}
use Rattle.snap_core.proofs.FieldLemmas.{count-append}

-- the components of one field more
pub count-take_more : (fs : List Field) (i : ℕ) (f : Field) → i < length fs → f ≡ get_or fs i f → count (take (i + 1) fs) ≡ count (take i fs) + width f.prefix
count-take_more fs i f within is =
    let one : count (f ∷ []) ≡ width f.prefix = omega arith in
    ap count (take_more fs i f within ∙ ap (λ (g : Field). take i fs ++ g ∷ []) (sym is)) ∙ count-append (take i fs) (f ∷ []) ∙ ap (λ n. count (take i fs) + n) one

-- what stands from a field on
pub from_field : (fs : List Field) (i j : ℕ) (f : Field) → i < length fs → i + 1 ≡ j → f ≡ get_or fs i f → drop i fs ≡ f ∷ drop j fs
from_field fs i j f within next is = drop_more fs i f within ∙ (λ k. sym is k ∷ drop (next k) fs)

-- a field before those that begin behind its components
pub fields_text-more : (c d : ℕ) (f : Field) (fs : List Field) (packet rest : List ℕ) → d ≡ c + width f.prefix
    → field_text f c packet ++ (fields_text d fs packet ++ rest) ≡ fields_text c (f ∷ fs) packet ++ rest
fields_text-more c d f fs packet rest next =
    ap (λ n. field_text f c packet ++ (fields_text n fs packet ++ rest)) next ∙ sym (append_assoc (field_text f c packet) (fields_text (c + width f.prefix) fs packet) rest)

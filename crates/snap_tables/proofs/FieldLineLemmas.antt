-- Which lines say fields, exactly.
use Rattle.std.proofs.Common.{◌≡◌, ℕ, Bool, true, false, not, cond, List, [], ◌∷◌, ◌++◌, Option, Some, None, refl, sym, ap, subst, ◌∙◌, arith, decimal, append-nil, inl}
use Rattle.std.specs.Prelude.{codes, nat_lt, option_and_then}
use Rattle.std.proofs.lemmas.Bool.{and_parts, ltb-true, lt-ltb}
use Rattle.snap_core.specs.Names.{is_keyword, is_name, is_word}
use Rattle.snap_core.specs.Fields.{PrefixFits}
use Rattle.snap_core.specs.Figures.{parts_by}
use Rattle.snap_core.specs.declared.program.Field.{Field}
use Rattle.snap_tables.specs.Joins.{Lacks, join}
use Rattle.snap_tables.specs.Text.{Words, prefix_text, spaced}
use Rattle.snap_tables.specs.Reading.{declared_said, field_said, is_slash, is_space, no_words, number_said, opened, taken}
use Rattle.snap_tables.specs.Laws.{FieldsAreSaid}
use Rattle.snap_tables.proofs.Joins.{join-parts, parts-join}
use Rattle.snap_tables.proofs.ArrayLemmas.{Lacks-name, Lacks-word}
use Rattle.snap_tables.proofs.Indexes.{Lacks-append}
use Rattle.snap_tables.proofs.NumberLines.{taken-some, opened-some, chosen, none-left, text-of, space-out}
use Rattle.snap_tables.proofs.Readings.{said-decimal, decimal-said}
use Rattle.snap_tables.proofs.Terms.{Lacks-decimal, and-some}

record IsDeclared (f : Field) (w : List ℕ) : Type 0 where
  name : is_name f.name ≡ true
  prefix : PrefixFits f.prefix
  text : w ≡ f.name ++ prefix_text f.prefix

declared-said : (f : Field) (ps : Words) → declared_said ps ≡ Some f → IsDeclared f (join 47 ps)
declared-said f [] e = absurd (cc)
declared-said f (name ∷ []) e =
    let k = chosen (is_name name) (record { name = name; prefix = None }) f e in
    subst (λ f. IsDeclared f (name ++ [])) (sym k.1) (record { name = k.0; prefix = tt; text = refl })
declared-said f (name ∷ w ∷ v ∷ vs) e = absurd (cc)
declared-said f (name ∷ w ∷ []) e = at (is_name name) refl e
  where
    more : is_name name ≡ true → option_and_then (λ n. cond (nat_lt 0 n) (Some (record { name = name; prefix = Some n })) None) (number_said 31 w) ≡ Some f → IsDeclared f (name ++ ((47 ∷ w) ++ []))
    more is e =
        let k = and-some _ (number_said 31 w) f e in
        let c = chosen (nat_lt 0 k.0) (record { name = name; prefix = Some k.0 }) f k.2 in
        let n = said-decimal 31 w k.0 (omega arith) k.1 in
        subst (λ f. IsDeclared f (name ++ ((47 ∷ w) ++ []))) (sym c.1) (record {
          name = is;
          prefix = (omega (arith, ltb-true 0 k.0 c.0), n.1);
          text = ap (λ l. name ++ l) (append-nil (47 ∷ w) ∙ ap (λ l. 47 ∷ l) n.0);
        })

    at : (t : Bool) → is_name name ≡ t → cond t (option_and_then (λ n. cond (nat_lt 0 n) (Some (record { name = name; prefix = Some n })) None) (number_said 31 w)) None ≡ Some f → IsDeclared f (name ++ ((47 ∷ w) ++ []))
    at true is e = more is e
    at false is e = absurd (cc)

Lacks-slash : (w : List ℕ) → is_name w ≡ true → Lacks 47 w
Lacks-slash w e = Lacks-word 47 refl (λ x. refl) w (and_parts (is_word w) (not (is_keyword w)) e).0

said-declared : (name : List ℕ) (prefix : Option ℕ) → is_name name ≡ true → PrefixFits prefix → declared_said (parts_by is_slash (name ++ prefix_text prefix)) ≡ Some (record { name = name; prefix = prefix })
said-declared name None is h = ap declared_said (parts-join 47 name [] (Lacks-slash name is) tt) ∙ rw is refl
said-declared name (Some n) is h =
    ap (λ l. declared_said (parts_by is_slash (name ++ l))) (sym (append-nil (47 ∷ decimal n)))
    ∙ ap declared_said (parts-join 47 name (decimal n ∷ []) (Lacks-slash name is) (Lacks-decimal 47 n (inl (omega arith)) (omega (arith, h.1)), tt))
    ∙ rw (is, decimal-said 31 n (omega arith) h.1, lt-ltb 0 n h.0) refl

lack-prefix : (prefix : Option ℕ) → PrefixFits prefix → Lacks 32 (prefix_text prefix)
lack-prefix None h = tt
lack-prefix (Some n) h = (refl, Lacks-decimal 32 n space-out (omega (arith, h.1)))

pub fields-said : FieldsAreSaid
fields-said f w = (
  λ e.
      let o = and-some _ (opened (codes "field") (parts_by is_space w)) f e in
      let p = and-some _ (taken (λ w. declared_said (parts_by is_slash w)) o.0) f o.2 in
      let d = chosen (no_words p.0.1) p.0.0 f p.2 in
      let x = taken-some (λ w. declared_said (parts_by is_slash w)) o.0 p.0 p.1 in
      let k = declared-said p.0.0 (parts_by is_slash x.0) x.2 in
      let word = sym (join-parts 47 x.0) ∙ k.text in
      subst (λ (f : Field). (w ≡ codes "field" ++ spaced ((f.name ++ prefix_text f.prefix) ∷ [])) × (is_name f.name ≡ true) × PrefixFits f.prefix) (sym d.1) (
        text-of w (codes "field") ((p.0.0.name ++ prefix_text p.0.0.prefix) ∷ []) (opened-some (codes "field") (parts_by is_space w) o.0 o.1 ∙ ap (λ l. codes "field" ∷ l) (x.1 ∙ ap (λ l. x.0 ∷ l) (none-left p.0.1 d.0) ∙ ap (λ y. y ∷ []) word)),
        k.name,
        k.prefix,
      ),
  λ h.
      ap (λ x. field_said (parts_by is_space x)) h.0
      ∙ ap field_said (parts-join 32 (codes "field") ((f.name ++ prefix_text f.prefix) ∷ []) (refl, (refl, (refl, (refl, (refl, tt))))) (Lacks-append 32 f.name (prefix_text f.prefix) (Lacks-name f.name h.1) (lack-prefix f.prefix h.2), tt))
      ∙ rw (said-declared f.name f.prefix h.1 h.2) refl,
)

-- Which lines say the next entry of a section, exactly.
use Rattle.std.proofs.Common.{◌≡◌, ◌≢◌, ℕ, ◌<◌, ◌^◌, Bool, true, false, List, ◌∷◌, Option, Some, None, length, refl, sym, ap, ◌∙◌, arith, decimal}
use Rattle.std.specs.Prelude.{codes, nat_le}
use Rattle.std.proofs.lemmas.Bool.{and_parts, and_from, leb-true, le-leb}
use Rattle.snap_core.specs.declared.ports.PortAt.{PortAt}
use Rattle.snap_core.specs.declared.program.Field.{Field}
use Rattle.snap_core.specs.Figures.{parts_by}
use Rattle.snap_rows.specs.declared.tables.ArrayAt.{ArrayAt}
use Rattle.snap_rows.specs.declared.tables.Hop.{Hop}
use Rattle.snap_rows.specs.declared.tables.RowAt.{RowAt}
use Rattle.snap_rows.specs.declared.tables.Row.{Row}
use Rattle.snap_rows.specs.declared.tables.Tables.{Tables}
use Rattle.snap_tables.specs.Text.{Words, row_words}
use Rattle.snap_tables.specs.Drafts.{IsItem, IsNoRowLine, IsNoneBy, IsRowLine, is_above_at, letter, may_come}
use Rattle.snap_tables.specs.Entries.{IsNextRow, array_fits, field_fits, hop_fits, is_above, is_new, kept, link_fits, port_less}
use Rattle.snap_tables.specs.Lines.{Follows, IsNext, counts_of, is_ready, item_body, last_section, section}
use Rattle.snap_tables.specs.Reading.{array_said, below_said, field_said, hop_said, is_space, link_said, opened, port_said, switch_said, taken, u64_said}
use Rattle.snap_tables.specs.Rows.{IsNoRow, IsRowSaid}
use Rattle.snap_tables.specs.declared.item.Item.{Item}
use Rattle.snap_tables.specs.declared.item.Item.TheVariants as item
use Rattle.snap_tables.specs.declared.piece.Counts.{Counts}
use Rattle.snap_tables.proofs.ArrayLemmas.{arrays-said}
use Rattle.snap_tables.proofs.FieldLineLemmas.{fields-said}
use Rattle.snap_tables.proofs.Inks.{body-parts, ink-if, row-ink}
use Rattle.snap_tables.proofs.NumberLines.{hops-said, links-said, opened-some, ports-said, taken-some, text-of}
use Rattle.snap_tables.proofs.PieceLaws.{head-same, none-some, some-same, tail-same}
use Rattle.snap_tables.proofs.PieceLemmas.{false-true}
use Rattle.snap_tables.proofs.Said.{below-said, said-below}
use Rattle.snap_tables.proofs.RowLaws.{u64-word, word-u64}
use Rattle.snap_tables.proofs.Shades.{decimal-ink}
use Rattle.snap_tables.proofs.TestLemmas.{switches-said}

-- an entry by the first byte of its line
pub by-letter : (P : Item → Type 0) (n : ℕ) → ((x : Field) → n ≡ 102 → P (item.Field x)) → ((x : List ℕ) → n ≡ 115 → P (item.Switch x)) → ((x : ArrayAt) → n ≡ 97 → P (item.Array x)) → ((x : ℕ × ℕ) → n ≡ 108 → P (item.Link x))
    → ((x : PortAt) → n ≡ 112 → P (item.Port x)) → ((x : Hop) → n ≡ 104 → P (item.Hop x)) → ((x : RowAt) → n ≡ 114 → P (item.Row x)) → (it : Item) → letter it ≡ n → P it
by-letter P n f s a l p h r (item.Field x) e = f x (sym e)
by-letter P n f s a l p h r (item.Switch x) e = s x (sym e)
by-letter P n f s a l p h r (item.Array x) e = a x (sym e)
by-letter P n f s a l p h r (item.Link x) e = l x (sym e)
by-letter P n f s a l p h r (item.Port x) e = p x (sym e)
by-letter P n f s a l p h r (item.Hop x) e = h x (sym e)
by-letter P n f s a l p h r (item.Row x) e = r x (sym e)

-- what is kept of what is said
kept-none : {X : Type 0} (may : Bool) (test : X → Bool) (o : Option X) → kept may test o ≡ None → (x : X) → may ≡ true → o ≡ Some x → test x ≡ true → ⊥
kept-none {X = X} may test o none x a b c =
    let k : kept may test o ≡ Some x = rw (a, b) (rw c refl) in
    none-some x (sym none ∙ k)

record IsKeptAs {X : Type 0} (may : Bool) (test : X → Bool) (o : Option X) (x : X) : Type 0 where
  may' : may ≡ true
  said : o ≡ Some x
  fits : test x ≡ true

kept-some : {X : Type 0} (may : Bool) (test : X → Bool) (o : Option X) (x : X) → kept may test o ≡ Some x → IsKeptAs may test o x
kept-some false test o x e = absurd (none-some x e)
kept-some true test None x e = absurd (none-some x e)
kept-some {X = X} true test (Some y) x e = at (test y) refl e
  where
    at : (b : Bool) → test y ≡ b → Rattle.std.proofs.Common.cond b (Some y) None ≡ Some x → IsKeptAs true test (Some y) x
    at false is e = absurd (none-some x e)
    at true is e = let same : y ≡ x = cc in record { may' = refl; said = ap Some same; fits = ap test (sym same) ∙ is }

pub may-from : (t : Tables) (it : Item) → Follows t it → may_come t (section it) ≡ true
may-from t it f = and_from (nat_le (last_section t) (section it)) (is_ready t (section it)) (le-leb (last_section t) (section it) f.order) f.ready

pub follows-may : (t : Tables) (it : Item) → may_come t (section it) ≡ true → IsNext t it → Follows t it
follows-may t it e next =
    let k = and_parts (nat_le (last_section t) (section it)) (is_ready t (section it)) e in
    record { order = leb-true (last_section t) (section it) k.0; ready = k.1; next = next }

module _ (t : Tables) (line : List ℕ) (small : length t.switches < 2 ^ 64) where
  Not : Item → Type 0
  Not it = Follows t it → line ≢ item_body t.version it

  pub link-none : kept (may_come t 4) (link_fits t.links) (link_said (length t.switches) (parts_by is_space line)) ≡ None → IsNoneBy 108 t line
  unfolding Not
  link-none none = by-letter Not 108 (λ x e. absurd (omega (arith, e))) (λ x e. absurd (omega (arith, e))) (λ x e. absurd (omega (arith, e)))
      (λ l e f same. kept-none (may_come t 4) (link_fits t.links) (link_said (length t.switches) (parts_by is_space line)) none l (may-from t (item.Link l) f) ((links-said (length t.switches) l line small).1 (same, f.next.0, f.next.1)) f.next.2)
      (λ x e. absurd (omega (arith, e))) (λ x e. absurd (omega (arith, e))) (λ x e. absurd (omega (arith, e)))

  pub link-some : (l : ℕ × ℕ) → kept (may_come t 4) (link_fits t.links) (link_said (length t.switches) (parts_by is_space line)) ≡ Some l → IsItem t line (item.Link l)
  link-some l e =
      let k = kept-some (may_come t 4) (link_fits t.links) (link_said (length t.switches) (parts_by is_space line)) l e in
      let s = (links-said (length t.switches) l line small).0 k.said in
      (follows-may t (item.Link l) k.may' (s.1, s.2, k.fits), s.0)

  pub port-none : kept (may_come t 5) (is_above port_less t.ports) (port_said (length t.switches) (parts_by is_space line)) ≡ None → IsNoneBy 112 t line
  unfolding Not
  port-none none = by-letter Not 112 (λ x e. absurd (omega (arith, e))) (λ x e. absurd (omega (arith, e))) (λ x e. absurd (omega (arith, e))) (λ x e. absurd (omega (arith, e)))
      (λ p e f same. kept-none (may_come t 5) (is_above port_less t.ports) (port_said (length t.switches) (parts_by is_space line)) none p (may-from t (item.Port p) f) ((ports-said (length t.switches) p line small).1 (same, f.next.0, f.next.1, f.next.2)) f.next.3)
      (λ x e. absurd (omega (arith, e))) (λ x e. absurd (omega (arith, e)))

  pub port-some : (p : PortAt) → kept (may_come t 5) (is_above port_less t.ports) (port_said (length t.switches) (parts_by is_space line)) ≡ Some p → IsItem t line (item.Port p)
  port-some p e =
      let k = kept-some (may_come t 5) (is_above port_less t.ports) (port_said (length t.switches) (parts_by is_space line)) p e in
      let s = (ports-said (length t.switches) p line small).0 k.said in
      (follows-may t (item.Port p) k.may' (s.1, s.2, s.3, k.fits), s.0)

  pub hop-none : kept (may_come t 6) (hop_fits (length t.switches) t.hops) (hop_said (length t.switches) (parts_by is_space line)) ≡ None → IsNoneBy 104 t line
  unfolding Not
  hop-none none = by-letter Not 104 (λ x e. absurd (omega (arith, e))) (λ x e. absurd (omega (arith, e))) (λ x e. absurd (omega (arith, e))) (λ x e. absurd (omega (arith, e))) (λ x e. absurd (omega (arith, e)))
      (λ h e f same. kept-none (may_come t 6) (hop_fits (length t.switches) t.hops) (hop_said (length t.switches) (parts_by is_space line)) none h (may-from t (item.Hop h) f) ((hops-said (length t.switches) h line small).1 (same, f.next.0, f.next.1, f.next.2)) f.next.3)
      (λ x e. absurd (omega (arith, e)))

  pub hop-some : (h : Hop) → kept (may_come t 6) (hop_fits (length t.switches) t.hops) (hop_said (length t.switches) (parts_by is_space line)) ≡ Some h → IsItem t line (item.Hop h)
  hop-some h e =
      let k = kept-some (may_come t 6) (hop_fits (length t.switches) t.hops) (hop_said (length t.switches) (parts_by is_space line)) h e in
      let s = (hops-said (length t.switches) h line small).0 k.said in
      (follows-may t (item.Hop h) k.may' (s.1, s.2, s.3, k.fits), s.0)

  pub array-none : kept (may_come t 3) (array_fits t.arrays) (array_said t.version (length t.switches) (parts_by is_space line)) ≡ None → IsNoneBy 97 t line
  unfolding Not
  array-none none = by-letter Not 97 (λ x e. absurd (omega (arith, e))) (λ x e. absurd (omega (arith, e)))
      (λ a e f same. kept-none (may_come t 3) (array_fits t.arrays) (array_said t.version (length t.switches) (parts_by is_space line)) none a (may-from t (item.Array a) f) ((arrays-said t.version (length t.switches) a line small).1 (same, f.next.0, f.next.1, f.next.2)) f.next.3)
      (λ x e. absurd (omega (arith, e))) (λ x e. absurd (omega (arith, e))) (λ x e. absurd (omega (arith, e))) (λ x e. absurd (omega (arith, e)))

  pub array-some : (a : ArrayAt) → kept (may_come t 3) (array_fits t.arrays) (array_said t.version (length t.switches) (parts_by is_space line)) ≡ Some a → IsItem t line (item.Array a)
  array-some a e =
      let k = kept-some (may_come t 3) (array_fits t.arrays) (array_said t.version (length t.switches) (parts_by is_space line)) a e in
      let s = (arrays-said t.version (length t.switches) a line small).0 k.said in
      (follows-may t (item.Array a) k.may' (s.1, s.2, s.3, k.fits), s.0)

  pub switch-none : kept (may_come t 2) (is_new t.switches) (switch_said (parts_by is_space line)) ≡ None → IsNoneBy 115 t line
  unfolding Not
  switch-none none = by-letter Not 115 (λ x e. absurd (omega (arith, e)))
      (λ n e f same. kept-none (may_come t 2) (is_new t.switches) (switch_said (parts_by is_space line)) none n (may-from t (item.Switch n) f) ((switches-said n line).1 (same, f.next.0)) f.next.1)
      (λ x e. absurd (omega (arith, e))) (λ x e. absurd (omega (arith, e))) (λ x e. absurd (omega (arith, e))) (λ x e. absurd (omega (arith, e))) (λ x e. absurd (omega (arith, e)))

  pub switch-some : (n : List ℕ) → kept (may_come t 2) (is_new t.switches) (switch_said (parts_by is_space line)) ≡ Some n → IsItem t line (item.Switch n)
  switch-some n e =
      let k = kept-some (may_come t 2) (is_new t.switches) (switch_said (parts_by is_space line)) n e in
      let s = (switches-said n line).0 k.said in
      (follows-may t (item.Switch n) k.may' (s.1, k.fits), s.0)

  pub field-none : kept (may_come t 1) (field_fits t.fields) (field_said (parts_by is_space line)) ≡ None → IsNoneBy 102 t line
  unfolding Not
  field-none none = by-letter Not 102
      (λ x e f same. kept-none (may_come t 1) (field_fits t.fields) (field_said (parts_by is_space line)) none x (may-from t (item.Field x) f) ((fields-said x line).1 (same, f.next.0, f.next.1)) f.next.2)
      (λ x e. absurd (omega (arith, e))) (λ x e. absurd (omega (arith, e))) (λ x e. absurd (omega (arith, e))) (λ x e. absurd (omega (arith, e))) (λ x e. absurd (omega (arith, e))) (λ x e. absurd (omega (arith, e)))

  pub field-some : (x : Field) → kept (may_come t 1) (field_fits t.fields) (field_said (parts_by is_space line)) ≡ Some x → IsItem t line (item.Field x)
  field-some x e =
      let k = kept-some (may_come t 1) (field_fits t.fields) (field_said (parts_by is_space line)) x e in
      let s = (fields-said x line).0 k.said in
      (follows-may t (item.Field x) k.may' (s.1, s.2, k.fits), s.0)

  pub row-none : IsNoRowLine t.version (counts_of t) t.arrays t.rows line → IsNoneBy 114 t line
  unfolding Not
  row-none none = by-letter Not 114 (λ x e. absurd (omega (arith, e))) (λ x e. absurd (omega (arith, e))) (λ x e. absurd (omega (arith, e))) (λ x e. absurd (omega (arith, e))) (λ x e. absurd (omega (arith, e))) (λ x e. absurd (omega (arith, e)))
      (λ r e f same. none r f.next same)

  pub row-some : (r : RowAt) → may_come t 7 ≡ true → IsRowLine t.version (counts_of t) t.arrays t.rows line r → IsItem t line (item.Row r)
  row-some r may said = (follows-may t (item.Row r) may said.0, said.1)

module _ (v : ℕ) (k : Counts) (ranked : List ArrayAt) (rs : List RowAt) (line : List ℕ) (fits : k.comps < 2 ^ 64) (few : k.arrays < 2 ^ 64) (ends : k.switches < 2 ^ 64) where
  row-parts : (r : RowAt) → IsNextRow v k ranked rs r → line ≡ item_body v (item.Row r) → parts_by is_space line ≡ codes "row" ∷ decimal r.at ∷ decimal r.number ∷ row_words r.row
  row-parts r f e =
      ap (parts_by is_space) e
      ∙ body-parts (codes "row") (decimal r.at ∷ decimal r.number ∷ row_words r.row) (ink-if (codes "row") refl) (decimal-ink r.at (omega (arith, f.0, ends)), (decimal-ink r.number f.1, row-ink k fits few ends v ranked r.row f.2))

  module _ (ws : Words) (open' : opened (codes "row") (parts_by is_space line) ≡ Some ws) where
    behind-row : (r : RowAt) → IsNextRow v k ranked rs r → line ≡ item_body v (item.Row r) → ws ≡ decimal r.at ∷ decimal r.number ∷ row_words r.row
    behind-row r f e =
        tail-same (codes "row") (codes "row") ws (decimal r.at ∷ decimal r.number ∷ row_words r.row) (sym (opened-some (codes "row") (parts_by is_space line) ws open') ∙ row-parts r f e)

    pub rowline-nowhere : taken (below_said k.switches) ws ≡ None → IsNoRowLine v k ranked rs line
    rowline-nowhere none r f e =
        none-some (r.at, decimal r.number ∷ row_words r.row) (sym none ∙ ap (taken (below_said k.switches)) (behind-row r f e) ∙ rw (said-below k.switches r.at ends f.0) refl)

    module _ (at : ℕ) (us : Words) (there : taken (below_said k.switches) ws ≡ Some (at, us)) where
      at-word : (w : List ℕ) × (ws ≡ w ∷ us) × (below_said k.switches w ≡ Some at)
      at-word = taken-some (below_said k.switches) ws (at, us) there

      behind-at : (r : RowAt) → IsNextRow v k ranked rs r → line ≡ item_body v (item.Row r) → us ≡ decimal r.number ∷ row_words r.row
      behind-at r f e = tail-same at-word.0 (decimal r.at) us (decimal r.number ∷ row_words r.row) (sym at-word.1 ∙ behind-row r f e)

      same-at : (r : RowAt) → IsNextRow v k ranked rs r → line ≡ item_body v (item.Row r) → at ≡ r.at
      same-at r f e =
          let word = head-same at-word.0 (decimal r.at) us (decimal r.number ∷ row_words r.row) (sym at-word.1 ∙ behind-row r f e) in
          some-same at r.at (sym at-word.2 ∙ ap (below_said k.switches) word ∙ said-below k.switches r.at ends f.0)

      pub rowline-unnumbered : taken u64_said us ≡ None → IsNoRowLine v k ranked rs line
      rowline-unnumbered none r f e =
          none-some (r.number, row_words r.row) (sym none ∙ ap (taken u64_said) (behind-at r f e) ∙ rw (word-u64 r.number f.1) refl)

      module _ (number : ℕ) (vs : Words) (numbered : taken u64_said us ≡ Some (number, vs)) where
        number-word : (w : List ℕ) × (us ≡ w ∷ vs) × (u64_said w ≡ Some number)
        number-word = taken-some u64_said us (number, vs) numbered

        same-number : (r : RowAt) → IsNextRow v k ranked rs r → line ≡ item_body v (item.Row r) → number ≡ r.number
        same-number r f e =
            let word = head-same number-word.0 (decimal r.number) vs (row_words r.row) (sym number-word.1 ∙ behind-at r f e) in
            some-same number r.number (sym number-word.2 ∙ ap u64_said word ∙ word-u64 r.number f.1)

        pub rowline-below : is_above_at rs at number ≡ false → IsNoRowLine v k ranked rs line
        rowline-below below r f e = false-true (sym below ∙ (λ i. is_above_at rs (same-at r f e i) (same-number r f e i)) ∙ f.3)

        pub rowline-none : IsNoRow v k ranked vs → IsNoRowLine v k ranked rs line
        rowline-none none r f e = none r.row f.2 (tail-same number-word.0 (decimal r.number) vs (row_words r.row) (sym number-word.1 ∙ behind-at r f e))

        pub rowline-some : is_above_at rs at number ≡ true → (b : Row) → IsRowSaid v k ranked vs b → IsRowLine v k ranked rs line (record { at = at; number = number; row = b })
        rowline-some above b said =
            let d = below-said k.switches at at-word.0 ends at-word.2 in
            let m = u64-word number-word.0 number number-word.2 in
            let words = opened-some (codes "row") (parts_by is_space line) ws open' ∙ ap (λ l. codes "row" ∷ l) (at-word.1 ∙ ap (λ l. at-word.0 ∷ l) (number-word.1 ∙ ap (λ l. number-word.0 ∷ l) said.0) ∙ (λ i. d.0 i ∷ m.0 i ∷ row_words b)) in
            ((d.1, m.1, said.1, above), text-of line (codes "row") (decimal at ∷ decimal number ∷ row_words b) words)

-- lines by their first byte
pub body-letter : (v : ℕ) (it : Item) → (rest : List ℕ) × (item_body v it ≡ letter it ∷ rest)
body-letter v (item.Field x) = (_, refl)
body-letter v (item.Switch x) = (_, refl)
body-letter v (item.Array x) = (_, refl)
body-letter v (item.Link x) = (_, refl)
body-letter v (item.Port x) = (_, refl)
body-letter v (item.Hop x) = (_, refl)
body-letter v (item.Row x) = (_, refl)

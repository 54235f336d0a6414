-- A line says one entry, and the words of a row one row.
use Rattle.std.proofs.Common.{◌≡◌, ℕ, ◌<◌, ◌^◌, true, false, cond, List, [], ◌∷◌, ◌++◌, Some, length, refl, sym, ap, subst, ◌∙◌, arith, decimal, append-nil}
use Rattle.std.specs.Prelude.{◌==◌, codes}
use Rattle.std.specs.List.{flat_map}
use Rattle.std.proofs.lemmas.Bool.{eqb-true}
use Rattle.std.proofs.lemmas.Fmt.{decimal_injective}
use Rattle.snap_core.specs.declared.policy.Test.{Test}
use Rattle.snap_core.specs.declared.policy.Test.TheVariants.{Value, Equal, State as StateTest}
use Rattle.snap_core.specs.declared.policy.Update.{Update}
use Rattle.snap_core.specs.Figures.{parts_by}
use Rattle.snap_rows.specs.declared.tables.ArrayAt.{ArrayAt}
use Rattle.snap_rows.specs.declared.tables.RowAt.{RowAt}
use Rattle.snap_rows.specs.declared.tables.Row.{Row}
use Rattle.snap_rows.specs.declared.tables.Row.TheVariants as row
use Rattle.snap_rows.specs.declared.tables.Stage.{Stage as LeafStage}
use Rattle.snap_rows.specs.declared.tables.Tables.{Tables}
use Rattle.snap_rows.specs.Entries.{Parts}
use Rattle.snap_tables.specs.Drafts.{letter}
use Rattle.snap_tables.specs.Laws.{IsUpdateOf}
use Rattle.snap_tables.specs.Lines.{Follows, IsBeginning, counts_of, item_body, item_line}
use Rattle.snap_tables.specs.Reading.{begins_update, is_space}
use Rattle.snap_tables.specs.Rows.{AreOuts, AreStages, AreUpdates, IsOut, IsRowOf, IsStage, never, opens_out, opens_part, opens_stage, opens_with, test_row_said, tested}
use Rattle.snap_tables.specs.Text.{Words, out_words, row_words, stage_words, test_words, update_words}
use Rattle.snap_tables.specs.declared.item.Item.{Item}
use Rattle.snap_tables.specs.declared.item.Item.TheVariants as item
use Rattle.snap_tables.specs.declared.piece.Counts.{Counts}
use Rattle.snap_tables.proofs.ArrayLemmas.{arrays-said}
use Rattle.snap_tables.proofs.FieldLineLemmas.{fields-said}
use Rattle.snap_tables.proofs.Inks.{body-parts, ink-if, row-ink}
use Rattle.snap_tables.proofs.LeafLaws.{outs-no-stage, outs-no-update}
use Rattle.snap_tables.proofs.NextLemmas.{body-letter, by-letter}
use Rattle.snap_tables.proofs.NumberLines.{hops-said, links-said, ports-said}
use Rattle.snap_tables.proofs.PieceLaws.{head-same, outs-apart, some-same, stages-apart, tail-same, updates-apart}
use Rattle.snap_tables.proofs.PieceLemmas.{false-true, lists-one}
use Rattle.snap_tables.proofs.ReadLemmas.{item-lacks, whole-line}
use Rattle.snap_tables.proofs.RowLaws.{go-only, said-test-row, stop-only}
use Rattle.snap_tables.proofs.Shades.{decimal-ink}
use Rattle.snap_tables.proofs.TestLemmas.{switches-said}
use Rattle.snap_tables.proofs.Joins.{join-parts}

test-no-leaf : (t : Test) (r : Words) → opens_with (codes "leaf") (test_words t ++ r) ≡ false
test-no-leaf (Value c n) r = refl
test-no-leaf (Equal a b n) r = refl
test-no-leaf (StateTest v es x) r = refl

test-no-go : (t : Test) (r : Words) → opens_with (codes "go") (test_words t ++ r) ≡ false
test-no-go (Value c n) r = refl
test-no-go (Equal a b n) r = refl
test-no-go (StateTest v es x) r = refl

test-no-stop : (t : Test) (r : Words) → opens_with (codes "stop") (test_words t ++ r) ≡ false
test-no-stop (Value c n) r = refl
test-no-stop (Equal a b n) r = refl
test-no-stop (StateTest v es x) r = refl

module _ (v : ℕ) (k : Counts) (ranked : List ArrayAt) (fits : k.comps < 2 ^ 64) (few : k.arrays < 2 ^ 64) (ends : k.switches < 2 ^ 64) where
  leaves-one : (ss us : List LeafStage) (os ps : List Parts) → AreStages k ss → AreStages k us → AreOuts k os → AreOuts k ps
      → flat_map stage_words ss ++ flat_map out_words os ≡ flat_map stage_words us ++ flat_map out_words ps → (ss ≡ us) × (os ≡ ps)
  leaves-one ss us os ps fs fu fo fp e =
      let a = lists-one stage_words (IsStage k) opens_stage begins_update (stages-apart k fits few ends) ss us (flat_map out_words os) (flat_map out_words ps) fs.0 fu.0 (outs-no-stage os) (outs-no-update os) (outs-no-stage ps) (outs-no-update ps) e in
      (a.0, outs-one os ps fo fp a.1)
    where
      outs-one : (os ps : List Parts) → AreOuts k os → AreOuts k ps → flat_map out_words os ≡ flat_map out_words ps → os ≡ ps
      outs-one os ps fo fp e = (lists-one out_words (IsOut k) opens_out opens_part (outs-apart k fits few ends) os ps [] [] fo.0 fp.0 refl refl refl refl (append-nil (flat_map out_words os) ∙ e ∙ sym (append-nil (flat_map out_words ps)))).0

  lasts-one : (us ws : List Update) (os ps : List Parts) → AreUpdates k ranked us → AreUpdates k ranked ws → AreOuts k os → AreOuts k ps
      → flat_map update_words us ++ flat_map out_words os ≡ flat_map update_words ws ++ flat_map out_words ps → (us ≡ ws) × (os ≡ ps)
  lasts-one us ws os ps fu fw fo fp e =
      let a = lists-one update_words (IsUpdateOf k.comps k.arrays) begins_update never (updates-apart k.comps fits k.arrays few) us ws (flat_map out_words os) (flat_map out_words ps) fu.0 fw.0 (outs-no-update os) refl (outs-no-update ps) refl e in
      (a.0, (lists-one out_words (IsOut k) opens_out opens_part (outs-apart k fits few ends) os ps [] [] fo.0 fp.0 refl refl refl refl (append-nil (flat_map out_words os) ∙ a.1 ∙ sym (append-nil (flat_map out_words ps)))).0)

  two-versions : (v == 1) ≡ true → (v == 2) ≡ true → ⊥
  two-versions a b = omega (arith, eqb-true v 1 a, eqb-true v 2 b)

  as-tested : (b : Row) (t : Test) (y z : ℕ) → (Rattle.snap_tables.specs.Rows.is_field_test t ≡ true) × (b ≡ row.Field t y z) → tested t y z ≡ b
  as-tested b t y z p = ap (λ c. cond c (row.Field t y z) (row.State t y z)) p.0 ∙ sym p.1

  as-state : (b : Row) (t : Test) (y z : ℕ) → (Rattle.snap_tables.specs.Rows.is_field_test t ≡ false) × (b ≡ row.State t y z) → tested t y z ≡ b
  as-state b t y z p = ap (λ c. cond c (row.Field t y z) (row.State t y z)) p.0 ∙ sym p.1

  -- a test row is what its words say
  field-said : (t : Test) (y z : ℕ) → IsRowOf v k ranked (row.Field t y z) → test_row_said k (row_words (row.Field t y z)) ≡ Some (row.Field t y z)
  field-said t y z f = said-test-row k fits few t y z f.0 f.2 f.3 ∙ ap Some (as-tested (row.Field t y z) t y z (f.1, refl))

  state-said : (t : Test) (y z : ℕ) → IsRowOf v k ranked (row.State t y z) → test_row_said k (row_words (row.State t y z)) ≡ Some (row.State t y z)
  state-said t y z f = said-test-row k fits few t y z f.0 f.2 f.3 ∙ ap Some (as-state (row.State t y z) t y z (f.1, refl))

  -- of a row with a test's words
  test-one : (b c : Row) (t : Test) (r : Words) → row_words c ≡ test_words t ++ r → test_row_said k (row_words c) ≡ Some c → IsRowOf v k ranked b → row_words b ≡ row_words c → b ≡ c
  test-one (row.Field t y z) c u r w said f e = some-same (row.Field t y z) c (sym (field-said t y z f) ∙ ap (test_row_said k) e ∙ said)
  test-one (row.State t y z) c u r w said f e = some-same (row.State t y z) c (sym (state-said t y z f) ∙ ap (test_row_said k) e ∙ said)
  test-one (row.Go x) c u r w said f e = absurd (false-true (sym (test-no-go u r) ∙ ap (opens_with (codes "go")) (sym (e ∙ w))))
  test-one (row.Leaf ss os) c u r w said f e = absurd (false-true (sym (test-no-leaf u r) ∙ ap (opens_with (codes "leaf")) (sym (e ∙ w))))
  test-one row.Stop c u r w said f e = absurd (false-true (sym (test-no-stop u r) ∙ ap (opens_with (codes "stop")) (sym (e ∙ w))))
  test-one (row.Last us os) c u r w said f e = absurd (false-true (sym (test-no-leaf u r) ∙ ap (opens_with (codes "leaf")) (sym (e ∙ w))))

  leaf-one : (b : Row) (us : List LeafStage) (ps : List Parts) → IsRowOf v k ranked b → IsRowOf v k ranked (row.Leaf us ps) → row_words b ≡ row_words (row.Leaf us ps) → b ≡ row.Leaf us ps
  leaf-one (row.Field t y z) us ps f g e = absurd (false-true (sym (test-no-leaf t (decimal y ∷ decimal z ∷ [])) ∙ ap (opens_with (codes "leaf")) e))
  leaf-one (row.State t y z) us ps f g e = absurd (false-true (sym (test-no-leaf t (decimal y ∷ decimal z ∷ [])) ∙ ap (opens_with (codes "leaf")) e))
  leaf-one (row.Go x) us ps f g e = absurd (false-true (ap (opens_with (codes "leaf")) e))
  leaf-one row.Stop us ps f g e = absurd (false-true (ap (opens_with (codes "leaf")) e))
  leaf-one (row.Last ws os) us ps f g e = absurd (two-versions g.0 f.0)
  leaf-one (row.Leaf ss os) us ps f g e =
      let k' = leaves-one ss us os ps f.1 g.1 f.2 g.2 (tail-same (codes "leaf") (codes "leaf") (flat_map stage_words ss ++ flat_map out_words os) (flat_map stage_words us ++ flat_map out_words ps) e) in
      (λ i. row.Leaf (k'.0 i) (k'.1 i))

  last-one : (b : Row) (us : List Update) (ps : List Parts) → IsRowOf v k ranked b → IsRowOf v k ranked (row.Last us ps) → row_words b ≡ row_words (row.Last us ps) → b ≡ row.Last us ps
  last-one (row.Field t y z) us ps f g e = absurd (false-true (sym (test-no-leaf t (decimal y ∷ decimal z ∷ [])) ∙ ap (opens_with (codes "leaf")) e))
  last-one (row.State t y z) us ps f g e = absurd (false-true (sym (test-no-leaf t (decimal y ∷ decimal z ∷ [])) ∙ ap (opens_with (codes "leaf")) e))
  last-one (row.Go x) us ps f g e = absurd (false-true (ap (opens_with (codes "leaf")) e))
  last-one row.Stop us ps f g e = absurd (false-true (ap (opens_with (codes "leaf")) e))
  last-one (row.Leaf ss os) us ps f g e = absurd (two-versions f.0 g.0)
  last-one (row.Last ws os) us ps f g e =
      let k' = lasts-one ws us os ps f.1 g.1 f.2 g.2 (tail-same (codes "leaf") (codes "leaf") (flat_map update_words ws ++ flat_map out_words os) (flat_map update_words us ++ flat_map out_words ps) e) in
      (λ i. row.Last (k'.0 i) (k'.1 i))

  -- words of rows are those of one row
  row-one : (b c : Row) → IsRowOf v k ranked b → IsRowOf v k ranked c → row_words b ≡ row_words c → b ≡ c
  row-one b (row.Field t y z) f g e = test-one b (row.Field t y z) t (decimal y ∷ decimal z ∷ []) refl (field-said t y z g) f e
  row-one b (row.State t y z) f g e = test-one b (row.State t y z) t (decimal y ∷ decimal z ∷ []) refl (state-said t y z g) f e
  row-one b (row.Go x) f g e =
      let p = go-only k fits few b (ap (opens_with (codes "go")) e) in
      let f' = subst (IsRowOf v k ranked) p.1 f in
      let words = sym (ap row_words p.1) ∙ e in
      let d = head-same (decimal p.0) (decimal x) [] [] (tail-same (codes "go") (codes "go") (decimal p.0 ∷ []) (decimal x ∷ []) words) in
      p.1 ∙ ap row.Go (decimal_injective p.0 x (omega (arith, f'.1, ends)) (omega (arith, g.1, ends)) d)
  row-one b (row.Leaf us ps) f g e = leaf-one b us ps f g e
  row-one b row.Stop f g e = stop-only k fits few b (ap (opens_with (codes "stop")) e)
  row-one b (row.Last us ps) f g e = last-one b us ps f g e

-- ---- entries
module _ (t : Tables) (b : IsBeginning t) where
  small : length t.switches < 2 ^ 64
  small = omega (arith, b.few_switches)

  abbrev Same : Item → Item → Type 0
  Same x it = Follows t it → item_body t.version x ≡ item_body t.version it → x ≡ it

  body-one : (x : Item) → Follows t x → (it : Item) → letter it ≡ letter x → Same x it
  body-one (item.Field x) f = by-letter (Same (item.Field x)) 102
      (λ y e g same. ap item.Field (some-same x y (sym ((fields-said x (item_body t.version (item.Field x))).1 (refl, f.next.0, f.next.1)) ∙ (fields-said y (item_body t.version (item.Field x))).1 (same, g.next.0, g.next.1))))
      (λ y e. absurd (omega (arith, e))) (λ y e. absurd (omega (arith, e))) (λ y e. absurd (omega (arith, e))) (λ y e. absurd (omega (arith, e))) (λ y e. absurd (omega (arith, e))) (λ y e. absurd (omega (arith, e)))
  body-one (item.Switch x) f = by-letter (Same (item.Switch x)) 115 (λ y e. absurd (omega (arith, e)))
      (λ y e g same. ap item.Switch (some-same x y (sym ((switches-said x (item_body t.version (item.Switch x))).1 (refl, f.next.0)) ∙ (switches-said y (item_body t.version (item.Switch x))).1 (same, g.next.0))))
      (λ y e. absurd (omega (arith, e))) (λ y e. absurd (omega (arith, e))) (λ y e. absurd (omega (arith, e))) (λ y e. absurd (omega (arith, e))) (λ y e. absurd (omega (arith, e)))
  body-one (item.Array x) f = by-letter (Same (item.Array x)) 97 (λ y e. absurd (omega (arith, e))) (λ y e. absurd (omega (arith, e)))
      (λ y e g same. ap item.Array (some-same x y (sym ((arrays-said t.version (length t.switches) x (item_body t.version (item.Array x)) small).1 (refl, f.next.0, f.next.1, f.next.2)) ∙ (arrays-said t.version (length t.switches) y (item_body t.version (item.Array x)) small).1 (same, g.next.0, g.next.1, g.next.2))))
      (λ y e. absurd (omega (arith, e))) (λ y e. absurd (omega (arith, e))) (λ y e. absurd (omega (arith, e))) (λ y e. absurd (omega (arith, e)))
  body-one (item.Link x) f = by-letter (Same (item.Link x)) 108 (λ y e. absurd (omega (arith, e))) (λ y e. absurd (omega (arith, e))) (λ y e. absurd (omega (arith, e)))
      (λ y e g same. ap item.Link (some-same x y (sym ((links-said (length t.switches) x (item_body t.version (item.Link x)) small).1 (refl, f.next.0, f.next.1)) ∙ (links-said (length t.switches) y (item_body t.version (item.Link x)) small).1 (same, g.next.0, g.next.1))))
      (λ y e. absurd (omega (arith, e))) (λ y e. absurd (omega (arith, e))) (λ y e. absurd (omega (arith, e)))
  body-one (item.Port x) f = by-letter (Same (item.Port x)) 112 (λ y e. absurd (omega (arith, e))) (λ y e. absurd (omega (arith, e))) (λ y e. absurd (omega (arith, e))) (λ y e. absurd (omega (arith, e)))
      (λ y e g same. ap item.Port (some-same x y (sym ((ports-said (length t.switches) x (item_body t.version (item.Port x)) small).1 (refl, f.next.0, f.next.1, f.next.2)) ∙ (ports-said (length t.switches) y (item_body t.version (item.Port x)) small).1 (same, g.next.0, g.next.1, g.next.2))))
      (λ y e. absurd (omega (arith, e))) (λ y e. absurd (omega (arith, e)))
  body-one (item.Hop x) f = by-letter (Same (item.Hop x)) 104 (λ y e. absurd (omega (arith, e))) (λ y e. absurd (omega (arith, e))) (λ y e. absurd (omega (arith, e))) (λ y e. absurd (omega (arith, e))) (λ y e. absurd (omega (arith, e)))
      (λ y e g same. ap item.Hop (some-same x y (sym ((hops-said (length t.switches) x (item_body t.version (item.Hop x)) small).1 (refl, f.next.0, f.next.1, f.next.2)) ∙ (hops-said (length t.switches) y (item_body t.version (item.Hop x)) small).1 (same, g.next.0, g.next.1, g.next.2))))
      (λ y e. absurd (omega (arith, e)))
  body-one (item.Row x) f = by-letter (Same (item.Row x)) 114 (λ y e. absurd (omega (arith, e))) (λ y e. absurd (omega (arith, e))) (λ y e. absurd (omega (arith, e))) (λ y e. absurd (omega (arith, e))) (λ y e. absurd (omega (arith, e))) (λ y e. absurd (omega (arith, e)))
      (λ y e g same. ap item.Row (rows-same x y f g same))
    where
      parts : (r : RowAt) → Follows t (item.Row r) → parts_by is_space (item_body t.version (item.Row r)) ≡ codes "row" ∷ decimal r.at ∷ decimal r.number ∷ row_words r.row
      parts r f = body-parts (codes "row") (decimal r.at ∷ decimal r.number ∷ row_words r.row) (ink-if (codes "row") refl)
          (decimal-ink r.at (omega (arith, f.next.0, b.few_switches)), (decimal-ink r.number f.next.1, row-ink (counts_of t) (omega (arith, b.few_comps)) (omega (arith, b.few_arrays)) (omega (arith, b.few_switches)) t.version t.arrays r.row f.next.2))

      rows-same : (x y : RowAt) → Follows t (item.Row x) → Follows t (item.Row y) → item_body t.version (item.Row x) ≡ item_body t.version (item.Row y) → x ≡ y
      rows-same x y f g same =
          let words = sym (parts x f) ∙ ap (parts_by is_space) same ∙ parts y g in
          let one = tail-same (codes "row") (codes "row") (decimal x.at ∷ decimal x.number ∷ row_words x.row) (decimal y.at ∷ decimal y.number ∷ row_words y.row) words in
          let two = tail-same (decimal x.at) (decimal y.at) (decimal x.number ∷ row_words x.row) (decimal y.number ∷ row_words y.row) one in
          let at = decimal_injective x.at y.at (omega (arith, f.next.0, b.few_switches)) (omega (arith, g.next.0, b.few_switches)) (head-same (decimal x.at) (decimal y.at) (decimal x.number ∷ row_words x.row) (decimal y.number ∷ row_words y.row) one) in
          let number = decimal_injective x.number y.number f.next.1 g.next.1 (head-same (decimal x.number) (decimal y.number) (row_words x.row) (row_words y.row) two) in
          let r = row-one t.version (counts_of t) t.arrays (omega (arith, b.few_comps)) (omega (arith, b.few_arrays)) (omega (arith, b.few_switches)) x.row y.row f.next.2 g.next.2 (tail-same (decimal x.number) (decimal y.number) (row_words x.row) (row_words y.row) two) in
          (λ i. record { at = at i; number = number i; row = r i })

  -- a line at the front of a text is that of one entry
  pub item-one : (x it : Item) (m n : List ℕ) → Follows t x → Follows t it → item_line t.version x ++ m ≡ item_line t.version it ++ n → (x ≡ it) × (m ≡ n)
  item-one x it m n f g e =
      let a = whole-line (item_line t.version x ++ m) (item_body t.version x) m (item-lacks t b x f) refl in
      let c = whole-line (item_line t.version x ++ m) (item_body t.version it) n (item-lacks t b it g) e in
      let both = sym a ∙ c in
      let body = head-same (item_body t.version x) (item_body t.version it) (parts_by (λ b. b == 10) m) (parts_by (λ b. b == 10) n) both in
      let rest = tail-same (item_body t.version x) (item_body t.version it) (parts_by (λ b. b == 10) m) (parts_by (λ b. b == 10) n) both in
      let first = head-same (letter it) (letter x) (body-letter t.version it).0 (body-letter t.version x).0 (sym (body-letter t.version it).1 ∙ sym body ∙ (body-letter t.version x).1) in
      (body-one x f it first g body, sym (join-parts 10 m) ∙ ap (Rattle.snap_tables.specs.Joins.join 10) rest ∙ join-parts 10 n)

  -- no entry's line begins as the last line does
  pub item-no-end : (it : Item) (m n : List ℕ) → item_line t.version it ++ m ≡ codes "e" ++ n → ⊥
  item-no-end it m n e =
      let l = body-letter t.version it in
      let first : letter it ≡ 101 = head-same (letter it) 101 ((l.0 ++ codes "\n") ++ m) n (sym (ap (λ w. (w ++ codes "\n") ++ m) l.1) ∙ e) in
      no-letter it first
    where
      no-letter : (it : Item) → letter it ≡ 101 → ⊥
      no-letter it e = by-letter (λ it. ⊥) 101 (λ y e. omega (arith, e)) (λ y e. omega (arith, e)) (λ y e. omega (arith, e)) (λ y e. omega (arith, e)) (λ y e. omega (arith, e)) (λ y e. omega (arith, e)) (λ y e. omega (arith, e)) it e

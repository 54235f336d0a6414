-- What the words of rows say, exactly.
use Rattle.std.proofs.Common.{◌≡◌, ℕ, ◌-◌, ◌<◌, ◌^◌, Bool, true, false, cond, List, [], ◌∷◌, ◌++◌, Some, None, refl, sym, ap, subst, ◌∙◌, arith, decimal}
use Rattle.std.specs.Prelude.{◌==◌, ◌&&◌, codes}
use Rattle.std.specs.List.{flat_map}
use Rattle.std.specs.Str.{bytes_eq}
use Rattle.std.proofs.lemmas.Bool.{and_parts}
use Rattle.snap_core.specs.declared.policy.Atom.{Atom}
use Rattle.snap_core.specs.declared.policy.Term.{Term}
use Rattle.snap_core.specs.declared.policy.Test.{Test}
use Rattle.snap_core.specs.declared.policy.Test.TheVariants.{Value, Equal, State as StateTest}
use Rattle.snap_rows.specs.declared.tables.ArrayAt.{ArrayAt}
use Rattle.snap_rows.specs.declared.tables.Row.{Row}
use Rattle.snap_rows.specs.declared.tables.Row.TheVariants as row
use Rattle.snap_tables.specs.Text.{Words, out_words, row_words, stage_words, test_words, update_words}
use Rattle.snap_tables.specs.Laws.{IsTestOf}
use Rattle.snap_tables.specs.Reading.{below_said, equal_taken, index_said, no_words, opened, state_taken, taken, term_said, u64_said, value_taken}
use Rattle.snap_tables.specs.Rows.{IsNoRow, IsRowOf, IsRowSaid, go_said, is_field_test, opens_with, test_row_said, test_taken, tested}
use Rattle.snap_tables.specs.declared.piece.Counts.{Counts}
use Rattle.snap_tables.proofs.NumberLines.{chosen, none-left, opened-some, taken-some}
use Rattle.snap_tables.proofs.PieceLemmas.{false-true}
use Rattle.snap_tables.proofs.PieceLaws.{none-some, opened-word, shut}
use Rattle.snap_tables.proofs.Readings.{said-decimal, decimal-said}
use Rattle.snap_tables.proofs.Said.{below-said, said-below, map-some}
use Rattle.snap_tables.proofs.Terms.{and-some}
use Rattle.snap_tables.proofs.TestLemmas.{equals-taken, states-taken, values-taken}

pub u64-word : (w : List ℕ) (n : ℕ) → u64_said w ≡ Some n → (w ≡ decimal n) × (n < 2 ^ 64)
u64-word w n e = let k = said-decimal (2 ^ 64 - 1) w n (omega arith) e in (k.0, omega (arith, k.1))

pub word-u64 : (n : ℕ) → n < 2 ^ 64 → u64_said (decimal n) ≡ Some n
word-u64 n small = decimal-said (2 ^ 64 - 1) n (omega arith) (omega arith)

module _ (k : Counts) (fits : k.comps < 2 ^ 64) (few : k.arrays < 2 ^ 64) where
  abbrev IsTaken : Words → Test → Words → List ℕ → Type 0
  IsTaken ws t rest w = (w ∷ ws ≡ test_words t ++ rest) × IsTestOf k.comps k.arrays t

  value-is : (ws : Words) (t : Test) (rest : Words) → value_taken k.comps ws ≡ Some (t, rest) → (c : ℕ) × (n : ℕ) × (t ≡ Value c n)
  value-is ws t rest e =
      let a = and-some _ (taken (below_said k.comps) ws) (t, rest) e in
      let b = map-some (λ (y : ℕ × Words). (Value a.0.0 y.0, y.1)) (taken u64_said a.0.1) (t, rest) a.2 in
      (a.0.0, b.0.0, ap (λ (q : Test × Words). q.0) b.2)

  equal-is : (ws : Words) (t : Test) (rest : Words) → equal_taken k.comps ws ≡ Some (t, rest) → (a : ℕ) × (b : ℕ) × (n : ℕ) × (t ≡ Equal a b n)
  equal-is ws t rest e =
      let p = and-some _ (taken (below_said k.comps) ws) (t, rest) e in
      let q = and-some _ (taken (below_said k.comps) p.0.1) (t, rest) p.2 in
      let r = and-some _ (taken u64_said q.0.1) (t, rest) q.2 in
      let d = chosen (Rattle.std.specs.Prelude.nat_lt p.0.0 q.0.0) (Equal p.0.0 q.0.0 r.0.0, r.0.1) (t, rest) r.2 in
      (p.0.0, q.0.0, r.0.0, ap (λ (q : Test × Words). q.0) d.1)

  state-is : (ws : Words) (t : Test) (rest : Words) → state_taken k.comps k.arrays ws ≡ Some (t, rest) → (v : ℕ) × (es : List Atom) × (x : Term) × (t ≡ StateTest v es x)
  state-is ws t rest e =
      let p = and-some _ (taken (below_said k.arrays) ws) (t, rest) e in
      let q = and-some _ (taken (index_said k.comps) p.0.1) (t, rest) p.2 in
      let r = map-some (λ (y : Term × Words). (StateTest p.0.0 q.0.0 y.0, y.1)) (taken (term_said k.comps) q.0.1) (t, rest) q.2 in
      (p.0.0, q.0.0, r.0.0, ap (λ (q : Test × Words). q.0) r.2)

  test-taken : (ws : Words) (t : Test) (rest : Words) → test_taken k ws ≡ Some (t, rest) → (ws ≡ test_words t ++ rest) × IsTestOf k.comps k.arrays t
  test-taken [] t rest e = absurd (none-some (t, rest) e)
  test-taken (w ∷ ws) t rest e = first (bytes_eq w (codes "value")) refl e
    where
      third : (z : Bool) → bytes_eq w (codes "state") ≡ z → cond z (state_taken k.comps k.arrays ws) None ≡ Some (t, rest) → IsTaken ws t rest w
      third false is e = absurd (none-some (t, rest) e)
      third true is e =
          let s = state-is ws t rest e in
          let l = (states-taken k.comps k.arrays s.0 s.1 s.2 ws rest fits few).0 (e ∙ ap (λ u. Some (u, rest)) s.3) in
          subst (λ u. IsTaken ws u rest w) (sym s.3) ((λ i. opened-word (codes "state") w is i ∷ l.0 i), (l.1, l.2, l.3))

      second : (z : Bool) → bytes_eq w (codes "equal") ≡ z → cond z (equal_taken k.comps ws) (cond (bytes_eq w (codes "state")) (state_taken k.comps k.arrays ws) None) ≡ Some (t, rest) → IsTaken ws t rest w
      second false is e = third (bytes_eq w (codes "state")) refl e
      second true is e =
          let s = equal-is ws t rest e in
          let l = (equals-taken k.comps s.0 s.1 s.2 ws rest fits).0 (e ∙ ap (λ u. Some (u, rest)) s.3) in
          subst (λ u. IsTaken ws u rest w) (sym s.3) ((λ i. opened-word (codes "equal") w is i ∷ l.0 i), (l.1, l.2, l.3))

      first : (z : Bool) → bytes_eq w (codes "value") ≡ z → cond z (value_taken k.comps ws) (cond (bytes_eq w (codes "equal")) (equal_taken k.comps ws) (cond (bytes_eq w (codes "state")) (state_taken k.comps k.arrays ws) None)) ≡ Some (t, rest) → IsTaken ws t rest w
      first false is e = second (bytes_eq w (codes "equal")) refl e
      first true is e =
          let s = value-is ws t rest e in
          let l = (values-taken k.comps s.0 s.1 ws rest fits).0 (e ∙ ap (λ u. Some (u, rest)) s.2) in
          subst (λ u. IsTaken ws u rest w) (sym s.2) ((λ i. opened-word (codes "value") w is i ∷ l.0 i), (l.1, l.2))

  taken-test : (t : Test) (rest : Words) → IsTestOf k.comps k.arrays t → test_taken k (test_words t ++ rest) ≡ Some (t, rest)
  taken-test (Value c n) rest f = (values-taken k.comps c n (decimal c ∷ decimal n ∷ rest) rest fits).1 (refl, f.0, f.1)
  taken-test (Equal a b n) rest f = (equals-taken k.comps a b n (decimal a ∷ decimal b ∷ decimal n ∷ rest) rest fits).1 (refl, f.0, f.1, f.2)
  taken-test (StateTest v es x) rest f = (states-taken k.comps k.arrays v es x _ rest fits few).1 (refl, f.0, f.1, f.2)

  tested-row : (v : ℕ) (ranked : List ArrayAt) (t : Test) (y z : ℕ) (ws : Words) → ws ≡ test_words t ++ (decimal y ∷ decimal z ∷ []) → IsTestOf k.comps k.arrays t → y < 2 ^ 64 → z < 2 ^ 64 → IsRowSaid v k ranked ws (tested t y z)
  tested-row v ranked t y z ws words form fy fz = at (is_field_test t) refl
    where
      at : (b : Bool) → is_field_test t ≡ b → IsRowSaid v k ranked ws (cond b (row.Field t y z) (row.State t y z))
      at true is = (words, (form, is, fy, fz))
      at false is = (words, (form, is, fy, fz))

  pub test-row-said : (v : ℕ) (ranked : List ArrayAt) (ws : Words) (b : Row) → test_row_said k ws ≡ Some b → IsRowSaid v k ranked ws b
  test-row-said v ranked ws b e =
      let a = and-some _ (test_taken k ws) b e in
      let y = and-some _ (taken u64_said a.0.1) b a.2 in
      let z = and-some _ (taken u64_said y.0.1) b y.2 in
      let d = chosen (no_words z.0.1) (tested a.0.0 y.0.0 z.0.0) b z.2 in
      let t = test-taken ws a.0.0 a.0.1 a.1 in
      let p = taken-some u64_said a.0.1 y.0 y.1 in
      let q = taken-some u64_said y.0.1 z.0 z.1 in
      let m = u64-word p.0 y.0.0 p.2 in
      let n = u64-word q.0 z.0.0 q.2 in
      let words = t.0 ∙ ap (λ l. test_words a.0.0 ++ l) (p.1 ∙ ap (λ l. p.0 ∷ l) (q.1 ∙ ap (λ l. q.0 ∷ l) (none-left z.0.1 d.0)) ∙ (λ i. m.0 i ∷ n.0 i ∷ [])) in
      subst (IsRowSaid v k ranked ws) (sym d.1) (tested-row v ranked a.0.0 y.0.0 z.0.0 ws words t.1 m.1 n.1)

  pub said-test-row : (t : Test) (y z : ℕ) → IsTestOf k.comps k.arrays t → y < 2 ^ 64 → z < 2 ^ 64 → test_row_said k (test_words t ++ (decimal y ∷ decimal z ∷ [])) ≡ Some (tested t y z)
  said-test-row t y z f fy fz =
      rw (taken-test t (decimal y ∷ decimal z ∷ []) f, word-u64 y fy, word-u64 z fz) refl

  -- no other row begins so
  pub go-only : (b : Row) → opens_with (codes "go") (row_words b) ≡ true → (x : ℕ) × (b ≡ row.Go x)
  go-only (row.Field (Value c n) y z) e = absurd (false-true e)
  go-only (row.Field (Equal a b n) y z) e = absurd (false-true e)
  go-only (row.Field (StateTest v es x) y z) e = absurd (false-true e)
  go-only (row.State (Value c n) y z) e = absurd (false-true e)
  go-only (row.State (Equal a b n) y z) e = absurd (false-true e)
  go-only (row.State (StateTest v es x) y z) e = absurd (false-true e)
  go-only (row.Go x) e = (x, refl)
  go-only (row.Leaf ss os) e = absurd (false-true e)
  go-only row.Stop e = absurd (false-true e)
  go-only (row.Last us os) e = absurd (false-true e)

  pub stop-only : (b : Row) → opens_with (codes "stop") (row_words b) ≡ true → b ≡ row.Stop
  stop-only (row.Field (Value c n) y z) e = absurd (false-true e)
  stop-only (row.Field (Equal a b n) y z) e = absurd (false-true e)
  stop-only (row.Field (StateTest v es x) y z) e = absurd (false-true e)
  stop-only (row.State (Value c n) y z) e = absurd (false-true e)
  stop-only (row.State (Equal a b n) y z) e = absurd (false-true e)
  stop-only (row.State (StateTest v es x) y z) e = absurd (false-true e)
  stop-only (row.Go x) e = absurd (false-true e)
  stop-only (row.Leaf ss os) e = absurd (false-true e)
  stop-only row.Stop e = refl
  stop-only (row.Last us os) e = absurd (false-true e)

  module _ (v : ℕ) (ranked : List ArrayAt) (ends : k.switches < 2 ^ 64) (ws : Words) where
    pub go-none : opens_with (codes "go") ws ≡ true → go_said v k ws ≡ None → IsNoRow v k ranked ws
    go-none begins none b f e = at (go-only b (ap (opens_with (codes "go")) (sym e) ∙ begins))
      where
        at : (x : ℕ) × (b ≡ row.Go x) → ⊥
        at p =
            let form = subst (IsRowOf v k ranked) p.1 f in
            let words = e ∙ ap row_words p.1 in
            let said : go_said v k (row_words (row.Go p.0)) ≡ Some (row.Go p.0) = rw (said-below k.switches p.0 ends form.1, form.0) refl in
            none-some (row.Go p.0) (sym none ∙ ap (go_said v k) words ∙ said)

    pub go-row : (b : Row) → go_said v k ws ≡ Some b → IsRowSaid v k ranked ws b
    go-row b e =
        let a = and-some _ (opened (codes "go") ws) b e in
        let x = and-some _ (taken (below_said k.switches) a.0) b a.2 in
        let d = chosen (no_words x.0.1 && (v == 1)) (row.Go x.0.0) b x.2 in
        let p = and_parts (no_words x.0.1) (v == 1) d.0 in
        let t = taken-some (below_said k.switches) a.0 x.0 x.1 in
        let n = below-said k.switches x.0.0 t.0 ends t.2 in
        let words = opened-some (codes "go") ws a.0 a.1 ∙ ap (λ l. codes "go" ∷ l) (t.1 ∙ ap (λ l. t.0 ∷ l) (none-left x.0.1 p.0) ∙ ap (λ w. w ∷ []) n.0) in
        subst (IsRowSaid v k ranked ws) (sym d.1) (words, (p.1, n.1))

    pub test-none : opened (codes "leaf") ws ≡ None → opens_with (codes "go") ws ≡ false → opens_with (codes "stop") ws ≡ false → test_row_said k ws ≡ None → IsNoRow v k ranked ws
    test-none leaf go stop none (row.Field t y z) f e =
        none-some (tested t y z) (sym none ∙ ap (test_row_said k) e ∙ said-test-row t y z f.0 f.2 f.3)
    test-none leaf go stop none (row.State t y z) f e =
        none-some (tested t y z) (sym none ∙ ap (test_row_said k) e ∙ said-test-row t y z f.0 f.2 f.3)
    test-none leaf go stop none (row.Go x) f e = false-true (sym go ∙ ap (opens_with (codes "go")) e)
    test-none leaf go stop none (row.Leaf ss os) f e = shut (codes "leaf") ws (flat_map stage_words ss ++ flat_map out_words os) leaf e
    test-none leaf go stop none row.Stop f e = false-true (sym stop ∙ ap (opens_with (codes "stop")) e)
    test-none leaf go stop none (row.Last us os) f e = shut (codes "leaf") ws (flat_map update_words us ++ flat_map out_words os) leaf e

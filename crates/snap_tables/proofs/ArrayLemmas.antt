-- Which lines say arrays, exactly.
use Rattle.std.proofs.Common.{◌≡◌, ℕ, ◌<◌, Bool, true, false, not, cond, List, [], ◌∷◌, ◌++◌, Option, Some, refl, sym, ap, subst, ◌∙◌, arith, decimal, append-nil}
use Rattle.std.specs.Prelude.{◌==◌, ◌&&◌, ◌||◌, codes}
use Rattle.std.proofs.lemmas.Bool.{and_parts, ne_eqb}
use Rattle.snap_core.specs.Names.{begins_plain, goes_on, is_joint, is_keyword, is_letter, is_name, is_plain, is_word}
use Rattle.snap_core.specs.Figures.{parts_by}
use Rattle.snap_rows.specs.declared.tables.ArrayAt.{ArrayAt}
use Rattle.snap_tables.specs.Joins.{AllLack, Lacks}
use Rattle.snap_tables.specs.Text.{Words, rank_words, spaced}
use Rattle.snap_tables.specs.Reading.{array_said, below_said, is_space, name_said, no_words, opened, rank_taken, taken}
use Rattle.snap_tables.specs.Laws.{ArraysAreSaid, IsRank, IsRankIf}
use Rattle.snap_tables.proofs.Joins.{parts-join}
use Rattle.snap_tables.proofs.NumberLines.{taken-some, opened-some, chosen, none-left, text-of, space-out}
use Rattle.snap_tables.proofs.Said.{below-said, said-below}
use Rattle.snap_tables.proofs.Terms.{Lacks-decimal, and-some}

clash : true ≡ false → ⊥
clash e = cc

-- a byte of no name
pub Lacks-goes : (s : ℕ) → ((x : Bool) → (is_plain s || (is_joint s && x)) ≡ false) → (w : List ℕ) → goes_on w ≡ true → Lacks s w
Lacks-goes s out [] e = tt
Lacks-goes s out (b ∷ bs) e =
    let k = and_parts (is_plain b || (is_joint b && begins_plain bs)) (goes_on bs) e in
    (ne_eqb b s (λ is. clash (sym k.0 ∙ ap (λ c. is_plain c || (is_joint c && begins_plain bs)) is ∙ out (begins_plain bs))), Lacks-goes s out bs k.1)

pub Lacks-word : (s : ℕ) → is_letter s ≡ false → ((x : Bool) → (is_plain s || (is_joint s && x)) ≡ false) → (w : List ℕ) → is_word w ≡ true → Lacks s w
Lacks-word s letter out [] e = tt
Lacks-word s letter out (b ∷ bs) e =
    let k = and_parts (is_letter b) (goes_on bs) e in
    (ne_eqb b s (λ is. clash (sym k.0 ∙ ap is_letter is ∙ letter)), Lacks-goes s out bs k.1)

pub Lacks-name : (w : List ℕ) → is_name w ≡ true → Lacks 32 w
Lacks-name w e = Lacks-word 32 refl (λ x. refl) w (and_parts (is_word w) (not (is_keyword w)) e).0

record IsRanked (v : ℕ) (ws : Words) (z : ℕ × Words) : Type 0 where
  rank : IsRank v z.0
  words : ws ≡ rank_words v z.0 ++ z.1

rank-taken : (v : ℕ) (ws : Words) (z : ℕ × Words) → rank_taken v ws ≡ Some z → IsRanked v ws z
rank-taken v ws z e = at (v == 2) refl e
  where
    at : (t : Bool) → (v == 2) ≡ t → cond t (taken (below_said 64) ws) (Some (0, ws)) ≡ Some z → IsRanked v ws z
    at true is e =
        let x = taken-some (below_said 64) ws z e in
        let n = below-said 64 z.0 x.0 (omega arith) x.2 in
        record {
          rank = subst (λ t. IsRankIf t z.0) (sym is) n.1;
          words = x.1 ∙ ap (λ y. y ∷ z.1) n.0 ∙ ap (λ t. cond t (decimal z.0 ∷ []) [] ++ z.1) (sym is);
        }
    at false is e =
        record {
          rank = subst (λ t. IsRankIf t z.0) (sym is) (sym (ap (λ (q : ℕ × Words). q.0) (unsome (0, ws) z e)));
          words = ap (λ (q : ℕ × Words). q.1) (unsome (0, ws) z e) ∙ ap (λ t. cond t (decimal z.0 ∷ []) [] ++ z.1) (sym is);
        }
      where
        unsome : (p q : ℕ × Words) → ◌≡◌ {A = Option (ℕ × Words)} (Some p) (Some q) → p ≡ q
        unsome p q e = cc

taken-rank : (v r : ℕ) → IsRank v r → rank_taken v (rank_words v r) ≡ Some (r, [])
taken-rank v r h = at (v == 2) refl h
  where
    at : (t : Bool) → (v == 2) ≡ t → IsRankIf t r → rank_taken v (rank_words v r) ≡ Some (r, [])
    at true is h = rw is (rw (said-below 64 r (omega arith) h) refl)
    at false is h = rw is (ap (λ n. Some (n, [])) (sym h))

lack-rank : (v r : ℕ) → IsRank v r → AllLack 32 (rank_words v r)
lack-rank v r h = at (v == 2) h
  where
    at : (t : Bool) → IsRankIf t r → AllLack 32 (cond t (decimal r ∷ []) [])
    at true h = (Lacks-decimal 32 r space-out (omega (arith, h)), tt)
    at false h = tt

pub arrays-said : ArraysAreSaid
arrays-said v n a w fits = (
  λ e.
      let o = and-some _ (opened (codes "array") (parts_by is_space w)) a e in
      let p = and-some _ (taken (name_said is_name) o.0) a o.2 in
      let q = and-some _ (taken (below_said n) p.0.1) a p.2 in
      let r = and-some _ (rank_taken v q.0.1) a q.2 in
      let d = chosen (no_words r.0.1) (record { name = p.0.0; at = q.0.0; rank = r.0.0 }) a r.2 in
      let x = taken-some (name_said is_name) o.0 p.0 p.1 in
      let y = taken-some (below_said n) p.0.1 q.0 q.1 in
      let z = rank-taken v q.0.1 r.0 r.1 in
      let k = chosen (is_name x.0) x.0 p.0.0 x.2 in
      let u = below-said n q.0.0 y.0 fits y.2 in
      let last = z.words ∙ ap (λ l. rank_words v r.0.0 ++ l) (none-left r.0.1 d.0) in
      let words = opened-some (codes "array") (parts_by is_space w) o.0 o.1 ∙ ap (λ l. codes "array" ∷ l) (x.1 ∙ ap (λ l. x.0 ∷ l) (y.1 ∙ ap (λ l. y.0 ∷ l) last) ∙ (λ i. sym k.1 i ∷ u.0 i ∷ (rank_words v r.0.0 ++ []))) in
      subst (λ (a : ArrayAt). (w ≡ codes "array" ++ spaced (a.name ∷ decimal a.at ∷ rank_words v a.rank)) × (is_name a.name ≡ true) × (a.at < n) × IsRank v a.rank) (sym d.1) (
        text-of w (codes "array") (p.0.0 ∷ decimal q.0.0 ∷ rank_words v r.0.0) (words ∙ ap (λ l. codes "array" ∷ p.0.0 ∷ decimal q.0.0 ∷ l) (append-nil (rank_words v r.0.0))),
        subst (λ y. is_name y ≡ true) (sym k.1) k.0,
        u.1,
        z.rank,
      ),
  λ h.
      ap (λ x. array_said v n (parts_by is_space x)) h.0
      ∙ ap (array_said v n) (parts-join 32 (codes "array") (a.name ∷ decimal a.at ∷ rank_words v a.rank) (refl, (refl, (refl, (refl, (refl, tt))))) (Lacks-name a.name h.1, (Lacks-decimal 32 a.at space-out (omega (arith, h.2)), lack-rank v a.rank h.3)))
      ∙ rw (h.1, said-below n a.at fits h.2, taken-rank v a.rank h.3) refl,
)

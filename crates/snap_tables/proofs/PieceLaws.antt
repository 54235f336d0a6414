-- Pieces of rows stand apart: parts of outs, updates, outs and stages.
use Rattle.std.proofs.Common.{◌≡◌, ◌≢◌, ℕ, ◌+◌, ◌<◌, ◌^◌, Bool, true, false, List, [], ◌∷◌, ◌++◌, Option, Some, None, length, map, refl, sym, ap, subst, ◌∙◌, arith, decimal, length-append, zero, suc}
use Rattle.std.specs.Prelude.{codes, is_some, nat_lt, option_map, slice_index}
use Rattle.std.proofs.lemmas.Bool.{and_parts, ltb-true}
use Rattle.std.proofs.lemmas.List.{length-map}
use Rattle.snap_core.specs.Tests.{IsRisingOut}
use Rattle.std.specs.List.{flat_map}
use Rattle.std.specs.Str.{bytes_eq}
use Rattle.std.proofs.lemmas.Slice.Eq.{bytes_eq-Decides}
use Rattle.std.proofs.lemmas.Fmt.{decimal_injective}
use Rattle.snap_core.specs.declared.policy.Atom.{Atom}
use Rattle.snap_core.specs.declared.policy.Op.{Op}
use Rattle.snap_core.specs.declared.policy.Op.TheVariants.{Put, Add}
use Rattle.snap_core.specs.declared.policy.Update.{Update}
use Rattle.snap_rows.specs.declared.tables.Stage.{Stage as LeafStage}
use Rattle.snap_rows.specs.Entries.{Parts}
use Rattle.snap_tables.specs.Text.{Words, op_word, out_words, part_word, stage_words, update_words}
use Rattle.snap_tables.specs.Laws.{IsPart, IsUpdateOf}
use Rattle.snap_tables.specs.Pieces.{FailsAfter, IsNoPiece, IsPiece, TakesAll, is_adjacent}
use Rattle.snap_tables.specs.Reading.{begins_update, below_said, op_said, opened, part_said, taken, update_taken}
use Rattle.snap_tables.specs.Rows.{IsOut, IsStage, is_part_word, never, opens_out, opens_part, opens_stage, part_less, part_words}
use Rattle.snap_tables.specs.declared.piece.Counts.{Counts}
use Rattle.snap_tables.proofs.PieceLemmas.{AreApart, fails-none, false-true, lists-one, takes-one}
use Rattle.snap_tables.proofs.NumberLines.{opened-some, some-opened, taken-some}
use Rattle.snap_tables.proofs.Said.{below-said, said-below}
use Rattle.snap_tables.proofs.Terms.{parts-said}
use Rattle.snap_tables.proofs.UpdateLemmas.{updates-taken}

pub some-same : {A : Type 0} (x y : A) → ◌≡◌ {A = Option A} (Some x) (Some y) → x ≡ y
some-same x y e = cc

pub head-same : {A : Type 0} (x y : A) (xs ys : List A) → ◌≡◌ {A = List A} (x ∷ xs) (y ∷ ys) → x ≡ y
head-same x y xs ys e = cc

pub tail-same : {A : Type 0} (x y : A) (xs ys : List A) → ◌≡◌ {A = List A} (x ∷ xs) (y ∷ ys) → xs ≡ ys
tail-same x y xs ys e = cc

-- the first word is this one
pub opened-word : (k w : List ℕ) → bytes_eq w k ≡ true → w ≡ k
opened-word k w e = (bytes_eq-Decides w k).0 e

module _ (comps : ℕ) (fits : comps < 2 ^ 64) where
  pub parts-apart : AreApart {X = ℕ × Atom} part_words (IsPart comps) opens_part never
  parts-apart = record {
    shows = λ x more. refl;
    one = λ x y m n fx fy qm qn e.
        let word = head-same (part_word x) (part_word y) m n e in (
          some-same x y (sym ((parts-said comps x (part_word x) fits).1 (refl, fx)) ∙ ap (part_said comps) word ∙ (parts-said comps y (part_word y) fits).1 (refl, fy)),
          tail-same (part_word x) (part_word y) m n e,
        );
    stops = λ m e. refl;
  }

  module _ (arrays : ℕ) (few : arrays < 2 ^ 64) where
    shows-op : (o : Op) → is_some (op_said (op_word o)) ≡ true
    shows-op (Put a) = refl
    shows-op (Add n) = refl

    pub updates-apart : AreApart {X = Update} update_words (IsUpdateOf comps arrays) begins_update never
    updates-apart = record {
      shows = λ x more. shows-op x.op;
      one = λ x y m n fx fy qm qn e.
          let one = (updates-taken comps arrays x (update_words x ++ m) m fits few).1 (refl, fx) in
          let two = (updates-taken comps arrays y (update_words y ++ n) n fits few).1 (refl, fy) in
          let pair = some-same (x, m) (y, n) (sym one ∙ ap (update_taken comps arrays) e ∙ two) in
          (ap (λ (q : Update × Words). q.0) pair, ap (λ (q : Update × Words). q.1) pair);
      stops = λ m e. refl;
    }

pub parts-flat : (o : Parts) → map part_word o ≡ flat_map part_words o
parts-flat [] = refl
parts-flat (p ∷ o) = ap (λ l. part_word p ∷ l) (parts-flat o)

stops-at : (k : List ℕ) (test : List ℕ → Bool) → test k ≡ false → (w : List ℕ) → bytes_eq w k ≡ true → test w ≡ false
stops-at k test out w e = ap test (opened-word k w e) ∙ out

out-stops : (m : Words) → opens_out m ≡ true → opens_part m ≡ false
out-stops [] e = refl
out-stops (w ∷ ws) e = stops-at (codes "out") is_part_word refl w e

stage-stops : (m : Words) → opens_stage m ≡ true → begins_update m ≡ false
stage-stops [] e = refl
stage-stops (w ∷ ws) e = stops-at (codes "at") (λ w. is_some (op_said w)) refl w e

module _ (k : Counts) (fits : k.comps < 2 ^ 64) (few : k.arrays < 2 ^ 64) (ends : k.switches < 2 ^ 64) where
  pub outs-apart : AreApart {X = Parts} out_words (IsOut k) opens_out opens_part
  outs-apart = record {
    shows = λ x more. refl;
    one = λ x y m n fx fy qm qn e.
        let tails = tail-same (codes "out") (codes "out") (map part_word x ++ m) (map part_word y ++ n) e in
        lists-one part_words (IsPart k.comps) opens_part never (parts-apart k.comps fits) x y m n fx.0 fy.0 qm refl qn refl
        (ap (λ l. l ++ m) (sym (parts-flat x)) ∙ tails ∙ ap (λ l. l ++ n) (parts-flat y));
    stops = out-stops;
  }

  pub stages-apart : AreApart {X = LeafStage} stage_words (IsStage k) opens_stage begins_update
  stages-apart = record {
    shows = λ x more. refl;
    one = λ x y m n fx fy qm qn e.
        let behind = tail-same (codes "at") (codes "at") (decimal x.at ∷ (flat_map update_words x.ups ++ m)) (decimal y.at ∷ (flat_map update_words y.ups ++ n)) e in
        let at = decimal_injective x.at y.at (omega (arith, fx.0, ends)) (omega (arith, fy.0, ends)) (head-same (decimal x.at) (decimal y.at) (flat_map update_words x.ups ++ m) (flat_map update_words y.ups ++ n) behind) in
        let ups = lists-one update_words (IsUpdateOf k.comps k.arrays) begins_update never (updates-apart k.comps fits k.arrays few) x.ups y.ups m n fx.2 fy.2 qm refl qn refl
        (tail-same (decimal x.at) (decimal y.at) (flat_map update_words x.ups ++ m) (flat_map update_words y.ups ++ n) behind) in
        ((λ i. record { at = at i; ups = ups.0 i }), ups.1);
    stops = stage-stops;
  }

-- ---- what the readers of pieces answer
pub none-some : {A : Type 0} (x : A) → ◌≡◌ {A = Option A} None (Some x) → ⊥
none-some x e = cc

module _ (comps : ℕ) (fits : comps < 2 ^ 64) where
  pub part-none : (ws more : Words) (w : List ℕ) → ws ≡ w ∷ more → part_said comps w ≡ None → IsNoPiece part_words (IsPart comps) never ws
  part-none ws more w e none x left f q same =
      let word = head-same w (part_word x) more left (sym e ∙ same) in
      none-some x (sym none ∙ (parts-said comps x w fits).1 (word, f))

  pub part-piece : (ws more : Words) (w : List ℕ) (p : ℕ × Atom) → ws ≡ w ∷ more → part_said comps w ≡ Some p → IsPiece part_words (IsPart comps) never ws p more
  part-piece ws more w p e said =
      let k = (parts-said comps p w fits).0 said in
      record { words = e ∙ ap (λ u. u ∷ more) k.0; fits = k.1; ends = refl; shorter = omega (arith, ap length e) }

  module _ (arrays : ℕ) (few : arrays < 2 ^ 64) where
    pub update-none : (ws : Words) → update_taken comps arrays ws ≡ None → IsNoPiece update_words (IsUpdateOf comps arrays) never ws
    update-none ws none x left f q same = none-some (x, left) (sym none ∙ (updates-taken comps arrays x ws left fits few).1 (same, f))

    pub update-piece : (ws left : Words) (u : Update) → update_taken comps arrays ws ≡ Some (u, left) → IsPiece update_words (IsUpdateOf comps arrays) never ws u left
    update-piece ws left u said =
        let k = (updates-taken comps arrays u ws left fits few).0 said in
        record { words = k.0; fits = k.1; ends = refl; shorter = omega (arith, ap length k.0) }

pub shut : (k : List ℕ) (ws more : Words) → opened k ws ≡ None → ws ≢ k ∷ more
shut k ws more none e = none-some more (sym none ∙ ap (opened k) e ∙ some-opened k more)

module _ (k : Counts) (fits : k.comps < 2 ^ 64) (ws : Words) where
  module _ (behind : Words) (open' : opened (codes "out") ws ≡ Some behind) where
    parts-behind : (x : Parts) (left : Words) → ws ≡ out_words x ++ left → behind ≡ flat_map part_words x ++ left
    parts-behind x left same =
        tail-same (codes "out") (codes "out") behind (map part_word x ++ left) (sym (opened-some (codes "out") ws behind open') ∙ same) ∙ ap (λ l. l ++ left) (parts-flat x)

    pub out-fails : FailsAfter {X = ℕ × Atom} part_words (IsPart k.comps) opens_part never behind → IsNoPiece out_words (IsOut k) opens_part ws
    out-fails fails x left f q same = fails-none part_words (IsPart k.comps) opens_part never (parts-apart k.comps fits) behind fails x left f.0 q refl (parts-behind x left same)

    module _ (parts : Parts) (left : Words) (takes : TakesAll {X = ℕ × Atom} part_words (IsPart k.comps) opens_part never behind parts left) where
      pub out-falls : is_adjacent part_less parts ≡ false → IsNoPiece out_words (IsOut k) opens_part ws
      out-falls falls x more f q same =
          let one = takes-one part_words (IsPart k.comps) opens_part never (parts-apart k.comps fits) behind left parts takes x more f.0 q refl (parts-behind x more same) in
          false-true (sym falls ∙ ap (is_adjacent part_less) one.0 ∙ f.1)

      pub out-piece : is_adjacent part_less parts ≡ true → IsPiece out_words (IsOut k) opens_part ws parts left
      out-piece rise =
          let words = opened-some (codes "out") ws behind open' ∙ ap (λ l. codes "out" ∷ l) (takes.words ∙ ap (λ l. l ++ left) (sym (parts-flat parts))) in
          record { words = words; fits = (takes.each, rise); ends = takes.ends; shorter = omega (arith, ap length words, length-append (map part_word parts) left) }

module _ (k : Counts) (fits : k.comps < 2 ^ 64) (few : k.arrays < 2 ^ 64) (ends : k.switches < 2 ^ 64) (ws : Words) where
  module _ (behind : Words) (open' : opened (codes "at") ws ≡ Some behind) where
    at-behind : (x : LeafStage) (left : Words) → ws ≡ stage_words x ++ left → behind ≡ decimal x.at ∷ (flat_map update_words x.ups ++ left)
    at-behind x left same = tail-same (codes "at") (codes "at") behind (decimal x.at ∷ (flat_map update_words x.ups ++ left)) (sym (opened-some (codes "at") ws behind open') ∙ same)

    pub stage-nowhere : taken (below_said k.switches) behind ≡ None → IsNoPiece stage_words (IsStage k) begins_update ws
    stage-nowhere none x left f q same =
        none-some (x.at, flat_map update_words x.ups ++ left) (sym none ∙ ap (taken (below_said k.switches)) (at-behind x left same)
        ∙ ap (option_map (λ (a : ℕ). (a, flat_map update_words x.ups ++ left))) (said-below k.switches x.at ends f.0))

    module _ (at : ℕ) (rest : Words) (said : taken (below_said k.switches) behind ≡ Some (at, rest)) where
      there : (w : List ℕ) × (behind ≡ w ∷ rest) × (below_said k.switches w ≡ Some at)
      there = taken-some (below_said k.switches) behind (at, rest) said

      ups-behind : (x : LeafStage) (left : Words) → ws ≡ stage_words x ++ left → rest ≡ flat_map update_words x.ups ++ left
      ups-behind x left same = tail-same there.0 (decimal x.at) rest (flat_map update_words x.ups ++ left) (sym there.1 ∙ at-behind x left same)

      pub stage-fails : FailsAfter {X = Update} update_words (IsUpdateOf k.comps k.arrays) begins_update never rest → IsNoPiece stage_words (IsStage k) begins_update ws
      stage-fails fails x left f q same =
          fails-none update_words (IsUpdateOf k.comps k.arrays) begins_update never (updates-apart k.comps fits k.arrays few) rest fails x.ups left f.2 q refl (ups-behind x left same)

      module _ (ups : List Update) (left : Words) (takes : TakesAll {X = Update} update_words (IsUpdateOf k.comps k.arrays) begins_update never rest ups left) where
        pub stage-empty : length ups ≡ 0 → IsNoPiece stage_words (IsStage k) begins_update ws
        stage-empty none x more f q same =
            let one = takes-one update_words (IsUpdateOf k.comps k.arrays) begins_update never (updates-apart k.comps fits k.arrays few) rest left ups takes x.ups more f.2 q refl (ups-behind x more same) in
            omega (arith, none, ap length one.0, f.1)

        pub stage-piece : 0 < length ups → IsPiece stage_words (IsStage k) begins_update ws (record { at = at; ups = ups }) left
        stage-piece some =
            let d = below-said k.switches at there.0 ends there.2 in
            let words = opened-some (codes "at") ws behind open' ∙ ap (λ l. codes "at" ∷ l) (there.1 ∙ (λ i. d.0 i ∷ takes.words i)) in
            record { words = words; fits = (d.1, some, takes.each); ends = takes.ends; shorter = omega (arith, ap length words, length-append (flat_map update_words ups) left) }

-- components that rise
rising-at : (o : Parts) → is_adjacent part_less o ≡ true → (k : ℕ) → suc k < length o → slice_index (map (λ (p : ℕ × Atom). p.0) o) k < slice_index (map (λ (p : ℕ × Atom). p.0) o) (suc k)
rising-at [] e k lt = absurd (omega arith)
rising-at (p ∷ []) e k lt = absurd (omega arith)
rising-at (p ∷ q ∷ o) e zero lt = ltb-true p.0 q.0 (and_parts (nat_lt p.0 q.0) (is_adjacent part_less (q ∷ o)) e).0
rising-at (p ∷ q ∷ o) e (suc k) lt = rising-at (q ∷ o) (and_parts (nat_lt p.0 q.0) (is_adjacent part_less (q ∷ o)) e).1 k (omega arith)

pub rising-out : (o : Parts) → is_adjacent part_less o ≡ true → IsRisingOut o
rising-out o e k lt =
    let same : k + 1 ≡ suc k = omega arith in
    subst (λ j. slice_index (map (λ (p : ℕ × Atom). p.0) o) k < slice_index (map (λ (p : ℕ × Atom). p.0) o) j) (sym same) (rising-at o e k (omega (arith, lt, length-map o (λ (p : ℕ × Atom). p.0))))

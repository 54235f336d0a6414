-- No word of an entry's line has a blank or an LF.
use Rattle.std.proofs.Common.{◌≡◌, ℕ, ◌<◌, ◌^◌, Bool, true, false, cond, List, [], ◌∷◌, ◌++◌, Option, Some, None, map, refl, arith, decimal}
use Rattle.std.specs.Prelude.{◌==◌, ◌&&◌, codes, nat_le, nat_lt}
use Rattle.std.specs.List.{All, flat_map, list_all}
use Rattle.std.proofs.lemmas.Bool.{and_parts, leb-true, ltb-true}
use Rattle.std.proofs.lemmas.List.Elements.{All-tail}
use Rattle.snap_core.specs.declared.policy.Atom.{Atom}
use Rattle.snap_core.specs.declared.policy.Atom.TheVariants.{Num, Comp}
use Rattle.snap_core.specs.declared.policy.Op.{Op}
use Rattle.snap_core.specs.declared.policy.Op.TheVariants.{Put, Add}
use Rattle.snap_core.specs.declared.policy.Term.{Term}
use Rattle.snap_core.specs.declared.policy.Term.TheVariants.{Num as Only, Plus}
use Rattle.snap_core.specs.declared.policy.Test.{Test}
use Rattle.snap_core.specs.declared.policy.Test.TheVariants.{Value, Equal, State as StateTest}
use Rattle.snap_core.specs.declared.policy.Update.{Update}
use Rattle.snap_core.specs.Fields.{PrefixFits}
use Rattle.snap_core.specs.Figures.{parts_by}
use Rattle.snap_rows.specs.declared.tables.ArrayAt.{ArrayAt}
use Rattle.snap_rows.specs.declared.tables.Row.{Row}
use Rattle.snap_rows.specs.declared.tables.Row.TheVariants as row
use Rattle.snap_rows.specs.declared.tables.Stage.{Stage as LeafStage}
use Rattle.snap_rows.specs.Entries.{Parts}
use Rattle.snap_tables.specs.Joins.{Lacks}
use Rattle.snap_tables.specs.Text.{Words, atom_word, atoms_word, by_word, op_word, out_words, part_word, prefix_text, rank_words, row_words, spaced, stage_words, term_word, test_words, update_words}
use Rattle.snap_tables.specs.Laws.{IsAtom, IsOp, IsPart, IsRank, IsRankIf, IsTerm, IsTestOf, IsUpdateOf}
use Rattle.snap_tables.specs.Reading.{is_space}
use Rattle.snap_tables.specs.Rows.{IsOut, IsRowOf, IsStage}
use Rattle.snap_tables.specs.declared.piece.Counts.{Counts}
use Rattle.snap_tables.proofs.Joins.{parts-join}
use Rattle.snap_tables.proofs.Shades.{AreInk, IsInk, append-ink, decimal-ink, ink-all-lack, ink-lacks}
use Rattle.snap_tables.proofs.Indexes.{Lacks-append}

pub ink-if : (w : List ℕ) → list_all (λ b. nat_le 35 b && nat_lt b 128) w ≡ true → IsInk w
ink-if [] e = tt
ink-if (b ∷ bs) e =
    let k = and_parts (nat_le 35 b && nat_lt b 128) (list_all (λ b. nat_le 35 b && nat_lt b 128) bs) e in
    let m = and_parts (nat_le 35 b) (nat_lt b 128) k.0 in
    ((leb-true 35 b m.0, ltb-true b 128 m.1), ink-if bs k.1)

pub are-append : (ws vs : Words) → AreInk ws → AreInk vs → AreInk (ws ++ vs)
are-append [] vs h g = g
are-append (w ∷ ws) vs h g = (h.0, are-append ws vs h.1 g)

are-map : {X : Type 0} (f : X → Words) (P : X → Type 0) → ((x : X) → P x → AreInk (f x)) → (xs : List X) → All P xs → AreInk (flat_map f xs)
are-map f P h [] all = tt
are-map f P h (x ∷ xs) all = are-append (f x) (flat_map f xs) (h x (all 0 x (omega arith))) (are-map f P h xs (All-tail P x xs all))

module _ (comps : ℕ) (fits : comps < 2 ^ 64) where
  atom-ink : (a : Atom) → IsAtom comps a → IsInk (atom_word a)
  atom-ink (Num n) f = append-ink (codes "#") (decimal n) (ink-if (codes "#") refl) (decimal-ink n f)
  atom-ink (Comp c) f = append-ink (codes "c") (decimal c) (ink-if (codes "c") refl) (decimal-ink c (omega (arith, f, fits)))

  plus-ink : (n : ℕ) → n < 2 ^ 64 → (z : Bool) → IsInk (cond z [] (codes "+" ++ decimal n))
  plus-ink n f true = tt
  plus-ink n f false = append-ink (codes "+") (decimal n) (ink-if (codes "+") refl) (decimal-ink n f)

  term-ink : (x : Term) → IsTerm comps x → IsInk (term_word x)
  term-ink (Only n) f = append-ink (codes "#") (decimal n) (ink-if (codes "#") refl) (decimal-ink n f)
  term-ink (Plus c n) f =
      append-ink (codes "c" ++ decimal c) (cond (n == 0) [] (codes "+" ++ decimal n)) (append-ink (codes "c") (decimal c) (ink-if (codes "c") refl) (decimal-ink c (omega (arith, f.0, fits)))) (plus-ink n f.1 (n == 0))

  more-ink : (es : List Atom) → All (IsAtom comps) es → IsInk (flat_map (λ (b : Atom). codes "," ++ atom_word b) es)
  more-ink [] h = tt
  more-ink (e ∷ es) h = append-ink (codes "," ++ atom_word e) (flat_map (λ (b : Atom). codes "," ++ atom_word b) es) (append-ink (codes ",") (atom_word e) (ink-if (codes ",") refl) (atom-ink e (h 0 e (omega arith)))) (more-ink es (All-tail (IsAtom comps) e es h))

  atoms-ink : (es : List Atom) → All (IsAtom comps) es → IsInk (atoms_word es)
  atoms-ink [] h = ink-if (codes "[]") refl
  atoms-ink (e ∷ es) h =
      append-ink (codes "[" ++ atom_word e ++ flat_map (λ (b : Atom). codes "," ++ atom_word b) es) (codes "]")
      (append-ink (codes "[" ++ atom_word e) (flat_map (λ (b : Atom). codes "," ++ atom_word b) es) (append-ink (codes "[") (atom_word e) (ink-if (codes "[") refl) (atom-ink e (h 0 e (omega arith)))) (more-ink es (All-tail (IsAtom comps) e es h))) (ink-if (codes "]") refl)

  part-ink : (p : ℕ × Atom) → IsPart comps p → IsInk (part_word p)
  part-ink p f =
      append-ink (codes "c" ++ decimal p.0 ++ codes "=") (atom_word p.1)
      (append-ink (codes "c" ++ decimal p.0) (codes "=") (append-ink (codes "c") (decimal p.0) (ink-if (codes "c") refl) (decimal-ink p.0 (omega (arith, f.0, fits)))) (ink-if (codes "=") refl)) (atom-ink p.1 f.1)

  parts-ink : (o : Parts) → All (IsPart comps) o → AreInk (map part_word o)
  parts-ink [] h = tt
  parts-ink (p ∷ o) h = (part-ink p (h 0 p (omega arith)), parts-ink o (All-tail (IsPart comps) p o h))

  op-ink : (o : Op) → IsInk (op_word o)
  op-ink (Put a) = ink-if (codes "put") refl
  op-ink (Add n) = ink-if (codes "add") refl

  by-ink : (o : Op) → IsOp comps o → IsInk (by_word o)
  by-ink (Put a) f = atom-ink a f
  by-ink (Add n) f = decimal-ink n f.1

  module _ (arrays : ℕ) (few : arrays < 2 ^ 64) where
    update-ink : (u : Update) → IsUpdateOf comps arrays u → AreInk (update_words u)
    update-ink u f = (op-ink u.op, (decimal-ink u.var (omega (arith, f.0, few)), (atoms-ink u.index f.1.0, (by-ink u.op f.2, tt))))

    test-ink : (t : Test) → IsTestOf comps arrays t → AreInk (test_words t)
    test-ink (Value c n) f = (ink-if (codes "value") refl, (decimal-ink c (omega (arith, f.0, fits)), (decimal-ink n f.1, tt)))
    test-ink (Equal a b n) f = (ink-if (codes "equal") refl, (decimal-ink a (omega (arith, f.0, f.1, fits)), (decimal-ink b (omega (arith, f.1, fits)), (decimal-ink n f.2, tt))))
    test-ink (StateTest v es x) f = (ink-if (codes "state") refl, (decimal-ink v (omega (arith, f.0, few)), (atoms-ink es f.1.0, (term-ink x f.2, tt))))

module _ (k : Counts) (fits : k.comps < 2 ^ 64) (few : k.arrays < 2 ^ 64) (ends : k.switches < 2 ^ 64) where
  out-ink : (o : Parts) → IsOut k o → AreInk (out_words o)
  out-ink o f = (ink-if (codes "out") refl, parts-ink k.comps fits o f.0)

  stage-ink : (s : LeafStage) → IsStage k s → AreInk (stage_words s)
  stage-ink s f = (ink-if (codes "at") refl, (decimal-ink s.at (omega (arith, f.0, ends)), are-map update_words (IsUpdateOf k.comps k.arrays) (update-ink k.comps fits k.arrays few) s.ups f.2))

  ways-ink : (y z : ℕ) → y < 2 ^ 64 → z < 2 ^ 64 → AreInk (decimal y ∷ decimal z ∷ [])
  ways-ink y z f g = (decimal-ink y f, (decimal-ink z g, tt))

  pub row-ink : (v : ℕ) (ranked : List ArrayAt) (b : Row) → IsRowOf v k ranked b → AreInk (row_words b)
  row-ink v ranked (row.Field t y z) f = are-append (test_words t) (decimal y ∷ decimal z ∷ []) (test-ink k.comps fits k.arrays few t f.0) (ways-ink y z f.2 f.3)
  row-ink v ranked (row.State t y z) f = are-append (test_words t) (decimal y ∷ decimal z ∷ []) (test-ink k.comps fits k.arrays few t f.0) (ways-ink y z f.2 f.3)
  row-ink v ranked (row.Go x) f = (ink-if (codes "go") refl, (decimal-ink x (omega (arith, f.1, ends)), tt))
  row-ink v ranked (row.Leaf ss os) f = (ink-if (codes "leaf") refl, are-append (flat_map stage_words ss) (flat_map out_words os) (are-map stage_words (IsStage k) stage-ink ss f.1.0) (are-map out_words (IsOut k) out-ink os f.2.0))
  row-ink v ranked row.Stop f = (ink-if (codes "stop") refl, tt)
  row-ink v ranked (row.Last us os) f =
      (ink-if (codes "leaf") refl, are-append (flat_map update_words us) (flat_map out_words os) (are-map update_words (IsUpdateOf k.comps k.arrays) (update-ink k.comps fits k.arrays few) us f.1.0) (are-map out_words (IsOut k) out-ink os f.2.0))

pub prefix-ink : (p : Option ℕ) → PrefixFits p → IsInk (prefix_text p)
prefix-ink None f = tt
prefix-ink (Some n) f = append-ink (codes "/") (decimal n) (ink-if (codes "/") refl) (decimal-ink n (omega (arith, f.1)))

pub rank-ink : (v r : ℕ) → IsRank v r → AreInk (rank_words v r)
rank-ink v r f = at (v == 2) f
  where
    at : (b : Bool) → IsRankIf b r → AreInk (cond b (decimal r ∷ []) [])
    at true h = (decimal-ink r (omega (arith, h)), tt)
    at false h = tt

lacks-spaced : (ws : Words) → AreInk ws → Lacks 10 (spaced ws)
lacks-spaced [] h = tt
lacks-spaced (w ∷ ws) h = (refl, Lacks-append 10 w (spaced ws) (ink-lacks 10 (omega arith) w h.0) (lacks-spaced ws h.1))

-- words of one line
pub body-lacks : (first : List ℕ) (ws : Words) → IsInk first → AreInk ws → Lacks 10 (first ++ spaced ws)
body-lacks first ws f h = Lacks-append 10 first (spaced ws) (ink-lacks 10 (omega arith) first f) (lacks-spaced ws h)

pub body-parts : (first : List ℕ) (ws : Words) → IsInk first → AreInk ws → parts_by is_space (first ++ spaced ws) ≡ first ∷ ws
body-parts first ws f h = parts-join 32 first ws (ink-lacks 32 (omega arith) first f) (ink-all-lack 32 (omega arith) ws h)

-- Rows in form, with numbers of 64 bits, are what lines of rows spell.
use Rattle.std.proofs.Common.{◌≡◌, ◌≢◌, ℕ, suc, ◌+◌, ◌<◌, ◌≤◌, true, false, List, [], ◌∷◌, length, map, refl, sym, ap, subst, arith, get_or}
use Rattle.std.specs.Prelude.{◌==◌, nat_le, nat_lt, not, slice_index}
use Rattle.std.specs.List.{All}
use Rattle.std.proofs.lemmas.Bool.{and_from, eq-eqb, le-leb, lt-ltb, ne_eqb}
use Rattle.snap_core.specs.declared.policy.Atom.{Atom}
use Rattle.snap_core.specs.declared.policy.Atom.TheVariants.{Num, Comp}
use Rattle.snap_core.specs.declared.policy.Op.{Op}
use Rattle.snap_core.specs.declared.policy.Op.TheVariants.{Put, Add}
use Rattle.snap_core.specs.declared.policy.Term.{Term}
use Rattle.snap_core.specs.declared.policy.Term.TheVariants.{Num as Only, Plus}
use Rattle.snap_core.specs.declared.policy.Test.{Test}
use Rattle.snap_core.specs.declared.policy.Test.TheVariants.{Value, Equal, State as StateTest}
use Rattle.snap_core.specs.declared.policy.Update.{Update}
use Rattle.snap_core.specs.Fits.{AtomFits, IndexFits, OpFits}
use Rattle.snap_core.specs.Tests.{IsRisingOut, TermFits, TestFits}
use Rattle.snap_rows.specs.declared.tables.Row.{Row}
use Rattle.snap_rows.specs.declared.tables.Row.TheVariants as row
use Rattle.snap_rows.specs.declared.tables.Stage.{Stage as LeafStage}
use Rattle.snap_rows.specs.declared.tables.Tables.{Tables}
use Rattle.snap_rows.specs.Entries.{Parts}
use Rattle.snap_rows.specs.Form.{Alternate, AlternateFrom, AreOutsWellFormed, IsFieldTest, IsIndexWellFormed, IsOpWellFormed, IsPartsWellFormed, IsRowWellFormed, IsStateTest, IsLeafStageWellFormed, IsUpdateWellFormed, RanksRise, comps, parts_cmp}
use Rattle.snap_core.specs.Ranges.{AtomInRange, OpInRange, OutInRange, TermInRange, TestInRange, UpdateInRange}
use Rattle.snap_tables.specs.Ranges.{RowInRange, UpsInRange}
use Rattle.snap_tables.specs.Laws.{IsAtom, IsIndex, IsOp, IsTerm, IsTestOf, IsUpdateOf}
use Rattle.snap_tables.specs.Lines.{counts_of}
use Rattle.snap_tables.specs.Pieces.{is_adjacent}
use Rattle.snap_tables.specs.Rows.{AreOuts, IsOut, IsRowOf, IsStage, is_field_test, part_less, rank_among, rises_from, stands_apart}
use Rattle.snap_tables.proofs.Splits.{sorted-adjacent}

-- components that rise
rises : (o : Parts) → IsRisingOut o → is_adjacent part_less o ≡ true
rises [] h = refl
rises (p ∷ []) h = refl
rises (p ∷ q ∷ o) h = and_from (nat_lt p.0 q.0) (is_adjacent part_less (q ∷ o)) (lt-ltb p.0 q.0 (h 0 (omega arith))) (rises (q ∷ o) behind)
  where
    behind : IsRisingOut (q ∷ o)
    behind k lt =
        let same : suc k + 1 ≡ suc (k + 1) = omega arith in
        subst (λ j. slice_index (map (λ (p : ℕ × Atom). p.0) (q ∷ o)) k < slice_index (map (λ (p : ℕ × Atom). p.0) (p ∷ q ∷ o)) j) same (h (suc k) (omega (arith, lt)))

apart-of : (a b : ℕ) → b ≢ a → not (a == b) ≡ true
apart-of a b other = ap not (ne_eqb a b (λ e. other (sym e)))

apart-from : (s : LeafStage) (ss : List LeafStage) → AlternateFrom s.at ss → is_adjacent stands_apart (s ∷ ss) ≡ true
apart-from s [] h = refl
apart-from s (u ∷ ss) h = and_from (stands_apart s u) (is_adjacent stands_apart (u ∷ ss)) (apart-of s.at u.at h.0) (apart-from u ss h.1)

stand-apart : (ss : List LeafStage) → Alternate ss → is_adjacent stands_apart ss ≡ true
stand-apart [] h = refl
stand-apart (s ∷ ss) h = apart-from s ss h

module _ (t : Tables) where
  atom-is : (a : Atom) → AtomFits (comps t) a → AtomInRange a → IsAtom (comps t) a
  atom-is (Num n) f s = s
  atom-is (Comp c) f s = f

  index-is : (es : List Atom) → IndexFits (comps t) es → IsIndexWellFormed es → All AtomInRange es → IsIndex (comps t) es
  index-is es f l s = ((λ i d m. atom-is (get_or es i d) (f i d m) (s i d m)), l.0, l.1)

  op-is : (o : Op) → OpFits (comps t) o → IsOpWellFormed o → OpInRange o → IsOp (comps t) o
  op-is (Put a) f l s = atom-is a f s
  op-is (Add n) f l s = (l, s)

  update-is : (u : Update) → IsUpdateWellFormed t u → UpdateInRange u → IsUpdateOf (comps t) (length t.arrays) u
  update-is u f s = (f.fits.var, index-is u.index f.fits.index f.index s.index, op-is u.op f.fits.op f.op s.op)

  out-is : (o : Parts) → IsPartsWellFormed t o → OutInRange o → IsOut (counts_of t) o
  out-is o f s = (
    (λ i d l. ((f.fits i d l).comp, atom-is (get_or o i d).1 (f.fits i d l).atom (s i d l), f.changes i d l)),
    rises o f.rising,
  )

  outs-are : (os : List Parts) → AreOutsWellFormed t os → All OutInRange os → AreOuts (counts_of t) os
  outs-are os f s = ((λ i d l. out-is (get_or os i d) (f.each i d l) (s i d l)), sorted-adjacent parts_cmp os f.rising)

  ups-are : (us : List Update) → All (IsUpdateWellFormed t) us → All UpdateInRange us → All (IsUpdateOf (comps t) (length t.arrays)) us
  ups-are us f s = λ i d l. update-is (get_or us i d) (f i d l) (s i d l)

  stage-is : (s : LeafStage) → IsLeafStageWellFormed t s → UpsInRange s → IsStage (counts_of t) s
  stage-is s f b = (f.at, f.some, ups-are s.ups f.each b)

  -- ranks that never fall
  StartsAt : ℕ → List Update → Type 0
  StartsAt r [] = Unit {0}
  StartsAt r (u ∷ us) = r ≤ rank_among t.arrays u.var

  next-rank : (u : Update) (us : List Update) → RanksRise t (u ∷ us) → StartsAt (rank_among t.arrays u.var) us
  unfolding StartsAt
  next-rank u [] h = tt
  next-rank u (v ∷ us) h = h 0 1 0 (omega arith) (omega arith)

  rise-from : (us : List Update) (r : ℕ) → StartsAt r us → RanksRise t us → rises_from t.arrays r us ≡ true
  unfolding StartsAt
  rise-from [] r f h = refl
  rise-from (u ∷ us) r f h =
      and_from (nat_le r (rank_among t.arrays u.var)) (rises_from t.arrays (rank_among t.arrays u.var) us) (le-leb r (rank_among t.arrays u.var) f)
      (rise-from us (rank_among t.arrays u.var) (next-rank u us h) (λ i j d le lt. h (suc i) (suc j) d (omega (arith, le)) (omega (arith, lt))))

  rise-up : (us : List Update) → RanksRise t us → rises_from t.arrays 0 us ≡ true
  unfolding StartsAt
  rise-up [] h = refl
  rise-up (u ∷ us) h = rise-from (u ∷ us) 0 (omega arith) h

  term-is : (x : Term) → TermFits (comps t) x → TermInRange x → IsTerm (comps t) x
  term-is (Only n) f s = s
  term-is (Plus c n) f s = (f, s)

  field-test : (x : Test) → TestFits (comps t) x → IsFieldTest x → TestInRange x → IsTestOf (comps t) (length t.arrays) x × (is_field_test x ≡ true)
  field-test (Value c n) f k s = ((f, s), refl)
  field-test (Equal a b n) f k s = ((k, f.1, s), refl)
  field-test (StateTest v es x) f k s = absurd k

  state-test : (x : Test) → TestFits (comps t) x → IsStateTest t x → TestInRange x → IsTestOf (comps t) (length t.arrays) x × (is_field_test x ≡ false)
  state-test (Value c n) f k s = absurd k
  state-test (Equal a b n) f k s = absurd k
  state-test (StateTest v es x) f k s = ((k.0, index-is es f.0 k.1 s.0, term-is x f.1 s.1), refl)

  pub row-is : (b : Row) → IsRowWellFormed t b → RowInRange b → IsRowOf t.version (counts_of t) t.arrays b
  row-is (row.Field x y z) f s = let k = field-test x f.0 f.1 s.0 in (k.0, k.1, s.1, s.2)
  row-is (row.State x y z) f s = let k = state-test x f.0 f.1 s.0 in (k.0, k.1, s.1, s.2)
  row-is (row.Go x) f s = (eq-eqb t.version 1 f.0, f.1)
  row-is (row.Leaf ss os) f s = (eq-eqb t.version 1 f.0, ((λ i d l. stage-is (get_or ss i d) (f.2 i d l) (s.0 i d l)), stand-apart ss f.3, f.1), outs-are os f.4 s.1)
  row-is row.Stop f s = eq-eqb t.version 2 f
  row-is (row.Last us os) f s = (eq-eqb t.version 2 f.0, (ups-are us f.1 s.0, rise-up us f.2), outs-are os f.3 s.1)

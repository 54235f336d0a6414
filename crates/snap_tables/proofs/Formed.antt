-- A whole beginning is tables in form.
use Rattle.std.proofs.Common.{◌≡◌, ◌≢◌, ℕ, zero, suc, ◌+◌, ◌<◌, ◌≤◌, Bool, true, false, List, [], ◌∷◌, ◌++◌, Option, Some, None, length, map, take, get_or, refl, sym, ap, subst, ◌∙◌, arith, append-nil, append_assoc, inl, inr}
use Rattle.std.specs.Prelude.{◌⊎◌, ◌==◌, ◌&&◌, ◌||◌, codes, is_some, nat_le, nat_lt, not}
use Rattle.std.specs.List.{IsDistinct, list_all, list_any, AllByRecursion}
use Rattle.std.specs.List.Sorted.{IsStrictlySortedBy}
use Rattle.std.specs.Ordering.{nat_cmp}
use Rattle.std.specs.Str.{bytes_eq}
use Rattle.std.proofs.lemmas.Bool.{and_from, and_parts, eqb-true, leb-true, or_cases}
use Rattle.std.proofs.lemmas.List.{map-append}
use Rattle.std.proofs.lemmas.List.Elements.{All-weaker}
use Rattle.std.proofs.lemmas.Slice.Eq.{bytes_eq-Decides}
use Rattle.snap_core.specs.declared.policy.Atom.{Atom}
use Rattle.snap_core.specs.declared.policy.Atom.TheVariants.{Num, Comp}
use Rattle.snap_core.specs.declared.policy.Op.{Op}
use Rattle.snap_core.specs.declared.policy.Op.TheVariants.{Put, Add}
use Rattle.snap_core.specs.declared.policy.Term.{Term}
use Rattle.snap_core.specs.declared.policy.Term.TheVariants.{Num as Only, Plus}
use Rattle.snap_core.specs.declared.policy.Test.{Test}
use Rattle.snap_core.specs.declared.policy.Test.TheVariants.{Value, Equal, State as StateTest}
use Rattle.snap_core.specs.declared.policy.Update.{Update}
use Rattle.snap_core.specs.declared.ports.PortAt.{PortAt}
use Rattle.snap_core.specs.declared.program.Field.{Field}
use Rattle.snap_core.specs.declared.program.Found.{Found}
use Rattle.snap_core.specs.Fields.{IsFields, PrefixFits, count, declared_from, plain_field, the_ports, width}
use Rattle.snap_core.specs.Fits.{AtomFits, IndexFits, OpFits}
use Rattle.snap_core.specs.Names.{IsName, is_switch_name}
use Rattle.snap_core.specs.Tests.{PartFits, TermFits, TestFits}
use Rattle.snap_rows.specs.declared.tables.ArrayAt.{ArrayAt}
use Rattle.snap_rows.specs.declared.tables.RowAt.{RowAt}
use Rattle.snap_rows.specs.declared.tables.Row.{Row}
use Rattle.snap_rows.specs.declared.tables.Row.TheVariants as row
use Rattle.snap_rows.specs.declared.tables.Stage.{Stage as LeafStage}
use Rattle.snap_rows.specs.declared.tables.Tables.{Tables}
use Rattle.snap_rows.specs.Entries.{Parts, rank_of}
use Rattle.snap_core.specs.Ports.{link_cmp}
use Rattle.snap_rows.specs.Form.{Alternate, AlternateFrom, AreOutsWellFormed, IsArrayWellFormed, IsFieldTest, IsWellFormed, IsLinkWellFormed, IsOpWellFormed, IsPartsWellFormed, IsPortWellFormed, IsRowAtWellFormed, IsRowWellFormed, IsStateTest, IsLeafStageWellFormed, IsUpdateWellFormed, RanksRise, comps, parts_cmp, row_cmp}
use Rattle.snap_tables.specs.Laws.{IsAtom, IsIndex, IsOp, IsPart, IsRank, IsRankIf, IsTerm, IsTestOf, IsUpdateOf}
use Rattle.snap_tables.specs.Entries.{AreInSequence, IsNextArray, IsNextField, IsNextLink, IsNextPort, IsNextRow, IsNextSwitch, all_declared, are_new, array_fits, declared, is_field_at, is_new, is_plain_field}
use Rattle.snap_tables.specs.Lines.{IsBeginning, IsWhole, counts_of, has, has_all_hops}
use Rattle.snap_tables.specs.Pieces.{is_adjacent}
use Rattle.snap_tables.specs.Rows.{AreOuts, IsOut, IsRowOf, IsStage, is_field_test, rank_among, rises_from, stands_apart}
use Rattle.snap_tables.proofs.HopTurns.{IsGood, hops-all, hops-few, hops-good, hops-rise}
use Rattle.snap_tables.proofs.PieceLaws.{rising-out}
use Rattle.snap_tables.proofs.PieceLemmas.{false-true, flat_map-push}
use Rattle.snap_tables.proofs.Turns.{adjacent-sorted, bytes-other, distinct-push, each-turn, in-turn, link-total, on-total, parts-total, row-total, sorted-push}
use Rattle.snap_core.proofs.FieldLemmas.{bytes_eq-apart}

-- ---- fields
StartsPorts : List Field → Type 0
StartsPorts [] = Unit {0}
StartsPorts (f ∷ []) = f ≡ plain_field (codes "inport")
StartsPorts (f ∷ g ∷ fs) = (f ≡ plain_field (codes "inport")) × (g ≡ plain_field (codes "outport"))

plain-is : (k : List ℕ) (f : Field) → is_plain_field k f ≡ true → f ≡ plain_field k
plain-is k f e =
    let p = and_parts (bytes_eq f.name k) (not (is_some f.prefix)) e in
    (λ i. record { name = (bytes_eq-Decides f.name k).0 p.0 i; prefix = none f.prefix p.1 i })
  where
    none : (o : Option ℕ) → not (is_some o) ≡ true → o ≡ None
    none None e = refl
    none (Some n) e = absurd (false-true e)

starts-push : (fs : List Field) (f : Field) → StartsPorts fs → is_field_at (length fs) f ≡ true → StartsPorts (fs ++ (f ∷ []))
unfolding StartsPorts
starts-push [] f s e = plain-is (codes "inport") f e
starts-push (g ∷ []) f s e = (s, plain-is (codes "outport") f e)
starts-push (g ∷ h ∷ fs) f s e = s

starts-take : (fs : List Field) → StartsPorts fs → 2 ≤ length fs → take 2 fs ≡ the_ports
unfolding StartsPorts
starts-take [] s h = absurd (omega arith)
starts-take (f ∷ []) s h = absurd (omega arith)
starts-take (f ∷ g ∷ fs) s h = (λ i. s.0 i ∷ s.1 i ∷ [])

pub names-declared : (c : ℕ) (fs : List Field) → map (λ (e : List ℕ × Found). e.0) (declared_from c fs) ≡ all_declared fs
names-declared c [] = refl
names-declared c (f ∷ fs) = at c f.name f.prefix (declared_from (c + width f.prefix) fs) (names-declared (c + width f.prefix) fs)
  where
    at : (c : ℕ) (name : List ℕ) (p : Option ℕ) (rest : List (List ℕ × Found)) → map (λ (e : List ℕ × Found). e.0) rest ≡ all_declared fs
        → map (λ (e : List ℕ × Found). e.0) (Rattle.snap_core.specs.Fields.declared_at c name p ++ rest) ≡ declared name p ++ all_declared fs
    at c name None rest e = ap (λ l. name ∷ l) e
    at c name (Some n) rest e = ap (λ l. name ∷ (name ++ codes ".net") ∷ (name ++ codes ".host") ∷ l) e

declared-differ : (name : List ℕ) (p : Option ℕ) → IsDistinct bytes_eq (declared name p)
unfolding IsDistinct
declared-differ name None = (tt, tt)
declared-differ name (Some n) =
    let net = Rattle.std.proofs.Common.length-append name (codes ".net") in
    let host = Rattle.std.proofs.Common.length-append name (codes ".host") in (
      (bytes_eq-apart name (name ++ codes ".net") (λ e. omega (arith, e, net)), (bytes_eq-apart name (name ++ codes ".host") (λ e. omega (arith, e, host)), tt)),
      ((bytes_eq-apart (name ++ codes ".net") (name ++ codes ".host") (λ e. omega (arith, e, net, host)), tt), (tt, tt)),
    )

-- lists of names, one behind the other
new-push : (xs : List (List ℕ)) (y z : List ℕ) → is_new xs z ≡ true → bytes_eq z y ≡ false → is_new (xs ++ (y ∷ [])) z ≡ true
new-push [] y z e o = rw o refl
new-push (x ∷ xs) y z e o = at (bytes_eq z x) refl e (λ h. new-push xs y z h o)
  where
    at : (b : Bool) → bytes_eq z x ≡ b → not (b || list_any (bytes_eq z) xs) ≡ true → (is_new xs z ≡ true → is_new (xs ++ (y ∷ [])) z ≡ true) → not (bytes_eq z x || list_any (bytes_eq z) (xs ++ (y ∷ []))) ≡ true
    at true is e rest = absurd (false-true e)
    at false is e rest = rw is (rest e)

still-new : (xs : List (List ℕ)) (y : List ℕ) (ys : List (List ℕ)) → list_all (is_new xs) ys ≡ true → AllByRecursion (λ q. bytes_eq y q ≡ false) ys → list_all (is_new (xs ++ (y ∷ []))) ys ≡ true
still-new xs y [] e h = refl
still-new xs y (z ∷ zs) e h =
    let k = and_parts (is_new xs z) (list_all (is_new xs) zs) e in
    and_from (is_new (xs ++ (y ∷ [])) z) (list_all (is_new (xs ++ (y ∷ []))) zs) (new-push xs y z k.0 (bytes-other y z h.0)) (still-new xs y zs k.1 h.1)

distinct-more : (xs ys : List (List ℕ)) → IsDistinct bytes_eq xs → IsDistinct bytes_eq ys → are_new xs ys ≡ true → IsDistinct bytes_eq (xs ++ ys)
unfolding IsDistinct
distinct-more xs [] dx dy e = subst (IsDistinct bytes_eq) (sym (append-nil xs)) dx
distinct-more xs (y ∷ ys) dx dy e =
    let k = and_parts (is_new xs y) (list_all (is_new xs) ys) e in
    subst (IsDistinct bytes_eq) (append_assoc xs (y ∷ []) ys) (distinct-more (xs ++ (y ∷ [])) ys (distinct-push xs y dx k.0) dy.1 (still-new xs y ys k.1 dy.0))

no-names : IsDistinct bytes_eq []
unfolding IsDistinct
no-names = tt

record AreFields (fs : List Field) : Type 0 where
  starts : StartsPorts fs
  differ : IsDistinct bytes_eq (all_declared fs)

fields-push : (fs : List Field) (f : Field) → AreFields fs → IsNextField fs f → AreFields (fs ++ (f ∷ []))
fields-push fs f a n =
    let k = and_parts (is_field_at (length fs) f) (are_new (all_declared fs) (declared f.name f.prefix)) n.2 in
    record {
      starts = starts-push fs f a.starts k.0;
      differ = subst (IsDistinct bytes_eq) (sym (flat_map-push (λ (g : Field). declared g.name g.prefix) fs f)) (distinct-more (all_declared fs) (declared f.name f.prefix) a.differ (declared-differ f.name f.prefix) k.1);
    }

no-fields : AreFields []
unfolding StartsPorts IsDistinct
no-fields = record { starts = tt; differ = tt }

pub are-fields : (fs : List Field) → AreInSequence IsNextField fs → count fs ≤ 64 → 2 ≤ length fs → IsFields fs
are-fields fs turn few some =
    let a = in-turn IsNextField AreFields fields-push no-fields fs turn in
    record {
      ports = starts-take fs a.starts some;
      different = subst (IsDistinct bytes_eq) (sym (names-declared 0 fs)) a.differ;
      prefixes = each-turn IsNextField (λ f. PrefixFits f.prefix) (λ ys x n. n.1) fs turn;
      few = few;
    }

-- ---- arrays, links, ports
arrays-differ : (v n : ℕ) (as' : List ArrayAt) → AreInSequence (IsNextArray v n) as' → IsDistinct bytes_eq (map (λ (a : ArrayAt). a.name) as')
arrays-differ v n as' turn = in-turn (IsNextArray v n) (λ xs. IsDistinct bytes_eq (map (λ (a : ArrayAt). a.name) xs)) step no-names as' turn
  where
    fits-new : (xs : List ArrayAt) (a : ArrayAt) → array_fits xs a ≡ true → is_new (map (λ (b : ArrayAt). b.name) xs) a.name ≡ true
    fits-new xs a e = ap not (same xs a) ∙ e
      where
        same : (xs : List ArrayAt) (a : ArrayAt) → Rattle.std.specs.List.list_any (bytes_eq a.name) (map (λ (b : ArrayAt). b.name) xs) ≡ Rattle.std.specs.List.list_any (λ (b : ArrayAt). bytes_eq a.name b.name) xs
        same [] a = refl
        same (x ∷ xs) a = ap (λ t. bytes_eq a.name x.name || t) (same xs a)

    step : (ys : List ArrayAt) (x : ArrayAt) → IsDistinct bytes_eq (map (λ (a : ArrayAt). a.name) ys) → IsNextArray v n ys x → IsDistinct bytes_eq (map (λ (a : ArrayAt). a.name) (ys ++ (x ∷ [])))
    step ys x d next = subst (IsDistinct bytes_eq) (sym (map-append (λ (a : ArrayAt). a.name) ys (x ∷ []))) (distinct-push (map (λ (a : ArrayAt). a.name) ys) x.name d (fits-new ys x next.3))

rank-less : (v r : ℕ) → IsRank v r → r < 64
rank-less v r h = at (v == 2) h
  where
    at : (b : Bool) → IsRankIf b r → r < 64
    at true h = h
    at false h = omega (arith, h)

rank-none : (v r : ℕ) → IsRank v r → v ≡ 1 → r ≡ 0
rank-none v r h is = subst (λ w. IsRank w r) is h

sorted-nil : {X : Type 0} (c : X → X → _) → IsStrictlySortedBy c []
unfolding IsStrictlySortedBy
sorted-nil c = tt

-- the map of a list in order
sorted-map : {X : Type 0} (f : X → ℕ) (xs : List X) → IsStrictlySortedBy (λ a b. nat_cmp (f a) (f b)) xs → IsStrictlySortedBy nat_cmp (map f xs)
unfolding IsStrictlySortedBy
sorted-map f [] h = tt
sorted-map f (x ∷ xs) h = (all-map xs h.0, sorted-map f xs h.1)
  where
    all-map : (ys : _) → AllByRecursion (λ y. nat_cmp (f x) (f y) ≡ Rattle.std.specs.declared.cmp.Ordering.TheVariants.Less) ys → AllByRecursion (λ y. nat_cmp (f x) y ≡ Rattle.std.specs.declared.cmp.Ordering.TheVariants.Less) (map f ys)
    all-map [] h = tt
    all-map (y ∷ ys) h = (h.0, all-map ys h.1)

-- ---- rows
module _ (t : Tables) where
  atom-fits : (a : Atom) → IsAtom (comps t) a → AtomFits (comps t) a
  atom-fits (Num n) f = tt
  atom-fits (Comp c) f = f

  index-fits : (es : List Atom) → IsIndex (comps t) es → IndexFits (comps t) es
  index-fits es f = All-weaker (IsAtom (comps t)) (AtomFits (comps t)) atom-fits es f.0

  op-fits : (o : Op) → IsOp (comps t) o → OpFits (comps t) o
  op-fits (Put a) f = atom-fits a f
  op-fits (Add n) f = tt

  op-form : (o : Op) → IsOp (comps t) o → IsOpWellFormed o
  op-form (Put a) f = tt
  op-form (Add n) f = f.0

  update-form : (u : Update) → IsUpdateOf (comps t) (length t.arrays) u → IsUpdateWellFormed t u
  update-form u f = record { fits = record { var = f.0; index = index-fits u.index f.1; op = op-fits u.op f.2 }; index = (f.1.1, f.1.2); op = op-form u.op f.2 }

  part-fits : (p : ℕ × Atom) → IsPart (comps t) p → PartFits (comps t) p
  part-fits p f = record { comp = f.0; atom = atom-fits p.1 f.1 }

  out-form : (o : Parts) → IsOut (counts_of t) o → IsPartsWellFormed t o
  out-form o f = record {
    fits = All-weaker (IsPart (comps t)) (PartFits (comps t)) part-fits o f.0;
    rising = rising-out o f.1;
    changes = All-weaker (IsPart (comps t)) (λ p. p.1 ≢ Comp p.0) (λ p h. h.2) o f.0;
  }

  outs-form : (os : List Parts) → AreOuts (counts_of t) os → AreOutsWellFormed t os
  outs-form os f = record { each = All-weaker (IsOut (counts_of t)) (IsPartsWellFormed t) out-form os f.0; rising = adjacent-sorted parts_cmp parts-total os f.1 }

  stage-form : (s : LeafStage) → IsStage (counts_of t) s → IsLeafStageWellFormed t s
  stage-form s f = record { at = f.0; some = f.1; each = All-weaker (IsUpdateOf (comps t) (length t.arrays)) (IsUpdateWellFormed t) update-form s.ups f.2 }

  apart : (a b : ℕ) → not (a == b) ≡ true → b ≢ a
  apart a b e same = false-true (sym (ap not (Rattle.std.proofs.lemmas.Bool.eq-eqb a b (sym same))) ∙ e)

  alternate-from : (s : LeafStage) (ss : List LeafStage) → is_adjacent stands_apart (s ∷ ss) ≡ true → AlternateFrom s.at ss
  alternate-from s [] e = tt
  alternate-from s (u ∷ ss) e =
      let k = and_parts (stands_apart s u) (is_adjacent stands_apart (u ∷ ss)) e in
      (apart s.at u.at k.0, alternate-from u ss k.1)

  alternates : (ss : List LeafStage) → is_adjacent stands_apart ss ≡ true → Alternate ss
  alternates [] e = tt
  alternates (s ∷ ss) e = alternate-from s ss e

  ranks : List Update → List ℕ
  ranks us = map (λ (u : Update). rank_of t u.var) us

  least : (us : List Update) (r k d : ℕ) → rises_from t.arrays r us ≡ true → k < length (ranks us) → r ≤ get_or (ranks us) k d
  unfolding ranks
  least [] r k d e lt = absurd (omega arith)
  least (u ∷ us) r zero d e lt = leb-true r (rank_among t.arrays u.var) (and_parts (nat_le r (rank_among t.arrays u.var)) (rises_from t.arrays (rank_among t.arrays u.var) us) e).0
  least (u ∷ us) r (suc k) d e lt =
      let p = and_parts (nat_le r (rank_among t.arrays u.var)) (rises_from t.arrays (rank_among t.arrays u.var) us) e in
      omega (arith, leb-true r (rank_among t.arrays u.var) p.0, least us (rank_among t.arrays u.var) k d p.1 (omega arith))

  falls-not : (us : List Update) (r : ℕ) → rises_from t.arrays r us ≡ true → (i j d : ℕ) → i ≤ j → j < length (ranks us) → get_or (ranks us) i d ≤ get_or (ranks us) j d
  unfolding ranks
  falls-not [] r e i j d le lt = absurd (omega arith)
  falls-not (u ∷ us) r e zero zero d le lt = omega arith
  falls-not (u ∷ us) r e zero (suc j) d le lt = least us (rank_among t.arrays u.var) j d (and_parts (nat_le r (rank_among t.arrays u.var)) (rises_from t.arrays (rank_among t.arrays u.var) us) e).1 (omega arith)
  falls-not (u ∷ us) r e (suc i) zero d le lt = absurd (omega arith)
  falls-not (u ∷ us) r e (suc i) (suc j) d le lt = falls-not us (rank_among t.arrays u.var) (and_parts (nat_le r (rank_among t.arrays u.var)) (rises_from t.arrays (rank_among t.arrays u.var) us) e).1 i j d (omega arith) (omega arith)

  ranks-rise : (us : List Update) → rises_from t.arrays 0 us ≡ true → RanksRise t us
  unfolding ranks
  ranks-rise us e i j d le lt = falls-not us 0 e i j d le lt

  term-fits : (x : Term) → IsTerm (comps t) x → TermFits (comps t) x
  term-fits (Only n) f = tt
  term-fits (Plus c n) f = f.0

  test-fits : (x : Test) → IsTestOf (comps t) (length t.arrays) x → TestFits (comps t) x
  test-fits (Value c n) f = f.0
  test-fits (Equal a b n) f = (omega (arith, f.0, f.1), f.1)
  test-fits (StateTest v es x) f = (index-fits es f.1, term-fits x f.2)

  field-test : (x : Test) → IsTestOf (comps t) (length t.arrays) x → is_field_test x ≡ true → IsFieldTest x
  field-test (Value c n) f e = tt
  field-test (Equal a b n) f e = f.0
  field-test (StateTest v es x) f e = absurd (false-true e)

  state-test : (x : Test) → IsTestOf (comps t) (length t.arrays) x → is_field_test x ≡ false → IsStateTest t x
  state-test (Value c n) f e = absurd (false-true (sym e))
  state-test (Equal a b n) f e = absurd (false-true (sym e))
  state-test (StateTest v es x) f e = (f.0, (f.1.1, f.1.2))

  row-form : (b : Row) → IsRowOf t.version (counts_of t) t.arrays b → IsRowWellFormed t b
  row-form (row.Field x y z) f = (test-fits x f.0, field-test x f.0 f.1)
  row-form (row.State x y z) f = (test-fits x f.0, state-test x f.0 f.1)
  row-form (row.Go x) f = (eqb-true t.version 1 f.0, f.1)
  row-form (row.Leaf ss os) f = (eqb-true t.version 1 f.0, f.1.2, All-weaker (IsStage (counts_of t)) (IsLeafStageWellFormed t) stage-form ss f.1.0, alternates ss f.1.1, outs-form os f.2)
  row-form row.Stop f = eqb-true t.version 2 f
  row-form (row.Last us os) f = (eqb-true t.version 2 f.0, All-weaker (IsUpdateOf (comps t) (length t.arrays)) (IsUpdateWellFormed t) update-form us f.1.0, ranks-rise us f.1.1, outs-form os f.2)

-- ---- the whole
some-has : {X : Type 0} (xs : List X) → has xs ≡ true → 1 ≤ length xs
some-has [] e = absurd (false-true e)
some-has (x ∷ xs) e = omega arith

module _ (t : Tables) (b : IsBeginning t) (w : IsWhole t) where
  parts : (nat_le 2 (length t.fields) ≡ true) × ((has t.switches && has_all_hops t) ≡ true)
  parts = let k = and_parts (nat_le 2 (length t.fields) && has t.switches) (has_all_hops t) w in let m = and_parts (nat_le 2 (length t.fields)) (has t.switches) k.0 in (m.0, Rattle.std.proofs.lemmas.Bool.and_from (has t.switches) (has_all_hops t) m.1 k.1)

  n : ℕ
  n = length t.switches

  over-hops : (length t.switches ≤ (Rattle.snap_tables.specs.Entries.due_pair (length t.switches) t.hops).0) ⊎ (length t.switches ≤ (Rattle.snap_tables.specs.Entries.due_pair (length t.switches) t.hops).1)
  over-hops =
      let m = and_parts (has t.switches) (has_all_hops t) parts.1 in
      let p = Rattle.snap_tables.specs.Entries.due_pair (length t.switches) t.hops in
      Rattle.std.proofs.Common.⊎_elim (λ e. inl (leb-true (length t.switches) p.0 e)) (λ e. inr (leb-true (length t.switches) p.1 e)) (or_cases (nat_le (length t.switches) p.0) (nat_le (length t.switches) p.1) m.1)

  array-form : (ys : List ArrayAt) (a : ArrayAt) → IsNextArray t.version (length t.switches) ys a → IsArrayWellFormed t a
  array-form ys a f = record { name = f.0; at = f.1; rank = rank-less t.version a.rank f.2; one = λ e. rank-none t.version a.rank f.2 e }

  link-form : (ys : List (ℕ × ℕ)) (l : ℕ × ℕ) → IsNextLink (length t.switches) ys l → IsLinkWellFormed t l
  link-form ys l f = record { lesser = Rattle.std.proofs.lemmas.Bool.ltb-true l.0 l.1 (and_parts (nat_lt l.0 l.1) (Rattle.snap_tables.specs.Entries.is_above Rattle.snap_tables.specs.Entries.link_less ys l) f.2).0; below = f.1 }

  port-form : (ys : List PortAt) (p : PortAt) → IsNextPort (length t.switches) ys p → IsPortWellFormed t p
  port-form ys p f = record { some = f.0; at = f.2 }

  row-at-form : (ys : List RowAt) (r : RowAt) → IsNextRow t.version (counts_of t) t.arrays ys r → IsRowAtWellFormed t r
  row-at-form ys r f = record { at = f.0; row = row-form t r.row f.2 }

  links-rise : IsStrictlySortedBy link_cmp t.links
  links-rise = in-turn (IsNextLink (length t.switches)) (IsStrictlySortedBy link_cmp)
      (λ ys x s f. sorted-push link_cmp link-total ys x s (and_parts (nat_lt x.0 x.1) (Rattle.snap_tables.specs.Entries.is_above Rattle.snap_tables.specs.Entries.link_less ys x) f.2).1) (sorted-nil link_cmp) t.links b.links

  ports-rise : IsStrictlySortedBy nat_cmp (map (λ (p : PortAt). p.port) t.ports)
  ports-rise = sorted-map (λ (p : PortAt). p.port) t.ports (in-turn (IsNextPort (length t.switches)) (IsStrictlySortedBy (λ (p q : PortAt). nat_cmp p.port q.port))
      (λ ys x s f. sorted-push (λ (p q : PortAt). nat_cmp p.port q.port) (on-total (λ (p : PortAt). p.port) Rattle.std.proofs.lemmas.Cmp.nat_cmp_total) ys x s f.3) (sorted-nil (λ (p q : PortAt). nat_cmp p.port q.port)) t.ports b.ports)

  rows-rise : IsStrictlySortedBy row_cmp t.rows
  rows-rise = in-turn (IsNextRow t.version (counts_of t) t.arrays) (IsStrictlySortedBy row_cmp) (λ ys x s f. sorted-push row_cmp row-total ys x s f.3) (sorted-nil row_cmp) t.rows b.rows

  hop-form : (h : Rattle.snap_rows.specs.declared.tables.Hop.Hop) → IsGood (length t.switches) h → Rattle.snap_rows.specs.Form.IsHopWellFormed t h
  hop-form h g = record { from = g.from; target = g.target; other = g.other; next = g.next }

  pub in-form : IsWellFormed t
  in-form = record {
    version = b.version;
    fields = are-fields t.fields b.fields b.few_comps (leb-true 2 (length t.fields) parts.0);
    field_names = each-turn IsNextField (λ f. IsName f.name) (λ ys x f. f.0) t.fields b.fields;
    some_switch = some-has t.switches (and_parts (has t.switches) (has_all_hops t) parts.1).0;
    few_switches = b.few_switches;
    switch_names = each-turn IsNextSwitch (λ name. Rattle.std.specs.Prelude.IsTrue (is_switch_name name)) (λ ys x f. f.0) t.switches b.switches;
    switches_differ = in-turn IsNextSwitch (IsDistinct bytes_eq) (λ ys x d f. distinct-push ys x d f.1) no-names t.switches b.switches;
    few_arrays = b.few_arrays;
    arrays = each-turn (IsNextArray t.version (length t.switches)) (IsArrayWellFormed t) array-form t.arrays b.arrays;
    arrays_differ = arrays-differ t.version (length t.switches) t.arrays b.arrays;
    few_links = b.few_links;
    links = each-turn (IsNextLink (length t.switches)) (IsLinkWellFormed t) link-form t.links b.links;
    links_rise = links-rise;
    few_ports = b.few_ports;
    ports = each-turn (IsNextPort (length t.switches)) (IsPortWellFormed t) port-form t.ports b.ports;
    ports_rise = ports-rise;
    few_hops = hops-few (length t.switches) b.few_switches t.hops b.hops;
    hops = Rattle.std.proofs.lemmas.List.Elements.All-weaker (IsGood (length t.switches)) (Rattle.snap_rows.specs.Form.IsHopWellFormed t) hop-form t.hops (hops-good (length t.switches) b.few_switches t.hops b.hops);
    hops_rise = hops-rise (length t.switches) b.few_switches t.hops b.hops;
    all_hops = λ a x la lx o. hops-all (length t.switches) b.few_switches t.hops b.hops over-hops a x la lx o;
    rows = each-turn (IsNextRow t.version (counts_of t) t.arrays) (IsRowAtWellFormed t) row-at-form t.rows b.rows;
    rows_rise = rows-rise;
  }

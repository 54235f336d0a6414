-- Choices among the numbers of one component, and policies part by part.
use Rattle.std.proofs.Common.{◌≡◌, ◌<◌, ◌+◌, ℕ, suc, zero, Bool, true, false, ◌==◌, cond, List, [], ◌∷◌, ◌++◌, Option, Some, None, length, map, drop, refl, ap, sym, subst, ◌∙◌, slice_get, slice_index, slice_index_or, option_and_then, option_map, Bor}
use Rattle.std.specs.Prelude.{unwrap_or, MatchOption}
use Rattle.std.specs.Cmp.{nat_eq_equiv}
use Rattle.std.specs.Option.{option_or}
use Rattle.std.proofs.lemmas.List.{drop_more, length-map, map-append}
use Rattle.std.proofs.lemmas.Option.{none-some}
use Rattle.snap_core.specs.declared.policy.Pol.{Pol}
use Rattle.snap_core.specs.Arrays.{Arrays}
use Rattle.snap_core.specs.Cases.{case_at}
use Rattle.snap_core.specs.Fits.{PolFits}
use Rattle.snap_core.specs.declared.copies.Effect.TheVariants.{Same}
use Rattle.snap_core.specs.declared.run.Ran.{Ran}
use Rattle.snap_core.specs.Meaning.{all_together, eval, logged}
use Rattle.snap_core.specs.Packets.{listed}
use Rattle.snap_core.specs.Runs.{after_first, ran_with, set_after}
use Rattle.snap_core.proofs.CaseLemmas.{case_at-append}
use Rattle.snap_core.proofs.EvalLemmas.{each_one}
use Rattle.snap_core.proofs.WithinLemmas.{logged-nothing, eval-cond}
use Rattle.snap_report.specs.declared.laid.Part.{Part}
use Rattle.snap_report.specs.Choices.{ComesTo, IsTest, AreParts, seen}

pub comes-itself : (p : Pol) (k : List ℕ) → ComesTo p p k
comes-itself p k = record { fits = λ n v f. f; same = λ m. refl }

pub comes-on : (p q r : Pol) (k : List ℕ) → ComesTo p q k → ComesTo q r k → ComesTo p r k
comes-on p q r k a b = record { fits = λ n v f. b.fits n v (a.fits n v f); same = λ m. a.same m ∙ b.same m }

-- ---- a test of a component reads no array
-- what a test of a component gives
pub tested : (t : Bool) (p q : Pol) (m : Arrays) (k : List ℕ) → option_map (logged 0 0) (cond t (eval p m k) (eval q m k)) ≡ eval (cond t p q) m k
tested t p q m k = logged-nothing (cond t (eval p m k) (eval q m k)) ∙ eval-cond t p q m k

pub fits-cond : (t : Bool) (n v : ℕ) (p q : Pol) → PolFits n v p → PolFits n v q → PolFits n v (cond t p q)
fits-cond true n v p q a b = a
fits-cond false n v p q a b = b

-- ---- the branches of several numbers
there-still : (xs ys : List Pol) (i : ℕ) (p : Pol) → slice_get xs i ≡ Some p → slice_get (xs ++ ys) i ≡ Some p
there-still [] ys i p e = absurd (none-some p e)
there-still (x ∷ xs) ys zero p e = e
there-still (x ∷ xs) ys (suc i) p e = there-still xs ys i p e

there-last : (xs : List Pol) (p : Pol) → slice_get (xs ++ p ∷ []) (length xs) ≡ Some p
there-last [] p = refl
there-last (x ∷ xs) p = there-last xs p

-- the policy comes to the branch at a place
abbrev pub LeadsTo : Pol → List (Bor Pol) → List ℕ → ℕ → Type 0
LeadsTo pol bs k i = (p : Pol) × (slice_get (seen bs) i ≡ Some p) × ComesTo pol p k

-- by cases of a component a policy comes to the branches that they say, and else to the rest
abbrev pub Leads : Pol → ℕ → List (ℕ × ℕ) → List (Bor Pol) → Pol → Type 0
Leads pol c cs bs rest = (k : List ℕ) → MatchOption (case_at cs (slice_index k c)) (ComesTo pol rest k) (LeadsTo pol bs k)

pub leads-first : (pol : Pol) (c : ℕ) (bs : List (Bor Pol)) → Leads pol c [] bs pol
leads-first pol c bs k = comes-itself pol k

-- one more test
pub leads-more : (pol : Pol) (c : ℕ) (cs : List (ℕ × ℕ)) (bs : List (Bor Pol)) (rest : Pol) (num : ℕ) (there : Bor Pol) (else_ : Pol) → Leads pol c cs bs rest → IsTest rest c num there.now else_
    → Leads pol c (cs ++ (num, length bs) ∷ []) (bs ++ there ∷ []) else_
leads-more pol c cs bs rest num there else_ leads test k =
    subst (λ o. MatchOption o (ComesTo pol else_ k) (LeadsTo pol (bs ++ there ∷ []) k)) (sym (case_at-append cs ((num, length bs) ∷ []) n)) (by (case_at cs n) (num == n) (leads k) (subst (λ t. ComesTo rest (cond t there.now else_) k) (nat_eq_equiv.symm n num) (test.comes k)))
  where
    n : ℕ
    n = slice_index k c

    grown : seen (bs ++ there ∷ []) ≡ seen bs ++ there.now ∷ []
    grown = map-append (λ p. p.now) bs (there ∷ [])

    by : (o : Option ℕ) (t : Bool) → MatchOption o (ComesTo pol rest k) (LeadsTo pol bs k) → ComesTo rest (cond t there.now else_) k
        → MatchOption (option_or o (cond t (Some (length bs)) None)) (ComesTo pol else_ k) (LeadsTo pol (bs ++ there ∷ []) k)
    by (Some i) t h comes = (h.0, subst (λ l. slice_get l i ≡ Some h.0) (sym grown) (there-still (seen bs) (there.now ∷ []) i h.0 h.1), h.2)
    by None true h comes =
        let place = ap (λ l. slice_get l (length bs)) grown ∙ ap (slice_get (seen bs ++ there.now ∷ [])) (sym (length-map bs (λ p. p.now))) ∙ there-last (seen bs) there.now in
        (there.now, place, comes-on pol rest there.now k h comes)
    by None false h comes = comes-on pol rest else_ k h comes

-- what the branches of several numbers come to
pub leads-picked : (pol : Pol) (bs : List (Bor Pol)) (rest : Pol) (k : List ℕ) (o : Option ℕ) → MatchOption o (ComesTo pol rest k) (LeadsTo pol bs k)
    → ComesTo pol (unwrap_or (option_and_then (slice_get (seen bs)) o) rest) k
leads-picked pol bs rest k None h = h
leads-picked pol bs rest k (Some i) h = subst (λ o. ComesTo pol (unwrap_or o rest) k) (sym h.1) h.2

-- ---- part by part
pub parts-fit : (n v : ℕ) (first : Pol) (xs : List Part) (whole : Pol) → AreParts first xs whole → PolFits n v whole → PolFits n v first
parts-fit n v first [] whole is fits = subst (PolFits n v) is fits
parts-fit n v first (x ∷ xs) whole is fits = (is.1.fits n v (parts-fit n v is.0 xs whole is.2 fits)).0

-- a sequence whose first part is undefined is so as a whole
pub parts-none : (first : Pol) (xs : List Part) (whole : Pol) (m : Arrays) (k : List ℕ) → AreParts first xs whole → eval first m k ≡ None → eval whole m k ≡ None
parts-none first [] whole m k is none = ap (λ p. eval p m k) is ∙ none
parts-none first (x ∷ xs) whole m k is none = parts-none is.0 xs whole m k is.2 (is.1.same m k ∙ ap (option_and_then (after_first x.pol.now)) none)

-- a part on the one packet that a run in place left
pub after-one : (p : Pol) (m : Arrays) (k : List ℕ) (r : Ran) → r.flow ≡ Same → after_first p (ran_with m k r) ≡ option_map (logged r.reads r.writes) (eval p m k)
after-one p m k r is =
    ap (λ f. option_map (logged r.reads r.writes) (all_together m (map (λ k'. eval p m k') (listed (set_after f k))))) is
    ∙ ap (option_map (logged r.reads r.writes)) (each_one m p k)

-- the next of the parts that are left
pub parts-next : (xs : List Part) (i : ℕ) (x : Part) (done whole : Pol) → i < length xs → x ≡ slice_index_or xs i x → AreParts done (drop i xs) whole → AreParts done (x ∷ drop (i + 1) xs) whole
parts-next xs i x done whole within is are = subst (λ l. AreParts done l whole) (drop_more xs i x within ∙ ap (λ y. y ∷ drop (i + 1) xs) (sym is)) are

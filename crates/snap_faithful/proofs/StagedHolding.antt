-- What updates and stages of one switch leave.
use Rattle.std.proofs.Common.{◌≡◌, ℕ, zero, suc, ◌+◌, Bool, true, false, List, [], ◌∷◌, ◌++◌, take, length, Some, refl, sym, ap, ◌∙◌, arith, append_assoc}
use Rattle.std.specs.Prelude.{slice_get}
use Rattle.std.specs.List.{All}
use Rattle.std.proofs.lemmas.Bool.{eqb-true, cond-true, cond-false, and_parts}
use Rattle.std.proofs.lemmas.List.Elements.{All-head, All-tail}
use Rattle.std.proofs.lemmas.List.{append-nil}
use Rattle.std.proofs.lemmas.Option.{none-some, same_Some}
use Rattle.snap_core.specs.declared.policy.Update.{Update}
use Rattle.snap_core.specs.Arrays.{Arrays, same_place, place_at, number_after, update, updates}
use Rattle.snap_core.proofs.Unwritten.{updated_keeps}
use Rattle.snap_dep.proofs.Sets.{has-pow_other}
use Rattle.snap_rows.specs.declared.tables.Tables.{Tables}
use Rattle.snap_rows.specs.declared.tables.Stage.{Stage as LeafStage}
use Rattle.snap_rows.specs.Entries.{owner_of}
use Rattle.snap_rows.specs.Laws.{AgreeAt}
use Rattle.snap_core.proofs.Updates.{updates-append}
use Rattle.snap_faithful.proofs.Holding.{OthersOf}
use Rattle.snap_faithful.specs.StagedFacts.{all_ups}

-- ---- updates
abbrev AreAt : Tables → ℕ → List Update → Type 0
AreAt t w us = All (λ (u : Update). owner_of t u.var ≡ Some w) us

update_holds : (t : Tables) (w : ℕ) (u : Update) (s m : Arrays) (k : List ℕ) → AgreeAt t w s m → AgreeAt t w (update s u k) (update m u k)
update_holds t w u s m k held q own = by (same_place (place_at u.var u.index k) q) refl
  where
    by : (b : Bool) → same_place (place_at u.var u.index k) q ≡ b → update s u k q ≡ update m u k q
    by true e =
        let var : u.var ≡ q.var = eqb-true u.var q.var (and_parts _ _ e).0 in
        cond-true _ _ _ e ∙ ap (λ x. number_after u.op x k) (held (place_at u.var u.index k) (ap (owner_of t) var ∙ own)) ∙ sym (cond-true _ _ _ e)
    by false e = cond-false _ _ _ e ∙ held q own ∙ sym (cond-false _ _ _ e)

pub updates_hold : (t : Tables) (w : ℕ) (us : List Update) (s m : Arrays) (k : List ℕ) → AgreeAt t w s m → AgreeAt t w (updates s us k) (updates m us k)
updates_hold t w [] s m k held = held
updates_hold t w (u ∷ us) s m k held = updates_hold t w us (update s u k) (update m u k) k (update_holds t w u s m k held)

pub updates_far : (t : Tables) (w : ℕ) (us : List Update) (m : Arrays) (k : List ℕ) → AreAt t w us → OthersOf (owner_of t) w m (updates m us k)
updates_far t w [] m k at x ne q own = refl
updates_far t w (u ∷ us) m k at x ne q own =
    updates_far t w us (update m u k) k (All-tail (λ (u : Update). owner_of t u.var ≡ Some w) u us at) x ne q own
    ∙ updated_keeps u m k q
    (has-pow_other u.var q.var (λ same. ne (same_Some x w (sym own ∙ ap (owner_of t) (sym same) ∙ All-head (λ (u : Update). owner_of t u.var ≡ Some w) u us at))))

-- ---- stages
-- the arrays m after the stages before stage i
abbrev pub upto : Arrays → List ℕ → List LeafStage → ℕ → Arrays
upto m k ss i = updates m (all_ups (take i ss)) k

ups_next : (ss : List LeafStage) (i : ℕ) (s : LeafStage) → slice_get ss i ≡ Some s → all_ups (take (i + 1) ss) ≡ all_ups (take i ss) ++ s.ups
ups_next [] i s e = absurd (none-some s e)
ups_next (x ∷ ss) zero s e = append-nil x.ups ∙ ap (λ (y : LeafStage). y.ups) (same_Some x s e)
ups_next (x ∷ ss) (suc i) s e =
    let shift : suc i + 1 ≡ suc (i + 1) = omega arith in
    ap (λ j. all_ups (take j (x ∷ ss))) shift ∙ ap (λ l. x.ups ++ l) (ups_next ss i s e) ∙ sym (append_assoc x.ups (all_ups (take i ss)) s.ups)

pub upto_next : (m : Arrays) (k : List ℕ) (ss : List LeafStage) (i : ℕ) (s : LeafStage) → slice_get ss i ≡ Some s → updates (upto m k ss i) s.ups k ≡ upto m k ss (i + 1)
upto_next m k ss i s e = sym (ap (λ l. updates m l k) (ups_next ss i s e) ∙ updates-append (all_ups (take i ss)) s.ups m k)

take_all : {A : Type 0} (xs : List A) → take (length xs) xs ≡ xs
take_all [] = refl
take_all (x ∷ xs) = ap (λ l. x ∷ l) (take_all xs)

pub upto_all : (m : Arrays) (k : List ℕ) (ss : List LeafStage) (i : ℕ) → i ≡ length ss → upto m k ss i ≡ updates m (all_ups ss) k
upto_all m k ss i e = ap (λ x. updates m (all_ups (take x ss)) k) e ∙ ap (λ l. updates m (all_ups l) k) (take_all ss)

-- The stages of a leaf.
use Rattle.std.proofs.Common.{◌≡◌, ◌≢◌, ℕ, zero, suc, add-one, ◌+◌, ◌<◌, List, [], ◌∷◌, Option, Some, length, get_or, refl, sym, ap, subst, ◌∙◌, arith}
use Rattle.std.specs.Prelude.{slice_get, IsSome}
use Rattle.std.specs.List.{All}
use Rattle.std.proofs.lemmas.Bool.{false≢true}
use Rattle.std.proofs.lemmas.Option.{slice_get-get_or, same_Some}
use Rattle.std.proofs.lemmas.List.Elements.{All-weaker}
use Rattle.snap_core.specs.declared.policy.Update.{Update}
use Rattle.snap_core.specs.Fits.{UpdateReads}
use Rattle.snap_core.specs.Tests.{OutFits}
use Rattle.snap_rows.specs.declared.tables.Stage.{Stage}
use Rattle.snap_rows.specs.declared.tables.Tables.{Tables}
use Rattle.snap_rows.specs.declared.tables.Stage.{Stage as LeafStage}
use Rattle.snap_rows.specs.Entries.{Parts}
use Rattle.snap_rows.specs.Form.{IsWellFormed, IsLeafStageWellFormed, IsUpdateWellFormed, IsPartsWellFormed, AreOutsWellFormed, Alternate, AlternateFrom, comps}
use Rattle.snap_core.specs.Arrays.{Arrays}
use Rattle.snap_rows.specs.declared.head.Head.TheVariants.{Walk, Stage as AtStage}
use Rattle.snap_rows.specs.declared.tables.Row.TheVariants.{Leaf}
use Rattle.snap_rows.specs.Entries.{row_at}
use Rattle.snap_rows.specs.Actions.{Action}
use Rattle.snap_rows.specs.Handles.{Handles, Follows, arrives, follows, is_test, forked, forks, begins, asks}
use Rattle.snap_rows.proofs.Rows.{All-get}

pub turn_there : (stages : List LeafStage) (i : ℕ) (s : LeafStage) → i < length stages → s ≡ get_or stages i s → slice_get stages i ≡ Some s
turn_there stages i s within e = slice_get-get_or stages i s within ∙ ap Some (sym e)

pub reads_own : (t : Tables) (u : Update) → IsUpdateWellFormed t u → UpdateReads (comps t) u
reads_own t u h = record { index = h.fits.index; op = h.fits.op }

pub ups_fit : (t : Tables) → IsWellFormed t → (ss : List LeafStage) (i : ℕ) (s : LeafStage) → All (IsLeafStageWellFormed t) ss → slice_get ss i ≡ Some s → (n : ℕ) → n ≡ comps t → All (UpdateReads n) s.ups
ups_fit t form ss i s all e n long =
    let turn = All-get (IsLeafStageWellFormed t) ss i s all e in
    subst (λ n. All (UpdateReads n) s.ups) (sym long)
    (All-weaker (IsUpdateWellFormed t) (UpdateReads (comps t)) (reads_own t) s.ups turn.each)

pub outs_fit : (t : Tables) (os : List Parts) → AreOutsWellFormed t os → All (OutFits (comps t)) os
outs_fit t os h = All-weaker (IsPartsWellFormed t) (OutFits (comps t)) (λ o p. p.fits) os h.each

alternates_from : (w : ℕ) (ss : List LeafStage) (s' : LeafStage) → AlternateFrom w ss → slice_get ss 0 ≡ Some s' → s'.at ≢ w
alternates_from w [] s' a e = λ _. false≢true (subst (λ (o : Option LeafStage). IsSome o) (sym e) refl)
alternates_from w (x ∷ xs) s' a e = subst (λ (y : LeafStage). y.at ≢ w) (same_Some _ _ e) a.0

alternate_on : (w : ℕ) (ss : List LeafStage) → AlternateFrom w ss → Alternate ss
alternate_on w [] a = tt
alternate_on w (x ∷ xs) a = a.1

pub alternates_next : (ss : List LeafStage) (i : ℕ) (s s' : LeafStage) → Alternate ss → slice_get ss i ≡ Some s → slice_get ss (suc i) ≡ Some s' → s'.at ≢ s.at
alternates_next [] i s s' a e f = λ _. false≢true (subst (λ (o : Option LeafStage). IsSome o) (sym e) refl)
alternates_next (x ∷ xs) zero s s' a e f = subst (λ (y : LeafStage). s'.at ≢ y.at) (same_Some _ _ e) (alternates_from x.at xs s' a f)
alternates_next (x ∷ xs) (suc i) s s' a e f = alternates_next xs i s s' (alternate_on x.at xs a) e f

pub alternates : (ss : List LeafStage) (i : ℕ) (s s' : LeafStage) → Alternate ss → slice_get ss i ≡ Some s → slice_get ss (i + 1) ≡ Some s' → s'.at ≢ s.at
alternates ss i s s' a e f = alternates_next ss i s s' a e (ap (slice_get ss) (sym (add-one i)) ∙ f)

pub forks_bare : (t : Tables) (w : ℕ) (k : List ℕ) (m : Arrays) (n : ℕ) (stages : List Stage) (os : List Parts) → row_at t w n ≡ Some (Leaf stages os) → length stages ≡ 0
    → Handles t w k m (Walk n) m (forked t os k)
forks_bare t w k m n [] os row none = forks row
forks_bare t w k m n (s ∷ ss) os row none = absurd (let e : suc (length ss) ≡ 0 = none in omega arith)

pub begins_some : (t : Tables) (w : ℕ) (k : List ℕ) (m m' : Arrays) (n : ℕ) (a : Action) (stages : List Stage) (os : List Parts) → row_at t w n ≡ Some (Leaf stages os) → 0 < length stages
    → Handles t w k m (AtStage n 0) m' a → Handles t w k m (Walk n) m' a
begins_some t w k m m' n a [] os row some h = absurd (let e : 0 < 0 = some in omega arith)
begins_some t w k m m' n a (s ∷ ss) os row some h = begins row h

-- a walk along test rows, and what comes after it
pub asked : (t : Tables) (w : ℕ) (k : List ℕ) (m m' : Arrays) (n v : ℕ) (a : Action) → t.version ≡ 1 → Follows t w k is_test m n v → Handles t w k m (Walk v) m' a → Handles t w k m (Walk n) m' a
asked t w k m m' n v a one (arrives row test) h = h
asked t w k m m' n v a one (follows row test goes f) h = asks one row goes (asked t w k m m' _ v a one f h)

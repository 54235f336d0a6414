-- A run with the changes of a file ends in one way, with one text.
use Rattle.std.proofs.Common.{◌≡◌, ℕ, Bool, List, [], ◌∷◌, Result, Ok, Err, refl, sym, ◌∙◌, ap, subst, inl, inr}
use Rattle.snap_tables.specs.Exact.{ReadsOneWay}
use Rattle.snap_runs.specs.ChangedFiles.{EndsAsRead, IsChangedTrace}
use Rattle.snap_refinement.specs.ChangeLaws.{AreWellFormed, ChangedBlocksAreOne, ChangedReportsAreOne}
use Rattle.snap_runs.specs.Shapes.{HaveOneShape}
use Rattle.snap_cli.specs.Changes.{ChangesTo, IsChangesText, IsLater, LaterOf, RefusesLater, before}
use Rattle.snap_cli.proofs.Shared.{All, All-cons, All-nil, Change, ChangedTables, ChangesOf, ended, Ending, file_of, Files, IsWellFormed, IsRunEnding, Later, Refusal, refused, RunEnding, spelled_under, Stop, Tables, TablesOf}
use Rattle.snap_cli.proofs.ObsOnce.{AreOne, run_once}
use Rattle.snap_cli.proofs.OneTables.{one_tables, spelled_form}
use Rattle.snap_cli.proofs.Pipeline.{Agree, Alike, alike, cases_once, next_once, within_once}

-- a file says its changes in one way
pub said_once : (file : List ℕ) → Agree ◌≡◌ (ChangesOf file) (ChangesOf file)
said_once file = within_once _ _ _ _ _ (λ a b h k. h ∙ sym k)

module _ (one : ReadsOneWay) (files : Files) (first : Tables) where
  -- the tables of a change, or why they can't come into force
  abbrev Loads : Change → Result Later Refusal → Type 0
  Loads c (Ok l) = IsLater files first c l
  Loads c (Err e) = RefusesLater files first c e

  module _ (c : Change) where
    once : Agree (Alike ◌≡◌) (TablesOf (file_of files c.name)) (TablesOf (file_of files c.name))
    once = one_tables one (file_of files c.name)

    apart : (e : Refusal) (l : Later) → RefusesLater files first c e → IsLater files first c l → ⊥
    apart e l (inl h) is = once (Err e) (Ok l.tables) h is.spelled
    apart e l (inr h) is = h.2 (subst (λ t. HaveOneShape t first) (once (Ok l.tables) (Ok h.0) is.spelled h.1) is.shape)

    loads_once : Agree (Alike ◌≡◌) (Loads c) (Loads c)
    loads_once (Ok l) (Ok m) a b = let tables = once (Ok l.tables) (Ok m.tables) a.spelled b.spelled in λ i. record { after = (a.after ∙ sym b.after) i; tables = tables i }
    loads_once (Ok l) (Err f) h k = apart f l k h
    loads_once (Err e) (Ok m) h k = apart e m h k
    loads_once (Err e) (Err f) h k =
        cases_once (once (Err e) (Err f)) (λ a b. once (Err e) (Ok b.0) a b.1) (λ a b. once (Err f) (Ok b.0) a b.1) (λ a b. a.3 ∙ sym b.3) h k

  later_once : (cs : List Change) → Agree ◌≡◌ (LaterOf files first cs) (LaterOf files first cs)
  later_once [] = λ a b h k. h ∙ sym k
  later_once (c ∷ cs) =
      next_once (loads_once c) _ _ _ _ (λ e x y m n. m ∙ sym n) (λ l is x y m n. m.2 ∙ (ap (before (l ∷ [])) (later_once cs m.0 n.0 m.1 n.1) ∙ sym n.2))

  pub tables_once : (lines : List ℕ) → Agree (Alike ◌≡◌) (ChangedTables files first lines) (ChangedTables files first lines)
  tables_once lines = alike (next_once (alike (said_once (file_of files lines))) _ _ _ _ (λ e a b h k. h ∙ sym k) (λ cs is. later_once cs))

-- ---- what was read
module _ (files : Files) (first : Tables) where
  -- all were read, so each of them can come into force
  pub data AreRead : List Change → List Later → Type 0 where
    read_none : AreRead [] []
    read_one : {c : Change} {cs : List Change} {l : Later} {ls : List Later} → l.after ≡ c.after → TablesOf (file_of files c.name) (Ok l.tables) → HaveOneShape l.tables first → AreRead cs ls → AreRead (c ∷ cs) (l ∷ ls)

  all_read : (cs : List Change) (r : Result (List Later) Refusal) → LaterOf files first cs r → (ls : List Later) → r ≡ Ok ls → AreRead cs ls
  all_read [] r h ls is = let e : ◌≡◌ {A = List Later} [] ls = cc in subst (AreRead []) e read_none
  all_read (c ∷ cs) r (inl h) ls is = absurd (let e = h.2 in cc)
  all_read (c ∷ cs) r (inr h) ls is = by h.2.0 (all_read cs h.2.0 h.2.1) (sym h.2.2 ∙ is)
    where
      by : (o : Result (List Later) Refusal) → ((ms : List Later) → o ≡ Ok ms → AreRead cs ms) → before (h.0 ∷ []) o ≡ Ok ls → AreRead (c ∷ cs) ls
      by (Ok ms) f e = let same : h.0 ∷ ms ≡ ls = cc in subst (AreRead (c ∷ cs)) same (read_one h.1.after h.1.spelled h.1.shape (f ms refl))
      by (Err x) f e = absurd (cc)

  pub changes_read : (lines : List ℕ) (ls : List Later) → ChangedTables files first lines (Ok ls) → (cs : List Change) × ChangesOf (file_of files lines) (Ok cs) × AreRead cs ls
  changes_read lines ls (inl h) = absurd (let e = h.2 in cc)
  changes_read lines ls (inr h) = (h.0, h.1, all_read h.0 (Ok ls) h.2 ls refl)

  read_forms : {cs : List Change} {ls : List Later} → AreRead cs ls → All (λ (x : Later). IsWellFormed x.tables) ls
  read_forms read_none = All-nil (λ (x : Later). IsWellFormed x.tables)
  read_forms (read_one {c = c} {l = l} {ls = ls} after is shape rest) = All-cons (λ (x : Later). IsWellFormed x.tables) l ls (spelled_form (file_of files c.name) l.tables is) (read_forms rest)

module _ (one : ReadsOneWay) (reports : ChangedReportsAreOne) (blocks : ChangedBlocksAreOne) (files : Files) (t : Tables) (form : IsWellFormed t) (packets : List ℕ) (hops : Bool) (lines : List ℕ) where
  read_once : (later : List Later) → AreWellFormed t later → (ks : List (List ℕ)) (stop : Stop) → AreOne (EndsAsRead t later hops ks stop)
  read_once later all ks ended a b e f h k = (h.0 ∙ sym k.0, reports t later all hops ks a b h.1 k.1)
  read_once later all ks (refused fault) a b e f h k = (h.0 ∙ sym k.0, blocks t later all hops ks a b h.1 k.1)

  trace_once : (later : List Later) → ChangedTables files t lines (Ok later) → AreOne (IsChangedTrace t later hops (file_of files packets))
  trace_once later h = let read = spelled_under t later (file_of files packets) in read_once later (form, read_forms files t (changes_read files t lines later h).2) read.packets read.stop

  abbrev Ran : List Later → Ending → List ℕ → Type 0
  Ran later e x = (run : RunEnding) × IsChangedTrace t later hops (file_of files packets) run x × IsRunEnding run e

  pub changes_once : AreOne (ChangesTo files t packets hops lines)
  changes_once x y a b =
      let once = tables_once one files t lines in
      cases_once (λ h k. (h.2 ∙ (ap Err (once (Err h.0) (Err k.0) h.1 k.1) ∙ sym k.2), h.3 ∙ sym k.3)) (λ h k. once (Err h.0) (Ok k.0) h.1 k.1) (λ h k. once (Err h.0) (Ok k.0) h.1 k.1)
      (λ h k. run_once (IsChangedTrace t k.0 hops (file_of files packets)) (trace_once k.0 k.1) x y a b (subst (λ later. Ran later a x) (once (Ok h.0) (Ok k.0) h.1 k.1) h.2) k.2)

  pub changes_text_once : Agree ◌≡◌ (IsChangesText files t packets hops lines) (IsChangesText files t packets hops lines)
  changes_text_once =
      next_once (tables_once one files t lines) _ _ _ _ (λ e x y h k. h ∙ sym k) (λ later h x y m n. (trace_once later h x y m.0 n.0 m.1 n.1).1)

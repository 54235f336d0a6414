-- What `trace --changes` did, from what its steps did.
use Rattle.std.proofs.Common.{◌≡◌, ◌≢◌, ℕ, ◌+◌, ◌<◌, ◌≤◌, Bool, List, [], ◌∷◌, ◌++◌, Option, Some, None, IfSome, Result, Ok, Err, length, drop, take, refl, sym, ap, subst, ◌∙◌, inl, inr, append_assoc, append-nil, add-one, get_or}
use Rattle.std.proofs.Math.Seq.{drop-cons}
use Rattle.std.proofs.lemmas.List.Elements.{All-more}
use Rattle.std.proofs.lemmas.Option.{slice_get-get_or}
use Rattle.std.specs.Prelude.{Vec}
use Rattle.std.specs.declared.alloc.Global.{Global}
use Rattle.snap_report.specs.declared.fault.TraceFault.TheVariants as run
use Rattle.snap_runs.specs.declared.change.ChangesFault.{ChangesFault}
use Rattle.snap_runs.specs.declared.change.ChangesFault.TheVariants as fault
use Rattle.snap_runs.specs.Changing.{IsAhead, IsRising}
use Rattle.snap_runs.specs.ChangedFiles.{IsChangedTrace, WritesChanged}
use Rattle.snap_runs.specs.ChangeLines.{AreRising, IsBehind, changes_of}
use Rattle.snap_cli.specs.Changes.{HasLater, IsLater, IsReachedByChanges, IsReachedChange, LaterOf, RefusesLater, before, refusal_of_changes, said_changes}
use Rattle.snap_cli.specs.ChangesSteps.{GivesChanges, LoadsChanges, LoadsLater, LoadsLaters, MeetsChanges, ReadsChanges, afters, afters_of}
use Rattle.snap_cli.specs.Texts.{GivesText, RefusesBy}
use Rattle.snap_cli.proofs.Shared.{All, Appends, Bor, Change, ChangedTables, changes, ChangesOf, Command, Ending, ending_of_run, Ends, file_of, Files, IsRunEnding, IsText, IsTooLong, Later, Limit, MayPrecedeRead, Meets, NoMemory, Packets, Refusal, RunEnding, slice_get, Tables, TablesOf, trace}
use Rattle.snap_cli.proofs.RefusedBy.{by-map, meets-by}

-- ---- the changes file
read-refused : (text : List ℕ) (e : ChangesFault) → (e ≢ fault.NoMemory → changes_of text ≡ Err e) → ReadsChanges text (Err (refusal_of_changes e))
read-refused text fault.NoMemory h = tt
read-refused text e h = ap said_changes (h (λ x. absurd (cc)))

pub reads-told : (text : List ℕ) (e : ChangesFault) (r : Refusal) → r ≡ refusal_of_changes e → (e ≢ fault.NoMemory → changes_of text ≡ Err e) → ReadsChanges text (Err r)
reads-told text e r is h = subst (λ x. ReadsChanges text (Err x)) (sym is) (read-refused text e h)

pub gives-read : (name file : List ℕ) (r : Result (Vec Change Global) Refusal) → length file ≤ 1048576 → ReadsChanges file r → GivesChanges name file r
gives-read name file (Ok cs) short h = inr (short, sym (ap said_changes h))
gives-read name file (Err e) short h =
    by-map (λ failed. ⊥) (λ failed. failed ≡ name) (λ x. said_changes (changes_of file) ≡ Err x) (λ x. ChangesOf file (Err x)) (λ failed no. absurd no) (λ x is. inr (short, sym is)) e h

pub gives-none : (name file : List ℕ) (e : Refusal) → GivesText 1048576 name file (Err e) → GivesChanges name file (Err e)
gives-none name file e h =
    by-map (λ failed. failed ≡ name) (λ failed. failed ≡ name) (IsTooLong 1048576 file) (λ x. ChangesOf file (Err x)) (λ failed is. is) (λ x no. inl (no.0, ap (λ y. Err y) no.1)) e h

-- ---- tables of changes
before-then : (xs ys : List Later) (r : Result (List Later) Refusal) → before xs (before ys r) ≡ before (xs ++ ys) r
before-then xs ys (Ok zs) = ap Ok (sym (append_assoc xs ys zs))
before-then xs ys (Err e) = refl

-- the tables of these changes stand before those of the others
abbrev pub Extends : Files → Tables → (all others : List Change) → List Later → Type 0
Extends files first all others ls = (r : Result (List Later) Refusal) → LaterOf files first others r → LaterOf files first all (before ls r)

pub extends-more : (files : Files) (first : Tables) (all others : List Change) (c : Change) (ls : List Later) (l : Later) → Extends files first all (c ∷ others) ls → IsLater files first c l → Extends files first all others (ls ++ l ∷ [])
extends-more files first all others c ls l so is r h =
    subst (LaterOf files first all) (before-then ls (l ∷ []) r) (so (before (l ∷ []) r) (inr (l, is, (r, h, refl))))

pub extends-refused : (files : Files) (first : Tables) (all others : List Change) (c : Change) (ls : List Later) (e : Refusal) → Extends files first all (c ∷ others) ls → RefusesLater files first c e → LaterOf files first all (Err e)
extends-refused files first all others c ls e so why = so (Err e) (inl (e, why, refl))

-- ---- numbers of packets
rising-tail : (later : List Later) (cs : List Change) → afters later ≡ afters_of cs → AreRising cs → IsRising later
rising-tail [] cs same rise = tt
rising-tail (l ∷ ls) [] same rise = let e : ◌≡◌ {A = List ℕ} (l.after ∷ afters ls) [] = same in absurd (cc)
rising-tail (l ∷ ls) (c ∷ cs) same rise =
    let here : l.after ≡ c.after = cc in
    let others : afters ls ≡ afters_of cs = cc in
    (ahead ls cs others (subst (λ n. IsBehind n cs) (sym here) rise.0), rising-tail ls cs others rise.1)
  where
    ahead : (ls : List Later) (cs : List Change) → afters ls ≡ afters_of cs → IsBehind l.after cs → IsAhead ls l.after
    ahead [] cs same h = tt
    ahead (x ∷ xs) [] same h = let e : ◌≡◌ {A = List ℕ} (x.after ∷ afters xs) [] = same in absurd (cc)
    ahead (x ∷ xs) (y ∷ ys) same h = let e : x.after ≡ y.after = cc in subst (λ n. l.after < n) (sym e) h

pub rising-changes : (later : List Later) (cs : List Change) → afters later ≡ afters_of cs → AreRising cs → IsRising later
rising-changes later cs same rise = rising-tail later cs same rise

-- ---- the command
module _ (files : Files) (name : List ℕ) (packets : Bor (List ℕ)) (lines : List ℕ) (hops : Bool) (t : Tables) (spelled : TablesOf (file_of files name) (Ok t)) (old new : Option (List ℕ)) where
  abbrev command : Command
  command = trace name packets.now hops (changes lines)

  abbrev file : List ℕ
  file = file_of files packets.now

  -- nothing went out
  refused-so : (e : Refusal) → RefusesBy (IsReachedByChanges files t lines) (λ x. ChangedTables files t lines (Err x)) e → new ≡ old → Meets files command (Err e) old new
  refused-so e by same =
      subst (λ n. Meets files command (Err e) old n) (sym same)
      (meets-by files command old e (inl refl)
      (by-map (IsReachedByChanges files t lines) (λ failed. MayPrecedeRead files command failed []) (λ x. ChangedTables files t lines (Err x)) (λ x. Ends files command (Err x) × IsText files command [])
      (λ failed is. inr (t, spelled, inl (is, refl)))
      (λ x no. (inr (t, spelled, ([], inl (x, no, refl, refl))), inr (t, spelled, inl (x, no, refl)))) e by))

  module _ (later : List Later) (loaded : ChangedTables files t lines (Ok later)) where
    whole-run : (r : RunEnding) (e : Ending) → IsRunEnding r e → (text : List ℕ) × IsChangedTrace t later hops file r text × Appends old new text
        → Ends files command e × ((text : List ℕ) × IsText files command text × Appends old new text)
    whole-run r e is m = (inr (t, spelled, (m.0, inr (later, loaded, (r, m.1, is)))), (m.0, inr (t, spelled, inr (later, loaded, (r, m.1))), m.2))

    meets-run : (r : RunEnding) → WritesChanged t later hops file r old new → Meets files command (ending_of_run packets r) old new
    meets-run (Ok u) m = whole-run (Ok u) (Ok tt) refl m
    meets-run (Err run.Read) m = (m.0, inr (t, spelled, inr (refl, (later, loaded, m.1))), m.2)
    meets-run (Err run.NoMemory) m = (m.0, inr (t, spelled, inr (later, loaded, m.1)), m.2)
    meets-run (Err run.Write) (inl m) = inl (m.0, inr (t, spelled, inr (later, loaded, m.1)), m.2)
    meets-run (Err run.Write) (inr m) = inr (m.0, inr (t, spelled, inr (later, loaded, m.1)), m.2)
    meets-run (Err (run.Limit which count)) m = whole-run (Err (run.Limit which count)) (Err (Limit which count)) refl m
    meets-run (Err (run.Packets line)) m = whole-run (Err (run.Packets line)) (Err (Packets line)) refl m
    meets-run (Err (run.Undefined packet)) m = absurd m

  pub meets-changes : (e : Ending) → MeetsChanges files t hops packets lines e old new → Meets files command e old new
  meets-changes e (inl m) = subst (λ x. Meets files command x old new) (sym m.2) (refused-so m.0 m.1 m.3)
  meets-changes e (inr m) = subst (λ x. Meets files command x old new) (sym m.2.2) (meets-run m.0 m.1 m.2.0 m.2.1)

-- ---- all changes
-- these stand for the first changes, whose files spell them, before those of the others
abbrev pub Loaded : Files → Tables → (all : List Change) → (i : ℕ) → List Later → Type 0
Loaded files first all i ls = Extends files first all (drop i all) ls × All (HasLater files first) (take i all)

-- one more was read, after which the shelf tells the same files
pub told-more : (told now : Option Files) (first : Tables) (all : List Change) (i : ℕ) (c : Change) (ls : List Later) (l : Later) → now ≡ told → i < length all → c ≡ get_or all i c
    → IfSome told (λ files. Loaded files first all i ls) → IfSome now (λ files. LoadsLater files first c (Ok l)) → IfSome told (λ files. Loaded files first all (i + 1) (ls ++ l ∷ []))
told-more None now first all i c ls l same within is h m = tt
told-more (Some files) now first all i c ls l same within is h m =
    let rest : drop i all ≡ c ∷ drop (i + 1) all = drop-cons all i c within ∙ (λ j. sym is j ∷ drop (sym (add-one i) j) all) in
    let can : IsLater files first c l = subst (λ o. IfSome o (λ files. LoadsLater files first c (Ok l))) same m in (
      extends-more files first all (drop (i + 1) all) c ls l (subst (λ cs. Extends files first all cs ls) rest h.0) can,
      All-more (HasLater files first) all i c within h.1 (subst (HasLater files first) is (l, can)),
    )

-- or can't be
pub told-no_more : (told now : Option Files) (first : Tables) (all : List Change) (i : ℕ) (c : Change) (ls : List Later) (e : Refusal) → now ≡ told → i < length all → c ≡ get_or all i c
    → IfSome told (λ files. Loaded files first all i ls) → IfSome now (λ files. LoadsLater files first c (Err e))
    → IfSome told (λ files. RefusesBy (IsReachedChange files first all) (λ refusal. LaterOf files first all (Err refusal)) e)
told-no_more None now first all i c ls e same within is h m = tt
told-no_more (Some files) now first all i c ls e same within is h m =
    let rest : drop i all ≡ c ∷ drop (i + 1) all = drop-cons all i c within ∙ (λ j. sym is j ∷ drop (sym (add-one i) j) all) in
    let so = subst (λ cs. Extends files first all cs ls) rest h.0 in
    let there : slice_get all i ≡ Some c = slice_get-get_or all i c within ∙ ap Some (sym is) in
    by-map (λ failed. failed ≡ c.name) (IsReachedChange files first all) (RefusesLater files first c) (λ x. LaterOf files first all (Err x)) (λ failed name. (i, c, there, name, h.1))
    (λ x no. extends-refused files first all (drop (i + 1) all) c ls x so no) e (subst (λ o. IfSome o (λ files. LoadsLater files first c (Err e))) same m)

-- all were read
pub told-all : (told : Option Files) (first : Tables) (all : List Change) (i : ℕ) (ls : List Later) → drop i all ≡ [] → IfSome told (λ files. Loaded files first all i ls) → IfSome told (λ files. LaterOf files first all (Ok ls))
told-all None first all i ls none h = tt
told-all (Some files) first all i ls none h =
    subst (λ (x : List Later). LaterOf files first all (Ok x)) (append-nil ls) (subst (λ cs. Extends files first all cs ls) none h.0 (Ok []) refl)

-- ---- the changes of a file
pub loads-all : (files : Files) (first : Tables) (name : List ℕ) (cs : List Change) (r : Result (Vec Later Global) Refusal) → ChangesOf (file_of files name) (Ok cs) → LoadsLaters files first cs r → LoadsChanges files first name r
loads-all files first name cs (Ok later) said h = inr (cs, said, h)
loads-all files first name cs (Err e) said h =
    by-map (IsReachedChange files first cs) (IsReachedByChanges files first name) (λ x. LaterOf files first cs (Err x)) (λ x. ChangedTables files first name (Err x))
    (λ failed is. inr (cs, said, is)) (λ x why. inr (cs, said, why)) e h

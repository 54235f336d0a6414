-- A reader that reads on, at a shelf that may tell its files.
use Rattle.std.proofs.Common.{◌≡◌, ℕ, ◌+◌, ◌-◌, Bool, true, false, not, ◌&&◌, eqb, leb, ltb, Result, List, length, IsTrue, Option, Some, None, IfSome, take, drop, refl, sym, ap, subst, ◌∙◌, arith}
use Rattle.std.proofs.lemmas.Bool.{ltb-true, eqb-true, false_from_ne_true}
use Rattle.std.proofs.Math.Bool.{and-false}
use Rattle.snap_io.specs.declared.lines.Lines.{Lines}
use Rattle.snap_io.specs.declared.lines.LinesFault.{LinesFault}
use Rattle.snap_io.specs.Files.{Files, file_of}
use Rattle.snap_io.specs.Held.{GrowsBy}
use Rattle.snap_io.specs.Lines.{Next, before_lf, many_bytes, next_in}
use Rattle.snap_io.specs.LineReaders.{lines_name, lines_limit, lines_most, lines_given, lines_held, HoldsLine, is_open, OnlyReads, Agrees, AgreesWith, AnswersNext, next_of}
use Rattle.snap_io.proofs.LinesLemmas.{before_lf-Contains}
use Rattle.snap_io.proofs.HeldLemmas.{length-held_bytes}
use Rattle.snap_io.proofs.NextLemmas.{next_in-many, AreAt-more, open_parts}

-- the limit was reached, and the file goes on
pub many_told : (X : Type 0) (told : Option Files) (lines : Lines) (shown : List ℕ) (at : ℕ) (more : Bool)
    → AgreesWith told lines → IfSome told (λ files. more ≡ ltb at (length (file_of files shown))) → shown ≡ lines_name lines → more ≡ true
    → is_open lines ≡ true → at ≡ lines_given lines + length (lines_held lines) → lines_limit lines - at ≡ 0
    → IfSome told (λ files. X → next_of lines files ≡ many_bytes)
many_told X None lines shown at more agrees byte name met must place none = tt
many_told X (Some files) lines shown at more agrees byte name met must place none = λ _.
    let held = lines_held lines in
    let parts = open_parts lines.ended (before_lf held) (length held) (lines_most lines) must in
    let full : lines_given lines + length held ≡ lines_limit lines = omega (arith, lines.within, length-held_bytes lines.held) in
    next_in-many (lines_limit lines) (lines_most lines) (file_of files (lines_name lines)) (lines_given lines) held agrees.agrees.held full parts.0 parts.1
    (omega (arith, ltb-true at _ (sym byte ∙ met), ap (λ n. length (file_of files n)) name))

-- bytes were read, or the file's end was met
pub AgreesWith-more : (told now : Option Files) (old new : Lines) (shown : List ℕ) (at count : ℕ)
    → now ≡ told → AgreesWith told old → IfSome told (λ files. GrowsBy (file_of files shown) at count (lines_held old) (lines_held new)) → shown ≡ lines_name old → lines_name new ≡ lines_name old
    → at ≡ lines_given old + length (lines_held old) → lines_given new ≡ lines_given old → length (lines_held new) ≡ length (lines_held old) + count → (IsTrue new.ended → count ≡ 0) → AgreesWith now new
AgreesWith-more None now old new shown at count same agrees grows name kept place given len ended = subst (λ (o : Option Files). AgreesWith o new) (sym same) (record { agrees = tt })
AgreesWith-more (Some files) now old new shown at count same agrees grows name kept place given len ended =
    let file = file_of files (lines_name new) in
    let named : file_of files shown ≡ file = ap (file_of files) (name ∙ sym kept) in
    let was : file_of files (lines_name old) ≡ file = ap (file_of files) (sym kept) in
    let extends_arena : GrowsBy file at count (lines_held old) (lines_held new) = subst (λ (f : List ℕ). GrowsBy f at count (lines_held old) (lines_held new)) named grows in
    let had : Agrees old file = subst (Agrees old) was agrees.agrees in
    let fits = AreAt-more file (lines_given old) at count (lines_held old) (lines_held new) had.held place len extends_arena in
    let here : Agrees new file = record {
      held = fits ∙ ap (λ n. take (length (lines_held new)) (drop n file)) (sym given);
      ended = λ end. omega (arith, extends_arena.ended (ended end), ended end);
    } in
    subst (λ (o : Option Files). AgreesWith o new) (sym same) (record { agrees = here })

-- with an LF held there is nothing to read
pub is_open-HoldsLine : (lines : Lines) → HoldsLine lines → is_open lines ≡ false
is_open-HoldsLine lines has =
    let held = lines_held lines in
    let less = before_lf-Contains held has in
    let apart : eqb (before_lf held) (length held) ≡ false = false_from_ne_true _ (λ same. absurd (omega (arith, eqb-true _ _ same))) in
    ap (λ t. not lines.ended && (t && leb (length held) (lines_most lines))) apart ∙ and-false (not lines.ended)

-- after the reads of a call, if it made any, the next line is known
pub record IsReady (told now : Option Files) (old ready : Lines) : Type 0 where
  pub reads : OnlyReads old ready
  pub agrees : AgreesWith now ready
  pub same : now ≡ told
  pub settled : is_open ready ≡ false

pub IsReady-held : (told now : Option Files) (old ready : Lines) → ready ≡ old → now ≡ told → AgreesWith told old → HoldsLine old → IsReady told now old ready
IsReady-held told now old ready is same agrees has = record {
  reads = subst (OnlyReads old) (sym is) (record { name = refl; limit = refl; most = refl; given = refl; line = refl });
  agrees = subst (λ (o : Option Files). AgreesWith o ready) (sym same) (subst (AgreesWith told) (sym is) agrees);
  same = same;
  settled = ap is_open is ∙ is_open-HoldsLine old has;
}

pub AnswersNext-ready : (told now : Option Files) (old ready new : Lines) (result : Result Bool LinesFault) → IsReady told now old ready
    → ((file : List ℕ) → Agrees ready file → AnswersNext (next_in (lines_limit ready) (lines_most ready) file (lines_given ready)) new result) → IfSome told (λ files. AnswersNext (next_of old files) new result)
AnswersNext-ready None now old ready new result is gives = tt
AnswersNext-ready (Some files) now old ready new result is gives =
    let agrees = subst (λ (o : Option Files). AgreesWith o ready) is.same is.agrees in
    let reads = is.reads in
    let next : next_in (lines_limit ready) (lines_most ready) (file_of files (lines_name ready)) (lines_given ready) ≡ next_of old files = λ i. next_in (reads.limit i) (reads.most i) (file_of files (reads.name i)) (reads.given i) in
    subst (λ (n : Next). AnswersNext n new result) next (gives (file_of files (lines_name ready)) agrees.agrees)

pub AgreesWith-kept : (told : Option Files) (old new : Lines) → lines_name new ≡ lines_name old → AgreesWith told old → ((file : List ℕ) → Agrees old file → Agrees new file) → AgreesWith told new
AgreesWith-kept None old new name agrees keeps = record { agrees = tt }
AgreesWith-kept (Some files) old new name agrees keeps = record { agrees = subst (λ (n : List ℕ). Agrees new (file_of files n)) (sym name) (keeps (file_of files (lines_name old)) agrees.agrees) }

pub IsReady-read : (told then now : Option Files) (old read ready : Lines) → ready ≡ read → now ≡ then → OnlyReads old read → AgreesWith then read → then ≡ told → is_open read ≡ false → IsReady told now old ready
IsReady-read told then now old read ready is same reads agrees kept settled = record {
  reads = subst (OnlyReads old) (sym is) reads;
  agrees = subst (λ (o : Option Files). AgreesWith o ready) (sym same) (subst (AgreesWith then) (sym is) agrees);
  same = same ∙ kept;
  settled = ap is_open is ∙ settled;
}

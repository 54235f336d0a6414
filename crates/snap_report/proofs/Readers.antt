-- What a reader of packets' lines gives, and what is left of a file behind each of its lines.
use Rattle.std.proofs.Common.{◌≡◌, ℕ, zero, suc, ◌+◌, ◌-◌, ◌<◌, ◌≤◌, Bool, true, false, List, Option, Some, None, Result, Ok, Err, refl, sym, ap, subst, ◌∙◌, arith, ⊎_elim, inl, inr}
use Rattle.std.specs.Prelude.{IfOk, ◌==◌, if◌then◌else◌}
use Rattle.std.proofs.lemmas.Bool.{cases_lt, eqb-true, eq-eqb, false≢true}
use Rattle.snap_core.specs.declared.program.Field.{Field}
use Rattle.snap_core.specs.declared.program.Which.TheVariants.{Bytes, Lines as ManyLines}
use Rattle.snap_io.specs.declared.lines.Lines.{Lines}
use Rattle.snap_io.specs.declared.lines.LinesFault.{LinesFault}
use Rattle.snap_io.specs.declared.lines.LinesFault.TheVariants.{Failed, LongLine, ManyBytes}
use Rattle.snap_io.specs.LineReaders.{AnswersNext, lines_given, lines_line}
use Rattle.snap_io.specs.Lines.{Next, next_line, no_line, long_line, many_bytes, next_in}
use Rattle.snap_report.specs.declared.fault.TraceFault.{TraceFault}
use Rattle.snap_report.specs.declared.fault.TraceFault.TheVariants.{Read, Write, Limit, Packets, Undefined, NoMemory}
use Rattle.snap_report.specs.declared.line.Line.{Line}
use Rattle.snap_report.specs.declared.line.Line.TheVariants.{Skip, Inject}
use Rattle.snap_report.specs.declared.packets.PacketLines.{PacketLines}
use Rattle.snap_report.specs.PacketLines.{Said, bad, said_by}
use Rattle.snap_report.specs.Reading.{EndsAt, GivesNext, GoesOn, IsUnfit, LeavesLine, ReadsNext, RefusesNext, SaysNext, StopsNext, left_for, left_where, next_for, packet_in, refused_behind, said_of, said_where, spelled_where, where_accepted}
use Rattle.snap_report.specs.Refusals.{refusal_of, refusal_past_last}
use Rattle.snap_report.specs.Shown.{Says}
use Rattle.snap_report.specs.Spelled.{Spelled, after_last, counted, ended, refused, spelled_behind, spelled_from, stops, text_of, with_next, with_said}

-- ---- what the next line is
-- a line behind the last that may come
pub read-many : (read : ℕ) (next : Next) (new : PacketLines) (lines : Lines) → read ≡ 1000000 → AnswersNext next lines (Ok true) → (e : TraceFault) → e ≡ Limit ManyLines 1000001 → ReadsNext read next new (Err e)
read-many read next new lines all is e same = subst (λ e. ReadsNext read next new (Err e)) (sym same) (inl (all, ap after_last is))

-- what the reader of lines refuses
pub read-fault : (read : ℕ) (next : Next) (new : PacketLines) (lines : Lines) (fault : LinesFault) → read ≤ 1000000 → AnswersNext next lines (Err fault) → (e : TraceFault) → e ≡ refused_behind read fault → ReadsNext read next new (Err e)
read-fault read next new lines fault few answers e same = subst (λ e. ReadsNext read next new (Err e)) (sym same) (by fault (read == 1000000) refl answers)
  where
    all : (read == 1000000) ≡ true → read ≡ 1000000
    all e = eqb-true read 1000000 e

    some : (read == 1000000) ≡ false → read < 1000000
    some e = ⊎_elim (λ more. more) (λ past. absurd (false≢true (sym e ∙ eq-eqb read 1000000 (let h : 1000000 ≤ read = past in omega (arith, h, few))))) (cases_lt read 1000000)

    by : (f : LinesFault) (b : Bool) → (read == 1000000) ≡ b → AnswersNext next lines (Err f) → ReadsNext read next new (Err (if b then refusal_past_last f else refusal_of f (read + 1)))
    by Failed true e is = tt
    by Failed false e is = tt
    by LongLine true e is = inl (all e, ap after_last is)
    by LongLine false e is = inr (some e, subst (λ n. IsUnfit (read + 1) n (Packets (read + 1))) (sym is) refl)
    by ManyBytes true e is = inl (all e, ap after_last is)
    by ManyBytes false e is = inr (some e, subst (λ n. IsUnfit (read + 1) n (Limit Bytes 67108865)) (sym is) refl)

-- ---- what a line that was read says
said-given : (said : Said) (packet : List ℕ) (line : Line) → Says said packet (Some line) → said ≡ said_of packet line
said-given said packet Skip h = h
said-given said packet (Inject port) h = h.0

-- the line that was read says what is given
pub gives-said : (fields : List Field) (read : ℕ) (next : Next) (new : PacketLines) (text : List ℕ) (line : Line) → text ≡ lines_line new.lines → ReadsNext read next new (Ok true) → Says (said_by fields text) (packet_in new) (Some line) → GivesNext fields read next new (Ok (Some line))
gives-said fields read next new text line e reads says = (reads.0, (text, reads.1 ∙ ap (λ x. next_line x (lines_given new.lines)) (sym e), said-given (said_by fields text) (packet_in new) line says))

-- or nothing in form
pub gives-bad : (fields : List Field) (read : ℕ) (next : Next) (new : PacketLines) (text : List ℕ) → text ≡ lines_line new.lines → new.read ≡ read + 1 → ReadsNext read next new (Ok true) → said_by fields text ≡ bad → GivesNext fields read next new (Err (Packets new.read))
gives-bad fields read next new text e more reads is = inr (ap Packets more, (reads.0, (text, reads.1 ∙ ap (λ x. next_line x (lines_given new.lines)) (sym e), is)))

pub gives-fault : (fields : List Field) (read : ℕ) (next : Next) (new : PacketLines) (fault : TraceFault) → RefusesNext read next fault → GivesNext fields read next new (Err fault)
gives-fault fields read next new Read h = tt
gives-fault fields read next new NoMemory h = h
gives-fault fields read next new (Limit which count) h = inl h
gives-fault fields read next new (Packets line) h = inl h
gives-fault fields read next new Write h = h
gives-fault fields read next new (Undefined packet) h = h

-- ---- what is left behind one line
spelled_behind-next : (said : ℕ → List ℕ → Said) (file : List ℕ) (left line at before : ℕ) → 0 < left
    → spelled_behind said file left line at before ≡ with_next (said before) line (next_in 67108864 65536 file at) (λ behind. spelled_behind said file (left - 1) (line + 1) behind (counted (said before (text_of (next_in 67108864 65536 file at))) before))
unfolding spelled_behind
spelled_behind-next said file zero line at before some = absurd (omega arith)
spelled_behind-next said file (suc n) line at before some =
    let less : n ≡ suc n - 1 = omega arith in
    ap (λ k. with_next (said before) line (next_in 67108864 65536 file at) (λ behind. spelled_behind said file k (line + 1) behind (counted (said before (text_of (next_in 67108864 65536 file at))) before))) less

spelled_behind-last : (said : ℕ → List ℕ → Said) (file : List ℕ) (left line at before : ℕ) → left ≡ 0 → spelled_behind said file left line at before ≡ after_last (next_in 67108864 65536 file at)
unfolding spelled_behind
spelled_behind-last said file left line at before none = ap (λ k. spelled_behind said file k line at before) none

module _ (fields : List Field) (accepts : ℕ → List ℕ → Bool) (file : List ℕ) (before read at : ℕ) where
  next_left : (next : Next) → read < 1000000 → next_in 67108864 65536 file at ≡ next
      → left_where fields accepts file before read at ≡ with_next (said_where fields accepts before) (read + 1) next (λ behind. left_where fields accepts file (counted (said_where fields accepts before (text_of next)) before) (read + 1) behind)
  next_left next more is =
      let less : 1000000 - read - 1 ≡ 1000000 - (read + 1) = omega arith in
      let some : 0 < 1000000 - read = omega arith in
      spelled_behind-next (said_where fields accepts) file (1000000 - read) (read + 1) at before some
      ∙ (λ i. with_next (said_where fields accepts before) (read + 1) (is i) (λ behind. spelled_behind (said_where fields accepts) file (less i) (read + 1 + 1) behind (counted (said_where fields accepts before (text_of (is i))) before)))

  last_left : (next : Next) → read ≡ 1000000 → next_in 67108864 65536 file at ≡ next → left_where fields accepts file before read at ≡ after_last next
  last_left next all is =
      let none : 1000000 - read ≡ 0 = omega arith in
      spelled_behind-last (said_where fields accepts) file (1000000 - read) (read + 1) at before none ∙ ap after_last is

  none_left : read ≤ 1000000 → next_in 67108864 65536 file at ≡ no_line → left_where fields accepts file before read at ≡ stops ended
  none_left few is = ⊎_elim (λ more. next_left no_line more is) (λ past. last_left no_line (let h : 1000000 ≤ read = past in omega (arith, h, few)) is) (cases_lt read 1000000)

  unfit_left : (next : Next) (fault : TraceFault) → read < 1000000 → next_in 67108864 65536 file at ≡ next → IsUnfit (read + 1) next fault → left_where fields accepts file before read at ≡ stops (refused fault)
  unfit_left (next_line text behind) fault more is unfit = absurd unfit
  unfit_left no_line fault more is unfit = absurd unfit
  unfit_left long_line fault more is unfit = next_left long_line more is ∙ ap (λ f. stops (refused f)) (sym unfit)
  unfit_left many_bytes fault more is unfit = next_left many_bytes more is ∙ ap (λ f. stops (refused f)) (sym unfit)

  ends_left : (fault : TraceFault) → EndsAt read (next_in 67108864 65536 file at) fault → left_where fields accepts file before read at ≡ stops (refused fault)
  ends_left fault (inl h) = last_left (next_in 67108864 65536 file at) h.0 refl ∙ h.1
  ends_left fault (inr h) = unfit_left (next_in 67108864 65536 file at) fault h.0 refl h.1

-- ---- for a reader
module _ (fields : List Field) (accepts : ℕ → List ℕ → Bool) (file : List ℕ) (before : ℕ) (old new : PacketLines) where
  said_first : (x : Said) → SaysNext fields old.read (next_for file old) new x
      → left_for fields accepts file old before ≡ with_said (old.read + 1) (where_accepted (accepts before) x) (left_where fields accepts file (counted (where_accepted (accepts before) x) before) (old.read + 1) (lines_given new.lines))
  said_first x h =
      next_left fields accepts file before old.read (lines_given old.lines) (next_line h.1.0 (lines_given new.lines)) h.0 h.1.1
      ∙ ap (λ y. with_said (old.read + 1) (where_accepted (accepts before) y) (left_where fields accepts file (counted (where_accepted (accepts before) y) before) (old.read + 1) (lines_given new.lines))) h.1.2

  stops_here : (fault : TraceFault) → StopsNext fields old.read (next_for file old) new fault → left_for fields accepts file old before ≡ stops (refused fault)
  stops_here fault (inl h) = ends_left fields accepts file before old.read (lines_given old.lines) fault h
  stops_here fault (inr h) = said_first bad h.1 ∙ ap (λ f. stops (refused f)) (sym h.0)

  pub leaves_by : old.read ≤ 1000000 → (r : Result (Option Line) TraceFault) → IfOk r (GoesOn old.read new.read) → GivesNext fields old.read (next_for file old) new r → LeavesLine fields accepts before file old new r
  leaves_by few (Ok (Some line)) on h =
      said_first (said_of (packet_in new) line) h
      ∙ ap (λ n. with_said n (where_accepted (accepts before) (said_of (packet_in new) line)) (left_where fields accepts file (counted (where_accepted (accepts before) (said_of (packet_in new) line)) before) n (lines_given new.lines))) (sym on.0)
  leaves_by few (Ok None) on h = none_left fields accepts file before old.read (lines_given old.lines) few h
  leaves_by few (Err Read) on h = tt
  leaves_by few (Err NoMemory) on h = h
  leaves_by few (Err (Limit which count)) on h = stops_here (Limit which count) h
  leaves_by few (Err (Packets line)) on h = stops_here (Packets line) h
  leaves_by few (Err Write) on h = h
  leaves_by few (Err (Undefined packet)) on h = h

-- before the first line all is left
pub left-first : (fields : List Field) (accepts : ℕ → List ℕ → Bool) (file : List ℕ) (reader : PacketLines) → reader.read ≡ 0 → lines_given reader.lines ≡ 0
    → spelled_where fields accepts file ≡ left_for fields accepts file reader 0
left-first fields accepts file reader r g = λ i. spelled_behind (said_where fields accepts) file (1000000 - sym r i) (sym r i + 1) (sym g i) 0

-- what a line says doesn't depend on the packets before it
pub spelled_behind-const : (said : List ℕ → Said) (file : List ℕ) (left line at before : ℕ) → spelled_behind (λ n. said) file left line at before ≡ spelled_from said file left line at
unfolding spelled_behind spelled_from
spelled_behind-const said file zero line at before = refl
spelled_behind-const said file (suc left) line at before =
    by (next_in 67108864 65536 file at)
    (λ behind. spelled_behind (λ n. said) file left (line + 1) behind (counted (said (text_of (next_in 67108864 65536 file at))) before)) (λ behind. spelled_from said file left (line + 1) behind)
    (λ behind. spelled_behind-const said file left (line + 1) behind (counted (said (text_of (next_in 67108864 65536 file at))) before))
  where
    by : (next : Next) (a b : ℕ → Spelled) → ((behind : ℕ) → a behind ≡ b behind) → with_next said line next a ≡ with_next said line next b
    by next a b same = ap (with_next said line next) (λ i behind. same behind i)

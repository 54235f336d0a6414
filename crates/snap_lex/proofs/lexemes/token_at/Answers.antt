use Rattle.std.proofs.Common.{sym, refl}
use Rattle.std.proofs.lemmas.Bool.{false≢true}
use Rattle.snap_lex.specs.Lexemes.{a_key, a_name, a_number, an_address, a_sign}
use Rattle.snap_lex.proofs.Forms.{longest_word, longest_figure, longest_sign, no_form, sign_some, sign_within}
use Rattle.snap_lex.proofs.lexemes.token_at.Goals as goal

pub returns-in-Some : goal.returns-in-Some
returns-in-Some c =
    let w = c.word_len-n.ensures in
    (a_key c.in-Some.key w.word c.in-Some.ensures, longest_word c.args.bytes.now c.word_len-n.result w.word w.longest, w.word.some, w.word.within)

pub returns-in-None : goal.returns-in-None
returns-in-None c =
    let w = c.word_len-n.ensures in
    (a_name w.word c.in-None.ensures, longest_word c.args.bytes.now c.word_len-n.result w.word w.longest, w.word.some, w.word.within)

pub returns-then-are_digits : goal.returns-then-are_digits
returns-then-are_digits c =
    let f = c.figure_len-n.ensures in
    (a_number f.figure (c.if-are_digits.ensures.0 refl), longest_figure c.args.bytes.now c.figure_len-n.result f.figure f.longest, f.figure.some, f.figure.within)

pub returns-then-is_address : goal.returns-then-is_address
returns-then-is_address c =
    let f = c.figure_len-n.ensures in
    (an_address f.figure (c.if-is_address.ensures.0 refl), longest_figure c.args.bytes.now c.figure_len-n.result f.figure f.longest, f.figure.some, f.figure.within)

pub returns-else-is_address : goal.returns-else-is_address
returns-else-is_address c =
    let f = c.figure_len-n.ensures in
    (refl, record { size = c.figure_len-n.result; figure = f.figure; longest = longest_figure c.args.bytes.now c.figure_len-n.result f.figure f.longest; no_number = λ d. false≢true (c.if-are_digits.ensures.1 d); no_address = λ d. false≢true (c.if-is_address.ensures.1 d) })

pub returns-in-Some-sign_at : goal.returns-in-Some-sign_at
returns-in-Some-sign_at c =
    let s = c.in-Some-sign_at.ensures in (
      a_sign c.in-Some-sign_at.sign s.0,
      longest_sign c.args.bytes.now c.in-Some-sign_at.n (sym c.if-is_letter.ensures) (sym c.if-is_digit.ensures) s.1,
      sign_some c.in-Some-sign_at.sign c.args.bytes.now c.in-Some-sign_at.n s.0,
      sign_within c.in-Some-sign_at.sign c.args.bytes.now c.in-Some-sign_at.n s.0,
    )

pub returns-in-None-sign_at : goal.returns-in-None-sign_at
returns-in-None-sign_at c = (
  refl,
  record {
    some = c.requires.some;
    no_blank = c.requires.no_blank;
    no_comment = c.requires.no_comment;
    no_form = no_form c.args.bytes.now (sym c.if-is_letter.ensures) (sym c.if-is_digit.ensures) c.in-None-sign_at.ensures;
  },
)

use Rattle.std.proofs.Common.{◌≡◌, Some, sym, ap, subst, ◌∙◌}
use Rattle.std.proofs.lemmas.Slice.Eq.{bytes_eq-Decides}
use Rattle.snap_core.specs.Figures.{parts_by}
use Rattle.snap_tables.specs.Known.{IsSaidAt}
use Rattle.snap_tables.specs.Reading.{is_space, words_left}
use Rattle.snap_tables.proofs.known.Known.shared.Goals as goal

pub returns-then-is_text : goal.returns-then-is_text
returns-then-is_text c =
    let row = c.in_ok-row.row.now in
    let same : row.text.now ≡ c.in_ok-text.text.now = (bytes_eq-Decides row.text.now c.in_ok-text.text.now).0 (sym c.is_text.ensures ∙ c.if-is_text.true) in
    let words : words_left (Some row.text) ≡ words_left c.args.rest = ap (parts_by is_space) same ∙ ap words_left (sym c.in_ok-text.was) in
    λ v k ranked rows all. subst (λ ws. IsSaidAt v k ranked rows ws row.place) words (c.in_ok-row.ensures v k ranked rows all)

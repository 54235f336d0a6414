use Rattle.std.proofs.Common.{◌≡◌, ◌∙◌, ap, sym, subst, true, List, ◌∷◌}
use Rattle.snap_words.specs.Said.{lent, said, said_among}
use Rattle.snap_words.specs.Words.{Text}
use Rattle.snap_words.proofs.Among.{told_by-among}
use Rattle.snap_words.proofs.calls.command.Goals as goal

pub command_for-requires : goal.command_for-requires
command_for-requires c =
    let t = said c.in_ok-told.told in
    let among = told_by-among c.in-Some.first.now.now (lent c.in-Some.rest.now) t c.in_ok-told.ensures.ok in
    let all : lent c.in_ok-texts.texts.items ≡ c.in-Some.first.now.now ∷ lent c.in-Some.rest.now = ap lent (sym c.as_slice.ensures.value ∙ c.in-Some.ensures.cases.0) in
    let P : List Text → Type 0 = λ ws. said_among ws t ≡ true in
    subst P (sym all ∙ c.in_ok-texts.ensures.same) among

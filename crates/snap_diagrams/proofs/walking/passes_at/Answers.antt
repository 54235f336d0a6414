-- The place's number against the term's.
use Rattle.std.proofs.Common.{refl, sym}
use Rattle.snap_diagrams.proofs.walking.passes_at.Goals as goal

pub returns-in-State : goal.returns-in-State
returns-in-State c =
    let h = c.get-in-State.ensures in let f = c.fill.ensures.numbers in let l = c.items-index.ensures in
    rw (c.in-State.is, c.value.ensures, h, sym l, f) refl

use Rattle.std.proofs.Common.{◌≡◌, [], ◌∷◌, ◌++◌, drop, ap, ◌∙◌, arith, append-nil, codes}
use Rattle.std.proofs.lemmas.List.{drop_all}
use Rattle.hex.specs.Hex.{encode_lower}
use Rattle.snap_runs.specs.Reports.{lead_of}
use Rattle.snap_runs.specs.Crossings.{digits_of}
use Rattle.snap_runs.proofs.links.Tail.spell.Goals as goal

pub returns-in-Some : goal.returns-in-Some
returns-in-Some c =
    let digits = digits_of c.args.frames c.args.number c.args.head c.args.packet.now in
    let none : drop 256 c.args.self.now.buffer ≡ [] = drop_all 256 c.args.self.now.buffer (omega arith) in
    let line = c.in-Some.ensures.text ∙ ap (λ l. digits ++ l) (c.put_byte_before-end.ensures.text ∙ ap (λ l. 10 ∷ l) none) in
    (λ i. line i ++ c.clear.ensures.items i) ∙ append-nil (digits ++ 10 ∷ [])

pub returns-in_ok-self-in-None : goal.returns-in_ok-self-in-None
returns-in_ok-self-in-None c =
    let none : drop 256 c.put_digits_before.new.buffer ≡ [] = drop_all 256 c.put_digits_before.new.buffer (omega (arith, c.put_digits_before.ensures.long)) in
    (λ i. none i ++ c.in_ok-self-in-None.field-0.items) ∙ c.in_ok-self-in-None.ensures
    ∙ ap (λ l. encode_lower (lead_of c.args.frames c.args.number ++ l) ++ codes "\n") (c.deref.ensures.value ∙ c.in_ok-frame-in-None.ensures)

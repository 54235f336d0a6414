use Rattle.std.proofs.Common.{◌≡◌, [], ◌∷◌, sym, ap, subst, ◌∙◌}
use Rattle.std.proofs.lemmas.Option.{same_Some}
use Rattle.snap_rows.specs.Entries.{next}
use Rattle.snap_net.specs.declared.flying.Flying.{Flying}
use Rattle.snap_net.specs.declared.happened.Moved.TheVariants.{Forwarded}
use Rattle.snap_net.specs.Flights.{spliced}
use Rattle.snap_net.proofs.moves.seek.Goals as goal

pub returns : goal.returns
returns c = λ x is.
    let t = c.args.tables.now in
    let same = same_Some x c.get.result.now (sym is ∙ c.get.ensures) in
    let to : c.next-to.result ≡ next t x.at c.args.target = c.next-to.ensures ∙ ap (λ (y : Flying). next t y.at c.args.target) (sym same) in
    subst (λ w. (c.forward.new.flying ≡ spliced c.args.flying.now c.args.k 1 (record x { at = w; head = c.args.head } ∷ [])) × (c.forward.result ≡ Forwarded x.number x.at w)) to (c.forward.ensures x is)

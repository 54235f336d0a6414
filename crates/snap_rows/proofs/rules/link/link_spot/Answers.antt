use Rattle.std.proofs.Common.{◌≡◌, ◌⊎◌, ◌<◌, ◌≤◌, ℕ, List, length, get_or, ap, subst, ◌∙◌, arith, below_more}
use Rattle.std.specs.Prelude.{Contains}
use Rattle.std.proofs.lemmas.List.{get_or_default}
use Rattle.snap_rows.specs.declared.tables.Hop.{Hop}
use Rattle.snap_rows.specs.declared.tables.Rule.TheVariants.{Link}
use Rattle.snap_rows.specs.declared.tables.Spot.TheVariants as spot
use Rattle.snap_rows.specs.Rules.{Keeps, HopKeeps, IsLinked}
use Rattle.snap_rows.proofs.Spots.{at_some, hops_all}
use Rattle.snap_rows.proofs.rules.link.link_spot.Goals as goal

abbrev none : Hop
none = record { from = 0; target = 0; next = 0 }

pub loop-at-preserved : goal.loop-at-preserved
loop-at-preserved c =
    let t = c.args.tables.now in
    let hs = c.items-hop-items.result.now in
    let n = c.loop-at.at in
    let h = get_or hs n none in
    let within : n < length t.hops = subst (λ (l : List Hop). n < length l) c.loop-at.invariant.items c.loop-at-test.true in
    let is : h ≡ get_or t.hops n h = ap (λ (l : List Hop). get_or l n none) c.loop-at.invariant.items ∙ get_or_default t.hops n none h within in
    let linked : IsLinked t h.from h.next = subst (λ (ls : List (ℕ × ℕ)). Contains ls (h.from, h.next) ⊎ Contains ls (h.next, h.from)) c.items.ensures (c.linked_as.ensures.0 c.if-not-linked_as.false) in
    record {
      kept = below_more (λ i. Keeps t Link (spot.Hop i)) n c.loop-at.invariant.kept (at_some (HopKeeps t Link) t.hops n h is within linked);
      items = c.loop-at.invariant.items;
      known = linked;
    }

pub returns : goal.returns
returns c =
    let t = c.args.tables.now in
    let past : length t.hops ≤ c.loop-at.at = subst (λ (l : List Hop). length l ≤ c.loop-at.at) c.loop-at.invariant.items c.loop-at-test.false in
    hops_all t Link (record { port = λ p. tt; row = λ r. tt; array = λ i a. tt }) (λ i below. c.loop-at.invariant.kept i (omega arith))

use Rattle.std.proofs.Common.{rules, ◌≡◌, ◌≢◌, ◌<◌, ◌+◌, IsSome, Some, true, length, sym, ap, subst, ◌∙◌, arith}
use Rattle.std.specs.List.{All}
use Rattle.std.specs.Prelude.{is_some}
use Rattle.std.proofs.lemmas.List.Elements.{All-nil}
use Rattle.snap_core.specs.declared.policy.Update.{Update}
use Rattle.snap_core.specs.Arrays.{updates}
use Rattle.snap_core.specs.Cells.{arrays_of}
use Rattle.snap_core.specs.Fits.{UpdateReads}
use Rattle.snap_rows.specs.Entries.{rank_of, ranks, row_at}
use Rattle.snap_rows.specs.Stepping.{Visiting, none}
use Rattle.snap_rows.proofs.Seen.{last_here, after_visit}
use Rattle.snap_rows.proofs.Later.{rank_small}
use Rattle.std.proofs.lemmas.Option.{same_Some}
use Rattle.snap_rows.proofs.Plans.{append_fits, no_updates}
use Rattle.snap_rows.proofs.Stepping.{visiting_on}
use Rattle.snap_rows.proofs.plan.visits.Goals as goal

pub loop-owner-init : goal.loop-owner-init
loop-owner-init g c =
    let t = c.args.tables.now in
    let k = c.args.packet.now in
    let m = arrays_of c.args.store.now in record {
      home = c.requires.home.1;
      owner = c.owner_of_rank-owner.ensures;
      known = c.requires.known;
      below = subst (All (λ (u : Update). rank_of t u.var < c.args.rank)) (sym c.requires.none) (All-nil (λ (u : Update). rank_of t u.var < c.args.rank));
      reads = subst (All (UpdateReads (length k))) (sym c.requires.none) (no_updates (length k));
      first = omega arith;
      made = subst (λ us. Visiting t c.args.at k (g.A.Admit.admits c.args.admit.now) m c.args.rank c.args.node (updates m us k) c.args.rank c.args.node) (sym c.requires.none) none;
    }

pub overflow_add-due : goal.overflow_add-due
overflow_add-due g c =
    let home = c.loop-owner.invariant.home in
    let small : c.loop-owner.due < 64 = rank_small c.args.tables.now c.tables-known.ensures.form c.loop-owner.due home.owner home.rank in
    omega arith

pub row_of-first-requires-clause-row : goal.row_of-first-requires-clause-row
row_of-first-requires-clause-row g c =
    let home = c.loop-owner.invariant.home in
    let owner : home.owner ≡ c.args.at = same_Some _ _ (sym home.rank ∙ c.loop-owner.invariant.owner) ∙ c.loop-owner-test.true in
    subst (λ w. IsSome (row_at c.args.tables.now w c.loop-owner.number)) owner (ap is_some home.row)

pub last_outs-outs-requires : goal.last_outs-outs-requires
last_outs-outs-requires g c =
    let t = c.args.tables.now in
    let home = c.loop-owner.invariant.home in
    let owner : home.owner ≡ c.args.at = same_Some _ _ (sym home.rank ∙ c.loop-owner.invariant.owner) ∙ c.loop-owner-test.true in
    let last = last_here t c.tables-known.ensures.valid c.tables-known.ensures.form c.requires.home.0 c.args.at c.args.packet.now (arrays_of c.args.store.now) c.loop-owner.due c.loop-owner.number c.in_ok-next.next _ home owner c.in_ok-next.ensures.visit.1 (c.if-due-ranks.true ∙ c.ranks.ensures) in
    (last.0, last.1, same_Some _ _ (sym c.in_ok-next.ensures.row ∙ last.2))

pub returns-then-due-ranks : goal.returns-then-due-ranks
returns-then-due-ranks g c =
    let t = c.args.tables.now in
    let k = c.args.packet.now in
    let m = arrays_of c.args.store.now in
    let loop = c.loop-owner.invariant in
    let may : g.A.Admit.admits c.args.admit.now c.loop-owner.due ≡ true = first_of (search rules, cc) in
    let owner : loop.home.owner ≡ c.args.at = same_Some _ _ (sym loop.home.rank ∙ loop.owner) ∙ c.loop-owner-test.true in
    let first = loop.first in
    record {
      visited = record {
        last = c.loop-owner.due + 1;
        number = c.in_ok-next.next;
        made = visiting_on t c.tables-known.ensures.valid c.tables-known.ensures.form c.requires.home.0 c.args.at k m c.loop-owner.due c.loop-owner.number c.in_ok-next.next c.loop-owner.ups c.visit_from.new.ups loop.home owner loop.below c.in_ok-next.ensures.visit may loop.made;
        ends = (omega (arith, first), c.if-due-ranks.true ∙ c.ranks.ensures, (c.last_outs-outs.ensures.0, c.in_ok-next.ensures.row ∙ ap Some c.last_outs-outs.ensures.1));
      };
      reads = append_fits t c.tables-known.ensures.form c.args.at k m c.loop-owner.due c.loop-owner.number c.in_ok-next.next c.loop-owner.ups c.visit_from.new.ups c.requires.packet loop.reads c.in_ok-next.ensures.visit;
      arrives = tt;
    }

pub owner_of_rank-owner-requires-in-loop-owner : goal.owner_of_rank-owner-requires-in-loop-owner
owner_of_rank-owner-requires-in-loop-owner g c =
    let t = c.args.tables.now in
    let loop = c.loop-owner.invariant in
    let owner : loop.home.owner ≡ c.args.at = same_Some _ _ (sym loop.home.rank ∙ loop.owner) ∙ c.loop-owner-test.true in
    let more : c.loop-owner.due + 1 ≢ ranks t = λ e. c.if-due-ranks.false (e ∙ sym c.ranks.ensures) in
    let then = after_visit t c.tables-known.ensures.valid c.tables-known.ensures.form c.requires.home.0 c.args.at c.args.packet.now (arrays_of c.args.store.now) c.loop-owner.due c.loop-owner.number c.in_ok-next.next c.loop-owner.ups c.visit_from.new.ups loop.home owner loop.below c.in_ok-next.ensures.visit more in
    ap is_some then.0.rank

pub loop-owner-preserved : goal.loop-owner-preserved
loop-owner-preserved g c =
    let t = c.args.tables.now in
    let k = c.args.packet.now in
    let m = arrays_of c.args.store.now in
    let loop = c.loop-owner.invariant in
    let valid = c.tables-known.ensures.valid in
    let form = c.tables-known.ensures.form in
    let may : g.A.Admit.admits c.args.admit.now c.loop-owner.due ≡ true = first_of (search rules, cc) in
    let owner : loop.home.owner ≡ c.args.at = same_Some _ _ (sym loop.home.rank ∙ loop.owner) ∙ c.loop-owner-test.true in
    let more : c.loop-owner.due + 1 ≢ ranks t = λ e. c.if-due-ranks.false (e ∙ sym c.ranks.ensures) in
    let then = after_visit t valid form c.requires.home.0 c.args.at k m c.loop-owner.due c.loop-owner.number c.in_ok-next.next c.loop-owner.ups c.visit_from.new.ups loop.home owner loop.below c.in_ok-next.ensures.visit more in
    let first = loop.first in
    record {
      home = then.0;
      owner = c.owner_of_rank-owner-in-loop-owner.ensures;
      known = c.in_ok-next.ensures.row;
      below = then.1;
      reads = append_fits t form c.args.at k m c.loop-owner.due c.loop-owner.number c.in_ok-next.next c.loop-owner.ups c.visit_from.new.ups c.requires.packet loop.reads c.in_ok-next.ensures.visit;
      first = omega (arith, first);
      made = visiting_on t valid form c.requires.home.0 c.args.at k m c.loop-owner.due c.loop-owner.number c.in_ok-next.next c.loop-owner.ups c.visit_from.new.ups loop.home owner loop.below c.in_ok-next.ensures.visit may loop.made;
    }

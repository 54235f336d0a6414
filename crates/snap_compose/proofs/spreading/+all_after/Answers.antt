-- No out or one, or both halves.
use Rattle.std.proofs.Common.{◌≡◌, ℕ, ◌++◌, ◌/◌, List, [], ◌∷◌, refl, sym, ap, arith, length, subst, ◌∙◌, length-drop, take-append-drop}
use Rattle.std.specs.Prelude.{All}
use Rattle.std.proofs.lemmas.List.Elements.{All-drop}
use Rattle.snap_diagrams.specs.Diagrams.{diagram}
use Rattle.snap_core.specs.declared.policy.Atom.{Atom}
use Rattle.snap_core.specs.Tests.{OutFits}
use Rattle.snap_diagrams.specs.Picks.{sizes}
use Rattle.snap_core.proofs.Results.{IfOk-both}
use Rattle.snap_diagrams.proofs.Shared.{kept, argument_kept}
use Rattle.snap_compose.specs.Substituted.{IsLate}
use Rattle.snap_compose.specs.Spread.{IsRun}
use Rattle.snap_compose.proofs.Settled.{head_fits}
use Rattle.snap_compose.proofs.Marked.{marked_kept}
use Rattle.snap_compose.proofs.Sequel.{only_one, run_none, run_framed, run_one, run_both}
use Rattle.snap_compose.proofs.spreading.+all_after.Goals as goal

pub after_marked-requires-clause-out : goal.after_marked-requires-clause-out
after_marked-requires-clause-out t c = head_fits (sizes c.args.groups.now c.args.ctx.now).comps c.args.outs.now c.in-Some.field-0-1.now c.in-Some.out.now c.in-Some.ensures.cases.0 c.requires.outs

no_outs : (all : List (List (ℕ × Atom))) → length all ≡ 0 → all ≡ []
no_outs [] e = refl
no_outs (o ∷ more) e = absurd (grind arith)

pub returns-in-None-clause-run : goal.returns-in-None-clause-run
returns-in-None-clause-run t c =
    IfOk-both c.idle.result _ _ _ (λ r a is. run_none c.args.groups.now c.args.ctx.now c.args.outs.now c.args.ups.now (diagram c.args.nodes.now c.args.d) (diagram c.idle.new.nodes r) (no_outs c.args.outs.now c.in-None.ensures.cases) is a.keeps) c.idle.ensures.diagram c.idle.ensures.bare

pub join-requires-clause-b : goal.join-requires-clause-b
join-requires-clause-b t c =
    argument_kept c.args.groups.now c.args.ctx.now c.after_marked.new.nodes c.idle-in-Some.new.nodes c.in_ok-one-in-Some.one c.idle-in-Some.ensures.extends_arena (record { below = c.in_ok-one-in-Some.ensures.number; keeps = c.in_ok-one-in-Some.ensures.late.keeps })

pub returns-in_ok-start-in-Some-clause-run : goal.returns-in_ok-start-in-Some-clause-run
returns-in_ok-start-in-Some-clause-run t c =
    let ko = kept c.after_marked.new.nodes c.idle-in-Some.new.nodes c.in_ok-one-in-Some.one c.idle-in-Some.ensures.extends_arena c.in_ok-one-in-Some.ensures.number in
    let late : IsLate c.args.groups.now c.args.ctx.now c.in-Some.out.now c.args.ups.now (diagram c.args.nodes.now c.args.d) (diagram c.idle-in-Some.new.nodes c.in_ok-one-in-Some.one) = rw ko c.in_ok-one-in-Some.ensures.late in
    let one = only_one c.args.outs.now c.in-Some.field-0-1.now c.in-Some.out.now c.in-Some.ensures.cases.0 (omega (arith, c.if-outs-le1.true)) in
    IfOk-both c.join.result _ _ _ (λ r a w. run_one c.args.groups.now c.args.ctx.now c.in-Some.out.now c.args.outs.now c.args.ups.now (diagram c.args.nodes.now c.args.d) (diagram c.idle-in-Some.new.nodes c.in_ok-start-in-Some.start)
    (diagram c.idle-in-Some.new.nodes c.in_ok-one-in-Some.one) (diagram c.join.new.nodes r) one c.in_ok-start-in-Some.ensures.bare late.late (λ m k met small. w m k met) a.keeps) c.join.ensures.diagram c.join.ensures.answer

pub returns-then-logs_updates-clause-run : goal.returns-then-logs_updates-clause-run
returns-then-logs_updates-clause-run t c =
    let one = only_one c.args.outs.now c.in-Some.field-0-1.now c.in-Some.out.now c.in-Some.ensures.cases.0 (omega (arith, c.if-outs-le1.true)) in
    run_framed c.args.groups.now c.args.ctx.now c.in-Some.out.now c.args.outs.now c.args.ups.now (diagram c.args.nodes.now c.args.d) (diagram c.after_marked.new.nodes c.in_ok-one-in-Some.one) one
    (c.logs_updates.ensures c.if-logs_updates.true c.args.nodes.now c.requires.marked) c.in_ok-one-in-Some.ensures.late

pub all_after-requires-2 : goal.all_after-requires-2
all_after-requires-2 t c =
    let f = ap length c.split_at.ensures.back in
    let n = length-drop (length c.args.outs.now / 2) c.args.outs.now in
    let g = c.all_after.ensures.extends_arena in (
      omega (arith, f, n, c.decreases, c.if-outs-le1.false),
      (
        argument_kept c.args.groups.now c.args.ctx.now c.args.nodes.now c.all_after.new.nodes c.args.d g c.requires.d,
        (
          subst (All (OutFits (sizes c.args.groups.now c.args.ctx.now).comps)) (sym c.split_at.ensures.back) (All-drop (OutFits (sizes c.args.groups.now c.args.ctx.now).comps) _ c.args.outs.now c.requires.outs),
          (c.requires.ups, marked_kept c.args.nodes.now c.all_after.new.nodes c.args.marks.now g c.requires.marked),
        ),
      ),
    )

pub join-requires-2-clause-a : goal.join-requires-2-clause-a
join-requires-2-clause-a t c =
    argument_kept c.args.groups.now c.args.ctx.now c.all_after.new.nodes c.all_after-2.new.nodes c.in_ok-first.first c.all_after-2.ensures.extends_arena (record { below = c.in_ok-first.ensures.number; keeps = c.in_ok-first.ensures.run.keeps })

pub returns-clause-run : goal.returns-clause-run
returns-clause-run t c =
    let kd = kept c.args.nodes.now c.all_after.new.nodes c.args.d c.all_after.ensures.extends_arena c.requires.d.below in
    let kf = kept c.all_after.new.nodes c.all_after-2.new.nodes c.in_ok-first.first c.all_after-2.ensures.extends_arena c.in_ok-first.ensures.number in
    let first : IsRun c.args.groups.now c.args.ctx.now c.split_at.result.0.now c.args.ups.now (diagram c.args.nodes.now c.args.d) (diagram c.all_after-2.new.nodes c.in_ok-first.first) = rw kf c.in_ok-first.ensures.run in
    let second : IsRun c.args.groups.now c.args.ctx.now c.split_at.result.1.now c.args.ups.now (diagram c.args.nodes.now c.args.d) (diagram c.all_after-2.new.nodes c.in_ok-second.second) = rw (sym kd) c.in_ok-second.ensures.run in
    let whole : c.args.outs.now ≡ c.split_at.result.0.now ++ c.split_at.result.1.now = sym ((λ i. c.split_at.ensures.front i ++ c.split_at.ensures.back i) ∙ take-append-drop _ c.args.outs.now) in
    IfOk-both c.join-2.result _ _ _ (λ r a w. run_both c.args.groups.now c.args.ctx.now c.split_at.result.0.now c.split_at.result.1.now c.args.outs.now c.args.ups.now (diagram c.args.nodes.now c.args.d) (diagram c.all_after-2.new.nodes c.in_ok-first.first)
    (diagram c.all_after-2.new.nodes c.in_ok-second.second) (diagram c.join-2.new.nodes r) whole first second (λ m k met small. w m k met) a.keeps) c.join-2.ensures.diagram c.join-2.ensures.answer

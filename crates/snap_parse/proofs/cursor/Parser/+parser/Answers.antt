use Rattle.std.proofs.Common.{suc, ◌∷◌, ◌∙◌, ap, refl, sym, arith, map, length}
use Rattle.snap_parse.specs.Kinds.{Kind, Key, Sign}
use Rattle.snap_parse.specs.Tree.{policy_begin, policy_more, sequence_begin, sequence_more, if_tree, either_begin, either_more, both_begin, both_more, not_tree, id_tree, drop_tree, group_tree, atomic_tree, span_of, policy_tree, sequence_tree, choice_tree, either_tree, both_tree, single_tree, policy_append, sequence_append, either_append, both_append}
use Rattle.snap_parse.specs.Machine.{close_round, else_part, part_of_policy, part_of_sequence, end_of_if, then_part, end_of_plain, part_of_either, part_of_both, end_of_not, at_open, at_policy, at_sequence, at_choice, at_either, at_both, at_single, past_name, past_single, past_both, past_either, past_choice, past_sequence, past_policy, go, stuck, front, after_policy, after_sequence, after_either, after_both, after_name, begin_single, begin_choice, step, follow, run}
use Rattle.snap_parse.specs.declared.cursor.TheConstants.{MAX_DEPTH}
use Rattle.snap_parse.proofs.Steps.{goes, takes, met, missed, begins, refuses, refuses_kind, refuses_depth, exits, comes_on}
use Rattle.snap_parse.proofs.Parts.{plain, refuses_single}
use Rattle.snap_parse.proofs.Trees.{single_tree-Not, single_tree-Id, single_tree-Drop, single_tree-Group, single_tree-Atomic, choice_tree-Plain, choice_tree-If, policy_tree-roll, sequence_tree-out, either_tree-roll, both_tree-out, policy_next, sequence_next, either_next, both_next}
use Rattle.snap_parse.proofs.cursor.Parser.+parser.Goals as goal

pub policy-parts-preserved : goal.policy-parts-preserved
policy-parts-preserved t c = let end = c.args.self.now.end in
    let q = (policy_append (policy_begin c.place-at.result) (map sequence_tree c.parts.parts.items)) in
    let q1 = policy_more q (sequence_tree c.in_ok-part.part) in
    let after = c.in_ok-part.after.now in
    record {
      shorter = omega (arith, c.parts.invariant.shorter, c.in_ok-part.ensures.shortens, ap (λ x. length x) c.in-Some.ensures.0);
      reads = λ k d. (c.parts.invariant.reads k d ∙ c.in_ok-part.ensures.reads (part_of_policy q k) d)
          ∙ (met MAX_DEPTH end (Kind.Sign Sign.Plus) (at_sequence (part_of_policy q1 k)) (after_policy k q1 (front after)) after c.in-Some.behind.now _ c.in-Some.ensures (omega (arith, d, c.requires))
          ∙ ap (λ x. run MAX_DEPTH end (at_sequence (part_of_policy x k)) c.in-Some.behind.now) (policy_next c.place-at.result c.push.new.self.items c.parts.parts.items c.in_ok-part.part c.in_ok-push.ensures.items));
    }

pub policy-returns-in-None-clause-reads : goal.policy-returns-in-None-clause-reads
policy-returns-in-None-clause-reads t c = λ k d. let end = c.args.self.now.end in
    let q = (policy_append (policy_begin c.place-at.result) (map sequence_tree c.parts.parts.items)) in
    let q1 = policy_more q (sequence_tree c.in_ok-part.part) in
    let after = c.in_ok-part.after.now in
    (c.parts.invariant.reads k d ∙ c.in_ok-part.ensures.reads (part_of_policy q k) d)
    ∙ (missed MAX_DEPTH end (Kind.Sign Sign.Plus) (at_sequence (part_of_policy q1 k)) (after_policy k q1 (front after)) after c.in-None.ensures
    ∙ ap (λ x. run MAX_DEPTH end (past_policy x k) after) ((policy_next c.place-at.result c.push.new.self.items c.parts.parts.items c.in_ok-part.part c.in_ok-push.ensures.items) ∙ sym (policy_tree-roll _)))

pub sequence-parts-preserved : goal.sequence-parts-preserved
sequence-parts-preserved t c = let end = c.args.self.now.end in
    let q = (sequence_append (sequence_begin c.place-at.result) (map choice_tree c.parts.parts.items)) in
    let q1 = sequence_more q (choice_tree c.in_ok-part.part) in
    let after = c.in_ok-part.after.now in
    record {
      shorter = omega (arith, c.parts.invariant.shorter, c.in_ok-part.ensures.shortens, ap (λ x. length x) c.in-Some.ensures.0);
      reads = λ k d. (c.parts.invariant.reads k d ∙ c.in_ok-part.ensures.reads (part_of_sequence q k) d)
          ∙ (met MAX_DEPTH end (Kind.Sign Sign.Semicolon) (at_choice (part_of_sequence q1 k)) (after_sequence k q1 (front after)) after c.in-Some.behind.now _ c.in-Some.ensures (omega (arith, d, c.requires))
          ∙ ap (λ x. run MAX_DEPTH end (at_choice (part_of_sequence x k)) c.in-Some.behind.now) (sequence_next c.place-at.result c.push.new.self.items c.parts.parts.items c.in_ok-part.part c.in_ok-push.ensures.items));
    }

pub sequence-returns-in-None-clause-reads : goal.sequence-returns-in-None-clause-reads
sequence-returns-in-None-clause-reads t c = λ k d. let end = c.args.self.now.end in
    let q = (sequence_append (sequence_begin c.place-at.result) (map choice_tree c.parts.parts.items)) in
    let q1 = sequence_more q (choice_tree c.in_ok-part.part) in
    let after = c.in_ok-part.after.now in
    (c.parts.invariant.reads k d ∙ c.in_ok-part.ensures.reads (part_of_sequence q k) d)
    ∙ (missed MAX_DEPTH end (Kind.Sign Sign.Semicolon) (at_choice (part_of_sequence q1 k)) (after_sequence k q1 (front after)) after c.in-None.ensures
    ∙ ap (λ x. run MAX_DEPTH end (past_sequence x k) after) ((sequence_next c.place-at.result c.push.new.self.items c.parts.parts.items c.in_ok-part.part c.in_ok-push.ensures.items) ∙ sym (sequence_tree-out _)))

pub either-parts-preserved : goal.either-parts-preserved
either-parts-preserved t c = let end = c.args.self.now.end in
    let q = (either_append (either_begin c.place-at.result) (map both_tree c.parts.parts.items)) in
    let q1 = either_more q (both_tree c.in_ok-part.part) in
    let after = c.in_ok-part.after.now in
    record {
      shorter = omega (arith, c.parts.invariant.shorter, c.in_ok-part.ensures.shortens, ap (λ x. length x) c.in-Some.ensures.0);
      reads = λ k d. (c.parts.invariant.reads k d ∙ c.in_ok-part.ensures.reads (part_of_either q k) d)
          ∙ (met MAX_DEPTH end (Kind.Sign Sign.Or) (at_both (part_of_either q1 k)) (after_either k q1 (front after)) after c.in-Some.behind.now _ c.in-Some.ensures (omega (arith, d, c.requires))
          ∙ ap (λ x. run MAX_DEPTH end (at_both (part_of_either x k)) c.in-Some.behind.now) (either_next c.place-at.result c.push.new.self.items c.parts.parts.items c.in_ok-part.part c.in_ok-push.ensures.items));
    }

pub either-returns-in-None-clause-reads : goal.either-returns-in-None-clause-reads
either-returns-in-None-clause-reads t c = λ k d. let end = c.args.self.now.end in
    let q = (either_append (either_begin c.place-at.result) (map both_tree c.parts.parts.items)) in
    let q1 = either_more q (both_tree c.in_ok-part.part) in
    let after = c.in_ok-part.after.now in
    (c.parts.invariant.reads k d ∙ c.in_ok-part.ensures.reads (part_of_either q k) d)
    ∙ (missed MAX_DEPTH end (Kind.Sign Sign.Or) (at_both (part_of_either q1 k)) (after_either k q1 (front after)) after c.in-None.ensures
    ∙ ap (λ x. run MAX_DEPTH end (past_either x k) after) ((either_next c.place-at.result c.push.new.self.items c.parts.parts.items c.in_ok-part.part c.in_ok-push.ensures.items) ∙ sym (either_tree-roll _)))

pub both-parts-preserved : goal.both-parts-preserved
both-parts-preserved t c = let end = c.args.self.now.end in
    let q = (both_append (both_begin c.place-at.result) (map single_tree c.parts.parts.items)) in
    let q1 = both_more q (single_tree c.in_ok-part.part) in
    let after = c.in_ok-part.after.now in
    record {
      shorter = omega (arith, c.parts.invariant.shorter, c.in_ok-part.ensures.shortens, ap (λ x. length x) c.in-Some.ensures.0);
      reads = λ k d. (c.parts.invariant.reads k d ∙ c.in_ok-part.ensures.reads (part_of_both q k) d)
          ∙ (met MAX_DEPTH end (Kind.Sign Sign.And) (at_single (part_of_both q1 k)) (after_both k q1 (front after)) after c.in-Some.behind.now _ c.in-Some.ensures (omega (arith, d, c.requires))
          ∙ ap (λ x. run MAX_DEPTH end (at_single (part_of_both x k)) c.in-Some.behind.now) (both_next c.place-at.result c.push.new.self.items c.parts.parts.items c.in_ok-part.part c.in_ok-push.ensures.items));
    }

pub both-returns-in-None-clause-reads : goal.both-returns-in-None-clause-reads
both-returns-in-None-clause-reads t c = λ k d. let end = c.args.self.now.end in
    let q = (both_append (both_begin c.place-at.result) (map single_tree c.parts.parts.items)) in
    let q1 = both_more q (single_tree c.in_ok-part.part) in
    let after = c.in_ok-part.after.now in
    (c.parts.invariant.reads k d ∙ c.in_ok-part.ensures.reads (part_of_both q k) d)
    ∙ (missed MAX_DEPTH end (Kind.Sign Sign.And) (at_single (part_of_both q1 k)) (after_both k q1 (front after)) after c.in-None.ensures
    ∙ ap (λ x. run MAX_DEPTH end (past_both x k) after) ((both_next c.place-at.result c.push.new.self.items c.parts.parts.items c.in_ok-part.part c.in_ok-push.ensures.items) ∙ sym (both_tree-out _)))

pub choice-returns-in_err-either-in-None-clause-reads : goal.choice-returns-in_err-either-in-None-clause-reads
choice-returns-in_err-either-in-None-clause-reads t c = λ k d. let end = c.args.self.now.end in
    exits MAX_DEPTH end (λ x. past_choice (choice_tree x) k) c.from_residual.result _ (step (at_choice k) (front c.args.tokens.now)) c.args.tokens.now c.from_residual.ensures.1
    (refuses MAX_DEPTH end _ _ _ (plain MAX_DEPTH end k c.args.tokens.now c.in-None.ensures) (c.in_err-either-in-None.ensures.reads (end_of_plain k) d))

pub choice-returns-in-Some-clause-reads : goal.choice-returns-in-Some-clause-reads
choice-returns-in-Some-clause-reads t c = λ k d. let end = c.args.self.now.end in let s = c.in-Some.ensures in
    comes_on MAX_DEPTH end (λ x. past_choice (choice_tree x) k) c.branches.result (step (at_choice k) (front c.args.tokens.now)) (go (at_either (then_part c.in-Some.token.from k))) c.args.tokens.now (c.in-Some.token ∷ c.in-Some.rest.now)
    (begins MAX_DEPTH end (begin_choice k) c.args.tokens.now c.in-Some.rest.now c.in-Some.token (Kind.Key Key.If) s.0 s.1) (c.branches.ensures.reads k c.in-Some.token d refl)

pub choice-returns-in_ok-either-in-None-clause-reads : goal.choice-returns-in_ok-either-in-None-clause-reads
choice-returns-in_ok-either-in-None-clause-reads t c = λ k d. let end = c.args.self.now.end in let o = c.in_ok-either-in-None in
    plain MAX_DEPTH end k c.args.tokens.now c.in-None.ensures
    ∙ (o.ensures.reads (end_of_plain k) d ∙ ap (λ x. run MAX_DEPTH end (past_choice x k) o.rest.now) (sym (choice_tree-Plain o.either)))

pub branches-returns-in_err-inner-clause-reads : goal.branches-returns-in_err-inner-clause-reads
branches-returns-in_err-inner-clause-reads t c = λ k tok d here. let end = c.args.self.now.end in
    exits MAX_DEPTH end (λ x. past_choice (choice_tree x) k) c.from_residual.result _ (go (at_either (then_part c.args.at k))) (tok ∷ c.args.tokens.now) c.from_residual.ensures.1
    (refuses_depth MAX_DEPTH end (at_either (then_part c.args.at k)) tok c.args.tokens.now c.args.at _ (ap suc (d ∙ c.in_err-inner.ensures.0)) here c.in_err-inner.ensures.1)

pub branches-returns-in_err-test-clause-reads : goal.branches-returns-in_err-test-clause-reads
branches-returns-in_err-test-clause-reads t c = λ k tok d here. let end = c.args.self.now.end in
    exits MAX_DEPTH end (λ x. past_choice (choice_tree x) k) c.from_residual-in_err-test.result _ (go (at_either (then_part c.args.at k))) (tok ∷ c.args.tokens.now) c.from_residual-in_err-test.ensures.1
    (refuses MAX_DEPTH end _ _ _ (goes MAX_DEPTH end (at_either (then_part c.args.at k)) tok c.args.tokens.now (omega (arith, d, c.in_ok-inner.ensures.0, c.in_ok-inner.ensures.1))) (c.in_err-test.ensures.reads (then_part c.args.at k) (omega (arith, d, c.in_ok-inner.ensures.0))))

pub branches-returns-in_err-rest-clause-reads : goal.branches-returns-in_err-rest-clause-reads
branches-returns-in_err-rest-clause-reads t c = λ k tok d here. let end = c.args.self.now.end in
    exits MAX_DEPTH end (λ x. past_choice (choice_tree x) k) c.from_residual-in_err-rest.result _ (go (at_either (then_part c.args.at k))) (tok ∷ c.args.tokens.now) c.from_residual-in_err-rest.ensures.1
    (refuses MAX_DEPTH end _ _ _ (goes MAX_DEPTH end (at_either (then_part c.args.at k)) tok c.args.tokens.now (omega (arith, d, c.in_ok-inner.ensures.0, c.in_ok-inner.ensures.1))
    ∙ c.in_ok-test.ensures.reads (then_part c.args.at k) (omega (arith, d, c.in_ok-inner.ensures.0))) (refuses_kind MAX_DEPTH end (Kind.Key Key.Then) (at_policy (else_part c.args.at (either_tree c.in_ok-test.test) k)) c.in_ok-test.rest.now _ c.in_err-rest.ensures))

pub branches-returns-in_err-yes-clause-reads : goal.branches-returns-in_err-yes-clause-reads
branches-returns-in_err-yes-clause-reads t c = λ k tok d here. let end = c.args.self.now.end in
    exits MAX_DEPTH end (λ x. past_choice (choice_tree x) k) c.from_residual-in_err-yes.result _ (go (at_either (then_part c.args.at k))) (tok ∷ c.args.tokens.now) c.from_residual-in_err-yes.ensures.1
    (refuses MAX_DEPTH end _ _ _ ((goes MAX_DEPTH end (at_either (then_part c.args.at k)) tok c.args.tokens.now (omega (arith, d, c.in_ok-inner.ensures.0, c.in_ok-inner.ensures.1))
    ∙ c.in_ok-test.ensures.reads (then_part c.args.at k) (omega (arith, d, c.in_ok-inner.ensures.0)))
    ∙ met MAX_DEPTH end (Kind.Key Key.Then) (at_policy (else_part c.args.at (either_tree c.in_ok-test.test) k)) stuck c.in_ok-test.rest.now c.in_ok-rest.rest.now _ c.in_ok-rest.ensures (omega (arith, d, c.in_ok-inner.ensures.0, c.in_ok-inner.ensures.1))) (c.in_err-yes.ensures.reads (else_part c.args.at (either_tree c.in_ok-test.test) k) (omega (arith, d, c.in_ok-inner.ensures.0))))

pub branches-returns-in_err-rest-2-clause-reads : goal.branches-returns-in_err-rest-2-clause-reads
branches-returns-in_err-rest-2-clause-reads t c = λ k tok d here. let end = c.args.self.now.end in
    exits MAX_DEPTH end (λ x. past_choice (choice_tree x) k) c.from_residual-in_err-rest-2.result _ (go (at_either (then_part c.args.at k))) (tok ∷ c.args.tokens.now) c.from_residual-in_err-rest-2.ensures.1
    (refuses MAX_DEPTH end _ _ _ (((goes MAX_DEPTH end (at_either (then_part c.args.at k)) tok c.args.tokens.now (omega (arith, d, c.in_ok-inner.ensures.0, c.in_ok-inner.ensures.1))
    ∙ c.in_ok-test.ensures.reads (then_part c.args.at k) (omega (arith, d, c.in_ok-inner.ensures.0)))
    ∙ met MAX_DEPTH end (Kind.Key Key.Then) (at_policy (else_part c.args.at (either_tree c.in_ok-test.test) k)) stuck c.in_ok-test.rest.now c.in_ok-rest.rest.now _ c.in_ok-rest.ensures (omega (arith, d, c.in_ok-inner.ensures.0, c.in_ok-inner.ensures.1)))
    ∙ c.in_ok-yes.ensures.reads (else_part c.args.at (either_tree c.in_ok-test.test) k) (omega (arith, d, c.in_ok-inner.ensures.0))) (refuses_kind MAX_DEPTH end (Kind.Key Key.Else) (at_choice (end_of_if c.args.at (either_tree c.in_ok-test.test) (policy_tree c.in_ok-yes.yes) k)) c.in_ok-yes.rest.now _ c.in_err-rest-2.ensures))

pub branches-returns-in_err-no-clause-reads : goal.branches-returns-in_err-no-clause-reads
branches-returns-in_err-no-clause-reads t c = λ k tok d here. let end = c.args.self.now.end in
    exits MAX_DEPTH end (λ x. past_choice (choice_tree x) k) c.from_residual-in_err-no.result _ (go (at_either (then_part c.args.at k))) (tok ∷ c.args.tokens.now) c.from_residual-in_err-no.ensures.1
    (refuses MAX_DEPTH end _ _ _ ((((goes MAX_DEPTH end (at_either (then_part c.args.at k)) tok c.args.tokens.now (omega (arith, d, c.in_ok-inner.ensures.0, c.in_ok-inner.ensures.1))
    ∙ c.in_ok-test.ensures.reads (then_part c.args.at k) (omega (arith, d, c.in_ok-inner.ensures.0)))
    ∙ met MAX_DEPTH end (Kind.Key Key.Then) (at_policy (else_part c.args.at (either_tree c.in_ok-test.test) k)) stuck c.in_ok-test.rest.now c.in_ok-rest.rest.now _ c.in_ok-rest.ensures (omega (arith, d, c.in_ok-inner.ensures.0, c.in_ok-inner.ensures.1)))
    ∙ c.in_ok-yes.ensures.reads (else_part c.args.at (either_tree c.in_ok-test.test) k) (omega (arith, d, c.in_ok-inner.ensures.0)))
    ∙ met MAX_DEPTH end (Kind.Key Key.Else) (at_choice (end_of_if c.args.at (either_tree c.in_ok-test.test) (policy_tree c.in_ok-yes.yes) k)) stuck c.in_ok-yes.rest.now c.in_ok-rest-2.rest.now _ c.in_ok-rest-2.ensures (omega (arith, d, c.in_ok-inner.ensures.0, c.in_ok-inner.ensures.1))) (c.in_err-no.ensures.reads (end_of_if c.args.at (either_tree c.in_ok-test.test) (policy_tree c.in_ok-yes.yes) k) (omega (arith, d, c.in_ok-inner.ensures.0))))

pub branches-returns-clause-reads : goal.branches-returns-clause-reads
branches-returns-clause-reads t c = λ k tok d here. let end = c.args.self.now.end in
    ((((goes MAX_DEPTH end (at_either (then_part c.args.at k)) tok c.args.tokens.now (omega (arith, d, c.in_ok-inner.ensures.0, c.in_ok-inner.ensures.1))
    ∙ c.in_ok-test.ensures.reads (then_part c.args.at k) (omega (arith, d, c.in_ok-inner.ensures.0)))
    ∙ met MAX_DEPTH end (Kind.Key Key.Then) (at_policy (else_part c.args.at (either_tree c.in_ok-test.test) k)) stuck c.in_ok-test.rest.now c.in_ok-rest.rest.now _ c.in_ok-rest.ensures (omega (arith, d, c.in_ok-inner.ensures.0, c.in_ok-inner.ensures.1)))
    ∙ c.in_ok-yes.ensures.reads (else_part c.args.at (either_tree c.in_ok-test.test) k) (omega (arith, d, c.in_ok-inner.ensures.0)))
    ∙ met MAX_DEPTH end (Kind.Key Key.Else) (at_choice (end_of_if c.args.at (either_tree c.in_ok-test.test) (policy_tree c.in_ok-yes.yes) k)) stuck c.in_ok-yes.rest.now c.in_ok-rest-2.rest.now _ c.in_ok-rest-2.ensures (omega (arith, d, c.in_ok-inner.ensures.0, c.in_ok-inner.ensures.1)))
    ∙ (c.in_ok-no.ensures.reads (end_of_if c.args.at (either_tree c.in_ok-test.test) (policy_tree c.in_ok-yes.yes) k) (omega (arith, d, c.in_ok-inner.ensures.0))
    ∙ ap (λ x. run MAX_DEPTH end (past_choice x k) c.in_ok-no.rest.now)
    (sym (choice_tree-If c.args.at c.in_ok-test.test c.in_ok-yes-2.yes c.in_ok-no-2.no
    ∙ (ap (λ x. if_tree c.args.at (either_tree c.in_ok-test.test) (policy_tree x) (choice_tree c.in_ok-no-2.no.value)) c.in_ok-yes-2.ensures.ok ∙ ap (λ x. if_tree c.args.at (either_tree c.in_ok-test.test) (policy_tree c.in_ok-yes.yes) (choice_tree x)) c.in_ok-no-2.ensures.ok))))

pub negation-returns-in_err-inner-clause-reads : goal.negation-returns-in_err-inner-clause-reads
negation-returns-in_err-inner-clause-reads t c = λ k tok d here. let end = c.args.self.now.end in
    exits MAX_DEPTH end (λ x. past_single (single_tree x) k) c.from_residual.result _ (go (at_single (end_of_not c.args.at k))) (tok ∷ c.args.tokens.now) c.from_residual.ensures.1
    (refuses_depth MAX_DEPTH end (at_single (end_of_not c.args.at k)) tok c.args.tokens.now c.args.at _ (ap suc (d ∙ c.in_err-inner.ensures.0)) here c.in_err-inner.ensures.1)

pub negation-returns-in_err-part-clause-reads : goal.negation-returns-in_err-part-clause-reads
negation-returns-in_err-part-clause-reads t c = λ k tok d here. let end = c.args.self.now.end in
    exits MAX_DEPTH end (λ x. past_single (single_tree x) k) c.from_residual-in_err-part.result _ (go (at_single (end_of_not c.args.at k))) (tok ∷ c.args.tokens.now) c.from_residual-in_err-part.ensures.1
    (refuses MAX_DEPTH end _ _ _ (goes MAX_DEPTH end (at_single (end_of_not c.args.at k)) tok c.args.tokens.now (omega (arith, d, c.in_ok-inner.ensures.0, c.in_ok-inner.ensures.1))) (c.in_err-part.ensures.reads (end_of_not c.args.at k) (omega (arith, d, c.in_ok-inner.ensures.0))))

pub negation-returns-clause-reads : goal.negation-returns-clause-reads
negation-returns-clause-reads t c = λ k tok d here. let end = c.args.self.now.end in
    goes MAX_DEPTH end (at_single (end_of_not c.args.at k)) tok c.args.tokens.now (omega (arith, d, c.in_ok-inner.ensures.0, c.in_ok-inner.ensures.1))
    ∙ (c.in_ok-part.ensures.reads (end_of_not c.args.at k) (omega (arith, d, c.in_ok-inner.ensures.0))
    ∙ ap (λ x. run MAX_DEPTH end (past_single x k) c.in_ok-part.rest.now) (sym (single_tree-Not c.args.at c.in_ok-part-2.part ∙ ap (λ x. not_tree c.args.at (single_tree x)) c.in_ok-part-2.ensures.ok)))

pub enclosed-returns-in_err-inner-clause-reads : goal.enclosed-returns-in_err-inner-clause-reads
enclosed-returns-in_err-inner-clause-reads t c = λ k next tok d here close deep. let end = c.args.self.now.end in
    exits MAX_DEPTH end (λ x. next (policy_tree x)) c.from_residual.result _ (go (at_policy k)) (tok ∷ c.args.tokens.now) c.from_residual.ensures.1
    (refuses_depth MAX_DEPTH end (at_policy k) tok c.args.tokens.now c.args.at _ (omega (arith, d, c.in_err-inner.ensures.0)) here c.in_err-inner.ensures.1)

pub enclosed-returns-in_err-policy-clause-reads : goal.enclosed-returns-in_err-policy-clause-reads
enclosed-returns-in_err-policy-clause-reads t c = λ k next tok d here close deep. let end = c.args.self.now.end in
    exits MAX_DEPTH end (λ x. next (policy_tree x)) c.from_residual-in_err-policy.result _ (go (at_policy k)) (tok ∷ c.args.tokens.now) c.from_residual-in_err-policy.ensures.1
    (refuses MAX_DEPTH end _ _ _ (goes MAX_DEPTH end (at_policy k) tok c.args.tokens.now (omega (arith, d, c.in_ok-inner.ensures.0, c.in_ok-inner.ensures.1))) (c.in_err-policy.ensures.reads k (omega (arith, d, c.in_ok-inner.ensures.0))))

pub enclosed-returns-in_err-rest-clause-reads : goal.enclosed-returns-in_err-rest-clause-reads
enclosed-returns-in_err-rest-clause-reads t c = λ k next tok d here close deep. let end = c.args.self.now.end in
    exits MAX_DEPTH end (λ x. next (policy_tree x)) c.from_residual-in_err-rest.result _ (go (at_policy k)) (tok ∷ c.args.tokens.now) c.from_residual-in_err-rest.ensures.1
    (refuses MAX_DEPTH end _ _ _ (goes MAX_DEPTH end (at_policy k) tok c.args.tokens.now (omega (arith, d, c.in_ok-inner.ensures.0, c.in_ok-inner.ensures.1))
    ∙ (c.in_ok-policy.ensures.reads k (omega (arith, d, c.in_ok-inner.ensures.0)) ∙ ap (λ m. follow MAX_DEPTH end m c.in_ok-policy.rest.now) (close (policy_tree c.in_ok-policy.policy) c.in_ok-policy.rest.now))) (refuses_kind MAX_DEPTH end c.args.close (next (policy_tree c.in_ok-policy.policy)) c.in_ok-policy.rest.now _ c.in_err-rest.ensures))

pub enclosed-returns-clause-reads : goal.enclosed-returns-clause-reads
enclosed-returns-clause-reads t c = λ k next tok d here close deep. let end = c.args.self.now.end in
    (goes MAX_DEPTH end (at_policy k) tok c.args.tokens.now (omega (arith, d, c.in_ok-inner.ensures.0, c.in_ok-inner.ensures.1))
    ∙ (c.in_ok-policy.ensures.reads k (omega (arith, d, c.in_ok-inner.ensures.0)) ∙ ap (λ m. follow MAX_DEPTH end m c.in_ok-policy.rest.now) (close (policy_tree c.in_ok-policy.policy) c.in_ok-policy.rest.now)))
    ∙ met MAX_DEPTH end c.args.close (next (policy_tree c.in_ok-policy.policy)) stuck c.in_ok-policy.rest.now c.in_ok-rest.rest.now _ c.in_ok-rest.ensures (deep (policy_tree c.in_ok-policy.policy))

pub single-returns-in-Some-clause-reads : goal.single-returns-in-Some-clause-reads
single-returns-in-Some-clause-reads t c = λ k d. let end = c.args.self.now.end in
    comes_on MAX_DEPTH end (λ x. past_single (single_tree x) k) c.negation.result (step (at_single k) (front c.args.tokens.now)) (go (at_single (end_of_not c.in-Some.token.from k))) c.args.tokens.now (c.in-Some.token ∷ c.in-Some.rest.now)
    (begins MAX_DEPTH end (begin_single k) c.args.tokens.now c.in-Some.rest.now c.in-Some.token (Kind.Sign Sign.Not) c.in-Some.ensures.0 c.in-Some.ensures.1) (c.negation.ensures.reads k c.in-Some.token d refl)

pub single-returns-in-Some-next_if-2-clause-reads : goal.single-returns-in-Some-next_if-2-clause-reads
single-returns-in-Some-next_if-2-clause-reads t c = λ k d. let end = c.args.self.now.end in
    begins MAX_DEPTH end (begin_single k) c.args.tokens.now c.in-Some-next_if-2.rest.now c.in-Some-next_if-2.token (Kind.Key Key.Id) c.in-Some-next_if-2.ensures.0 c.in-Some-next_if-2.ensures.1
    ∙ (goes MAX_DEPTH end (past_single (id_tree c.in-Some-next_if-2.token.from) k) c.in-Some-next_if-2.token c.in-Some-next_if-2.rest.now (omega (arith, d, c.requires))
    ∙ ap (λ x. run MAX_DEPTH end (past_single x k) c.in-Some-next_if-2.rest.now) (sym (single_tree-Id c.in-Some-next_if-2.token.from)))

pub single-returns-in-Some-next_if-3-clause-reads : goal.single-returns-in-Some-next_if-3-clause-reads
single-returns-in-Some-next_if-3-clause-reads t c = λ k d. let end = c.args.self.now.end in
    begins MAX_DEPTH end (begin_single k) c.args.tokens.now c.in-Some-next_if-3.rest.now c.in-Some-next_if-3.token (Kind.Key Key.Drop) c.in-Some-next_if-3.ensures.0 c.in-Some-next_if-3.ensures.1
    ∙ (goes MAX_DEPTH end (past_single (drop_tree c.in-Some-next_if-3.token.from) k) c.in-Some-next_if-3.token c.in-Some-next_if-3.rest.now (omega (arith, d, c.requires))
    ∙ ap (λ x. run MAX_DEPTH end (past_single x k) c.in-Some-next_if-3.rest.now) (sym (single_tree-Drop c.in-Some-next_if-3.token.from)))

pub single-returns-in_err-policy-clause-reads : goal.single-returns-in_err-policy-clause-reads
single-returns-in_err-policy-clause-reads t c = λ k d. let end = c.args.self.now.end in
    exits MAX_DEPTH end (λ x. past_single (single_tree x) k) c.from_residual.result _ (step (at_single k) (front c.args.tokens.now)) c.args.tokens.now c.from_residual.ensures.1
    (refuses MAX_DEPTH end _ _ _ (begins MAX_DEPTH end (begin_single k) c.args.tokens.now c.in-Some-next_if.rest.now c.in-Some-next_if.token (Kind.Sign Sign.OpenRound) c.in-Some-next_if.ensures.0 c.in-Some-next_if.ensures.1)
    (c.in_err-policy.ensures.reads (close_round (group_tree c.in-Some-next_if.token.from) k) (λ x. past_single (group_tree c.in-Some-next_if.token.from x) k) c.in-Some-next_if.token (omega (arith, d)) refl (λ x ts. refl) (λ x. omega (arith, d, c.requires))))

pub single-returns-in_ok-body-clause-reads : goal.single-returns-in_ok-body-clause-reads
single-returns-in_ok-body-clause-reads t c = λ k d. let end = c.args.self.now.end in let o = c.in_ok-policy in let b = c.in_ok-body in
    begins MAX_DEPTH end (begin_single k) c.args.tokens.now c.in-Some-next_if.rest.now c.in-Some-next_if.token (Kind.Sign Sign.OpenRound) c.in-Some-next_if.ensures.0 c.in-Some-next_if.ensures.1
    ∙ (o.ensures.reads (close_round (group_tree c.in-Some-next_if.token.from) k) (λ x. past_single (group_tree c.in-Some-next_if.token.from x) k) c.in-Some-next_if.token (omega (arith, d)) refl (λ x ts. refl) (λ x. omega (arith, d, c.requires))
    ∙ ap (λ x. run MAX_DEPTH end (past_single x k) o.rest.now) (sym (single_tree-Group c.in-Some-next_if.token.from b.body ∙ ap (λ x. group_tree c.in-Some-next_if.token.from (policy_tree x)) b.ensures.ok)))

pub single-returns-in_err-open-clause-reads : goal.single-returns-in_err-open-clause-reads
single-returns-in_err-open-clause-reads t c = λ k d. let end = c.args.self.now.end in
    exits MAX_DEPTH end (λ x. past_single (single_tree x) k) c.from_residual-in_err-open.result _ (step (at_single k) (front c.args.tokens.now)) c.args.tokens.now c.from_residual-in_err-open.ensures.1
    (refuses MAX_DEPTH end _ _ _ (begins MAX_DEPTH end (begin_single k) c.args.tokens.now c.in-Some-next_if-4.rest.now c.in-Some-next_if-4.token (Kind.Key Key.Atomic) c.in-Some-next_if-4.ensures.0 c.in-Some-next_if-4.ensures.1
    ∙ goes MAX_DEPTH end (at_open (Kind.Sign Sign.OpenRound) (close_round (atomic_tree c.in-Some-next_if-4.token.from) k)) c.in-Some-next_if-4.token c.in-Some-next_if-4.rest.now (omega (arith, d, c.requires))) (refuses_kind MAX_DEPTH end (Kind.Sign Sign.OpenRound) (at_policy (close_round (atomic_tree c.in-Some-next_if-4.token.from) k)) c.in-Some-next_if-4.rest.now _ c.in_err-open.ensures))

pub single-returns-in_err-atom-clause-reads : goal.single-returns-in_err-atom-clause-reads
single-returns-in_err-atom-clause-reads t c = λ k d. let end = c.args.self.now.end in
    exits MAX_DEPTH end (λ x. past_single (single_tree x) k) c.from_residual-in_err-atom.result _ (step (at_single k) (front c.args.tokens.now)) c.args.tokens.now c.from_residual-in_err-atom.ensures.1
    (refuses MAX_DEPTH end _ _ _ ((begins MAX_DEPTH end (begin_single k) c.args.tokens.now c.in-Some-next_if-4.rest.now c.in-Some-next_if-4.token (Kind.Key Key.Atomic) c.in-Some-next_if-4.ensures.0 c.in-Some-next_if-4.ensures.1
    ∙ goes MAX_DEPTH end (at_open (Kind.Sign Sign.OpenRound) (close_round (atomic_tree c.in-Some-next_if-4.token.from) k)) c.in-Some-next_if-4.token c.in-Some-next_if-4.rest.now (omega (arith, d, c.requires)))
    ∙ takes MAX_DEPTH end (Kind.Sign Sign.OpenRound) (at_policy (close_round (atomic_tree c.in-Some-next_if-4.token.from) k)) stuck c.in-Some-next_if-4.rest.now c.in_ok-open.rest.now c.in_ok-open.open c.in_ok-open.ensures)
    (c.in_err-atom.ensures.reads (close_round (atomic_tree c.in-Some-next_if-4.token.from) k) (λ x. past_single (atomic_tree c.in-Some-next_if-4.token.from x) k) c.in_ok-open.open (omega (arith, d)) refl (λ x ts. refl) (λ x. omega (arith, d, c.requires))))

pub single-returns-in_ok-body-2-clause-reads : goal.single-returns-in_ok-body-2-clause-reads
single-returns-in_ok-body-2-clause-reads t c = λ k d. let end = c.args.self.now.end in let o = c.in_ok-atom in let b = c.in_ok-body-2 in
    ((begins MAX_DEPTH end (begin_single k) c.args.tokens.now c.in-Some-next_if-4.rest.now c.in-Some-next_if-4.token (Kind.Key Key.Atomic) c.in-Some-next_if-4.ensures.0 c.in-Some-next_if-4.ensures.1
    ∙ goes MAX_DEPTH end (at_open (Kind.Sign Sign.OpenRound) (close_round (atomic_tree c.in-Some-next_if-4.token.from) k)) c.in-Some-next_if-4.token c.in-Some-next_if-4.rest.now (omega (arith, d, c.requires)))
    ∙ takes MAX_DEPTH end (Kind.Sign Sign.OpenRound) (at_policy (close_round (atomic_tree c.in-Some-next_if-4.token.from) k)) stuck c.in-Some-next_if-4.rest.now c.in_ok-open.rest.now c.in_ok-open.open c.in_ok-open.ensures)
    ∙ (o.ensures.reads (close_round (atomic_tree c.in-Some-next_if-4.token.from) k) (λ x. past_single (atomic_tree c.in-Some-next_if-4.token.from x) k) c.in_ok-open.open (omega (arith, d)) refl (λ x ts. refl) (λ x. omega (arith, d, c.requires))
    ∙ ap (λ x. run MAX_DEPTH end (past_single x k) o.rest.now) (sym (single_tree-Atomic c.in-Some-next_if-4.token.from b.body ∙ ap (λ x. atomic_tree c.in-Some-next_if-4.token.from (policy_tree x)) b.ensures.ok)))

pub single-returns-in_err-word-clause-reads : goal.single-returns-in_err-word-clause-reads
single-returns-in_err-word-clause-reads t c = λ k d. let end = c.args.self.now.end in
    exits MAX_DEPTH end (λ x. past_single (single_tree x) k) c.from_residual-in_err-word.result _ (step (at_single k) (front c.args.tokens.now)) c.args.tokens.now c.from_residual-in_err-word.ensures.1
    (refuses_single MAX_DEPTH end k c.args.tokens.now _ c.in_default.ensures c.in_default-next_if.ensures c.in_default-next_if-2.ensures c.in_default-next_if-3.ensures c.in_default-next_if-4.ensures c.in_err-word.ensures)

pub single-returns-in_ok-word-clause-reads : goal.single-returns-in_ok-word-clause-reads
single-returns-in_ok-word-clause-reads t c = λ k d. let end = c.args.self.now.end in
    comes_on MAX_DEPTH end (λ x. past_single (single_tree x) k) c.named.result (step (at_single k) (front c.args.tokens.now)) (after_name c.span.result k (front c.in_ok-word.rest.now)) c.args.tokens.now c.in_ok-word.rest.now
    (begins MAX_DEPTH end (begin_single k) c.args.tokens.now c.in_ok-word.rest.now c.in_ok-word.word Kind.Word c.in_ok-word.ensures.0 c.in_ok-word.ensures.1
    ∙ (goes MAX_DEPTH end (past_name (span_of c.in_ok-word.word) k) c.in_ok-word.word c.in_ok-word.rest.now (omega (arith, d, c.requires)) ∙ ap (λ x. run MAX_DEPTH end (past_name x k) c.in_ok-word.rest.now) (sym c.span.ensures)))
    (c.named.ensures.reads k (omega (arith, d, c.requires)))

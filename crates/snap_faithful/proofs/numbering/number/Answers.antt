use Rattle.std.proofs.Common.{rules, ◌≡◌, ℕ, suc, ◌+◌, ◌-◌, ◌<◌, ◌∷◌, ◌++◌, [], true, false, length, slice_index_or, slice_set, sym, subst, ◌∙◌, arith}
use Rattle.std.proofs.lemmas.List.{get_or_default}
use Rattle.snap_faithful.specs.Marked.{Marks, with_ways}
use Rattle.snap_faithful.proofs.Counting.{begun, skip, done_node, numbered}
use Rattle.snap_faithful.proofs.numbering.number.Goals as goal
use Rattle.snap_faithful.proofs.numbering.number.Goals.{then-index+in_ok-push, else-index}

pub loop-step-init : goal.loop-step-init
loop-step-init c =
    begun c.args.nodes.now c.args.root c.count-count.result c.requires c.count-count.ensures.count c.new-ids.result.items c.in_ok-numbers.numbers.items c.in_ok-reached.reached.items c.new-ids.ensures.items (search rules) (search rules)

pub loop-step-preserved : goal.loop-step-preserved
loop-step-preserved c =
    let id : ℕ = c.count-count.result - 1 - c.loop-step.step in
    let size = c.count-count.ensures.count in
    let turn = c.loop-step-test.true in
    let before : Marks c.args.nodes.now c.args.root (suc id) c.loop-step.ids.items c.loop-step.numbers.items c.loop-step.reached.items =
    subst (λ b. Marks c.args.nodes.now c.args.root b c.loop-step.ids.items c.loop-step.numbers.items c.loop-step.reached.items) (omega (arith, turn)) c.loop-step.invariant in
    let eb : id ≡ c.count-count.result - (c.loop-step.step + 1) = omega (arith, turn) in
    elim c.if-index.branch [
      | then-index+in_ok-push w ↦
          let low : id < length c.args.nodes.now = omega (arith, size, turn) in
          let inside : id < length c.loop-step.reached.items = subst (λ n. id < n) (sym before.wide) low in
          let at : slice_index_or c.loop-step.reached.items id true ≡ true = search rules in
          let mark : slice_index_or c.loop-step.reached.items id false ≡ true = get_or_default c.loop-step.reached.items id false true inside ∙ at in
          let ei : c.if-index.ids.items ≡ c.loop-step.ids.items ++ id ∷ [] = search rules in
          let en : c.if-index.numbers.items ≡ slice_set c.loop-step.numbers.items id (length c.loop-step.ids.items) = search rules in
          let er : c.if-index.reached.items ≡ with_ways w.get.result.now c.loop-step.reached.items = search rules in
          let after = done_node c.args.nodes.now c.args.root c.count-count.ensures.arena id c.loop-step.ids.items c.loop-step.numbers.items c.loop-step.reached.items before low mark w.get.result.now w.get.ensures.at in
          subst (λ b. Marks c.args.nodes.now c.args.root b c.if-index.ids.items c.if-index.numbers.items c.if-index.reached.items) eb
          (subst (λ l. Marks c.args.nodes.now c.args.root id l c.if-index.numbers.items c.if-index.reached.items) (sym ei)
          (subst (λ l. Marks c.args.nodes.now c.args.root id (c.loop-step.ids.items ++ id ∷ []) l c.if-index.reached.items) (sym en)
          (subst (λ l. Marks c.args.nodes.now c.args.root id (c.loop-step.ids.items ++ id ∷ []) (slice_set c.loop-step.numbers.items id (length c.loop-step.ids.items)) l) (sym er) after)))
      | else-index w ↦
          let off : slice_index_or c.loop-step.reached.items id false ≡ false = search rules in
          let after = skip c.args.nodes.now c.args.root c.count-count.ensures.arena id c.loop-step.ids.items c.loop-step.numbers.items c.loop-step.reached.items before off in
          let ei : c.if-index.ids.items ≡ c.loop-step.ids.items = search rules in
          let en : c.if-index.numbers.items ≡ c.loop-step.numbers.items = search rules in
          let er : c.if-index.reached.items ≡ c.loop-step.reached.items = search rules in
          subst (λ b. Marks c.args.nodes.now c.args.root b c.if-index.ids.items c.if-index.numbers.items c.if-index.reached.items) eb
          (subst (λ l. Marks c.args.nodes.now c.args.root id l c.if-index.numbers.items c.if-index.reached.items) (sym ei)
          (subst (λ l. Marks c.args.nodes.now c.args.root id c.loop-step.ids.items l c.if-index.reached.items) (sym en)
          (subst (λ l. Marks c.args.nodes.now c.args.root id c.loop-step.ids.items c.loop-step.numbers.items l) (sym er) after)))
    ]

pub returns-clause-numbering : goal.returns-clause-numbering
returns-clause-numbering c =
    numbered c.args.nodes.now c.args.root c.count-count.ensures.arena c.loop-step.ids.items c.loop-step.numbers.items c.loop-step.reached.items
    (subst (λ b. Marks c.args.nodes.now c.args.root b c.loop-step.ids.items c.loop-step.numbers.items c.loop-step.reached.items) (omega (arith, c.loop-step-test.false)) c.loop-step.invariant)

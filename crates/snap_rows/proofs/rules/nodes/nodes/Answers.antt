use Rattle.std.proofs.Common.{◌≡◌, ◌+◌, ◌-◌, ◌<◌, length, sym, ap, subst, ◌∙◌, arith}
use Rattle.snap_rows.specs.Bodies.{lent}
use Rattle.snap_rows.specs.Standing.{AreNodesFrom, place_in}
use Rattle.snap_rows.proofs.Growing.{nodes_same, nodes_more}
use Rattle.snap_rows.proofs.rules.nodes.nodes.Goals.{then-is_node+in_ok-put, else-is_node}
use Rattle.snap_rows.proofs.rules.nodes.nodes.Goals as goal

pub loop-turn-preserved : goal.loop-turn-preserved
loop-turn-preserved c =
    let t = c.args.tables.now in
    let turn = c.loop-turn.turn in
    let k = c.len.result - turn - 1 in
    let many = c.len.ensures in
    let inside : turn < length t.rows = omega (arith, c.loop-turn-test.true, c.len-turn-end.ensures) in
    let r = lent c.at-entry.result in
    let up : length t.rows - turn ≡ k + 1 = omega (arith, many, inside) in
    let down : k ≡ length t.rows - (turn + 1) = omega (arith, many, inside) in
    let before : AreNodesFrom t (k + 1) (place_in c.loop-turn.nodes) = subst (λ j. AreNodesFrom t j (place_in c.loop-turn.nodes)) up c.loop-turn.invariant.nodes in
    record {
      low = elim c.if-is_node.branch [
        | then-is_node+in_ok-put w ↦ ap (λ m. length m.low.items) w.nodes-is ∙ w.put.ensures.low ∙ c.loop-turn.invariant.low
        | else-is_node w ↦ ap (λ m. length m.low.items) w.nodes-is ∙ c.loop-turn.invariant.low
      ];
      nodes = subst (λ j. AreNodesFrom t j (place_in c.if-is_node.nodes)) down (elim c.if-is_node.branch [
        | then-is_node+in_ok-put w ↦
            subst (λ m. AreNodesFrom t k (place_in m)) (sym w.nodes-is)
            (nodes_more t k r (place_in c.loop-turn.nodes) (place_in w.put.new.self) c.at-entry.ensures (sym c.is_node.ensures ∙ w.if-is_node.true) before w.in_ok-put.ensures.here w.in_ok-put.ensures.others)
        | else-is_node w ↦ subst (λ m. AreNodesFrom t k (place_in m)) (sym w.nodes-is) (nodes_same t k r (place_in c.loop-turn.nodes) c.at-entry.ensures (sym c.is_node.ensures ∙ w.if-is_node.false) before)
      ]);
    }

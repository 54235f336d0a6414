-- The old number, or the list's next.
use Rattle.std.proofs.Common.{◌≡◌, length, Some, None, cond, sym, ap, ◌∙◌, rules}
use Rattle.std.specs.Str.{bytes_eq}
use Rattle.snap_core.specs.Cells.{cell}
use Rattle.snap_diagrams.specs.Codes.{node_code}
use Rattle.snap_diagrams.specs.Arena.{IsLower}
use Rattle.snap_diagrams.proofs.Numbered.{at_found, noted_old, noted_new, numbered_more}
use Rattle.snap_diagrams.proofs.nodes.Nodes.note.Goals.{in-Ask+in-State-3, in-Ask+in-Value-3, in-Leaf-3}
use Rattle.snap_diagrams.proofs.nodes.Nodes.note.Goals as goal

pub returns-in-Some-clause-ok : goal.returns-in-Some-clause-ok
returns-in-Some-clause-ok g c =
    let found : cell c.self.inside.numbers (node_code g.L.Coded.code c.args.node) ≡ Some c.in-Some.id
    = ap (cell c.self.inside.numbers) (sym (c.deref.ensures.value ∙ c.in_ok-put_code.ensures)) ∙ sym c.get.ensures ∙ c.in-Some.is in
    let noted = noted_old g.L.Coded.code c.codes_differ.ensures c.self.inside.nodes.items c.self.inside.numbers c.self.invariant c.args.node c.in-Some.id found in
    elim c.match-node-3.branch [
      | in-Ask+in-State-3 w ↦ rw (sym c.self.view_is, w.self-is) noted
      | in-Ask+in-Value-3 w ↦ rw (sym c.self.view_is, w.self-is) noted
      | in-Leaf-3 w ↦ rw (sym c.self.view_is, w.self-is) noted
    ]

pub returns-in-Some-clause-lower : goal.returns-in-Some-clause-lower
returns-in-Some-clause-lower g c =
    let found : cell c.self.inside.numbers (node_code g.L.Coded.code c.args.node) ≡ Some c.in-Some.id
    = ap (cell c.self.inside.numbers) (sym (c.deref.ensures.value ∙ c.in_ok-put_code.ensures)) ∙ sym c.get.ensures ∙ c.in-Some.is in
    c.self.invariant.lower c.in-Some.id c.args.node (at_found g.L.Coded.code c.codes_differ.ensures c.self.inside.nodes.items c.self.inside.numbers c.self.invariant c.args.node c.in-Some.id found)

pub invariant_of-self-in_default : goal.invariant_of-self-in_default
invariant_of-self-in_default g c =
    let none : cell c.self.inside.numbers (node_code g.L.Coded.code c.args.node) ≡ None
    = ap (cell c.self.inside.numbers) (sym (c.deref.ensures.value ∙ c.in_ok-put_code.ensures)) ∙ sym c.get.ensures ∙ c.in-None.is in
    let low : IsLower (length c.self.inside.nodes.items) c.args.node = rw c.self.view_is c.requires in
    let count : c.len-count.result ≡ length c.self.inside.nodes.items = search rules in
    let code : c.in_ok-code-in-None.code.items ≡ node_code g.L.Coded.code c.args.node
    = c.in_ok-code-in-None.ensures.items ∙ c.deref-in-None.ensures.value ∙ c.in_ok-put_code.ensures in
    rw c.in_ok-push-in-None.ensures.items
    (numbered_more g.L.Coded.code c.self.inside.nodes.items c.args.node c.self.inside.numbers c.put.new.self c.self.invariant none
    (λ q. c.in_default.ensures.ok q ∙ (λ i. cond (bytes_eq (code i) q) (Some (count i)) (cell c.self.inside.numbers q))) low)

pub returns-in_default-clause-ok : goal.returns-in_default-clause-ok
returns-in_default-clause-ok g c =
    let count : c.len-count.result ≡ length c.self.inside.nodes.items = search rules in
    rw (c.in_ok-push-in-None.ensures.items, sym c.self.view_is, count) (noted_new c.self.inside.nodes.items c.args.node)

-- A leaf, or a test over the images of two ways.
use Rattle.std.proofs.Common.{◌≡◌, ◌<◌, Some, length, sym, ap, subst, ◌∙◌}
use Rattle.std.proofs.lemmas.Result.{IfOk-weaker}
use Rattle.snap_core.specs.declared.policy.Test.{Test}
use Rattle.snap_diagrams.specs.Diagrams.{Asks, diagram, IsNodeOf}
use Rattle.snap_diagrams.proofs.Cutting.{ask_shape}
use Rattle.snap_diagrams.proofs.Shared.{new_leaf, node_of}
use Rattle.snap_faithful.specs.Tidied.{Tidies}
use Rattle.snap_faithful.proofs.Imaging.{tidies_leaf, tidies_ask}
use Rattle.snap_faithful.proofs.images.image_of.Goals as goal

pub image_at-y-requires : goal.image_at-y-requires
image_at-y-requires c = (c.requires.ways c.in-Ask.yes c.in-Ask.no c.in-Ask.test (c.get.ensures.at ∙ ap Some c.in-Ask.is)).0.within

pub image_at-n-requires : goal.image_at-n-requires
image_at-n-requires c = (c.requires.ways c.in-Ask.yes c.in-Ask.no c.in-Ask.test (c.get.ensures.at ∙ ap Some c.in-Ask.is)).1.within

pub returns-in_ok-tidy-in-Leaf-clause-tidied : goal.returns-in_ok-tidy-in-Leaf-clause-tidied
returns-in_ok-tidy-in-Leaf-clause-tidied c =
    let old = c.args.nodes.now in
    let new = c.leaf.new.self in
    let groups = c.args.groups.now in
    let is = subst (IsNodeOf old c.args.id) c.in-Leaf.is (node_of old c.args.id c.get.result.now c.get.ensures.at c.get.ensures.lower) in
    IfOk-weaker c.leaf.result _ _ (λ d noted. tidies_leaf groups.ranks (length groups.order) (diagram old c.args.id) (diagram new d) c.in-Leaf.leaf c.in_ok-tidy-in-Leaf.tidy is (new_leaf new d c.in_ok-tidy-in-Leaf.tidy noted.at) c.in_ok-tidy-in-Leaf.ensures) c.leaf.ensures.ok

pub returns-in_ok-copy-in-Ask-clause-tidied : goal.returns-in_ok-copy-in-Ask-clause-tidied
returns-in_ok-copy-in-Ask-clause-tidied c =
    let old = c.args.nodes.now in
    let new = c.node.new.self in
    let groups = c.args.groups.now in
    let y = c.image_at-y.result in
    let n = c.image_at-n.result in
    let t = c.in_ok-copy-in-Ask.copy in
    let ways = c.requires.ways c.in-Ask.yes c.in-Ask.no c.in-Ask.test (c.get.ensures.at ∙ ap Some c.in-Ask.is) in
    let low_y : y < length old = subst (λ d. d < length old) (sym c.image_at-y.ensures) ways.0.below in
    let low_n : n < length old = subst (λ d. d < length old) (sym c.image_at-n.ensures) ways.1.below in
    let tidied_y = subst (λ d. Tidies groups.ranks (length groups.order) (diagram old c.in-Ask.yes) (diagram old d)) (sym c.image_at-y.ensures) ways.0.tidied in
    let tidied_n = subst (λ d. Tidies groups.ranks (length groups.order) (diagram old c.in-Ask.no) (diagram old d)) (sym c.image_at-n.ensures) ways.1.tidied in
    let is = subst (IsNodeOf old c.args.id) c.in-Ask.is (node_of old c.args.id c.get.result.now c.get.ensures.at c.get.ensures.lower) in
    let asks : diagram old c.args.id ≡ Asks t (diagram old c.in-Ask.yes) (diagram old c.in-Ask.no) = is.0 ∙ ap (λ (x : Test). Asks x (diagram old c.in-Ask.yes) (diagram old c.in-Ask.no)) (sym c.in_ok-copy-in-Ask.ensures) in
    IfOk-weaker c.node.result _ _ (λ d shape. tidies_ask groups.ranks (length groups.order) t (diagram old c.args.id) (diagram old c.in-Ask.yes) (diagram old c.in-Ask.no) (diagram old y) (diagram old n) (diagram new d) asks tidied_y tidied_n shape)
    (ask_shape t old new y n c.node.result c.node.ensures.extends_arena low_y low_n c.node.ensures.both c.node.ensures.ok c.node.ensures.lower)

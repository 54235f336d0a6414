-- Nodes get images from the last number down.
use Rattle.std.proofs.Common.{rules, ◌≡◌, ℕ, suc, ◌+◌, ◌-◌, ◌<◌, length, replicate, refl, sym, ap, subst, ◌∙◌, arith, Some}
use Rattle.std.specs.Prelude.{slice_get, slice_index, slice_set}
use Rattle.std.proofs.lemmas.List.{get_or_read, length-replicate}
use Rattle.std.proofs.lemmas.Option.{slice_get_read}
use Rattle.snap_diagrams.specs.Diagrams.{diagram}
use Rattle.snap_faithful.specs.Images.{HaveImages}
use Rattle.snap_faithful.specs.Tidied.{Tidies}
use Rattle.snap_faithful.proofs.Imaging.{below, ways_have, images_more, no_images, root_image}
use Rattle.snap_faithful.proofs.images.tidied.Goals as goal

pub loop-step-init : goal.loop-step-init
loop-step-init c =
    let ids = c.in_ok-numbered.numbered.ids in
    let images = c.in_ok-images.images.items in
    let is : images ≡ replicate c.count.result 0 = search rules in
    let wide : length images ≡ length c.args.nodes.now = ap (λ l. length l) is ∙ length-replicate c.count.result 0 ∙ c.count.ensures.count in
    no_images c.args.groups.now c.args.nodes.now c.args.root ids.items _ c.in_ok-numbered.ensures.numbering images (c.len-count.result - 0) wide (omega (arith, c.len-count.ensures, ids.ok.0))

pub image_of-requires-clause-id : goal.image_of-requires-clause-id
image_of-requires-clause-id c =
    let ids = c.in_ok-numbered.numbered.ids in
    let i : ℕ = c.len-count.result - 1 - c.loop-step.step in
    let id = c.index-id.result.now in
    let at : slice_get ids.items i ≡ Some id = slice_get_read ids.items (length ids.items) i id refl (omega (arith, c.loop-step-test.true, c.len-count.ensures, ids.ok.0)) c.index-id.ensures in
    below c.args.groups.now c.args.nodes.now c.args.root ids.items _ c.in_ok-numbered.ensures.numbering c.loop-step.nodes i id c.loop-step.invariant.extends_arena at

pub image_of-requires-clause-ways : goal.image_of-requires-clause-ways
image_of-requires-clause-ways c =
    let ids = c.in_ok-numbered.numbered.ids in
    let groups = c.args.groups.now in
    let i : ℕ = c.len-count.result - 1 - c.loop-step.step in
    let id = c.index-id.result.now in
    let at : slice_get ids.items i ≡ Some id = slice_get_read ids.items (length ids.items) i id refl (omega (arith, c.loop-step-test.true, c.len-count.ensures, ids.ok.0)) c.index-id.ensures in
    let before : HaveImages groups c.args.nodes.now c.loop-step.nodes ids.items c.loop-step.images.items (suc i)
    = subst (λ b. HaveImages groups c.args.nodes.now c.loop-step.nodes ids.items c.loop-step.images.items b) (omega (arith, c.loop-step-test.true)) c.loop-step.invariant in
    ways_have groups c.args.nodes.now c.args.root ids.items _ c.in_ok-numbered.ensures.numbering c.loop-step.nodes c.deref.result.now i id
    (subst (λ l. HaveImages groups c.args.nodes.now c.loop-step.nodes ids.items l (suc i)) (sym c.deref.ensures.value) before) at

pub index_mut-requires : goal.index_mut-requires
index_mut-requires c =
    let ids = c.in_ok-numbered.numbered.ids in
    let i : ℕ = c.len-count.result - 1 - c.loop-step.step in
    let id = c.index-id.result.now in
    let at : slice_get ids.items i ≡ Some id = slice_get_read ids.items (length ids.items) i id refl (omega (arith, c.loop-step-test.true, c.len-count.ensures, ids.ok.0)) c.index-id.ensures in
    omega (arith, c.in_ok-numbered.ensures.numbering.nodes i id at, c.loop-step.invariant.wide, c.loop-step.images.ok.0)

pub loop-step-preserved : goal.loop-step-preserved
loop-step-preserved c =
    let ids = c.in_ok-numbered.numbered.ids in
    let groups = c.args.groups.now in
    let images = c.loop-step.images.items in
    let i : ℕ = c.len-count.result - 1 - c.loop-step.step in
    let id = c.index-id.result.now in
    let at : slice_get ids.items i ≡ Some id = slice_get_read ids.items (length ids.items) i id refl (omega (arith, c.loop-step-test.true, c.len-count.ensures, ids.ok.0)) c.index-id.ensures in
    let before : HaveImages groups c.args.nodes.now c.loop-step.nodes ids.items images (suc i)
    = subst (λ b. HaveImages groups c.args.nodes.now c.loop-step.nodes ids.items images b) (omega (arith, c.loop-step-test.true)) c.loop-step.invariant in
    let next : i ≡ c.len-count.result - (c.loop-step.step + 1) = omega (arith, c.loop-step-test.true) in
    let image = c.in_ok-image.ensures in
    subst (λ b. HaveImages groups c.args.nodes.now c.image_of.new.nodes ids.items (slice_set images id c.in_ok-image.image) b) next
    (images_more groups c.args.nodes.now c.args.root ids.items _ c.in_ok-numbered.ensures.numbering c.loop-step.nodes c.image_of.new.nodes images i id c.in_ok-image.image before at image.extends_arena image.number image.tidied)

pub returns-clause-tidied : goal.returns-clause-tidied
returns-clause-tidied c =
    let ids = c.in_ok-numbered.numbered.ids in
    let groups = c.args.groups.now in
    let images = c.loop-step.images.items in
    let all : HaveImages groups c.args.nodes.now c.loop-step.nodes ids.items images 0
    = subst (λ b. HaveImages groups c.args.nodes.now c.loop-step.nodes ids.items images b) (omega (arith, c.loop-step-test.false)) c.loop-step.invariant in
    let inside : c.args.root < length images = omega (arith, c.requires, all.wide) in
    let is : c.index.result.now ≡ slice_index images c.args.root = get_or_read images c.args.root c.index.result.now inside c.index.ensures 0 in
    subst (λ r. Tidies groups.ranks (length groups.order) (diagram c.args.nodes.now c.args.root) (diagram c.loop-step.nodes r)) (sym is)
    (root_image groups c.args.nodes.now c.args.root ids.items _ c.in_ok-numbered.ensures.numbering c.loop-step.nodes images c.requires all).1

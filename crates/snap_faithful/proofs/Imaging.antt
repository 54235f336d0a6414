-- Images are given from the leaves up.
use Rattle.std.proofs.Common.{◌≡◌, ◌≢◌, ℕ, zero, suc, ◌<◌, ◌≤◌, inl, inr, Bool, true, false, List, [], ◌∷◌, ◌++◌, length, Some, refl, sym, ap, subst, ◌∙◌, arith, append_assoc, append-nil}
use Rattle.std.specs.Prelude.{slice_get, slice_index, slice_set, nat_eq}
use Rattle.std.proofs.lemmas.Bool.{eqb-true, eqb-false}
use Rattle.std.proofs.lemmas.List.{get_or-set_same, get_or-set_other, length-set}
use Rattle.std.proofs.lemmas.Option.{same_Some, slice_get_within}
use Rattle.snap_core.specs.declared.policy.Test.{Test}
use Rattle.snap_dep.specs.Ranks.{Grouping}
use Rattle.snap_diagrams.specs.declared.node.Node.{Node}
use Rattle.snap_diagrams.specs.declared.node.Node.TheVariants as node
use Rattle.snap_diagrams.specs.Arena.{ExtendsArena}
use Rattle.snap_diagrams.specs.declared.leaf.Leaf.{Leaf}
use Rattle.snap_diagrams.specs.Diagrams.{Diagram, Only, Asks, diagram}
use Rattle.snap_diagrams.specs.Pruned.{IsShaped}
use Rattle.snap_diagrams.proofs.Shared.{kept, still_below}
use Rattle.snap_faithful.specs.Images.{HasImage, WaysHaveImages, HaveImages}
use Rattle.snap_faithful.specs.Leaves.{IsTidy}
use Rattle.snap_faithful.specs.Shown.{IsNumbering}
use Rattle.snap_faithful.specs.Tidied.{Tidies, leaf, test, merged}

-- one node
pub tidies_leaf : (ranks : List ℕ) (n : ℕ) (d r : Diagram) (l x : Leaf) → d ≡ Only l → r ≡ Only x → IsTidy ranks n l x → Tidies ranks n d r
tidies_leaf ranks n d r l x e f h = subst (λ d. Tidies ranks n d r) (sym e) (subst (λ r. Tidies ranks n (Only l) r) (sym f) (leaf h))

pub tidies_ask : (ranks : List ℕ) (n : ℕ) (t : Test) (d y z a b r : Diagram) → d ≡ Asks t y z → Tidies ranks n y a → Tidies ranks n z b → IsShaped t a b r → Tidies ranks n d r
tidies_ask ranks n t d y z a b r e hy hz (inl f) = subst (λ d. Tidies ranks n d r) (sym e) (subst (λ r. Tidies ranks n (Asks t y z) r) (sym f) (test hy hz))
tidies_ask ranks n t d y z a b r e hy hz (inr f) =
    subst (λ d. Tidies ranks n d r) (sym e) (subst (λ r. Tidies ranks n (Asks t y z) r) (sym f.0) (merged hy (subst (λ x. Tidies ranks n z x) (sym f.1) hz)))

-- nodes that grew
grew_more : (a b c : List (Node Leaf)) → ExtendsArena a b → ExtendsArena b c → ExtendsArena a c
grew_more a b c g h = record { more = g.more ++ h.more; is = h.is ∙ ap (λ l. l ++ h.more) g.is ∙ append_assoc a g.more h.more }

slice_get-append_left : {A : Type 0} (xs ys : List A) (i : ℕ) → i < length xs → slice_get (xs ++ ys) i ≡ slice_get xs i
slice_get-append_left [] ys i l = absurd (omega arith)
slice_get-append_left (x ∷ xs) ys zero l = refl
slice_get-append_left (x ∷ xs) ys (suc i) l = slice_get-append_left xs ys i (omega arith)

image_kept : (g : Grouping) (old new : List (Node Leaf)) (images : List ℕ) (d : ℕ) → ExtendsArena old new → HasImage g old images d → HasImage g new images d
image_kept g old new images d w h = record {
  within = h.within;
  stands = still_below old new d w h.stands;
  below = still_below old new (slice_index images d) w h.below;
  tidied = rw (kept old new d w h.stands, kept old new (slice_index images d) w h.below) h.tidied;
}

module _ (g : Grouping) (ns : List (Node Leaf)) (root : ℕ) (ids : List ℕ) (number : ℕ → ℕ) (n : IsNumbering ns root ids number) where
  -- before the node with number i
  pub below : (now : List (Node Leaf)) (i id : ℕ) → ExtendsArena ns now → slice_get ids i ≡ Some id → id < length now
  below now i id w at = still_below ns now id w (n.nodes i id at)

  pub ways_have : (new : List (Node Leaf)) (images : List ℕ) (i id : ℕ) → HaveImages g ns new ids images (suc i) → slice_get ids i ≡ Some id → WaysHaveImages g new images id
  ways_have new images i id h at y z t is =
      let old : slice_get ns id ≡ Some (node.Ask t y z) = sym (ap (λ l. slice_get l id) h.extends_arena.is ∙ slice_get-append_left ns h.extends_arena.more id (n.nodes i id at)) ∙ is in
      let ys = n.yes_side i id y z t at old in
      let zs = n.no_side i id y z t at old in
      (h.each (number y) y (omega (arith, ys.0)) ys.1, h.each (number z) z (omega (arith, zs.0)) zs.1)

  -- after it
  pub images_more : (now new : List (Node Leaf)) (images : List ℕ) (i id r : ℕ) → HaveImages g ns now ids images (suc i) → slice_get ids i ≡ Some id → ExtendsArena now new → r < length new
      → Tidies g.ranks (length g.order) (diagram now id) (diagram new r) → HaveImages g ns new ids (slice_set images id r) i
  images_more now new images i id r h at w low tidy = record {
    extends_arena = grew_more ns now new h.extends_arena w;
    wide = length-set images id r ∙ h.wide;
    each = λ j d l e. by j d l e (nat_eq j i) refl;
  }
    where
      old : id < length now
      old = below now i id h.extends_arena at

      inside : id < length images
      inside = let a = n.nodes i id at in let b = h.wide in omega (arith, a, b)

      same : slice_index (slice_set images id r) id ≡ r
      same = get_or-set_same images id r 0 inside

      here : HasImage g new (slice_set images id r) id
      here = record {
        within = (let a = length-set images id r in let b = inside in omega (arith, a, b));
        stands = still_below now new id w old;
        below = subst (λ x. x < length new) (sym same) low;
        tidied = subst (λ x. Tidies g.ranks (length g.order) (diagram new id) (diagram new x)) (sym same) (subst (λ x. Tidies g.ranks (length g.order) x (diagram new r)) (sym (kept now new id w old)) tidy);
      }

      there : (d : ℕ) → d ≢ id → HasImage g new images d → HasImage g new (slice_set images id r) d
      there d other image =
          let e : slice_index images d ≡ slice_index (slice_set images id r) d = sym (get_or-set_other images id d r 0 other) in
          record {
            within = (let a = length-set images id r in let b = image.within in omega (arith, a, b));
            stands = image.stands;
            below = subst (λ x. x < length new) e image.below;
            tidied = subst (λ x. Tidies g.ranks (length g.order) (diagram new d) (diagram new x)) e image.tidied;
          }

      by : (j d : ℕ) → i ≤ j → slice_get ids j ≡ Some d → (b : Bool) → nat_eq j i ≡ b → HasImage g new (slice_set images id r) d
      by j d l e true f = subst (HasImage g new (slice_set images id r)) (same_Some id d (sym at ∙ ap (slice_get ids) (sym (eqb-true j i f)) ∙ e)) here
      by j d l e false f =
          let ne = eqb-false j i f in
          let a = n.own j d e in
          let b = n.own i id at in
          there d (λ s. ne (sym a ∙ ap number s ∙ b)) (image_kept g now new images d w (h.each j d (omega (arith, l, ne)) e))

  -- at the start
  pub no_images : (images : List ℕ) (i : ℕ) → length images ≡ length ns → length ids ≤ i → HaveImages g ns ns ids images i
  no_images images i wide l = record { extends_arena = record { more = []; is = sym (append-nil ns) }; wide = wide; each = λ j d m e. absurd (let s = slice_get_within ids j d e in omega (arith, s, m, l)) }

  -- at the end
  pub root_image : (new : List (Node Leaf)) (images : List ℕ) → root < length ns → HaveImages g ns new ids images 0
      → (slice_index images root < length new) × Tidies g.ranks (length g.order) (diagram ns root) (diagram new (slice_index images root))
  root_image new images low h =
      let i = h.each 0 root (omega arith) n.first in
      (i.below, subst (λ x. Tidies g.ranks (length g.order) x (diagram new (slice_index images root))) (kept ns new root h.extends_arena low) i.tidied)

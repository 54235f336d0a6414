-- The diagrams of shared nodes.
use Rattle.std.proofs.Common.{◌≡◌, ℕ, ◌+◌, ◌<◌, List, [], ◌∷◌, ◌++◌, length, get_or, refl, sym, ap, ◌∙◌, arith, length-append, suc, zero, subst}
use Rattle.std.specs.Prelude.{slice_get, Some}
use Rattle.std.proofs.lemmas.Option.{slice_get_within}
use Rattle.std.proofs.lemmas.List.{get_or_append_left}
use Rattle.std.proofs.Math.Seq.{get_or-append_seam}
use Rattle.snap_core.specs.declared.policy.Test.{Test}
use Rattle.snap_diagrams.specs.declared.node.Node.{Node}
use Rattle.snap_diagrams.specs.declared.node.Node.TheVariants as node
use Rattle.snap_diagrams.specs.Arena.{ExtendsArena, IsLower}
use Rattle.snap_diagrams.specs.declared.leaf.Leaf.{Leaf}
use Rattle.snap_diagrams.specs.declared.leaf.Leaf.TheVariants.{Race}
use Rattle.snap_dep.specs.Ranks.{Grouping}
use Rattle.snap_context.specs.View.{View}
use Rattle.snap_diagrams.specs.Diagrams.{Diagram, Only, Asks, made, grown, diagram, IsNodeOf}
use Rattle.snap_diagrams.specs.Bounds.{LeafIn}
use Rattle.snap_diagrams.specs.Picks.{sizes, IsWellFormedDiagram}

pub grown_keeps : (ds : List Diagram) (ns : List (Node Leaf)) (i : ℕ) → i < length ds → get_or (grown ds ns) i (Only Race) ≡ get_or ds i (Only Race)
grown_keeps ds [] i h = refl
grown_keeps ds (n ∷ ns) i h =
    grown_keeps (ds ++ made ds n ∷ []) ns i (let l = length-append ds (made ds n ∷ []) in omega (arith, l, h))
    ∙ get_or_append_left ds (made ds n ∷ []) (Only Race) i h

pub grown_append : (ds : List Diagram) (ns ms : List (Node Leaf)) → grown ds (ns ++ ms) ≡ grown (grown ds ns) ms
grown_append ds [] ms = refl
grown_append ds (n ∷ ns) ms = grown_append (ds ++ made ds n ∷ []) ns ms

pub grown_length : (ds : List Diagram) (ns : List (Node Leaf)) → length (grown ds ns) ≡ length ds + length ns
grown_length ds [] = omega arith
grown_length ds (n ∷ ns) = let e = grown_length (ds ++ made ds n ∷ []) ns in let l = length-append ds (made ds n ∷ []) in omega (arith, l, e)

-- a number that was given out keeps its diagram
pub kept : (old new : List (Node Leaf)) (d : ℕ) → ExtendsArena old new → d < length old → diagram new d ≡ diagram old d
kept old new d g h =
    rw g.is (ap (λ ds. get_or ds d (Only Race)) (grown_append [] old g.more)
    ∙ grown_keeps (grown [] old) g.more d (let e = grown_length [] old in omega (arith, e, h)))

-- the diagrams of a node's ways, where they stand before it
abbrev pub IsAt : List Diagram → Node Leaf → ℕ → Type 0
IsAt ds (node.Leaf l) j = get_or ds j (Only Race) ≡ Only l
IsAt ds (node.Ask t y n) j = y < j → n < j → get_or ds j (Only Race) ≡ Asks t (get_or ds y (Only Race)) (get_or ds n (Only Race))

first_at : (ds : List Diagram) (n : Node Leaf) (ns : List (Node Leaf)) → IsAt (grown (ds ++ made ds n ∷ []) ns) n (length ds)
first_at ds (node.Leaf l) ns =
    grown_keeps (ds ++ Only l ∷ []) ns (length ds) (let e = length-append ds (Only l ∷ []) in omega (arith, e))
    ∙ get_or-append_seam ds (Only l) [] (Only Race)
first_at ds (node.Ask t y n) ns = λ hy hn.
    let a : Diagram = Asks t (get_or ds y (Only Race)) (get_or ds n (Only Race)) in
    let e = length-append ds (a ∷ []) in
    let ey = grown_keeps (ds ++ a ∷ []) ns y (omega (arith, e, hy)) ∙ get_or_append_left ds (a ∷ []) (Only Race) y hy in
    let en = grown_keeps (ds ++ a ∷ []) ns n (omega (arith, e, hn)) ∙ get_or_append_left ds (a ∷ []) (Only Race) n hn in
    rw (ey, en)
    (grown_keeps (ds ++ a ∷ []) ns (length ds) (omega (arith, e)) ∙ get_or-append_seam ds a [] (Only Race))

pub node_at : (ds : List Diagram) (ns : List (Node Leaf)) (i j : ℕ) (n : Node Leaf) → slice_get ns i ≡ Some n → j ≡ length ds + i → IsAt (grown ds ns) n j
node_at ds [] i j n e h = absurd (cc)
node_at ds (x ∷ ns) zero j n e h =
    let same : x ≡ n = cc in
    let ej : j ≡ length ds = omega (arith, h) in
    subst (λ (y : Node Leaf). IsAt (grown (ds ++ made ds x ∷ []) ns) y j) same
    (subst (λ (i : ℕ). IsAt (grown (ds ++ made ds x ∷ []) ns) x i) (sym ej) (first_at ds x ns))
node_at ds (x ∷ ns) (suc i) j n e h = node_at (ds ++ made ds x ∷ []) ns i j n e (let l = length-append ds (made ds x ∷ []) in omega (arith, l, h))

-- what a node says of its diagram
pub node_of : (ns : List (Node Leaf)) (d : ℕ) (n : Node Leaf) → slice_get ns d ≡ Some n → IsLower d n → IsNodeOf ns d n
node_of ns d (node.Leaf l) e h = node_at [] ns d d (node.Leaf l) e (omega arith)
node_of ns d (node.Ask t y n) e h = (node_at [] ns d d (node.Ask t y n) e (omega arith) h.0 h.1, h.0, h.1)

-- a new node's diagram, by the old diagrams of its ways
pub new_ask : (old new : List (Node Leaf)) (d : ℕ) (t : Test) (y n : ℕ) → ExtendsArena old new → y < length old → n < length old → y < d → n < d
    → slice_get new d ≡ Some (node.Ask t y n) → diagram new d ≡ Asks t (diagram old y) (diagram old n)
new_ask old new d t y n g hy hn ly ln e =
    let ky = kept old new y g hy in
    let kn = kept old new n g hn in
    rw (sym ky, sym kn) (node_at [] new d d (node.Ask t y n) e (omega arith) ly ln)

pub still_below : (old new : List (Node Leaf)) (d : ℕ) → ExtendsArena old new → d < length old → d < length new
still_below old new d g h = let l = length-append old g.more in let e = ap length g.is in omega (arith, l, e, h)

-- a leaf's number
pub new_leaf : (new : List (Node Leaf)) (d : ℕ) (l : Leaf) → slice_get new d ≡ Some (node.Leaf l) → diagram new d ≡ Only l
new_leaf new d l e = node_at [] new d d (node.Leaf l) e (omega arith)

-- an argument stays one
pub argument_kept : (g : Grouping) (v : View) (old new : List (Node Leaf)) (d : ℕ) → ExtendsArena old new → IsWellFormedDiagram g v old d → IsWellFormedDiagram g v new d
argument_kept g v old new d more a = record { below = still_below old new d more a.below; keeps = rw (kept old new d more a.below) a.keeps }

pub leaf_argument : (g : Grouping) (v : View) (ns : List (Node Leaf)) (d : ℕ) (l : Leaf) → slice_get ns d ≡ Some (node.Leaf l) → LeafIn (sizes g v) l → IsWellFormedDiagram g v ns d
leaf_argument g v ns d l e h = record { below = slice_get_within ns d (node.Leaf l) e; keeps = rw (new_leaf ns d l e) (record { ordered = tt; bounds = h }) }

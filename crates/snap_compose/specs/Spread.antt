-- A second part from each packet of a leaf.
use Rattle.std.specs.Prelude.{◌≡◌, ◌⊎◌, ℕ, false, List, [], ◌∷◌, ◌++◌, map, Option, Some, None, option_map, bit_or, ⊤}
use Rattle.snap_dep.specs.Ranks.{Grouping}
use Rattle.snap_core.specs.declared.policy.Atom.{Atom}
use Rattle.snap_core.specs.declared.policy.Update.{Update}
use Rattle.snap_core.specs.declared.place.Place.{Place}
use Rattle.snap_core.specs.Arrays.{Arrays, updates, has}
use Rattle.snap_core.specs.Packets.{no_packets}
use Rattle.snap_core.specs.Meaning.{Meaning, beside, logged}
use Rattle.snap_context.specs.View.{View}
use Rattle.snap_diagrams.specs.declared.leaf.Go.{Go}
use Rattle.snap_diagrams.specs.declared.leaf.Leaf.{Leaf}
use Rattle.snap_diagrams.specs.declared.leaf.Leaf.TheVariants.{Race, Go as Goes}
use Rattle.snap_diagrams.specs.Diagrams.{Diagram, walk}
use Rattle.snap_diagrams.specs.Leaves.{Answer, answer_of, outcome_of}
use Rattle.snap_diagrams.specs.Picks.{IsDiagram, sizes}
use Rattle.snap_compose.specs.Additions.{AreSame}
use Rattle.snap_compose.specs.Substituted.{OnStores, outcome_at, late}
use Rattle.snap_compose.specs.Marks.{WritesNothing}
use Rattle.snap_compose.specs.Sequence.{IsSettledLeaf, in_sequence}

-- outcomes beside one, one after another
abbrev pub besides : Option Meaning → List (Option Meaning) → Option Meaning
besides a [] = a
besides a (o ∷ os) = besides (beside a o) os

-- nothing is done yet
abbrev pub nothing : Arrays → Meaning
nothing m = record { arrays = m; packets = no_packets; reads = 0; writes = 0 }

-- at the store m the updates change no variable that isn't logged as written
abbrev pub IsFramed : Arrays → Option Answer → Type 0
IsFramed m None = ⊤
IsFramed m (Some a) = (p : Place) → has a.writes p.var ≡ false → a.change m p ≡ m p

-- the leaf that does nothing
abbrev pub bare_leaf : Leaf
bare_leaf = Goes (record { outs = []; ups = []; reads = 0; writes = 0 })

-- r goes, at the store after the updates, to what d does behind each of the outs, side by side
pub record IsRun (groups : Grouping) (v : View) (outs : List (List (ℕ × Atom))) (ups : List Update) (d r : Diagram) : Type 0 where
  pub runs : OnStores v (λ m k. outcome_of (answer_of (walk r m k) k) (updates m ups k)
      ≡ besides (Some (nothing (updates m ups k))) (map (λ o. late d o ups m k) outs))
  pub framed : OnStores v (λ m k. IsFramed (updates m ups k) (answer_of (walk r m k) k))
  pub keeps : IsDiagram groups.ranks (sizes groups v) r

-- the leaf has no updates and logs nothing
pub record OnlySends (g : Go) : Type 0 where
  pub ups : g.ups ≡ []
  pub reads : g.reads ≡ 0
  pub writes : g.writes ≡ 0

-- a leaf that does what another does behind the updates and logs of a first
pub record IsBehindLeaf (g h : Go) (l : Leaf) : Type 0 where
  pub ups : List Update
  pub is : l ≡ Goes (record { outs = h.outs; ups = ups; reads = bit_or g.reads h.reads; writes = bit_or g.writes h.writes })
  pub same : AreSame ups (g.ups ++ h.ups)

-- what a leaf is behind the updates and logs of a first, unless two parts race there
abbrev pub IsBehindOf : Go → Leaf → Option Leaf → Type 0
IsBehindOf g l None = l ≡ Race
IsBehindOf g l (Some r) = (h : Go) × (l ≡ Goes h) × IsBehindLeaf g h r

pub record IsPrefixed (groups : Grouping) (v : View) (g : Go) (d r : Diagram) : Type 0 where
  pub prefixed : OnStores v
      (λ m k. outcome_at r m k ≡ option_map (logged g.reads g.writes) (outcome_of (answer_of (walk d m k) k) (updates m g.ups k)))
  pub keeps : IsDiagram groups.ranks (sizes groups v) r

-- r is in sequence what a leaf does, and then d, where no two outs give equal packets or d writes nothing
pub record IsSpread (groups : Grouping) (v : View) (g : Go) (d r : Diagram) : Type 0 where
  pub spread : OnStores v (λ m k. IsSettledLeaf (Goes g) k ⊎ WritesNothing d
      → outcome_at r m k ≡ in_sequence (outcome_of (answer_of (Goes g) k) m) (outcome_at d))
  pub keeps : IsDiagram groups.ranks (sizes groups v) r

-- r is in sequence what a does, where it is settled, and then d
pub record IsSequel (groups : Grouping) (v : View) (d a r : Diagram) : Type 0 where
  pub sequel : OnStores v (λ m k. IsSettledLeaf (walk a m k) k → outcome_at r m k ≡ in_sequence (outcome_at a m k) (outcome_at d))
  pub keeps : IsDiagram groups.ranks (sizes groups v) r

-- r is in sequence what a does, and then d
pub record IsChained (groups : Grouping) (v : View) (d a r : Diagram) : Type 0 where
  pub chained : OnStores v (λ m k. outcome_at r m k ≡ in_sequence (outcome_at a m k) (outcome_at d))
  pub keeps : IsDiagram groups.ranks (sizes groups v) r

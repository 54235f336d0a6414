-- Leaves as tables have them: no logs, no update that changes nothing, updates by rank, and outs in rising order, each once,
-- without parts that change nothing.
use Rattle.std.specs.Prelude.{◌≡◌, ◌↔◌, ℕ, zero, suc, Bool, false, not, ◌&&◌, ◌==◌, List, [], ◌++◌, map, slice_index, Contains}
use Rattle.std.specs.List.{filter}
use Rattle.std.specs.List.Sorted.{IsStrictlySortedBy}
use Rattle.snap_core.specs.declared.policy.Atom.{Atom}
use Rattle.snap_core.specs.declared.policy.Atom.TheVariants.{Num, Comp}
use Rattle.snap_core.specs.declared.policy.Op.{Op}
use Rattle.snap_core.specs.declared.policy.Op.TheVariants.{Put, Add}
use Rattle.snap_core.specs.declared.policy.Update.{Update}
use Rattle.snap_diagrams.specs.declared.leaf.Go.{Go}
use Rattle.snap_diagrams.specs.declared.leaf.Leaf.{Leaf}
use Rattle.snap_diagrams.specs.declared.leaf.Leaf.TheVariants.{Race, Go as Goes}
use Rattle.snap_rows.specs.Entries.{Parts}
use Rattle.snap_rows.specs.Form.{parts_cmp}

-- the operation changes no number
abbrev pub is_still : Op → Bool
is_still (Put a) = false
is_still (Add n) = n == 0

-- the updates of a rank that may change a number
abbrev pub of_rank : List ℕ → ℕ → List Update → List Update
of_rank ranks r us = filter (λ (u : Update). not (is_still u.op) && slice_index ranks u.var == r) us

-- those of the ranks below n, by rank
abbrev pub by_ranks : List ℕ → ℕ → List Update → List Update
by_ranks ranks zero us = []
by_ranks ranks (suc n) us = by_ranks ranks n us ++ of_rank ranks n us

-- the part gives a component its own value
abbrev pub is_itself : ℕ × Atom → Bool
is_itself (c, Num n) = false
is_itself (c, Comp d) = d == c

abbrev pub changes : Parts → Parts
changes o = filter (λ p. not (is_itself p)) o

-- rs are the outs os in rising order, each once
pub record AreInOrder (os rs : List Parts) : Type 0 where
  pub rising : IsStrictlySortedBy parts_cmp rs
  pub same : (o : Parts) → Contains rs o ↔ Contains os o

-- so are they without the parts that change nothing
abbrev pub AreTidyOuts : List Parts → List Parts → Type 0
AreTidyOuts os rs = AreInOrder (map changes os) rs

-- over ranks below n
pub record IsTidyGo (ranks : List ℕ) (n : ℕ) (g h : Go) : Type 0 where
  pub outs : AreTidyOuts g.outs h.outs
  pub ups : h.ups ≡ by_ranks ranks n g.ups
  pub reads : h.reads ≡ 0
  pub writes : h.writes ≡ 0

-- r is the leaf l, tidied
abbrev pub IsTidy : List ℕ → ℕ → Leaf → Leaf → Type 0
IsTidy ranks n Race Race = Unit {0}
IsTidy ranks n Race (Goes h) = ⊥
IsTidy ranks n (Goes g) Race = ⊥
IsTidy ranks n (Goes g) (Goes h) = IsTidyGo ranks n g h

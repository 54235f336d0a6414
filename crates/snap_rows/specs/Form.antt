-- Tables in form: what their text can spell, within the limits.
use Rattle.std.specs.Prelude.{◌≡◌, ◌≢◌, ◌⊎◌, ℕ, ◌<◌, ◌≤◌, List, [], ◌∷◌, map, length, IsTrue, Contains}
use Rattle.std.specs.List.{All, IsDistinct}
use Rattle.std.specs.Str.{bytes_eq}
use Rattle.std.specs.List.Sorted.{IsStrictlySortedBy, IsNonDecreasing}
use Rattle.std.specs.Ordering.{nat_cmp, ordering_then}
use Rattle.std.specs.Cmp.Lexicographic.{slice_cmp}
use Rattle.std.specs.declared.cmp.Ordering.{Ordering}
use Rattle.std.specs.declared.cmp.Ordering.TheVariants.{Less, Greater}
use Rattle.snap_core.specs.declared.policy.Atom.{Atom}
use Rattle.snap_core.specs.declared.policy.Atom.TheVariants.{Num, Comp}
use Rattle.snap_core.specs.declared.policy.Test.{Test}
use Rattle.snap_core.specs.declared.policy.Test.TheVariants.{Value, Equal, State as StateTest}
use Rattle.snap_core.specs.declared.policy.Update.{Update}
use Rattle.snap_core.specs.declared.ports.PortAt.{PortAt}
use Rattle.snap_core.specs.declared.policy.Op.{Op}
use Rattle.snap_core.specs.declared.policy.Op.TheVariants.{Put, Add}
use Rattle.snap_core.specs.Fields.{IsFields, count}
use Rattle.snap_core.specs.Names.{IsName, is_switch_name}
use Rattle.snap_core.specs.Fits.{UpdateFits}
use Rattle.snap_core.specs.Tests.{TestFits, OutFits, IsRisingOut}
use Rattle.snap_core.specs.Ports.{link_cmp}
use Rattle.snap_rows.specs.declared.tables.ArrayAt.{ArrayAt}
use Rattle.snap_rows.specs.declared.tables.Hop.{Hop}
use Rattle.snap_rows.specs.declared.tables.RowAt.{RowAt}
use Rattle.snap_rows.specs.declared.tables.Tables.{Tables}
use Rattle.snap_rows.specs.declared.tables.Row.{Row}
use Rattle.snap_rows.specs.declared.tables.Row.TheVariants.{Field, State, Go, Leaf, Stop, Last}
use Rattle.snap_rows.specs.declared.tables.Stage.{Stage as LeafStage}
use Rattle.snap_rows.specs.Entries.{Parts, rank_of}

-- the number of components
abbrev pub comps : Tables → ℕ
comps t = count t.fields

abbrev pub switch_count : Tables → ℕ
switch_count t = length t.switches

abbrev pub array_count : Tables → ℕ
array_count t = length t.arrays

abbrev pub atom_cmp : Atom → Atom → Ordering
atom_cmp (Num a) (Num b) = nat_cmp a b
atom_cmp (Num a) (Comp b) = Less
atom_cmp (Comp a) (Num b) = Greater
atom_cmp (Comp a) (Comp b) = nat_cmp a b

abbrev pub parts_cmp : Parts → Parts → Ordering
parts_cmp = slice_cmp (λ p q. ordering_then (nat_cmp p.0 q.0) (atom_cmp p.1 q.1))

abbrev pub row_cmp : RowAt → RowAt → Ordering
row_cmp a b = ordering_then (nat_cmp a.at b.at) (nat_cmp a.number b.number)

abbrev pub IsIndexWellFormed : List Atom → Type 0
IsIndexWellFormed es = (1 ≤ length es) × (length es ≤ 8)

-- a number that is added isn't 0
abbrev pub IsOpWellFormed : Op → Type 0
IsOpWellFormed (Put a) = Unit {0}
IsOpWellFormed (Add n) = 1 ≤ n

pub record IsUpdateWellFormed (t : Tables) (u : Update) : Type 0 where
  pub fits : UpdateFits (comps t) (array_count t) u
  pub index : IsIndexWellFormed u.index
  pub op : IsOpWellFormed u.op

pub record IsPartsWellFormed (t : Tables) (o : Parts) : Type 0 where
  pub fits : OutFits (comps t) o
  pub rising : IsRisingOut o
  pub changes : All (λ p. p.1 ≢ Comp p.0) o

pub record AreOutsWellFormed (t : Tables) (os : List Parts) : Type 0 where
  pub each : All (IsPartsWellFormed t) os
  pub rising : IsStrictlySortedBy parts_cmp os

pub record IsLeafStageWellFormed (t : Tables) (s : LeafStage) : Type 0 where
  pub at : s.at < switch_count t
  pub some : 1 ≤ length s.ups
  pub each : All (IsUpdateWellFormed t) s.ups

-- neighbours differ
abbrev pub AlternateFrom : ℕ → List LeafStage → Type 0
AlternateFrom w [] = Unit {0}
AlternateFrom w (s ∷ ss) = (s.at ≢ w) × AlternateFrom s.at ss

abbrev pub Alternate : List LeafStage → Type 0
Alternate [] = Unit {0}
Alternate (s ∷ ss) = AlternateFrom s.at ss

-- the ranks of updates never fall
abbrev pub RanksRise : Tables → List Update → Type 0
RanksRise t us = IsNonDecreasing (map (λ (u : Update). rank_of t u.var) us)

abbrev pub IsFieldTest : Test → Type 0
IsFieldTest (Value c n) = Unit {0}
IsFieldTest (Equal a b n) = a < b
IsFieldTest (StateTest v es x) = ⊥

abbrev pub IsStateTest : Tables → Test → Type 0
IsStateTest t (StateTest v es x) = (v < array_count t) × IsIndexWellFormed es
IsStateTest t _ = ⊥

abbrev pub IsRowWellFormed : Tables → Row → Type 0
IsRowWellFormed t (Field test y z) = TestFits (comps t) test × IsFieldTest test
IsRowWellFormed t (State test y z) = TestFits (comps t) test × IsStateTest t test
IsRowWellFormed t (Go x) = (t.version ≡ 1) × (x < switch_count t)
IsRowWellFormed t (Leaf ss os) = (t.version ≡ 1) × (length ss ≤ 65535) × All (IsLeafStageWellFormed t) ss × Alternate ss × AreOutsWellFormed t os
IsRowWellFormed t Stop = t.version ≡ 2
IsRowWellFormed t (Last us os) = (t.version ≡ 2) × All (IsUpdateWellFormed t) us × RanksRise t us × AreOutsWellFormed t os

pub record IsArrayWellFormed (t : Tables) (a : ArrayAt) : Type 0 where
  pub name : IsName a.name
  pub at : a.at < switch_count t
  pub rank : a.rank < 64
  pub one : t.version ≡ 1 → a.rank ≡ 0

pub record IsPortWellFormed (t : Tables) (p : PortAt) : Type 0 where
  pub some : 1 ≤ p.port
  pub at : p.at < switch_count t

pub record IsLinkWellFormed (t : Tables) (l : ℕ × ℕ) : Type 0 where
  pub lesser : l.0 < l.1
  pub below : l.1 < switch_count t

pub record IsHopWellFormed (t : Tables) (h : Hop) : Type 0 where
  pub from : h.from < switch_count t
  pub target : h.target < switch_count t
  pub other : h.from ≢ h.target
  pub next : h.next < switch_count t

pub record IsRowAtWellFormed (t : Tables) (r : RowAt) : Type 0 where
  pub at : r.at < switch_count t
  pub row : IsRowWellFormed t r.row

abbrev pub hop_cmp : Hop → Hop → Ordering
hop_cmp a b = ordering_then (nat_cmp a.from b.from) (nat_cmp a.target b.target)

-- an entry for each two different switches
abbrev pub HasHop : Tables → ℕ → ℕ → Type 0
HasHop t a x = (h : Hop) × Contains t.hops h × (h.from ≡ a) × (h.target ≡ x)

-- tables that a text can spell, within the limits
pub record IsWellFormed (t : Tables) : Type 0 where
  pub version : (t.version ≡ 1) ⊎ (t.version ≡ 2)
  pub fields : IsFields t.fields
  pub field_names : All (λ f. IsName f.name) t.fields
  pub some_switch : 1 ≤ switch_count t
  pub few_switches : switch_count t ≤ 256
  pub switch_names : All (λ name. IsTrue (is_switch_name name)) t.switches
  pub switches_differ : IsDistinct bytes_eq t.switches
  pub few_arrays : array_count t ≤ 64
  pub arrays : All (IsArrayWellFormed t) t.arrays
  pub arrays_differ : IsDistinct bytes_eq (map (λ (a : ArrayAt). a.name) t.arrays)
  pub few_links : length t.links ≤ 4096
  pub links : All (IsLinkWellFormed t) t.links
  pub links_rise : IsStrictlySortedBy link_cmp t.links
  pub few_ports : length t.ports ≤ 1024
  pub ports : All (IsPortWellFormed t) t.ports
  pub ports_rise : IsStrictlySortedBy nat_cmp (map (λ (p : PortAt). p.port) t.ports)
  pub few_hops : length t.hops ≤ 65280
  pub hops : All (IsHopWellFormed t) t.hops
  pub hops_rise : IsStrictlySortedBy hop_cmp t.hops
  pub all_hops : (a x : ℕ) → a < switch_count t → x < switch_count t → a ≢ x → HasHop t a x
  pub rows : All (IsRowAtWellFormed t) t.rows
  pub rows_rise : IsStrictlySortedBy row_cmp t.rows

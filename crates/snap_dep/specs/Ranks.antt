-- Groups of tied variables, and their order.
use Rattle.std.specs.Prelude.{◌≡◌, ◌≢◌, ◌↔◌, ℕ, ◌<◌, ◌≤◌, List, All, take, length, slice_index, Contains}
use Rattle.std.specs.List.{AllPairs}
use Rattle.snap_core.specs.declared.policy.Pol.{Pol}
use Rattle.snap_dep.specs.Dependencies.{Depends, Reaches, Tied, UsesBelow}
use Rattle.snap_dep.specs.Relations.{IsRelation}

-- a group goes by the least of its variables, of which there are n
pub record IsGroup (p : Pol) (n g : ℕ) : Type 0 where
  pub below : g < n
  pub least : (v : ℕ) → v < n → Tied p g v → g ≤ v

-- a variable of the one group has a dependency to one of the other
abbrev pub Precedes : Pol → ℕ → ℕ → Type 0
Precedes p g h = (s : ℕ) × (t : ℕ) × Tied p g s × Tied p h t × Depends p s t

-- each other group that precedes g is among those taken
abbrev pub IsReady : Pol → ℕ → List ℕ → ℕ → Type 0
IsReady p n taken g = (h : ℕ) → IsGroup p n h → Precedes p h g → h ≢ g → Contains taken h

-- the least of the groups that aren't taken and are ready
pub record IsNext (p : Pol) (n : ℕ) (taken : List ℕ) (g : ℕ) : Type 0 where
  pub group : IsGroup p n g
  pub new : ¬ (Contains taken g)
  pub ready : IsReady p n taken g
  pub least : (h : ℕ) → IsGroup p n h → ¬ (Contains taken h) → IsReady p n taken h → g ≤ h

-- again and again the next group is taken, until none is left
pub record IsRank (p : Pol) (n : ℕ) (order : List ℕ) : Type 0 where
  pub steps : (i : ℕ) → i < length order → IsNext p n (take i order) (slice_index order i)
  pub all : (g : ℕ) → IsGroup p n g → Contains order g

-- each variable's rank: the place of its group in the order
pub record IsRankIn (p : Pol) (n : ℕ) (order : List ℕ) (rank : ℕ → ℕ) : Type 0 where
  pub below : (v : ℕ) → v < n → rank v < length order
  pub group : (v : ℕ) → v < n → Tied p (slice_index order (rank v)) v

-- the rank of each variable, and the groups by rank
pub record Grouping : Type 0 where
  pub ranks : List ℕ
  pub order : List ℕ

-- the rank of a variable
abbrev pub rank_of : Grouping → ℕ → ℕ
rank_of g v = slice_index g.ranks v

-- each of at most 64 variables has a rank in the order
pub record IsRanked (g : Grouping) : Type 0 where
  pub few : length g.ranks ≤ 64
  pub below : All (λ r. r < length g.order) g.ranks

-- the groups of a policy with n variables
pub record IsGrouping (p : Pol) (n : ℕ) (g : Grouping) : Type 0 where
  pub count : length g.ranks ≡ n
  pub order : IsRank p n g.order
  pub ranks : IsRankIn p n g.order (rank_of g)
  pub tied : (a b : ℕ) → a < n → b < n → (rank_of g a ≡ rank_of g b) ↔ Tied p a b

-- what holds of each policy of which the rows tell which variable reaches which
abbrev pub ForChains : List ℕ → (Pol → Type 0) → Type 0
ForChains rows P = (p : Pol) → UsesBelow (length rows) p → IsRelation (Reaches p) rows → P p

-- the groups of a policy have an order by rank, and only one, which has each group once
pub record HasOneRank (p : Pol) (n : ℕ) : Type 0 where
  pub exists : (order : List ℕ) × IsRank p n order
  pub unique : (a b : List ℕ) → IsRank p n a → IsRank p n b → a ≡ b
  pub groups : (order : List ℕ) → IsRank p n order → (g : ℕ) → Contains order g ↔ IsGroup p n g
  pub once : (order : List ℕ) → IsRank p n order → AllPairs (λ g h. g ≢ h) order

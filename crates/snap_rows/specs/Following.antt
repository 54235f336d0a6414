-- Following leads from the ports: which rows are marked, and whose leads are still to be followed.
use Rattle.std.specs.Prelude.{◌≡◌, ◌⊎◌, ◌↔◌, ℕ, ◌+◌, Bool, true, false, Some, List, ◌++◌, length, get_or, slice_get, Contains}
use Rattle.snap_core.specs.declared.ports.PortAt.{PortAt}
use Rattle.snap_rows.specs.declared.tables.RowAt.{RowAt}
use Rattle.snap_rows.specs.declared.tables.Tables.{Tables}
use Rattle.snap_rows.specs.Leads.{HoldsNext}
use Rattle.snap_rows.specs.Places.{IsRowPlace}
use Rattle.snap_rows.specs.Reach.{falses}
use Rattle.snap_rows.specs.Ways.{Reached}

-- the row of switch w and number n is marked
abbrev pub IsMarked : Tables → List Bool → ℕ → ℕ → Type 0
IsMarked t marks w n = (i : ℕ) × IsRowPlace t.rows w n i × (get_or marks i false ≡ true)

-- each pair to which a row leads at once has a marked row
abbrev pub IsNextMarked : Tables → List Bool → RowAt → Type 0
IsNextMarked t marks r = HoldsNext (IsMarked t marks) t r.at r.number r.row

-- each port's switch has a marked row of number 0
abbrev pub ArePortsMarked : Tables → List Bool → Type 0
ArePortsMarked t marks = (p : PortAt) → Contains t.ports p → IsMarked t marks p.at 0

-- marked rows are reached, and so is what they lead to at once marked, but for rows at the places in `left`, whose leads are to be followed
pub record IsFollowed (t : Tables) (marks : List Bool) (left : List ℕ) : Type 0 where
  pub sound : (i : ℕ) (r : RowAt) → slice_get t.rows i ≡ Some r → get_or marks i false ≡ true → Reached t r.at r.number
  pub closed : (i : ℕ) (r : RowAt) → slice_get t.rows i ≡ Some r → get_or marks i false ≡ true → Contains left i ⊎ IsNextMarked t marks r
  pub marked : (i : ℕ) → Contains left i → get_or marks i false ≡ true

-- more rows are marked, and each of these is left to be followed, whatever else is
pub record Grows (t : Tables) (marks : List Bool) (left : List ℕ) (marks' : List Bool) (left' : List ℕ) : Type 0 where
  pub long : length marks' ≡ length marks
  pub kept : (i : ℕ) → get_or marks i false ≡ true → get_or marks' i false ≡ true
  pub followed : (more : List ℕ) → IsFollowed t marks (more ++ left) → IsFollowed t marks' (more ++ left')
  pub count : falses marks' + length left' ≡ falses marks + length left

-- exactly the reached rows are marked
abbrev pub AreMarked : Tables → List Bool → Type 0
AreMarked t marks = (i : ℕ) (r : RowAt) → slice_get t.rows i ≡ Some r → (get_or marks i false ≡ true) ↔ Reached t r.at r.number

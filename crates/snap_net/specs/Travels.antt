-- The links that a copy crosses.
use Rattle.std.specs.Prelude.{◌≡◌, ℕ, Some, List, [], ◌∷◌, ◌++◌}
use Rattle.snap_rows.specs.declared.head.Head.{Head}
use Rattle.snap_rows.specs.declared.head.Head.TheVariants.{Out, Visit}
use Rattle.snap_rows.specs.declared.tables.Tables.{Tables}
use Rattle.snap_rows.specs.Entries.{next, port_at}
use Rattle.snap_rows.specs.Network.{Copy, Happening, Crossed}
use Rattle.snap_rows.specs.Ways.{Way}

-- a copy of packet number i, which now is p, crosses links with head h, from a switch to each of these in turn
pub data Crosses (i : ℕ) (h : Head) (p : List ℕ) : ℕ → List ℕ → List Happening → Type 0 where
  ends : {w : ℕ} → Crosses i h p w [] []
  goes : {w v : ℕ} {vs : List ℕ} {hs : List Happening} {c : Copy} → c.number ≡ i → c.at ≡ w
      → c.packet ≡ p → Crosses i h p v vs hs → Crosses i h p w (v ∷ vs) (Crossed c v h ∷ hs)

-- the switches to which a copy with this head comes on its way from w to x: all, or, where it doesn't say where it goes, the next one
abbrev pub WayOf : Tables → Head → (w x : ℕ) → List ℕ → Type 0
WayOf t (Out p) w x ws = Way t x w ws
WayOf t (Visit r n) w x ws = Way t x w ws
WayOf t _ w x ws = ws ≡ next t w x ∷ []

-- one who saw other crossings before saw these behind them
abbrev pub Hears : {V : Type 0} → (saw : V → List Happening → V → Type 0) → (old new : V) → List Happening → Type 0
Hears {V = V} saw old new gs = (first : V) (before : List Happening) → saw first before old → saw first (before ++ gs) new

-- the same of the links that a copy of packet i crosses on its way from w to x, or out at a port
abbrev pub HearsWay : {V : Type 0} → (saw : V → List Happening → V → Type 0)
    → Tables → (i : ℕ) → Head → List ℕ → (w x : ℕ) → (old new : V) → Type 0
HearsWay saw t i h k w x old new = (ws : List ℕ) (gs : List Happening) → WayOf t h w x ws → Crosses i h k w ws gs → Hears saw old new gs

abbrev pub HearsOut : {V : Type 0} → (saw : V → List Happening → V → Type 0)
    → Tables → (i port : ℕ) → List ℕ → (w : ℕ) → (old new : V) → Type 0
HearsOut saw t i port k w old new = (x : ℕ) (ws : List ℕ) (gs : List Happening) → port_at t port ≡ Some x → Way t x w ws
    → Crosses i (Out port) k w ws gs → Hears saw old new gs

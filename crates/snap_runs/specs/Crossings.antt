-- The lines of the links that a copy crosses on its way.
use Rattle.std.specs.Prelude.{◌≡◌, ℕ, List, [], ◌∷◌, ◌++◌, codes}
use Rattle.std.specs.List.{concat}
use Rattle.hex.specs.Hex.{encode_lower}
use Rattle.snap_rows.specs.declared.tables.Tables.{Tables}
use Rattle.snap_rows.specs.declared.head.Head.{Head}
use Rattle.snap_rows.specs.Network.{Happening}
use Rattle.snap_rows.specs.Ways.{Way}
use Rattle.snap_net.specs.Frames.{frame}
use Rattle.snap_runs.specs.declared.frames.Frames.{Frames}
use Rattle.snap_runs.specs.declared.tally.Tally.{Tally}
use Rattle.snap_runs.specs.Reports.{lead_of}
use Rattle.snap_runs.specs.Tallies.{hop_told, name_in}

-- the frame of a copy of packet i with head h, with what is told before it
abbrev pub bytes_of : Frames → (i : ℕ) → (h : Head) → List ℕ → List ℕ
bytes_of f i h k = lead_of f i ++ frame h k

-- the same in digits
abbrev pub digits_of : Frames → (i : ℕ) → (h : Head) → List ℕ → List ℕ
digits_of f i h k = encode_lower (bytes_of f i h k)

-- `hop FROM TO DIGITS`
abbrev pub line_text : List (List ℕ) → (digits : List ℕ) → (from to : ℕ) → List ℕ
line_text switches digits from to = concat
    (codes "hop " ∷ name_in switches from ∷ codes " " ∷ name_in switches to ∷ codes " " ∷ digits ∷ codes "\n" ∷ [])

-- `hop FROM TO `
abbrev pub link_of : (from to : List ℕ) → List ℕ
link_of from to = concat (codes "hop " ∷ from ∷ codes " " ∷ to ∷ codes " " ∷ [])

-- a line for each link from a switch to the next of these
abbrev pub way_text : List (List ℕ) → (digits : List ℕ) → ℕ → List ℕ → List ℕ
way_text switches digits w [] = []
way_text switches digits w (v ∷ vs) = line_text switches digits w v ++ way_text switches digits v vs

-- the lines of the links along next hops to a switch were put
abbrev pub PutsWay : Tables → (digits : List ℕ) → (from to : ℕ) → (before after : List ℕ) → Type 0
PutsWay t digits from to before after = (ws : List ℕ) → Way t to from ws → after ≡ before ++ way_text t.switches digits from ws

-- the lines of crossings
abbrev pub crossing_lines : Frames → List (List ℕ) → List Happening → List ℕ
crossing_lines f switches [] = []
crossing_lines f switches (x ∷ hs) = hop_told f switches x ++ crossing_lines f switches hs

-- the lines of these crossings were put behind those of others
abbrev pub SeesLines : Tables → (first : Tally) → List Happening → (now : Tally) → Type 0
SeesLines t first hs now = (now.frames ≡ first.frames) × (now.hops.items ≡ first.hops.items ++ crossing_lines first.frames t.switches hs)

-- The message that tells a store and a packet.
use Rattle.std.specs.Prelude.{◌≡◌, ℕ, List, [], ◌∷◌, ◌++◌, codes}
use Rattle.std.specs.List.{concat, flat_map}
use Rattle.snap_core.specs.declared.place.Entry.{Entry}
use Rattle.snap_core.specs.declared.program.Field.{Field}
use Rattle.snap_core.specs.declared.program.Program.{Program}
use Rattle.snap_core.specs.Arrays.{Arrays}
use Rattle.snap_core.specs.Listing.{IsListing}
use Rattle.snap_report.specs.Reports.{array_line, fields_text}

-- `packet` and all fields of a packet
abbrev pub packet_line : List Field → List ℕ → List ℕ
packet_line fields packet = codes "packet" ++ fields_text 0 fields packet ++ codes "\n"

-- a first line, a line for each place that isn't 0, and the packet
abbrev pub pair_text : (first : List ℕ) → Program → List Entry → List ℕ → List ℕ
pair_text first p entries packet = concat (first ∷ flat_map (array_line p.arrays) entries ∷ packet_line p.fields packet ∷ [])

-- the text tells this store and this packet behind this line
abbrev pub TellsPair : (first : List ℕ) → Program → Arrays → List ℕ → (text : List ℕ) → Type 0
TellsPair first p m k text = (entries : List Entry) × IsListing m entries × (text ≡ pair_text first p entries k)

-- The texts of a report.
use Rattle.std.specs.Prelude.{ℕ, ◌+◌, ◌-◌, ◌*◌, ◌^◌, ◌/◌, ◌%◌, nat_lt, ◌&&◌, if◌then◌else◌, List, [], ◌∷◌, ◌++◌, codes, decimal, slice_index, slice_get, unwrap_or, Some, None}
use Rattle.std.specs.List.{concat, flat_map}
use Rattle.std.specs.declared.option.Option.{Option}
use Rattle.snap_core.specs.declared.program.Field.{Field}
use Rattle.snap_core.specs.declared.place.Listed.{Listed}
use Rattle.snap_core.specs.Listing.{entry_of}
use Rattle.snap_core.specs.declared.place.Entry.{Entry}
use Rattle.snap_core.specs.Fields.{width}
use Rattle.snap_core.specs.Packets.{PacketSet, listed}

-- `lost N`
abbrev pub lost_line : ℕ → List ℕ
lost_line n = concat (codes "lost " ∷ decimal n ∷ codes "\n" ∷ [])

-- an address, as `10.0.6.1`
abbrev pub address_text : ℕ → List ℕ
address_text a =
    concat (decimal (a / 2 ^ 24) ∷ codes "." ∷ decimal (a / 2 ^ 16 % 256)
    ∷ codes "." ∷ decimal (a / 2 ^ 8 % 256) ∷ codes "." ∷ decimal (a % 256) ∷ [])

-- the value of a split field with this prefix length: an address where its parts fit, else `NET:HOST`
abbrev pub split_text : (prefix net host : ℕ) → List ℕ
split_text prefix net host =
    if nat_lt net (2 ^ prefix) && nat_lt host (2 ^ (32 - prefix))
    then address_text (net * 2 ^ (32 - prefix) + host)
    else concat (decimal net ∷ codes ":" ∷ decimal host ∷ [])

-- the value of a field whose components begin at c
abbrev pub value_text : Option ℕ → ℕ → List ℕ → List ℕ
value_text None c packet = decimal (slice_index packet c)
value_text (Some prefix) c packet = split_text prefix (slice_index packet c) (slice_index packet (c + 1))

-- ` NAME=VALUE` of a field whose components begin at c
abbrev pub field_text : Field → ℕ → List ℕ → List ℕ
field_text f c packet = concat (codes " " ∷ f.name ∷ codes "=" ∷ value_text f.prefix c packet ∷ [])

-- the fields of a packet in order of declaration, of which the first has its components from c on
abbrev pub fields_text : ℕ → List Field → List ℕ → List ℕ
fields_text c [] packet = []
fields_text c (f ∷ fs) packet = field_text f c packet ++ fields_text (c + width f.prefix) fs packet

abbrev pub out_line : List Field → List ℕ → List ℕ
out_line fields packet = codes "out" ++ fields_text 0 fields packet ++ codes "\n"

-- a line for each of these packets
abbrev pub out_lines : List Field → List (List ℕ) → List ℕ
out_lines fields packets = flat_map (out_line fields) packets

-- a set of packets shown whole, in rising order
abbrev pub all_lines : List Field → PacketSet → List ℕ
all_lines fields set = out_lines fields (listed set)

-- the block of the packet with this number: the set of packets that it became, shown by these lines
abbrev pub block : (shown : PacketSet → List ℕ) → (number : ℕ) → PacketSet → List ℕ
block shown number set = codes "packet " ++ decimal number ++ codes "\n" ++ shown set

-- the blocks of packets one after another, of which the first has this number
abbrev pub blocks : (shown : PacketSet → List ℕ) → (number : ℕ) → List PacketSet → List ℕ
blocks shown number [] = []
blocks shown number (set ∷ sets) = block shown number set ++ blocks shown (number + 1) sets

abbrev pub index_text : List ℕ → List ℕ
index_text index = flat_map (λ n. codes " " ++ decimal n) index

-- the line of a place of the array with this name
abbrev pub place_line : (name : List ℕ) → (index : List ℕ) → (value : ℕ) → List ℕ
place_line name index value = concat (codes "array " ∷ name ∷ index_text index ∷ codes " = " ∷ decimal value ∷ codes "\n" ∷ [])

-- a line for a place that isn't 0
abbrev pub array_line : List (List ℕ) → Entry → List ℕ
array_line names e = place_line (unwrap_or (slice_get names e.place.var) []) e.place.index e.value

abbrev pub listed_line : List (List ℕ) → Listed → List ℕ
listed_line names l = array_line names (entry_of l)

-- the end of a report: the places that aren't 0, and the last line
abbrev pub end_text : List (List ℕ) → List Entry → List ℕ
end_text names entries = flat_map (array_line names) entries ++ codes "end\n"

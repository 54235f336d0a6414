-- The text of a placement.
use Rattle.std.specs.Prelude.{◌++◌, ◌==◌, if◌then◌else◌, ℕ, List, [], ◌∷◌, codes, decimal, map, slice_get, unwrap_or}
use Rattle.std.specs.List.{concat, flat_map, list_any, zip}

-- a name as a key: in quotes where it has a dot
abbrev pub key_text : List ℕ → List ℕ
key_text name = if list_any (λ b. b == 46) name then concat (codes "\"" ∷ name ∷ codes "\"" ∷ []) else name

-- `NAME = "SWITCH"`, for the name of an array and that of its switch
abbrev pub place_line : List ℕ × List ℕ → List ℕ
place_line place = concat (key_text place.0 ∷ codes " = \"" ∷ place.1 ∷ codes "\"\n" ∷ [])

-- `# cost N`
abbrev pub cost_line : ℕ → List ℕ
cost_line cost = concat (codes "# cost " ∷ decimal cost ∷ codes "\n" ∷ [])

-- the name of the switch with this number
abbrev pub switch_at : (switches : List (List ℕ)) → ℕ → List ℕ
switch_at switches number = unwrap_or (slice_get switches number) []

-- each array's name beside that of its switch
abbrev pub places : (arrays switches : List (List ℕ)) → (owners : List ℕ) → List (List ℕ × List ℕ)
places arrays switches owners = zip arrays (map (switch_at switches) owners)

-- the cost in a comment, and a line for each array in the order of their numbers
abbrev pub placement_text : (arrays switches : List (List ℕ)) → (owners : List ℕ) → (cost : ℕ) → List ℕ
placement_text arrays switches owners cost = cost_line cost ++ flat_map place_line (places arrays switches owners)

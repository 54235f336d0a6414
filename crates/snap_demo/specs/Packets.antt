-- The packets of n switches.
use Rattle.std.specs.Prelude.{ℕ, ◌+◌, ◌*◌, ◌%◌, List, [], ◌∷◌, map}
use Rattle.std.specs.List.{range_with_len}

-- they come in by turns at each port, with keys that run through all numbers below 100
abbrev pub packet_of : (n i : ℕ) → List ℕ
packet_of n i = (i % n + 1) ∷ 0 ∷ (7 * i % 100) ∷ []

-- a hundred for each switch
abbrev pub stated_packets : ℕ → List (List ℕ)
stated_packets n = map (packet_of n) (range_with_len 0 (100 * n))

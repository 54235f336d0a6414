-- Why bytes are no frame of c components.
use Rattle.std.specs.Prelude.{◌≡◌, ℕ, ◌<◌, ◌⊎◌, true, false, List, [], ◌∷◌, length}
use Rattle.snap_net.specs.declared.decode.HeadFault.{HeadFault}
use Rattle.snap_net.specs.declared.decode.HeadFault.TheVariants.{Short, Long, BadTag, NoMemory}
use Rattle.snap_net.specs.Frames.{is_tag, frame_length}

-- bytes begin with a tag
abbrev pub Tagged : List ℕ → ℕ → Type 0
Tagged bytes tag = (rest : List ℕ) × (bytes ≡ tag ∷ rest) × (is_tag tag ≡ true)

-- each fault says exactly what is wrong; bytes without any of these are a frame
abbrev pub IsFault : List ℕ → ℕ → HeadFault → Type 0
IsFault bytes c Short = (bytes ≡ []) ⊎ ((tag : ℕ) × Tagged bytes tag × (length bytes < frame_length tag c))
IsFault bytes c BadTag = (tag : ℕ) × (rest : List ℕ) × (bytes ≡ tag ∷ rest) × (is_tag tag ≡ false)
IsFault bytes c Long = (tag : ℕ) × Tagged bytes tag × (frame_length tag c < length bytes)
IsFault bytes c NoMemory = Unit {0}

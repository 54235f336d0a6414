-- Laws of frames.
use Rattle.std.specs.Prelude.{◌≡◌, ℕ, List, length}
use Rattle.snap_rows.specs.declared.head.Head.{Head}
use Rattle.snap_net.specs.declared.decode.HeadFault.{HeadFault}
use Rattle.snap_net.specs.declared.decode.HeadFault.TheVariants.{NoMemory}
use Rattle.snap_net.specs.Faults.{IsFault}
use Rattle.snap_net.specs.Frames.{HeadFits, frame}
use Rattle.snap_core.specs.Laws.{AreSmall}

-- a frame spells one head and one packet of its length
abbrev pub SpellsOne : Type 0
SpellsOne = (h h' : Head) (k k' : List ℕ) → HeadFits h → HeadFits h' → AreSmall k
    → AreSmall k' → length k ≡ length k' → frame h k ≡ frame h' k' → (h ≡ h') × (k ≡ k')

-- the frame of a head and a packet has no fault
abbrev pub HasNoFault : Type 0
HasNoFault = (h : Head) (k : List ℕ) (f : HeadFault) → IsFault (frame h k) (length k) f → f ≡ NoMemory

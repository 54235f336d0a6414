-- What holds on every store and packet that meet a context.
use Rattle.std.specs.Prelude.{ℕ, List, length}
use Rattle.snap_core.specs.Arrays.{Arrays}
use Rattle.snap_core.specs.Inputs.{IsPacket}
use Rattle.snap_context.specs.Meets.{Meets}
use Rattle.snap_context.specs.View.{View}

-- the store and the packet meet the context
pub record Met (v : View) (m : Arrays) (k : List ℕ) : Type 0 where
  pub packet : IsPacket (length v.classes) k
  pub facts : Meets v.facts m k

-- on every store and packet that meet the context
abbrev pub Under : View → (Arrays → List ℕ → Type 0) → Type 0
Under v P = (m : Arrays) (k : List ℕ) → Met v m k → P m k

-- The text of valid tables is read as these.
use Rattle.snap_tables.specs.ReadBack.{AreReadBack}
use Rattle.snap_tables.proofs.OneReading.{reads-each}
use Rattle.snap_tables.proofs.Spelled.{are-spelled}

pub are-read-back : AreReadBack
are-read-back t f v b r read = let s = are-spelled t f b in reads-each t r s.0 s.1 v read

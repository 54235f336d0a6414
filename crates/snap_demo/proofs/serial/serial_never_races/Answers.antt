use Rattle.snap_demo.proofs.MakesFew as lemmas
use Rattle.snap_demo.proofs.serial.serial_never_races.Goals as goal

pub returns : goal.returns
returns c = lemmas.serial_never_races

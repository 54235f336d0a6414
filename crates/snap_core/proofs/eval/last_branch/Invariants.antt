use Rattle.std.proofs.Common.{◌≡◌, ◌≤◌, length, max}
use Rattle.snap_core.specs.declared.policy.Pol.{size-Pol}
use Rattle.snap_core.specs.Cells.{arrays_of}
use Rattle.snap_core.specs.Fits.{PolFits}
use Rattle.snap_core.specs.Meaning.{eval}
use Rattle.snap_core.specs.Runs.{chosen, within}
use Rattle.snap_core.proofs.eval.last_branch.Given as goal

-- what is left to run, with the variables read so far
abbrev pub invariant-loop-pol : goal.invariant-loop-pol
invariant-loop-pol l =
    let m = arrays_of l.store in let k = l.packet in
    record {
      fits : PolFits (length k) 64 l.pol;
      same : within l.fn.logs (chosen l.fn.test (eval l.fn.yes m k) (eval l.fn.no m k) m k) ≡ within l.logs (eval l.pol m k);
      inner : size-Pol l.pol ≤ max (size-Pol l.fn.yes) (size-Pol l.fn.no);
    }

abbrev pub decreases-loop-pol : goal.decreases-loop-pol
decreases-loop-pol l = size-Pol l.pol

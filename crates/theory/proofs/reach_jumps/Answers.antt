-- The theorem stands in Reaches.
use Rattle.theory.proofs.reach_jumps.Goals as goal
use Rattle.theory.proofs.Reaches.{reach_jumps_lem}

pub returns : goal.returns
returns c = reach_jumps_lem

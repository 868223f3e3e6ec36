-- The theorem stands in Reaches.
use Rattle.theory.proofs.reach_within.Goals as goal
use Rattle.theory.proofs.Reaches.{reach_within_lem}

pub returns : goal.returns
returns c = reach_within_lem

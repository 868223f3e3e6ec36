-- The theorem stands in Reaches.
use Rattle.theory.proofs.reach_exists.Goals as goal
use Rattle.theory.proofs.Reaches.{reach_exists_lem}

pub returns : goal.returns
returns c = reach_exists_lem

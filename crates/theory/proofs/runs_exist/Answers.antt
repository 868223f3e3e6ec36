-- The theorem stands in Starts.
use Rattle.theory.proofs.runs_exist.Goals as goal
use Rattle.theory.proofs.Starts.{runs_exist_lem}

pub returns : goal.returns
returns c = runs_exist_lem

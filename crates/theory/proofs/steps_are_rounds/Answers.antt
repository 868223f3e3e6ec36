-- The theorem stands in Stepping.
use Rattle.theory.proofs.steps_are_rounds.Goals as goal
use Rattle.theory.proofs.Stepping.{steps_are_rounds_lem}

pub returns : goal.returns
returns c = steps_are_rounds_lem

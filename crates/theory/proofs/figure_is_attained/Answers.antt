-- The theorem stands in Exactness.
use Rattle.theory.proofs.figure_is_attained.Goals as goal
use Rattle.theory.proofs.Exactness.{attained}

pub returns : goal.returns
returns c = attained

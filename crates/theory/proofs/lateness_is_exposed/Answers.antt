-- The theorem stands in Attained.
use Rattle.theory.proofs.lateness_is_exposed.Goals as goal
use Rattle.theory.proofs.Attained.{exposed}

pub returns : goal.returns
returns c = exposed

-- The theorem stands in Attained.
use Rattle.theory.proofs.figure_is_exact.Goals as goal
use Rattle.theory.proofs.Attained.{exact}

pub returns : goal.returns
returns c = exact

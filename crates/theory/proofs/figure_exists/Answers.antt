-- The theorem stands in Existence.
use Rattle.theory.proofs.figure_exists.Goals as goal
use Rattle.theory.proofs.Existence.{figure_exists_lem}

pub returns : goal.returns
returns c = figure_exists_lem

-- The theorem stands in Clocks.
use Rattle.theory.proofs.hits_by_division.Goals as goal
use Rattle.theory.proofs.Clocks.{hits_by_division_lem}

pub returns : goal.returns
returns c = hits_by_division_lem

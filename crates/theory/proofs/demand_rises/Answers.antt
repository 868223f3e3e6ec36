-- The theorem stands in Reaches.
use Rattle.theory.proofs.demand_rises.Goals as goal
use Rattle.theory.proofs.Reaches.{demand_rises_lem}

pub returns : goal.returns
returns c = demand_rises_lem

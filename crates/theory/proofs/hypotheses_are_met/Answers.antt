-- The theorem stands in Sampled.
use Rattle.theory.proofs.hypotheses_are_met.Goals as goal
use Rattle.theory.proofs.Sampled.{hypotheses_met}

pub returns : goal.returns
returns c = hypotheses_met

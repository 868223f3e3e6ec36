-- The theorem stands in Bounded.
use Rattle.theory.proofs.upper_bound_stands.Goals as goal
use Rattle.theory.proofs.Bounded.{upper}

pub returns : goal.returns
returns c = upper

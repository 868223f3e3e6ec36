-- The theorem stands in Safety.
use Rattle.theory.proofs.safety_stands.Goals as goal
use Rattle.theory.proofs.Safety.{safe}

pub returns : goal.returns
returns c = safe

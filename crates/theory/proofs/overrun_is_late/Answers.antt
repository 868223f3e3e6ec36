-- The theorem stands in Overload.
use Rattle.theory.proofs.overrun_is_late.Goals as goal
use Rattle.theory.proofs.Overload.{overrun}

pub returns : goal.returns
returns c = overrun

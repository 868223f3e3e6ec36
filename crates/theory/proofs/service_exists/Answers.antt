-- The theorem stands in Machine.
use Rattle.theory.proofs.service_exists.Goals as goal
use Rattle.theory.proofs.Machine.{service_exists_lem}

pub returns : goal.returns
returns c = service_exists_lem

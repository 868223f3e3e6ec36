-- The theorem stands in Jobs.
use Rattle.theory.proofs.service_drains.Goals as goal
use Rattle.theory.proofs.Jobs.{service_drains_lem}

pub returns : goal.returns
returns c = service_drains_lem

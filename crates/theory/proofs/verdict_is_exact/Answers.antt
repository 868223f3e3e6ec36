-- The theorem stands in Exactness.
use Rattle.theory.proofs.verdict_is_exact.Goals as goal
use Rattle.theory.proofs.Exactness.{verdict}

pub returns : goal.returns
returns c = verdict

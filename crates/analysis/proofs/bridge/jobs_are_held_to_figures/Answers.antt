use Rattle.analysis.proofs.InTime.{held_to_figures}
use Rattle.analysis.proofs.bridge.jobs_are_held_to_figures.Goals as goal

pub returns : goal.returns
returns c = held_to_figures

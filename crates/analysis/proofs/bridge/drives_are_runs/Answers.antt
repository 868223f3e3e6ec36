use Rattle.analysis.proofs.BoardRuns.{drives_are_runs_lem}
use Rattle.analysis.proofs.bridge.drives_are_runs.Goals as goal

pub returns : goal.returns
returns c = drives_are_runs_lem

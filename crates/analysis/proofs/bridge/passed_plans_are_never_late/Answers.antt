use Rattle.analysis.proofs.OnTime.{never_late}
use Rattle.analysis.proofs.bridge.passed_plans_are_never_late.Goals as goal

pub returns : goal.returns
returns c = never_late

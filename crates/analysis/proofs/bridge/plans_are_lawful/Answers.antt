use Rattle.analysis.proofs.LawfulPlans.{plans_are_lawful_lem}
use Rattle.analysis.proofs.bridge.plans_are_lawful.Goals as goal

pub returns : goal.returns
returns c = plans_are_lawful_lem

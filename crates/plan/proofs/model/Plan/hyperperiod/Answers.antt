use Rattle.std.proofs.Common.{◌≡◌, sym, subst, rules}
use Rattle.plan.specs.Rules.{hyperperiod_of, LeastCommonMultiple}
use Rattle.plan.specs.Plans.{content}
use Rattle.plan.proofs.Work.{hyperperiod_law}
use Rattle.plan.proofs.model.Plan.hyperperiod.Goals as goal

pub returns-clause-law : goal.returns-clause-law
returns-clause-law c =
    let p = content c.args.self.now in
    let is : c.unwrap.result ≡ hyperperiod_of p = search rules in
    subst (LeastCommonMultiple p) (sym is) (hyperperiod_law p c.args.self.now.kept)

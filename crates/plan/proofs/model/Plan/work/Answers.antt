use Rattle.std.proofs.Common.{rules, tests, sym, ◌∙◌, arith}
use Rattle.std.specs.List.{Contains}
use Rattle.std.proofs.lemmas.Iterator.{YieldsList-from_slice, YieldsList-from_map}
use Rattle.std.proofs.lemmas.Iterator.Adapters.{serves_from_places}
use Rattle.std.proofs.lemmas.Iterator.Consumers.{YieldsList-at, sum_by_from_yields_List, fits_by_from_yields_list}
use Rattle.plan.specs.Content.{no_task}
use Rattle.plan.specs.Plans.{content}
use Rattle.plan.specs.Rules.{task_work}
use Rattle.plan.proofs.Counted.{total_list}
use Rattle.plan.proofs.Work.{work_small}
use Rattle.plan.proofs.model.Plan.work.Goals as goal

pub sum-requires-clause-can : goal.sum-requires-clause-can
sum-requires-clause-can c =
    let tasks = (content c.args.self.now).tasks in
    (tt, serves_from_places (YieldsList-from_slice tasks cc) (λ x q k. search (rules, tests)) (λ x k lt e. let held : Contains tasks x.now = (k, lt, sym e) in search rules))

pub sum-requires-clause-fits : goal.sum-requires-clause-fits
sum-requires-clause-fits c =
    let p = content c.args.self.now in
    fits_by_from_yields_list (task_work p) p.tasks c.map.result _ (YieldsList-from_map _ (task_work p) (YieldsList-at c.map.ensures.source (YieldsList-from_slice p.tasks cc)) c.map.ensures.closure (λ x r q k. search (rules, tests))) (omega (arith, work_small p c.args.self.now.kept))

pub returns : goal.returns
returns c =
    let p = content c.args.self.now in
    sum_by_from_yields_List (task_work p) p.tasks c.map.result _ c.sum.ensures.ran (YieldsList-from_map _ (task_work p) (YieldsList-at c.map.ensures.source (YieldsList-from_slice p.tasks cc)) c.map.ensures.closure (λ x r q k. search (rules, tests)))
    ∙ sym (total_list no_task (task_work p) p.tasks)

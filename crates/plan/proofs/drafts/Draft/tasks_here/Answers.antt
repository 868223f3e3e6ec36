use Rattle.std.proofs.Common.{◌≡◌, ◌-◌, cond, eqb, length, vec_items, sym, ◌∙◌, rules}
use Rattle.std.proofs.iter.runs.Made.{chains}
use Rattle.std.specs.List.{count_by}
use Rattle.plan.specs.declared.records.Task.{Task}
use Rattle.plan.specs.Content.{no_task}
use Rattle.plan.proofs.Counted.{total_list}
use Rattle.plan.proofs.drafts.Draft.tasks_here.Goals as goal

pub returns : goal.returns
returns c =
    let here = length (vec_items c.args.self.now.points) - 1 in
    let told : c.count.result ≡ count_by (λ (x : Task). eqb x.point here) (vec_items c.args.self.now.tasks) = search (rules, chains) in
    told ∙ sym (total_list no_task (λ x. cond (eqb x.point here) 1 0) (vec_items c.args.self.now.tasks))

use Rattle.std.proofs.Common.{rules}
use Rattle.plan.specs.Plans.{content}
use Rattle.plan.proofs.Work.{part_held}
use Rattle.plan.proofs.model.Plan.task_work.Goals as goal

pub offset_bounds-points-task : goal.offset_bounds-points-task
offset_bounds-points-task c = let p = part_held (content c.args.self.now) c.args.self.now.kept c.args.task.now c.requires.held in search rules

pub bounds-points-task : goal.bounds-points-task
bounds-points-task c = let p = part_held (content c.args.self.now) c.args.self.now.kept c.args.task.now c.requires.held in search rules

pub offset_bounds-tables-table : goal.offset_bounds-tables-table
offset_bounds-tables-table c = let p = part_held (content c.args.self.now) c.args.self.now.kept c.args.task.now c.requires.held in search rules

pub bounds-tables-table : goal.bounds-tables-table
bounds-tables-table c = let p = part_held (content c.args.self.now) c.args.self.now.kept c.args.task.now c.requires.held in search rules

pub overflow_mul-result : goal.overflow_mul-result
overflow_mul-result c = let p = part_held (content c.args.self.now) c.args.self.now.kept c.args.task.now c.requires.held in search rules

pub nonzero_div-result : goal.nonzero_div-result
nonzero_div-result c = let p = part_held (content c.args.self.now) c.args.self.now.kept c.args.task.now c.requires.held in search rules

-- A job, its limits, and when one job stands ahead of another. Assumes nothing.
use Rattle.std.specs.Prelude.{ℕ, ◌-◌, Bool, cond, not, ◌&&◌, ◌||◌, Some, None, Option, ◌==◌, nat_lt}
use Rattle.plan.specs.Limits.{max_tasks}
use Rattle.ready.specs.declared.job.Job.{Job}

-- Task numbers are below this: a plan has no more tasks.
abbrev pub task_limit : ℕ
task_limit = max_tasks

-- a stands ahead of b: its priority number is lower, or the priorities are equal and it was activated earlier.
abbrev pub ahead : Job → Job → Bool
ahead a b = nat_lt a.priority b.priority || (a.priority == b.priority && nat_lt a.activation b.activation)

-- a and b are tied: neither stands ahead, since priority and activation are equal.
abbrev pub tied : Job → Job → Bool
tied a b = not (ahead a b) && not (ahead b a)

-- A queue may hold j: its task number is below the limit, and a tick is left to run.
abbrev pub fit : Job → Bool
fit j = nat_lt j.task task_limit && nat_lt 0 j.left

-- j after it has run for one tick.
abbrev pub ticked : Job → Job
ticked j = record { task = j.task; priority = j.priority; activation = j.activation; left = j.left - 1 }

-- What stays of j in a queue: j itself, or nothing once no tick is left.
abbrev pub remaining : Job → Option Job
remaining j = cond (nat_lt 0 j.left) (Some j) None

use Rattle.std.proofs.Common.{◌≡◌, ℕ, ◌<◌, length, get_or, vec_items}
use Rattle.plan.specs.Plans.{content}
use Rattle.figures.specs.Worsts.{no_worst, WorstOf}
use Rattle.figures.proofs.search.figures.Given as goal

abbrev pub invariant-loop-task : goal.invariant-loop-task
invariant-loop-task l =
    (length (vec_items l.worsts) ≡ l.task)
    × ((t : ℕ) → t < l.task → WorstOf (content l.plan) t (get_or (vec_items l.worsts) t no_worst))

use Rattle.std.proofs.Common.{◌≡◌, ℕ, ◌<◌, length, get_or, vec_items}
use Rattle.plan.specs.Plans.{content}
use Rattle.figures.specs.Loads.{no_rivals}
use Rattle.figures.specs.Grouped.{GroupFor}
use Rattle.figures.proofs.groups.groups_of.Given as goal

abbrev pub invariant-loop-number : goal.invariant-loop-number
invariant-loop-number l =
    (length (vec_items l.groups) ≡ l.number)
    × ((i : ℕ) → i < l.number → GroupFor (content l.subject.plan.now) l.subject.task i (get_or (vec_items l.groups) i no_rivals))

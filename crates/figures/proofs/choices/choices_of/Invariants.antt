use Rattle.std.proofs.Common.{vec_items}
use Rattle.plan.specs.Plans.{content}
use Rattle.figures.specs.Choices.{Listed}
use Rattle.figures.proofs.choices.choices_of.Given as goal

abbrev pub invariant-loop-table : goal.invariant-loop-table
invariant-loop-table l = Listed (content l.plan).points l.own l.table (vec_items l.choices)

use Rattle.std.proofs.Common.{vec_items}
use Rattle.figures.proofs.Spreading.{Spreading}
use Rattle.figures.proofs.choices.with_table.Given as goal

abbrev pub invariant-loop-choice : goal.invariant-loop-choice
invariant-loop-choice l = Spreading l.points l.table l.choices (vec_items l.longer) l.choice-index 0

abbrev pub invariant-loop-point : goal.invariant-loop-point
invariant-loop-point l = Spreading l.points l.table l.choices (vec_items l.longer) l.choice-index l.point-index

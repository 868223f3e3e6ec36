use Rattle.std.proofs.Common.{◌+◌, vec_items, sym, subst}
use Rattle.figures.proofs.Spreading.{Spreading, spreading_row, spreading_skip, spreading_push, spreading_all}
use Rattle.figures.proofs.choices.with_table.Goals as goal
use Rattle.figures.proofs.choices.with_table.Goals.{then-point-table+in_ok-push, else-point-table}

pub loop-point-preserved : goal.loop-point-preserved
loop-point-preserved c =
    let row = c.loop-choice.choice-index in
    let j = c.loop-point.point-index in
    elim c.if-point-table.branch [
      | then-point-table+in_ok-push w ↦
          subst (λ v. Spreading c.args.points.now c.args.table c.args.choices.now (vec_items v) row (j + 1)) (sym w.longer-is)
          (spreading_push c.args.points.now c.args.table c.args.choices.now _ _ _ j _ c.loop-choice-test.true c.loop-point-test.true
          w.if-point-table.true w.from.ensures w.in_ok-push.ensures.items c.loop-point.invariant)
      | else-point-table w ↦
          subst (λ v. Spreading c.args.points.now c.args.table c.args.choices.now (vec_items v) row (j + 1)) (sym w.longer-is)
          (spreading_skip c.args.points.now c.args.table c.args.choices.now _ _ j w.if-point-table.false c.loop-point.invariant)
    ]

pub loop-choice-preserved : goal.loop-choice-preserved
loop-choice-preserved c =
    spreading_row c.args.points.now c.args.table c.args.choices.now _ _ _ c.loop-point-test.false c.loop-point.invariant

pub returns : goal.returns
returns c =
    spreading_all c.args.points.now c.args.table c.args.choices.now _ _ c.loop-choice-test.false c.loop-choice.invariant

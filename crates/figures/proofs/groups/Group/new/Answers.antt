use Rattle.std.proofs.Common.{◌+◌, refl, sym, ap, ◌∙◌, subst, vec_items, arith, rules}
use Rattle.plan.specs.Content.{holding, duration_of}
use Rattle.plan.specs.Plans.{content}
use Rattle.figures.proofs.Gathering.{Gathered, placed_read, lawful_read, gathered_elsewhere, gathered_less_urgent, gathered_take, gathered_fine}
use Rattle.figures.proofs.groups.Group.new.Goals as goal
use Rattle.figures.proofs.groups.Group.new.Goals.{then-point-table+then-other-priority+in_ok-push, else-point-table, else-point-table-via-then-point-table+else-other-priority, else-point-table-via-else-point-table}

pub offset_bounds-points-other : goal.offset_bounds-points-other
offset_bounds-points-other c =
    let at = (placed_read c.args.subject.now.plan.now refl c.points-points.ensures c.tasks-tasks.ensures c.loop-other.other-index c.loop-other-test.true).point_in in
    search rules

pub bounds-points-other : goal.bounds-points-other
bounds-points-other c = (placed_read c.args.subject.now.plan.now refl c.points-points.ensures c.tasks-tasks.ensures c.loop-other.other-index c.loop-other-test.true).point_in

pub overflow_sub-duration : goal.overflow_sub-duration
overflow_sub-duration c =
    let h = placed_read c.args.subject.now.plan.now refl c.points-points.ensures c.tasks-tasks.ensures c.loop-other.other-index c.loop-other-test.true in
    omega (arith, c.requires.lasting, h.within, ap (duration_of (content c.args.subject.now.plan.now)) c.if-point-table.true)

pub overflow_sub-duration-then-other-priority : goal.overflow_sub-duration-then-other-priority
overflow_sub-duration-then-other-priority c =
    let h = placed_read c.args.subject.now.plan.now refl c.points-points.ensures c.tasks-tasks.ensures c.loop-other.other-index c.loop-other-test.true in
    omega (arith, c.from.ensures, c.requires.lasting, h.within, ap (duration_of (content c.args.subject.now.plan.now)) c.if-point-table.true)

pub loop-other-preserved : goal.loop-other-preserved
loop-other-preserved c =
    let p = holding (content c.args.subject.now.plan.now).tables c.points-points.result.now c.tasks-tasks.result.now in
    let t = c.args.subject.now.task in
    let i = c.args.table in
    let k = c.loop-other.other-index in
    let h = placed_read c.args.subject.now.plan.now refl c.points-points.ensures c.tasks-tasks.ensures k c.loop-other-test.true in
    elim c.if-point-table.branch [
      | then-point-table+then-other-priority+in_ok-push w ↦
          let e = ap (duration_of p) w.if-point-table.true in
          subst (λ loads. Gathered p t i loads (k + 1)) (sym (ap vec_items w.loads-is ∙ w.in_ok-push.ensures.items))
          (gathered_take p t i (vec_items c.loop-other.loads) k _
          (record { leads = omega (arith, c.requires.lasting, w.from.ensures); costs = w.from-then-other-priority.ensures; ranks = refl })
          (record {
            leads = omega (arith, c.requires.lasting, w.from.ensures, h.within, e);
            costs = omega (arith, w.from-then-other-priority.ensures, h.cheap);
          })
          w.if-point-table.true w.if-other-priority.true c.loop-other.invariant)
      | else-point-table w ↦
          subst (λ v. Gathered p t i (vec_items v) (k + 1)) (sym w.loads-is)
          (elim w.else-point-table.branch [
            | else-point-table-via-then-point-table+else-other-priority w' ↦ gathered_less_urgent p t i _ k w'.if-other-priority.false c.loop-other.invariant
            | else-point-table-via-else-point-table w' ↦ gathered_elsewhere p t i _ k w'.if-point-table.false c.loop-other.invariant
          ])
    ]

pub invariant_of-result : goal.invariant_of-result
invariant_of-result c =
    gathered_fine (holding (content c.args.subject.now.plan.now).tables c.points-points.result.now c.tasks-tasks.result.now) c.args.subject.now.task c.args.table _ _ c.loop-other.other-index
    (lawful_read c.args.subject.now.plan.now refl c.points-points.ensures c.tasks-tasks.ensures) c.requires.table c.requires.lasting (omega arith) c.loop-other.invariant

use Rattle.std.proofs.Common.{◌+◌, length, sym, ap, subst, arith}
use Rattle.plan.specs.Plans.{content}
use Rattle.board.specs.Records.{record_of}
use Rattle.board.proofs.Activating.{Upto, upto_not, upto_due, due_is}
use Rattle.board.proofs.waiting.WaitingJobs.activate_due.Goals as goal
use Rattle.board.proofs.waiting.WaitingJobs.activate_due.Goals.{then-is_at, else-is_at}

pub loop-k-preserved : goal.loop-k-preserved
loop-k-preserved g c =
    let p = content c.args.plan.now in
    let recs = record_of c.args.tables.now.records in
    let jobs = g.Q.ReadyQueue.jobs in
    let q = c.args.self.now.queue in
    let k = c.loop-k.k in
    let tasks = c.tasks-task-items in
    let u = c.loop-k.invariant in
    elim c.if-is_at.branch [
      | then-is_at x ↦
          let due = due_is p recs tasks.result.now c.points.result.now c.point_at-point.result c.record_of.result k _ tasks.ensures c.points.ensures c.point_at-point.ensures c.record_of.ensures x.if-is_at.ensures c.loop-k-test.true in
          subst (λ v. Upto p recs c.args.tick jobs q (k + 1) v.queue) (sym x.self-is)
          (upto_due p recs c.args.tick jobs q k c.loop-k.self.queue x.activate.new.self.queue _ c.args.plan.now.kept (omega (arith, c.loop-k-test.true, ap length tasks.ensures)) due (rw tasks.ensures) x.activate.ensures u)
      | else-is_at x ↦
          let off = due_is p recs tasks.result.now c.points.result.now c.point_at-point.result c.record_of.result k _ tasks.ensures c.points.ensures c.point_at-point.ensures c.record_of.ensures x.if-is_at.ensures c.loop-k-test.true in
          subst (λ v. Upto p recs c.args.tick jobs q (k + 1) v.queue) (sym x.self-is) (upto_not p recs c.args.tick jobs q k _ off u)
    ]

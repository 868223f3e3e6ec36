use Rattle.std.proofs.Common.{length, sym, ap, arith}
use Rattle.plan.specs.Content.{task_at, task_count}
use Rattle.plan.specs.Plans.{content}
use Rattle.board.specs.Ticks.{past_due}
use Rattle.board.specs.Waits.{activation_of}
use Rattle.board.proofs.Activating.{first_more, first_found}
use Rattle.board.proofs.waiting.WaitingJobs.first_late.Goals as goal

pub returns-then-is_overdue : goal.returns-then-is_overdue
returns-then-is_overdue g c =
    let tasks = c.tasks-task-items in
    first_found (λ k. past_due c.args.made (task_at (content c.args.plan.now) k).deadline (activation_of (g.Q.ReadyQueue.jobs c.args.self.now.queue k)))
    c.loop-k.k (task_count (content c.args.plan.now)) c.loop-k.invariant (rw (← tasks.ensures, ← c.activation.ensures) (sym c.if-is_overdue.ensures)) (omega (arith, c.loop-k-test.true, ap length tasks.ensures))

pub loop-k-preserved : goal.loop-k-preserved
loop-k-preserved g c =
    let tasks = c.tasks-task-items in
    first_more (λ k. past_due c.args.made (task_at (content c.args.plan.now) k).deadline (activation_of (g.Q.ReadyQueue.jobs c.args.self.now.queue k)))
    c.loop-k.k c.loop-k.invariant (rw (← tasks.ensures, ← c.activation.ensures) (sym c.if-is_overdue.ensures))

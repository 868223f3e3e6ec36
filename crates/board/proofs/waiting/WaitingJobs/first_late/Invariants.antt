use Rattle.std.proofs.Common.{◌≡◌, None}
use Rattle.plan.specs.Content.{task_at}
use Rattle.plan.specs.Plans.{content}
use Rattle.board.specs.Ticks.{first_below, past_due}
use Rattle.board.specs.Waits.{activation_of}
use Rattle.board.proofs.waiting.WaitingJobs.first_late.Given as goal

abbrev pub invariant-loop-k : goal.invariant-loop-k
invariant-loop-k g l = first_below l.k (λ k. past_due l.made (task_at (content l.plan) k).deadline (activation_of (g.Q.ReadyQueue.jobs l.self.queue k))) ≡ None

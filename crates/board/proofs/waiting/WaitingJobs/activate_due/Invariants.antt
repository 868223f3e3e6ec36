use Rattle.plan.specs.Plans.{content}
use Rattle.board.specs.Records.{record_of}
use Rattle.board.proofs.Activating.{Upto}
use Rattle.board.proofs.waiting.WaitingJobs.activate_due.Given as goal

abbrev pub invariant-loop-k : goal.invariant-loop-k
invariant-loop-k g l = Upto (content l.plan) (record_of l.tables.records) l.tick g.Q.ReadyQueue.jobs l.initial.self.queue l.k l.self.queue

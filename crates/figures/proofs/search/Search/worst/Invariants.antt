use Rattle.std.proofs.Common.{ℕ, ◌<◌}
use Rattle.plan.specs.Plans.{content}
use Rattle.figures.specs.Worsts.{Attains}
use Rattle.figures.specs.Owns.{Topped}
use Rattle.figures.proofs.search.Search.worst.Given as goal

-- (`l.best` stands apart in the loop: its first part is the worst choice)
abbrev pub invariant-windows : goal.invariant-windows
invariant-windows l = record {
  attains : Attains (content l.self.subject.plan.now) l.self.subject.task l.best.0;
  tops : (x : ℕ) → x < l.x → Topped (content l.self.subject.plan.now) l.self.subject.task x l.best.0.figure;
}

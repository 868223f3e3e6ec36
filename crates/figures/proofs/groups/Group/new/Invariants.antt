use Rattle.std.proofs.Common.{vec_items}
use Rattle.plan.specs.Content.{holding}
use Rattle.plan.specs.Plans.{content}
use Rattle.figures.proofs.Gathering.{Gathered}
use Rattle.figures.proofs.groups.Group.new.Given as goal

abbrev pub invariant-loop-other : goal.invariant-loop-other
invariant-loop-other l = Gathered (holding (content l.subject.plan.now).tables l.points l.tasks) l.subject.task l.table (vec_items l.loads) l.other-index

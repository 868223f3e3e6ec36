use Rattle.std.proofs.Common.{refl, arith, rules}
use Rattle.plan.specs.Plans.{content}
use Rattle.plan.proofs.Work.{hyperperiod_law}
use Rattle.figures.proofs.Gathering.{placed_subject}
use Rattle.figures.proofs.windows.OwnFromRefSubject.from.Goals as goal

pub offset_bounds-points-tasks : goal.offset_bounds-points-tasks
offset_bounds-points-tasks c =
    let at = (placed_subject c.args.subject.now refl c.points.ensures c.tasks.ensures).point_in in
    search rules

pub bounds-points-tasks : goal.bounds-points-tasks
bounds-points-tasks c = (placed_subject c.args.subject.now refl c.points.ensures c.tasks.ensures).point_in

pub offset_bounds-tables-point : goal.offset_bounds-tables-point
offset_bounds-tables-point c =
    let at = (placed_subject c.args.subject.now c.tables.ensures c.points.ensures c.tasks.ensures).table_in in
    search rules

pub bounds-tables-point : goal.bounds-tables-point
bounds-tables-point c = (placed_subject c.args.subject.now c.tables.ensures c.points.ensures c.tasks.ensures).table_in

pub invariant_of-result : goal.invariant_of-result
invariant_of-result c =
    let h = placed_subject c.args.subject.now c.tables.ensures c.points.ensures c.tasks.ensures in record {
      inside = h.few;
      within = omega (arith, c.from.ensures, c.from-2.ensures, h.within);
      short = omega (arith, c.from-2.ensures, h.short);
      bounded = omega (arith, (hyperperiod_law (content c.args.subject.now.plan.now) c.args.subject.now.plan.now.kept).bound);
    }

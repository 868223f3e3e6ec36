use Rattle.std.proofs.Common.{◌≡◌, ◌+◌, ◌≤◌}
use Rattle.figures.specs.Loads.{most_of_table}
use Rattle.figures.specs.Ceilings.{greatest, part_at}
use Rattle.figures.proofs.groups.Group.peak.Given as goal

abbrev pub invariant-loop-point : goal.invariant-loop-point
invariant-loop-point l = record {
  value : l.most ≡ greatest l.point-index (part_at l.points l.table l.self (l.span.tick + l.span.ticks) (l.span.tick + 1));
  most : l.most ≤ most_of_table;
}

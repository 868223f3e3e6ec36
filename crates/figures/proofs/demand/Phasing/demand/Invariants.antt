use Rattle.std.proofs.Common.{◌≡◌, ◌+◌, ◌*◌, ◌≤◌, length, get_or}
use Rattle.theory.specs.Counting.{total}
use Rattle.figures.specs.Loads.{no_rivals, part_of, most_of_table}
use Rattle.figures.proofs.demand.Phasing.demand.Given as goal

abbrev pub invariant-loop-group : goal.invariant-loop-group
invariant-loop-group l = record {
  value : l.sum ≡ total (length l.yielded) (λ i. part_of (get_or l.self.groups.now i no_rivals) (get_or l.self.phases i 0) (l.span.tick + l.span.ticks) (l.span.tick + 1));
  most : l.sum ≤ length l.yielded * most_of_table;
}

use Rattle.std.proofs.Common.{◌≡◌, ◌+◌, ◌*◌, ◌≤◌, vec_items}
use Rattle.theory.specs.Counting.{total}
use Rattle.figures.specs.Loads.{most_of_table}
use Rattle.figures.specs.Ceilings.{top_of}
use Rattle.figures.proofs.search.Search.ceiling.Given as goal

abbrev pub invariant-loop-table : goal.invariant-loop-table
invariant-loop-table l = record {
  value : l.sum ≡ total l.table (top_of l.points (vec_items l.self.groups) l.window.own l.window.phase (l.span.tick + l.span.ticks) (l.span.tick + 1));
  most : l.sum ≤ l.table * most_of_table;
}

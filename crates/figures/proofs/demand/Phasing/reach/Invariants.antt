use Rattle.std.proofs.Common.{ℕ, ◌+◌, ◌-◌, ◌<◌, ◌≤◌, get_or}
use Rattle.figures.specs.Loads.{demand_of}
use Rattle.figures.proofs.demand.Phasing.reach.Given as goal

abbrev pub invariant-loop-ticks : goal.invariant-loop-ticks
invariant-loop-ticks l = record {
  some : 1 ≤ l.ticks;
  ends : l.tick + l.ticks ≤ l.fn.window.limit;
  unmet : (v : ℕ) → 1 ≤ v → v < l.ticks → l.tick + v < demand_of l.self.groups.now (λ i. get_or l.self.phases i 0) l.tick v;
}

abbrev pub decreases-loop-ticks : goal.decreases-loop-ticks
decreases-loop-ticks l = l.fn.window.limit - l.ticks

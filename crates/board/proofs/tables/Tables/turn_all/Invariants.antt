use Rattle.std.proofs.Common.{◌≡◌, ℕ, ◌<◌, ◌≤◌}
use Rattle.plan.specs.Content.{duration_of}
use Rattle.plan.specs.Plans.{content}
use Rattle.board.specs.Records.{record_of}
use Rattle.board.specs.Ticks.{turned}
use Rattle.board.proofs.tables.Tables.turn_all.Given as goal

abbrev pub invariant-loop-table : goal.invariant-loop-table
invariant-loop-table l =
    ((i : ℕ) → i < l.table → record_of l.self.records i ≡ turned l.tick (duration_of (content l.plan) i) (record_of l.initial.self.records i))
    × ((i : ℕ) → l.table ≤ i → record_of l.self.records i ≡ record_of l.initial.self.records i)

-- The tasks of a plan grouped by table, for the task whose figure is looked for. Assumes nothing.
use Rattle.std.specs.Prelude.{◌≡◌, ℕ, ◌-◌, ◌*◌, ◌<◌, cond, List, length, ◌==◌, slice_index_or}
use Rattle.theory.specs.Counting.{total}
use Rattle.theory.specs.Plans.{Plan}
use Rattle.theory.specs.Windows.{share}
use Rattle.plan.specs.Content.{Content, table_count, duration_of}
use Rattle.analysis.specs.Bridge.{plan_of}
use Rattle.figures.specs.Loads.{Rivals, no_rivals, activations, part_of}

-- what task k adds to the demand against a job of t, if it is a task of table i, and i has the phase φ: counted over z ticks if it is more urgent, over u if level
unfoldable pub addition : Plan → ℕ → ℕ → ℕ → ℕ → ℕ → ℕ → ℕ
addition p t i φ z u k = cond (p.tab k == i)
    (p.cost k * share p (p.pr t) k (activations (p.dur i) (p.dur i - 1 - p.pos k) φ z) (activations (p.dur i) (p.dur i - 1 - p.pos k) φ u))
    0

-- g holds the tasks of table i that count against a job of t
pub record GroupFor (c : Content) (t i : ℕ) (g : Rivals) : Type 0 where
  pub lasting : g.duration ≡ duration_of c i
  pub adds : (φ z u : ℕ) → part_of g φ z u ≡ total (plan_of c).tasks (addition (plan_of c) t i φ z u)

-- there is a group for each table
pub record Grouped (c : Content) (t : ℕ) (gs : List Rivals) : Type 0 where
  pub all : length gs ≡ table_count c
  pub each : (i : ℕ) → i < table_count c → GroupFor c t i (slice_index_or gs i no_rivals)

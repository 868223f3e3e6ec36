-- The demand of a window as the search counts it, table by table. Assumes nothing.
use Rattle.std.specs.Prelude.{ℕ, ◌+◌, ◌*◌, ◌/◌, ◌%◌, ◌<◌, ◌≤◌, cond, List, [], length, slice_index, slice_index_or, All, sum_by}
use Rattle.theory.specs.Counting.{total}
use Rattle.plan.specs.Limits.{max_duration, max_tasks, max_hyperperiod}
use Rattle.figures.specs.declared.loads.Load.{Load}

-- what a group of the code holds: a table's duration, and those of its tasks that count against a job
pub record Rivals : Type 0 where
  pub duration : ℕ
  pub loads : List Load

-- what a list is taken to have past its end
abbrev pub no_rivals : Rivals
no_rivals = record { duration = 0; loads = [] }

-- how often a task is activated in the first z ticks of a window, from the phase φ of its table: its position is `ahead` ticks before the last one of a round
abbrev pub activations : ℕ → ℕ → ℕ → ℕ → ℕ
activations D ahead φ z = ((φ + ahead) % D + z) / D

-- what one task adds to the demand: counted over z ticks if it is more urgent, over u ticks if it is not
unfoldable pub term_of : ℕ → Load → ℕ → ℕ → ℕ → ℕ
term_of D l φ z u = l.cost * activations D l.lead φ (cond l.above z u)

-- what the tasks of one table add, if the table has the phase φ
abbrev pub part_of : Rivals → ℕ → ℕ → ℕ → ℕ
part_of g φ z u = sum_by (λ l. term_of g.duration l φ z u) g.loads

-- what all tables add in a window whose job is activated in tick x and takes y ticks
unfoldable pub demand_of : List Rivals → (ℕ → ℕ) → ℕ → ℕ → ℕ
demand_of gs φ x y = total (length gs) (λ i. part_of (slice_index_or gs i no_rivals) (φ i) (x + y) (x + 1))

-- the numbers of one task are small
pub record Small (D : ℕ) (l : Load) : Type 0 where
  pub leads : l.lead < D
  pub costs : l.cost ≤ max_duration

-- the numbers of one table are small
pub record Fine (g : Rivals) : Type 0 where
  pub lasts : 0 < g.duration
  pub short : g.duration ≤ max_duration
  pub few : length g.loads ≤ max_tasks
  pub small : All (Small g.duration) g.loads

-- each table has a phase within its duration
pub record Phased (gs : List Rivals) (phases : List ℕ) : Type 0 where
  pub enough : length gs ≤ length phases
  pub below : (i : ℕ) → i < length gs → slice_index phases i < (slice_index_or gs i no_rivals).duration

-- the most that one task can add in a window of the hyperperiod
abbrev pub most_of_task : ℕ
most_of_task = max_duration * (max_duration + max_hyperperiod)

-- the most that one table can add
abbrev pub most_of_table : ℕ
most_of_table = max_tasks * most_of_task

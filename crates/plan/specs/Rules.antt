-- The rules that every plan keeps, its hyperperiod and its work. Assumes nothing.
use Rattle.std.specs.Prelude.{◌≡◌, ℕ, ◌-◌, ◌*◌, ◌/◌, ◌%◌, ◌<◌, ◌≤◌, Bool, ◌&&◌, ◌||◌, List, length, Option, ◌==◌, nat_le, nat_lt, slice_index, slice_index_or}
use Rattle.std.specs.Bool.{then_some}
use Rattle.plan.specs.Limits.{max_tables, max_duration, max_points, max_tasks_of_point, max_tasks, max_hyperperiod, name_length, first_name_byte, last_name_byte}
use Rattle.theory.specs.Counting.{in_range, each, total, least}
use Rattle.plan.specs.declared.records.Table.{Table}
use Rattle.plan.specs.declared.records.Task.{Task}
use Rattle.plan.specs.Content.{Content, no_table, table_count, point_count, task_count, duration_of, table_of_point, position_of_point, task_at, table_of, points_of, tasks_of}

-- d divides h; 0 divides nothing here
abbrev pub divides : ℕ → ℕ → Bool
divides d h = nat_lt 0 d && h % d == 0

-- h is a multiple of every table's duration
abbrev pub common_to : List Table → ℕ → Bool
common_to tables h = each (length tables) (λ i. divides (slice_index_or tables i no_table).duration h)

-- the least common multiple of the durations, or 0 if it is above the limit
abbrev pub least_common : List Table → ℕ
least_common tables = least max_hyperperiod (common_to tables)

abbrev pub hyperperiod_of : Content → ℕ
hyperperiod_of c = least_common c.tables

-- the hyperperiod where there is one
abbrev pub hyperperiod_found : Content → Option ℕ
hyperperiod_found c = then_some (nat_lt 0 (hyperperiod_of c)) (hyperperiod_of c)

-- the same in other words: a common multiple, and no smaller one above 0
pub record LeastCommonMultiple (c : Content) (h : ℕ) : Type 0 where
  pub some : 0 < h
  pub bound : h ≤ max_hyperperiod
  pub multiple : (i : ℕ) → i < table_count c → h % duration_of c i ≡ 0
  pub smallest : (m : ℕ) → 0 < m → ((i : ℕ) → i < table_count c → m % duration_of c i ≡ 0) → h ≤ m

-- the processor time that a task asks for in one hyperperiod, and that all tasks ask for
abbrev pub task_work : Content → Task → ℕ
task_work c t = t.execution * hyperperiod_of c / duration_of c (table_of_point c t.point)

abbrev pub work_of : Content → ℕ
work_of c = total (task_count c) (λ k. task_work c (task_at c k))

abbrev pub good_name : List ℕ → Bool
good_name name = length name == name_length && each name_length (λ i. in_range first_name_byte last_name_byte (slice_index name i))

-- a table has 1 to 8 points
abbrev pub table_rule : Content → ℕ → Bool
table_rule c i = in_range 1 max_duration (duration_of c i) && in_range 1 max_points (points_of c i)

-- point j stands after point i: in a later table, or later in the same one
abbrev pub after : Content → ℕ → ℕ → Bool
after c i j = nat_lt (table_of_point c i) (table_of_point c j)
    || (table_of_point c i == table_of_point c j && nat_lt (position_of_point c i) (position_of_point c j))

-- a point lies within its table and after the point before it, and has 1 to 4 tasks
abbrev pub point_rule : Content → ℕ → Bool
point_rule c j =
    nat_lt (table_of_point c j) (table_count c)
    && nat_lt (position_of_point c j) (duration_of c (table_of_point c j))
    && (j == 0 || after c (j - 1) j)
    && in_range 1 max_tasks_of_point (tasks_of c j)

-- a task's point is not before that of the task before it, and 1 ≤ execution ≤ deadline ≤ duration; a priority is a byte
abbrev pub task_rule : Content → ℕ → Bool
task_rule c k =
    nat_lt (task_at c k).point (point_count c)
    && (k == 0 || nat_le (task_at c (k - 1)).point (task_at c k).point)
    && good_name (task_at c k).name
    && nat_le 1 (task_at c k).execution
    && nat_le (task_at c k).execution (task_at c k).deadline
    && nat_le (task_at c k).deadline (duration_of c (table_of c k))

abbrev pub lawful : Content → Bool
lawful c =
    in_range 1 max_tables (table_count c)
    && each (table_count c) (table_rule c)
    && each (point_count c) (point_rule c)
    && nat_le (task_count c) max_tasks
    && each (task_count c) (task_rule c)
    && nat_lt 0 (hyperperiod_of c)

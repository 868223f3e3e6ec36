-- What a plan holds, by index: tables, expiry points and tasks in file order. Assumes nothing.
use Rattle.std.specs.Prelude.{ℕ, List, [], length, get_or, nat_eq, slice_index_or}
use Rattle.theory.specs.Counting.{count}
use Rattle.plan.specs.declared.records.Table.{Table}
use Rattle.plan.specs.declared.records.Point.{Point}
use Rattle.plan.specs.declared.records.Task.{Task}

pub record Content : Type 0 where
  pub tables : List Table
  pub points : List Point
  pub tasks : List Task

abbrev pub holding : List Table → List Point → List Task → Content
holding ts ps ks = record { tables = ts; points = ps; tasks = ks }

-- what a list is taken to have past its end
abbrev pub no_table : Table
no_table = record { duration = 0 }

abbrev pub no_point : Point
no_point = record { table = 0; position = 0 }

abbrev pub no_task : Task
no_task = record { point = 0; name = []; execution = 0; deadline = 0; priority = 0 }

abbrev pub table_count : Content → ℕ
table_count c = length c.tables

abbrev pub point_count : Content → ℕ
point_count c = length c.points

abbrev pub task_count : Content → ℕ
task_count c = length c.tasks

-- table i
abbrev pub duration_of : Content → ℕ → ℕ
duration_of c i = (get_or c.tables i no_table).duration

-- expiry point j
abbrev pub table_of_point : Content → ℕ → ℕ
table_of_point c j = (get_or c.points j no_point).table

abbrev pub position_of_point : Content → ℕ → ℕ
position_of_point c j = (get_or c.points j no_point).position

-- task k
abbrev pub task_at : Content → ℕ → Task
task_at c k = slice_index_or c.tasks k no_task

abbrev pub table_of : Content → ℕ → ℕ
table_of c k = table_of_point c (task_at c k).point

abbrev pub position_of : Content → ℕ → ℕ
position_of c k = position_of_point c (task_at c k).point

-- how many points table i has, and how many tasks point j has
abbrev pub points_of : Content → ℕ → ℕ
points_of c i = count (point_count c) (λ j. nat_eq (table_of_point c j) i)

abbrev pub tasks_of : Content → ℕ → ℕ
tasks_of c j = count (task_count c) (λ k. nat_eq (task_at c k).point j)

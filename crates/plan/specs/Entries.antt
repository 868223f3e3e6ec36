-- What the commands of a plan file say, which rows one breaks, and what it adds. Assumes nothing.
use Rattle.std.specs.Prelude.{ℕ, ◌+◌, ◌-◌, Bool, false, cond, not, ◌&&◌, ◌||◌, List, [], ◌∷◌, ◌++◌, Some, None, Option, ◌==◌, nat_le, nat_lt}
use Rattle.plan.specs.declared.faults.Row.{Row}
use Rattle.plan.specs.declared.faults.Row.TheVariants.{TooSoon, Unfinished, TooMany, OutOfRange, NotRising, Hyperperiod}
use Rattle.plan.specs.Limits.{max_tables, max_duration, max_points, max_tasks_of_point, max_tasks}
use Rattle.theory.specs.Counting.{in_range}
use Rattle.plan.specs.Content.{Content, holding, table_count, point_count, task_count, duration_of, position_of_point, points_of, tasks_of}
use Rattle.plan.specs.Rules.{hyperperiod_of, good_name}

-- what one command says: T, P, D, J or E with its operands
pub data Entry : Type 0 where
  set_table : (duration : ℕ) → Entry
  set_point : (position : ℕ) → Entry
  set_delay : (ticks : ℕ) → Entry
  set_task : (name : List ℕ) (execution deadline priority : ℕ) → Entry
  ends : Entry

-- a plan before its first command
abbrev pub blank : Content
blank = holding [] [] []

-- of the last table: its duration and how many points it has
abbrev pub duration_here : Content → ℕ
duration_here c = duration_of c (table_count c - 1)

abbrev pub points_here : Content → ℕ
points_here c = points_of c (table_count c - 1)

-- of the last point: its position and how many tasks it has
abbrev pub position_here : Content → ℕ
position_here c = position_of_point c (point_count c - 1)

-- the position so many ticks after the last point, if it lies within the table
abbrev pub position_after : Content → ℕ → Option ℕ
position_after c n = cond (nat_le (duration_here c) (position_here c + n)) None (Some (position_here c + n))

abbrev pub tasks_here : Content → ℕ
tasks_here c = tasks_of c (point_count c - 1)

-- there is no table, or no point of the last one
abbrev pub no_point_yet : Content → Bool
no_point_yet c = table_count c == 0 || points_here c == 0

-- the last table has no point
abbrev pub empty_table : Content → Bool
empty_table c = nat_lt 0 (table_count c) && points_here c == 0

-- the last point has no task
abbrev pub empty_point : Content → Bool
empty_point c = nat_lt 0 (point_count c) && tasks_here c == 0

abbrev pub too_soon : Content → Entry → Bool
too_soon c (set_table d) = false
too_soon c (set_point p) = table_count c == 0
too_soon c (set_delay n) = no_point_yet c
too_soon c (set_task name e d l) = no_point_yet c
too_soon c ends = false

abbrev pub unfinished : Content → Entry → Bool
unfinished c (set_table d) = empty_table c || empty_point c
unfinished c (set_point p) = empty_point c
unfinished c (set_delay n) = empty_point c
unfinished c (set_task name e d l) = false
unfinished c ends = table_count c == 0 || empty_table c || empty_point c

abbrev pub too_many : Content → Entry → Bool
too_many c (set_table d) = nat_le max_tables (table_count c)
too_many c (set_point p) = nat_le max_points (points_here c)
too_many c (set_delay n) = nat_le max_points (points_here c)
too_many c (set_task name e d l) = nat_le max_tasks (task_count c) || nat_le max_tasks_of_point (tasks_here c)
too_many c ends = false

abbrev pub out_of_range : Content → Entry → Bool
out_of_range c (set_table d) = not (in_range 1 max_duration d)
out_of_range c (set_point p) = nat_le (duration_here c) p
out_of_range c (set_delay n) = n == 0 || nat_le (duration_here c) (position_here c + n)
out_of_range c (set_task name e d l) = not (good_name name && nat_le 1 e && nat_le e d && nat_le d (duration_here c))
out_of_range c ends = false

-- a point is not above the one before it in its table
abbrev pub not_rising : Content → Entry → Bool
not_rising c (set_table d) = false
not_rising c (set_point p) = nat_lt 0 (points_here c) && nat_le p (position_here c)
not_rising c (set_delay n) = false
not_rising c (set_task name e d l) = false
not_rising c ends = false

-- at the end, the durations have no common multiple up to the limit
abbrev pub over_hyperperiod : Content → Entry → Bool
over_hyperperiod c (set_table d) = false
over_hyperperiod c (set_point p) = false
over_hyperperiod c (set_delay n) = false
over_hyperperiod c (set_task name e d l) = false
over_hyperperiod c ends = hyperperiod_of c == 0

-- the first row whose test holds
abbrev pub first_row : List (Bool × Row) → Option Row
first_row [] = None
first_row ((test, row) ∷ rows) = cond test (Some row) (first_row rows)

-- the rows that speak of what the plan holds so far, in their order
abbrev pub plan_rows : Content → Entry → List (Bool × Row)
plan_rows c e =
    (too_soon c e, TooSoon) ∷
    (unfinished c e, Unfinished) ∷
    (too_many c e, TooMany) ∷
    (out_of_range c e, OutOfRange) ∷
    (not_rising c e, NotRising) ∷
    (over_hyperperiod c e, Hyperperiod) ∷ []

abbrev pub with_point : Content → ℕ → Content
with_point c p = holding c.tables (c.points ++ record { table = table_count c - 1; position = p } ∷ []) c.tasks

abbrev pub with_task : Content → List ℕ → ℕ → ℕ → ℕ → Content
with_task c name e d l =
    holding c.tables c.points (c.tasks ++ record { point = point_count c - 1; name = name; execution = e; deadline = d; priority = l } ∷ [])

-- what the plan holds after the command
abbrev pub added : Content → Entry → Content
added c (set_table d) = holding (c.tables ++ record { duration = d } ∷ []) c.points c.tasks
added c (set_point p) = with_point c p
added c (set_delay n) = with_point c (position_here c + n)
added c (set_task name e d l) = with_task c name e d l
added c ends = c

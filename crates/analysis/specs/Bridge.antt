-- A plan and a drive as the theory sees them: plain functions of an index. Assumes nothing.
use Rattle.std.specs.Prelude.{ℕ, ◌&&◌, List, length, Some, None, Option, nat_lt}
use Rattle.theory.specs.Plans.{Plan}
use Rattle.theory.specs.Runs.{Run}
use Rattle.plan.specs.Content.{Content, table_count, task_count, duration_of, table_of, position_of, task_at}
use Rattle.plan.specs.Rules.{hyperperiod_of}
use Rattle.ready.specs.declared.job.Job.{Job}
use Rattle.board.specs.Models.{Model}
use Rattle.board.specs.Ticks.{turned_tables, runs_at}
use Rattle.board.specs.Drives.{Moment}
use Rattle.board.specs.Laws.{moment_of, board_at}

abbrev pub plan_of : Content → Plan
plan_of c = record {
  tasks = task_count c;
  tables = table_count c;
  tab = table_of c;
  pos = position_of c;
  cost = λ k. (task_at c k).execution;
  deadline = λ k. (task_at c k).deadline;
  pr = λ k. (task_at c k).priority;
  dur = duration_of c;
  hyper = hyperperiod_of c;
}

-- the ticks that a job has left, 0 where there is none
abbrev pub left_of : Option Job → ℕ
left_of None = 0
left_of (Some j) = j.left

abbrev pub since_of : Option Job → ℕ
since_of None = 0
since_of (Some j) = j.activation

-- The answered ticks of a drive that leads to the board z. After the last one no table runs.
abbrev pub run_of : Content → List Moment → Model → Run
run_of c moments z = record {
  runs = λ i τ q. nat_lt τ (length moments) && runs_at q (turned_tables c (moment_of moments τ).board i).state;
  left = λ τ k. left_of ((board_at moments z τ).jobs k);
  since = λ τ k. since_of ((board_at moments z τ).jobs k);
}

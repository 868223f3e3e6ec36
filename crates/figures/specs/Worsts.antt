-- What the figures of a plan are: for each task its figure, with a choice that attains it. Assumes nothing.
use Rattle.std.specs.Prelude.{◌≡◌, ℕ, ◌<◌, ◌≤◌, [], Some, None, Ok, Err, vec_items, vec_len, Option, Result, Vec, slice_index, slice_index_or}
use Rattle.std.specs.declared.alloc.AllocError.{AllocError}
use Rattle.std.specs.declared.alloc.Global.{Global}
use Rattle.theory.specs.Windows.{Choice, Reach, Figure}
use Rattle.plan.specs.Content.{Content, table_count, task_count, duration_of}
use Rattle.plan.specs.Rules.{hyperperiod_of, work_of}
use Rattle.figures.specs.declared.worst.Worst.{Worst}
use Rattle.analysis.specs.Bridge.{plan_of}

-- what a list is taken to have past its end
abbrev pub no_worst : Worst
no_worst = record { figure = 0; tick = 0; phases = [] }

-- the phase of table i
abbrev pub phase_of : Worst → ℕ → ℕ
phase_of w i = slice_index w.phases i

-- the choice with its reach: every phase lies within its table, and past the last table stands 0
pub record Attains (c : Content) (t : ℕ) (w : Worst) : Type 0 where
  pub choice : Choice (plan_of c) t w.tick (phase_of w)
  pub reach : Reach (plan_of c) t w.tick (phase_of w) w.figure
  pub within : (i : ℕ) → i < table_count c → phase_of w i < duration_of c i
  pub rest : (i : ℕ) → table_count c ≤ i → phase_of w i ≡ 0

-- the figure of task t, with a choice that attains it
pub record WorstOf (c : Content) (t : ℕ) (w : Worst) : Type 0 where
  pub choice : Choice (plan_of c) t w.tick (phase_of w)
  pub reach : Reach (plan_of c) t w.tick (phase_of w) w.figure
  pub figure : Figure (plan_of c) t w.figure
  pub within : (i : ℕ) → i < table_count c → phase_of w i < duration_of c i
  pub rest : (i : ℕ) → table_count c ≤ i → phase_of w i ≡ 0

-- the figures of all tasks of a plan that is not overloaded
pub record AllWorst (c : Content) (v : Vec Worst Global) : Type 0 where
  pub light : work_of c ≤ hyperperiod_of c
  pub all : vec_len v ≡ task_count c
  pub each : (t : ℕ) → t < task_count c → WorstOf c t (slice_index_or (vec_items v) t no_worst)

-- none exactly if the plan is overloaded
abbrev pub Found : Content → Option (Vec Worst Global) → Type 0
Found c None = hyperperiod_of c < work_of c
Found c (Some v) = AllWorst c v

-- want of memory tells nothing
abbrev pub Figured : Content → Result (Option (Vec Worst Global)) AllocError → Type 0
Figured c (Ok o) = Found c o
Figured c (Err e) = Unit {0}

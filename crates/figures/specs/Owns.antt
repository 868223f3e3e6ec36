-- The own table of the task whose figure is looked for, and its windows. Assumes nothing.
use Rattle.std.specs.Prelude.{◌≡◌, ℕ, ◌+◌, ◌%◌, ◌<◌, ◌≤◌, true, List}
use Rattle.theory.specs.Windows.{Choice, Reach}
use Rattle.plan.specs.Content.{Content, task_count, duration_of, table_of, position_of}
use Rattle.plan.specs.Rules.{lawful, hyperperiod_of, work_of}
use Rattle.figures.specs.declared.windows.Own.{Own}
use Rattle.figures.specs.declared.windows.Window.{Window}
use Rattle.figures.specs.Choices.{ListedFor}
use Rattle.figures.specs.Loads.{Rivals}
use Rattle.figures.specs.Grouped.{Grouped}
use Rattle.analysis.specs.Bridge.{plan_of}

-- o is the own table of task t, with t's position in it
pub record OwnOf (c : Content) (t : ℕ) (o : Own) : Type 0 where
  pub table : o.table ≡ table_of c t
  pub position : o.position ≡ position_of c t
  pub duration : o.duration ≡ duration_of c (table_of c t)
  pub limit : o.limit ≡ hyperperiod_of c

-- all that the search for the figure of t begins with: a plan that is not overloaded, its tasks in groups, the choices, and t's own table
pub record Prepared (c : Content) (t : ℕ) (gs : List Rivals) (choices : List (List ℕ)) (o : Own) : Type 0 where
  pub kept : lawful c ≡ true
  pub task : t < task_count c
  pub light : work_of c ≤ hyperperiod_of c
  pub grouped : Grouped c t gs
  pub listed : ListedFor c t choices
  pub own : OwnOf c t o

-- w is the window in which the task is activated in tick x: its own table has the phase that brings it to the task's position then
pub record WindowOf (o : Own) (x : ℕ) (w : Window) : Type 0 where
  pub ticks : w.tick ≡ x
  pub owns : w.own ≡ o.table
  pub limits : w.limit ≡ o.limit
  pub below : w.phase < o.duration
  pub meets : (w.phase + x) % o.duration ≡ o.position

-- no choice with this x has a reach above f
abbrev pub Topped : Content → ℕ → ℕ → ℕ → Type 0
Topped c t x f = (φ : ℕ → ℕ) (y : ℕ) → Choice (plan_of c) t x φ → Reach (plan_of c) t x φ y → y ≤ f

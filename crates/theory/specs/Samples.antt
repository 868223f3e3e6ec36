-- Three small plans, and runs of them, that meet the hypotheses of the theorems. Assumes nothing.
use Rattle.std.specs.Prelude.{ℕ, zero, suc, ◌<◌, ◌≤◌}
use Rattle.theory.specs.Plans.{Plan, Lawful, work}
use Rattle.theory.specs.Windows.{Choice, Reach, Figure, Passes}
use Rattle.theory.specs.Runs.{Run, Rounds, Steps, Serves, Watches, Turns}

-- a at 0, b elsewhere
abbrev pub two : ℕ → ℕ → ℕ → ℕ
two a b zero = a
two a b (suc k) = b

-- Two tables of 2 and 4 ticks with a task each: task 0 needs 1 tick at once, and task 1, less urgent, needs cost ticks within deadline ticks.
abbrev pub sample : ℕ → ℕ → Plan
sample cost deadline = record {
  tasks = 2;
  tables = 2;
  tab = two 0 1;
  pos = two 0 1;
  cost = two 1 cost;
  deadline = two 1 deadline;
  pr = two 0 1;
  dur = two 2 4;
  hyper = 4;
}

-- fully loaded, with every figure equal to its deadline
abbrev pub full : Plan
full = sample 2 4

-- one figure above its deadline
abbrev pub tight : Plan
tight = sample 2 3

-- overloaded
abbrev pub heavy : Plan
heavy = sample 3 4

-- each table at the position of its task: table 0 at 0 and table 1 at 1
abbrev pub together : ℕ → ℕ
together = two 0 1

-- What the upper bound, safety and exactness suppose: a plan that passes, a choice for task 1 that attains its figure, 4, and a run of 5 ticks that has
-- its phases from tick 1 on.
pub record FullRun (r : Run) : Type 0 where
  pub lawful : Lawful full
  pub light : work full ≤ full.hyper
  pub passes : Passes full
  pub steps : Steps full r
  pub rounds : Rounds full r
  pub serves : Serves full r 5
  pub watches : Watches full r 1 5
  pub choice : Choice full 1 0 together
  pub reach : Reach full 1 0 together 4
  pub figure : Figure full 1 4
  pub turns : Turns full r 1 together 4

-- What exposure supposes: a reach of 4 with a deadline of 3, and such a run of 4 ticks.
pub record TightRun (r : Run) : Type 0 where
  pub lawful : Lawful tight
  pub light : work tight ≤ tight.hyper
  pub steps : Steps tight r
  pub rounds : Rounds tight r
  pub serves : Serves tight r 4
  pub watches : Watches tight r 1 4
  pub choice : Choice tight 1 0 together
  pub reach : Reach tight 1 0 together 4
  pub late : tight.deadline 1 < 4
  pub turns : Turns tight r 1 together 3

-- What overrun supposes: more work than ticks, and a run of (1 + 3 + 1) × 4 ticks in which all tables turn.
pub record HeavyRun (r : Run) : Type 0 where
  pub lawful : Lawful heavy
  pub over : heavy.hyper < work heavy
  pub steps : Steps heavy r
  pub rounds : Rounds heavy r
  pub serves : Serves heavy r 20
  pub turns : Turns heavy r 0 (λ i. 0) 20

-- There are such runs.
abbrev pub HypothesesMet : Type 0
HypothesesMet = ((r : Run) × FullRun r) × ((r : Run) × TightRun r) × ((r : Run) × HeavyRun r)

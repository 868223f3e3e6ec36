-- What every board keeps that was opened and driven: how its tables and jobs hang together. Assumes nothing.
use Rattle.std.specs.Prelude.{◌≡◌, ℕ, ◌+◌, ◌<◌, ◌≤◌, ◌⊎◌, Some, None}
use Rattle.plan.specs.Content.{Content, table_count, task_count, duration_of, table_of, position_of, task_at}
use Rattle.ready.specs.declared.job.Job.{Job}
use Rattle.board.specs.declared.records.TableState.{TableState}
use Rattle.board.specs.declared.records.TableState.TheVariants.{Stopped, Waiting, Running}
use Rattle.board.specs.Models.{Model}

-- After so many ticks the last one was ticks - 1. A running table began its round at ticks - 1 - q, a waiting one
-- will begin it at ticks + w - 1; the earliest tick for the next round lies a duration later.
abbrev pub TableSound : ℕ → ℕ → ℕ → TableState → Type 0
TableSound ticks duration earliest Stopped = Unit {0}
TableSound ticks duration earliest (Waiting w) = (1 ≤ w) × (earliest + 1 ≡ ticks + w + duration)
TableSound ticks duration earliest (Running q) = (q < duration) × (q < ticks) × (earliest + q + 1 ≡ ticks + duration)

-- The round that activated a job began at activation - position. It is the table's running round, or lies at least a
-- duration before that one, before the round that is waited for, or before the earliest tick for the next.
abbrev pub Spaced : ℕ → ℕ → ℕ → ℕ → ℕ → TableState → Type 0
Spaced activation position ticks duration earliest Stopped = activation + duration ≤ earliest + position
Spaced activation position ticks duration earliest (Waiting w) = activation + duration + 1 ≤ ticks + w + position
Spaced activation position ticks duration earliest (Running q) =
    (activation + q + 1 ≡ ticks + position) ⊎ (activation + duration + q + 1 ≤ ticks + position)

-- a job of task k that is held
pub record JobSound (c : Content) (m : Model) (k : ℕ) (j : Job) : Type 0 where
  pub task : k < task_count c
  pub number : j.task ≡ k
  pub some : 1 ≤ j.left
  pub priority : j.priority ≡ (task_at c k).priority
  pub left : j.left ≤ (task_at c k).execution
  pub past : j.activation < m.ticks
  pub round : position_of c k ≤ j.activation
  pub due : m.late ≡ None → m.ticks < j.activation + (task_at c k).deadline
  pub spaced : Spaced j.activation (position_of c k) m.ticks (duration_of c (table_of c k)) (m.tables (table_of c k)).earliest (m.tables (table_of c k)).state

pub record Sound (c : Content) (m : Model) : Type 0 where
  pub tables : (i : ℕ) → i < table_count c → TableSound m.ticks (duration_of c i) (m.tables i).earliest (m.tables i).state
  pub rest : (i : ℕ) → table_count c ≤ i → (m.tables i).state ≡ Stopped
  pub jobs : (k : ℕ) (j : Job) → m.jobs k ≡ Some j → JobSound c m k j

-- A plan by index, what makes it lawful, and its work. Assumes nothing.
use Rattle.std.specs.Prelude.{◌≡◌, ℕ, ◌*◌, ◌/◌, ◌%◌, ◌<◌, ◌≤◌}
use Rattle.theory.specs.Counting.{total}

-- Tasks 0, 1, .. and tables 0, 1, ..: task k is activated by table tab k at position pos k, and its job needs cost k ticks within deadline k ticks.
-- The lower pr k, the more urgent is task k. Table i repeats itself every dur i ticks, and all tables together every hyper ticks.
pub record Plan : Type 0 where
  pub tasks : ℕ
  pub tables : ℕ
  pub tab : ℕ → ℕ
  pub pos : ℕ → ℕ
  pub cost : ℕ → ℕ
  pub deadline : ℕ → ℕ
  pub pr : ℕ → ℕ
  pub dur : ℕ → ℕ
  pub hyper : ℕ

-- the duration of the table that activates task k
abbrev pub period : Plan → ℕ → ℕ
period p k = p.dur (p.tab k)

-- The rules of a plan: every table has a duration that divides the hyperperiod and at least one task, and every task lies within its table
-- and has 1 ≤ cost ≤ deadline ≤ duration of its table.
pub record Lawful (p : Plan) : Type 0 where
  pub some : 0 < p.hyper
  pub lasts : (i : ℕ) → i < p.tables → 0 < p.dur i
  pub divides : (i : ℕ) → i < p.tables → p.hyper % p.dur i ≡ 0
  pub busy : (i : ℕ) → i < p.tables → (k : ℕ) × (k < p.tasks) × (p.tab k ≡ i)
  pub table_in : (k : ℕ) → k < p.tasks → p.tab k < p.tables
  pub position_in : (k : ℕ) → k < p.tasks → p.pos k < period p k
  pub costs : (k : ℕ) → k < p.tasks → 1 ≤ p.cost k
  pub fits : (k : ℕ) → k < p.tasks → p.cost k ≤ p.deadline k
  pub due : (k : ℕ) → k < p.tasks → p.deadline k ≤ period p k

-- the processor time that all tasks ask for in one hyperperiod
abbrev pub work : Plan → ℕ
work p = total p.tasks (λ k. p.cost k * p.hyper / period p k)

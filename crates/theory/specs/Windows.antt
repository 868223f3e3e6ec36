-- Windows, in which all tables turn without pause: demand, reach and figure. Assumes nothing.
use Rattle.std.specs.Prelude.{◌≡◌, ℕ, ◌+◌, ◌*◌, ◌%◌, ◌<◌, ◌≤◌, cond, ◌==◌, ◌≢◌, nat_eq, nat_lt}
use Rattle.theory.specs.Counting.{total, count}
use Rattle.theory.specs.Plans.{Plan, period}

-- the position in window tick τ of a table with this duration that turns without pause from the phase φ
abbrev pub turned : ℕ → ℕ → ℕ → ℕ
turned duration φ τ = (φ + τ) % duration

-- how often task k is activated in the first z ticks of the window, where table i has the phase φ i
abbrev pub hits : Plan → (ℕ → ℕ) → ℕ → ℕ → ℕ
hits p φ k z = count z (λ τ. nat_eq (turned (period p k) (φ (p.tab k)) τ) (p.pos k))

-- A choice for task t: a tick x of the window in which t is activated, and the phases. Its own table has the phase that brings it to t's position
-- in tick x, and every other table begins the window at the position of one of its tasks.
pub record Choice (p : Plan) (t x : ℕ) (φ : ℕ → ℕ) : Type 0 where
  pub early : x < p.hyper
  pub within : φ (p.tab t) < period p t
  pub meets : turned (period p t) (φ (p.tab t)) x ≡ p.pos t
  pub others : (i : ℕ) → i < p.tables → (i ≢ p.tab t) → (k : ℕ) × (k < p.tasks) × (p.tab k ≡ i) × (φ i ≡ p.pos k)

-- what counts of task k for a job with priority number l: v if k is more urgent, u if it has the same number, else nothing
abbrev pub share : Plan → ℕ → ℕ → ℕ → ℕ → ℕ
share p l k v u = cond (nat_lt (p.pr k) l) v (cond (p.pr k == l) u 0)

-- The execution time that stands against the job of t activated in tick x, its own included, if it takes y ticks: that of all jobs activated in
-- ticks 0 to x with a priority number at most t's, and of those activated after x and before x + y with a lower one.
abbrev pub demand : Plan → ℕ → ℕ → (ℕ → ℕ) → ℕ → ℕ
demand p t x φ y = total p.tasks (λ k. p.cost k * share p (p.pr t) k (hits p φ k (x + y)) (hits p φ k (x + 1)))

-- y is the reach: the least number from 1 on for which the x + y ticks are enough for the demand
pub record Reach (p : Plan) (t x : ℕ) (φ : ℕ → ℕ) (y : ℕ) : Type 0 where
  pub some : 1 ≤ y
  pub ends : demand p t x φ y ≤ x + y
  pub first : (v : ℕ) → 1 ≤ v → v < y → x + v < demand p t x φ v

-- f is the figure of task t, its exact worst-case response time: the greatest reach of all choices, and the reach of one
pub record Figure (p : Plan) (t f : ℕ) : Type 0 where
  pub bounds : (x : ℕ) (φ : ℕ → ℕ) (y : ℕ) → Choice p t x φ → Reach p t x φ y → y ≤ f
  pub attained : (x : ℕ) × (φ : ℕ → ℕ) × Choice p t x φ × Reach p t x φ f

-- every task has a figure within its deadline
abbrev pub Passes : Plan → Type 0
Passes p = (t : ℕ) → t < p.tasks → (f : ℕ) × Figure p t f × (f ≤ p.deadline t)

-- Runs of a plan: where the tables are, which jobs are held, and the laws of rounds and of service. Assumes nothing.
use Rattle.std.specs.Prelude.{◌≡◌, ℕ, suc, ◌+◌, ◌<◌, ◌≤◌, Bool, true, false, cond, ◌&&◌, ◌||◌, ◌⊎◌, ◌==◌, ◌≢◌, nat_lt}
use Rattle.theory.specs.Plans.{Plan}
use Rattle.theory.specs.Windows.{turned}

-- A run: whether table i runs at position q in tick τ, runs i τ q; and of task k at the start of tick τ, how many ticks its job has left,
-- left τ k (0: it has no job), and the tick in which that job was activated, since τ k.
pub record Run : Type 0 where
  pub runs : ℕ → ℕ → ℕ → Bool
  pub left : ℕ → ℕ → ℕ
  pub since : ℕ → ℕ → ℕ

-- The law of rounds: a position lies below the duration, and a table at q in tick τ is in the round that began at τ - q. Two rounds
-- that began are the same, or lie at least the duration apart.
pub record Rounds (p : Plan) (r : Run) : Type 0 where
  pub within : (i τ q : ℕ) → i < p.tables → r.runs i τ q ≡ true → q < p.dur i
  pub apart : (i τ q τ' q' : ℕ) → i < p.tables → r.runs i τ q ≡ true → r.runs i τ' q' ≡ true → τ ≤ τ'
      → (τ' + q ≡ τ + q') ⊎ (τ + q' + p.dur i ≤ τ' + q)

-- The same law as a board keeps it, step by step: a table at q + 1 was at q in the tick before, in tick 0 it can only be at 0, and two ticks at
-- position 0 lie at least the duration apart.
pub record Steps (p : Plan) (r : Run) : Type 0 where
  pub within : (i τ q : ℕ) → i < p.tables → r.runs i τ q ≡ true → q < p.dur i
  pub begins : (i q : ℕ) → i < p.tables → r.runs i 0 (suc q) ≢ true
  pub moves : (i τ q : ℕ) → i < p.tables → r.runs i (suc τ) (suc q) ≡ true → r.runs i τ q ≡ true
  pub again : (i τ τ' : ℕ) → i < p.tables → r.runs i τ 0 ≡ true → r.runs i τ' 0 ≡ true → τ < τ' → τ + p.dur i ≤ τ'

-- task k is activated in tick τ: its table is at its position
abbrev pub activated : Plan → Run → ℕ → ℕ → Bool
activated p r τ k = r.runs (p.tab k) τ (p.pos k)

-- what task k has left once the jobs activated in tick τ are there; a new job takes the place of an older one, if there still is one
abbrev pub holds : Plan → Run → ℕ → ℕ → ℕ
holds p r τ k = cond (activated p r τ k) (p.cost k) (r.left τ k)

-- the tick in which the job that task k then has was activated
abbrev pub born : Plan → Run → ℕ → ℕ → ℕ
born p r τ k = cond (activated p r τ k) τ (r.since τ k)

-- in tick τ a job of task j stands ahead of one of task k: a lower priority number, or the same number and activated earlier
abbrev pub ahead : Plan → Run → ℕ → ℕ → ℕ → Bool
ahead p r τ j k = nat_lt (p.pr j) (p.pr k) || (p.pr j == p.pr k && nat_lt (born p r τ j) (born p r τ k))

-- task f holds a job in tick τ, and no held job stands ahead of it
pub record Front (p : Plan) (r : Run) (τ f : ℕ) : Type 0 where
  pub task : f < p.tasks
  pub held : 1 ≤ holds p r τ f
  pub first : (k : ℕ) → k < p.tasks → 1 ≤ holds p r τ k → ahead p r τ k f ≡ false

-- in tick τ no job is held
abbrev pub Idle : Plan → Run → ℕ → Type 0
Idle p r τ = (k : ℕ) → k < p.tasks → holds p r τ k ≡ 0

-- what task k has after tick τ is what it had in it
abbrev pub Stays : Plan → Run → ℕ → ℕ → Type 0
Stays p r τ k = r.left (suc τ) k ≡ holds p r τ k

-- The law of service in the first n ticks: there is no job before them, and in each tick a front job loses one tick and all others stay; with no
-- job held nothing happens. A job keeps its activation tick. Which of several front jobs is served is free.
pub record Serves (p : Plan) (r : Run) (n : ℕ) : Type 0 where
  pub empty : (k : ℕ) → k < p.tasks → r.left 0 k ≡ 0
  pub same : (τ k : ℕ) → τ < n → k < p.tasks → 1 ≤ r.left (suc τ) k → r.since (suc τ) k ≡ born p r τ k
  pub tick : (τ : ℕ) → τ < n
      → (Idle p r τ × ((k : ℕ) → k < p.tasks → Stays p r τ k))
      ⊎ ((f : ℕ) × Front p r τ f × (suc (r.left (suc τ) f) ≡ holds p r τ f) × ((k : ℕ) → k < p.tasks → (k ≢ f) → Stays p r τ k))

-- A weaker law, which holds also where jobs end before their time: in each of the first n ticks a front job, if there is one, loses at
-- least one tick, and no job gains any.
pub record Drains (p : Plan) (r : Run) (n : ℕ) : Type 0 where
  pub empty : (k : ℕ) → k < p.tasks → r.left 0 k ≡ 0
  pub same : (τ k : ℕ) → τ < n → k < p.tasks → 1 ≤ r.left (suc τ) k → r.since (suc τ) k ≡ born p r τ k
  pub falls : (τ k : ℕ) → τ < n → k < p.tasks → r.left (suc τ) k ≤ holds p r τ k
  pub tick : (τ : ℕ) → τ < n → Idle p r τ ⊎ ((f : ℕ) × Front p r τ f × (r.left (suc τ) f < holds p r τ f))

-- the queue serves task t last among tied jobs: where t loses a tick, it stands ahead of every other held job
abbrev pub Watches : Plan → Run → ℕ → ℕ → Type 0
Watches p r t n = (τ k : ℕ) → τ < n → k < p.tasks → (k ≢ t) → 1 ≤ holds p r τ k → r.left (suc τ) t < holds p r τ t → ahead p r τ t k ≡ true

-- in the n ticks from tick s on all tables turn without pause, from the phases φ
abbrev pub Turns : Plan → Run → ℕ → (ℕ → ℕ) → ℕ → Type 0
Turns p r s φ n = (i z : ℕ) → i < p.tables → z < n → r.runs i (s + z) (turned (p.dur i) (φ i) z) ≡ true

-- the job of task t activated in tick a is held at the start of tick τ
abbrev pub Held : Run → ℕ → ℕ → ℕ → Type 0
Held r t a τ = (1 ≤ r.left τ t) × (r.since τ t ≡ a)

-- the job of task t activated in tick a takes j ticks: it is gone at the start of tick a + j and not before
pub record Takes (r : Run) (t a j : ℕ) : Type 0 where
  pub some : 1 ≤ j
  pub held : (i : ℕ) → 1 ≤ i → i < j → Held r t a (a + i)
  pub gone : Held r t a (a + j) → ⊥

-- the job of task k is late: it is held at the start of a tick that is its deadline or more after its activation
abbrev pub Late : Plan → Run → ℕ → ℕ → Type 0
Late p r k τ = (1 ≤ r.left τ k) × (r.since τ k + p.deadline k ≤ τ)

-- some job is late at the start of tick n or before
abbrev pub SomeLate : Plan → Run → ℕ → Type 0
SomeLate p r n = (k : ℕ) × (τ : ℕ) × (k < p.tasks) × (τ ≤ n) × Late p r k τ

-- What is proved of figures and runs. Assumes nothing.
use Rattle.std.specs.Prelude.{◌≡◌, ℕ, ◌+◌, ◌-◌, ◌*◌, ◌/◌, ◌%◌, ◌<◌, ◌≤◌, Bool, true}
use Rattle.theory.specs.Counting.{total}
use Rattle.theory.specs.Plans.{Plan, Lawful, period, work}
use Rattle.theory.specs.Windows.{hits, demand, Choice, Reach, Figure, Passes}
use Rattle.theory.specs.Runs.{Run, Rounds, Steps, Serves, Drains, Watches, Turns, activated, Takes, Late, SomeLate}

-- The activations of a task in the first z ticks of a window, by one division.
abbrev pub HitsByDivision : Type 0
HitsByDivision = (p : Plan) (φ : ℕ → ℕ) (k z : ℕ) → p.pos k < period p k
    → hits p φ k z ≡ ((φ (p.tab k) + (period p k - 1 - p.pos k)) % period p k + z) / period p k

-- The demand never falls.
abbrev pub DemandRises : Type 0
DemandRises = (p : Plan) (t x : ℕ) (φ : ℕ → ℕ) (y z : ℕ) → y ≤ z → demand p t x φ y ≤ demand p t x φ z

-- With no more work than the hyperperiod has ticks, every window has a reach.
abbrev pub ReachExists : Type 0
ReachExists = (p : Plan) (t x : ℕ) (φ : ℕ → ℕ) → Lawful p → work p ≤ p.hyper → x < p.hyper → (y : ℕ) × Reach p t x φ y

-- It has one only,
abbrev pub ReachUnique : Type 0
ReachUnique = (p : Plan) (t x : ℕ) (φ : ℕ → ℕ) (y z : ℕ) → Reach p t x φ y → Reach p t x φ z → y ≡ z

-- and that one ends within the hyperperiod.
abbrev pub ReachWithin : Type 0
ReachWithin = (p : Plan) (t x : ℕ) (φ : ℕ → ℕ) (y : ℕ) → Lawful p → work p ≤ p.hyper → x < p.hyper → Reach p t x φ y → x + y ≤ p.hyper

-- A number whose ticks are enough for its demand bounds the reach,
abbrev pub ReachBounded : Type 0
ReachBounded = (p : Plan) (t x : ℕ) (φ : ℕ → ℕ) (y v : ℕ) → Reach p t x φ y → 1 ≤ v → demand p t x φ v ≤ x + v → y ≤ v

-- and the demand of a number up to the reach is met at the reach at the earliest.
abbrev pub ReachJumps : Type 0
ReachJumps = (p : Plan) (t x : ℕ) (φ : ℕ → ℕ) (y v : ℕ) → Reach p t x φ y → v ≤ y → demand p t x φ v ≤ x + y

-- With no more work than the hyperperiod has ticks, every task has a figure,
abbrev pub FigureExists : Type 0
FigureExists = (p : Plan) (t : ℕ) → Lawful p → work p ≤ p.hyper → t < p.tasks → (f : ℕ) × Figure p t f

-- and one only.
abbrev pub FigureUnique : Type 0
FigureUnique = (p : Plan) (t f g : ℕ) → Figure p t f → Figure p t g → f ≡ g

-- A run that steps from position to position keeps the law of rounds.
abbrev pub StepsAreRounds : Type 0
StepsAreRounds = (p : Plan) (r : Run) → Steps p r → Rounds p r

-- A run that keeps the law of service keeps the weaker one too.
abbrev pub ServiceDrains : Type 0
ServiceDrains = (p : Plan) (r : Run) (n : ℕ) → Serves p r n → Drains p r n

-- Nobody can hold a job past its figure: in every run of a plan that is not overloaded, each job takes at most the figure of its task. Jobs may end
-- before their time.
abbrev pub Upper : Type 0
Upper = (p : Plan) (r : Run) (n t a f : ℕ) → Lawful p → work p ≤ p.hyper → Rounds p r → Drains p r n
    → t < p.tasks → Figure p t f → activated p r a t ≡ true → a + f ≤ n
    → (j : ℕ) × (j ≤ f) × Takes r t a j

-- What a run of n ticks has on a plan that passes: no job is late, no activated task has an older job, and each job is finished within the
-- figure of its task.
pub record Sound (p : Plan) (r : Run) (n : ℕ) : Type 0 where
  pub never_late : (k τ : ℕ) → k < p.tasks → τ ≤ n → Late p r k τ → ⊥
  pub never_refused : (k τ : ℕ) → k < p.tasks → τ ≤ n → activated p r τ k ≡ true → r.left τ k ≡ 0
  pub finished : (t a f : ℕ) → t < p.tasks → Figure p t f → activated p r a t ≡ true → a + f ≤ n → (j : ℕ) × (j ≤ f) × Takes r t a j × (r.left (a + j) t ≡ 0)

-- A plan that passes is safe.
abbrev pub Safe : Type 0
Safe = (p : Plan) (r : Run) (n : ℕ) → Lawful p → work p ≤ p.hyper → Passes p → Rounds p r → Drains p r n → Sound p r n

-- No figure is too high: after any start, let the tables turn with the phases of a choice that attains the figure, over a queue that serves
-- task t last among tied jobs. Then the job activated in tick x of the window takes exactly the figure.
abbrev pub Exact : Type 0
Exact = (p : Plan) (r : Run) (n t x : ℕ) (φ : ℕ → ℕ) (f s : ℕ) → Lawful p → work p ≤ p.hyper → Passes p → Rounds p r → Serves p r n → Watches p r t n
    → t < p.tasks → Choice p t x φ → Reach p t x φ f → Figure p t f → Turns p r s φ (x + f) → s + x + f ≤ n
    → Takes r t (s + x) f

-- A reach above the deadline makes a job late: in such a run some job is late by the time that the deadline has passed.
abbrev pub Exposed : Type 0
Exposed = (p : Plan) (r : Run) (n t x : ℕ) (φ : ℕ → ℕ) (y s : ℕ) → Lawful p → Rounds p r → Serves p r n → Watches p r t n
    → t < p.tasks → Choice p t x φ → Reach p t x φ y → p.deadline t < y → Turns p r s φ (x + p.deadline t) → s + x + p.deadline t ≤ n
    → SomeLate p r (s + x + p.deadline t)

-- An overloaded plan makes a job late: let all tables turn from tick 0 on, over any queue.
abbrev pub Overrun : Type 0
Overrun = (p : Plan) (r : Run) (n : ℕ) → Lawful p → p.hyper < work p → Rounds p r → Serves p r n
    → Turns p r 0 (λ i. 0) ((total p.tasks p.cost + 1) * p.hyper) → (total p.tasks p.cost + 1) * p.hyper ≤ n
    → SomeLate p r ((total p.tasks p.cost + 1) * p.hyper)

-- Whatever the tables do, the law of service can be kept, over a queue that serves task t last among tied jobs.
abbrev pub ServiceExists : Type 0
ServiceExists = (p : Plan) (t : ℕ) (trace : ℕ → ℕ → ℕ → Bool)
    → (r : Run) × ((i τ q : ℕ) → r.runs i τ q ≡ trace i τ q) × ((n : ℕ) → Serves p r n) × ((n : ℕ) → Watches p r t n)

-- So the runs that the theorems speak of exist for every plan, task and phases: from any tick s on that is no less than the greatest phase, the tables
-- turn with these phases, and all along they step as a board's do.
abbrev pub RunsExist : Type 0
RunsExist = (p : Plan) (t : ℕ) (φ : ℕ → ℕ) (s : ℕ) → Lawful p → ((i : ℕ) → i < p.tables → φ i ≤ s)
    → (r : Run) × Steps p r × ((n : ℕ) → Serves p r n) × ((n : ℕ) → Watches p r t n) × ((n : ℕ) → Turns p r s φ n)

-- Each figure of a plan that passes is the response time of some job in some run.
abbrev pub Attained : Type 0
Attained = (p : Plan) (t f : ℕ) → Lawful p → work p ≤ p.hyper → Passes p → t < p.tasks → Figure p t f
    → (r : Run) × (a : ℕ) × Steps p r × Serves p r (a + f) × (activated p r a t ≡ true) × Takes r t a f

-- no run of the plan makes a job late
abbrev pub NeverLate : Plan → Type 0
NeverLate p = (r : Run) (n : ℕ) → Steps p r → Serves p r n → SomeLate p r n → ⊥

-- And the verdict is exact: a plan that is not overloaded and passes never makes a job late, and no other plan is so.
abbrev pub Verdict : Type 0
Verdict = (p : Plan) → Lawful p → (work p ≤ p.hyper → Passes p → NeverLate p) × (NeverLate p → (work p ≤ p.hyper) × Passes p)

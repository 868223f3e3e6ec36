-- Runs that attain each figure exist, and a plan that never makes a job late passes. Assumes nothing.
use Rattle.std.proofs.Common.{ℕ, ◌+◌, ◌*◌, ◌<◌, ◌≤◌, ⊎_elim, arith}
use Rattle.std.proofs.lemmas.Bool.{cases_lt}
use Rattle.theory.specs.Counting.{total}
use Rattle.theory.specs.Plans.{Plan, Lawful, work}
use Rattle.theory.specs.Windows.{Passes}
use Rattle.theory.specs.Theorems.{Attained, NeverLate, Verdict}
use Rattle.theory.proofs.Sums.{total_one}
use Rattle.theory.proofs.Stepping.{steps_are_rounds_lem}
use Rattle.theory.proofs.Jobs.{service_drains_lem}
use Rattle.theory.proofs.Safety.{safe}
use Rattle.theory.proofs.Attained.{exact, exposed, active_at}
use Rattle.theory.proofs.Overload.{overrun}
use Rattle.theory.proofs.Existence.{figure_exists_lem}
use Rattle.theory.proofs.Starts.{runs_exist_lem}

-- a tick from which on all phases can be had
all_begun : (p : Plan) (φ : ℕ → ℕ) → (i : ℕ) → i < p.tables → φ i ≤ total p.tables φ
all_begun p φ i inside = total_one p.tables φ i inside

pub attained : Attained
attained p t f lawful light passes task figure =
    let c = figure.attained in
    let x = c.0 in
    let φ = c.1 in
    let s = total p.tables φ in
    let m = runs_exist_lem p t φ s lawful (all_begun p φ) in
    let r = m.0 in
    let rounds = steps_are_rounds_lem p r m.1 in
    let a = s + x in (
      r,
      a,
      m.1,
      m.2 (a + f),
      active_at p r lawful rounds s φ (x + f) (m.4 (x + f)) t x task (omega (arith, c.3.some)) c.2.meets,
      exact p r (a + f) t x φ f s lawful light passes rounds (m.2 (a + f)) (m.3 (a + f)) task c.2 c.3 figure (m.4 (x + f)) (omega arith),
    )

module _ (p : Plan) (lawful : Lawful p) (never : NeverLate p) where
  not_over : work p ≤ p.hyper
  not_over =
      ⊎_elim
      (λ over.
      let n = (total p.tasks p.cost + 1) * p.hyper in
      let m = runs_exist_lem p 0 (λ i. 0) 0 lawful (λ i inside. omega arith) in
      absurd (never m.0 n m.1 (m.2 n) (overrun p m.0 n lawful over (steps_are_rounds_lem p m.0 m.1) (m.2 n) (m.4 n) (omega arith))))
      (λ le. le)
      (cases_lt p.hyper (work p))

  passing : Passes p
  passing t task =
      let F = figure_exists_lem p t lawful not_over task in
      let f = F.0 in
      let c = F.1.attained in
      let x = c.0 in
      let φ = c.1 in
      let d = p.deadline t in
      ⊎_elim
      (λ over.
      let s = total p.tables φ in
      let n = s + x + d in
      let m = runs_exist_lem p t φ s lawful (all_begun p φ) in
      absurd (never m.0 n m.1 (m.2 n)
      (exposed p m.0 n t x φ f s lawful (steps_are_rounds_lem p m.0 m.1) (m.2 n) (m.3 n) task c.2 c.3 over (m.4 (x + d)) (omega arith))))
      (λ le. (f, F.1, le))
      (cases_lt d f)

pub verdict : Verdict
verdict p lawful = (
  (λ light passes r n steps serves late.
      (safe p r n lawful light passes (steps_are_rounds_lem p r steps) (service_drains_lem p r n serves)).never_late late.0 late.1 late.2 late.3 late.4),
  λ never. (not_over p lawful never, passing p lawful never),
)

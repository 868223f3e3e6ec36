-- A plan that passes is safe: no job is late, no put is refused, each job finishes. Assumes nothing.
use Rattle.std.proofs.Common.{◌≡◌, ℕ, ◌+◌, ◌-◌, ◌<◌, ◌≤◌, true, sym, refl, subst, arith}
use Rattle.theory.specs.Plans.{Plan, Lawful, work}
use Rattle.theory.specs.Windows.{Passes}
use Rattle.theory.specs.Runs.{Run, Rounds, activated, Drains, Held, Late}
use Rattle.theory.specs.Theorems.{Safe, Sound}
use Rattle.theory.proofs.Jobs.{held_since, activated_since, clear_unless_late, finished}
use Rattle.theory.proofs.Bounded.{bounded}

module _ (p : Plan) (r : Run) (n : ℕ) (lawful : Lawful p) (light : work p ≤ p.hyper) (rounds : Rounds p r) (drains : Drains p r n) (passes : Passes p) where
  never_late : (k τ : ℕ) → k < p.tasks → τ ≤ n → Late p r k τ → ⊥
  never_late k τ kl le late =
      let a = r.since τ k in
      let old = activated_since p r n drains τ k le kl late.0 in
      let F = passes k kl in
      let b = bounded p r n lawful light rounds drains k a kl old.1 F.0 F.1 (omega (arith, late.1, F.2)) in
      let j = b.0 in
      let takes = b.2 in
      let m : a + j + (τ - (a + j)) ≡ τ = omega (arith, b.1, F.2, late.1) in
      takes.gone (held_since p r n drains k a (a + j) (τ - (a + j)) kl (omega (arith, takes.some)) (omega (arith, m)) (subst (Held r k a) (sym m) (late.0, refl)))

  pub never_refused : (k τ : ℕ) → k < p.tasks → τ ≤ n → activated p r τ k ≡ true → r.left τ k ≡ 0
  never_refused = clear_unless_late p r n drains lawful rounds never_late

  pub sound : Sound p r n
  sound = record {
    never_late = never_late;
    never_refused = never_refused;
    finished = λ t a f task figure active fits.
        let b = bounded p r n lawful light rounds drains t a task active f figure fits in
        (b.0, b.1, b.2, finished p r n drains lawful (λ τ k lt kl. never_refused k τ kl (omega arith)) t a b.0 task active b.2 (omega (arith, b.1)));
  }

pub safe : Safe
safe p r n lawful light passes rounds drains = sound p r n lawful light rounds drains passes

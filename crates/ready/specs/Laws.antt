-- What the laws of a ready queue give its users. Assumes nothing.
use Rattle.std.specs.Prelude.{◌≡◌, ℕ, ◌<◌, ◌≤◌, Bool, true, false, Some, None, Option, ◌==◌, nat_lt, refl}
use Rattle.std.proofs.Common.{subst, sym, ◌∙◌, arith}
use Rattle.std.proofs.lemmas.Bool.{and_parts, eqb-true, ltb-true}
use Rattle.ready.specs.Jobs.{task_limit, fit}
use Rattle.ready.specs.Calls.{Jobs, placed, FrontBy}
use Rattle.ready.specs.declared.job.Job.{Job}

-- a job that stands at number t
pub record Standing (t : ℕ) (j : Job) : Type 0 where
  pub number : j.task ≡ t
  pub below : t < task_limit
  pub ticks : 1 ≤ j.left

pub job_at : (t : ℕ) (o : Option Job) (j : Job) → placed t o ≡ true → o ≡ Some j → Standing t j
job_at t o j p e =
    let at = subst (λ k. placed t k ≡ true) e p in
    let parts = and_parts (j.task == t) (fit j) at in
    let fits = and_parts (nat_lt j.task task_limit) (nat_lt 0 j.left) parts.1 in
    let same = eqb-true j.task t parts.0 in
    record {
      number = same;
      below = omega (arith, same, ltb-true j.task task_limit fits.0);
      ticks = omega (arith, ltb-true 0 j.left fits.1);
    }

pub front_held : (beats : Job → Job → Bool) (js : Jobs) (o : Option Job) (j : Job) → FrontBy beats js o → o ≡ Some j → js j.task ≡ Some j
front_held beats js o j f e = (subst (FrontBy beats js) e f).0

pub front_unbeaten : (beats : Job → Job → Bool) (js : Jobs) (o : Option Job) (j : Job) → FrontBy beats js o → o ≡ Some j → (t : ℕ) (i : Job) → js t ≡ Some i → beats i j ≡ false
front_unbeaten beats js o j f e = (subst (FrontBy beats js) e f).1

-- where no job is held, there is no front
pub front_none : (beats : Job → Job → Bool) (js : Jobs) (o : Option Job) → FrontBy beats js o → ((t : ℕ) → js t ≡ None) → o ≡ None
front_none beats js None f empty = refl
front_none beats js (Some j) f empty =
    let clash : Some j ≡ None = sym f.0 ∙ empty j.task in
    let z : ◌≡◌ {A = ℕ} 0 1 = cc in absurd (omega arith)

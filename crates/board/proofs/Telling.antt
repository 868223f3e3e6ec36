-- What stands in a board's type tells how the board hangs together, since each part of that can be told anew. Assumes nothing.
use Rattle.std.proofs.Common.{◌≡◌, ℕ, ◌≤◌, ◌⊎◌, Bool, true, false, eqb, inl, inr, refl, ⊎_elim}
use Rattle.std.proofs.Math.Logic.{∥∥₁_elim, ∥∥₁_map}
use Rattle.std.proofs.Props.{props}
use Rattle.std.proofs.lemmas.Bool.{eqb-true, eqb-false}
use Rattle.plan.specs.Content.{Content}
use Rattle.ready.specs.declared.job.Job.{Job}
use Rattle.board.specs.declared.records.TableState.{TableState}
use Rattle.board.specs.declared.records.TableState.TheVariants.{Stopped, Waiting, Running}
use Rattle.board.specs.Models.{Model}
use Rattle.board.specs.Soundness.{TableSound, Spaced, JobSound, Sound}

table_told : (ticks duration earliest : ℕ) (s : TableState) → ∥ TableSound ticks duration earliest s ∥₁ → TableSound ticks duration earliest s
table_told ticks duration earliest Stopped h = tt
table_told ticks duration earliest (Waiting w) h = ∥∥₁_elim h (hlevel props) (λ x. x)
table_told ticks duration earliest (Running q) h = ∥∥₁_elim h (hlevel props) (λ x. x)

-- whether two numbers are equal can be tried
either_told : (a b x y : ℕ) → ∥ (a ≡ b) ⊎ (x ≤ y) ∥₁ → (a ≡ b) ⊎ (x ≤ y)
either_told a b x y h = tried (eqb a b) refl
  where
    tried : (t : Bool) → eqb a b ≡ t → (a ≡ b) ⊎ (x ≤ y)
    tried true e = inl (eqb-true a b e)
    tried false e = inr (∥∥₁_elim h (hlevel props) (⊎_elim (λ same. absurd (eqb-false a b e same)) (λ le. le)))

spaced_told : (activation position ticks duration earliest : ℕ) (s : TableState) → ∥ Spaced activation position ticks duration earliest s ∥₁ → Spaced activation position ticks duration earliest s
spaced_told activation position ticks duration earliest Stopped h = ∥∥₁_elim h (hlevel props) (λ x. x)
spaced_told activation position ticks duration earliest (Waiting w) h = ∥∥₁_elim h (hlevel props) (λ x. x)
spaced_told activation position ticks duration earliest (Running q) h = either_told _ _ _ _ h

job_told : (c : Content) (m : Model) (k : ℕ) (j : Job) → ∥ JobSound c m k j ∥₁ → JobSound c m k j
job_told c m k j h = record {
  task = ∥∥₁_elim h (hlevel props) (λ s. s.task);
  number = ∥∥₁_elim h (hlevel props) (λ s. s.number);
  some = ∥∥₁_elim h (hlevel props) (λ s. s.some);
  priority = ∥∥₁_elim h (hlevel props) (λ s. s.priority);
  left = ∥∥₁_elim h (hlevel props) (λ s. s.left);
  past = ∥∥₁_elim h (hlevel props) (λ s. s.past);
  round = ∥∥₁_elim h (hlevel props) (λ s. s.round);
  due = λ on_time. ∥∥₁_elim h (hlevel props) (λ s. s.due on_time);
  spaced = spaced_told _ _ _ _ _ _ (∥∥₁_map h (λ s. s.spaced));
}

pub sound_told : (c : Content) (m : Model) → ∥ Sound c m ∥₁ → Sound c m
sound_told c m h = record {
  tables = λ i lt. table_told _ _ _ _ (∥∥₁_map h (λ s. s.tables i lt));
  rest = λ i le. ∥∥₁_elim h (hlevel props) (λ s. s.rest i le);
  jobs = λ k j e. job_told c m k j (∥∥₁_map h (λ s. s.jobs k j e));
}

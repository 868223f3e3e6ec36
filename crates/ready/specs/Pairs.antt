-- What a pair of ready queues means, by what its sides mean. Assumes nothing.
use Rattle.std.specs.Prelude.{◌≡◌, ℕ, false, ◌&&◌, is_some, Some, None, MatchBool, Option, nat_lt}
use Rattle.ready.specs.Jobs.{ahead}
use Rattle.ready.specs.Calls.{Jobs, Change, Added, Served, Cleared, after_put, after_serve}
use Rattle.ready.specs.Fronts.{leads}
use Rattle.ready.specs.declared.job.Job.{Job}

-- The first if there is one, else the second.
abbrev pub or_else : Option Job → Option Job → Option Job
or_else None o = o
or_else (Some j) o = Some j

-- The jobs of both sides.
abbrev pub both_jobs : Jobs → Jobs → Jobs
both_jobs first second t = or_else (first t) (second t)

-- No task has a job on both sides.
abbrev pub Apart : Jobs → Jobs → Type 0
Apart first second = (t : ℕ) → (is_some (first t) && is_some (second t)) ≡ false

-- One side goes through a change.
abbrev pub Goes : {Q : Type 0} → (Q → Jobs) → (Q → Option Job) → (Q → Change → Q → Type 0) → Q → Change → Q → Type 0
Goes jobs top own q (Added j) q' = own q (Added j) q' × ((t : ℕ) → jobs q' t ≡ after_put (jobs q) j t)
Goes jobs top own q Served q' = own q Served q' × ((t : ℕ) → jobs q' t ≡ after_serve (jobs q) (top q) t)
Goes jobs top own q Cleared q' = own q Cleared q'

module _ {P Q : Type 0} (jobsP : P → Jobs) (topP : P → Option Job) (ownP : P → Change → P → Type 0) (jobsQ : Q → Jobs) (topQ : Q → Option Job) (ownQ : Q → Change → Q → Type 0) where
  -- A job below the cut goes to the first side, any other to the second; a tick goes to the side whose front leads;
  -- the other side stays as it is. A clear goes to both.
  abbrev pub PairOwn : ℕ → P → Q → Change → P → Q → Type 0
  PairOwn cut p q (Added j) p' q' = MatchBool (nat_lt j.priority cut) (Goes jobsP topP ownP p (Added j) p' × (q' ≡ q)) (Goes jobsQ topQ ownQ q (Added j) q' × (p' ≡ p))
  PairOwn cut p q Served p' q' = MatchBool (leads ahead (topP p) (topQ q)) (Goes jobsQ topQ ownQ q Served q' × (p' ≡ p)) (Goes jobsP topP ownP p Served p' × (q' ≡ q))
  PairOwn cut p q Cleared p' q' = Goes jobsP topP ownP p Cleared p' × Goes jobsQ topQ ownQ q Cleared q'

-- What a ready queue means, and what each of its calls answers and changes. Assumes nothing.
use Rattle.std.specs.Prelude.{◌≡◌, ℕ, Bool, true, false, cond, ◌&&◌, is_some, Some, None, Option, ◌==◌, nat_eq}
use Rattle.std.specs.Option.{option_map}
use Rattle.std.specs.Map.{update}
use Rattle.ready.specs.Jobs.{fit, ticked, remaining}
use Rattle.ready.specs.Refusals.{number_of}
use Rattle.ready.specs.declared.job.Job.{Job}
use Rattle.ready.specs.declared.refusal.PutRefusal.TheVariants.{BadJob, Held}

-- The jobs of a queue, in no order: to each task number the job held of that task, or none.
abbrev pub Jobs : Type 0
Jobs = ℕ → Option Job

-- What stands at number t is a job of task t that a queue may hold, or none.
abbrev pub placed : ℕ → Option Job → Bool
placed t None = true
placed t (Some j) = j.task == t && fit j

-- The front among jobs: a job held that no job held beats, and none if no job is held.
abbrev pub FrontBy : (Job → Job → Bool) → Jobs → Option Job → Type 0
FrontBy beats js None = (t : ℕ) → js t ≡ None
FrontBy beats js (Some j) = (js j.task ≡ Some j) × ((t : ℕ) (i : Job) → js t ≡ Some i → beats i j ≡ false)

-- The number by which a put of j is refused: first for a job that no queue may hold, then for a task held already.
abbrev pub put_number : Jobs → Job → Option ℕ
put_number js j = cond (fit j) (cond (is_some (js j.task)) (Some (number_of Held)) None) (Some (number_of BadJob))

-- The jobs after a put of j: j at its number, or no change where it is refused.
abbrev pub after_put : Jobs → Job → Jobs
after_put js j t = cond (is_some (put_number js j)) (js t) (update nat_eq js j.task (Some j) t)

-- The jobs after the front has run for one tick.
abbrev pub after_serve : Jobs → Option Job → Jobs
after_serve js None t = js t
after_serve js (Some j) t = update nat_eq js j.task (remaining (ticked j)) t

-- What a serve tells: the front as it is after its tick.
abbrev pub after_tick : Option Job → Option Job
after_tick front = option_map ticked front

-- A change of a queue, for what a queue adds of its own to the promises of all queues.
pub data Change : Type 0 where
  Added : Job → Change
  Served : Change
  Cleared : Change

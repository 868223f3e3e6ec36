-- The arrival list: its jobs in the order of their puts, and what each change makes of them. Assumes nothing.
use Rattle.std.specs.Prelude.{◌≡◌, ℕ, ◌<◌, Bool, true, cond, not, ◌&&◌, List, [], ◌∷◌, ◌++◌, length, is_some, Some, None, Option, ◌==◌, ◌≢◌, slice_index_or}
use Rattle.std.specs.Option.{option_to_list}
use Rattle.ready.specs.Jobs.{ahead, fit, ticked, remaining}
use Rattle.ready.specs.Calls.{Jobs, Change, Added, Served, Cleared}
use Rattle.ready.specs.Fronts.{front_of}
use Rattle.ready.specs.declared.job.Job.{Job}

-- The job of task t in the list.
abbrev pub job_of : List Job → Jobs
job_of [] t = None
job_of (x ∷ xs) t = cond (t == x.task) (Some x) (job_of xs t)

-- Every job is one that a queue may hold, and no two are of one task.
abbrev pub sound : List Job → Bool
sound [] = true
sound (x ∷ xs) = fit x && (not (is_some (job_of xs x.task)) && sound xs)

-- What a reading past the end of a list gives.
abbrev pub blank : Job
blank = record { task = 0; priority = 0; activation = 0; left = 0 }

-- k is the first place of a job of task t.
abbrev pub PlaceOf : List Job → ℕ → ℕ → Type 0
PlaceOf xs t k = (k < length xs) × ((slice_index_or xs k blank).task ≡ t) × ((m : ℕ) → m < k → (slice_index_or xs m blank).task ≢ t)

-- The list with what is given in the place of the job of task t: another job, or nothing.
abbrev pub replaced : List Job → ℕ → Option Job → List Job
replaced [] t given = []
replaced (x ∷ xs) t given = cond (t == x.task) (option_to_list given ++ xs) (x ∷ replaced xs t given)

-- The list after its front has run for one tick: the front keeps its place, or leaves.
abbrev pub served_list : List Job → Option Job → List Job
served_list xs None = xs
served_list xs (Some j) = replaced xs j.task (remaining (ticked j))

-- The list after a change: a job that is put goes to the end.
abbrev pub arrivals_after : List Job → Change → List Job
arrivals_after xs (Added j) = xs ++ j ∷ []
arrivals_after xs Served = served_list xs (front_of ahead xs)
arrivals_after xs Cleared = []

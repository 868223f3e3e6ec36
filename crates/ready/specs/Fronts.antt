-- The front of a list of jobs under a rule of which job beats which. Assumes nothing.
use Rattle.std.specs.Prelude.{Bool, true, false, cond, not, ◌&&◌, List, [], ◌∷◌, Some, None, Option}
use Rattle.ready.specs.declared.job.Job.{Job}

-- No job of the list beats j.
abbrev pub unbeaten : (Job → Job → Bool) → List Job → Job → Bool
unbeaten beats [] j = true
unbeaten beats (x ∷ xs) j = not (beats x j) && unbeaten beats xs j

-- The first job of the list that passes.
abbrev pub first_passing : (Job → Bool) → List Job → Option Job
first_passing pass [] = None
first_passing pass (x ∷ xs) = cond (pass x) (Some x) (first_passing pass xs)

-- The first job of the list that no job of the list beats.
abbrev pub front_of : (Job → Job → Bool) → List Job → Option Job
front_of beats xs = first_passing (unbeaten beats xs) xs

-- What is given, a job or nothing, takes the lead over a front: there is no front, or the job beats it.
abbrev pub leads : (Job → Job → Bool) → Option Job → Option Job → Bool
leads beats None given = true
leads beats (Some front) None = false
leads beats (Some front) (Some j) = beats j front

-- The front of both: what is given if it takes the lead, else the front as it was.
abbrev pub front_with : (Job → Job → Bool) → Option Job → Option Job → Option Job
front_with beats front given = cond (leads beats front given) given front

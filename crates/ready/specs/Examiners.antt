-- The examiner's queue: its slots, and which of its jobs goes first. Assumes nothing.
use Rattle.std.specs.Prelude.{ℕ, Bool, cond, ◌&&◌, ◌||◌, List, None, Option, ◌==◌, nat_lt, slice_index_or}
use Rattle.std.specs.Option.{option_to_list}
use Rattle.std.specs.List.{flat_map}
use Rattle.ready.specs.Jobs.{task_limit, ahead, tied}
use Rattle.ready.specs.Calls.{Jobs}
use Rattle.ready.specs.Fronts.{front_of}
use Rattle.ready.specs.declared.job.Job.{Job}

-- The job in the slot of task t.
abbrev pub slot_of : List (Option Job) → Jobs
slot_of slots t = slice_index_or slots t None

-- A job's turn among tied jobs: its task number, and after all numbers if its task is watched.
abbrev pub turn : ℕ → Job → ℕ
turn watch j = cond (j.task == watch) task_limit j.task

-- a goes before b: it stands ahead, or they are tied and its turn is earlier.
abbrev pub goes_before : ℕ → Job → Job → Bool
goes_before watch a b = ahead a b || (tied a b && nat_lt (turn watch a) (turn watch b))

-- The job that goes first, among those in the slots.
abbrev pub examiners_front : ℕ → List (Option Job) → Option Job
examiners_front watch slots = front_of (goes_before watch) (flat_map option_to_list slots)

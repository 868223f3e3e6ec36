-- The note of activation ticks that a board keeps beside its queue. Assumes nothing.
use Rattle.std.specs.Prelude.{◌≡◌, ℕ, List, Some, Option, slice_index}
use Rattle.std.specs.Option.{option_map}
use Rattle.ready.specs.Calls.{Jobs}
use Rattle.ready.specs.declared.job.Job.{Job}

-- the note has the activation tick of every job held
abbrev pub Noted : Jobs → List ℕ → Type 0
Noted js since = (t : ℕ) (j : Job) → js t ≡ Some j → slice_index since t ≡ j.activation

abbrev pub activation_of : Option Job → Option ℕ
activation_of o = option_map (λ j. j.activation) o

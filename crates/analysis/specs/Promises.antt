-- What carries the theory over to plans and boards. Assumes nothing.
use Rattle.std.specs.Prelude.{◌≡◌, ℕ, ◌+◌, ◌-◌, ◌<◌, ◌≤◌, true, List, [], ◌∷◌, length, Some, None, Ok, Err, slice_index_or}
use Rattle.theory.specs.Plans.{Lawful}
use Rattle.theory.specs.Windows.{Figure, Passes}
use Rattle.theory.specs.Runs.{Rounds, Serves}
use Rattle.plan.specs.Content.{Content, task_count}
use Rattle.plan.specs.Rules.{lawful, work_of, hyperperiod_of}
use Rattle.board.specs.declared.calls.Call.{Call}
use Rattle.board.specs.declared.calls.Answer.TheVariants as told
use Rattle.board.specs.declared.calls.TickAnswer.{TickAnswer}
use Rattle.board.specs.Models.{Model, fresh}
use Rattle.board.specs.Ticks.{turned_tables, activates}
use Rattle.board.specs.Laws.{moment_of}
use Rattle.board.specs.Drives.{Outcome, Moment, Drive}
use Rattle.analysis.specs.Bridge.{plan_of, run_of}

-- a plan keeps the rules that the theory supposes
abbrev pub PlansAreLawful : Type 0
PlansAreLawful = (c : Content) → lawful c ≡ true → Lawful (plan_of c)

-- every drive of a new board keeps the laws that the theory supposes
abbrev pub DrivesAreRuns : Type 0
DrivesAreRuns = (c : Content) → lawful c ≡ true → (calls : List (Call × Outcome)) (moments : List Moment) (z : Model) → Drive c fresh calls moments z
    → Rounds (plan_of c) (run_of c moments z) × Serves (plan_of c) (run_of c moments z) (length moments)

-- the answer of a tick tells no late task
abbrev pub Timely : Outcome → Type 0
Timely (Err why) = Unit {0}
Timely (Ok told.Done) = Unit {0}
Timely (Ok (told.State s)) = Unit {0}
Timely (Ok (told.Ticked a)) = a.late ≡ None

-- every answer of a drive is timely
abbrev pub AllTimely : List (Call × Outcome) → Type 0
AllTimely [] = Unit {0}
AllTimely (x ∷ xs) = Timely x.1 × AllTimely xs

-- on a plan without overload whose figures are within their deadlines no drive makes a job late
abbrev pub NeverLate : Type 0
NeverLate = (c : Content) → lawful c ≡ true → work_of c ≤ hyperperiod_of c → Passes (plan_of c)
    → (calls : List (Call × Outcome)) (moments : List Moment) (z : Model) → Drive c fresh calls moments z → AllTimely calls

-- an answered tick adds what it tells to those that follow
abbrev pub ticked_first : Outcome → List TickAnswer → List TickAnswer
ticked_first (Err why) rest = rest
ticked_first (Ok told.Done) rest = rest
ticked_first (Ok (told.State s)) rest = rest
ticked_first (Ok (told.Ticked a)) rest = a ∷ rest

-- what the answered ticks of a drive tell, in their order
abbrev pub ticks_of : List (Call × Outcome) → List TickAnswer
ticks_of [] = []
ticks_of (x ∷ xs) = ticked_first x.1 (ticks_of xs)

abbrev pub nothing : TickAnswer
nothing = record { served = None; response = None; late = None }

-- the answered tick υ tells task t with that response
pub record Finishes (calls : List (Call × Outcome)) (t υ response : ℕ) : Type 0 where
  pub served : (slice_index_or (ticks_of calls) υ nothing).served ≡ Some t
  pub responds : (slice_index_or (ticks_of calls) υ nothing).response ≡ Some response

-- The job of task t that was activated in the answered tick τ is reported finished in the j-th answered tick, the
-- activating one counted: the first from that one on that tells its task with a response, and the response is j.
pub record Reported (calls : List (Call × Outcome)) (t τ j : ℕ) : Type 0 where
  pub some : 1 ≤ j
  pub last : Finishes calls t (τ + j - 1) j
  pub first : (υ response : ℕ) → τ ≤ υ → υ + 1 < τ + j → Finishes calls t υ response → ⊥

-- On a plan without overload whose figures are within their deadlines, in every drive over any queue, every activated job is
-- reported finished within as many answered ticks as the figure of its task, the activating one counted, if so many are made.
abbrev pub HeldToFigures : Type 0
HeldToFigures = (c : Content) → lawful c ≡ true → work_of c ≤ hyperperiod_of c → Passes (plan_of c)
    → (calls : List (Call × Outcome)) (moments : List Moment) (z : Model) → Drive c fresh calls moments z
    → (t τ figure : ℕ) → t < task_count c → Figure (plan_of c) t figure
    → activates c (turned_tables c (moment_of moments τ).board) t ≡ true → τ + figure ≤ length (ticks_of calls)
    → (j : ℕ) × (j ≤ figure) × Reported calls t τ j

-- The numbers of refused calls and of a table's states, and what a tick tells. Assumes nothing.
use Rattle.std.specs.Prelude.{ℕ, ◌-◌, cond, Some, None, Option, nat_lt}
use Rattle.ready.specs.declared.job.Job.{Job}
use Rattle.board.specs.declared.calls.TickAnswer.{TickAnswer}
use Rattle.board.specs.declared.calls.CallRefusal.{CallRefusal}
use Rattle.board.specs.declared.calls.CallRefusal.TheVariants.{LateBoard, NoTable, NotStopped, NotStarted, BadDelay, TooEarly, ClockFull}
use Rattle.board.specs.declared.records.TableState.{TableState}
use Rattle.board.specs.declared.records.TableState.TheVariants.{Stopped, Waiting, Running}

abbrev pub number_of : CallRefusal → ℕ
number_of LateBoard = 32
number_of NoTable = 3
number_of NotStopped = 7
number_of NotStarted = 5
number_of BadDelay = 8
number_of TooEarly = 31
number_of ClockFull = 33

abbrev pub state_number : TableState → ℕ
state_number Stopped = 0
state_number (Waiting w) = 1
state_number (Running p) = 2

-- what a tick tells of the job that it served, as that job then is: its task, and its response if no tick is left
abbrev pub tick_answer : Option Job → ℕ → Option ℕ → TickAnswer
tick_answer None made late = record { served = None; response = None; late = late }
tick_answer (Some j) made late = record { served = Some j.task; response = cond (nat_lt 0 j.left) None (Some (made - j.activation)); late = late }

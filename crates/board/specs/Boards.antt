-- A board of the code by what it means, over any ready queue. Assumes nothing.
use Rattle.std.specs.Prelude.{◌≡◌, Ok, Err, Result}
use Rattle.ready.specs.Calls.{Jobs}
use Rattle.board.specs.declared.boards.Board.{Board}
use Rattle.board.specs.declared.calls.CallRefusal.{CallRefusal}
use Rattle.board.specs.declared.calls.Answer.TheVariants as told
use Rattle.board.specs.declared.calls.TickAnswer.{TickAnswer}
use Rattle.board.specs.declared.records.TableState.{TableState}
use Rattle.board.specs.Models.{Model}
use Rattle.board.specs.Records.{record_of}
use Rattle.board.specs.Drives.{Outcome}

-- what a board means, over any ready queue
abbrev pub model : {Q : Type 0} {R : _} → (Q → Jobs) → Board Q R → Model
model jobs b = record { ticks = b.ticks; tables = record_of b.tables.records; jobs = jobs b.waiting.queue; late = b.late }

-- a start or a stop touches neither plan nor queue nor clock
pub record Rest {Q : Type 0} {R : _} (b d : Board Q R) : Type 0 where
  pub plan : d.plan ≡ b.plan
  pub waiting : d.waiting ≡ b.waiting
  pub ticks : d.ticks ≡ b.ticks
  pub late : d.late ≡ b.late

-- how a call is answered, by the result of what it calls
abbrev pub of_done : Result (Unit {0}) CallRefusal → Outcome
of_done (Ok u) = Ok told.Done
of_done (Err why) = Err why

abbrev pub of_state : Result TableState CallRefusal → Outcome
of_state (Ok s) = Ok (told.State s)
of_state (Err why) = Err why

abbrev pub of_tick : Result TickAnswer CallRefusal → Outcome
of_tick (Ok a) = Ok (told.Ticked a)
of_tick (Err why) = Err why

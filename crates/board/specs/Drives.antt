-- Calls with their answers, one after another on one board. Assumes nothing.
use Rattle.std.specs.Prelude.{◌≡◌, Bool, true, false, List, [], ◌∷◌, length, Some, None, Ok, Err, Option, Result}
use Rattle.plan.specs.Content.{Content}
use Rattle.ready.specs.declared.job.Job.{Job}
use Rattle.board.specs.declared.calls.Call.{Call}
use Rattle.board.specs.declared.calls.Call.TheVariants.{Start, Stop, State, Tick}
use Rattle.board.specs.declared.calls.CallRefusal.{CallRefusal}
use Rattle.board.specs.declared.calls.Answer.{Answer}
use Rattle.board.specs.declared.calls.Answer.TheVariants as told
use Rattle.board.specs.declared.calls.TickAnswer.{TickAnswer}
use Rattle.board.specs.Models.{Model, Alike, fresh, start_refusal, stop_refusal, state_refusal, started, stopped}
use Rattle.board.specs.Ticks.{tick_refusal, Ticked}

-- how a call is answered: what it tells, or why it is refused
abbrev pub Outcome : Type 0
Outcome = Result Answer CallRefusal

-- a refused call says why and leaves the board as it was; any other gives its answer and leaves the board as said
abbrev pub Did : Option CallRefusal → Model → Answer → Model → Outcome → Model → Type 0
Did None m answer after a n = (a ≡ Ok answer) × Alike n after
Did (Some why) m answer after a n = (a ≡ Err why) × Alike n m

-- a call that is no tick
abbrev pub Asked : Content → Model → Call → Outcome → Model → Type 0
Asked c m (Start table delay) a n = Did (start_refusal c m table delay) m told.Done (started c m table delay) a n
Asked c m (Stop table) a n = Did (stop_refusal c m table) m told.Done (stopped m table) a n
Asked c m (State table) a n = Did (state_refusal c table) m (told.State (m.tables table).state) m a n
Asked c m Tick a n = ⊥

-- an answered tick: the board before it, and the job that it served
pub record Moment : Type 0 where
  pub board : Model
  pub front : Option Job

-- A drive: calls with their answers, the moments of its answered ticks, and the board it leads to.
pub data Drive (c : Content) : Model → List (Call × Outcome) → List Moment → Model → Type 0 where
  done : {m : Model} → Drive c m [] [] m
  asked : {m n z : Model} {call : Call} {a : Outcome} {calls : List (Call × Outcome)} {moments : List Moment}
      → Asked c m call a n → Drive c n calls moments z → Drive c m ((call, a) ∷ calls) moments z
  idled : {m n z : Model} {why : CallRefusal} {calls : List (Call × Outcome)} {moments : List Moment}
      → tick_refusal m ≡ Some why → Alike n m → Drive c n calls moments z → Drive c m ((Tick, Err why) ∷ calls) moments z
  answered : {m n z : Model} {front : Option Job} {a : TickAnswer} {calls : List (Call × Outcome)} {moments : List Moment}
      → tick_refusal m ≡ None → Ticked c m front a n → Drive c n calls moments z
      → Drive c m ((Tick, Ok (told.Ticked a)) ∷ calls) (record { board = m; front = front } ∷ moments) z

-- the answer of an answered tick
abbrev pub is_ticked : Outcome → Bool
is_ticked (Err why) = false
is_ticked (Ok told.Done) = false
is_ticked (Ok (told.State s)) = false
is_ticked (Ok (told.Ticked a)) = true

-- one call of any kind
abbrev pub Step : Content → Model → Call → Outcome → Model → Type 0
Step c m (Start table delay) a n = Asked c m (Start table delay) a n
Step c m (Stop table) a n = Asked c m (Stop table) a n
Step c m (State table) a n = Asked c m (State table) a n
Step c m Tick (Ok (told.Ticked a)) n = (tick_refusal m ≡ None) × (front : Option Job) × Ticked c m front a n
Step c m Tick (Err why) n = (tick_refusal m ≡ Some why) × Alike n m
Step c m Tick (Ok told.Done) n = ⊥
Step c m Tick (Ok (told.State s)) n = ⊥

-- each call with its answer
abbrev pub answered_by : List Call → List Outcome → List (Call × Outcome)
answered_by [] answers = []
answered_by (x ∷ xs) [] = []
answered_by (x ∷ xs) (a ∷ rest) = (x, a) ∷ answered_by xs rest

-- every call is answered, and calls and answers are a drive on a new board
pub record Driven (c : Content) (calls : List Call) (answers : List Outcome) : Type 0 where
  pub every : length answers ≡ length calls
  pub moments : List Moment
  pub board : Model
  pub drive : Drive c fresh (answered_by calls answers) moments board

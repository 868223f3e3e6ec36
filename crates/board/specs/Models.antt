-- A board by what it means, and its calls start, stop and state: when each is refused, and the board afterwards. Assumes nothing.
use Rattle.std.specs.Prelude.{◌≡◌, ℕ, ◌+◌, ◌-◌, Bool, true, false, cond, not, List, [], ◌∷◌, is_some, Some, None, Option, ◌==◌, nat_le, nat_lt}
use Rattle.plan.specs.Content.{Content, table_count, duration_of}
use Rattle.theory.specs.Counting.{in_range}
use Rattle.ready.specs.Calls.{Jobs}
use Rattle.board.specs.declared.records.TableState.{TableState}
use Rattle.board.specs.declared.records.TableState.TheVariants.{Stopped, Waiting, Running}
use Rattle.board.specs.declared.records.TableRecord.{TableRecord}
use Rattle.board.specs.declared.calls.CallRefusal.{CallRefusal}
use Rattle.board.specs.declared.calls.CallRefusal.TheVariants.{LateBoard, NoTable, NotStopped, NotStarted, BadDelay, TooEarly}

-- the clock is full after so many ticks
abbrev pub max_ticks : ℕ
max_ticks = 1000000000

abbrev pub max_delay : ℕ
max_delay = 65535

-- a board: the ticks it has made, its tables by number, its jobs by task number, and the late task if a job is late
pub record Model : Type 0 where
  pub ticks : ℕ
  pub tables : ℕ → TableRecord
  pub jobs : Jobs
  pub late : Option ℕ

-- two boards that mean the same
pub record Alike (m n : Model) : Type 0 where
  pub ticks : m.ticks ≡ n.ticks
  pub tables : (i : ℕ) → m.tables i ≡ n.tables i
  pub jobs : (t : ℕ) → m.jobs t ≡ n.jobs t
  pub late : m.late ≡ n.late

-- a table that was never started
abbrev pub at_rest : TableRecord
at_rest = record { state = Stopped; earliest = 0 }

-- a new board
abbrev pub fresh : Model
fresh = record { ticks = 0; tables = λ i. at_rest; jobs = λ t. None; late = None }

abbrev pub is_stopped : TableState → Bool
is_stopped Stopped = true
is_stopped (Waiting w) = false
is_stopped (Running p) = false

-- the first reason that holds
abbrev pub first_reason : List (Bool × CallRefusal) → Option CallRefusal
first_reason [] = None
first_reason ((test, why) ∷ rest) = cond test (Some why) (first_reason rest)

-- the tick at which a round begins that is started now with a delay
abbrev pub beginning : Model → ℕ → ℕ
beginning m delay = m.ticks + delay - 1

abbrev pub start_refusal : Content → Model → ℕ → ℕ → Option CallRefusal
start_refusal c m table delay =
    first_reason (
    (is_some m.late, LateBoard) ∷
    (nat_le (table_count c) table, NoTable) ∷
    (not (is_stopped (m.tables table).state), NotStopped) ∷
    (not (in_range 1 max_delay delay), BadDelay) ∷
    (nat_lt (beginning m delay) (m.tables table).earliest, TooEarly) ∷ [])

abbrev pub stop_refusal : Content → Model → ℕ → Option CallRefusal
stop_refusal c m table =
    first_reason (
    (is_some m.late, LateBoard) ∷
    (nat_le (table_count c) table, NoTable) ∷
    (is_stopped (m.tables table).state, NotStarted) ∷ [])

abbrev pub state_refusal : Content → ℕ → Option CallRefusal
state_refusal c table = first_reason ((nat_le (table_count c) table, NoTable) ∷ [])

-- the board with another record for one table
abbrev pub with_table : Model → ℕ → TableRecord → Model
with_table m table r = record { ticks = m.ticks; tables = λ i. cond (i == table) r (m.tables i); jobs = m.jobs; late = m.late }

-- the table waits, and may begin its next round a duration after this one begins
abbrev pub started : Content → Model → ℕ → ℕ → Model
started c m table delay = with_table m table (record { state = Waiting delay; earliest = beginning m delay + duration_of c table })

-- the table is stopped; its jobs remain, and its earliest tick too, also where the round had not begun
abbrev pub stopped : Model → ℕ → Model
stopped m table = with_table m table (record { state = Stopped; earliest = (m.tables table).earliest })

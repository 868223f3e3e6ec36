-- One tick of a board, step by step, with the job that is served left free among those that none stands ahead of. Assumes nothing.
use Rattle.std.specs.Prelude.{◌≡◌, ℕ, zero, suc, ◌+◌, ◌-◌, Bool, false, cond, ◌&&◌, [], ◌∷◌, is_some, Some, None, Ok, Err, Option, Result, ◌==◌, nat_le, nat_lt}
use Rattle.std.specs.Option.{option_map}
use Rattle.plan.specs.Content.{Content, task_count, duration_of, table_of, position_of, task_at}
use Rattle.ready.specs.Jobs.{ahead, ticked}
use Rattle.ready.specs.Calls.{Jobs, FrontBy, after_serve}
use Rattle.ready.specs.declared.job.Job.{Job}
use Rattle.board.specs.declared.records.TableState.{TableState}
use Rattle.board.specs.declared.records.TableState.TheVariants.{Stopped, Waiting, Running}
use Rattle.board.specs.declared.records.TableRecord.{TableRecord}
use Rattle.board.specs.declared.calls.CallRefusal.{CallRefusal}
use Rattle.board.specs.declared.calls.CallRefusal.TheVariants.{LateBoard, ClockFull}
use Rattle.board.specs.declared.calls.TickAnswer.{TickAnswer}
use Rattle.board.specs.Refusals.{tick_answer}
use Rattle.board.specs.Waits.{activation_of}
use Rattle.board.specs.Models.{Model, Alike, max_ticks, first_reason}

abbrev pub tick_refusal : Model → Option CallRefusal
tick_refusal m = first_reason ((is_some m.late, LateBoard) ∷ (nat_le max_ticks m.ticks, ClockFull) ∷ [])

-- a round begins in this tick
abbrev pub begun : ℕ → ℕ → TableRecord
begun tick duration = record { state = Running 0; earliest = tick + duration }

-- A table in this tick: a wait falls by one, and at 0 the table runs at position 0; a running table moves on by one
-- position, from its last to 0.
abbrev pub turned_state : ℕ → ℕ → ℕ → TableState → TableRecord
turned_state tick duration earliest Stopped = record { state = Stopped; earliest = earliest }
turned_state tick duration earliest (Waiting w) = cond (nat_lt 1 w) (record { state = Waiting (w - 1); earliest = earliest }) (begun tick duration)
turned_state tick duration earliest (Running p) = cond (nat_lt (p + 1) duration) (record { state = Running (p + 1); earliest = earliest }) (begun tick duration)

abbrev pub turned : ℕ → ℕ → TableRecord → TableRecord
turned tick duration r = turned_state tick duration r.earliest r.state

-- step 1: each table moves
abbrev pub turned_tables : Content → Model → ℕ → TableRecord
turned_tables c m i = turned m.ticks (duration_of c i) (m.tables i)

abbrev pub runs_at : ℕ → TableState → Bool
runs_at q Stopped = false
runs_at q (Waiting w) = false
runs_at q (Running p) = p == q

-- task k is activated where its table runs at the position of its point
abbrev pub activates : Content → (ℕ → TableRecord) → ℕ → Bool
activates c tables k = nat_lt k (task_count c) && runs_at (position_of c k) (tables (table_of c k)).state

abbrev pub new_job : Content → ℕ → ℕ → Job
new_job c now k = record { task = k; priority = (task_at c k).priority; activation = now; left = (task_at c k).execution }

-- step 2: every activated task has a new job, and every other job stays
abbrev pub with_activated : Content → Model → Jobs
with_activated c m k = cond (activates c (turned_tables c m) k) (Some (new_job c m.ticks k)) (m.jobs k)

-- step 3: the front is served one tick
abbrev pub with_served : Content → Model → Option Job → Jobs
with_served c m front k = after_serve (with_activated c m) front k

-- step 4: a job that is still held is late if its activation tick and its deadline come to no more than the ticks made
abbrev pub past_due : ℕ → ℕ → Option ℕ → Bool
past_due made deadline None = false
past_due made deadline (Some activation) = nat_le (activation + deadline) made

-- what was found before, or else this number if it passes
abbrev pub or_this : Option ℕ → Bool → ℕ → Option ℕ
or_this (Some k) b n = Some k
or_this None b n = cond b (Some n) None

-- the first number below n that passes
abbrev pub first_below : ℕ → (ℕ → Bool) → Option ℕ
first_below zero p = None
first_below (suc n) p = or_this (first_below n p) (p n) n

abbrev pub late_task : Content → ℕ → Jobs → Option ℕ
late_task c made js = first_below (task_count c) (λ k. past_due made (task_at c k).deadline (activation_of (js k)))

-- the board after a tick in which that front was served
abbrev pub after_tick : Content → Model → Option Job → Model
after_tick c m front = record {
  ticks = m.ticks + 1;
  tables = turned_tables c m;
  jobs = with_served c m front;
  late = late_task c (m.ticks + 1) (with_served c m front);
}

-- a tick that served that front: no other job stood ahead of it, and this is what the tick tells and leaves
pub record Ticked (c : Content) (m : Model) (front : Option Job) (a : TickAnswer) (n : Model) : Type 0 where
  pub first : FrontBy ahead (with_activated c m) front
  pub told : a ≡ tick_answer (option_map ticked front) (m.ticks + 1) (late_task c (m.ticks + 1) (with_served c m front))
  pub after : Alike n (after_tick c m front)

-- a tick is answered for some such front, or refused and changes nothing
abbrev pub DidTick : Content → Model → Result TickAnswer CallRefusal → Model → Type 0
DidTick c m (Ok a) n = (tick_refusal m ≡ None) × (front : Option Job) × Ticked c m front a n
DidTick c m (Err why) n = (tick_refusal m ≡ Some why) × Alike n m

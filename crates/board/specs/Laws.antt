-- Two laws over whole drives, over any ready queue: rounds and service. Assumes nothing.
use Rattle.std.specs.Prelude.{◌≡◌, ℕ, zero, suc, ◌+◌, ◌<◌, ◌≤◌, true, ◌⊎◌, List, [], ◌∷◌, length, None, slice_index_or}
use Rattle.plan.specs.Content.{Content, table_count, duration_of}
use Rattle.plan.specs.Rules.{lawful}
use Rattle.ready.specs.Calls.{FrontBy}
use Rattle.ready.specs.Jobs.{ahead}
use Rattle.board.specs.declared.calls.Call.{Call}
use Rattle.board.specs.Models.{Model, fresh}
use Rattle.board.specs.Ticks.{turned_tables, runs_at, activates, with_activated, with_served}
use Rattle.board.specs.Drives.{Outcome, Moment, Drive}

abbrev pub no_moment : Moment
no_moment = record { board = fresh; front = None }

-- the moment of the answered tick τ, counted from 0
abbrev pub moment_of : List Moment → ℕ → Moment
moment_of moments τ = slice_index_or moments τ no_moment

-- the board at the start of the answered tick τ, and after the last one the board that the drive leads to
abbrev pub board_at : List Moment → Model → ℕ → Model
board_at [] z τ = z
board_at (x ∷ xs) z zero = x.board
board_at (x ∷ xs) z (suc τ) = board_at xs z τ

-- table i runs at position q in the answered tick τ
abbrev pub RunsIn : Content → List Moment → ℕ → ℕ → ℕ → Type 0
RunsIn c moments i τ q = runs_at q (turned_tables c (moment_of moments τ).board i).state ≡ true

-- What holds of table i in the answered ticks of a drive. A table at position q in tick τ is in the round that began at
-- τ - q: two rounds that began are the same or lie at least a duration apart. A running table moves one position a tick.
pub record RoundsOf (c : Content) (moments : List Moment) (i : ℕ) : Type 0 where
  pub apart : (τ υ q r : ℕ) → τ ≤ υ → υ < length moments → RunsIn c moments i τ q → RunsIn c moments i υ r → (τ + r ≡ υ + q) ⊎ (τ + r + duration_of c i ≤ υ + q)
  pub begun : (τ q : ℕ) → τ < length moments → RunsIn c moments i τ q → (q ≤ τ) × (q < duration_of c i)
  pub moves : (τ q : ℕ) → τ < length moments → RunsIn c moments i τ (suc q) → (υ : ℕ) × (suc υ ≡ τ) × RunsIn c moments i υ q

-- What holds of clock and jobs: the answered tick τ finds τ ticks made; a new board holds no job; no activated task has a job already, so every put is accepted; each
-- tick serves one tick of a held job that no other stands ahead of, or none with nothing waiting; every other job stays.
pub record ServiceOf (c : Content) (moments : List Moment) (z : Model) : Type 0 where
  pub clock : (τ : ℕ) → τ ≤ length moments → (board_at moments z τ).ticks ≡ τ
  pub none_first : (t : ℕ) → (board_at moments z 0).jobs t ≡ None
  pub put : (τ k : ℕ) → τ < length moments → activates c (turned_tables c (moment_of moments τ).board) k ≡ true → (moment_of moments τ).board.jobs k ≡ None
  pub first : (τ : ℕ) → τ < length moments → FrontBy ahead (with_activated c (moment_of moments τ).board) (moment_of moments τ).front
  pub next : (τ t : ℕ) → τ < length moments → (board_at moments z (suc τ)).jobs t ≡ with_served c (moment_of moments τ).board (moment_of moments τ).front t

-- the laws, of every drive of a new board on a plan that keeps the rules
abbrev pub Rounds : Type 0
Rounds = (c : Content) → lawful c ≡ true → (calls : List (Call × Outcome)) (moments : List Moment) (z : Model) → Drive c fresh calls moments z → (i : ℕ) → i < table_count c → RoundsOf c moments i

abbrev pub Service : Type 0
Service = (c : Content) → lawful c ≡ true → (calls : List (Call × Outcome)) (moments : List Moment) (z : Model) → Drive c fresh calls moments z → ServiceOf c moments z

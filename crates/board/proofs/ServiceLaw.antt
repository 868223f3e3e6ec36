-- The law of service, by induction over the calls of a drive. Assumes nothing.
use Rattle.std.proofs.Common.{◌≡◌, ℕ, zero, suc, ◌+◌, ◌<◌, ◌≤◌, true, List, ◌∷◌, length, Some, None, Option, sym, refl, ◌∙◌, subst, arith}
use Rattle.plan.specs.Content.{Content}
use Rattle.plan.specs.Rules.{lawful}
use Rattle.ready.specs.Calls.{FrontBy}
use Rattle.ready.specs.Jobs.{ahead}
use Rattle.ready.specs.declared.job.Job.{Job}
use Rattle.board.specs.declared.calls.Call.{Call}
use Rattle.board.specs.declared.calls.Call.TheVariants.{Start, Stop, State, Tick}
use Rattle.board.specs.declared.calls.CallRefusal.{CallRefusal}
use Rattle.board.specs.declared.calls.Answer.{Answer}
use Rattle.board.specs.Models.{Model, start_refusal, stop_refusal, state_refusal, started, stopped}
use Rattle.board.specs.Ticks.{turned_tables, activates, with_activated, with_served, Ticked}
use Rattle.board.specs.Soundness.{Sound}
use Rattle.board.specs.Drives.{Outcome, Did, Asked, Moment, Drive, done, asked, idled, answered}
use Rattle.board.specs.Laws.{moment_of, board_at, Service}
use Rattle.board.proofs.Keeping.{alike_path, may_tick, due_free, sound_fresh, sound_tick}
use Rattle.board.proofs.Calling.{asked_sound}
use Rattle.board.proofs.RunLaws.{asked_ticks}

-- a call that is no tick leaves the jobs as they are
did_jobs : (o : Option CallRefusal) (m after n : Model) (y : Answer) (a : Outcome) → ((t : ℕ) → after.jobs t ≡ m.jobs t) → Did o m y after a n → (t : ℕ) → n.jobs t ≡ m.jobs t
did_jobs None m after n y a same d t = d.1.jobs t ∙ same t
did_jobs (Some why) m after n y a same d t = d.1.jobs t

asked_jobs : (c : Content) (m n : Model) (call : Call) (a : Outcome) → Asked c m call a n → (t : ℕ) → n.jobs t ≡ m.jobs t
asked_jobs c m n (Start t d) a x = did_jobs (start_refusal c m t d) m (started c m t d) n _ a (λ _. refl) x
asked_jobs c m n (Stop t) a x = did_jobs (stop_refusal c m t) m (stopped m t) n _ a (λ _. refl) x
asked_jobs c m n (State t) a x = did_jobs (state_refusal c t) m m n _ a (λ _. refl) x
asked_jobs c m n Tick a x = absurd x

-- what a drive from any sound board keeps
pub record Serves (c : Content) (m : Model) (moments : List Moment) (z : Model) : Type 0 where
  pub clock : (τ : ℕ) → τ ≤ length moments → (board_at moments z τ).ticks ≡ m.ticks + τ
  pub start : (t : ℕ) → (board_at moments z 0).jobs t ≡ m.jobs t
  pub put : (τ k : ℕ) → τ < length moments → activates c (turned_tables c (moment_of moments τ).board) k ≡ true → (moment_of moments τ).board.jobs k ≡ None
  pub first : (τ : ℕ) → τ < length moments → FrontBy ahead (with_activated c (moment_of moments τ).board) (moment_of moments τ).front
  pub next : (τ t : ℕ) → τ < length moments → (board_at moments z (suc τ)).jobs t ≡ with_served c (moment_of moments τ).board (moment_of moments τ).front t

-- the same from a board with the same clock and jobs
carried : (c : Content) (m n z : Model) (moments : List Moment) → n.ticks ≡ m.ticks → ((t : ℕ) → n.jobs t ≡ m.jobs t) → Serves c n moments z → Serves c m moments z
carried c m n z moments ticks jobs s = record {
  clock = λ τ l. omega (arith, s.clock τ l, ticks);
  start = λ t. s.start t ∙ jobs t;
  put = s.put;
  first = s.first;
  next = s.next;
}

-- one moment in front of the others
abbrev before : Model → Option Job → List Moment → List Moment
before m front moments = record { board = m; front = front } ∷ moments

ticked_on : (c : Content) (m n z : Model) (front : Option Job) (moments : List Moment) {a : _} → Ticked c m front a n → ((k : ℕ) → activates c (turned_tables c m) k ≡ true → m.jobs k ≡ None) → Serves c n moments z → Serves c m (before m front moments) z
ticked_on c m n z front moments t free s = record { clock = clock'; start = λ x. refl; put = put'; first = first'; next = next' }
  where
    clock' : (τ : ℕ) → τ ≤ length (before m front moments) → (board_at (before m front moments) z τ).ticks ≡ m.ticks + τ
    clock' zero l = omega arith
    clock' (suc τ) l = omega (arith, s.clock τ (omega arith), t.after.ticks)

    put' : (τ k : ℕ) → τ < length (before m front moments) → activates c (turned_tables c (moment_of (before m front moments) τ).board) k ≡ true → (moment_of (before m front moments) τ).board.jobs k ≡ None
    put' zero k l due = free k due
    put' (suc τ) k l due = s.put τ k (omega arith) due

    first' : (τ : ℕ) → τ < length (before m front moments) → FrontBy ahead (with_activated c (moment_of (before m front moments) τ).board) (moment_of (before m front moments) τ).front
    first' zero l = t.first
    first' (suc τ) l = s.first τ (omega arith)

    next' : (τ x : ℕ) → τ < length (before m front moments) → (board_at (before m front moments) z (suc τ)).jobs x ≡ with_served c (moment_of (before m front moments) τ).board (moment_of (before m front moments) τ).front x
    next' zero x l = s.start x ∙ t.after.jobs x
    next' (suc τ) x l = s.next τ x (omega arith)

module _ (c : Content) (kept : lawful c ≡ true) where
  serves : {m z : Model} {calls : List (Call × Outcome)} {moments : List Moment} → Drive c m calls moments z → Sound c m → Serves c m moments z
  serves {m} done s = record { clock = λ τ l. omega arith; start = λ t. refl; put = λ τ k l due. absurd (omega arith); first = λ τ l. absurd (omega arith); next = λ τ t l. absurd (omega arith) }
  serves {m} {z} (asked {n} {call} {a} x d) s = carried c m n z _ (asked_ticks c m n call a x) (asked_jobs c m n call a x) (serves d (asked_sound c m n call a s x))
  serves {m} {z} (idled {n} e x d) s = carried c m n z _ x.ticks x.jobs (serves d (subst (Sound c) (sym (alike_path x)) s))
  serves {m} {z} (answered {n} {front} e t d) s =
      let on_time = (may_tick m e).0 in
      ticked_on c m n z front _ t (due_free c kept m s on_time) (serves d (subst (Sound c) (sym (alike_path t.after)) (sound_tick c kept m s on_time front t.first)))

pub service : Service
service c kept calls moments z d =
    let s = serves c kept d (sound_fresh c) in
    record {
      clock = λ τ l. omega (arith, s.clock τ l);
      none_first = s.start;
      put = s.put;
      first = s.first;
      next = s.next;
    }

-- On a plan that passes no tick of a drive tells a late task. Assumes nothing.
use Rattle.std.proofs.Common.{Ok, ◌≡◌, ℕ, zero, suc, ◌+◌, ◌<◌, Bool, true, false, leb, List, length, Some, None, Option, sym, refl, ap, ◌∙◌, subst, ⊎_elim, arith}
use Rattle.std.proofs.lemmas.Bool.{leb-true, cases_Bool}
use Rattle.theory.specs.Theorems.{Sound}
use Rattle.theory.proofs.Safety.{safe}
use Rattle.theory.proofs.Jobs.{service_drains_lem}
use Rattle.plan.specs.Content.{Content, task_count, task_at}
use Rattle.plan.specs.Rules.{lawful}
use Rattle.ready.specs.declared.job.Job.{Job}
use Rattle.board.specs.declared.calls.Call.{Call}
use Rattle.board.specs.declared.calls.Call.TheVariants.{Start, Stop, State, Tick}
use Rattle.board.specs.declared.calls.Answer.{Answer}
use Rattle.board.specs.declared.calls.CallRefusal.{CallRefusal}
use Rattle.board.specs.Models.{Model, start_refusal, stop_refusal, state_refusal, started, stopped}
use Rattle.board.specs.Refusals.{tick_answer}
use Rattle.board.specs.Ticks.{first_below, past_due, late_task, with_served}
use Rattle.board.specs.Waits.{activation_of}
use Rattle.board.specs.Drives.{Outcome, Did, Asked, Moment, Drive, done, asked, idled, answered}
use Rattle.board.specs.Laws.{moment_of, board_at, ServiceOf}
use Rattle.board.proofs.ServiceLaw.{service}
use Rattle.analysis.specs.Bridge.{plan_of, run_of, left_of, since_of}
use Rattle.analysis.specs.Promises.{Timely, AllTimely, NeverLate}
use Rattle.analysis.proofs.LawfulPlans.{plans_are_lawful_lem}
use Rattle.analysis.proofs.BoardRuns.{known, board_moment, drives_are_runs_lem}

-- nothing passes
none_below : (p : ℕ → Bool) (n : ℕ) → ((k : ℕ) → k < n → p k ≡ false) → first_below n p ≡ None
none_below p zero h = refl
none_below p (suc n) h = rw (none_below p n (λ k lt. h k (omega arith)), h n (omega arith))

-- a job that is past due after the tick τ would be late in the run
module _ (c : Content) (kept : lawful c ≡ true) (moments : List Moment) (z : Model) (s : ServiceOf c moments z) (safe-run : Sound (plan_of c) (run_of c moments z) (length moments)) where
  not_past : (τ k : ℕ) → τ < length moments → k < task_count c → (o : Option Job) → (board_at moments z (suc τ)).jobs k ≡ o → past_due (τ + 1) (task_at c k).deadline (activation_of o) ≡ false
  not_past τ k l lt None e = refl
  not_past τ k l lt (Some j) e =
      ⊎_elim
      (λ t.
      let w = known c kept moments z s (suc τ) (omega arith) k j e in
      let left : (run_of c moments z).left (suc τ) k ≡ j.left = ap left_of e in
      let since : (run_of c moments z).since (suc τ) k ≡ j.activation = ap since_of e in
      absurd (safe-run.never_late k (suc τ) lt l (omega (arith, left, w.some), omega (arith, since, leb-true _ _ t))))
      (λ f. f)
      (cases_Bool (leb (j.activation + (task_at c k).deadline) (τ + 1)))

  -- so no tick finds a late task
  on_time : (τ : ℕ) → τ < length moments → late_task c ((moment_of moments τ).board.ticks + 1) (with_served c (moment_of moments τ).board (moment_of moments τ).front) ≡ None
  on_time τ l =
      let clock : (moment_of moments τ).board.ticks ≡ τ = sym (ap (λ b. b.ticks) (board_moment moments z τ l)) ∙ s.clock τ (omega arith) in
      rw clock (none_below _ (task_count c) (λ k lt. subst (λ o. past_due (τ + 1) (task_at c k).deadline (activation_of o) ≡ false) (s.next τ k l) (not_past τ k l lt _ refl)))

did_timely : (o : Option CallRefusal) (m after n : Model) (y : Answer) (a : Outcome) → Timely (Ok y) → Did o m y after a n → Timely a
did_timely None m after n y a t d = subst Timely (sym d.0) t
did_timely (Some why) m after n y a t d = subst Timely (sym d.0) tt

pub asked_timely : (c : Content) (m n : Model) (call : Call) (a : Outcome) → Asked c m call a n → Timely a
asked_timely c m n (Start t d) a x = did_timely (start_refusal c m t d) m (started c m t d) n _ a tt x
asked_timely c m n (Stop t) a x = did_timely (stop_refusal c m t) m (stopped m t) n _ a tt x
asked_timely c m n (State t) a x = did_timely (state_refusal c t) m m n _ a tt x
asked_timely c m n Tick a x = absurd x

late_told : (o : Option Job) (n : ℕ) (l : Option ℕ) → (tick_answer o n l).late ≡ l
late_told None n l = refl
late_told (Some j) n l = refl

all_timely : (c : Content) {m z : Model} {calls : List (Call × Outcome)} {moments : List Moment} → Drive c m calls moments z → ((τ : ℕ) → τ < length moments → late_task c ((moment_of moments τ).board.ticks + 1) (with_served c (moment_of moments τ).board (moment_of moments τ).front) ≡ None) → AllTimely calls
all_timely c done h = tt
all_timely c {m} (asked {n} {call} {a} x d) h = (asked_timely c m n call a x, all_timely c d h)
all_timely c (idled e x d) h = (tt, all_timely c d h)
all_timely c {m} (answered {n} {front} {a} e t d) h = (ap (λ x. x.late) t.told ∙ late_told _ _ _ ∙ h zero (omega arith), all_timely c d (λ τ l. h (suc τ) (omega arith)))

pub never_late : NeverLate
never_late c kept light passes calls moments z d =
    let r = drives_are_runs_lem c kept calls moments z d in
    let s = service c kept calls moments z d in
    let ok = safe (plan_of c) (run_of c moments z) (length moments) (plans_are_lawful_lem c kept) light passes r.0 (service_drains_lem (plan_of c) (run_of c moments z) (length moments) r.1) in
    all_timely c d (on_time c kept moments z s ok)

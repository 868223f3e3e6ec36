-- On a plan that passes every job is reported finished within its figure. Assumes nothing.
use Rattle.std.proofs.Common.{Ok, ◌≡◌, ℕ, zero, suc, ◌+◌, ◌-◌, ◌<◌, ◌≤◌, Bool, true, false, cond, eqb, ltb, List, ◌∷◌, length, get_or, Some, None, Option, sym, refl, ap, ◌∙◌, subst, ⊎_elim, arith}
use Rattle.std.proofs.lemmas.Option.{same_Some, none-some}
use Rattle.std.proofs.lemmas.Bool.{eqb-true, eq-eqb, cases_Bool, cases_eq}
use Rattle.std.specs.Option.{option_map}
use Rattle.theory.specs.Runs.{Takes, activated, holds, born}
use Rattle.theory.specs.Theorems.{Sound}
use Rattle.theory.proofs.Safety.{safe}
use Rattle.theory.proofs.Jobs.{service_drains_lem}
use Rattle.plan.specs.Content.{Content, task_count}
use Rattle.plan.specs.Rules.{lawful}
use Rattle.plan.proofs.Kept.{lawful_from}
use Rattle.ready.specs.Calls.{FrontBy}
use Rattle.ready.specs.Jobs.{ahead, ticked}
use Rattle.ready.specs.declared.job.Job.{Job}
use Rattle.board.specs.declared.calls.Call.{Call}
use Rattle.board.specs.declared.calls.Call.TheVariants.{Start, Stop, State, Tick}
use Rattle.board.specs.declared.calls.CallRefusal.{CallRefusal}
use Rattle.board.specs.declared.calls.Answer.{Answer}
use Rattle.board.specs.declared.calls.TickAnswer.{TickAnswer}
use Rattle.board.specs.Models.{Model, start_refusal, stop_refusal, state_refusal, started, stopped}
use Rattle.board.specs.Refusals.{tick_answer}
use Rattle.board.specs.Ticks.{turned_tables, activates, late_task, with_activated, with_served}
use Rattle.board.specs.Drives.{Outcome, Did, Asked, Moment, Drive, done, asked, idled, answered}
use Rattle.board.specs.Laws.{moment_of, ServiceOf}
use Rattle.board.proofs.ServiceLaw.{service}
use Rattle.analysis.specs.Bridge.{plan_of, run_of, left_of, since_of}
use Rattle.analysis.specs.Promises.{ticked_first, ticks_of, nothing, Reported, HeldToFigures}
use Rattle.analysis.proofs.LawfulPlans.{plans_are_lawful_lem}
use Rattle.analysis.proofs.BoardRuns.{board_moment, active_is, holds_is, born_is, known_now, after_is, left_less, drives_are_runs_lem}

-- the answers of calls that are no tick are passed over
did_skips : (o : Option CallRefusal) (m after n : Model) (y : Answer) (a : Outcome) (rest : List TickAnswer) → ticked_first (Ok y) rest ≡ rest → Did o m y after a n → ticked_first a rest ≡ rest
did_skips None m after n y a rest t d = ap (λ x. ticked_first x rest) d.0 ∙ t
did_skips (Some why) m after n y a rest t d = ap (λ x. ticked_first x rest) d.0

asked_skips : (c : Content) (m n : Model) (call : Call) (a : Outcome) (rest : List TickAnswer) → Asked c m call a n → ticked_first a rest ≡ rest
asked_skips c m n (Start t d) a rest x = did_skips (start_refusal c m t d) m (started c m t d) n _ a rest refl x
asked_skips c m n (Stop t) a rest x = did_skips (stop_refusal c m t) m (stopped m t) n _ a rest refl x
asked_skips c m n (State t) a rest x = did_skips (state_refusal c t) m m n _ a rest refl x
asked_skips c m n Tick a rest x = absurd x

-- what the answered tick τ tells of a front
abbrev told_of : Content → List Moment → ℕ → Option Job → TickAnswer
told_of c moments τ front = tick_answer (option_map ticked front) ((moment_of moments τ).board.ticks + 1) (late_task c ((moment_of moments τ).board.ticks + 1) (with_served c (moment_of moments τ).board (moment_of moments τ).front))

-- what it told
abbrev told_at : Content → List Moment → ℕ → TickAnswer
told_at c moments τ = told_of c moments τ (moment_of moments τ).front

-- there are as many answered ticks as moments, and each tells what its moment says
record Tells (c : Content) (calls : List (Call × Outcome)) (moments : List Moment) : Type 0 where
  as_many : length (ticks_of calls) ≡ length moments
  tells : (τ : ℕ) → τ < length moments → get_or (ticks_of calls) τ nothing ≡ told_at c moments τ

skipped : (c : Content) (calls : List (Call × Outcome)) (moments : List Moment) (rest : List TickAnswer) → rest ≡ ticks_of calls → Tells c calls moments → (length rest ≡ length moments) × ((τ : ℕ) → τ < length moments → get_or rest τ nothing ≡ told_at c moments τ)
skipped c calls moments rest e t = (ap length e ∙ t.as_many, λ τ l. ap (λ x. get_or x τ nothing) e ∙ t.tells τ l)

drive_tells : (c : Content) {m z : Model} {calls : List (Call × Outcome)} {moments : List Moment} → Drive c m calls moments z → Tells c calls moments
drive_tells c done = record { as_many = refl; tells = λ τ l. absurd (omega arith) }
drive_tells c {m} (asked {n} {call} {a} {calls} {moments} x d) =
    let s = skipped c calls moments _ (asked_skips c m n call a (ticks_of calls) x) (drive_tells c d) in
    record { as_many = s.0; tells = s.1 }
drive_tells c (idled e x d) = let t = drive_tells c d in record { as_many = t.as_many; tells = t.tells }
drive_tells c {m} (answered {n} {front} {a} {calls} {moments} e t d) =
    let later = drive_tells c d in
    record { as_many = ap suc later.as_many; tells = at later.tells }
  where
    at : ((τ : ℕ) → τ < length moments → get_or (ticks_of calls) τ nothing ≡ told_at c moments τ) → (τ : ℕ) → τ < suc (length moments) → get_or (a ∷ ticks_of calls) τ nothing ≡ told_at c (record { board = m; front = front } ∷ moments) τ
    at later zero l = t.told
    at later (suc τ) l = later τ (omega arith)

module _ (c : Content) (kept : lawful c ≡ true) (moments : List Moment) (z : Model) (s : ServiceOf c moments z) where
  -- a job that is there in a tick and gone after it was served its last tick
  record Last (υ t : ℕ) : Type 0 where
    job : Job
    front : (moment_of moments υ).front ≡ Some job
    task : job.task ≡ t
    left : job.left ≡ 1
    held : with_activated c (moment_of moments υ).board t ≡ Some job

  finishing : (υ t : ℕ) (l : υ < length moments) → t < task_count c → 1 ≤ holds (plan_of c) (run_of c moments z) υ t → (run_of c moments z).left (suc υ) t ≡ 0 → Last υ t
  finishing υ t l lt some gone = by (moment_of moments υ).front refl (s.first υ l)
    where
      had : 1 ≤ left_of (with_activated c (moment_of moments υ).board t)
      had = omega (arith, some, holds_is c kept moments z s υ l t lt)

      by : (o : Option Job) → (moment_of moments υ).front ≡ o → FrontBy ahead (with_activated c (moment_of moments υ).board) o → Last υ t
      by None e x = absurd (omega (arith, had, ap left_of (x t)))
      by (Some f) e x = go (eqb f.task t) refl
        where
          after : left_of (with_served c (moment_of moments υ).board (Some f) t) ≡ 0
          after = ap (λ o. left_of (with_served c (moment_of moments υ).board o t)) (sym e) ∙ sym (after_is c kept moments z s υ l t) ∙ gone

          go : (b : Bool) → eqb f.task t ≡ b → Last υ t
          go true q =
              let same = sym (eqb-true f.task t q) in
              let w = known_now c kept moments z s υ l f.task f x.0 in
              let gone' : left_of (cond (ltb 0 (f.left - 1)) (Some (ticked f)) None) ≡ 0 = rw q at after in
              record {
                job = f;
                front = e;
                task = sym same;
                left = omega (arith, left_less c kept moments z s υ l f w.some _ refl, gone');
                held = subst (λ i. with_activated c (moment_of moments υ).board i ≡ Some f) (sym same) x.0;
              }
          go false q = absurd (omega (arith, had, rw q at after))

  -- a tick that tells a task with a response leaves it no job
  told_gone : (υ t n : ℕ) (l : υ < length moments) → (told_at c moments υ).served ≡ Some t → (told_at c moments υ).response ≡ Some n → (run_of c moments z).left (suc υ) t ≡ 0
  told_gone υ t n l sv re = after_is c kept moments z s υ l t ∙ by (moment_of moments υ).front sv re
    where
      by : (o : Option Job) → (told_of c moments υ o).served ≡ Some t → (told_of c moments υ o).response ≡ Some n → left_of (with_served c (moment_of moments υ).board o t) ≡ 0
      by None a b = absurd (none-some _ a)
      by (Some f) a b = go (ltb 0 (f.left - 1)) refl b
        where
          same : eqb f.task t ≡ true
          same = eq-eqb f.task t (same_Some _ _ a)

          go : (x : Bool) → ltb 0 (f.left - 1) ≡ x → cond x None (Some ((moment_of moments υ).board.ticks + 1 - f.activation)) ≡ Some n → left_of (with_served c (moment_of moments υ).board (Some f) t) ≡ 0
          go true e y = absurd (none-some _ y)
          go false e y = rw (same, e)

  module _ (ok : Sound (plan_of c) (run_of c moments z) (length moments)) (calls : List (Call × Outcome)) (t' : Tells c calls moments) where
    reports : (t τ j : ℕ) → t < task_count c → τ + j ≤ length moments → activates c (turned_tables c (moment_of moments τ).board) t ≡ true → Takes (run_of c moments z) t τ j → (run_of c moments z).left (τ + j) t ≡ 0 → Reported calls t τ j
    reports t τ j lt room due takes gone =
        let υ = τ + j - 1 in
        let some = takes.some in
        let l : υ < length moments = omega (arith, some, room) in
        let next : suc υ ≡ τ + j = omega (arith, some) in
        let was = still υ l refl in
        let f = finishing υ t l lt was.0 (ap (λ n. (run_of c moments z).left n t) next ∙ gone) in
        let birth : f.job.activation ≡ τ = sym (born_is c kept moments z s υ l t lt ∙ ap since_of f.held) ∙ was.1 in
        let clock : (moment_of moments υ).board.ticks ≡ υ = sym (ap (λ b. b.ticks) (board_moment moments z υ l)) ∙ s.clock υ (omega (arith, l)) in
        let tells = t'.tells υ l in
        record {
          some = some;
          last = record {
            served = ap (λ a. a.served) tells ∙ ap (λ o. (told_of c moments υ o).served) f.front ∙ ap Some f.task;
            responds = ap (λ a. a.response) tells ∙ ap (λ o. (told_of c moments υ o).response) f.front ∙ responded f.job f.left birth clock;
          };
          first = λ i n le before x.
              let li : i < length moments = omega (arith, before, room) in
              let ti = t'.tells i li in
              let none = told_gone i t n li (sym (ap (λ a. a.served) ti) ∙ x.served) (sym (ap (λ a. a.response) ti) ∙ x.responds) in
              let there = (takes.held (suc i - τ) (omega (arith, le)) (omega (arith, before))).0 in
              let at : τ + (suc i - τ) ≡ suc i = omega (arith, le) in
              absurd (omega (arith, there, ap (λ k. (run_of c moments z).left k t) at, none));
        }
      where
        responded : (f : Job) → f.left ≡ 1 → f.activation ≡ τ → (moment_of moments (τ + j - 1)).board.ticks ≡ τ + j - 1 → cond (ltb 0 (f.left - 1)) None (Some ((moment_of moments (τ + j - 1)).board.ticks + 1 - f.activation)) ≡ Some j
        responded f one birth clock =
            let zero' : f.left - 1 ≡ 0 = omega (arith, one) in
            let time : (moment_of moments (τ + j - 1)).board.ticks + 1 - f.activation ≡ j = omega (arith, birth, clock, takes.some) in
            rw (zero', time)

        -- the job is held in the tick υ, and it is the one activated in τ
        still : (υ : ℕ) → υ < length moments → υ ≡ τ + j - 1 → (1 ≤ holds (plan_of c) (run_of c moments z) υ t) × (born (plan_of c) (run_of c moments z) υ t ≡ τ)
        still υ l at =
            ⊎_elim
            (λ now.
            let on : activated (plan_of c) (run_of c moments z) υ t ≡ true = active_is c kept moments z s υ l t lt ∙ ap (λ i. activates c (turned_tables c (moment_of moments i).board) t) now ∙ due in
            (rw on ((lawful_from c kept).tasks t lt).runs, rw on now))
            (λ later.
            let held = takes.held (j - 1) (omega (arith, at, later, takes.some)) (omega (arith, takes.some)) in
            let same : τ + (j - 1) ≡ υ = omega (arith, at, takes.some) in
            let left : 1 ≤ (run_of c moments z).left υ t = subst (λ i. 1 ≤ (run_of c moments z).left i t) same held.0 in
            let since : (run_of c moments z).since υ t ≡ τ = subst (λ i. (run_of c moments z).since i t ≡ τ) same held.1 in
            let off : activated (plan_of c) (run_of c moments z) υ t ≡ false = ⊎_elim (λ on. absurd (omega (arith, left, ok.never_refused t υ lt (omega (arith, l)) on))) (λ f. f) (cases_Bool _) in
            (rw off left, rw off since))
            (cases_eq υ τ)

pub held_to_figures : HeldToFigures
held_to_figures c kept light passes calls moments z d t τ figure lt fig due room =
    let r = drives_are_runs_lem c kept calls moments z d in
    let s = service c kept calls moments z d in
    let ok = safe (plan_of c) (run_of c moments z) (length moments) (plans_are_lawful_lem c kept) light passes r.0 (service_drains_lem (plan_of c) (run_of c moments z) (length moments) r.1) in
    let tells = drive_tells c d in
    let enough : τ + figure ≤ length moments = omega (arith, room, tells.as_many) in
    let pos : 1 ≤ figure = fig.attained.3.some in
    let on : activated (plan_of c) (run_of c moments z) τ t ≡ true = active_is c kept moments z s τ (omega (arith, enough, pos)) t lt ∙ due in
    let f = ok.finished t τ figure lt fig on enough in
    (f.0, f.1, reports c kept moments z s ok calls tells t τ f.0 lt (omega (arith, f.1, enough)) due f.2 f.3)

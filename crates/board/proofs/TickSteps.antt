-- The four steps of a tick together. Assumes nothing.
use Rattle.std.proofs.Common.{◌≡◌, ℕ, ◌+◌, true, cond, Some, None, Option, sym, refl, ap, ◌∙◌, subst}
use Rattle.std.proofs.Math.Logic.{∥∥₁_elim, ∥∥₁_map}
use Rattle.std.proofs.Props.{props}
use Rattle.std.specs.Option.{option_map}
use Rattle.plan.specs.Content.{Content}
use Rattle.plan.specs.Rules.{lawful}
use Rattle.ready.specs.Calls.{Jobs, FrontBy, after_serve}
use Rattle.ready.specs.Jobs.{ahead, ticked}
use Rattle.ready.specs.declared.job.Job.{Job}
use Rattle.board.specs.declared.records.TableRecord.{TableRecord}
use Rattle.board.specs.declared.calls.TickAnswer.{TickAnswer}
use Rattle.board.specs.Refusals.{tick_answer}
use Rattle.board.specs.Models.{Model, Alike}
use Rattle.board.specs.Ticks.{turned_tables, activates, new_job, with_activated, with_served, late_task, after_tick, Ticked}
use Rattle.board.specs.Soundness.{Sound}
use Rattle.board.proofs.Keeping.{alike_path, due_free, sound_tick}

-- what each step of a tick promises: the tables turn, due tasks get their jobs, the front is served, the late task is found
pub record Steps (c : Content) (m : Model) (tables : ℕ → TableRecord) (js : Jobs) (top : Option Job) (ks : Jobs) (late : Option ℕ) : Type 0 where
  pub turns : (i : ℕ) → tables i ≡ turned_tables c m i
  pub acts : ((k : ℕ) → activates c tables k ≡ true → m.jobs k ≡ None) → (k : ℕ) → js k ≡ cond (activates c tables k) (Some (new_job c m.ticks k)) (m.jobs k)
  pub front : FrontBy ahead js top
  pub serves : (t : ℕ) → ks t ≡ after_serve js top t
  pub lates : late ≡ late_task c (m.ticks + 1) ks

module _ (c : Content) (kept : lawful c ≡ true) (m : Model) (h : ∥ Sound c m ∥₁) (on_time : m.late ≡ None)
    (tables : ℕ → TableRecord) (js : Jobs) (top : Option Job) (ks : Jobs) (late : Option ℕ) (s : Steps c m tables js top ks late) where
  after : Model
  after = record { ticks = m.ticks + 1; tables = tables; jobs = ks; late = late }

  same_tables : tables ≡ turned_tables c m
  same_tables = λ i k. s.turns k i

  same_active : js ≡ with_activated c m
  same_active =
      let free = λ (k : ℕ) (due : activates c tables k ≡ true). ∥∥₁_elim h (hlevel props) (λ sound. due_free c kept m sound on_time k (subst (λ ts. activates c ts k ≡ true) same_tables due)) in
      let each : (k : ℕ) → js k ≡ with_activated c m k = λ k. s.acts free k ∙ ap (λ ts. cond (activates c ts k) (Some (new_job c m.ticks k)) (m.jobs k)) same_tables in
      λ i k. each k i

  first : FrontBy ahead (with_activated c m) top
  first = subst (λ x. FrontBy ahead x top) same_active s.front

  same_served : ks ≡ with_served c m top
  same_served = let each : (t : ℕ) → ks t ≡ with_served c m top t = λ t. s.serves t ∙ ap (λ x. after_serve x top t) same_active in λ i t. each t i

  same_late : late ≡ late_task c (m.ticks + 1) (with_served c m top)
  same_late = s.lates ∙ ap (late_task c (m.ticks + 1)) same_served

  alike : Alike (record { ticks = m.ticks + 1; tables = tables; jobs = ks; late = late }) (after_tick c m top)
  alike = record { ticks = refl; tables = s.turns; jobs = λ t. ap (λ x. x t) same_served; late = same_late }

  pub tick_made : (a : TickAnswer) → a ≡ tick_answer (option_map ticked top) (m.ticks + 1) late → Ticked c m top a (record { ticks = m.ticks + 1; tables = tables; jobs = ks; late = late })
  tick_made a is' = record { first = first; told = is' ∙ ap (tick_answer (option_map ticked top) (m.ticks + 1)) same_late; after = alike }

  pub tick_sound : ∥ Sound c (record { ticks = m.ticks + 1; tables = tables; jobs = ks; late = late }) ∥₁
  tick_sound = ∥∥₁_map h (λ sound. subst (Sound c) (sym (alike_path alike)) (sound_tick c kept m sound on_time top first))

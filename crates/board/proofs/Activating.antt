-- Activating the tasks that are due, one after another. Assumes nothing.
use Rattle.std.proofs.Common.{◌≡◌, ℕ, zero, suc, ◌+◌, ◌<◌, Bool, true, false, cond, ◌&&◌, eqb, ltb, List, length, get_or, Some, None, Option, sym, refl, ap, ◌∙◌, subst, ⊎_elim, add-one, arith}
use Rattle.std.proofs.lemmas.Bool.{cases_lt, cases_eq, and_from, lt-ltb, le-ltb, eq-eqb, ne_eqb}
use Rattle.plan.specs.declared.records.Point.{Point}
use Rattle.plan.specs.declared.records.Task.{Task}
use Rattle.plan.specs.Content.{Content, no_point, no_task, task_count, task_at}
use Rattle.plan.specs.Limits.{max_tasks}
use Rattle.plan.specs.Rules.{lawful}
use Rattle.plan.proofs.Kept.{lawful_from}
use Rattle.ready.specs.Calls.{Jobs}
use Rattle.ready.specs.Jobs.{fit}
use Rattle.ready.specs.declared.job.Job.{Job}
use Rattle.board.specs.declared.records.TableRecord.{TableRecord}
use Rattle.board.specs.Ticks.{runs_at, activates, new_job, first_below}

same_side : (t k : ℕ) → (t ≡ k → ⊥) → ltb t k ≡ ltb t (k + 1)
same_side t k ne = ⊎_elim (λ lt. lt-ltb t k lt ∙ sym (lt-ltb t (k + 1) (omega arith))) (λ le. le-ltb t k le ∙ sym (le-ltb t (k + 1) (omega arith))) (cases_lt t k)

module _ (c : Content) (records : ℕ → TableRecord) (tick : ℕ) where
  -- the jobs once the tasks below k are seen to
  abbrev pub seen : Jobs → ℕ → Jobs
  seen js k t = cond (ltb t k && activates c records t) (Some (new_job c tick t)) (js t)

  pub seen_none : (js : Jobs) (t : ℕ) → js t ≡ seen js 0 t
  seen_none js t = rw (le-ltb t 0 (omega arith))

  pub seen_all : (js : Jobs) (t : ℕ) → seen js (task_count c) t ≡ cond (activates c records t) (Some (new_job c tick t)) (js t)
  seen_all js t = go (ltb t (task_count c)) refl
    where
      go : (b : Bool) → ltb t (task_count c) ≡ b → seen js (task_count c) t ≡ cond (activates c records t) (Some (new_job c tick t)) (js t)
      go true e = rw e
      go false e = rw e

  -- a task that is not due changes nothing
  pub seen_not : (js : Jobs) (k t : ℕ) → activates c records k ≡ false → seen js k t ≡ seen js (k + 1) t
  seen_not js k t no_due =
      ⊎_elim
      (λ e. let f : activates c records t ≡ false = ap (λ i. activates c records i) e ∙ no_due in let g : ltb t k ≡ false = le-ltb t k (omega (arith, e)) in rw (f, g) (hidden (ltb t (k + 1)) _))
      (λ ne. ap (λ b. cond (b && activates c records t) (Some (new_job c tick t)) (js t)) (same_side t k ne))
      (cases_eq t k)
    where
      hidden : (b : Bool) (o : Option Job) → js t ≡ cond (b && false) o (js t)
      hidden true o = refl
      hidden false o = refl

  -- a task that is due gets its job
  pub seen_due : (js : Jobs) (k t : ℕ) (after : Option Job) → activates c records k ≡ true → after ≡ cond (eqb t k) (Some (new_job c tick k)) (seen js k t) → after ≡ seen js (k + 1) t
  seen_due js k t after due e =
      e ∙ ⊎_elim
      (λ q.
      let a : eqb t k ≡ true = eq-eqb t k q in
      let b : ltb t (k + 1) ≡ true = lt-ltb t (k + 1) (omega (arith, q)) in
      let d : activates c records t ≡ true = ap (λ i. activates c records i) q ∙ due in
      rw (a, b, d) (ap (λ i. Some (new_job c tick i)) (sym q)))
      (λ ne. rw (ne_eqb t k ne) (ap (λ b. cond (b && activates c records t) (Some (new_job c tick t)) (js t)) (same_side t k ne)))
      (cases_eq t k)

  -- a task has no job until it is seen to
  pub seen_free : (js : Jobs) (k : ℕ) → js k ≡ None → seen js k k ≡ None
  seen_free js k e = rw (le-ltb k k (omega arith)) e

  pub new_fits : lawful c ≡ true → (k : ℕ) → k < task_count c → fit (new_job c tick k) ≡ true
  new_fits kept k lt =
      let l = lawful_from c kept in
      and_from _ _ (lt-ltb k max_tasks (omega (arith, lt, l.few_tasks))) (lt-ltb 0 _ (l.tasks k lt).runs)

-- the first that passes: none so far, and then this one
pub first_more : (p : ℕ → Bool) (n : ℕ) → first_below n p ≡ None → p n ≡ false → first_below (n + 1) p ≡ None
first_more p n e f = ap (λ k. first_below k p) (add-one n) ∙ rw (e, f)

pub first_found : (p : ℕ → Bool) (n m : ℕ) → first_below n p ≡ None → p n ≡ true → n < m → Some n ≡ first_below m p
first_found p n zero e t lt = absurd (omega arith)
first_found p n (suc m) e t lt =
    ⊎_elim (λ q. rw (← q) (rw (e, t))) (λ ne. rw (sym (first_found p n m e t (omega arith)))) (cases_eq n m)

module _ (c : Content) (records : ℕ → TableRecord) where
  -- what the code reads of a task, its point and its table says whether it is due
  pub due_is : (ts : List Task) (ps : List Point) (p : Point) (r : TableRecord) (k : ℕ) (b : Bool) → ts ≡ c.tasks → ps ≡ c.points → p ≡ get_or ps (get_or ts k no_task).point no_point → r ≡ records p.table → b ≡ runs_at p.position r.state → k < length ts → activates c records k ≡ b
  due_is ts ps p r k b e f q s t lt =
      let point : p ≡ get_or c.points (task_at c k).point no_point = q ∙ rw (e, f) in
      let inside : ltb k (task_count c) ≡ true = lt-ltb k (task_count c) (omega (arith, lt, ap length e)) in
      rw inside (sym (t ∙ rw (s, point)))

  module _ (tick : ℕ) {Q : Type 0} (jobs : Q → Jobs) (q₀ : Q) where
    -- no task that is due has a job
    abbrev pub Free : Type 0
    Free = (k : ℕ) → activates c records k ≡ true → jobs q₀ k ≡ None

    -- the tasks below k are seen to
    abbrev pub Upto : ℕ → Q → Type 0
    Upto k q = Free → (t : ℕ) → jobs q t ≡ seen c records tick (jobs q₀) k t

    pub upto_none : Upto 0 q₀
    upto_none f t = seen_none c records tick (jobs q₀) t

    pub upto_not : (k : ℕ) (q : Q) → activates c records k ≡ false → Upto k q → Upto (k + 1) q
    upto_not k q no_due u f t = u f t ∙ seen_not c records tick (jobs q₀) k t no_due

    -- what putting a job into the queue promises
    abbrev pub Puts : Job → Q → Q → Type 0
    Puts j q p = fit j ≡ true → jobs q j.task ≡ None → (t : ℕ) → jobs p t ≡ cond (eqb t j.task) (Some j) (jobs q t)

    pub upto_due : (k : ℕ) (q p : Q) (j : Job) → lawful c ≡ true → k < task_count c → activates c records k ≡ true → j ≡ new_job c tick k → Puts j q p → Upto k q → Upto (k + 1) p
    upto_due k q p j lawfully lt due is' puts u f t =
        let none : jobs q k ≡ None = u f k ∙ seen_free c records tick (jobs q₀) k (f k due) in
        seen_due c records tick (jobs q₀) k t (jobs p t) due
        (subst (λ i. Puts i q p) is' puts (new_fits c records tick lawfully k lt) none t ∙ ap (λ o. cond (eqb t k) (Some (new_job c tick k)) o) (u f t))

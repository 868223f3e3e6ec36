-- Drives keep the laws that the theory supposes. Assumes nothing.
use Rattle.std.proofs.Common.{◌≡◌, ℕ, zero, suc, ◌-◌, ◌<◌, ◌≤◌, Bool, true, false, cond, ◌&&◌, ◌||◌, eqb, ltb, ◌⊎◌, List, [], ◌∷◌, length, Some, None, Option, sym, refl, ap, ◌∙◌, subst, inl, inr, ⊎_elim, arith}
use Rattle.std.proofs.lemmas.Option.{same_Some, none-some}
use Rattle.std.proofs.lemmas.Bool.{and_parts, lt-ltb, ltb-true, ltb-false, eqb-true, eq-eqb, ne_eqb}
use Rattle.theory.specs.Runs.{Front, Idle, Stays, activated, holds, born}
use Rattle.plan.specs.Content.{Content, task_count, task_at}
use Rattle.plan.specs.Rules.{lawful}
use Rattle.plan.proofs.Kept.{lawful_from}
use Rattle.ready.specs.Calls.{FrontBy}
use Rattle.ready.specs.Jobs.{ahead, ticked}
use Rattle.ready.specs.declared.job.Job.{Job}
use Rattle.board.specs.Models.{Model}
use Rattle.board.specs.Ticks.{turned_tables, activates, new_job, with_activated, with_served}
use Rattle.board.specs.Drives.{Moment}
use Rattle.board.specs.Laws.{moment_of, board_at, ServiceOf}
use Rattle.board.proofs.RunLaws.{rounds}
use Rattle.board.proofs.Notes.{served_from}
use Rattle.board.proofs.ServiceLaw.{service}
use Rattle.analysis.specs.Bridge.{plan_of, run_of, left_of, since_of}
use Rattle.analysis.specs.Promises.{DrivesAreRuns}

pub board_moment : (moments : List Moment) (z : Model) (τ : ℕ) → τ < length moments → board_at moments z τ ≡ (moment_of moments τ).board
board_moment [] z τ l = absurd (omega arith)
board_moment (x ∷ xs) z zero l = refl
board_moment (x ∷ xs) z (suc τ) l = board_moment xs z τ (omega arith)

-- a job that is held is of its task, below the number of tasks, with the task's priority and ticks left
pub record Known (c : Content) (k : ℕ) (j : Job) : Type 0 where
  pub task : k < task_count c
  pub number : j.task ≡ k
  pub priority : j.priority ≡ (task_at c k).priority
  pub some : 1 ≤ j.left

module _ (c : Content) (kept : lawful c ≡ true) where
  known_active : (m : Model) → ((k : ℕ) (j : Job) → m.jobs k ≡ Some j → Known c k j) → (k : ℕ) (j : Job) → with_activated c m k ≡ Some j → Known c k j
  known_active m h k j e = go (activates c (turned_tables c m) k) refl e
    where
      go : (b : Bool) → activates c (turned_tables c m) k ≡ b → cond b (Some (new_job c m.ticks k)) (m.jobs k) ≡ Some j → Known c k j
      go true due x =
          let lt = ltb-true k (task_count c) (and_parts _ _ due).0 in
          subst (Known c k) (same_Some _ _ x) (record { task = lt; number = refl; priority = refl; some = ((lawful_from c kept).tasks k lt).runs })
      go false due x = h k j x

  known_served : (m : Model) (front : Option Job) → FrontBy ahead (with_activated c m) front → ((k : ℕ) (j : Job) → m.jobs k ≡ Some j → Known c k j) → (k : ℕ) (j : Job) → with_served c m front k ≡ Some j → Known c k j
  known_served m None f h k j e = known_active m h k j e
  known_served m (Some f) x h k j e = go (eqb f.task k) refl (ltb 0 (ticked f).left) refl e
    where
      go : (b : Bool) → eqb f.task k ≡ b → (l : Bool) → ltb 0 (ticked f).left ≡ l → cond b (cond l (Some (ticked f)) None) (with_activated c m k) ≡ Some j → Known c k j
      go true q true r y =
          let w = known_active m h f.task f x.0 in
          let same = sym (eqb-true f.task k q) in
          subst (Known c k) (same_Some _ _ y) (subst (λ i. Known c i (ticked f)) (sym same) (record { task = w.task; number = refl; priority = w.priority; some = ltb-true 0 _ r }))
      go true q false r y = absurd (none-some _ y)
      go false q l r y = known_active m h k j y

  module _ (moments : List Moment) (z : Model) (s : ServiceOf c moments z) where
    pub known : (τ : ℕ) → τ ≤ length moments → (k : ℕ) (j : Job) → (board_at moments z τ).jobs k ≡ Some j → Known c k j
    known zero l k j e = absurd (none-some _ (sym (s.none_first k) ∙ e))
    known (suc τ) l k j e =
        known_served (moment_of moments τ).board (moment_of moments τ).front (s.first τ l)
        (λ i x y. known τ (omega arith) i x (ap (λ b. b.jobs i) (board_moment moments z τ l) ∙ y)) k j (sym (s.next τ k l) ∙ e)

    -- In a tick of the drive: which tasks are activated, and what they hold once they are.
    module _ (τ : ℕ) (l : τ < length moments) where
      abbrev pub here : Model
      here = (moment_of moments τ).board

      pub active_is : (k : ℕ) → k < task_count c → activated (plan_of c) (run_of c moments z) τ k ≡ activates c (turned_tables c here) k
      active_is k lt = let a : ltb τ (length moments) ≡ true = lt-ltb _ _ l in let b : ltb k (task_count c) ≡ true = lt-ltb _ _ lt in rw (a, b)

      job_now : (k : ℕ) → (board_at moments z τ).jobs k ≡ here.jobs k
      job_now k = ap (λ b. b.jobs k) (board_moment moments z τ l)

      pub holds_is : (k : ℕ) → k < task_count c → holds (plan_of c) (run_of c moments z) τ k ≡ left_of (with_activated c here k)
      holds_is k lt = go (activates c (turned_tables c here) k) (active_is k lt)
        where
          go : (b : Bool) → activated (plan_of c) (run_of c moments z) τ k ≡ b → holds (plan_of c) (run_of c moments z) τ k ≡ left_of (cond b (Some (new_job c here.ticks k)) (here.jobs k))
          go true e = rw e
          go false e = rw e (ap left_of (job_now k))

      pub born_is : (k : ℕ) → k < task_count c → born (plan_of c) (run_of c moments z) τ k ≡ since_of (with_activated c here k)
      born_is k lt = go (activates c (turned_tables c here) k) (active_is k lt)
        where
          go : (b : Bool) → activated (plan_of c) (run_of c moments z) τ k ≡ b → born (plan_of c) (run_of c moments z) τ k ≡ since_of (cond b (Some (new_job c here.ticks k)) (here.jobs k))
          go true e = rw e (sym (s.clock τ (omega arith)) ∙ ap (λ b. b.ticks) (board_moment moments z τ l))
          go false e = rw e (ap since_of (job_now k))

      pub known_now : (k : ℕ) (j : Job) → with_activated c here k ≡ Some j → Known c k j
      known_now k j e = known_active here (λ i x y. known τ (omega arith) i x (job_now i ∙ y)) k j e

      pub after_is : (k : ℕ) → (run_of c moments z).left (suc τ) k ≡ left_of (with_served c here (moment_of moments τ).front k)
      after_is k = ap left_of (s.next τ k l)

      -- what is held has a job
      job_of : (o : Option Job) → 1 ≤ left_of o → (j : Job) × (o ≡ Some j)
      job_of None h = absurd (omega arith)
      job_of (Some j) h = (j, refl)

      same_birth : (k : ℕ) → k < task_count c → 1 ≤ (run_of c moments z).left (suc τ) k → (run_of c moments z).since (suc τ) k ≡ born (plan_of c) (run_of c moments z) τ k
      same_birth k lt some =
          let j = job_of ((board_at moments z (suc τ)).jobs k) some in
          let was = served_from (with_activated c here) (moment_of moments τ).front k j.0 (s.first τ l) (sym (s.next τ k l) ∙ j.1) in
          ap since_of j.1 ∙ was.2 ∙ sym (born_is k lt ∙ ap since_of was.1)

      abbrev Tick : Type 0
      Tick =
          (Idle (plan_of c) (run_of c moments z) τ × ((k : ℕ) → k < task_count c → Stays (plan_of c) (run_of c moments z) τ k))
          ⊎ ((f : ℕ) × Front (plan_of c) (run_of c moments z) τ f × (suc ((run_of c moments z).left (suc τ) f) ≡ holds (plan_of c) (run_of c moments z) τ f) × ((k : ℕ) → k < task_count c → (k ≡ f → ⊥) → Stays (plan_of c) (run_of c moments z) τ k))

      pub left_less : (f : Job) → 1 ≤ f.left → (b : Bool) → ltb 0 (f.left - 1) ≡ b → suc (left_of (cond b (Some (ticked f)) None)) ≡ f.left
      left_less f some true e = omega arith
      left_less f some false e = omega (arith, ltb-false 0 (f.left - 1) e)

      ticks_by : (o : Option Job) → (moment_of moments τ).front ≡ o → FrontBy ahead (with_activated c here) o → Tick
      ticks_by None e x = inl (
        λ k lt. holds_is k lt ∙ ap left_of (x k),
        λ k lt. after_is k ∙ ap (λ o. left_of (with_served c here o k)) e ∙ sym (holds_is k lt),
      )
      ticks_by (Some f) e x =
          let t = f.task in
          let w = known_now t f x.0 in
          inr (
            t,
            record {
              task = w.task;
              held = omega (arith, holds_is t w.task ∙ ap left_of x.0, w.some);
              first = λ k lt some.
                  let i = job_of (with_activated c here k) (omega (arith, some, holds_is k lt)) in
                  let v = known_now k i.0 i.1 in
                  let pk : (task_at c k).priority ≡ i.0.priority = sym v.priority in
                  let pf : (task_at c t).priority ≡ f.priority = sym w.priority in
                  let bk : born (plan_of c) (run_of c moments z) τ k ≡ i.0.activation = born_is k lt ∙ ap since_of i.1 in
                  let bf : born (plan_of c) (run_of c moments z) τ t ≡ f.activation = born_is t w.task ∙ ap since_of x.0 in
                  ahead_is pk pf bk bf (x.1 k i.0 i.1);
            },
            ap suc (after_is t ∙ ap (λ o. left_of (with_served c here o t)) e ∙ here_served) ∙ left_less f w.some _ refl ∙ sym (holds_is t w.task ∙ ap left_of x.0),
            λ k lt ne. after_is k ∙ ap (λ o. left_of (with_served c here o k)) e ∙ rw (ne_eqb t k (λ h. ne (sym h))) (sym (holds_is k lt)),
          )
        where
          here_served : left_of (with_served c here (Some f) f.task) ≡ left_of (cond (ltb 0 (f.left - 1)) (Some (ticked f)) None)
          here_served = rw (eq-eqb f.task f.task refl)

          ahead_is : {a b a' b' p q p' q' : ℕ} → a ≡ a' → b ≡ b' → p ≡ p' → q ≡ q' → (ltb a' b' || (eqb a' b' && ltb p' q')) ≡ false → (ltb a b || (eqb a b && ltb p q)) ≡ false
          ahead_is ea eb ep eq h = rw (ea, eb, ep, eq) h

pub drives_are_runs_lem : DrivesAreRuns
drives_are_runs_lem c kept calls moments z d =
    let s = service c kept calls moments z d in
    let r = rounds c kept calls moments z d in (
      record {
        within = λ i τ q lt on. let p = and_parts _ _ on in ((r i lt).begun τ q (ltb-true _ _ p.0) p.1).1;
        apart = λ i τ q υ v lt on on' le.
            let p = and_parts _ _ on in
            let p' = and_parts _ _ on' in
            ⊎_elim (λ x. inl (sym x)) (λ x. inr x) ((r i lt).apart τ υ q v le (ltb-true _ _ p'.0) p.1 p'.1);
      },
      record {
        empty = λ k lt. ap left_of (s.none_first k);
        same = λ τ k l lt some. same_birth c kept moments z s τ l k lt some;
        tick = λ τ l. ticks_by c kept moments z s τ l (moment_of moments τ).front refl (s.first τ l);
      },
    )

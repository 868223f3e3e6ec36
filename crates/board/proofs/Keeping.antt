-- Every call keeps a board sound, and no activated task has a job while none is late. Assumes nothing.
use Rattle.std.proofs.Common.{◌≡◌, ℕ, zero, suc, ◌+◌, ◌<◌, ◌≤◌, Bool, true, false, cond, not, eqb, ltb, leb, List, [], ◌∷◌, is_some, Some, None, Option, sym, refl, ap, subst, ⊎_elim, le_refl, arith}
use Rattle.std.proofs.lemmas.Option.{same_Some, none-some}
use Rattle.std.proofs.lemmas.Bool.{and_parts, not-false, leb-false, ltb-true, ltb-false, eqb-true, cases_eq, both_ways}
use Rattle.plan.specs.Content.{Content, table_count, task_count, duration_of, table_of, position_of, task_at}
use Rattle.theory.specs.Counting.{in_range}
use Rattle.plan.specs.Rules.{lawful}
use Rattle.plan.proofs.Kept.{Lawful, lawful_from, range_from}
use Rattle.ready.specs.Calls.{FrontBy}
use Rattle.ready.specs.Jobs.{ahead, ticked}
use Rattle.ready.specs.declared.job.Job.{Job}
use Rattle.board.specs.declared.records.TableState.{TableState}
use Rattle.board.specs.declared.records.TableState.TheVariants.{Stopped, Waiting, Running}
use Rattle.board.specs.declared.records.TableRecord.{TableRecord}
use Rattle.board.specs.declared.calls.CallRefusal.{CallRefusal}
use Rattle.board.specs.declared.calls.CallRefusal.TheVariants.{LateBoard, NoTable, NotStopped, NotStarted, BadDelay, TooEarly, ClockFull}
use Rattle.board.specs.Models.{Model, Alike, fresh, max_delay, max_ticks, is_stopped, first_reason, beginning, start_refusal, stop_refusal, started, stopped, with_table}
use Rattle.board.specs.Ticks.{tick_refusal, turned_state, turned_tables, activates, new_job, with_activated, with_served, past_due, or_this, first_below, after_tick}
use Rattle.board.specs.Waits.{activation_of}
use Rattle.board.specs.Soundness.{TableSound, Spaced, Sound}
use Rattle.board.proofs.Spacing.{turn_sound, turn_spaced, clash, new_spaced, stop_spaced, start_spaced}

-- boards that mean the same are the same model
pub alike_path : {m n : Model} → Alike m n → m ≡ n
alike_path a = λ i. record { ticks = a.ticks i; tables = λ k. a.tables k i; jobs = λ k. a.jobs k i; late = a.late i }

none_head : (t : Bool) (r : CallRefusal) (rest : List (Bool × CallRefusal)) → first_reason ((t, r) ∷ rest) ≡ None → (t ≡ false) × (first_reason rest ≡ None)
none_head true r rest e = let z : ◌≡◌ {A = ℕ} 0 1 = cc in absurd (omega arith)
none_head false r rest e = (refl, e)

not_some : {A : Type 0} (o : Option A) → is_some o ≡ false → o ≡ None
not_some (Some x) e = absurd (both_ways true e refl)
not_some None e = refl

stopped_is : (s : TableState) → is_stopped s ≡ true → s ≡ Stopped
stopped_is Stopped e = refl
stopped_is (Waiting w) e = absurd (both_ways false refl e)
stopped_is (Running p) e = absurd (both_ways false refl e)

pub sound_fresh : (c : Content) → Sound c fresh
sound_fresh c = record { tables = λ i lt. tt; rest = λ i le. refl; jobs = λ k j e. let z : ◌≡◌ {A = ℕ} 0 1 = cc in absurd (omega arith) }

pub record MayStart (c : Content) (m : Model) (t d : ℕ) : Type 0 where
  pub on_time : m.late ≡ None
  pub table : t < table_count c
  pub rests : (m.tables t).state ≡ Stopped
  pub low : 1 ≤ d
  pub high : d ≤ max_delay
  pub early : (m.tables t).earliest ≤ beginning m d

pub may_start : (c : Content) (m : Model) (t d : ℕ) → start_refusal c m t d ≡ None → MayStart c m t d
may_start c m t d e =
    let r4 = (ltb (beginning m d) (m.tables t).earliest, TooEarly) ∷ [] in
    let r3 = (not (in_range 1 max_delay d), BadDelay) ∷ r4 in
    let r2 = (not (is_stopped (m.tables t).state), NotStopped) ∷ r3 in
    let r1 = (leb (table_count c) t, NoTable) ∷ r2 in
    let a = none_head (is_some m.late) LateBoard r1 e in
    let b = none_head (leb (table_count c) t) NoTable r2 a.1 in
    let f = none_head (not (is_stopped (m.tables t).state)) NotStopped r3 b.1 in
    let g = none_head (not (in_range 1 max_delay d)) BadDelay r4 f.1 in
    let i = none_head (ltb (beginning m d) (m.tables t).earliest) TooEarly [] g.1 in
    let range = range_from 1 max_delay d (not-false _ g.0) in
    record {
      on_time = not_some _ a.0;
      table = leb-false _ _ b.0;
      rests = stopped_is _ (not-false _ f.0);
      low = range.0;
      high = range.1;
      early = ltb-false _ _ i.0;
    }

pub may_stop : (c : Content) (m : Model) (t : ℕ) → stop_refusal c m t ≡ None → (m.late ≡ None) × (t < table_count c)
may_stop c m t e =
    let r2 = (is_stopped (m.tables t).state, NotStarted) ∷ [] in
    let r1 = (leb (table_count c) t, NoTable) ∷ r2 in
    let a = none_head (is_some m.late) LateBoard r1 e in
    let b = none_head (leb (table_count c) t) NoTable r2 a.1 in
    (not_some _ a.0, leb-false _ _ b.0)

pub may_tick : (m : Model) → tick_refusal m ≡ None → (m.late ≡ None) × (m.ticks < max_ticks)
may_tick m e =
    let a = none_head (is_some m.late) LateBoard ((leb max_ticks m.ticks, ClockFull) ∷ []) e in
    let b = none_head (leb max_ticks m.ticks) ClockFull [] a.1 in
    (not_some _ a.0, leb-false _ _ b.0)

-- One table's record is replaced. What holds of the old record and of the new one at their places holds after it.
module _ (c : Content) (m : Model) (h : Sound c m) (t : ℕ) (r : TableRecord) (in' : t < table_count c)
    (fits : TableSound m.ticks (duration_of c t) r.earliest r.state)
    (spaces : (a p : ℕ) → Spaced a p m.ticks (duration_of c t) (m.tables t).earliest (m.tables t).state → Spaced a p m.ticks (duration_of c t) r.earliest r.state) where
  replaced : (i : ℕ) → (P : ℕ → TableRecord → Type 0) → (i ≡ t → P i r) → P i (m.tables i) → P i ((with_table m t r).tables i)
  replaced i P new old = go (eqb i t) refl
    where
      go : (b : Bool) → eqb i t ≡ b → P i (cond b r (m.tables i))
      go true e = new (eqb-true i t e)
      go false e = old

  keeps_with : Sound c (with_table m t r)
  keeps_with = record {
    tables = λ i lt. replaced i (λ k x. TableSound m.ticks (duration_of c k) x.earliest x.state) (λ e. subst (λ k. TableSound m.ticks (duration_of c k) r.earliest r.state) (sym e) fits) (h.tables i lt);
    rest = λ i le. replaced i (λ k x. x.state ≡ Stopped) (λ e. absurd (omega (arith, e, le, in'))) (h.rest i le);
    jobs = λ k j e.
        let s = h.jobs k j e in
        record {
          task = s.task;
          number = s.number;
          some = s.some;
          priority = s.priority;
          left = s.left;
          past = s.past;
          round = s.round;
          due = s.due;
          spaced = replaced (table_of c k) (λ i x. Spaced j.activation (position_of c k) m.ticks (duration_of c i) x.earliest x.state)
              (λ q. subst (λ i. Spaced j.activation (position_of c k) m.ticks (duration_of c i) r.earliest r.state) (sym q)
              (spaces j.activation (position_of c k) (subst (λ i. Spaced j.activation (position_of c k) m.ticks (duration_of c i) (m.tables i).earliest (m.tables i).state) q s.spaced)))
              s.spaced;
        };
  }

pub sound_start : (c : Content) (m : Model) (t d : ℕ) → Sound c m → start_refusal c m t d ≡ None → Sound c (started c m t d)
sound_start c m t d h e =
    let s = may_start c m t d e in
    keeps_with c m h t (record { state = Waiting d; earliest = beginning m d + duration_of c t }) s.table
    (s.low, omega (arith, s.low))
    (λ a p x. start_spaced m.ticks (duration_of c t) (m.tables t).earliest a p d s.low s.early (subst (Spaced a p m.ticks (duration_of c t) (m.tables t).earliest) s.rests x))

pub sound_stop : (c : Content) (m : Model) (t : ℕ) → Sound c m → stop_refusal c m t ≡ None → Sound c (stopped m t)
sound_stop c m t h e =
    let s = may_stop c m t e in
    keeps_with c m h t (record { state = Stopped; earliest = (m.tables t).earliest }) s.1 tt
    (λ a p x. stop_spaced m.ticks (duration_of c t) (m.tables t).earliest a p (m.tables t).state (h.tables t s.1) x)

or_none : (o : Option ℕ) (b : Bool) (n : ℕ) → or_this o b n ≡ None → (o ≡ None) × (b ≡ false)
or_none (Some x) b n f = let z : ◌≡◌ {A = ℕ} 0 1 = cc in absurd (omega arith)
or_none None true n f = let z : ◌≡◌ {A = ℕ} 0 1 = cc in absurd (omega arith)
or_none None false n f = (refl, refl)

-- no number passes
pub first_none : (p : ℕ → Bool) (n k : ℕ) → first_below n p ≡ None → k < n → p k ≡ false
first_none p zero k e lt = absurd (omega arith)
first_none p (suc n) k e lt =
    let x = or_none (first_below n p) (p n) n e in
    ⊎_elim (λ s. subst (λ i. p i ≡ false) (sym s) x.1) (λ s. first_none p n k x.0 (omega (arith, lt, s))) (cases_eq k n)

module _ (c : Content) (kept : lawful c ≡ true) (m : Model) (h : Sound c m) (on_time : m.late ≡ None) where
  law : Lawful c
  law = lawful_from c kept

  table_in : (k : ℕ) → k < task_count c → table_of c k < table_count c
  table_in k lt = (law.points _ (law.tasks k lt).point_in).table_in

  -- no task that is due has a job
  pub due_free : (k : ℕ) → activates c (turned_tables c m) k ≡ true → m.jobs k ≡ None
  due_free k due = go (m.jobs k) refl
    where
      go : (o : Option Job) → m.jobs k ≡ o → o ≡ None
      go None e = refl
      go (Some j) e =
          let s = h.jobs k j e in
          let i = table_of c k in
          absurd (clash m.ticks (duration_of c i) (m.tables i).earliest j.activation (position_of c k) (m.tables i).state (task_at c k).deadline
          (h.tables i (table_in k s.task)) s.spaced s.past (s.due on_time) (law.tasks k s.task).due (and_parts _ _ due).1)

  -- the tables after they turned
  turned_sound : (i : ℕ) → i < table_count c → TableSound (m.ticks + 1) (duration_of c i) (turned_tables c m i).earliest (turned_tables c m i).state
  turned_sound i lt = turn_sound m.ticks (duration_of c i) (m.tables i).earliest (m.tables i).state (law.tables i lt).long (h.tables i lt)

  -- what holds of a job once the tasks that are due are activated, its deadline aside
  pub record Midway (k : ℕ) (j : Job) : Type 0 where
    pub task : k < task_count c
    pub number : j.task ≡ k
    pub some : 1 ≤ j.left
    pub priority : j.priority ≡ (task_at c k).priority
    pub left : j.left ≤ (task_at c k).execution
    pub past : j.activation < m.ticks + 1
    pub round : position_of c k ≤ j.activation
    pub spaced : Spaced j.activation (position_of c k) (m.ticks + 1) (duration_of c (table_of c k)) (turned_tables c m (table_of c k)).earliest (turned_tables c m (table_of c k)).state

  old_midway : (k : ℕ) (j : Job) → m.jobs k ≡ Some j → Midway k j
  old_midway k j e =
      let s = h.jobs k j e in
      let i = table_of c k in
      record {
        task = s.task;
        number = s.number;
        some = s.some;
        priority = s.priority;
        left = s.left;
        past = omega (arith, s.past);
        round = s.round;
        spaced = turn_spaced m.ticks (duration_of c i) (m.tables i).earliest j.activation (position_of c k) (m.tables i).state (h.tables i (table_in k s.task)) s.spaced;
      }

  new_midway : (k : ℕ) → activates c (turned_tables c m) k ≡ true → Midway k (new_job c m.ticks k)
  new_midway k due =
      let p = and_parts _ _ due in
      let lt = ltb-true k (task_count c) p.0 in
      let i = table_of c k in
      let s = new_spaced m.ticks (duration_of c i) (turned_tables c m i).earliest m.ticks (position_of c k) (turned_tables c m i).state (turned_sound i (table_in k lt)) p.1 refl in
      record {
        task = lt;
        number = refl;
        some = (law.tasks k lt).runs;
        priority = refl;
        left = le_refl _;
        past = omega arith;
        round = s.0;
        spaced = s.1;
      }

  pub activated_midway : (k : ℕ) (j : Job) → with_activated c m k ≡ Some j → Midway k j
  activated_midway k j e = go (activates c (turned_tables c m) k) refl e
    where
      go : (b : Bool) → activates c (turned_tables c m) k ≡ b → cond b (Some (new_job c m.ticks k)) (m.jobs k) ≡ Some j → Midway k j
      go true due x = subst (Midway k) (same_Some _ _ x) (new_midway k due)
      go false due x = old_midway k j x

  module _ (front : Option Job) (first : FrontBy ahead (with_activated c m) front) where
    ticked_midway : (j : Job) → 1 ≤ (ticked j).left → Midway j.task j → Midway j.task (ticked j)
    ticked_midway j some s = record {
      task = s.task;
      number = s.number;
      some = some;
      priority = s.priority;
      left = omega (arith, s.left);
      past = s.past;
      round = s.round;
      spaced = s.spaced;
    }

    pub served_midway : (k : ℕ) (j : Job) → with_served c m front k ≡ Some j → Midway k j
    served_midway = by front first
      where
        by : (f : Option Job) → FrontBy ahead (with_activated c m) f → (k : ℕ) (j : Job) → with_served c m f k ≡ Some j → Midway k j
        by None x k j e = activated_midway k j e
        by (Some f) x k j e = go (eqb f.task k) refl (ltb 0 (ticked f).left) refl e
          where
            go : (b : Bool) → eqb f.task k ≡ b → (l : Bool) → ltb 0 (ticked f).left ≡ l → cond b (cond l (Some (ticked f)) None) (with_activated c m k) ≡ Some j → Midway k j
            go true q true r y =
                subst (Midway k) (same_Some _ _ y)
                (subst (λ i. Midway i (ticked f)) (eqb-true f.task k q) (ticked_midway f (ltb-true 0 _ r) (activated_midway f.task f x.0)))
            go true q false r y = absurd (none-some _ y)
            go false q l r y = activated_midway k j y

    pub sound_tick : Sound c (after_tick c m front)
    sound_tick = record {
      tables = turned_sound;
      rest = λ i le. ap (λ s. (turned_state m.ticks (duration_of c i) (m.tables i).earliest s).state) (h.rest i le);
      jobs = λ k j e.
          let s = served_midway k j e in
          record {
            task = s.task;
            number = s.number;
            some = s.some;
            priority = s.priority;
            left = s.left;
            past = s.past;
            round = s.round;
            due = λ none.
                leb-false _ _ (subst (λ o. past_due (m.ticks + 1) (task_at c k).deadline (activation_of o) ≡ false) e
                (first_none (λ i. past_due (m.ticks + 1) (task_at c i).deadline (activation_of (with_served c m front i))) (task_count c) k none s.task));
            spaced = s.spaced;
          };
    }

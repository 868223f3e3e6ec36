-- The law of rounds, by induction over the calls of a drive. Assumes nothing.
use Rattle.std.proofs.Common.{◌≡◌, ℕ, zero, suc, ◌+◌, ◌-◌, ◌<◌, ◌≤◌, Bool, true, false, cond, eqb, ltb, ◌⊎◌, List, ◌∷◌, length, Some, None, Option, sym, refl, ap, ◌∙◌, subst, inl, inr, ⊎_elim, arith}
use Rattle.std.proofs.lemmas.Bool.{eqb-true, eq-eqb, both_ways}
use Rattle.plan.specs.Content.{Content, table_count, duration_of}
use Rattle.plan.specs.Rules.{lawful}
use Rattle.plan.proofs.Kept.{lawful_from}
use Rattle.ready.specs.declared.job.Job.{Job}
use Rattle.board.specs.declared.records.TableState.{TableState}
use Rattle.board.specs.declared.records.TableState.TheVariants.{Stopped, Waiting, Running}
use Rattle.board.specs.declared.records.TableRecord.{TableRecord}
use Rattle.board.specs.declared.calls.Call.{Call}
use Rattle.board.specs.declared.calls.Call.TheVariants.{Start, Stop, State, Tick}
use Rattle.board.specs.declared.calls.CallRefusal.{CallRefusal}
use Rattle.board.specs.declared.calls.Answer.{Answer}
use Rattle.board.specs.Models.{Model, start_refusal, stop_refusal, state_refusal, started, stopped, with_table, beginning}
use Rattle.board.specs.Ticks.{tick_refusal, turned_state, begun, turned_tables, runs_at, Ticked}
use Rattle.board.specs.Soundness.{TableSound, Spaced, Sound}
use Rattle.board.specs.Drives.{Outcome, Did, Asked, Moment, Drive, done, asked, idled, answered}
use Rattle.board.specs.Laws.{RunsIn, Rounds}
use Rattle.board.proofs.Keeping.{alike_path, may_start, may_tick, sound_fresh, sound_tick}
use Rattle.board.proofs.Calling.{asked_sound}
use Rattle.board.proofs.Spacing.{turn_sound, turn_spaced, new_spaced, stop_spaced, start_spaced}

-- a call that is no tick leaves clock and, of each table, its state, or stops it, or lets it wait
did_ticks : (o : Option CallRefusal) (m after n : Model) (y : Answer) (a : Outcome) → after.ticks ≡ m.ticks → Did o m y after a n → n.ticks ≡ m.ticks
did_ticks None m after n y a same d = d.1.ticks ∙ same
did_ticks (Some why) m after n y a same d = d.1.ticks

pub asked_ticks : (c : Content) (m n : Model) (call : Call) (a : Outcome) → Asked c m call a n → n.ticks ≡ m.ticks
asked_ticks c m n (Start t d) a x = did_ticks (start_refusal c m t d) m (started c m t d) n _ a refl x
asked_ticks c m n (Stop t) a x = did_ticks (stop_refusal c m t) m (stopped m t) n _ a refl x
asked_ticks c m n (State t) a x = did_ticks (state_refusal c t) m m n _ a refl x
asked_ticks c m n Tick a x = absurd x

module _ (c : Content) (i : ℕ) (lt : i < table_count c) where
  -- the round that lies p positions before tick a, against what the board keeps of the table
  abbrev Before : ℕ → ℕ → Model → Type 0
  Before a p m = Spaced a p m.ticks (duration_of c i) (m.tables i).earliest (m.tables i).state

  did_before : (o : Option CallRefusal) (m after n : Model) (y : Answer) (a : Outcome) (b p : ℕ) → (o ≡ None → Before b p after) → Before b p m → Did o m y after a n → Before b p n
  did_before None m after n y a b p s h d = subst (Before b p) (sym (alike_path d.1)) (s refl)
  did_before (Some why) m after n y a b p s h d = subst (Before b p) (sym (alike_path d.1)) h

  with_before : (m : Model) (t b p : ℕ) (r : TableRecord) → (i ≡ t → Spaced b p m.ticks (duration_of c i) r.earliest r.state) → Before b p m → Before b p (with_table m t r)
  with_before m t b p r new old = go (eqb i t) refl
    where
      go : (x : Bool) → eqb i t ≡ x → Spaced b p m.ticks (duration_of c i) (cond x r (m.tables i)).earliest (cond x r (m.tables i)).state
      go true e = new (eqb-true i t e)
      go false e = old

  asked_before : (m n : Model) (call : Call) (a : Outcome) (b p : ℕ) → Sound c m → Asked c m call a n → Before b p m → Before b p n
  asked_before m n (Start t d) a b p s x h =
      did_before (start_refusal c m t d) m (started c m t d) n _ a b p
      (λ none.
      let may = may_start c m t d none in
      with_before m t b p _ (λ e. subst (λ k. Spaced b p m.ticks (duration_of c i) (beginning m d + duration_of c k) (Waiting d)) e
      (start_spaced m.ticks (duration_of c i) (m.tables i).earliest b p d may.low (subst (λ k. (m.tables k).earliest ≤ beginning m d) (sym e) may.early) (subst (Spaced b p m.ticks (duration_of c i) (m.tables i).earliest) (ap (λ k. (m.tables k).state) e ∙ may.rests) h))) h)
      h x
  asked_before m n (Stop t) a b p s x h =
      did_before (stop_refusal c m t) m (stopped m t) n _ a b p
      (λ none. with_before m t b p _ (λ e. subst (λ k. Spaced b p m.ticks (duration_of c i) (m.tables k).earliest Stopped) e (stop_spaced m.ticks (duration_of c i) (m.tables i).earliest b p (m.tables i).state (s.tables i lt) h)) h)
      h x
  asked_before m n (State t) a b p s x h = did_before (state_refusal c t) m m n _ a b p (λ _. h) h x
  asked_before m n Tick a b p s x h = absurd x

  -- what the spacing says of a table that runs
  runs_apart : (b p n e q : ℕ) (s : TableState) → runs_at q s ≡ true → Spaced b p (n + 1) (duration_of c i) e s → (b + q ≡ n + p) ⊎ (b + q + duration_of c i ≤ n + p)
  runs_apart b p n e q Stopped at h = absurd (both_ways false refl at)
  runs_apart b p n e q (Waiting w) at h = absurd (both_ways false refl at)
  runs_apart b p n e q (Running r) at h = let same = eqb-true r q at in ⊎_elim (λ x. inl (omega (arith, x, same))) (λ x. inr (omega (arith, x, same))) h

  module _ (kept : lawful c ≡ true) where
    after_sound : (m n : Model) (front : Option Job) {a : _} → Sound c m → tick_refusal m ≡ None → Ticked c m front a n → Sound c n
    after_sound m n front s allowed t = subst (Sound c) (sym (alike_path t.after)) (sound_tick c kept m s (may_tick m allowed).0 front t.first)

    turned_before : (m : Model) (b p : ℕ) → Sound c m → Before b p m → Spaced b p (m.ticks + 1) (duration_of c i) (turned_tables c m i).earliest (turned_tables c m i).state
    turned_before m b p s h = turn_spaced m.ticks (duration_of c i) (m.tables i).earliest b p (m.tables i).state (s.tables i lt) h

    -- rounds p positions before tick b and q positions before tick t
    abbrev Far : ℕ → ℕ → ℕ → ℕ → Type 0
    Far b q t p = (b + q ≡ t + p) ⊎ (b + q + duration_of c i ≤ t + p)

    after_before : (m n : Model) (front : Option Job) (b p : ℕ) {a : _} → Ticked c m front a n → Spaced b p (m.ticks + 1) (duration_of c i) (turned_tables c m i).earliest (turned_tables c m i).state → Before b p n
    after_before m n front b p t h = subst (Before b p) (sym (alike_path t.after)) h

    -- every later round of the table keeps its distance
    later : {m z : Model} {calls : List (Call × Outcome)} {moments : List Moment} → Drive c m calls moments z → (b p : ℕ) → Sound c m → Before b p m → (τ q : ℕ) → τ < length moments → RunsIn c moments i τ q → Far b q (m.ticks + τ) p
    later done b p s h τ q l at = absurd (omega arith)
    later {m} (asked {n} {call} {a} x d) b p s h τ q l at =
        subst (λ t. Far b q (t + τ) p) (asked_ticks c m n call a x) (later d b p (asked_sound c m n call a s x) (asked_before m n call a b p s x h) τ q l at)
    later {m} (idled {n} e x d) b p s h τ q l at =
        subst (λ t. Far b q (t + τ) p) x.ticks (later d b p (subst (Sound c) (sym (alike_path x)) s) (subst (Before b p) (sym (alike_path x)) h) τ q l at)
    later {m} (answered {n} {front} e t d) b p s h zero q l at =
        let same : m.ticks ≡ m.ticks + 0 = omega arith in
        subst (λ x. Far b q x p) same (runs_apart b p m.ticks _ q _ at (turned_before m b p s h))
    later {m} (answered {n} {front} e t d) b p s h (suc τ) q l at =
        let same : n.ticks + τ ≡ m.ticks + suc τ = omega (arith, t.after.ticks) in
        subst (λ x. Far b q x p) same (later d b p (after_sound m n front s e t) (after_before m n front b p t (turned_before m b p s h)) τ q (omega arith) at)

    one_place : (q r : ℕ) (s : TableState) → runs_at q s ≡ true → runs_at r s ≡ true → q ≡ r
    one_place q r Stopped x y = absurd (both_ways false refl x)
    one_place q r (Waiting w) x y = absurd (both_ways false refl x)
    one_place q r (Running p) x y = sym (eqb-true p q x) ∙ eqb-true p r y

    now_sound : (m : Model) → Sound c m → TableSound (m.ticks + 1) (duration_of c i) (turned_tables c m i).earliest (turned_tables c m i).state
    now_sound m s = turn_sound m.ticks (duration_of c i) (m.tables i).earliest (m.tables i).state ((lawful_from c kept).tables i lt).long (s.tables i lt)

    new_before : (m : Model) (q : ℕ) → Sound c m → runs_at q (turned_tables c m i).state ≡ true → Spaced m.ticks q (m.ticks + 1) (duration_of c i) (turned_tables c m i).earliest (turned_tables c m i).state
    new_before m q s at = (new_spaced m.ticks (duration_of c i) (turned_tables c m i).earliest m.ticks q (turned_tables c m i).state (now_sound m s) at refl).1

    -- any two rounds in a drive
    between : {m z : Model} {calls : List (Call × Outcome)} {moments : List Moment} → Drive c m calls moments z → Sound c m → (τ υ q r : ℕ) → τ ≤ υ → υ < length moments → RunsIn c moments i τ q → RunsIn c moments i υ r → Far τ r υ q
    between done s τ υ q r le l at at' = absurd (omega arith)
    between {m} (asked {n} {call} {a} x d) s τ υ q r le l at at' = between d (asked_sound c m n call a s x) τ υ q r le l at at'
    between {m} (idled {n} e x d) s τ υ q r le l at at' = between d (subst (Sound c) (sym (alike_path x)) s) τ υ q r le l at at'
    between {m} (answered {n} {front} e t d) s zero zero q r le l at at' = inl (omega (arith, one_place q r _ at at'))
    between {m} (answered {n} {front} e t d) s zero (suc υ) q r le l at at' =
        let far = later d m.ticks q (after_sound m n front s e t) (after_before m n front m.ticks q t (new_before m q s at)) υ r (omega arith) at' in
        ⊎_elim (λ x. inl (omega (arith, x, t.after.ticks))) (λ x. inr (omega (arith, x, t.after.ticks))) far
    between {m} (answered {n} {front} e t d) s (suc τ) zero q r le l at at' = absurd (omega arith)
    between {m} (answered {n} {front} e t d) s (suc τ) (suc υ) q r le l at at' =
        ⊎_elim (λ x. inl (omega (arith, x))) (λ x. inr (omega (arith, x))) (between d (after_sound m n front s e t) τ υ q r (omega arith) (omega arith) at at')

    runs_sound : (n e q : ℕ) (s : TableState) → runs_at q s ≡ true → TableSound (n + 1) (duration_of c i) e s → (q ≤ n) × (q < duration_of c i)
    runs_sound n e q Stopped at h = absurd (both_ways false refl at)
    runs_sound n e q (Waiting w) at h = absurd (both_ways false refl at)
    runs_sound n e q (Running r) at h = let same = eqb-true r q at in (omega (arith, same, h.1), omega (arith, same, h.0))

    -- a round began at tick 0 or later, and its positions lie within the table
    starts : {m z : Model} {calls : List (Call × Outcome)} {moments : List Moment} → Drive c m calls moments z → Sound c m → (τ q : ℕ) → τ < length moments → RunsIn c moments i τ q → (q ≤ m.ticks + τ) × (q < duration_of c i)
    starts done s τ q l at = absurd (omega arith)
    starts {m} (asked {n} {call} {a} x d) s τ q l at =
        let r = starts d (asked_sound c m n call a s x) τ q l at in (omega (arith, r.0, asked_ticks c m n call a x), r.1)
    starts {m} (idled {n} e x d) s τ q l at =
        let r = starts d (subst (Sound c) (sym (alike_path x)) s) τ q l at in (omega (arith, r.0, x.ticks), r.1)
    starts {m} (answered {n} {front} e t d) s zero q l at =
        let r = runs_sound m.ticks _ q _ at (now_sound m s) in (omega (arith, r.0), r.1)
    starts {m} (answered {n} {front} e t d) s (suc τ) q l at =
        let r = starts d (after_sound m n front s e t) τ q (omega arith) at in (omega (arith, r.0, t.after.ticks), r.1)

  -- only a tick makes a table run
  did_runs : (o : Option CallRefusal) (m after n : Model) (y : Answer) (a : Outcome) (q : ℕ) → ((after.tables i).state ≡ Running q → (m.tables i).state ≡ Running q) → Did o m y after a n → (n.tables i).state ≡ Running q → (m.tables i).state ≡ Running q
  did_runs None m after n y a q s d e = s (ap (λ r. r.state) (sym (d.1.tables i)) ∙ e)
  did_runs (Some why) m after n y a q s d e = ap (λ r. r.state) (sym (d.1.tables i)) ∙ e

  with_runs : (m : Model) (t q : ℕ) (r : TableRecord) → (r.state ≡ Running q → ⊥) → ((with_table m t r).tables i).state ≡ Running q → (m.tables i).state ≡ Running q
  with_runs m t q r no_run = go (eqb i t)
    where
      go : (x : Bool) → (cond x r (m.tables i)).state ≡ Running q → (m.tables i).state ≡ Running q
      go true e = absurd (no_run e)
      go false e = e

  asked_runs : (m n : Model) (call : Call) (a : Outcome) (q : ℕ) → Asked c m call a n → (n.tables i).state ≡ Running q → (m.tables i).state ≡ Running q
  asked_runs m n (Start t d) a q x = did_runs (start_refusal c m t d) m (started c m t d) n _ a q (with_runs m t q _ (waits d q)) x
    where
      waits : (d q : ℕ) → Waiting d ≡ Running q → ⊥
      waits d q e = let z : ◌≡◌ {A = ℕ} 0 1 = cc in omega arith
  asked_runs m n (Stop t) a q x = did_runs (stop_refusal c m t) m (stopped m t) n _ a q (with_runs m t q _ (rests q)) x
    where
      rests : (q : ℕ) → Stopped ≡ Running q → ⊥
      rests q e = let z : ◌≡◌ {A = ℕ} 0 1 = cc in omega arith
  asked_runs m n (State t) a q x = did_runs (state_refusal c t) m m n _ a q (λ e. e) x
  asked_runs m n Tick a q x = absurd x

  -- a table past position 0 ran one position before
  was_running : (n d e q : ℕ) (s : TableState) → runs_at (suc q) (turned_state n d e s).state ≡ true → s ≡ Running q
  was_running n d e q Stopped at = absurd (both_ways false refl at)
  was_running n d e q (Waiting w) at = go (ltb 1 w) at
    where
      go : (b : Bool) → runs_at (suc q) (cond b (record { state = Waiting (w - 1); earliest = e }) (begun n d)).state ≡ true → Waiting w ≡ Running q
      go true x = absurd (both_ways false refl x)
      go false x = absurd (omega (arith, eqb-true 0 (suc q) x))
  was_running n d e q (Running p) at = go (ltb (p + 1) d) at
    where
      go : (b : Bool) → runs_at (suc q) (cond b (record { state = Running (p + 1); earliest = e }) (begun n d)).state ≡ true → Running p ≡ Running q
      go true x = ap Running (omega (arith, eqb-true (p + 1) (suc q) x))
      go false x = absurd (omega (arith, eqb-true 0 (suc q) x))

  -- the table ran at q in the moment before, or before the first moment as told
  abbrev Ran : (ℕ → Type 0) → List Moment → ℕ → ℕ → Type 0
  Ran P moments zero q = P q
  Ran P moments (suc τ) q = RunsIn c moments i τ q

  ran_on : (m : Model) (front : Option Job) (moments : List Moment) (τ q : ℕ) → Ran (λ r. runs_at r (turned_tables c m i).state ≡ true) moments τ q → RunsIn c (record { board = m; front = front } ∷ moments) i τ q
  ran_on m front moments zero q y = y
  ran_on m front moments (suc τ) q y = y

  moved : {m z : Model} {calls : List (Call × Outcome)} {moments : List Moment} → Drive c m calls moments z → (P : ℕ → Type 0) → ((q : ℕ) → (m.tables i).state ≡ Running q → P q) → (τ q : ℕ) → τ < length moments → RunsIn c moments i τ (suc q) → Ran P moments τ q
  moved done P h τ q l at = absurd (omega arith)
  moved {m} (asked {n} {call} {a} x d) P h τ q l at = moved d P (λ r e. h r (asked_runs m n call a r x e)) τ q l at
  moved {m} (idled {n} e x d) P h τ q l at = moved d P (λ r y. h r (ap (λ b. b.state) (sym (x.tables i)) ∙ y)) τ q l at
  moved {m} (answered {n} {front} e t d) P h zero q l at = h q (was_running m.ticks (duration_of c i) (m.tables i).earliest q (m.tables i).state at)
  moved {m} (answered {n} {front} e t d) P h (suc τ) q l at =
      ran_on m front _ τ q (moved d (λ r. runs_at r (turned_tables c m i).state ≡ true) (λ r y. subst (λ s. runs_at r s ≡ true) (sym (ap (λ b. b.state) (sym (t.after.tables i)) ∙ y)) (eq-eqb r r refl)) τ q (omega arith) at)

pub rounds : Rounds
rounds c kept calls moments z d i lt = record {
  apart = λ τ υ q r le l at at'. between c i lt kept d (sound_fresh c) τ υ q r le l at at';
  begun = λ τ q l at. let r = starts c i lt kept d (sound_fresh c) τ q l at in (omega (arith, r.0), r.1);
  moves = λ τ q l at. before q τ (moved c i lt d (λ _. ⊥) (λ q e. never q e) τ q l at);
}
  where
    never : (q : ℕ) → Stopped ≡ Running q → ⊥
    never q e = let z : ◌≡◌ {A = ℕ} 0 1 = cc in omega arith

    before : (q τ : ℕ) → Ran c i lt (λ _. ⊥) moments τ q → (υ : ℕ) × (suc υ ≡ τ) × RunsIn c moments i υ q
    before q zero y = absurd y
    before q (suc τ) y = (τ, refl, y)

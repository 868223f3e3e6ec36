-- The life of a job: when it came, how long it is held, and what its lateness has to do with older jobs. Assumes nothing.
use Rattle.std.proofs.Common.{◌≡◌, ℕ, zero, suc, ◌+◌, ◌-◌, ◌<◌, ◌≤◌, Bool, true, false, ◌⊎◌, sym, refl, ap, ◌∙◌, subst, inl, inr, ⊎_elim, add-zero, add-suc, arith}
use Rattle.std.proofs.lemmas.Bool.{cases_eq, cases_lt, cases_Bool, cond-true, cond-false}
use Rattle.theory.specs.Plans.{Plan, Lawful}
use Rattle.theory.specs.Runs.{Run, Rounds, activated, holds, born, Serves, Drains, Held, Takes, Late, SomeLate}
use Rattle.theory.specs.Theorems.{ServiceDrains}
use Rattle.theory.proofs.Search.{find, some_below}
use Rattle.theory.proofs.Domination.{gap}
use Rattle.theory.proofs.Backlog.{Clear}

pub service_drains_lem : ServiceDrains
service_drains_lem p r n s = record {
  empty = s.empty;
  same = s.same;
  falls = λ τ k lt kl.
      ⊎_elim
      (λ idle. omega (arith, idle.1 k kl))
      (λ served. ⊎_elim (λ e. omega (arith, served.2, ap (r.left (suc τ)) e, ap (holds p r τ) e)) (λ ne. omega (arith, served.3 k kl ne)) (cases_eq k served.0))
      (s.tick τ lt);
  tick = λ τ lt. ⊎_elim (λ idle. inl idle.0) (λ served. inr (served.0, served.1, omega (arith, served.2))) (s.tick τ lt);
}

-- a law for n ticks is one for fewer
pub serves_less : (p : Plan) (r : Run) (m n : ℕ) → m ≤ n → Serves p r n → Serves p r m
serves_less p r m n le s = record {
  empty = s.empty;
  same = λ τ k lt. s.same τ k (omega arith);
  tick = λ τ lt. s.tick τ (omega arith);
}

pub held_decided : (r : Run) (t a τ : ℕ) → Held r t a τ ⊎ (Held r t a τ → ⊥)
held_decided r t a τ =
    ⊎_elim
    (λ some. ⊎_elim (λ e. inl (some, e)) (λ ne. inr (λ h. ne h.1)) (cases_eq (r.since τ t) a))
    (λ none. inr (λ h. absurd (omega (arith, h.0))))
    (cases_lt 0 (r.left τ t))

-- a job that is gone after y ticks took some number of ticks up to y
pub response : (r : Run) (t a y : ℕ) → 1 ≤ y → (Held r t a (a + y) → ⊥) → (j : ℕ) × (j ≤ y) × Takes r t a j
response r t a y pos gone =
    let suc-pred : suc (y - 1) ≡ y = omega arith in
    ⊎_elim
    (λ f.
    let first = f.1 in
    let j = f.0 in (
      suc j,
      omega (arith, first.below),
      record {
        some = omega arith;
        held = λ i some less.
            let e : suc (i - 1) ≡ i = omega arith in
            ⊎_elim (λ h. h) (λ out. absurd (first.before (i - 1) (omega arith) (subst (λ v. Held r t a (a + v) → ⊥) (sym e) out))) (held_decided r t a (a + i));
        gone = first.has;
      },
    ))
    (λ none. absurd (none (y - 1) (omega arith) (subst (λ v. Held r t a (a + v) → ⊥) (sym suc-pred) gone)))
    (find (λ j. Held r t a (a + suc j) → ⊥) (λ j. ⊎_elim (λ h. inr (λ out. out h)) (λ out. inl out) (held_decided r t a (a + suc j))) y)

module _ (p : Plan) (r : Run) (n : ℕ) (drains : Drains p r n) where
  -- a job held after tick τ came in tick τ or was held before it
  came_from : (τ k : ℕ) → τ < n → k < p.tasks → 1 ≤ r.left (suc τ) k → (b : Bool) → activated p r τ k ≡ b
      → ((b ≡ true) × (r.since (suc τ) k ≡ τ)) ⊎ ((b ≡ false) × (r.since (suc τ) k ≡ r.since τ k) × (1 ≤ r.left τ k))
  came_from τ k lt kl some true e = inl (refl, drains.same τ k lt kl some ∙ cond-true _ _ _ e)
  came_from τ k lt kl some false e = inr (refl, drains.same τ k lt kl some ∙ cond-false _ _ _ e, omega (arith, drains.falls τ k lt kl, cond-false {A = ℕ} (activated p r τ k) (p.cost k) (r.left τ k) e, some))

  pub held_since : (t a u d : ℕ) → t < p.tasks → a < u → u + d ≤ n → Held r t a (u + d) → Held r t a u
  held_since t a u zero tl lt le h = subst (Held r t a) (add-zero u) h
  held_since t a u (suc d) tl lt le h =
      let h' : Held r t a (suc (u + d)) = subst (Held r t a) (add-suc u d) h in
      ⊎_elim
      (λ new. absurd (omega (arith, new.1, h'.1)))
      (λ old. held_since t a u d tl lt (omega arith) (old.2, sym old.1 ∙ h'.1))
      (came_from (u + d) t (omega arith) tl h'.0 (activated p r (u + d) t) refl)

  -- a held job was activated in the tick that it says, before now
  pub activated_since : (τ k : ℕ) → τ ≤ n → k < p.tasks → 1 ≤ r.left τ k → (r.since τ k < τ) × (activated p r (r.since τ k) k ≡ true)
  activated_since zero k le kl some = absurd (omega (arith, drains.empty k kl))
  activated_since (suc τ) k le kl some =
      ⊎_elim
      (λ new. (omega (arith, new.1), subst (λ v. activated p r v k ≡ true) (sym new.1) new.0))
      (λ old.
      let h = activated_since τ k (omega arith) kl old.2 in
      (omega (arith, old.1, h.0), subst (λ v. activated p r v k ≡ true) (sym old.1) h.1))
      (came_from τ k (omega arith) kl some (activated p r τ k) refl)

  -- no job has more left than it came with
  pub left_within : (τ k : ℕ) → τ ≤ n → k < p.tasks → r.left τ k ≤ p.cost k
  left_within zero k le kl = omega (arith, drains.empty k kl)
  left_within (suc τ) k le kl =
      let ih = left_within τ k (omega arith) kl in
      ⊎_elim
      (λ e. omega (arith, drains.falls τ k (omega arith) kl, cond-true {A = ℕ} (activated p r τ k) (p.cost k) (r.left τ k) e))
      (λ e. omega (arith, drains.falls τ k (omega arith) kl, cond-false {A = ℕ} (activated p r τ k) (p.cost k) (r.left τ k) e, ih))
      (cases_Bool (activated p r τ k))

  module _ (lawful : Lawful p) (clear : Clear p r n) where
    -- where no put is refused, the job of t that came in tick a is there up to the tick in which it goes
    pub present : (t a i : ℕ) → t < p.tasks → activated p r a t ≡ true → Takes r t a (suc i) → a + i < n → (1 ≤ holds p r (a + i) t) × (born p r (a + i) t ≡ a)
    present t a zero task active takes lt =
        let here : (1 ≤ holds p r a t) × (born p r a t ≡ a) = (omega (arith, cond-true {A = ℕ} (activated p r a t) (p.cost t) (r.left a t) active, lawful.costs t task), cond-true _ _ _ active) in
        subst (λ v. (1 ≤ holds p r v t) × (born p r v t ≡ a)) (sym (add-zero a)) here
    present t a (suc i) task active takes lt =
        let h = takes.held (suc i) (omega arith) (omega arith) in
        ⊎_elim
        (λ again. absurd (omega (arith, clear (a + suc i) t lt task again, h.0)))
        (λ not. (omega (arith, cond-false {A = ℕ} (activated p r (a + suc i) t) (p.cost t) (r.left (a + suc i) t) not, h.0), cond-false _ _ _ not ∙ h.1))
        (cases_Bool (activated p r (a + suc i) t))

    pub finished : (t a j : ℕ) → t < p.tasks → activated p r a t ≡ true → Takes r t a j → a + j ≤ n → r.left (a + j) t ≡ 0
    finished t a zero task active takes le = absurd (omega (arith, takes.some))
    finished t a (suc i) task active takes le =
        let e = add-suc a i in
        ⊎_elim
        (λ some.
        let some' : 1 ≤ r.left (suc (a + i)) t = omega (arith, some, ap (λ v. r.left v t) e) in
        absurd (takes.gone (some, ap (λ v. r.since v t) e ∙ drains.same (a + i) t (omega arith) task some' ∙ (present t a i task active takes (omega arith)).1)))
        (λ z. omega arith)
        (cases_lt 0 (r.left (a + suc i) t))

  module _ (lawful : Lawful p) (rounds : Rounds p r) where
    -- an older job of an activated task is late
    pub refused_late : (τ k : ℕ) → τ ≤ n → k < p.tasks → activated p r τ k ≡ true → 1 ≤ r.left τ k → Late p r k τ
    refused_late τ k le kl active some =
        let old = activated_since τ k le kl some in
        (some, omega (arith, gap p r rounds (p.tab k) (lawful.table_in k kl) (p.pos k) (lawful.position_in k kl) (r.since τ k) τ old.0 old.1 active, lawful.due k kl))

    pub clear_unless_late : ((k τ : ℕ) → k < p.tasks → τ ≤ n → Late p r k τ → ⊥) → (k τ : ℕ) → k < p.tasks → τ ≤ n → activated p r τ k ≡ true → r.left τ k ≡ 0
    clear_unless_late none k τ kl le active =
        ⊎_elim (λ some. absurd (none k τ kl le (refused_late τ k le kl active some))) (λ z. omega arith) (cases_lt 0 (r.left τ k))

-- whether some job is late is decided
pub late_decided : (p : Plan) (r : Run) (n : ℕ) → SomeLate p r n ⊎ ((k τ : ℕ) → k < p.tasks → τ ≤ n → Late p r k τ → ⊥)
late_decided p r n =
    ⊎_elim
    (λ f. let k = f.2.0 in inl (k, f.0, f.2.1, omega (arith, f.1), f.2.2))
    (λ none. inr (λ k τ kl le late. none τ (omega arith) (k, kl, late)))
    (some_below (λ τ. (k : ℕ) × (k < p.tasks) × Late p r k τ)
    (λ τ.
    ⊎_elim
    inl
    (λ none. inr (λ h. none h.0 h.1 h.2))
    (some_below (λ k. Late p r k τ)
    (λ k.
    ⊎_elim
    (λ some. ⊎_elim (λ lt. inr (λ h. absurd (omega (arith, h.1)))) (λ le. inl (some, le)) (cases_lt τ (r.since τ k + p.deadline k)))
    (λ z. inr (λ h. absurd (omega (arith, h.0))))
    (cases_lt 0 (r.left τ k)))
    p.tasks))
    (suc n))

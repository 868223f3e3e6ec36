-- Service for every trace of the tables: each tick serves a front job, the watched task's last. Assumes nothing.
use Rattle.std.proofs.Common.{◌≡◌, ℕ, zero, suc, ◌-◌, ◌<◌, ◌≤◌, Bool, true, false, cond, ◌&&◌, ◌||◌, eqb, ltb, ◌⊎◌, sym, refl, subst, inl, inr, ⊎_elim, le_refl, arith}
use Rattle.std.proofs.lemmas.Bool.{cases_eq, cases_lt, cases_Bool, eq-eqb, ne_eqb, cond-true, cond-false}
use Rattle.std.proofs.lemmas.Bool.Decides.{nat_tests}
use Rattle.theory.specs.Plans.{Plan}
use Rattle.theory.specs.Runs.{Run, Serves, Watches}
use Rattle.theory.specs.Theorems.{ServiceExists}

-- a job with priority number a, activated in tick u, stands ahead of one with c and v
abbrev precedes : ℕ → ℕ → ℕ → ℕ → Bool
precedes a u c v = ltb a c || (eqb a c && ltb u v)

precedes_itself : (a u : ℕ) → precedes a u a u ≡ false
precedes_itself a u = grind (arith, nat_tests)

precedes_one_way : (a u c v : ℕ) → precedes a u c v ≡ true → precedes c v a u ≡ false
precedes_one_way a u c v h = grind (arith, nat_tests)

precedes_on : (a u c v e w : ℕ) → precedes a u c v ≡ true → precedes e w c v ≡ false → precedes a u e w ≡ true
precedes_on a u c v e w h k = grind (arith, nat_tests)

follows_on : (a u c v e w : ℕ) → precedes a u c v ≡ false → precedes c v e w ≡ false → precedes a u e w ≡ false
follows_on a u c v e w h k = grind (arith, nat_tests)

module _ (pr : ℕ → ℕ) (t : ℕ) (h b : ℕ → ℕ) where
  abbrev before : ℕ → ℕ → Bool
  before j k = precedes (pr j) (b j) (pr k) (b k)

  -- f is the job to serve among the first n tasks: held, with none ahead of it, and t only if it stands ahead of all others
  record Chosen (n f : ℕ) : Type 0 where
    below : f < n
    held : 1 ≤ h f
    first : (k : ℕ) → k < n → 1 ≤ h k → before k f ≡ false
    last : f ≡ t → (k : ℕ) → k < n → (k ≡ t → ⊥) → 1 ≤ h k → before f k ≡ true

  abbrev Pick : ℕ → Type 0
  Pick n = ((k : ℕ) → k < n → h k ≡ 0) ⊎ ((f : ℕ) × Chosen n f)

  -- what holds of the first n tasks and of task n
  more : (n : ℕ) (P : ℕ → Type 0) → ((k : ℕ) → k < n → P k) → P n → (k : ℕ) → k < suc n → P k
  more n P below here k lt = ⊎_elim (λ e. subst P (sym e) here) (λ ne. below k (omega arith)) (cases_eq k n)

  pick : (n : ℕ) → Pick n
  pick zero = inl (λ k lt. absurd (omega arith))
  pick (suc n) =
      ⊎_elim
      (λ some.
      ⊎_elim
      (λ idle. inr (
        n,
        record {
          below = le_refl (suc n);
          held = some;
          first = more n (λ k. 1 ≤ h k → before k n ≡ false) (λ k lt one. absurd (omega (arith, idle k lt))) (λ one. precedes_itself (pr n) (b n));
          last = λ e. more n (λ k. (k ≡ t → ⊥) → 1 ≤ h k → before n k ≡ true) (λ k lt ne one. absurd (omega (arith, idle k lt))) (λ ne one. absurd (ne e));
        },
      ))
      (λ old.
      let f = old.0 in
      let c = old.1 in
      let take : before n f ≡ true → Pick (suc n) = λ w.
      let lead : (k : ℕ) → k < n → 1 ≤ h k → before n k ≡ true = λ k lt one. precedes_on (pr n) (b n) (pr f) (b f) (pr k) (b k) w (c.first k lt one) in
      inr (
        n,
        record {
          below = le_refl (suc n);
          held = some;
          first = more n (λ k. 1 ≤ h k → before k n ≡ false) (λ k lt one. precedes_one_way (pr n) (b n) (pr k) (b k) (lead k lt one)) (λ one. precedes_itself (pr n) (b n));
          last = λ e. more n (λ k. (k ≡ t → ⊥) → 1 ≤ h k → before n k ≡ true) (λ k lt ne one. lead k lt one) (λ ne one. absurd (ne e));
        },
      ) in
      let keep : before n f ≡ false → (f ≡ t → before f n ≡ true) → Pick (suc n) = λ not wins. inr (
        f,
        record {
          below = omega (arith, c.below);
          held = c.held;
          first = more n (λ k. 1 ≤ h k → before k f ≡ false) c.first (λ one. not);
          last = λ e. more n (λ k. (k ≡ t → ⊥) → 1 ≤ h k → before f k ≡ true) (c.last e) (λ ne one. wins e);
        },
      ) in
      let yield : f ≡ t → before f n ≡ false → Pick (suc n) = λ e not. inr (
        n,
        record {
          below = le_refl (suc n);
          held = some;
          first = more n (λ k. 1 ≤ h k → before k n ≡ false) (λ k lt one. follows_on (pr k) (b k) (pr f) (b f) (pr n) (b n) (c.first k lt one) not) (λ one. precedes_itself (pr n) (b n));
          last = λ m. absurd (omega (arith, c.below, e, m));
        },
      ) in
      ⊎_elim
      take
      (λ not.
      ⊎_elim
      (λ e. ⊎_elim (λ wins. keep not (λ _. wins)) (λ ties. yield e ties) (cases_Bool (before f n)))
      (λ ne. keep not (λ e. absurd (ne e)))
      (cases_eq f t))
      (cases_Bool (before n f)))
      (pick n))
      (λ none.
      let z : h n ≡ 0 = omega arith in
      ⊎_elim
      (λ idle. inl (more n (λ k. h k ≡ 0) idle z))
      (λ old.
      let c = old.1 in
      inr (
        old.0,
        record {
          below = omega (arith, c.below);
          held = c.held;
          first = more n (λ k. 1 ≤ h k → before k old.0 ≡ false) c.first (λ one. absurd (omega (arith, z)));
          last = λ e. more n (λ k. (k ≡ t → ⊥) → 1 ≤ h k → before old.0 k ≡ true) (c.last e) (λ ne one. absurd (omega (arith, z)));
        },
      ))
      (pick n))
      (cases_lt 0 (h n))

  -- what each task has left then
  abbrev served : (n : ℕ) → Pick n → ℕ → ℕ
  served n (inl idle) k = h k
  served n (inr f) k = cond (eqb k f.0) (h k - 1) (h k)

module _ (p : Plan) (t : ℕ) (trace : ℕ → ℕ → ℕ → Bool) where
  record Jobs : Type 0 where
    ticks : ℕ → ℕ
    from : ℕ → ℕ

  abbrev active : ℕ → ℕ → Bool
  active τ k = trace (p.tab k) τ (p.pos k)

  abbrev has : ℕ → Jobs → ℕ → ℕ
  has τ j k = cond (active τ k) (p.cost k) (j.ticks k)

  abbrev came_in : ℕ → Jobs → ℕ → ℕ
  came_in τ j k = cond (active τ k) τ (j.from k)

  -- the jobs at the start of tick τ
  jobs : ℕ → Jobs
  jobs zero = record { ticks = λ k. 0; from = λ k. 0 }
  jobs (suc τ) =
      let j = jobs τ in
      record { ticks = served p.pr t (has τ j) (came_in τ j) p.tasks (pick p.pr t (has τ j) (came_in τ j) p.tasks); from = came_in τ j }

  machine : Run
  machine = record { runs = trace; left = λ τ. (jobs τ).ticks; since = λ τ. (jobs τ).from }

  as_traced : (i τ q : ℕ) → machine.runs i τ q ≡ trace i τ q
  unfolding machine
  as_traced i τ q = refl

  module _ (h b : ℕ → ℕ) where
    -- what the law says of one tick, by what is served in it
    Tick : (ℕ → ℕ) → Type 0
    Tick l = (((k : ℕ) → k < p.tasks → h k ≡ 0) × ((k : ℕ) → k < p.tasks → l k ≡ h k))
        ⊎ ((f : ℕ) × Chosen p.pr t h b p.tasks f × (suc (l f) ≡ h f) × ((k : ℕ) → k < p.tasks → (k ≡ f → ⊥) → l k ≡ h k))

    tick : (c : Pick p.pr t h b p.tasks) → Tick (served p.pr t h b p.tasks c)
    unfolding Tick
    tick (inl idle) = inl (idle, λ k lt. refl)
    tick (inr f) =
        inr (f.0, f.1, omega (arith, cond-true {A = ℕ} (eqb f.0 f.0) (h f.0 - 1) (h f.0) (eq-eqb _ _ refl), f.1.held), λ k lt ne. cond-false _ _ _ (ne_eqb _ _ ne))

    -- the watched task is served only where it stands ahead of all others
    watched : (c : Pick p.pr t h b p.tasks) → served p.pr t h b p.tasks c t < h t → (k : ℕ) → k < p.tasks → (k ≡ t → ⊥) → 1 ≤ h k → before p.pr t h b t k ≡ true
    watched (inl idle) less k lt ne one = absurd (omega arith)
    watched (inr f) less k lt ne one =
        ⊎_elim
        (λ e. subst (λ v. before p.pr t h b v k ≡ true) (sym e) (f.1.last (sym e) k lt ne one))
        (λ other. absurd (omega (arith, less, cond-false {A = ℕ} (eqb t f.0) (h t - 1) (h t) (ne_eqb _ _ other))))
        (cases_eq t f.0)

  serves : (n : ℕ) → Serves p machine n
  unfolding machine jobs Tick
  serves n = record {
    empty = λ k lt. refl;
    same = λ τ k lt kl some. refl;
    tick = λ τ lt.
        let h = has τ (jobs τ) in
        let b = came_in τ (jobs τ) in
        ⊎_elim
        (λ idle. inl idle)
        (λ one. let c = one.1 in inr (one.0, record { task = c.below; held = c.held; first = c.first }, one.2, one.3))
        (tick h b (pick p.pr t h b p.tasks));
  }

  watches : (n : ℕ) → Watches p machine t n
  unfolding machine jobs
  watches n τ k lt kl ne one less =
      let h = has τ (jobs τ) in
      let b = came_in τ (jobs τ) in
      watched h b (pick p.pr t h b p.tasks) less k kl ne one

pub service_exists_lem : ServiceExists
service_exists_lem p t trace = (machine p t trace, as_traced p t trace, serves p t trace, watches p t trace)

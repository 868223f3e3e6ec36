-- The backlog of a priority number l and a tick a: what the held jobs have left that are more urgent than l, or have l and were activated by
-- tick a. In each tick it grows by what is activated and falls by one. Assumes nothing.
use Rattle.std.proofs.Common.{◌≡◌, ℕ, zero, suc, ◌+◌, ◌*◌, ◌<◌, ◌≤◌, Bool, true, false, cond, ltb, leb, ◌⊎◌, sym, refl, ap, ◌∙◌, subst, inl, inr, ⊎_elim, add-zero, add-suc, mul-zero, mul-one, arith}
use Rattle.std.proofs.lemmas.Bool.{cases_eq, cases_lt, eq-eqb, ne_eqb, lt-ltb, le-ltb, ltb-false, le-leb, lt-leb, or_parts, and_cases, cond-true, cond-false, both_ways}
use Rattle.theory.specs.Counting.{total}
use Rattle.theory.specs.Plans.{Plan}
use Rattle.theory.specs.Windows.{share}
use Rattle.theory.specs.Runs.{Run, activated, holds, born, ahead, Front, Serves, Drains}
use Rattle.theory.proofs.Sums.{total_mono, total_cong, total_add, total_zero, total_scale, total_swap, total_split, total_some, total_strict, total_but_one}
use Rattle.theory.proofs.Shares.{share_total, share_scale}
use Rattle.theory.proofs.Domination.{came}

-- j does not stand ahead of k
pub not_ahead : (p : Plan) (r : Run) (τ j k : ℕ) → ahead p r τ j k ≡ false → (p.pr k ≤ p.pr j) × (p.pr j ≡ p.pr k → born p r τ k ≤ born p r τ j)
not_ahead p r τ j k e =
    let o = or_parts (ltb (p.pr j) (p.pr k)) _ e in
    (ltb-false _ _ o.0, λ s. ⊎_elim (λ f. absurd (both_ways _ f (eq-eqb _ _ s))) (λ f. ltb-false _ _ f) (and_cases _ _ o.1))

-- no put is refused in the first n ticks: an activated task has no older job
abbrev pub Clear : Plan → Run → ℕ → Type 0
Clear p r n = (τ k : ℕ) → τ < n → k < p.tasks → activated p r τ k ≡ true → r.left τ k ≡ 0

module _ (p : Plan) (l a : ℕ) where
  -- a job of task k activated in tick u belongs to the backlog
  abbrev pub In : ℕ → ℕ → Type 0
  In k u = (p.pr k < l) ⊎ ((p.pr k ≡ l) × (u ≤ a))

  -- what v ticks of such a job count
  abbrev pub weighs : ℕ → ℕ → ℕ → ℕ
  weighs k v u = share p l k v (cond (leb u a) v 0)

  pub weigh_in : (k v u : ℕ) → In k u → weighs k v u ≡ v
  weigh_in k v u (inl h) = cond-true _ _ _ (lt-ltb (p.pr k) l h)
  weigh_in k v u (inr h) =
      cond-false _ _ _ (le-ltb (p.pr k) l (omega (arith, h.0))) ∙ cond-true _ _ _ (eq-eqb (p.pr k) l h.0) ∙ cond-true _ _ _ (le-leb u a h.1)

  pub weigh_out : (k v u : ℕ) → (In k u → ⊥) → weighs k v u ≡ 0
  weigh_out k v u out =
      cond-false _ _ _ (le-ltb (p.pr k) l (⊎_elim (λ lt. absurd (out (inl lt))) (λ le. le) (cases_lt (p.pr k) l)))
      ∙ ⊎_elim
      (λ e. cond-true _ _ _ (eq-eqb (p.pr k) l e) ∙ cond-false _ _ _ (lt-leb u a (⊎_elim (λ lt. lt) (λ le. absurd (out (inr (e, le)))) (cases_lt a u))))
      (λ ne. cond-false _ _ _ (ne_eqb (p.pr k) l ne))
      (cases_eq (p.pr k) l)

  pub in_decided : (k u : ℕ) → In k u ⊎ (In k u → ⊥)
  in_decided k u =
      ⊎_elim
      (λ lt. inl (inl lt))
      (λ ge.
      ⊎_elim
      (λ e. ⊎_elim (λ lt. inr (λ h. ⊎_elim (λ m. omega arith) (λ m. omega (arith, m.1)) h)) (λ le. inl (inr (e, le))) (cases_lt a u))
      (λ ne. inr (λ h. ⊎_elim (λ m. omega arith) (λ m. ne m.0) h))
      (cases_eq (p.pr k) l))
      (cases_lt (p.pr k) l)

  pub weigh_zero : (k u : ℕ) → weighs k 0 u ≡ 0
  weigh_zero k u = ⊎_elim (λ i. weigh_in k 0 u i) (λ o. weigh_out k 0 u o) (in_decided k u)

  pub weigh_within : (k v u : ℕ) → weighs k v u ≤ v
  weigh_within k v u = ⊎_elim (λ i. omega (arith, weigh_in k v u i)) (λ o. omega (arith, weigh_out k v u o)) (in_decided k u)

  weigh_mono : (k v v' u : ℕ) → v ≤ v' → weighs k v u ≤ weighs k v' u
  weigh_mono k v v' u h =
      ⊎_elim (λ i. omega (arith, weigh_in k v u i, weigh_in k v' u i)) (λ o. omega (arith, weigh_out k v u o, weigh_out k v' u o)) (in_decided k u)

  cond_bit : (b : Bool) (c : ℕ) → c * cond b 1 0 ≡ cond b c 0
  cond_bit true c = mul-one c
  cond_bit false c = mul-zero c

  -- what one activation in tick τ adds
  fresh_one : (k τ : ℕ) → p.cost k * share p l k 1 (cond (leb τ a) 1 0) ≡ weighs k (p.cost k) τ
  fresh_one k τ =
      share_scale p l k (p.cost k) 1 (cond (leb τ a) 1 0) ∙ ap (λ x. share p l k x (p.cost k * cond (leb τ a) 1 0)) (mul-one (p.cost k)) ∙ ap (λ x. share p l k (p.cost k) x) (cond_bit (leb τ a) (p.cost k))

  fresh_none : (k τ : ℕ) → p.cost k * share p l k 0 (cond (leb τ a) 0 0) ≡ 0
  fresh_none k τ = ap (λ x. p.cost k * x) (weigh_zero k τ) ∙ mul-zero (p.cost k)

  module _ (r : Run) where
    abbrev pub backlog : ℕ → ℕ
    backlog τ = total p.tasks (λ k. weighs k (r.left τ k) (r.since τ k))

    -- once the jobs activated in tick τ are there
    abbrev between : ℕ → ℕ
    between τ = total p.tasks (λ k. weighs k (holds p r τ k) (born p r τ k))

    -- what is activated in tick τ
    abbrev pub fresh : ℕ → ℕ
    fresh τ = total p.tasks (λ k. p.cost k * share p l k (cond (activated p r τ k) 1 0) (cond (leb τ a) (cond (activated p r τ k) 1 0) 0))

    -- a task's part of the backlog once the activated jobs are there
    part_upper : (k τ v u : ℕ) (b : Bool)
        → weighs k (cond b (p.cost k) v) (cond b τ u) ≤ weighs k v u + p.cost k * share p l k (cond b 1 0) (cond (leb τ a) (cond b 1 0) 0)
    part_upper k τ v u true = omega (arith, fresh_one k τ)
    part_upper k τ v u false = omega (arith, fresh_none k τ)

    part_lower : (k τ v u : ℕ) (b : Bool) → (b ≡ true → v ≡ 0)
        → weighs k v u + p.cost k * share p l k (cond b 1 0) (cond (leb τ a) (cond b 1 0) 0) ≤ weighs k (cond b (p.cost k) v) (cond b τ u)
    part_lower k τ v u true none = omega (arith, fresh_one k τ, ap (λ x. weighs k x u) (none refl), weigh_zero k u)
    part_lower k τ v u false none = omega (arith, fresh_none k τ)

    between_upper : (τ : ℕ) → between τ ≤ backlog τ + fresh τ
    between_upper τ =
        omega (
          arith,
          total_mono p.tasks _ _ (λ k lt. part_upper k τ (r.left τ k) (r.since τ k) (activated p r τ k)),
          total_add p.tasks (λ k. weighs k (r.left τ k) (r.since τ k)) (λ k. p.cost k * share p l k (cond (activated p r τ k) 1 0) (cond (leb τ a) (cond (activated p r τ k) 1 0) 0)),
        )

    between_lower : (τ : ℕ) → ((k : ℕ) → k < p.tasks → activated p r τ k ≡ true → r.left τ k ≡ 0) → backlog τ + fresh τ ≤ between τ
    between_lower τ clear =
        omega (
          arith,
          total_mono p.tasks _ _ (λ k lt. part_lower k τ (r.left τ k) (r.since τ k) (activated p r τ k) (clear k lt)),
          total_add p.tasks (λ k. weighs k (r.left τ k) (r.since τ k)) (λ k. p.cost k * share p l k (cond (activated p r τ k) 1 0) (cond (leb τ a) (cond (activated p r τ k) 1 0) 0)),
        )

    -- a job's part after the tick, by what it had in it
    part_same : (τ k : ℕ) → (1 ≤ r.left (suc τ) k → r.since (suc τ) k ≡ born p r τ k) → weighs k (r.left (suc τ) k) (r.since (suc τ) k) ≡ weighs k (r.left (suc τ) k) (born p r τ k)
    part_same τ k same =
        ⊎_elim
        (λ some. ap (λ u. weighs k (r.left (suc τ) k) u) (same some))
        (λ none.
        let z : r.left (suc τ) k ≡ 0 = omega arith in
        ap (λ v. weighs k v (r.since (suc τ) k)) z ∙ weigh_zero k (r.since (suc τ) k) ∙ sym (ap (λ v. weighs k v (born p r τ k)) z ∙ weigh_zero k (born p r τ k)))
        (cases_lt 0 (r.left (suc τ) k))

    -- the fronts of a tick belong to the backlog if any held job does
    front_in : (τ k f : ℕ) → Front p r τ f → k < p.tasks → 1 ≤ holds p r τ k → In k (born p r τ k) → In f (born p r τ f)
    front_in τ k f front lt held i =
        let no = not_ahead p r τ k f (front.first k lt held) in
        ⊎_elim
        (λ less. inl (omega (arith, no.0)))
        (λ both.
        ⊎_elim
        (λ less. inl less)
        (λ ge. let e : p.pr k ≡ p.pr f = omega (arith, no.0, both.0) in inr (omega (arith, e, both.0), omega (arith, no.1 e, both.1)))
        (cases_lt (p.pr f) l))
        i

    module _ (n : ℕ) (drains : Drains p r n) where
      drops : (τ : ℕ) → τ < n → 1 ≤ backlog (suc τ) → suc (backlog (suc τ)) ≤ between τ
      drops τ lt some =
          let terms : (k : ℕ) → k < p.tasks → weighs k (r.left (suc τ) k) (r.since (suc τ) k) ≤ weighs k (holds p r τ k) (born p r τ k) = λ k kl.
          omega (arith, part_same τ k (drains.same τ k lt kl), weigh_mono k _ _ (born p r τ k) (drains.falls τ k lt kl)) in
          let one = total_some p.tasks (λ k. weighs k (holds p r τ k) (born p r τ k)) (omega (arith, total_mono p.tasks _ _ terms)) in
          let k = one.0 in
          let held : 1 ≤ holds p r τ k = omega (arith, one.2, weigh_within k (holds p r τ k) (born p r τ k)) in
          let inside : In k (born p r τ k) = ⊎_elim (λ i. i) (λ o. absurd (omega (arith, one.2, weigh_out k (holds p r τ k) (born p r τ k) o))) (in_decided k (born p r τ k)) in
          ⊎_elim
          (λ idle. absurd (omega (arith, idle k one.1, held)))
          (λ served.
          let f = served.0 in
          let i = front_in τ k f served.1 one.1 held inside in
          total_strict p.tasks _ _ f served.1.task terms
          (omega (arith, part_same τ f (drains.same τ f lt served.1.task), weigh_in f (holds p r τ f) (born p r τ f) i, weigh_in f (r.left (suc τ) f) (born p r τ f) i, served.2)))
          (drains.tick τ lt)

      -- while there is a backlog, it loses at least one in each tick
      upper_step : (τ : ℕ) → τ < n → 1 ≤ backlog (suc τ) → suc (backlog (suc τ)) ≤ backlog τ + fresh τ
      upper_step τ lt some = omega (arith, drops τ lt some, between_upper τ)

      pub no_backlog : backlog 0 ≡ 0
      no_backlog = total_zero p.tasks _ (λ k lt. ap (λ v. weighs k v (r.since 0 k)) (drains.empty k lt) ∙ weigh_zero k (r.since 0 k))

      -- what was activated since the backlog was last nothing, less one for each tick since
      pub upper_sum : (s z : ℕ) → backlog s ≡ 0 → s + z ≤ n → ((j : ℕ) → 1 ≤ j → j ≤ z → 1 ≤ backlog (s + j)) → backlog (s + z) + z ≤ total z (λ j. fresh (s + j))
      upper_sum s zero e le busy = omega (arith, ap backlog (add-zero s), e)
      upper_sum s (suc z) e le busy =
          let q = ap backlog (add-suc s z) in
          omega (arith, q, upper_sum s z e (omega arith) (λ j a b. busy j a (omega arith)), upper_step (s + z) (omega arith) (omega (arith, q, busy (suc z) (omega arith) (omega arith))))

      -- the last tick by u whose start finds no backlog
      pub last_empty : (u : ℕ) → (s : ℕ) × (s ≤ u) × (backlog s ≡ 0) × ((j : ℕ) → s < j → j ≤ u → 1 ≤ backlog j)
      last_empty zero = (0, omega arith, no_backlog, λ j a b. absurd (omega arith))
      last_empty (suc u) =
          ⊎_elim
          (λ some.
          let h = last_empty u in
          (h.0, omega (arith, h.1), h.2, λ j a b. ⊎_elim (λ e. subst (λ v. 1 ≤ backlog v) (sym e) some) (λ ne. h.3 j a (omega arith)) (cases_eq j (suc u))))
          (λ none. (suc u, omega arith, omega arith, λ j a b. absurd (omega arith)))
          (cases_lt 0 (backlog (suc u)))

    module _ (n : ℕ) (serves : Serves p r n) where
      stays : (τ k : ℕ) → τ < n → k < p.tasks → r.left (suc τ) k ≡ holds p r τ k → weighs k (holds p r τ k) (born p r τ k) ≤ weighs k (r.left (suc τ) k) (r.since (suc τ) k)
      stays τ k lt kl e = omega (arith, part_same τ k (serves.same τ k lt kl), ap (λ v. weighs k v (born p r τ k)) e)

      falls : (τ k : ℕ) → τ < n → k < p.tasks → suc (r.left (suc τ) k) ≡ holds p r τ k → weighs k (holds p r τ k) (born p r τ k) ≤ suc (weighs k (r.left (suc τ) k) (r.since (suc τ) k))
      falls τ k lt kl e =
          let s = part_same τ k (serves.same τ k lt kl) in
          let u = born p r τ k in
          ⊎_elim
          (λ i. omega (arith, s, weigh_in k (holds p r τ k) u i, weigh_in k (r.left (suc τ) k) u i, e))
          (λ o. omega (arith, weigh_out k (holds p r τ k) u o))
          (in_decided k u)

      -- the backlog loses at most one in each tick
      lower_step : (τ : ℕ) → τ < n → ((k : ℕ) → k < p.tasks → activated p r τ k ≡ true → r.left τ k ≡ 0) → backlog τ + fresh τ ≤ suc (backlog (suc τ))
      lower_step τ lt clear =
          let m : between τ ≤ suc (backlog (suc τ)) = ⊎_elim
          (λ idle. omega (arith, total_mono p.tasks _ _ (λ k kl. stays τ k lt kl (idle.1 k kl))))
          (λ served. total_but_one p.tasks _ _ served.0 (λ k kl ne. stays τ k lt kl (served.3 k kl ne)) (λ kl. falls τ served.0 lt kl served.2))
          (serves.tick τ lt) in
          omega (arith, m, between_lower τ clear)

      pub lower_sum : Clear p r n → (s z : ℕ) → s + z ≤ n → total z (λ j. fresh (s + j)) ≤ backlog (s + z) + z
      lower_sum clear s zero le = omega arith
      lower_sum clear s (suc z) le =
          omega (arith, ap backlog (add-suc s z), lower_sum clear s z (omega arith), lower_step (s + z) (omega arith) (λ k kl. clear (s + z) k (omega arith) kl))

    -- what is activated in z ticks, task by task
    pub fresh_sum : (s z : ℕ) → total z (λ j. fresh (s + j))
        ≡ total p.tasks (λ k. p.cost k * share p l k (came p r s k z) (total z (λ j. cond (leb (s + j) a) (cond (activated p r (s + j) k) 1 0) 0)))
    fresh_sum s z =
        total_swap z p.tasks (λ j k. p.cost k * share p l k (cond (activated p r (s + j) k) 1 0) (cond (leb (s + j) a) (cond (activated p r (s + j) k) 1 0) 0))
        ∙ total_cong p.tasks _ _ (λ k lt.
        total_scale z (p.cost k) (λ j. share p l k (cond (activated p r (s + j) k) 1 0) (cond (leb (s + j) a) (cond (activated p r (s + j) k) 1 0) 0))
        ∙ ap (λ x. p.cost k * x) (share_total p l k z (λ j. cond (activated p r (s + j) k) 1 0) (λ j. cond (leb (s + j) a) (cond (activated p r (s + j) k) 1 0) 0)))

    -- of the jobs with the number l those count that are activated by tick a
    pub level_sum : (s x y : ℕ) (b : ℕ → ℕ) → a ≡ s + x → total (suc x + y) (λ j. cond (leb (s + j) a) (b j) 0) ≡ total (suc x) b
    level_sum s x y b e =
        let g : ℕ → ℕ = λ j. cond (leb (s + j) a) (b j) 0 in
        let early : total (suc x) g ≡ total (suc x) b = total_cong (suc x) g b (λ j lt. cond-true _ _ _ (le-leb (s + j) a (omega arith))) in
        let late : total y (λ j. g (suc x + j)) ≡ 0 = total_zero y _ (λ j lt. cond-false _ _ _ (lt-leb (s + (suc x + j)) a (omega arith))) in
        omega (arith, total_split (suc x) y g, early, late)

    pub fresh_window : (s x y : ℕ) → a ≡ s + x
        → total (suc x + y) (λ j. fresh (s + j)) ≡ total p.tasks (λ k. p.cost k * share p l k (came p r s k (suc x + y)) (came p r s k (suc x)))
    fresh_window s x y e =
        fresh_sum s (suc x + y)
        ∙ total_cong p.tasks _ _ (λ k lt. ap (λ u. p.cost k * share p l k (came p r s k (suc x + y)) u) (level_sum s x y (λ j. cond (activated p r (s + j) k) 1 0) e))

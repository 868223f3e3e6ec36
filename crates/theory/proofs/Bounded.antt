-- The upper bound: no job is held past its figure. Assumes nothing.
use Rattle.std.proofs.Common.{◌≡◌, ℕ, suc, ◌+◌, ◌-◌, ◌*◌, ◌/◌, ◌<◌, ◌≤◌, Bool, true, false, cond, leb, sym, refl, ap, subst, inr, ⊎_elim, mul-le-mul_left, arith}
use Rattle.std.proofs.lemmas.Bool.{cases_lt}
use Rattle.theory.specs.Counting.{total}
use Rattle.theory.specs.Plans.{Plan, Lawful, period, work}
use Rattle.theory.specs.Windows.{hits, demand, Choice, Reach, Figure, share}
use Rattle.theory.specs.Runs.{Run, Rounds, activated, Drains, Held, Takes}
use Rattle.theory.specs.Theorems.{Upper}
use Rattle.theory.proofs.Sums.{total_mono, total_one}
use Rattle.theory.proofs.Shares.{share_mono, share_within}
use Rattle.theory.proofs.Reaches.{hits_once, work_is, reach, reach_within_lem}
use Rattle.theory.proofs.Domination.{came, came_within, phases, chosen, dominated}
use Rattle.theory.proofs.Backlog.{weighs, weigh_in, backlog, fresh, upper_sum, last_empty, fresh_sum, fresh_window}
use Rattle.theory.proofs.Jobs.{response, held_since}

cond_less : (b : Bool) (x : ℕ) → cond b x 0 ≤ x
cond_less true x = omega arith
cond_less false x = omega arith

module _ (p : Plan) (r : Run) (n : ℕ) (lawful : Lawful p) (light : work p ≤ p.hyper) (rounds : Rounds p r) (drains : Drains p r n) where
  -- what a hyperperiod brings is at most the work
  fresh_within : (l a s : ℕ) → total p.hyper (λ j. fresh p l a r (s + j)) ≤ work p
  fresh_within l a s =
      let H = p.hyper in
      let came≤ : (k : ℕ) → k < p.tasks → came p r s k H ≤ H / period p k = λ k lt.
      let c = came_within p r rounds lawful s k lt in omega (arith, c.1, hits_once p lawful c.0 k lt) in
      let level = λ (k : ℕ). total H (λ j. cond {A = ℕ} (leb (s + j) a) (cond (activated p r (s + j) k) 1 0) 0) in
      let asked = λ (k : ℕ). p.cost k * share p l k (came p r s k H) (level k) in
      let le : total p.tasks asked ≤ total p.tasks (λ k. p.cost k * (H / period p k)) = total_mono p.tasks asked (λ k. p.cost k * (H / period p k)) (λ k lt.
      mul-le-mul_left (p.cost k) (share_within p l k (came p r s k H) (level k) (H / period p k) (came≤ k lt)
      (omega (arith, came≤ k lt, total_mono H (λ j. cond (leb (s + j) a) (cond (activated p r (s + j) k) 1 0) 0) (λ j. cond (activated p r (s + j) k) 1 0) (λ j jl. cond_less (leb (s + j) a) (cond (activated p r (s + j) k) 1 0)))))) in
      omega (arith, fresh_sum p l a r s H, le, work_is p lawful)

  module _ (t a : ℕ) (task : t < p.tasks) where
    -- the backlog that the job has to wait for, with the job itself
    ahead_of : ℕ → ℕ
    ahead_of = backlog p (p.pr t) a r

    held_counts : (τ : ℕ) → Held r t a τ → 1 ≤ ahead_of τ
    unfolding ahead_of
    held_counts τ h =
        let part = λ (k : ℕ). weighs p (p.pr t) a k (r.left τ k) (r.since τ k) in
        omega (arith, total_one p.tasks part t task, weigh_in p (p.pr t) a t (r.left τ t) (r.since τ t) (inr (refl, omega (arith, h.1))), h.0)

    -- the busy time before tick a is shorter than the hyperperiod
    short : (s : ℕ) → s ≤ a → a ≤ n → ahead_of s ≡ 0 → ((j : ℕ) → s < j → j ≤ a → 1 ≤ ahead_of j) → a - s < p.hyper
    unfolding ahead_of
    short s le an zero-s busy =
        ⊎_elim
        (λ lt. lt)
        (λ ge.
        let sum = upper_sum p (p.pr t) a r n drains s p.hyper zero-s (omega arith) (λ j one up. busy (s + j) (omega arith) (omega arith)) in
        absurd (omega (arith, sum, fresh_within (p.pr t) a s, busy (s + p.hyper) (omega (arith, lawful.some)) (omega arith), light)))
        (cases_lt (a - s) p.hyper)

    module _ (active : activated p r a t ≡ true) where
      gone_by_reach : (x s : ℕ) → s + x ≡ a → x < p.hyper → ahead_of s ≡ 0 → ((j : ℕ) → s < j → j ≤ a → 1 ≤ ahead_of j)
          → (φ : ℕ → ℕ) × (y : ℕ) × Choice p t x φ × Reach p t x φ y × (a + y ≤ n → Held r t a (a + y) → ⊥)
      unfolding ahead_of
      gone_by_reach x s e early zero-s busy =
          let act : activated p r (s + x) t ≡ true = subst (λ v. activated p r v t ≡ true) (sym e) active in
          let φ = phases p r rounds lawful s t x task early act in
          let c = chosen p r rounds lawful s t x task early act in
          let R = reach p lawful light t x φ early in
          let y = R.0 in
          let some = R.1.some in
          let inside = reach_within_lem p t x φ y lawful light early R.1 in
          let q : suc x + (y - 1) ≡ x + y = omega (arith, some) in
          let one : suc x ≡ x + 1 = omega arith in
          let dom : (k v : ℕ) → k < p.tasks → suc x + v ≤ p.hyper → came p r s k (suc x + v) ≤ hits p φ k (suc x + v) = dominated p r rounds lawful s t x task early act in (
            φ,
            y,
            c,
            R.1,
            λ fits h.
                let held : (j : ℕ) → 1 ≤ j → j ≤ y → Held r t a (a + j) = λ j jo jy.
                let m : a + j + (y - j) ≡ a + y = omega arith in
                held_since p r n drains t a (a + j) (y - j) task (omega arith) (omega arith) (subst (Held r t a) (sym m) h) in
                let full : (j : ℕ) → 1 ≤ j → j ≤ x + y → 1 ≤ backlog p (p.pr t) a r (s + j) = λ j jo jy.
                ⊎_elim
                (λ le. busy (s + j) (omega arith) (omega arith))
                (λ gt.
                let m : a + (j - x) ≡ s + j = omega arith in
                subst (λ v. 1 ≤ backlog p (p.pr t) a r v) m (held_counts (a + (j - x)) (held (j - x) (omega arith) (omega arith))))
                (cases_lt j (suc x)) in
                let sum = upper_sum p (p.pr t) a r n drains s (x + y) zero-s (omega arith) full in
                let new = fresh_window p (p.pr t) a r s x (y - 1) (sym e) in
                let less : total p.tasks (λ k. p.cost k * share p (p.pr t) k (came p r s k (suc x + (y - 1))) (came p r s k (suc x))) ≤ demand p t x φ y =
                total_mono p.tasks _ _ (λ k lt. mul-le-mul_left (p.cost k) (share_mono p (p.pr t) k _ _ _ _
                (omega (arith, dom k (y - 1) lt (omega arith), ap (hits p φ k) q))
                (let z : suc x + 0 ≡ suc x = omega arith in omega (arith, dom k 0 lt (omega arith), ap (came p r s k) z, ap (hits p φ k) z, ap (hits p φ k) one)))) in
                omega (arith, sum, new, ap (λ z. total z (λ j. fresh p (p.pr t) a r (s + j))) q, less, R.1.ends, full (x + y) (omega arith) (omega arith)),
          )

      pub bounded : (f : ℕ) → Figure p t f → a + f ≤ n → (j : ℕ) × (j ≤ f) × Takes r t a j
      unfolding ahead_of
      bounded f figure fits =
          let z = last_empty p (p.pr t) a r n drains a in
          let s = z.0 in
          let early = short s z.1 (omega arith) z.2 z.3 in
          let g = gone_by_reach (a - s) s (omega (arith, z.1)) early z.2 z.3 in
          let y = g.1 in
          let le : y ≤ f = figure.bounds (a - s) g.0 y g.2 g.3 in
          let found = response r t a y g.3.some (g.4 (omega arith)) in
          (found.0, omega (arith, found.1, le), found.2)

pub upper : Upper
upper p r n t a f lawful light rounds drains task figure active fits = bounded p r n lawful light rounds drains t a task active f figure fits

-- The lower bound: where the tables turn with the phases of a choice, the watched job takes at least the reach. Assumes nothing.
use Rattle.std.proofs.Common.{◌≡◌, ℕ, zero, suc, ◌+◌, ◌*◌, ◌<◌, ◌≤◌, true, cond, eqb, ltb, ◌⊎◌, sym, refl, ap, ◌∙◌, subst, inl, inr, ⊎_elim, add_assoc, add-suc, arith}
use Rattle.std.proofs.lemmas.Bool.{cases_eq, cases_lt, cases_Bool, eq-eqb, ne_eqb, eqb-true, ltb-true, or_cases, and_parts}
use Rattle.theory.specs.Counting.{total}
use Rattle.theory.specs.Plans.{Plan, Lawful, period}
use Rattle.theory.specs.Windows.{turned, hits, demand, share}
use Rattle.theory.specs.Runs.{Run, Rounds, activated, holds, born, ahead, Serves, Watches, Turns, Takes}
use Rattle.theory.specs.Theorems.{Exact, Exposed}
use Rattle.theory.proofs.Sums.{total_cong, total_zero}
use Rattle.theory.proofs.Domination.{came}
use Rattle.theory.proofs.Backlog.{Clear, In, weighs, weigh_out, weigh_zero, backlog, lower_sum, fresh_window}
use Rattle.theory.proofs.Jobs.{service_drains_lem, serves_less, held_decided, response, present, finished, clear_unless_late, late_decided}
use Rattle.theory.proofs.Bounded.{bounded}
use Rattle.theory.proofs.Safety.{never_refused}

module _ (p : Plan) (r : Run) (lawful : Lawful p) (rounds : Rounds p r) (s : ℕ) (φ : ℕ → ℕ) (m : ℕ) (turns : Turns p r s φ m) where
  -- while the tables turn, a task is activated exactly where the window says
  active_as : (k j : ℕ) → k < p.tasks → j < m → activated p r (s + j) k ≡ eqb (turned (period p k) (φ (p.tab k)) j) (p.pos k)
  active_as k j kl lt =
      let i = p.tab k in
      let inside = lawful.table_in k kl in
      let q = turned (period p k) (φ i) j in
      let here = turns i j inside lt in
      ⊎_elim
      (λ e. subst (λ v. r.runs i (s + j) v ≡ true) e here ∙ sym (eq-eqb q (p.pos k) e))
      (λ ne.
      ⊎_elim
      (λ t.
      let far = rounds.apart i (s + j) q (s + j) (p.pos k) inside here t (omega arith) in
      absurd (ne (⊎_elim (λ e. omega (arith, e)) (λ le. absurd (omega (arith, le, rounds.within i (s + j) q inside here))) far)))
      (λ f. f ∙ sym (ne_eqb q (p.pos k) ne))
      (cases_Bool (activated p r (s + j) k)))
      (cases_eq q (p.pos k))

  pub came_as : (k z : ℕ) → k < p.tasks → z ≤ m → came p r s k z ≡ hits p φ k z
  came_as k z kl le = total_cong z _ _ (λ j lt. ap (λ b. cond {A = ℕ} b 1 0) (active_as k j kl (omega arith)))

  pub active_at : (t x : ℕ) → t < p.tasks → x < m → turned (period p t) (φ (p.tab t)) x ≡ p.pos t → activated p r (s + x) t ≡ true
  active_at t x task lt meets = active_as t x task lt ∙ eq-eqb _ _ meets

  -- the backlog is at least what the window asks for, less one for each tick of it
  demand_left : (n t x v : ℕ) → Serves p r n → Clear p r n → x + suc v ≤ m → s + (x + suc v) ≤ n
      → demand p t x φ (suc v) ≤ backlog p (p.pr t) (s + x) r (s + (x + suc v)) + (x + suc v)
  demand_left n t x v serves clear le fits =
      let l = p.pr t in
      let a = s + x in
      let q : suc x + v ≡ x + suc v = omega arith in
      let one : suc x ≡ x + 1 = omega arith in
      let low = lower_sum p l a r n serves clear s (suc x + v) (omega arith) in
      let new = fresh_window p l a r s x v refl in
      let same : total p.tasks (λ k. p.cost k * share p l k (came p r s k (suc x + v)) (came p r s k (suc x))) ≡ demand p t x φ (suc v) =
      total_cong p.tasks _ _ (λ k kl.
      ap (λ u. p.cost k * share p l k u (came p r s k (suc x))) (came_as k (suc x + v) kl (omega arith) ∙ ap (hits p φ k) q)
      ∙ ap (λ u. p.cost k * share p l k (hits p φ k (x + suc v)) u) (came_as k (suc x) kl (omega arith) ∙ ap (hits p φ k) one)) in
      omega (arith, low, new, same, ap (λ z. backlog p l a r (s + z)) q)

-- The watched job goes when nothing else of its backlog is left.
module _ (p : Plan) (r : Run) (n t : ℕ) (lawful : Lawful p) (serves : Serves p r n) (watches : Watches p r t n) (clear : Clear p r n) (task : t < p.tasks) where
  behind : (τ k a : ℕ) → ahead p r τ t k ≡ true → born p r τ t ≡ a → In p (p.pr t) a k (born p r τ k) → ⊥
  behind τ k a front e i =
      let first : (p.pr t < p.pr k) ⊎ ((p.pr t ≡ p.pr k) × (born p r τ t < born p r τ k)) = ⊎_elim
      (λ less. inl (ltb-true (p.pr t) (p.pr k) less))
      (λ level. let both = and_parts (eqb (p.pr t) (p.pr k)) (ltb (born p r τ t) (born p r τ k)) level in inr (eqb-true _ _ both.0, ltb-true _ _ both.1))
      (or_cases (ltb (p.pr t) (p.pr k)) _ front) in
      omega (arith, first, i, e)

  alone : (a j : ℕ) → activated p r a t ≡ true → Takes r t a j → a + j ≤ n → backlog p (p.pr t) a r (a + j) ≡ 0
  alone a zero active takes le = absurd (omega (arith, takes.some))
  alone a (suc i) active takes le =
      let drains = service_drains_lem p r n serves in
      let l = p.pr t in
      let τ = a + i in
      let lt : τ < n = omega arith in
      let there = present p r n drains lawful clear t a i task active takes lt in
      let e = add-suc a i in
      let out : r.left (suc τ) t ≡ 0 = ap (λ v. r.left v t) (sym e) ∙ finished p r n drains lawful clear t a (suc i) task active takes le in
      let none : (k : ℕ) → r.left (suc τ) k ≡ 0 → weighs p l a k (r.left (suc τ) k) (r.since (suc τ) k) ≡ 0 = λ k z.
      ap (λ v. weighs p l a k v (r.since (suc τ) k)) z ∙ weigh_zero p l a k (r.since (suc τ) k) in
      ap (backlog p l a r) e
      ∙ total_zero p.tasks _ (λ k kl.
      ⊎_elim
      (λ same. none k (ap (r.left (suc τ)) same ∙ out))
      (λ other.
      ⊎_elim
      (λ some.
      let held : 1 ≤ holds p r τ k = omega (arith, some, drains.falls τ k lt kl) in
      let front = watches τ k lt kl other held (omega (arith, out, there.0)) in
      weigh_out p l a k _ _ (λ i. behind τ k a front there.1 (subst (In p l a k) (drains.same τ k lt kl some) i)))
      (λ z. none k (omega arith))
      (cases_lt 0 (r.left (suc τ) k)))
      (cases_eq k t))

  -- so the job takes no fewer ticks than satisfy the demand
  pub enough : (s x : ℕ) (φ : ℕ → ℕ) (m j : ℕ) → Rounds p r → Turns p r s φ m → turned (period p t) (φ (p.tab t)) x ≡ p.pos t
      → Takes r t (s + x) j → x + j ≤ m → s + x + j ≤ n → demand p t x φ j ≤ x + j
  enough s x φ m zero rounds turns meets takes le fits = absurd (omega (arith, takes.some))
  enough s x φ m (suc v) rounds turns meets takes le fits =
      let active = active_at p r lawful rounds s φ m turns t x task (omega arith) meets in
      let q : s + x + suc v ≡ s + (x + suc v) = add_assoc s x (suc v) in
      omega (arith, demand_left p r lawful rounds s φ m turns n t x v serves clear le (omega arith), alone (s + x) (suc v) active takes fits, ap (backlog p (p.pr t) (s + x) r) q)

pub exact : Exact
exact p r n t x φ f s lawful light passes rounds serves watches task choice reach figure turns fits =
    let drains = service_drains_lem p r n serves in
    let clear : Clear p r n = λ τ k lt kl. never_refused p r n lawful light rounds drains passes k τ kl (omega arith) in
    let active = active_at p r lawful rounds s φ (x + f) turns t x task (omega (arith, reach.some)) choice.meets in
    let b = bounded p r n lawful light rounds drains t (s + x) task active f figure fits in
    let j = b.0 in
    let met = enough p r n t lawful serves watches clear task s x φ (x + f) j rounds turns choice.meets b.2 (omega (arith, b.1)) (omega (arith, b.1)) in
    let same : j ≡ f = ⊎_elim (λ less. absurd (omega (arith, met, reach.first j b.2.some less))) (λ ge. omega (arith, ge, b.1)) (cases_lt j f) in
    subst (Takes r t (s + x)) same b.2

pub exposed : Exposed
exposed p r n t x φ y s lawful rounds serves watches task choice reach late turns fits =
    let d = p.deadline t in
    let m = s + x + d in
    let now = serves_less p r m n fits serves in
    let drains = service_drains_lem p r m now in
    let pos : 1 ≤ d = omega (arith, lawful.costs t task, lawful.fits t task) in
    ⊎_elim
    (λ some. some)
    (λ none.
    let clear : Clear p r m = λ τ k lt kl. clear_unless_late p r m drains lawful rounds none k τ kl (omega arith) in
    ⊎_elim
    (λ held. (t, m, task, omega arith, (held.0, omega (arith, held.1))))
    (λ gone.
    let f = response r t (s + x) d pos gone in
    let j = f.0 in
    let met = enough p r m t lawful now (λ τ k lt. watches τ k (omega arith)) clear task s x φ (x + d) j rounds turns choice.meets f.2 (omega (arith, f.1)) (omega (arith, f.1)) in
    absurd (omega (arith, met, reach.first j f.2.some (omega (arith, f.1, late)))))
    (held_decided r t (s + x) (s + x + d)))
    (late_decided p r m)

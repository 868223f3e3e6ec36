-- Events that keep a distance are no more than the arrivals of a clock that turns without pause. Assumes nothing.
use Rattle.std.proofs.Common.{◌≡◌, ℕ, zero, suc, ◌+◌, ◌<◌, ◌≤◌, ◌⊎◌, ⊎_elim, le_refl, arith}
use Rattle.std.proofs.lemmas.Bool.{cases_eq, cases_lt}
use Rattle.theory.specs.Counting.{total}

-- A clock w of D hours steps by one and falls back to 0; b counts events, at most one a tick and at least D ticks apart, in the first n ticks; g counts at
-- least one whenever the clock shows q; and no event comes before the clock's first arrival at q.
pub record Train (D q n : ℕ) (w b g : ℕ → ℕ) : Type 0 where
  pub below : q < D
  pub steps : (z : ℕ) → suc z < n → (w (suc z) ≡ suc (w z)) ⊎ ((suc (w z) ≡ D) × (w (suc z) ≡ 0))
  pub shows : (z : ℕ) → z < n → w z < D
  pub single : (z : ℕ) → b z ≤ 1
  pub gap : (j k : ℕ) → j < k → k < n → 1 ≤ b j → 1 ≤ b k → j + D ≤ k
  pub hit : (z : ℕ) → z < n → w z ≡ q → 1 ≤ g z
  pub start : (k : ℕ) → k < n → 1 ≤ b k → (q ≤ k + w 0) × (q < w 0 → q + D ≤ k + w 0)

module _ {D q n : ℕ} {w b g : ℕ → ℕ} (t : Train D q n w b g) where
  -- no event from z on comes before the clock's next arrival
  Next : ℕ → Type 0
  Next z = (k : ℕ) → z ≤ k → k < n → 1 ≤ b k → (z + q ≤ k + w z) × (q < w z → z + q + D ≤ k + w z)

  -- there were no more events than arrivals, and where there were as many, the next event is not before the next arrival
  Kept : ℕ → Type 0
  Kept z = (total z b ≤ total z g) × (total z b ≡ total z g → Next z)

  counted : (z : ℕ) → z < n → Kept z → total (suc z) b ≤ total (suc z) g
  unfolding Next Kept
  counted z h kept =
      let v = t.shows z h in
      ⊎_elim
      (λ none. omega (arith, kept.0, none))
      (λ one.
      ⊎_elim
      (λ e.
      let r = kept.1 e z (le_refl z) h one in
      let same : w z ≡ q = ⊎_elim (λ m. absurd (omega (arith, r.1 m, v))) (λ m. omega (arith, r.0, m)) (cases_lt q (w z)) in
      omega (arith, e, t.hit z h same, t.single z))
      (λ ne. omega (arith, kept.0, ne, t.single z))
      (cases_eq (total z b) (total z g)))
      (cases_lt (b z) 1)

  after : (z : ℕ) → suc z < n → Kept z → total (suc z) b ≡ total (suc z) g → Next (suc z)
  unfolding Next Kept
  after z h kept e k le lt one =
      let v = t.shows z (omega arith) in
      let s = t.steps z h in
      ⊎_elim
      (λ none.
      let quiet : g z ≡ 0 = omega (arith, kept.0, e, none) in
      let r = kept.1 (omega (arith, e, none, quiet)) k (omega arith) lt one in
      ⊎_elim
      (λ m. (omega (arith, r.0, s, v, t.below, r.1 m), λ l. omega (arith, r.1 m, s)))
      (λ m.
      let off : w z ≡ q → ⊥ = λ same. absurd (omega (arith, t.hit z (omega arith) same, quiet)) in
      let less : w z < q = ⊎_elim (λ same. absurd (off same)) (λ ne. omega (arith, m, ne)) (cases_eq (w z) q) in
      (omega (arith, r.0, s, v, t.below, less), λ l. absurd (omega (arith, s, less, l))))
      (cases_lt q (w z)))
      (λ here. let far = t.gap z k (omega arith) lt here one in (omega (arith, far, t.below), λ l. omega (arith, far, l)))
      (cases_lt (b z) 1)

  kept : (z : ℕ) → z < n → Kept z
  unfolding Next Kept
  kept zero h = (omega arith, λ e k le lt one. let r = t.start k lt one in (omega (arith, r.0), λ m. omega (arith, r.1 m)))
  kept (suc z) h = let before = kept z (omega arith) in (counted z (omega arith) before, after z h before)

  pub no_more : (z : ℕ) → z ≤ n → total z b ≤ total z g
  no_more zero h = omega arith
  no_more (suc z) h = counted z h (kept z h)

-- The first of the numbers below a bound that has a property, where the property is decided at each. Assumes nothing.
use Rattle.std.proofs.Common.{ℕ, zero, suc, ◌<◌, ◌⊎◌, subst, inl, inr, ⊎_elim, le_refl, arith}
use Rattle.std.proofs.lemmas.Bool.{cases_eq}

-- j is the first number with P, and below n
pub record First (P : ℕ → Type 0) (n j : ℕ) : Type 0 where
  pub below : j < n
  pub has : P j
  pub before : (i : ℕ) → i < j → P i → ⊥

module _ (P : ℕ → Type 0) (decided : (j : ℕ) → P j ⊎ (P j → ⊥)) where
  pub find : (n : ℕ) → ((j : ℕ) × First P n j) ⊎ ((i : ℕ) → i < n → P i → ⊥)
  find zero = inr (λ i lt h. absurd (omega arith))
  find (suc n) =
      ⊎_elim
      (λ f. let first = f.1 in inl (f.0, record { below = omega (arith, first.below); has = first.has; before = first.before }))
      (λ none.
      ⊎_elim
      (λ h. inl (n, record { below = le_refl (suc n); has = h; before = none }))
      (λ no. inr (λ i lt h. ⊎_elim (λ e. no (subst P e h)) (λ ne. none i (omega arith) h) (cases_eq i n)))
      (decided n))
      (find n)

  -- whether there is one below the bound is decided
  pub some_below : (n : ℕ) → ((j : ℕ) × (j < n) × P j) ⊎ ((i : ℕ) → i < n → P i → ⊥)
  some_below n = ⊎_elim (λ f. inl (f.0, f.1.below, f.1.has)) inr (find n)

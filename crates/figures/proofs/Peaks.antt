-- No choice adds more than the ceiling. Assumes nothing.
use Rattle.std.proofs.Common.{◌≡◌, ℕ, zero, suc, ◌+◌, ◌<◌, ◌≤◌, max, ◌≢◌, List, length, get_or, ap, ◌∙◌, ⊎_elim, add-one, arith}
use Rattle.std.proofs.lemmas.Bool.{cases_eq}
use Rattle.std.proofs.lemmas.Bool.Decides.{nat_tests}
use Rattle.theory.proofs.Sums.{total_mono}
use Rattle.plan.specs.declared.records.Point.{Point}
use Rattle.plan.specs.Content.{no_point}
use Rattle.figures.specs.Loads.{Rivals, no_rivals, part_of, demand_of}
use Rattle.figures.specs.Choices.{Stands}
use Rattle.figures.specs.Ceilings.{greatest, part_at, peak_of, top_of, ceiling_of}

pub greatest_more : (f : ℕ → ℕ) (n : ℕ) → greatest (n + 1) f ≡ max (greatest n f) (f n)
greatest_more f n = ap (λ k. greatest k f) (add-one n)

greatest_above : (f : ℕ → ℕ) (n j : ℕ) → j < n → f j ≤ greatest n f
greatest_above f zero j h = absurd (omega arith)
greatest_above f (suc n) j h = ⊎_elim (λ e. omega (arith, ap f e)) (λ ne. omega (arith, greatest_above f n j (omega arith))) (cases_eq j n)

module _ (points : List Point) (i : ℕ) (g : Rivals) (z u : ℕ) where
  pub part_other : (j : ℕ) → (get_or points j no_point).table ≢ i → part_at points i g z u j ≡ 0
  unfolding part_at
  part_other j ne = grind (arith, nat_tests)

  pub part_here : (j : ℕ) → (get_or points j no_point).table ≡ i → part_at points i g z u j ≡ part_of g (get_or points j no_point).position z u
  unfolding part_at
  part_here j e = grind (arith, nat_tests)

  peak_above : (q : ℕ) → Stands points i q → part_of g q z u ≤ peak_of points i g z u
  peak_above q s =
      let top = greatest_above (part_at points i g z u) (length points) s.0 s.1 in
      omega (arith, top, part_here s.0 s.2, ap (λ r. part_of g r z u) s.3)

module _ (points : List Point) (gs : List Rivals) (own q : ℕ) where
  pub top_own : (z u i : ℕ) → i ≡ own → top_of points gs own q z u i ≡ part_of (get_or gs i no_rivals) q z u
  unfolding top_of
  top_own z u i e = grind (arith, nat_tests)

  pub top_other : (z u i : ℕ) → i ≢ own → top_of points gs own q z u i ≡ peak_of points i (get_or gs i no_rivals) z u
  unfolding top_of
  top_other z u i ne = grind (arith, nat_tests)

  -- phases that stand at points, and the own phase, add no more than the ceiling
  pub ceiling_above : (φ : ℕ → ℕ) (x y : ℕ) → φ own ≡ q → ((i : ℕ) → i < length gs → i ≢ own → Stands points i (φ i)) → demand_of gs φ x y ≤ ceiling_of points gs own q (x + y) (x + 1)
  unfolding demand_of
  ceiling_above φ x y mine others =
      total_mono (length gs) _ _ (λ i lt.
      ⊎_elim
      (λ e. omega (arith, top_own (x + y) (x + 1) i e, ap (λ r. part_of (get_or gs i no_rivals) r (x + y) (x + 1)) (ap φ e ∙ mine)))
      (λ ne. omega (arith, top_other (x + y) (x + 1) i ne, peak_above points i (get_or gs i no_rivals) (x + y) (x + 1) (φ i) (others i lt ne)))
      (cases_eq i own))

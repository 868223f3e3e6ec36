-- The demand that the search counts is the demand of the theory, and so are the reaches. Assumes nothing.
use Rattle.std.proofs.Common.{◌≡◌, ℕ, zero, suc, ◌+◌, ◌-◌, ◌*◌, ◌<◌, cond, eqb, List, length, get_or, sym, ap, ◌∙◌, ⊎_elim, arith}
use Rattle.std.proofs.lemmas.Bool.{cases_eq}
use Rattle.std.proofs.lemmas.Bool.Decides.{nat_tests}
use Rattle.theory.specs.Counting.{total}
use Rattle.theory.specs.Plans.{Lawful}
use Rattle.theory.specs.Windows.{hits, share, demand, Reach}
use Rattle.theory.proofs.Sums.{total_cong, total_zero, total_swap}
use Rattle.theory.proofs.Clocks.{hits_by_division_lem}
use Rattle.plan.specs.Content.{Content, table_count}
use Rattle.analysis.specs.Bridge.{plan_of}
use Rattle.figures.specs.Loads.{Rivals, no_rivals, activations, part_of, demand_of}
use Rattle.figures.specs.Reaches.{ReachOf}
use Rattle.figures.specs.Grouped.{addition, Grouped}

-- of a sum in which all terms but one are 0, that one is left
total_only : (n m : ℕ) (f : ℕ → ℕ) → m < n → total n (λ i. cond (eqb m i) (f i) 0) ≡ f m
total_only zero m f h = absurd (omega arith)
total_only (suc n) m f h =
    ⊎_elim
    (λ e.
    let none : total n (λ i. cond (eqb m i) (f i) 0) ≡ 0 = total_zero n _ (λ i lt. grind (arith, nat_tests)) in
    let one : cond (eqb m n) (f n) 0 ≡ f n = grind (arith, nat_tests) in
    omega (arith, none, one, ap f e))
    (λ ne.
    let none : cond (eqb m n) (f n) 0 ≡ 0 = grind (arith, nat_tests) in
    omega (arith, none, total_only n m f (omega (arith, h, ne))))
    (cases_eq m n)

module _ (c : Content) (t : ℕ) (lawful : Lawful (plan_of c)) (gs : List Rivals) (grouped : Grouped c t gs) where
  pub demand_is : (φ : ℕ → ℕ) (x y : ℕ) → demand_of gs φ x y ≡ demand (plan_of c) t x φ y
  unfolding demand_of addition
  demand_is φ x y =
      let p = plan_of c in
      let f : ℕ → ℕ → ℕ = λ k i. p.cost k * share p (p.pr t) k (activations (p.dur i) (p.dur i - 1 - p.pos k) (φ i) (x + y)) (activations (p.dur i) (p.dur i - 1 - p.pos k) (φ i) (x + 1)) in
      let parts : total (length gs) (λ i. part_of (get_or gs i no_rivals) (φ i) (x + y) (x + 1)) ≡ total (table_count c) (λ i. part_of (get_or gs i no_rivals) (φ i) (x + y) (x + 1)) =
      ap (λ n. total n (λ i. part_of (get_or gs i no_rivals) (φ i) (x + y) (x + 1))) grouped.all in
      let sums : total (table_count c) (λ i. part_of (get_or gs i no_rivals) (φ i) (x + y) (x + 1)) ≡ total (table_count c) (λ i. total p.tasks (addition p t i (φ i) (x + y) (x + 1))) =
      total_cong (table_count c) _ _ (λ i lt. (grouped.each i lt).adds (φ i) (x + y) (x + 1)) in
      let swapped : total (table_count c) (λ i. total p.tasks (λ k. cond (eqb (p.tab k) i) (f k i) 0)) ≡ total p.tasks (λ k. total (table_count c) (λ i. cond (eqb (p.tab k) i) (f k i) 0)) =
      total_swap (table_count c) p.tasks (λ i k. cond (eqb (p.tab k) i) (f k i) 0) in
      let each : total p.tasks (λ k. total (table_count c) (λ i. cond (eqb (p.tab k) i) (f k i) 0)) ≡ demand p t x φ y =
      total_cong p.tasks _ _ (λ k lt.
      total_only (table_count c) (p.tab k) (f k) (lawful.table_in k lt)
      ∙ ap (λ n. p.cost k * share p (p.pr t) k n (activations (p.dur (p.tab k)) (p.dur (p.tab k) - 1 - p.pos k) (φ (p.tab k)) (x + 1))) (sym (hits_by_division_lem p φ k (x + y) (lawful.position_in k lt)))
      ∙ ap (λ n. p.cost k * share p (p.pr t) k (hits p φ k (x + y)) n) (sym (hits_by_division_lem p φ k (x + 1) (lawful.position_in k lt)))) in
      parts ∙ sums ∙ swapped ∙ each

  pub reach_to : (x : ℕ) (φ : ℕ → ℕ) (y : ℕ) → ReachOf gs x φ y → Reach (plan_of c) t x φ y
  reach_to x φ y r = record {
    some = r.some;
    ends = omega (arith, r.ends, demand_is φ x y);
    first = λ v one less. omega (arith, r.first v one less, demand_is φ x v);
  }

  pub reach_from : (x : ℕ) (φ : ℕ → ℕ) (y : ℕ) → Reach (plan_of c) t x φ y → ReachOf gs x φ y
  reach_from x φ y r = record {
    some = r.some;
    ends = omega (arith, r.ends, demand_is φ x y);
    first = λ v one less. omega (arith, r.first v one less, demand_is φ x v);
  }

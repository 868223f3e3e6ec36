-- Demand in a window: it never falls, and at the hyperperiod it is at most the work; so there is a reach. Assumes nothing.
use Rattle.std.proofs.Common.{◌≡◌, ℕ, suc, ◌+◌, ◌-◌, ◌*◌, ◌/◌, ◌%◌, ◌<◌, ◌≤◌, sym, ap, ◌∙◌, inl, inr, ⊎_elim, mod-lt, mul_assoc, mul-le-mul_left, arith}
use native.Mathlib.Nat.{mul-div_assoc, dvd_of_mod-eq-zero, div-mul_cancel, add-mul-div_right, div-eq_of_lt}
use Rattle.std.proofs.lemmas.Bool.{cases_lt}
use Rattle.theory.specs.Counting.{total}
use Rattle.theory.specs.Plans.{Plan, Lawful, period, work}
use Rattle.theory.specs.Windows.{hits, demand, Reach}
use Rattle.theory.specs.Theorems.{DemandRises, ReachExists, ReachUnique, ReachWithin, ReachBounded, ReachJumps, FigureUnique}
use Rattle.theory.proofs.Sums.{total_mono, total_cong, total_longer}
use Rattle.theory.proofs.Shares.{share_mono, share_within}
use Rattle.theory.proofs.Search.{find}
use Rattle.theory.proofs.Clocks.{hits_by_division_lem}

pub hits_rise : (p : Plan) (φ : ℕ → ℕ) (k y z : ℕ) → y ≤ z → hits p φ k y ≤ hits p φ k z
hits_rise p φ k y z h = total_longer y z _ h

pub demand_rises_lem : DemandRises
demand_rises_lem p t x φ y z h =
    total_mono p.tasks _ _ (λ k lt. mul-le-mul_left (p.cost k)
    (share_mono p (p.pr t) k _ _ _ _ (hits_rise p φ k (x + y) (x + z) (omega arith)) (hits_rise p φ k (x + 1) (x + 1) (omega arith))))

module _ (p : Plan) (lawful : Lawful p) where
  -- the hyperperiod is a whole number of rounds
  pub rounds : (k : ℕ) → k < p.tasks → p.hyper / period p k * period p k ≡ p.hyper
  rounds k lt = div-mul_cancel (period p k) (dvd_of_mod-eq-zero (period p k) (lawful.divides (p.tab k) (lawful.table_in k lt)))

  pub lasts : (k : ℕ) → k < p.tasks → 0 < period p k
  lasts k lt = lawful.lasts (p.tab k) (lawful.table_in k lt)

  -- in m hyperperiods a task is activated m times as often as there are rounds in one, from any phase
  pub hits_hyper : (φ : ℕ → ℕ) (k m : ℕ) → k < p.tasks → hits p φ k (m * p.hyper) ≡ m * (p.hyper / period p k)
  hits_hyper φ k m lt =
      let D = period p k in
      let h = p.hyper / D in
      let c = (φ (p.tab k) + (D - 1 - p.pos k)) % D in
      let e : m * p.hyper ≡ (m * h) * D = ap (λ n. m * n) (sym (rounds k lt)) ∙ sym (mul_assoc m h D) in
      let z : c / D ≡ 0 = div-eq_of_lt (mod-lt (φ (p.tab k) + (D - 1 - p.pos k)) (lasts k lt)) in
      hits_by_division_lem p φ k (m * p.hyper) (lawful.position_in k lt)
      ∙ ap (λ n. (c + n) / D) e ∙ add-mul-div_right c (m * h) (lasts k lt) ∙ omega (arith, z)

  pub hits_once : (φ : ℕ → ℕ) (k : ℕ) → k < p.tasks → hits p φ k p.hyper ≡ p.hyper / period p k
  hits_once φ k lt =
      let one : 1 * p.hyper ≡ p.hyper = omega arith in
      let once : 1 * (p.hyper / period p k) ≡ p.hyper / period p k = omega arith in
      ap (λ n. hits p φ k n) (sym one) ∙ hits_hyper φ k 1 lt ∙ once

  -- the work, with the division first
  pub work_is : work p ≡ total p.tasks (λ k. p.cost k * (p.hyper / period p k))
  work_is = total_cong p.tasks _ _ (λ k lt. mul-div_assoc (period p k) (p.cost k) (dvd_of_mod-eq-zero (period p k) (lawful.divides (p.tab k) (lawful.table_in k lt))))

  pub demand_within : (t x : ℕ) (φ : ℕ → ℕ) (y : ℕ) → x < p.hyper → x + y ≡ p.hyper → demand p t x φ y ≤ work p
  demand_within t x φ y early e =
      let le : demand p t x φ y ≤ total p.tasks (λ k. p.cost k * (p.hyper / period p k)) = total_mono p.tasks _ _ (λ k lt.
      mul-le-mul_left (p.cost k) (share_within p (p.pr t) k _ _ _
      (omega (arith, hits_once φ k lt, hits_rise p φ k (x + y) p.hyper (omega arith)))
      (omega (arith, hits_once φ k lt, hits_rise p φ k (x + 1) p.hyper (omega arith))))) in
      omega (arith, le, work_is)

  module _ (light : work p ≤ p.hyper) where
    met : (t x : ℕ) (φ : ℕ → ℕ) → x < p.hyper → demand p t x φ (p.hyper - x) ≤ x + (p.hyper - x)
    met t x φ early = omega (arith, demand_within t x φ (p.hyper - x) early (omega arith))

    pub reach : (t x : ℕ) (φ : ℕ → ℕ) → x < p.hyper → (y : ℕ) × Reach p t x φ y
    reach t x φ early =
        ⊎_elim
        (λ f. let first = f.1 in (
          f.0,
          record {
            some = first.has.0;
            ends = first.has.1;
            first = λ v pos less. ⊎_elim (λ lt. lt) (λ le. absurd (first.before v less (pos, le))) (cases_lt (x + v) (demand p t x φ v));
          },
        ))
        (λ none. absurd (none (p.hyper - x) (omega arith) (omega arith, met t x φ early)))
        (find (λ y. (1 ≤ y) × (demand p t x φ y ≤ x + y))
        (λ y. ⊎_elim (λ pos. ⊎_elim (λ lt. inr (λ h. absurd (omega (arith, h.1)))) (λ le. inl (pos, le)) (cases_lt (x + y) (demand p t x φ y))) (λ z. inr (λ h. absurd (omega (arith, h.0)))) (cases_lt 0 y))
        (suc p.hyper))

pub reach_exists_lem : ReachExists
reach_exists_lem p t x φ lawful light early = reach p lawful light t x φ early

pub reach_bounded_lem : ReachBounded
reach_bounded_lem p t x φ y v r one met = ⊎_elim (λ lt. absurd (omega (arith, r.first v one lt, met))) (λ le. le) (cases_lt v y)

pub reach_unique_lem : ReachUnique
reach_unique_lem p t x φ y z a b = omega (arith, reach_bounded_lem p t x φ y z a b.some b.ends, reach_bounded_lem p t x φ z y b a.some a.ends)

pub reach_within_lem : ReachWithin
reach_within_lem p t x φ y lawful light early r = omega (arith, reach_bounded_lem p t x φ y (p.hyper - x) r (omega arith) (met p lawful light t x φ early))

pub reach_jumps_lem : ReachJumps
reach_jumps_lem p t x φ y v r le = omega (arith, demand_rises_lem p t x φ v y le, r.ends)

pub figure_unique_lem : FigureUnique
figure_unique_lem p t f g a b =
    let u = a.attained in
    let v = b.attained in
    omega (arith, b.bounds u.0 u.1 f u.2 u.3, a.bounds v.0 v.1 g v.2 v.3)

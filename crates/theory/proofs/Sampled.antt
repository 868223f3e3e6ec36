-- The three small plans are what they are said to be, by computation; their runs are those that every plan has. Assumes nothing.
use Rattle.std.proofs.Common.{◌≡◌, ℕ, zero, suc, ◌+◌, ◌%◌, ◌<◌, ◌≤◌, Bool, eqb, refl, ⊎_elim, arith}
use Rattle.std.proofs.lemmas.Bool.{cases_lt}
use Rattle.theory.specs.Counting.{count}
use Rattle.theory.specs.Plans.{Lawful, work}
use Rattle.theory.specs.Windows.{turned, demand, Choice, Reach, Figure, Passes}
use Rattle.theory.specs.Samples.{two, sample, full, tight, heavy, together, HypothesesMet}
use Rattle.theory.proofs.Domination.{bit_single}
use Rattle.theory.proofs.Reaches.{reach_within_lem}
use Rattle.theory.proofs.Stepping.{steps_are_rounds_lem}
use Rattle.theory.proofs.Starts.{runs_exist_lem}

both : (P : ℕ → Type 0) → P 0 → P 1 → (k : ℕ) → k < 2 → P k
both P a b zero lt = a
both P a b (suc zero) lt = b
both P a b (suc (suc k)) lt = absurd (omega arith)

lawful : (c d : ℕ) → 1 ≤ c → c ≤ d → d ≤ 4 → Lawful (sample c d)
lawful c d one fit due = record {
  some = omega arith;
  lasts = both (λ i. 0 < two 2 4 i) (omega arith) (omega arith);
  divides = both (λ i. 4 % two 2 4 i ≡ 0) refl refl;
  busy = both (λ i. (k : ℕ) × (k < 2) × (two 0 1 k ≡ i)) (0, omega arith, refl) (1, omega arith, refl);
  table_in = both (λ k. two 0 1 k < 2) (omega arith) (omega arith);
  position_in = both (λ k. two 0 1 k < two 2 4 (two 0 1 k)) (omega arith) (omega arith);
  costs = both (λ k. 1 ≤ two 1 c k) (omega arith) one;
  fits = both (λ k. two 1 c k ≤ two 1 d k) (omega arith) fit;
  due = both (λ k. two 1 d k ≤ two 2 4 (two 0 1 k)) (omega arith) due;
}

choice : (c d : ℕ) → Choice (sample c d) 1 0 together
choice c d = record {
  early = omega arith;
  within = omega arith;
  meets = refl;
  others = both (λ i. (i ≡ 1 → ⊥) → (k : ℕ) × (k < 2) × (two 0 1 k ≡ i) × (together i ≡ two 0 1 k)) (λ ne. (0, omega arith, refl, refl)) (λ ne. absurd (ne refl));
}

-- the demand of task 1 from ticks 1 to 4 is 3, 3, 4 and 4
reach : (d : ℕ) → Reach (sample 2 d) 1 0 together 4
reach d = record { some = omega arith; ends = omega arith; first = first }
  where
    first : (v : ℕ) → 1 ≤ v → v < 4 → 0 + v < demand (sample 2 d) 1 0 together v
    first zero one lt = absurd (omega arith)
    first (suc zero) one lt = omega arith
    first (suc (suc zero)) one lt = omega arith
    first (suc (suc (suc zero))) one lt = omega arith
    first (suc (suc (suc (suc v)))) one lt = absurd (omega arith)

-- task 0 is the most urgent, alone on its level, and never waits
count_within : (z : ℕ) (p : ℕ → Bool) → count z p ≤ z
count_within zero p = omega arith
count_within (suc z) p = omega (arith, count_within z p, bit_single (p z))

figure_0 : Figure full 0 1
figure_0 = record {
  bounds = λ x φ y c r.
      ⊎_elim
      (λ more. absurd (omega (arith, r.first 1 (omega arith) more, count_within (x + 1) (λ τ. eqb (turned 2 (φ 0) τ) 0))))
      (λ le. le)
      (cases_lt 1 y);
  attained = (
    0,
    together,
    record {
      early = omega arith;
      within = omega arith;
      meets = refl;
      others = both (λ i. (i ≡ 0 → ⊥) → (k : ℕ) × (k < 2) × (two 0 1 k ≡ i) × (together i ≡ two 0 1 k)) (λ ne. absurd (ne refl)) (λ ne. (1, omega arith, refl, refl));
    },
    record { some = omega arith; ends = omega arith; first = λ v one lt. absurd (omega arith) },
  );
}

light : (d : ℕ) → work (sample 2 d) ≤ 4
light d = omega arith

figure_1 : Figure full 1 4
figure_1 = record {
  bounds = λ x φ y c r. omega (arith, reach_within_lem full 1 x φ y (lawful 2 4 (omega arith) (omega arith) (omega arith)) (light 4) c.early r);
  attained = (0, together, choice 2 4, reach 4);
}

passes : Passes full
passes = both (λ t. (f : ℕ) × Figure full t f × (f ≤ two 1 4 t)) (1, figure_0, omega arith) (4, figure_1, omega arith)

pub hypotheses_met : HypothesesMet
hypotheses_met =
    let lawful-full = lawful 2 4 (omega arith) (omega arith) (omega arith) in
    let lawful-tight = lawful 2 3 (omega arith) (omega arith) (omega arith) in
    let lawful-heavy = lawful 3 4 (omega arith) (omega arith) (omega arith) in
    let begun : (i : ℕ) → i < 2 → together i ≤ 1 = both (λ i. together i ≤ 1) (omega arith) (omega arith) in
    let r = runs_exist_lem full 1 together 1 lawful-full begun in
    let s = runs_exist_lem tight 1 together 1 lawful-tight begun in
    let u = runs_exist_lem heavy 0 (λ i. 0) 0 lawful-heavy (λ i inside. omega arith) in (
      (
        r.0,
        record {
          lawful = lawful-full;
          light = light 4;
          passes = passes;
          steps = r.1;
          rounds = steps_are_rounds_lem full r.0 r.1;
          serves = r.2 5;
          watches = r.3 5;
          choice = choice 2 4;
          reach = reach 4;
          figure = figure_1;
          turns = r.4 4;
        },
      ),
      (
        s.0,
        record {
          lawful = lawful-tight;
          light = light 3;
          steps = s.1;
          rounds = steps_are_rounds_lem tight s.0 s.1;
          serves = s.2 4;
          watches = s.3 4;
          choice = choice 2 3;
          reach = reach 3;
          late = omega arith;
          turns = s.4 3;
        },
      ),
      (u.0, record { lawful = lawful-heavy; over = omega arith; steps = u.1; rounds = steps_are_rounds_lem heavy u.0 u.1; serves = u.2 20; turns = u.4 20 }),
    )

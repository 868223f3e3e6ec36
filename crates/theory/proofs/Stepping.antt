-- A table that moves one position a tick, and begins anew no sooner than its duration allows, keeps the law of rounds. Assumes nothing.
use Rattle.std.proofs.Common.{◌≡◌, ℕ, zero, suc, ◌+◌, ◌<◌, true, inl, inr, ⊎_elim, arith}
use Rattle.std.proofs.lemmas.Bool.{cases_order}
use Rattle.theory.specs.Plans.{Plan}
use Rattle.theory.specs.Runs.{Run, Steps}
use Rattle.theory.specs.Theorems.{StepsAreRounds}

-- the tick in which the round began
began : (p : Plan) (r : Run) → Steps p r → (i q τ : ℕ) → i < p.tables → r.runs i τ q ≡ true → (b : ℕ) × (b + q ≡ τ) × (r.runs i b 0 ≡ true)
began p r s i zero τ lt h = (τ, omega arith, h)
began p r s i (suc q) zero lt h = absurd (s.begins i q lt h)
began p r s i (suc q) (suc τ) lt h = let e = began p r s i q τ lt (s.moves i τ q lt h) in (e.0, omega (arith, e.1), e.2)

pub steps_are_rounds_lem : StepsAreRounds
steps_are_rounds_lem p r s = record {
  within = s.within;
  apart = λ i τ q τ' q' lt a b le.
      let u = began p r s i q τ lt a in
      let v = began p r s i q' τ' lt b in
      let inside = s.within i τ' q' lt b in
      ⊎_elim
      (λ e. inl (omega (arith, e, u.1, v.1)))
      (λ ne.
      ⊎_elim
      (λ less. inr (omega (arith, u.1, v.1, s.again i u.0 v.0 lt u.2 v.2 less)))
      (λ more. absurd (omega (arith, u.1, v.1, s.again i v.0 u.0 lt v.2 u.2 more)))
      ne)
      (cases_order u.0 v.0);
}

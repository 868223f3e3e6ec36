-- A table that turns without pause: its steps, its own phase, and its arrivals counted by one division. Assumes nothing.
use Rattle.std.proofs.Common.{◌≡◌, ℕ, zero, suc, ◌+◌, ◌-◌, ◌*◌, ◌/◌, ◌%◌, ◌<◌, cond, eqb, ◌⊎◌, sym, ap, ◌∙◌, inl, inr, ⊎_elim, add-zero, add-suc, mod-lt, mod-eq_of_lt, add-mul, one-mul, zero-mul, arith}
use native.Mathlib.Nat.{suc-mod, mod_self, mod-add-mod, add-mod_right, add-mul-mod_self_left, div-add-mod, div-eq_of_lt-le, mod-eq-sub-mod}
use Rattle.std.proofs.lemmas.Bool.{cases_eq, cases_lt, eq-eqb, ne_eqb, cond-true, cond-false}
use Rattle.theory.specs.Counting.{count}
use Rattle.theory.specs.Plans.{period}
use Rattle.theory.specs.Windows.{turned}
use Rattle.theory.specs.Theorems.{HitsByDivision}

pub turned_below : (D φ τ : ℕ) → 0 < D → turned D φ τ < D
turned_below D φ τ h = mod-lt (φ + τ) h

pub turned_start : (D φ : ℕ) → φ < D → turned D φ 0 ≡ φ
turned_start D φ h = ap (λ n. n % D) (add-zero φ) ∙ mod-eq_of_lt h

-- a number below D, and one more: it steps or falls back
pub suc_turn : (D v : ℕ) → v < D → (suc v % D ≡ suc v) ⊎ ((suc v ≡ D) × (suc v % D ≡ 0))
suc_turn D v h = ⊎_elim (λ e. inr (e, ap (λ n. n % D) e ∙ mod_self D)) (λ ne. inl (mod-eq_of_lt (omega (arith, ne)))) (cases_eq (suc v) D)

pub turned_steps : (D φ τ : ℕ) → 0 < D → (turned D φ (suc τ) ≡ suc (turned D φ τ)) ⊎ ((suc (turned D φ τ) ≡ D) × (turned D φ (suc τ) ≡ 0))
turned_steps D φ τ h =
    let e : turned D φ (suc τ) ≡ suc (turned D φ τ) % D = ap (λ n. n % D) (add-suc φ τ) ∙ suc-mod (φ + τ) D in
    ⊎_elim (λ s. inl (e ∙ s)) (λ s. inr (s.0, e ∙ s.1)) (suc_turn D (turned D φ τ) (turned_below D φ τ h))

-- the phase that brings a table to position q in tick x
pub own_phase : ℕ → ℕ → ℕ → ℕ
own_phase D q x = (q + (D - x % D)) % D

pub own_phase_below : (D q x : ℕ) → 0 < D → own_phase D q x < D
unfolding own_phase
own_phase_below D q x h = mod-lt (q + (D - x % D)) h

pub own_phase_meets : (D q x : ℕ) → q < D → turned D (own_phase D q x) x ≡ q
unfolding own_phase
own_phase_meets D q x h =
    let d = div-add-mod x D in
    let m = mod-lt x {m = D} (omega arith) in
    let e : q + (D - x % D) + x ≡ (q + D) + D * (x / D) = omega (arith, d, m) in
    mod-add-mod (q + (D - x % D)) D x ∙ ap (λ n. n % D) e ∙ add-mul-mod_self_left (q + D) D (x / D) ∙ add-mod_right q D ∙ mod-eq_of_lt h

-- One clock shows v, another, D - 1 - q ticks ahead of it, shows u: the second falls back as the first leaves q.
Behind : (D q v u : ℕ) → Type 0
Behind D q v u = (u ≡ v + (D - 1 - q)) ⊎ (u + suc q ≡ v)

module _ (D q φ : ℕ) (below : q < D) where
  -- the second clock at the start of the window
  lead : ℕ
  lead = (φ + (D - 1 - q)) % D

  -- so often has the second clock fallen back, and so it stands, after z ticks
  Counted : ℕ → Type 0
  Counted z = (u : ℕ) × (u < D) × (lead + z ≡ count z (λ τ. eqb (turned D φ τ) q) * D + u) × Behind D q (turned D φ z) u

  counted : (z : ℕ) → Counted z
  unfolding Counted Behind lead
  counted zero =
      let v = φ % D in
      let vD = mod-lt φ {m = D} (omega arith) in
      let s : turned D φ 0 ≡ v = ap (λ n. n % D) (add-zero φ) in
      let m = mod-add-mod φ D (D - 1 - q) in
      let k : 0 * D ≡ 0 = zero-mul D in (
        lead,
        mod-lt (φ + (D - 1 - q)) (omega arith),
        omega (arith, k),
        ⊎_elim
            (λ lt. inl (omega (arith, sym m ∙ mod-eq_of_lt lt, s)))
            (λ le.
            let f : (v + (D - 1 - q)) % D ≡ v + (D - 1 - q) - D = mod-eq-sub-mod le ∙ mod-eq_of_lt (omega arith) in
            inr (omega (arith, f, m, s, vD)))
            (cases_lt (v + (D - 1 - q)) D),
      )
  counted (suc z) =
      let r = counted z in
      let u = r.0 in
      let n = count z (λ τ. eqb (turned D φ τ) q) in
      let v = turned_below D φ z (omega arith) in
      let st = turned_steps D φ z (omega arith) in
      ⊎_elim
      (λ here.
      let b : cond {A = ℕ} (eqb (turned D φ z) q) 1 0 ≡ 1 = cond-true _ 1 0 (eq-eqb _ _ here) in
      let full : suc u ≡ D = ⊎_elim (λ e. omega (arith, e, here, below)) (λ e. absurd (omega (arith, e, here))) r.3 in
      let m : (n + cond (eqb (turned D φ z) q) 1 0) * D ≡ n * D + D = ap (λ k. (n + k) * D) b ∙ add-mul n 1 D ∙ ap (λ k. n * D + k) (one-mul D) in (
        0,
        omega arith,
        omega (arith, m, r.2, full),
        ⊎_elim (λ s. inr (omega (arith, s, here))) (λ s. inl (omega (arith, s.0, s.1, here))) st,
      ))
      (λ off.
      let b : cond {A = ℕ} (eqb (turned D φ z) q) 1 0 ≡ 0 = cond-false _ 1 0 (ne_eqb _ _ off) in
      let m : (n + cond (eqb (turned D φ z) q) 1 0) * D ≡ n * D = ap (λ k. (n + k) * D) b ∙ ap (λ k. k * D) (add-zero n) in
      let less : suc u < D = ⊎_elim (λ e. omega (arith, e, below, off, r.1)) (λ e. omega (arith, e, v)) r.3 in (
        suc u,
        less,
        omega (arith, m, r.2),
        ⊎_elim
            (λ s. ⊎_elim (λ e. inl (omega (arith, s, e))) (λ e. inr (omega (arith, s, e))) r.3)
            (λ s. ⊎_elim (λ e. absurd (omega (arith, s.0, e, less, off))) (λ e. inl (omega (arith, s.0, s.1, e))) r.3)
            st,
      ))
      (cases_eq (turned D φ z) q)

  pub arrivals : (z : ℕ) → count z (λ τ. eqb (turned D φ τ) q) ≡ ((φ + (D - 1 - q)) % D + z) / D
  unfolding Counted lead
  arrivals z =
      let r = counted z in
      let n = count z (λ τ. eqb (turned D φ τ) q) in
      let m : (n + 1) * D ≡ n * D + D = add-mul n 1 D ∙ ap (λ k. n * D + k) (one-mul D) in
      sym (div-eq_of_lt-le D (omega (arith, r.2)) (omega (arith, m, r.1, r.2)))

pub hits_by_division_lem : HitsByDivision
hits_by_division_lem p φ k z h = arrivals (period p k) (p.pos k) (φ (p.tab k)) h z

-- Tables that are started once and then turn without pause: they step as a board's do, and turn with any phases from some tick on. Assumes nothing.
use Rattle.std.proofs.Common.{◌≡◌, ℕ, suc, ◌+◌, ◌-◌, ◌/◌, ◌%◌, ◌<◌, ◌≤◌, Bool, true, ◌&&◌, eqb, leb, sym, ap, ◌∙◌, ⊎_elim, mod-lt, mul-le-mul_left, mul-suc, arith}
use native.Mathlib.Nat.{div-add-mod, zero-mod, suc-mod}
use Rattle.std.proofs.lemmas.Bool.{cases_eq, cases_lt, eq-eqb, eqb-true, le-leb, leb-true, and_parts, and_from}
use Rattle.theory.specs.Plans.{Plan, Lawful}
use Rattle.theory.specs.Windows.{turned}
use Rattle.theory.specs.Runs.{Run, Steps, Turns}
use Rattle.theory.specs.Theorems.{RunsExist}
use Rattle.theory.proofs.Clocks.{suc_turn}
use Rattle.theory.proofs.Machine.{service_exists_lem}

-- table i begins its first round in tick b i
started : Plan → (ℕ → ℕ) → ℕ → ℕ → ℕ → Bool
started p b i τ q = leb (b i) τ && eqb ((τ - b i) % p.dur i) q

module _ (p : Plan) (b : ℕ → ℕ) (i : ℕ) where
  begun : (τ q : ℕ) → started p b i τ q ≡ true → (b i ≤ τ) × ((τ - b i) % p.dur i ≡ q)
  unfolding started
  begun τ q e = let h = and_parts _ _ e in (leb-true _ _ h.0, eqb-true _ _ h.1)

  begins : (τ q : ℕ) → b i ≤ τ → (τ - b i) % p.dur i ≡ q → started p b i τ q ≡ true
  unfolding started
  begins τ q le e = and_from _ _ (le-leb _ _ le) (eq-eqb _ _ e)

  not_before : (τ q : ℕ) → started p b i τ (suc q) ≡ true → b i < τ
  not_before τ q e =
      let h = begun τ (suc q) e in
      ⊎_elim
      (λ same. let z : τ - b i ≡ 0 = omega arith in absurd (omega (arith, h.1, ap (λ n. n % p.dur i) z, zero-mod (p.dur i))))
      (λ ne. omega (arith, h.0, ne))
      (cases_eq (b i) τ)

module _ (p : Plan) (lawful : Lawful p) (b : ℕ → ℕ) (r : Run) (same : (i τ q : ℕ) → r.runs i τ q ≡ started p b i τ q) where
  as_started : (i τ q : ℕ) → r.runs i τ q ≡ true → started p b i τ q ≡ true
  as_started i τ q e = sym (same i τ q) ∙ e

  steps : Steps p r
  steps = record {
    within = λ i τ q inside e. omega (arith, (begun p b i τ q (as_started i τ q e)).1, mod-lt (τ - b i) (lawful.lasts i inside));
    begins = λ i q inside e. absurd (omega (arith, not_before p b i 0 q (as_started i 0 (suc q) e)));
    moves = λ i τ q inside e.
        let D = p.dur i in
        let h = begun p b i (suc τ) (suc q) (as_started i (suc τ) (suc q) e) in
        let later = not_before p b i (suc τ) q (as_started i (suc τ) (suc q) e) in
        let one : suc τ - b i ≡ suc (τ - b i) = omega arith in
        let m : suc ((τ - b i) % D) % D ≡ suc q = sym (suc-mod (τ - b i) D) ∙ sym (ap (λ n. n % D) one) ∙ h.1 in
        let at-q : (τ - b i) % D ≡ q = ⊎_elim (λ up. omega (arith, up, m)) (λ down. absurd (omega (arith, down.1, m))) (suc_turn D ((τ - b i) % D) (mod-lt (τ - b i) (lawful.lasts i inside))) in
        same i τ q ∙ begins p b i τ q (omega arith) at-q;
    again = λ i τ τ' inside e e' lt.
        let D = p.dur i in
        let h = begun p b i τ 0 (as_started i τ 0 e) in
        let h' = begun p b i τ' 0 (as_started i τ' 0 e') in
        let u = div-add-mod (τ - b i) D in
        let u' = div-add-mod (τ' - b i) D in
        let a = (τ - b i) / D in
        let a' = (τ' - b i) / D in
        ⊎_elim
        (λ less. omega (arith, u, u', h.0, h.1, h'.0, h'.1, mul-suc D a, mul-le-mul_left {m = suc a} {n = a'} D less))
        (λ ge. absurd (omega (arith, u, u', h.0, h.1, h'.0, h'.1, lt, mul-le-mul_left {m = a'} {n = a} D ge)))
        (cases_lt a a');
  }

-- begun φ i ticks before tick s, table i is at φ i in it
turns : (p : Plan) (φ : ℕ → ℕ) (s : ℕ) (r : Run) → ((i : ℕ) → i < p.tables → φ i ≤ s) → ((i τ q : ℕ) → r.runs i τ q ≡ started p (λ i. s - φ i) i τ q) → (n : ℕ) → Turns p r s φ n
turns p φ s r soon same n i z inside lt =
    let le = soon i inside in
    let e : s + z - (s - φ i) ≡ φ i + z = omega arith in
    same i (s + z) (turned (p.dur i) (φ i) z) ∙ begins p (λ i. s - φ i) i (s + z) (turned (p.dur i) (φ i) z) (omega arith) (ap (λ m. m % p.dur i) e)

pub runs_exist_lem : RunsExist
runs_exist_lem p t φ s lawful soon =
    let m = service_exists_lem p t (started p (λ i. s - φ i)) in
    (m.0, steps p lawful (λ i. s - φ i) m.0 m.1, m.2, m.3, turns p φ s m.0 soon m.1)

-- Sums over the numbers below a bound. Assumes nothing.
use Rattle.std.proofs.Common.{◌≡◌, ℕ, zero, suc, ◌+◌, ◌-◌, ◌*◌, ◌<◌, ◌≤◌, sym, refl, ap, ⊎_elim, le_refl, add-zero, add-suc, mul-zero, mul-add, arith}
use Rattle.std.proofs.lemmas.Bool.{cases_eq, cases_lt}
use Rattle.theory.specs.Counting.{total}

pub total_cong : (n : ℕ) (f g : ℕ → ℕ) → ((k : ℕ) → k < n → f k ≡ g k) → total n f ≡ total n g
total_cong zero f g h = refl
total_cong (suc n) f g h = omega (arith, total_cong n f g (λ k lt. h k (omega arith)), h n (le_refl (suc n)))

pub total_mono : (n : ℕ) (f g : ℕ → ℕ) → ((k : ℕ) → k < n → f k ≤ g k) → total n f ≤ total n g
total_mono zero f g h = omega arith
total_mono (suc n) f g h = omega (arith, total_mono n f g (λ k lt. h k (omega arith)), h n (le_refl (suc n)))

pub total_zero : (n : ℕ) (f : ℕ → ℕ) → ((k : ℕ) → k < n → f k ≡ 0) → total n f ≡ 0
total_zero zero f h = refl
total_zero (suc n) f h = omega (arith, total_zero n f (λ k lt. h k (omega arith)), h n (le_refl (suc n)))

pub total_add : (n : ℕ) (f g : ℕ → ℕ) → total n (λ k. f k + g k) ≡ total n f + total n g
total_add zero f g = refl
total_add (suc n) f g = omega (arith, total_add n f g)

pub total_scale : (n c : ℕ) (f : ℕ → ℕ) → total n (λ k. c * f k) ≡ c * total n f
total_scale zero c f = sym (mul-zero c)
total_scale (suc n) c f = omega (arith, total_scale n c f, mul-add c (total n f) (f n))

-- two sums may be exchanged
pub total_swap : (n m : ℕ) (f : ℕ → ℕ → ℕ) → total n (λ j. total m (λ k. f j k)) ≡ total m (λ k. total n (λ j. f j k))
total_swap zero m f = sym (total_zero m (λ k. 0) (λ k lt. refl))
total_swap (suc n) m f = omega (arith, total_swap n m f, total_add m (λ k. total n (λ j. f j k)) (λ k. f n k))

-- a sum splits at any place
pub total_split : (m n : ℕ) (f : ℕ → ℕ) → total (m + n) f ≡ total m f + total n (λ j. f (m + j))
total_split m zero f = omega (arith, ap (λ k. total k f) (add-zero m))
total_split m (suc n) f = omega (arith, total_split m n f, ap (λ k. total k f) (add-suc m n))

pub total_first : (n : ℕ) (f : ℕ → ℕ) → total (suc n) f ≡ f 0 + total n (λ j. f (suc j))
total_first zero f = omega arith
total_first (suc n) f = omega (arith, total_first n f)

pub total_longer : (m n : ℕ) (f : ℕ → ℕ) → m ≤ n → total m f ≤ total n f
total_longer m n f h =
    let e : m + (n - m) ≡ n = omega arith in
    omega (arith, total_split m (n - m) f, ap (λ k. total k f) e)

-- a sum may be taken from its end
pub total_reversed : (x : ℕ) (f : ℕ → ℕ) → total (suc x) f ≡ total (suc x) (λ j. f (x - j))
total_reversed zero f = refl
total_reversed (suc x) f =
    let a = total_reversed x f in
    let b = total_first (suc x) (λ j. f (suc x - j)) in
    let c : total (suc x) (λ j. f (suc x - suc j)) ≡ total (suc x) (λ j. f (x - j)) = total_cong (suc x) _ _ (λ j lt. ap f (omega arith)) in
    let d : f (suc x - 0) ≡ f (suc x) = ap f (omega arith) in
    omega (arith, a, b, c, d)

pub total_one : (n : ℕ) (f : ℕ → ℕ) (j : ℕ) → j < n → f j ≤ total n f
total_one zero f j h = absurd (omega arith)
total_one (suc n) f j h = ⊎_elim (λ e. omega (arith, ap f e)) (λ ne. omega (arith, total_one n f j (omega arith))) (cases_eq j n)

-- where one term is greater and no term is less, the sum is greater
pub total_strict : (n : ℕ) (f g : ℕ → ℕ) (j : ℕ) → j < n → ((k : ℕ) → k < n → f k ≤ g k) → f j < g j → total n f < total n g
total_strict zero f g j h le lt = absurd (omega arith)
total_strict (suc n) f g j h le lt =
    ⊎_elim
    (λ e. omega (arith, ap f e, ap g e, total_mono n f g (λ k s. le k (omega arith))))
    (λ ne. omega (arith, total_strict n f g j (omega arith) (λ k s. le k (omega arith)) lt, le n (le_refl (suc n))))
    (cases_eq j n)

-- where one term is at most one less and no other is less, the sum is at most one less
pub total_but_one : (n : ℕ) (f g : ℕ → ℕ) (j : ℕ) → ((k : ℕ) → k < n → (k ≡ j → ⊥) → f k ≤ g k) → (j < n → f j ≤ suc (g j)) → total n f ≤ suc (total n g)
total_but_one zero f g j le one = omega arith
total_but_one (suc n) f g j le one =
    ⊎_elim
    (λ e. omega (arith, total_mono n f g (λ k s. le k (omega arith) (λ q. absurd (omega arith))), ap f e, ap g e, one (omega arith)))
    (λ ne. omega (arith, total_but_one n f g j (λ k s. le k (omega arith)) (λ s. one (omega arith)), le n (le_refl (suc n)) (λ q. ne (sym q))))
    (cases_eq j n)

-- a sum that is not 0 has a term that is not
pub total_some : (n : ℕ) (f : ℕ → ℕ) → 1 ≤ total n f → (k : ℕ) × (k < n) × (1 ≤ f k)
total_some zero f h = absurd (omega arith)
total_some (suc n) f h =
    ⊎_elim
    (λ s. (n, le_refl (suc n), s))
    (λ s. let r = total_some n f (omega arith) in (r.0, omega (arith, r.1), r.2))
    (cases_lt 0 (f n))

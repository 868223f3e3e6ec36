-- What `each`, `total` and `least` tell of the numbers below a bound. Assumes nothing.
use Rattle.std.proofs.Common.{◌≡◌, ℕ, zero, suc, ◌+◌, ◌<◌, ◌≤◌, Bool, true, false, cond, ◌&&◌, List, [], ◌∷◌, length, get_or, sym, refl, ap, ◌∙◌, subst, ⊎_elim, add-one, arith}
use Rattle.std.proofs.lemmas.Bool.{and_parts, and_from, and_cases, cases_eq, cases_Bool, both_ways}
use Rattle.std.specs.List.{sum_by, list_all}
use Rattle.std.proofs.Math.Bool.{and-true, and_assoc}
use Rattle.std.proofs.lemmas.List.Sums.{sum_by-cons}
use Rattle.theory.specs.Counting.{each, total, or_else, least}

pub total_more : (f : ℕ → ℕ) (n : ℕ) → total (n + 1) f ≡ total n f + f n
total_more f n = ap (λ k. total k f) (add-one n)

-- the number at 0 may also come first
total_first : (n : ℕ) (f : ℕ → ℕ) → total (suc n) f ≡ f 0 + total n (λ k. f (suc k))
total_first zero f = omega arith
total_first (suc n) f = omega (arith, total_first n f)

each_first : (n : ℕ) (p : ℕ → Bool) → each (suc n) p ≡ (p 0 && each n (λ k. p (suc k)))
each_first zero p = sym (and-true (p 0))
each_first (suc n) p = ap (λ b. b && p (suc n)) (each_first n p) ∙ and_assoc (p 0) (each n (λ k. p (suc k))) (p (suc n))

-- over the places of a list: the list's own sum, and its own test
module _ {X : Type 0} (d : X) where
  pub total_list : (f : X → ℕ) (xs : List X) → total (length xs) (λ k. f (get_or xs k d)) ≡ sum_by f xs
  total_list f [] = refl
  total_list f (x ∷ xs) = omega (arith, total_first (length xs) (λ k. f (get_or (x ∷ xs) k d)), total_list f xs, sum_by-cons f x xs)

  pub each_list : (p : X → Bool) (xs : List X) → each (length xs) (λ k. p (get_or xs k d)) ≡ list_all p xs
  each_list p [] = refl
  each_list p (x ∷ xs) = each_first (length xs) (λ k. p (get_or (x ∷ xs) k d)) ∙ ap (λ b. p x && b) (each_list p xs)

module _ (p : ℕ → Bool) where
  pub each_at : (n k : ℕ) → k < n → each n p ≡ true → p k ≡ true
  each_at zero k h e = absurd (omega arith)
  each_at (suc n) k h e =
      let both = and_parts (each n p) (p n) e in
      ⊎_elim (λ same. subst (λ i. p i ≡ true) (sym same) both.1) (λ other. each_at n k (omega arith) both.0) (cases_eq k n)

  pub each_from : (n : ℕ) → ((k : ℕ) → k < n → p k ≡ true) → each n p ≡ true
  each_from zero h = refl
  each_from (suc n) h = and_from (each n p) (p n) (each_from n (λ k lt. h k (omega arith))) (h n (omega arith))

  pub each_fails : (n k : ℕ) → k < n → p k ≡ false → each n p ≡ false
  each_fails n k lt f = ⊎_elim (λ t. absurd (both_ways (p k) f (each_at n k lt t))) (λ e. e) (cases_Bool (each n p))

  -- and where each does not pass, one fails
  pub each_misses : (n : ℕ) → each n p ≡ false → (k : ℕ) × (k < n) × (p k ≡ false)
  each_misses zero e = absurd (both_ways true e refl)
  each_misses (suc n) e =
      ⊎_elim
      (λ before. let r = each_misses n before in (r.0, omega (arith, r.1), r.2))
      (λ last. (n, omega arith, last))
      (and_cases (each n p) (p n) e)

  or_else_zero : (a b : ℕ) → or_else a b ≡ 0 → (a ≡ 0) × (b ≡ 0)
  or_else_zero zero b e = (refl, e)
  or_else_zero (suc a) b e = absurd (omega (arith, e))

  cond_zero : (b : Bool) (n : ℕ) → cond b (suc n) 0 ≡ 0 → b ≡ false
  cond_zero true n e = absurd (omega (arith, e))
  cond_zero false n e = refl

  pub least_none_at : (n k : ℕ) → least n p ≡ 0 → 0 < k → k ≤ n → p k ≡ false
  unfolding least
  least_none_at zero k e pos le = absurd (omega arith)
  least_none_at (suc n) k e pos le =
      let both = or_else_zero (least n p) (cond (p (suc n)) (suc n) 0) e in
      ⊎_elim (λ same. subst (λ i. p i ≡ false) (sym same) (cond_zero (p (suc n)) n both.1)) (λ other. least_none_at n k both.0 pos (omega arith)) (cases_eq k (suc n))

  -- h lies in range and passes, and nothing below it passes
  pub record Least (n h : ℕ) : Type 0 where
    pub bound : h ≤ n
    pub passes : p h ≡ true
    pub first : (k : ℕ) → 0 < k → k < h → p k ≡ false

  least_here : (n h : ℕ) (b : Bool) → p (suc n) ≡ b → least n p ≡ 0 → cond b (suc n) 0 ≡ h → 0 < h → Least (suc n) h
  least_here n h true q none same pos =
      record { bound = omega (arith, same); passes = subst (λ i. p i ≡ true) same q; first = λ k kp lt. least_none_at n k none kp (omega (arith, same)) }
  least_here n h false q none same pos = absurd (omega (arith, same))

  least_step : (n h l : ℕ) → least n p ≡ l → (least n p ≡ h → Least n h) → or_else l (cond (p (suc n)) (suc n) 0) ≡ h → 0 < h → Least (suc n) h
  least_step n h zero none before e pos = least_here n h (p (suc n)) refl none e pos
  least_step n h (suc l) some before e pos =
      let b = before (some ∙ e) in
      record { bound = omega (arith, b.bound); passes = b.passes; first = b.first }

  pub least_is : (n h : ℕ) → least n p ≡ h → 0 < h → Least n h
  unfolding least
  least_is zero h e pos = absurd (omega (arith, e))
  least_is (suc n) h e pos = least_step n h (least n p) refl (λ q. least_is n h q pos) e pos

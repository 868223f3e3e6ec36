-- Tests, sums and searches over the numbers below a bound. Assumes nothing.
use Rattle.std.specs.Prelude.{ℕ, zero, suc, ◌+◌, Bool, true, cond, ◌&&◌, nat_le}

-- n lies from low to high
abbrev pub in_range : ℕ → ℕ → ℕ → Bool
in_range low high n = nat_le low n && nat_le n high

-- p holds of each number below n
abbrev pub each : ℕ → (ℕ → Bool) → Bool
each zero p = true
each (suc n) p = each n p && p n

-- the sum of f over the numbers below n
abbrev pub total : ℕ → (ℕ → ℕ) → ℕ
total zero f = 0
total (suc n) f = total n f + f n

-- how many numbers below n p holds of
abbrev pub count : ℕ → (ℕ → Bool) → ℕ
count n p = total n (λ k. cond (p k) 1 0)

-- the first that is not 0
abbrev pub or_else : ℕ → ℕ → ℕ
or_else zero b = b
or_else (suc a) b = suc a

-- the least number from 1 to n that p holds of, or 0 if there is none
unfoldable pub least : ℕ → (ℕ → Bool) → ℕ
least zero p = 0
least (suc n) p = or_else (least n p) (cond (p (suc n)) (suc n) 0)

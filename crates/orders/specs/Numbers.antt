-- The number that a word spells. Assumes nothing.
use Rattle.std.specs.Prelude.{ℕ, ◌+◌, ◌-◌, ◌*◌, ◌^◌, min, Bool, true, cond, ◌&&◌, List, [], ◌∷◌, Some, None, Option, nat_le}

-- A byte is a decimal digit, from 0 to 9.
abbrev pub digit : ℕ → Bool
digit b = nat_le 48 b && nat_le b 57

-- Each byte is a decimal digit.
abbrev pub all_digits : List ℕ → Bool
all_digits [] = true
all_digits (b ∷ bs) = digit b && all_digits bs

-- The value of the digits bs that follow the digits of n.
abbrev pub value_after : ℕ → List ℕ → ℕ
value_after n [] = n
value_after n (b ∷ bs) = value_after (n * 10 + (b - 48)) bs

-- The largest number that an order can hold.
abbrev pub greatest : ℕ
greatest = 2 ^ 64 - 1

-- The number that a word spells: one or more digits, taken as the largest number where their value is larger.
abbrev pub number_of : List ℕ → Option ℕ
number_of [] = None
number_of (b ∷ bs) = cond (all_digits (b ∷ bs)) (Some (min (value_after 0 (b ∷ bs)) greatest)) None

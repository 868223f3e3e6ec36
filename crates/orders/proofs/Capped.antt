-- The value of a number's digits, which stops at the largest number.
use Rattle.std.proofs.Common.{◌≡◌, ℕ, ◌+◌, ◌-◌, ◌*◌, ◌≢◌, min, Bool, true, false, cond, ◌&&◌, List, [], ◌∷◌, length, Option, Some, None, option_and_then, sym, refl, ap, ◌∙◌, arith}
use Rattle.std.proofs.lemmas.Bool.{cond-true}
use Rattle.orders.proofs.TryFold.{try_fold}
use Rattle.orders.specs.Numbers.{digit, all_digits, value_after, greatest, number_of}

-- a number with one more digit, as the code makes it
abbrev pub capped : ℕ → ℕ → ℕ
capped n d = min (n * 10 + d) greatest

-- two values that are the same up to the largest number stay so with more digits
capped_same : (bs : List ℕ) (m n : ℕ) → min m greatest ≡ min n greatest → min (value_after m bs) greatest ≡ min (value_after n bs) greatest
capped_same [] m n e = e
capped_same (b ∷ bs) m n e = capped_same bs (m * 10 + (b - 48)) (n * 10 + (b - 48)) (omega arith)

-- a number with one more byte, if that is a digit
abbrev pub with_digit : ℕ → ℕ → Option ℕ
with_digit n b = cond (digit b) (Some (capped n (b - 48))) None

with_digits : (bs : List ℕ) (n : ℕ) → n ≡ min n greatest → try_fold with_digit n bs ≡ cond (all_digits bs) (Some (min (value_after n bs) greatest)) None
with_digits [] n e = ap (λ (x : ℕ). Some x) e
with_digits (b ∷ bs) n e =
    by (digit b)
    (with_digits bs (capped n (b - 48)) (omega arith)
    ∙ ap (λ (x : ℕ). cond (all_digits bs) (Some x) None) (capped_same bs (capped n (b - 48)) (n * 10 + (b - 48)) (omega arith)))
  where
    by : (t : Bool) → try_fold with_digit (capped n (b - 48)) bs ≡ cond (all_digits bs) (Some (min (value_after (n * 10 + (b - 48)) bs) greatest)) None
        → option_and_then (λ m. try_fold with_digit m bs) (cond t (Some (capped n (b - 48))) None) ≡ cond (t && all_digits bs) (Some (min (value_after (n * 10 + (b - 48)) bs) greatest)) None
    by true h = h
    by false h = refl

pub number_some : (xs : List ℕ) (n : ℕ) → length xs ≢ 0 → all_digits xs ≡ true → n ≡ min (value_after 0 xs) greatest → Some n ≡ number_of xs
number_some [] n h e v = absurd (h refl)
number_some (b ∷ bs) n h e v =
    ap (λ (x : ℕ). Some x) v ∙ sym (cond-true (all_digits (b ∷ bs)) (Some (min (value_after 0 (b ∷ bs)) greatest)) None e)

-- the answers of the code
pub number_if_empty : (xs : List ℕ) → length xs ≡ 0 → None ≡ number_of xs
number_if_empty [] e = refl
number_if_empty (b ∷ bs) e = let none : ⊥ = omega (arith, e) in absurd none

pub number_by_digits : (xs : List ℕ) (r : Option ℕ) → length xs ≢ 0 → r ≡ try_fold with_digit 0 xs → r ≡ number_of xs
number_by_digits [] r h e = absurd (h refl)
number_by_digits (b ∷ bs) r h e = e ∙ with_digits (b ∷ bs) 0 refl

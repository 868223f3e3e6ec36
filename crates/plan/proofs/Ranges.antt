-- What an inclusive range of numbers yields, and what a search from 1 up finds. Assumes nothing.
use Rattle.std.proofs.Common.{◌≡◌, ℕ, zero, suc, ◌+◌, ◌-◌, Bool, true, false, cond, ltb, List, [], ◌∷◌, ◌++◌, Some, None, sym, refl, ap, ◌∙◌, add-one, arith}
use Rattle.std.specs.Bool.{then_some}
use Rattle.std.specs.Option.{option_or}
use Rattle.std.specs.List.{range_with_len, find}
use Rattle.std.specs.declared.ops.RangeInclusive.{RangeInclusive}
use Rattle.std.specs.Range.{range_inclusive_start, range_inclusive_end, range_inclusive_exhausted, range_inclusive_len}
use Rattle.std.proofs.lemmas.Iterator.{YieldsList}
use Rattle.std.proofs.lemmas.Iterator.Consumers.{YieldsList-from_shown}
use Rattle.std.proofs.lemmas.Bool.{lt-ltb}
use Rattle.std.proofs.lemmas.List.Folds.{find-append}
use Rattle.std.proofs.lemmas.List.FromFn.{length-range_with_len}
use Rattle.std.proofs.iter.runs.Sources.{nat_range_inclusive_steps}
use Rattle.theory.specs.Counting.{or_else, least}

-- how many numbers a range has left, and which
abbrev count_left : RangeInclusive ℕ → ℕ
count_left s = range_inclusive_len (λ x y. y - x) (range_inclusive_start s) (range_inclusive_end s) (range_inclusive_exhausted s)

abbrev left : RangeInclusive ℕ → List ℕ
left s = range_with_len (range_inclusive_start s) (count_left s)

left_next : (s : RangeInclusive ℕ) (x : ℕ) (t : RangeInclusive ℕ) → nat_range_inclusive_steps s (Some x) t → left s ≡ x ∷ left t
left_next s x t e = rw (sym e.1.1, add-one (count_left t), sym e.1.0) (ap (λ l. x ∷ l) (after (range_inclusive_exhausted t) refl))
  where
    after : (b : Bool) → range_inclusive_exhausted t ≡ b → range_with_len (x + 1) (count_left t) ≡ left t
    after true spent = rw spent refl
    after false more = ap (λ a. range_with_len a (count_left t)) (omega (arith, e.1.0, e.1.2 more))

pub YieldsList-from_1_to : (n : ℕ) (s : RangeInclusive ℕ) → range_inclusive_start s ≡ 1 → range_inclusive_end s ≡ n → range_inclusive_exhausted s ≡ false → YieldsList nat_range_inclusive_steps (λ x. x) s (range_with_len 1 n)
YieldsList-from_1_to n s a b e =
    let count : count_left s ≡ n = rw (a, b, e) (omega arith) in
    let all : left s ≡ range_with_len 1 n = rw (count, a) refl in
    rw (← all) (YieldsList-from_shown nat_range_inclusive_steps (λ x. x) left (λ s t e. length-range_with_len _ _ ∙ e.1.0) left_next s)

range_more : (n a last : ℕ) → a + n ≡ last → range_with_len a (suc n) ≡ range_with_len a n ++ last ∷ []
range_more zero a last e = ap (λ x. x ∷ []) (omega (arith, e))
range_more (suc n) a last e = ap (λ l. a ∷ l) (range_more n (a + 1) last (omega (arith, e)))

-- the first number from 1 to n that passes is the least
pub find_least : (p : ℕ → Bool) (n : ℕ) → find p (range_with_len 1 n) ≡ then_some (ltb 0 (least n p)) (least n p)
unfolding least
find_least p zero = refl
find_least p (suc n) =
    ap (find p) (range_more n 1 (suc n) (omega arith)) ∙ find-append p (range_with_len 1 n) (suc n ∷ []) ∙ rw (find_least p n) (last (least n p) (p (suc n)))
  where
    last : (l : ℕ) (b : Bool) → option_or (then_some (ltb 0 l) l) (cond b (Some (suc n)) None) ≡ then_some (ltb 0 (or_else l (cond b (suc n) 0))) (or_else l (cond b (suc n) 0))
    last zero true = rw (lt-ltb 0 (suc n) (omega arith)) refl
    last zero false = refl
    last (suc l) b = rw (lt-ltb 0 (suc l) (omega arith)) refl

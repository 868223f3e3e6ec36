-- A search among the multiples of a number, and the longest of some durations. Assumes nothing.
use Rattle.std.proofs.Common.{◌≡◌, ℕ, zero, suc, ◌+◌, ◌*◌, ◌/◌, ◌%◌, ◌<◌, ◌≤◌, max, Bool, true, false, cond, ltb, Some, List, [], ◌∷◌, length, get_or, map, option_map, sym, refl, ap, ◌∙◌, subst, ⊎_elim, le_refl, mul-pos, mul-le-mul, div-mul-le_self, arith}
use Rattle.std.specs.Bool.{then_some}
use Rattle.std.specs.List.{range_with_len, find, fold, list_all, All}
use Rattle.std.proofs.Math.Nat.{mod-one}
use Rattle.std.proofs.lemmas.Nat.{div-add-mod', le-div}
use Rattle.std.proofs.lemmas.Bool.{lt-ltb, and_parts, both_ways, cases_lt, eqb-true}
use Rattle.std.proofs.lemmas.List.Elements.{All-nil, All-cons}
use Rattle.std.proofs.lemmas.List.FromFn.{length-range_with_len, get_or-range_with_len}
use Rattle.theory.specs.Counting.{least}
use Rattle.plan.specs.declared.records.Table.{Table}
use Rattle.plan.specs.Content.{no_table}
use Rattle.plan.specs.Rules.{divides, common_to}
use Rattle.plan.proofs.Counted.{each_list, least_none_at, least_is}
use Rattle.plan.proofs.Ranges.{find_least}

find_map : {X Y : Type 0} (p : Y → Bool) (f : X → Y) (xs : List X) → find p (map f xs) ≡ option_map f (find (λ x. p (f x)) xs)
find_map p f [] = refl
find_map p f (x ∷ xs) = first (p (f x)) (find_map p f xs)
  where
    first : (b : Bool) → find p (map f xs) ≡ option_map f (find (λ y. p (f y)) xs) → cond b (Some (f x)) (find p (map f xs)) ≡ option_map f (cond b (Some x) (find (λ y. p (f y)) xs))
    first true e = refl
    first false e = e

-- d times a factor that the range yields is within the limit
pub product_small : (limit d x k : ℕ) → k < length (range_with_len 1 (limit / d)) → x ≡ get_or (range_with_len 1 (limit / d)) k x → x * d ≤ limit
product_small limit d x k lt e =
    let n = limit / d in
    let at : k < n = omega (arith, lt, length-range_with_len 1 n) in
    let is : x ≡ 1 + k = e ∙ get_or-range_with_len 1 n k x at in
    let le : x * d ≤ n * d = mul-le-mul (omega (arith, is, at)) (le_refl d) in
    omega (arith, le, div-mul-le_self limit d)

-- d is above 0, and only its multiples pass
module _ (p : ℕ → Bool) (d : ℕ) (positive : 0 < d) (only : (h : ℕ) → p h ≡ true → h % d ≡ 0) where
  abbrev at : ℕ → Bool
  at k = p (k * d)

  whole : (h : ℕ) → p h ≡ true → h / d * d ≡ h
  whole h e = omega (arith, div-add-mod' h d, only h e)

  factor_some : (h l : ℕ) → h ≡ l * d → 0 < h → 0 < l
  factor_some h zero e pos = absurd (omega (arith, e, pos))
  factor_some h (suc l) e pos = omega arith

  -- a number that passes does so at its factor
  at_factor : (h : ℕ) → p h ≡ true → at (h / d) ≡ true
  at_factor h e = subst (λ k. p k ≡ true) (sym (whole h e)) e

  none : (n : ℕ) → least (n / d) at ≡ 0 → 0 < least n p → ⊥
  none n m found =
      let h = least n p in
      let l = least_is p n h refl found in
      let same = whole h l.passes in
      let inside : h / d ≤ n / d = le-div (h / d) n d positive (omega (arith, same, l.bound)) in
      both_ways (at (h / d)) (least_none_at at (n / d) (h / d) m (factor_some h (h / d) (sym same) found) inside) (at_factor h l.passes)

  some : (n m : ℕ) → least (n / d) at ≡ m → 0 < m → least n p ≡ m * d
  some n m e pos =
      let a = least_is at (n / d) m e pos in
      let h = least n p in
      let here : m * d ≤ n = omega (arith, mul-le-mul a.bound (le_refl d), div-mul-le_self n d) in
      let above : 0 < m * d = mul-pos pos positive in
      let found : 0 < h = ⊎_elim (λ lt. lt) (λ le. absurd (both_ways (at m) (least_none_at p n (m * d) (omega (arith, le)) above here) a.passes)) (cases_lt 0 h) in
      let l = least_is p n h refl found in
      let same = whole h l.passes in
      let up : h ≤ m * d = ⊎_elim (λ lt. absurd (both_ways (at m) (l.first (m * d) above lt) a.passes)) (λ le. le) (cases_lt (m * d) h) in
      let first = a.first (h / d) (factor_some h (h / d) (sym same) found) in
      let down : m ≤ h / d = ⊎_elim (λ lt. absurd (both_ways (at (h / d)) (first lt) (at_factor h l.passes))) (λ le. le) (cases_lt (h / d) m) in
      omega (arith, up, same, mul-le-mul down (le_refl d))

  -- the least that passes, by the least factor
  least_multiple : (n : ℕ) → least n p ≡ least (n / d) at * d
  least_multiple n = by (least (n / d) at) refl
    where
      by : (m : ℕ) → least (n / d) at ≡ m → least n p ≡ m * d
      by zero e = ⊎_elim (λ lt. absurd (none n e lt)) (λ le. omega (arith, le)) (cases_lt 0 (least n p))
      by (suc m) e = some n (suc m) e (omega arith)

  -- the first multiple that passes is the least number that passes
  pub find_multiple : (n : ℕ) → find p (map (λ k. k * d) (range_with_len 1 (n / d))) ≡ then_some (ltb 0 (least n p)) (least n p)
  find_multiple n =
      find_map p (λ k. k * d) (range_with_len 1 (n / d))
      ∙ ap (option_map (λ k. k * d)) (find_least at (n / d))
      ∙ times (least (n / d) at)
      ∙ ap (λ l. then_some (ltb 0 l) l) (sym (least_multiple n))
    where
      times : (m : ℕ) → option_map (λ k. k * d) (then_some (ltb 0 m) m) ≡ then_some (ltb 0 (m * d)) (m * d)
      times zero = ap (λ m. then_some (ltb 0 m) m) {x = 0} {y = 0 * d} (omega arith)
      times (suc m) = rw (lt-ltb 0 (suc m) (omega arith), lt-ltb 0 (suc m * d) (mul-pos {m = suc m} (omega arith) positive)) refl

-- the longest duration, and at least l
abbrev pub longest : ℕ → List Table → ℕ
longest l ts = fold max l (map (λ t. t.duration) ts)

pub longest_least : (l : ℕ) (ts : List Table) → l ≤ longest l ts
longest_least l [] = omega arith
longest_least l (t ∷ ts) = omega (arith, longest_least (max l t.duration) ts)

within : (l : ℕ) (ts : List Table) → All (λ t. t.duration ≤ longest l ts) ts
within l [] = All-nil (λ t. t.duration ≤ longest l [])
within l (t ∷ ts) =
    All-cons (λ u. u.duration ≤ longest l (t ∷ ts)) t ts (omega (arith, longest_least (max l t.duration) ts)) (within (max l t.duration) ts)

pub none_longer : (l : ℕ) (ts : List Table) (r : ℕ) → r ≡ longest l ts → All (λ t. t.duration ≤ r) ts
none_longer l ts r e = subst (λ m. All (λ t. t.duration ≤ m) ts) (sym e) (within l ts)

multiple_of_max : (h l d : ℕ) → h % l ≡ 0 → h % d ≡ 0 → h % max l d ≡ 0
multiple_of_max h l d e f =
    ⊎_elim (λ less. subst (λ m. h % m ≡ 0) {x = d} (omega (arith, less)) f) (λ le. subst (λ m. h % m ≡ 0) {x = l} (omega (arith, le)) e) (cases_lt l d)

multiple_of_longest : (h l : ℕ) (ts : List Table) → h % l ≡ 0 → list_all (λ t. divides t.duration h) ts ≡ true → h % longest l ts ≡ 0
multiple_of_longest h l [] e all = e
multiple_of_longest h l (t ∷ ts) e all =
    let both = and_parts _ _ all in
    let here : h % t.duration ≡ 0 = eqb-true _ 0 (and_parts _ _ both.0).1 in
    multiple_of_longest h (max l t.duration) ts (multiple_of_max h l t.duration e here) both.1

-- what is common to the tables is a multiple of the longest duration
pub common_multiple : (h : ℕ) (ts : List Table) → common_to ts h ≡ true → h % longest 1 ts ≡ 0
common_multiple h ts e = multiple_of_longest h 1 ts (mod-one h) (sym (each_list no_table (λ t. divides t.duration h) ts) ∙ e)

-- How the rows on what a plan holds sit among all rows. Assumes nothing.
use Rattle.std.proofs.Common.{◌≡◌, ℕ, zero, suc, get_or, ◌+◌, ◌-◌, ◌≤◌, Bool, true, false, ◌&&◌, eqb, ltb, leb, cond, List, [], ◌∷◌, ◌++◌, length, Option, Some, None, option_map, sym, refl, arith}
use Rattle.std.specs.List.{find}
use Rattle.std.proofs.lemmas.Option.{none-some}
use Rattle.std.proofs.lemmas.Bool.Decides.{nat_tests}
use Rattle.plan.specs.declared.faults.Row.{Row}
use Rattle.plan.specs.declared.faults.Row.TheVariants.{TooSoon, Unfinished, TooMany, OutOfRange, NotRising, Hyperperiod, AfterEnd, NotCommand}
use Rattle.plan.specs.Content.{Content}
use Rattle.plan.specs.Entries.{Entry, first_row, plan_rows, too_soon, unfinished, too_many, out_of_range, not_rising, over_hyperperiod}
use Rattle.plan.specs.File.{rows_at, blamed, not_command, ends_early, after_end, entry_at, width}

-- a search for the first row whose test holds
pub first_found : (rows : List (Bool × Row)) → option_map (λ r. r.1) (find (λ r. r.0) rows) ≡ first_row rows
first_found [] = refl
first_found ((true, r) ∷ rows) = refl
first_found ((false, r) ∷ rows) = first_found rows

-- what a search among all rows but the last one found, or else the last one
pub found_or : (rows : List (Bool × Row)) (found told : Option Row) (last : Bool) (row : Row) → found ≡ first_row rows → ((x : Row) → found ≡ Some x → told ≡ Some x) → (found ≡ None → told ≡ cond last (Some row) None) → told ≡ first_row (rows ++ (last, row) ∷ [])
found_or [] found told last row e some none = none e
found_or ((true, x) ∷ rows) found told last row e some none = some x e
found_or ((false, x) ∷ rows) found told last row e some none = found_or rows found told last row e some none

some_before : (xs ys : List (Bool × Row)) (row : Row) → first_row xs ≡ Some row → first_row (xs ++ ys) ≡ Some row
some_before [] ys row e = absurd (none-some row e)
some_before ((true, r) ∷ xs) ys row e = e
some_before ((false, r) ∷ xs) ys row e = some_before xs ys row e

module _ (file : List ℕ) (at : ℕ) where
  own_place : (a b c d e f : Bool) (row : Row) → first_row ((a, TooSoon) ∷ (b, Unfinished) ∷ (c, TooMany) ∷ (d, OutOfRange) ∷ (e, NotRising) ∷ (f, Hyperperiod) ∷ []) ≡ Some row → blamed row file at ≡ at
  own_place a b c d e f row h = grind (arith, nat_tests, h)

  -- a whole command that breaks a row on what the plan holds breaks that row first, at its own place
  pub plan_row : (c : Content) (row : Row) → not_command file at ≡ false → ends_early file at ≡ false → first_row (plan_rows c (entry_at file at)) ≡ Some row → (first_row (rows_at file at c) ≡ Some row) × (at ≡ blamed row file at)
  plan_row c row known whole broken =
      let k = entry_at file at in
      (rw (known, whole) (some_before (plan_rows c k) ((after_end file at, AfterEnd) ∷ []) row broken), sym (own_place (too_soon c k) (unfinished c k) (too_many c k) (out_of_range c k) (not_rising c k) (over_hyperperiod c k) row broken))

-- no row applies: none at any place, and none in a front part
none_at : (rows : List (Bool × Row)) (k : ℕ) → first_row rows ≡ None → (get_or rows k (false, NotCommand)).0 ≡ false
none_at [] k e = refl
none_at ((true, r) ∷ rows) k e = absurd (none-some r (sym e))
none_at ((false, r) ∷ rows) zero e = refl
none_at ((false, r) ∷ rows) (suc k) e = none_at rows k e

none_before : (xs ys : List (Bool × Row)) → first_row (xs ++ ys) ≡ None → first_row xs ≡ None
none_before [] ys e = refl
none_before ((true, r) ∷ xs) ys e = absurd (none-some r (sym e))
none_before ((false, r) ∷ xs) ys e = none_before xs ys e

-- a command that breaks no row on what the plan holds
pub record Fine (c : Content) (e : Entry) : Type 0 where
  pub soon : too_soon c e ≡ false
  pub finished : unfinished c e ≡ false
  pub many : too_many c e ≡ false
  pub range : out_of_range c e ≡ false
  pub rising : not_rising c e ≡ false
  pub hyper : over_hyperperiod c e ≡ false

pub fine_from : (c : Content) (e : Entry) → first_row (plan_rows c e) ≡ None → Fine c e
fine_from c e h =
    let none = none_at (plan_rows c e) in
    record { soon = none 0 h; finished = none 1 h; many = none 2 h; range = none 3 h; rising = none 4 h; hyper = none 5 h }

-- a known command whose last byte lies within the file has a byte, and room
pub sized : (n i w : ℕ) → (ltb i n && eqb w 0) ≡ false → leb n (i + (w - 1)) ≡ false → (1 ≤ w) × (i + w ≤ n)
sized n i w a b = (grind (arith, nat_tests), grind (arith, nat_tests))

-- a right command is known and whole, and breaks no row on what the plan holds
pub record Right (file : List ℕ) (at : ℕ) (c : Content) : Type 0 where
  pub known : not_command file at ≡ false
  pub whole : ends_early file at ≡ false
  pub plan : first_row (plan_rows c (entry_at file at)) ≡ None
  pub last : after_end file at ≡ false
  pub wide : 1 ≤ width file at
  pub room : at + width file at ≤ length file

pub right_from : (file : List ℕ) (at : ℕ) (c : Content) → first_row (rows_at file at c) ≡ None → Right file at c
right_from file at c e =
    let none : (k : ℕ) → (get_or (rows_at file at c) k (false, NotCommand)).0 ≡ false = λ k. none_at (rows_at file at c) k e in
    let w : (1 ≤ width file at) × (at + width file at ≤ length file) = sized (length file) at (width file at) (none 0) (none 1) in
    record {
      known = none 0;
      whole = none 1;
      plan = none_before (plan_rows c (entry_at file at)) ((after_end file at, AfterEnd) ∷ []) (rw (none 0, none 1) at e);
      last = none 8;
      wide = w.0;
      room = w.1;
    }

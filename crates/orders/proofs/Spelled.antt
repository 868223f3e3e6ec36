-- A line that spells an order asks for that order.
use Rattle.std.proofs.Common.{◌≡◌, ℕ, ◌^◌, ◌<◌, ◌≤◌, true, false, List, [], ◌∷◌, ◌++◌, Option, Some, codes, decimal, sym, ap, ◌∙◌, append_assoc, append-nil, arith, rules}
use Rattle.std.proofs.lemmas.Fmt.{decimal_nonempty, digits_decimal, digits_value-decimal}
use Rattle.std.proofs.lemmas.Str.Parse.{IsNumeralModel, numerals_by_fold}
use Rattle.std.proofs.lemmas.Bool.{cond-false, and_parts}
use Rattle.std.proofs.lemmas.Bool.Decides.{nat_tests}
use Rattle.orders.specs.declared.order.Order.{Order}
use Rattle.orders.specs.declared.order.Order.TheVariants.{Start, Stop, State, Ticks}
use Rattle.orders.specs.Words.{blank, before, words_after, words_of}
use Rattle.orders.specs.Numbers.{digit, all_digits, value_after, greatest, number_of}
use Rattle.orders.specs.Lines.{with_one, with_two, given, asked, order_of}
use Rattle.orders.specs.Laws.{spelled, Held, ReadsBack}
use Rattle.orders.proofs.Capped.{number_some}
use Rattle.orders.proofs.Splits.{before_some}

own : IsNumeralModel (λ ds. all_digits ds ≡ true) (value_after 0)
own = numerals_by_fold _ (search rules) value_after (search rules)

fits : (n : ℕ) → n ≤ greatest → n < 2 ^ 64
fits n h = omega arith

decimal_number : (n : ℕ) → n ≤ greatest → number_of (decimal n) ≡ Some n
decimal_number n h =
    sym (number_some (decimal n) n (let some = decimal_nonempty n (fits n h) in grind arith) (digits_decimal own n (fits n h)) (omega (arith, digits_value-decimal own n (fits n h))))

-- digits belong to one word
digit_solid : (b : ℕ) → digit b ≡ true → blank b ≡ false
digit_solid b e = grind (arith, nat_tests)

digits_on : (ds w rest : List ℕ) → all_digits ds ≡ true → words_after w (ds ++ rest) ≡ words_after (w ++ ds) rest
digits_on [] w rest e = sym (ap (λ u. words_after u rest) (append-nil w))
digits_on (b ∷ bs) w rest e =
    let p = and_parts (digit b) (all_digits bs) e in
    cond-false (blank b) (before w (words_after [] (bs ++ rest))) (words_after (w ++ b ∷ []) (bs ++ rest)) (digit_solid b p.0)
    ∙ digits_on bs (w ++ b ∷ []) rest p.1
    ∙ ap (λ u. words_after u rest) (append_assoc w (b ∷ []) bs)

next_word : (n : ℕ) (rest : List ℕ) → n ≤ greatest → words_of (decimal n ++ (32 ∷ rest)) ≡ decimal n ∷ words_of rest
next_word n rest h =
    digits_on (decimal n) [] (32 ∷ rest) (digits_decimal own n (fits n h))
    ∙ before_some (decimal n) (words_of rest) (decimal_nonempty n (fits n h))

last_word : (n : ℕ) → n ≤ greatest → words_of (decimal n) ≡ decimal n ∷ []
last_word n h =
    sym (ap words_of (append-nil (decimal n)))
    ∙ digits_on (decimal n) [] [] (digits_decimal own n (fits n h))
    ∙ before_some (decimal n) [] (decimal_nonempty n (fits n h))

-- a verb and a number
asked_one : (verb : List ℕ) (n : ℕ) → n ≤ greatest → asked (verb ∷ words_of (decimal n)) ≡ with_one verb n
asked_one verb n h =
    ap (λ ws. asked (verb ∷ ws)) (last_word n h) ∙ ap (λ k. given k (λ i. with_one verb i)) (decimal_number n h)

reads_back : (o : Order) → Held o → order_of (spelled o) ≡ Some o
reads_back (Start t d) h =
    ap (λ ws. asked (codes "start" ∷ ws)) (next_word t (decimal d) h.0 ∙ ap (λ ws. decimal t ∷ ws) (last_word d h.1))
    ∙ ap (λ k. given k (λ i. given (number_of (decimal d)) (λ j. with_two (codes "start") i j))) (decimal_number t h.0)
    ∙ ap (λ k. given k (λ j. with_two (codes "start") t j)) (decimal_number d h.1)
reads_back (Stop t) h = asked_one (codes "stop") t h
reads_back (State t) h = asked_one (codes "state") t h
reads_back (Ticks n) h = asked_one (codes "tick") n h

pub reads_back_at : (line : List ℕ) (r : Option Order) → r ≡ order_of line → ReadsBack line r
reads_back_at line r e = λ o h f. e ∙ ap order_of f ∙ reads_back o h

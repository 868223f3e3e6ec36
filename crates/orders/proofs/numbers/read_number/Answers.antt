use Rattle.std.proofs.Common.{rules, tests}
use Rattle.std.proofs.lemmas.Iterator.{YieldsList-from_slice}
use Rattle.orders.proofs.TryFold.{try_fold_from_yields_List}
use Rattle.orders.proofs.Capped.{with_digit, number_if_empty, number_by_digits}
use Rattle.orders.proofs.numbers.read_number.Goals as goal

pub returns-then-is_empty : goal.returns-then-is_empty
returns-then-is_empty c = search (rules, number_if_empty)

pub returns : goal.returns
returns c =
    number_by_digits c.args.word.now c.try_fold.result (search rules)
    (try_fold_from_yields_List _ _ with_digit _ _ c.try_fold.ensures.ran (YieldsList-from_slice c.args.word.now cc) (λ a x o q k. search (rules, tests)))

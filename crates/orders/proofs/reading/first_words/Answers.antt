use Rattle.std.proofs.Common.{rules, tests}
use Rattle.std.proofs.lemmas.Iterator.Consumers.{YieldsList-from_filter, YieldsList-at}
use Rattle.std.proofs.lemmas.Iterator.Splits.{YieldsList-from_slice_split}
use Rattle.orders.specs.Words.{blank}
use Rattle.orders.proofs.Splits.{filled, begins_four}
use Rattle.orders.proofs.reading.first_words.Goals as goal

pub returns : goal.returns
returns c =
    begins_four _ c.args.line.now
    (YieldsList-from_filter _ filled
    (YieldsList-at c.filter-words.ensures.source
    (YieldsList-from_slice_split _ blank c.args.line.now c.split.ensures.rest c.split.ensures.done c.split.ensures.closure (λ x b q k. search (rules, tests))))
    c.filter-words.ensures.closure (λ x b q k. search (rules, tests)))
    c.next-verb.ensures.steps c.next-first.ensures.steps c.next-second.ensures.steps c.next-more.ensures.steps

use Rattle.std.proofs.Common.{◌≡◌, Bool, List, option_map, ap, ◌∙◌, [], ◌∷◌, rules, tests}
use Rattle.std.proofs.lemmas.Iterator.{YieldsList-from_slice}
use Rattle.std.proofs.lemmas.Iterator.Search.{find_from_yields_List}
use Rattle.plan.specs.declared.faults.Row.{Row}
use Rattle.plan.specs.declared.faults.Row.TheVariants.{TooSoon, Unfinished, TooMany, OutOfRange, NotRising, Hyperperiod}
use Rattle.plan.specs.Drafts.{drafted}
use Rattle.plan.specs.Entries.{too_soon, unfinished, too_many, out_of_range, not_rising, over_hyperperiod}
use Rattle.plan.specs.Readers.{said}
use Rattle.plan.proofs.RowOrder.{first_found, found_or}
use Rattle.plan.proofs.drafts.Draft.broken.Goals as goal

pub returns : goal.returns
returns c =
    let d = drafted c.args.self.now in
    let e = said c.args.command.now in
    let rows : List (Bool × Row) = (too_soon d e, TooSoon) ∷ (unfinished d e, Unfinished) ∷ (too_many d e, TooMany) ∷ (out_of_range d e, OutOfRange) ∷ (not_rising d e, NotRising) ∷ [] in
    let found = find_from_yields_List (λ r. r.0) _ _ _ c.find.ensures.ran (YieldsList-from_slice rows cc) (λ x b q k. search (rules, tests)) in
    let row : c.map.result ≡ option_map (λ r. r.1) (option_map (λ y. y.now) c.find.result) = search rules in
    found_or rows c.map.result c.or_else.result (over_hyperperiod d e) Hyperperiod (row ∙ ap (option_map (λ r. r.1)) found ∙ first_found rows)
    (λ x some. search (rules, tests, some)) (λ none. search (rules, tests, none))

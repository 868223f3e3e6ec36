use Rattle.std.proofs.Common.{◌≡◌, ◌%◌, max, vec_items, ap, ◌∙◌, rules, tests, arith}
use Rattle.std.proofs.lemmas.Iterator.{YieldsList-from_slice, YieldsList-from_map}
use Rattle.std.proofs.lemmas.Iterator.Consumers.{YieldsList-at, fold_from_yields_List}
use Rattle.plan.specs.declared.records.Table.{Table}
use Rattle.plan.proofs.Multiples.{longest, longest_least, none_longer, common_multiple}
use Rattle.plan.proofs.drafts.Draft.longest.Goals as goal

told : (c : goal.After-fold) → c.fold.result ≡ longest 1 (vec_items c.args.self.now.tables)
told c =
    let tables = YieldsList-at c.map.ensures.source (YieldsList-from_slice (vec_items c.args.self.now.tables) cc) in
    fold_from_yields_List _ max 1 c.fold.result c.fold.ensures.ran
    (YieldsList-from_map _ (λ (t : Table). t.duration) tables c.map.ensures.closure (λ x r q k. search (rules, tests)))
    (λ a x b q k. search (rules, tests))

pub returns-clause-positive : goal.returns-clause-positive
returns-clause-positive c = omega (arith, told c, longest_least 1 (vec_items c.args.self.now.tables))

pub returns-clause-longest : goal.returns-clause-longest
returns-clause-longest c = none_longer 1 (vec_items c.args.self.now.tables) c.fold.result (told c)

pub returns-clause-divides_all : goal.returns-clause-divides_all
returns-clause-divides_all c h e = ap (λ l. h % l) (told c) ∙ common_multiple h (vec_items c.args.self.now.tables) e

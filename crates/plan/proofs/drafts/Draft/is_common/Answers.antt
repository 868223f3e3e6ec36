use Rattle.std.proofs.Common.{vec_items, sym, ◌∙◌, rules, tests}
use Rattle.std.proofs.lemmas.Iterator.{YieldsList-from_slice}
use Rattle.std.proofs.lemmas.Iterator.Search.{all_from_yields_List}
use Rattle.plan.specs.Content.{no_table}
use Rattle.plan.specs.Rules.{divides}
use Rattle.plan.proofs.Counted.{each_list}
use Rattle.plan.proofs.drafts.Draft.is_common.Goals as goal

pub returns : goal.returns
returns c =
    let tables = vec_items c.args.self.now.tables in
    all_from_yields_List (λ t. divides t.duration c.args.h) _ _ _ c.all.ensures.ran (YieldsList-from_slice tables cc) (λ x b q k. search (rules, tests))
    ∙ sym (each_list no_table (λ t. divides t.duration c.args.h) tables)

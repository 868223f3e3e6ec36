use Rattle.std.proofs.Common.{◌≡◌, length, sym, refl, ◌∙◌, rules, tests}
use Rattle.std.proofs.lemmas.Iterator.{YieldsList-from_slice}
use Rattle.std.proofs.lemmas.Iterator.Search.{all_from_yields_List}
use Rattle.theory.specs.Counting.{in_range}
use Rattle.plan.specs.Limits.{name_length, first_name_byte, last_name_byte}
use Rattle.plan.proofs.Counted.{each_list}
use Rattle.plan.proofs.rows.is_name.Goals as goal

pub returns : goal.returns
returns c =
    let name = c.args.name.now in
    let good = in_range first_name_byte last_name_byte in
    let long : length name ≡ name_length = search rules in
    all_from_yields_List good _ _ _ c.all.ensures.ran (YieldsList-from_slice name cc) (λ x b q k. search (rules, tests))
    ∙ sym (each_list 0 good name) ∙ rw long refl

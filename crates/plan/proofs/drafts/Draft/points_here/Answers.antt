use Rattle.std.proofs.Common.{◌≡◌, ◌-◌, cond, eqb, length, vec_items, sym, ◌∙◌, rules}
use Rattle.std.proofs.iter.runs.Made.{chains}
use Rattle.std.specs.List.{count_by}
use Rattle.plan.specs.declared.records.Point.{Point}
use Rattle.plan.specs.Content.{no_point}
use Rattle.plan.proofs.Counted.{total_list}
use Rattle.plan.proofs.drafts.Draft.points_here.Goals as goal

pub returns : goal.returns
returns c =
    let here = length (vec_items c.args.self.now.tables) - 1 in
    let told : c.count.result ≡ count_by (λ (x : Point). eqb x.table here) (vec_items c.args.self.now.points) = search (rules, chains) in
    told ∙ sym (total_list no_point (λ x. cond (eqb x.table here) 1 0) (vec_items c.args.self.now.points))

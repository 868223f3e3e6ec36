use Rattle.std.proofs.Common.{[], set, refl, vec_items, ap, ◌∙◌}
use Rattle.std.proofs.lemmas.List.{get_or_default}
use Rattle.figures.proofs.Trying.{turned_from, turned_taken}
use Rattle.figures.proofs.search.Search.first_choice.Goals as goal

pub returns : goal.returns
returns c =
    let w = c.args.window in
    let gs = vec_items c.args.self.now.groups in
    let chosen = vec_items c.args.self.now.choices in
    let placed = c.phasing-phasing in
    turned_taken gs chosen w 0 c.reach.result placed.result.groups.now placed.result.phases
    (turned_from gs _ chosen _ w 0 _ placed.ensures.groups refl c.requires.some
    (placed.ensures.phases ∙ ap (λ v. set v w.own w.phase) (c.index.ensures ∙ get_or_default chosen 0 _ [] c.requires.some)))
    c.reach.ensures

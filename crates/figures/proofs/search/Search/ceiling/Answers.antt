use Rattle.std.proofs.Common.{◌≡◌, ◌+◌, length, get_or, ap, ◌∙◌, sym, subst, vec_items, arith}
use Rattle.std.proofs.lemmas.List.{get_or_read}
use Rattle.plan.specs.Plans.{content}
use Rattle.plan.proofs.Counted.{total_more}
use Rattle.figures.specs.Loads.{no_rivals, part_of}
use Rattle.figures.specs.Ceilings.{Within, peak_of, top_of}
use Rattle.figures.proofs.Peaks.{top_own, top_other}
use Rattle.figures.proofs.Searching.{all_within}
use Rattle.figures.proofs.search.Search.ceiling.Goals as goal
use Rattle.figures.proofs.search.Search.ceiling.Goals.{then-table-window, else-table-window}

pub peak-requires : goal.peak-requires
peak-requires c = λ j lt at.
    let s = c.args.self.now in
    let gs = vec_items s.groups in
    let within = subst (λ points. Within points gs) (sym c.points-points.ensures) (all_within (content s.subject.plan.now) s.subject.task gs s.subject.plan.now.kept s.grouped) in
    let here = within j lt (omega (arith, at, c.loop-table-test.true, ap length c.deref-group-items.ensures.value)) in
    let group : c.group-item.result ≡ get_or gs c.loop-table.table no_rivals =
    get_or_read _ _ _ c.loop-table-test.true c.group-item.is no_rivals ∙ ap (λ l. get_or l c.loop-table.table no_rivals) c.deref-group-items.ensures.value in
    omega (arith, here, ap (λ i. (get_or gs i no_rivals).duration) at, ap (λ g. g.duration) group)

pub loop-table-preserved : goal.loop-table-preserved
loop-table-preserved c =
    let points = c.points-points.result.now in
    let gs = vec_items c.args.self.now.groups in
    let w = c.args.window in
    let z = c.args.span.tick + c.args.span.ticks in
    let u = c.args.span.tick + 1 in
    let i = c.loop-table.table in
    let inv = c.loop-table.invariant in
    let group : c.group-item.result ≡ get_or gs i no_rivals =
    get_or_read _ _ _ c.loop-table-test.true c.group-item.is no_rivals ∙ ap (λ l. get_or l i no_rivals) c.deref-group-items.ensures.value in
    let more = total_more (top_of points gs w.own w.phase z u) i in
    elim c.if-table-window.branch [
      | then-table-window v ↦ record {
        value = omega (arith, more, top_own points gs w.own w.phase z u i v.if-table-window.true, ap (λ g. part_of g w.phase z u) group, v.part.ensures.value, v.sum-is, inv.value);
        most = omega (arith, v.part.ensures.most, v.sum-is, inv.most);
      }
      | else-table-window v ↦ record {
        value = omega (arith, more, top_other points gs w.own w.phase z u i v.if-table-window.false, ap (λ g. peak_of points i g z u) group, v.peak.ensures.value, v.sum-is, inv.value);
        most = omega (arith, v.peak.ensures.most, v.sum-is, inv.most);
      }
    ]

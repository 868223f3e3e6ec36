use Rattle.std.proofs.Common.{◌≡◌, ◌+◌, max, ap, arith, rules}
use Rattle.figures.specs.Loads.{part_of}
use Rattle.figures.specs.Ceilings.{part_at}
use Rattle.figures.proofs.Peaks.{greatest_more, part_other, part_here}
use Rattle.figures.proofs.groups.Group.peak.Goals as goal
use Rattle.figures.proofs.groups.Group.peak.Goals.{then-point-table, else-point-table}

pub loop-point-preserved : goal.loop-point-preserved
loop-point-preserved c =
    let a = c.args in
    let j = c.loop-point.point-index in
    let z = a.span.tick + a.span.ticks in
    let u = a.span.tick + 1 in
    let inv = c.loop-point.invariant in
    let more = greatest_more (part_at a.points.now a.table a.self.now z u) j in
    elim c.if-point-table.branch [
      | then-point-table w ↦
          let here = part_here a.points.now a.table a.self.now z u j w.if-point-table.true in
          let position = ap (λ q. part_of a.self.now q z u) w.from.ensures in
          let greater : w.max-most.result ≡ max c.loop-point.most w.part.result = search rules in
          record {
            value = omega (arith, more, here, position, w.part.ensures.value, greater, w.most-is, inv.value);
            most = omega (arith, w.part.ensures.most, greater, w.most-is, inv.most);
          }
      | else-point-table w ↦ record {
        value = omega (arith, more, part_other a.points.now a.table a.self.now z u j w.if-point-table.false, w.most-is, inv.value);
        most = omega (arith, w.most-is, inv.most);
      }
    ]

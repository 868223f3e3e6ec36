use Rattle.std.proofs.Common.{◌<◌, length, ◌∙◌, arith, rules}
use Rattle.ready.proofs.Among.{among_more}
use Rattle.ready.proofs.lead.front_among.Goals as goal

pub loop-slot-preserved : goal.loop-slot-preserved
loop-slot-preserved g c =
    let xs = c.args.slots.now in
    let within : c.loop-slot.slot-index < length xs = omega arith in
    let rule = c.args.rule.now in
    (rw (c.loop-slot.invariant, c.held.ensures) at c.front_with-front.ensures) ∙ among_more g.S.Slot.held (g.P.Precedence.before rule) (g.met.P.Precedence.ranks rule) xs c.loop-slot.slot-index _ within (search rules)

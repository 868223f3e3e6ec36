use Rattle.std.proofs.Common.{◌≡◌, take}
use Rattle.ready.specs.Fronts.{front_of}
use Rattle.ready.proofs.Among.{held_jobs}
use Rattle.ready.proofs.lead.front_among.Given as goal

abbrev pub invariant-loop-slot : goal.invariant-loop-slot
invariant-loop-slot g l = l.front ≡ front_of (g.P.Precedence.before l.rule) (held_jobs g.S.Slot.held (take l.slot-index l.slots))

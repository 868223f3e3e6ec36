use Rattle.std.proofs.Common.{◌≡◌, ◌+◌, subst, arith, rules}
use Rattle.figures.specs.Loads.{Fine, part_of}
use Rattle.figures.proofs.Terms.{part_most}
use Rattle.figures.proofs.groups.Group.part.Goals as goal

pub returns-clause-most : goal.returns-clause-most
returns-clause-most c =
    let span = c.args.span in
    let value : c.sum.result ≡ part_of c.args.self.now c.args.phase (span.tick + span.ticks) (span.tick + 1) = search rules in
    omega (arith, value, part_most c.args.self.now c.args.phase (span.tick + span.ticks) (span.tick + 1) (subst Fine c.self.view_is c.self.invariant) (omega arith) (omega arith))

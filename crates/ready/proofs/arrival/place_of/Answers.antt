use Rattle.std.proofs.Common.{rules}
use Rattle.ready.specs.Places.{known_held}
use Rattle.ready.proofs.arrival.place_of.Goals as goal

pub returns-clause-held : goal.returns-clause-held
returns-clause-held c = known_held c.args.list.now c.args.task c.position.result (search rules) (λ e m l same. search rules)

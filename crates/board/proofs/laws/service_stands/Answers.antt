use Rattle.board.proofs.ServiceLaw.{service}
use Rattle.board.proofs.laws.service_stands.Goals as goal

pub returns : goal.returns
returns c = service

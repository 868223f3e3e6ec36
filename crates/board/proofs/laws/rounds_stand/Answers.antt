use Rattle.board.proofs.RunLaws.{rounds}
use Rattle.board.proofs.laws.rounds_stand.Goals as goal

pub returns : goal.returns
returns c = rounds

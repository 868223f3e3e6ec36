use Rattle.board.proofs.Telling.{sound_told}
use Rattle.board.proofs.boards.Board.soundness_stands.Goals as goal

pub returns : goal.returns
returns g c = sound_told _ _ c.args.self.now.sound

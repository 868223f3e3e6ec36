use Rattle.std.proofs.Common.{Ok, rules}
use Rattle.std.proofs.Math.Logic.{∥∥₁_map}
use Rattle.plan.specs.Plans.{content}
use Rattle.board.specs.declared.calls.Answer.TheVariants as told
use Rattle.board.specs.declared.calls.Call.TheVariants.{Start}
use Rattle.board.specs.Boards.{model}
use Rattle.board.proofs.Calling.{asked_sound}
use Rattle.board.proofs.boards.Board.start.Goals as goal

pub invariant_of-self : goal.invariant_of-self
invariant_of-self g c =
    let b = c.args.self.now in
    record { clock = b.clock; sound = ∥∥₁_map b.sound (λ h. asked_sound (content b.plan) (model g.Q.ReadyQueue.jobs b) _ (Start c.args.table c.args.delay) (Ok told.Done) h (search rules)) }

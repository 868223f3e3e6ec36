use Rattle.std.proofs.Common.{◌≡◌, take, vec_items}
use Rattle.plan.specs.Plans.{content}
use Rattle.board.specs.Boards.{model}
use Rattle.board.specs.Models.{Alike, fresh}
use Rattle.board.proofs.Whole.{Sofar}
use Rattle.board.proofs.boards.Board.make_all.Given as goal

abbrev pub invariant-loop-call : goal.invariant-loop-call
invariant-loop-call g l =
    Alike (model g.Q.ReadyQueue.jobs l.initial.self) fresh
    → (content l.self.plan ≡ content l.initial.self.plan)
    × Sofar (content l.initial.self.plan) (take l.call-index l.calls) (vec_items l.answers) (model g.Q.ReadyQueue.jobs l.self)

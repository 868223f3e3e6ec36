use Rattle.std.proofs.Common.{sym, subst}
use Rattle.ready.specs.Calls.{FrontBy}
use Rattle.ready.specs.Examiners.{slot_of, goes_before}
use Rattle.ready.specs.Slots.{examiner_front}
use Rattle.ready.proofs.examiner.ExaminerQueueReadyQueue.front.Goals as goal

pub returns : goal.returns
returns c =
    let q = c.args.self.now in
    record { value = c.front_among.ensures; rule = subst (FrontBy (goes_before q.watch) (slot_of q.slots)) (sym c.front_among.ensures) (examiner_front q.watch q.slots q.each) }

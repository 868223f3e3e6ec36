use Rattle.std.proofs.Common.{◌≡◌, ◌+◌, None, ap, ◌∙◌, arith, rules}
use Rattle.plan.specs.Plans.{content}
use Rattle.board.specs.Boards.{model}
use Rattle.board.specs.Records.{record_of}
use Rattle.board.specs.Refusals.{tick_answer}
use Rattle.board.specs.Ticks.{tick_refusal}
use Rattle.board.proofs.Keeping.{may_tick}
use Rattle.board.proofs.TickSteps.{Steps, tick_made, tick_sound}
use Rattle.board.proofs.boards.Board.tick.Goals as goal
use Rattle.board.proofs.boards.Board.tick.Given as given
use Rattle.board.proofs.boards.Board.tick.Goals.{After-first_late-late}

allowed : (g : given.Over) (c : After-first_late-late g) → tick_refusal (model g.Q.ReadyQueue.jobs c.args.self.now) ≡ None
allowed g c = search rules

steps : (g : given.Over) (c : After-first_late-late g) → Steps (content c.args.self.now.plan) (model g.Q.ReadyQueue.jobs c.args.self.now) (record_of c.turn_all.new.self.records) (g.Q.ReadyQueue.jobs c.activate_due.new.self.queue) (g.Q.ReadyQueue.top c.activate_due.new.self.queue) (g.Q.ReadyQueue.jobs c.serve-served.new.self.queue) c.first_late-late.result
steps g c = record {
  turns = c.turn_all.ensures;
  acts = c.activate_due.ensures;
  front = g.met.Q.ReadyQueue.fronts c.activate_due.new.self.queue;
  serves = c.serve-served.ensures.jobs;
  lates = c.first_late-late.ensures;
}

pub invariant_of-self : goal.invariant_of-self
invariant_of-self g c =
    let b = c.args.self.now in
    let m = model g.Q.ReadyQueue.jobs b in
    let may = may_tick m (allowed g c) in
    record { clock = omega (arith, may.1); sound = tick_sound (content b.plan) b.plan.kept m b.sound may.0 _ _ _ _ _ (steps g c) }

pub returns-clause-answer : goal.returns-clause-answer
returns-clause-answer g c =
    let b = c.args.self.now in
    let m = model g.Q.ReadyQueue.jobs b in
    let told = c.new.ensures ∙ ap (λ o. tick_answer o (b.ticks + 1) c.first_late-late.result) c.serve-served.ensures.answer in
    (allowed g c.before.before, _, tick_made (content b.plan) b.plan.kept m b.sound (may_tick m (allowed g c.before.before)).0 _ _ _ _ _ (steps g c.before.before) c.new.result told)

use Rattle.std.proofs.Common.{[], get_or, take, is_ok, vec_items, sym, refl, ap, ◌∙◌, subst, subst₂}
use Rattle.std.proofs.ResultArms.{chosen}
use Rattle.std.proofs.lemmas.List.{take_more, take_all}
use Rattle.plan.specs.Plans.{content}
use Rattle.board.specs.declared.calls.Call.TheVariants.{Start}
use Rattle.board.specs.Boards.{model}
use Rattle.board.specs.Drives.{Step, Driven}
use Rattle.board.proofs.Whole.{Sofar, sofar_none, sofar_more, sofar_all}
use Rattle.board.proofs.boards.Board.make_all.Goals as goal

pub loop-call-init : goal.loop-call-init
loop-call-init g c new =
    let p = content c.args.self.now.plan in
    let m = model g.Q.ReadyQueue.jobs c.args.self.now in
    (refl, subst (λ l. Sofar p [] l m) (sym c.in_ok-answers.ensures.items) (sofar_none p m new))

pub loop-call-preserved : goal.loop-call-preserved
loop-call-preserved g c new =
    let inv = c.loop-call.invariant new in
    let p = content c.args.self.now.plan in
    let m = model g.Q.ReadyQueue.jobs c.loop-call.self in
    let n = model g.Q.ReadyQueue.jobs c.call.new.self in
    let pushed = chosen _ _ _ _ c.push.ensures.items (ap is_ok c.in_ok-push.was) in
    let i = c.loop-call.call-index in
    let calls = c.args.calls.now in
    let x = get_or calls i (Start 0 0) in
    let step = subst (λ q. Step q m x c.call.result n) inv.0 c.call.ensures.answer in
    let more = sofar_more p (take i calls) (vec_items c.loop-call.answers) m n x c.call.result step inv.1 in
    (ap content c.call.ensures.plan ∙ inv.0, subst₂ (λ k l. Sofar p k l n) (sym (take_more calls i (Start 0 0) c.loop-call-test.true)) (sym pushed) more)

pub returns : goal.returns
returns g c new =
    let p = content c.args.self.now.plan in
    let m = model g.Q.ReadyQueue.jobs c.loop-call.self in
    subst (λ l. Driven p l (vec_items c.loop-call.answers)) (take_all c.loop-call.call-index c.args.calls.now c.loop-call-test.false) (sofar_all p _ _ m (c.loop-call.invariant new).1)

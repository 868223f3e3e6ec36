use Rattle.ready.specs.Pairs.{Apart}
use Rattle.ready.proofs.Refilled.{apart_prop, refilled}
use Rattle.ready.proofs.pair.PairReadyQueue.serve.Goals as goal

pub returns-then-takes_lead-clause-empty : goal.returns-then-takes_lead-clause-empty
returns-then-takes_lead-clause-empty g c = λ h.
    let p = c.args.self.now in
    refilled (λ s. Apart (g.A.ReadyQueue.jobs p.first) (g.B.ReadyQueue.jobs s)) (λ s. apart_prop _ _)
    (λ s a. record { first = p.first; second = s; cut = p.cut; apart = a }) _ _ (c.serve.ensures.empty h) _ _

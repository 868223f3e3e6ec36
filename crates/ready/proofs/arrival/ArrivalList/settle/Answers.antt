use Rattle.std.proofs.Common.{vec_items, subst, arith}
use Rattle.ready.specs.Arrivals.{PlaceOf}
use Rattle.ready.specs.Entries.{settled}
use Rattle.ready.proofs.arrival.ArrivalList.settle.Goals as goal

pub invariant_of-self : goal.invariant_of-self
invariant_of-self c =
    let q = c.args.self.now in
    let place = subst (λ l. PlaceOf l c.args.job.task c.in-Some.place) c.deref.ensures.value c.in-Some.ensures.found in
    let a = settled (vec_items q.list) c.args.job c.in-Some.place (vec_items c.settle_at.new.list) q.apart place c.settle_at.ensures.items in
    record { apart = a.stays; room = omega (arith, c.settle_at.ensures.capacity, q.room) }

pub returns-in-Some : goal.returns-in-Some
returns-in-Some c =
    let q = c.args.self.now in
    let place = subst (λ l. PlaceOf l c.args.job.task c.in-Some.place) c.deref.ensures.value c.in-Some.ensures.found in
    let a = settled (vec_items q.list) c.args.job c.in-Some.place (vec_items c.settle_at.new.list) q.apart place c.settle_at.ensures.items in
    record { list = a.is; change = a.change }

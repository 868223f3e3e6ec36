use Rattle.std.proofs.Common.{◌≡◌, vec_items, sym, ap, ◌∙◌, subst}
use Rattle.ready.specs.Jobs.{ahead}
use Rattle.ready.specs.Calls.{FrontBy}
use Rattle.ready.specs.Fronts.{front_of}
use Rattle.ready.specs.Arrivals.{job_of}
use Rattle.ready.specs.Entries.{arrival_front}
use Rattle.ready.proofs.Among.{held_itself}
use Rattle.ready.proofs.arrival.ArrivalListReadyQueue.front.Goals as goal

pub returns : goal.returns
returns c =
    let q = c.args.self.now in
    let is : c.front_among.result ≡ front_of ahead (vec_items q.list) = c.front_among.ensures ∙ ap (front_of ahead) (held_itself _ ∙ c.deref.ensures.value) in
    record { value = is; rule = subst (FrontBy ahead (job_of (vec_items q.list))) (sym is) (arrival_front (vec_items q.list) q.apart) }

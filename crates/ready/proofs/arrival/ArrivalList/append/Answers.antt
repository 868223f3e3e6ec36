use Rattle.std.proofs.Common.{vec_items, arith}
use Rattle.ready.specs.Entries.{appended}
use Rattle.ready.proofs.Room.{room_left}
use Rattle.ready.proofs.arrival.ArrivalList.append.Goals as goal

pub push_reserved-requires : goal.push_reserved-requires
push_reserved-requires c =
    let q = c.args.self.now in
    omega (arith, room_left (vec_items q.list) c.args.job q.apart c.requires.fit c.requires.free, q.list.ok.0, q.room)

pub invariant_of-self : goal.invariant_of-self
invariant_of-self c =
    let q = c.args.self.now in
    let a = appended (vec_items q.list) c.args.job (vec_items c.push_reserved.new.self) q.apart c.requires.fit c.requires.free c.push_reserved.ensures.items in
    record { apart = a.stays; room = omega (arith, c.push_reserved.ensures.capacity, q.room) }

pub returns : goal.returns
returns c =
    let q = c.args.self.now in
    let a = appended (vec_items q.list) c.args.job (vec_items c.push_reserved.new.self) q.apart c.requires.fit c.requires.free c.push_reserved.ensures.items in
    record { list = c.push_reserved.ensures.items; change = a.change }

use Rattle.std.proofs.Common.{◌≡◌, ℕ, ◌+◌, length, get_or, ap, ◌∙◌, arith, rules}
use Rattle.std.proofs.lemmas.Slice.Zip.{zip_end}
use Rattle.theory.specs.Counting.{total}
use Rattle.figures.specs.Loads.{no_rivals, part_of, demand_of}
use Rattle.figures.proofs.demand.Phasing.demand.Goals as goal

pub returns : goal.returns
unfolding demand_of
returns c =
    let p = c.args.self.now in
    let f : ℕ → ℕ = λ i. part_of (get_or p.groups.now i no_rivals) (get_or p.phases i 0) (c.args.span.tick + c.args.span.ticks) (c.args.span.tick + 1) in
    let all : length c.loop-group.yielded ≡ length p.groups.now =
    omega (
      arith,
      p.phased.enough,
      zip_end p.groups.now p.phases c.loop-group.yielded c.into_iter-group-iterator.result c.loop-group.group-iterator c.next.new.self c.next.result
          (search rules) (search rules) c.loop-group.yielded_by c.in-None.is c.next.ensures.steps,
    ) in
    c.loop-group.invariant.value ∙ ap (λ n. total n f) all

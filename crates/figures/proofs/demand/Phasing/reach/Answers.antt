use Rattle.std.proofs.Common.{ℕ, ◌-◌, get_or, ⊎_elim, arith}
use Rattle.std.proofs.lemmas.Bool.{cases_lt}
use Rattle.figures.proofs.Terms.{demand_rises_lem}
use Rattle.figures.proofs.demand.Phasing.reach.Goals as goal

-- what the demand asks for comes later, within the limit, and before it nothing is met
pub loop-ticks-preserved : goal.loop-ticks-preserved
loop-ticks-preserved c =
    let p = c.args.self.now in
    let rises = λ (y z : ℕ). demand_rises_lem p.groups.now (λ i. get_or p.phases i 0) c.args.window.tick y z p.phased.below in
    let inv = c.loop-ticks.invariant in
    let last = rises c.loop-ticks.ticks (c.args.window.limit - c.args.window.tick) (omega (arith, inv.ends)) in record {
      some = omega (arith, c.if-needed-tick.false);
      ends = omega (arith, c.if-needed-tick.false, last, c.demand-needed.ensures, c.requires, c.args.window.early);
      unmet = λ v one less.
          ⊎_elim
          (λ before. inv.unmet v one before)
          (λ from. omega (arith, less, rises c.loop-ticks.ticks v from, c.demand-needed.ensures))
          (cases_lt v c.loop-ticks.ticks);
    }

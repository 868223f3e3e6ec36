use Rattle.std.proofs.Common.{refl, mod-lt, arith}
use Rattle.figures.proofs.Phases.{phase_meets}
use Rattle.figures.proofs.windows.Own.window.Goals as goal

pub returns : goal.returns
returns c =
    let o = c.args.self.now in record {
      ticks = refl;
      owns = refl;
      limits = refl;
      below = mod-lt _ (omega (arith, o.within));
      meets = phase_meets o.duration o.position c.args.x o.within;
    }

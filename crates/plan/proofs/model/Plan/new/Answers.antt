use Rattle.std.proofs.Common.{◌≡◌, true, List, refl}
use Rattle.plan.specs.declared.records.Table.{Table}
use Rattle.plan.specs.declared.records.Point.{Point}
use Rattle.plan.specs.declared.records.Task.{Task}
use Rattle.plan.specs.Content.{holding}
use Rattle.theory.specs.Counting.{least}
use Rattle.plan.specs.Rules.{lawful}
use Rattle.plan.proofs.model.Plan.new.Goals as goal

carried : {ts ts' : List Table} {ps ps' : List Point} {ks ks' : List Task} → ts ≡ ts' → ps ≡ ps' → ks ≡ ks' → lawful (holding ts' ps' ks') ≡ true → lawful (holding ts ps ks) ≡ true
carried t p k h = rw (t, p, k) h

-- the rules hold by computation
pub invariant_of-result : goal.invariant_of-result
unfolding least
invariant_of-result c =
    record { kept = carried c.in_ok-tables.ensures.items c.in_ok-points.ensures.items c.in_ok-tasks.ensures.items refl }

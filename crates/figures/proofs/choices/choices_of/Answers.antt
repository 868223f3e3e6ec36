use Rattle.std.proofs.Common.{◌≡◌, ◌+◌, length, vec_items, ap, sym, subst, arith}
use Rattle.plan.specs.Content.{table_count}
use Rattle.plan.specs.Plans.{content}
use Rattle.plan.proofs.Kept.{lawful_from}
use Rattle.figures.specs.Choices.{Spread, Listed}
use Rattle.figures.proofs.Spreading.{listed_none, listed_own, listed_spread}
use Rattle.figures.proofs.choices.choices_of.Goals as goal
use Rattle.figures.proofs.choices.choices_of.Goals.{then-table-own+in_ok-choices-2, else-table-own}

pub loop-table-init : goal.loop-table-init
loop-table-init c = listed_none (content c.args.plan.now).points c.args.own _ c.in_ok-choices.ensures.items

pub loop-table-preserved : goal.loop-table-preserved
loop-table-preserved c =
    let points = (content c.args.plan.now).points in
    let own = c.args.own in
    let n = c.loop-table.table in
    let few = (lawful_from (content c.args.plan.now) c.args.plan.now.kept).few in
    elim c.if-table-own.branch [
      | then-table-own+in_ok-choices-2 w ↦
          subst (λ v. Listed points own (n + 1) (vec_items v)) (sym w.choices-is)
          (listed_spread points own (vec_items c.loop-table.choices) _ n
          (omega (arith, c.loop-table-test.true, few, ap length c.tables-table-end.ensures)) w.if-table-own.true
          (subst (λ ps. Spread ps n (vec_items c.loop-table.choices) (vec_items w.in_ok-choices-2.choices)) w.points.ensures
          (subst (λ earlier. Spread w.points.result.now n earlier (vec_items w.in_ok-choices-2.choices)) w.deref.ensures.value w.in_ok-choices-2.ensures))
          c.loop-table.invariant)
      | else-table-own w ↦
          subst (λ v. Listed points own (n + 1) (vec_items v)) (sym w.choices-is)
          (listed_own points own _ n w.if-table-own.false c.loop-table.invariant)
    ]

pub returns : goal.returns
returns c =
    let all : c.loop-table.table ≡ table_count (content c.args.plan.now) =
    omega (arith, c.loop-table-test.false, c.loop-table.auto.table-end, ap length c.tables-table-end.ensures) in
    subst (λ n. Listed (content c.args.plan.now).points c.args.own n (vec_items c.loop-table.choices)) all c.loop-table.invariant

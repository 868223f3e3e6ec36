-- Plans keep the rules that the theory supposes. Assumes nothing.
use Rattle.std.proofs.Common.{eqb, ap, ◌∙◌}
use Rattle.std.proofs.lemmas.Bool.{eqb-true}
use Rattle.plan.specs.Content.{point_count, task_count, table_of_point, task_at}
use Rattle.plan.proofs.Kept.{lawful_from}
use Rattle.plan.proofs.Setting.{count_has}
use Rattle.plan.proofs.Work.{hyperperiod_law}
use Rattle.analysis.specs.Promises.{PlansAreLawful}

pub plans_are_lawful_lem : PlansAreLawful
plans_are_lawful_lem c kept =
    let l = lawful_from c kept in
    let h = hyperperiod_law c kept in
    record {
      some = h.some;
      lasts = λ i lt. (l.tables i lt).long;
      divides = h.multiple;
      busy = λ i lt.
          let p = count_has (point_count c) (λ j. eqb (table_of_point c j) i) (l.tables i lt).filled in
          let t = count_has (task_count c) (λ k. eqb (task_at c k).point p.0) (l.points p.0 p.1).filled in
          (t.0, t.1, ap (table_of_point c) (eqb-true _ _ t.2) ∙ eqb-true _ _ p.2);
      table_in = λ k lt. (l.points _ (l.tasks k lt).point_in).table_in;
      position_in = λ k lt. (l.points _ (l.tasks k lt).point_in).position_in;
      costs = λ k lt. (l.tasks k lt).runs;
      fits = λ k lt. (l.tasks k lt).fits;
      due = λ k lt. (l.tasks k lt).due;
    }

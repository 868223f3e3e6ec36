-- Each task's part of the work is small, so that the sum fits. Assumes nothing.
use Rattle.std.proofs.Common.{◌≡◌, ℕ, ◌*◌, ◌<◌, ◌≤◌, true, refl, ⊎_elim, subst, ◌∙◌, mul-le-mul, div-le_self, arith}
use Rattle.std.specs.List.{All, Contains, sum_by}
use Rattle.std.proofs.lemmas.List.{get_or_default}
use Rattle.std.proofs.lemmas.List.Sums.{sum_by-le}
use Rattle.std.proofs.lemmas.Bool.{and_parts, and_from, eqb-true, eq-eqb, lt-ltb, both_ways, cases_lt}
use Rattle.plan.specs.declared.records.Task.{Task}
use Rattle.plan.specs.Limits.{max_tasks, max_duration, max_hyperperiod}
use Rattle.plan.specs.Content.{Content, no_task, table_count, point_count, task_count, duration_of, table_of_point, task_at}
use Rattle.plan.specs.Rules.{divides, common_to, hyperperiod_of, task_work, lawful, LeastCommonMultiple}
use Rattle.plan.proofs.Counted.{each_at, each_from, least_is}
use Rattle.plan.proofs.Kept.{lawful_from}

-- the hyperperiod of a plan that keeps the rules is the least common multiple of its durations
pub hyperperiod_law : (c : Content) → lawful c ≡ true → LeastCommonMultiple c (hyperperiod_of c)
hyperperiod_law c kept =
    let l = lawful_from c kept in
    let h = least_is (common_to c.tables) max_hyperperiod (hyperperiod_of c) refl l.hyperperiod in
    record {
      some = l.hyperperiod;
      bound = h.bound;
      multiple = λ i lt. eqb-true _ 0 (and_parts _ _ (each_at (λ k. divides (duration_of c k) (hyperperiod_of c)) (table_count c) i lt h.passes)).1;
      smallest = λ m pos all.
          ⊎_elim
          (λ less.
          absurd (both_ways (common_to c.tables m) (h.first m pos less)
          (each_from (λ k. divides (duration_of c k) m) (table_count c) (λ i lt. and_from _ _ (lt-ltb 0 _ (l.tables i lt).long) (eq-eqb _ 0 (all i lt))))))
          (λ le. le)
          (cases_lt m (hyperperiod_of c));
    }

module _ (c : Content) where
  pub record Part (t : Task) : Type 0 where
    pub point_in : t.point < point_count c
    pub table_in : table_of_point c t.point < table_count c
    pub divisor : 0 < duration_of c (table_of_point c t.point)
    pub product : t.execution * hyperperiod_of c ≤ max_duration * max_hyperperiod
    pub small : task_work c t ≤ max_duration * max_hyperperiod

  module _ (kept : lawful c ≡ true) where
    part_is : (k : ℕ) → k < task_count c → Part (task_at c k)
    part_is k lt =
        let l = lawful_from c kept in
        let t = l.tasks k lt in
        let p = l.points _ t.point_in in
        let d = l.tables _ p.table_in in
        let h = least_is (common_to c.tables) max_hyperperiod (hyperperiod_of c) refl l.hyperperiod in
        let e : (task_at c k).execution ≤ max_duration = omega (arith, t.fits, t.due, d.short) in
        let m : (task_at c k).execution * hyperperiod_of c ≤ max_duration * max_hyperperiod = mul-le-mul e h.bound in
        let q : task_work c (task_at c k) ≤ (task_at c k).execution * hyperperiod_of c = div-le_self _ _ in
        record { point_in = t.point_in; table_in = p.table_in; divisor = d.long; product = m; small = omega (arith, m, q) }

    -- of each task that the plan holds
    pub part_held : (t : Task) → Contains c.tasks t → Part t
    part_held t (k, lt, e) = subst Part (get_or_default c.tasks k no_task t lt ∙ e) (part_is k lt)

    -- the sum fits
    pub work_small : sum_by (task_work c) c.tasks ≤ max_tasks * (max_duration * max_hyperperiod)
    work_small =
        let few = (lawful_from c kept).few_tasks in
        let each : All (λ t. task_work c t ≤ max_duration * max_hyperperiod) c.tasks = λ k d lt. subst (λ t. task_work c t ≤ max_duration * max_hyperperiod) (get_or_default c.tasks k no_task d lt) (part_is k lt).small in
        let sum = sum_by-le (task_work c) (max_duration * max_hyperperiod) c.tasks each in
        omega (arith, sum, few)

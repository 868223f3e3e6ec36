-- The rules of a plan as facts about each table, point and task, from their tests and back. Assumes nothing.
use Rattle.std.proofs.Common.{◌≡◌, ℕ, ◌-◌, ◌<◌, ◌≤◌, true, arith}
use Rattle.std.proofs.lemmas.Bool.{and_parts, leb-true, ltb-true}
use Rattle.std.proofs.lemmas.Bool.Decides.{nat_tests}
use Rattle.plan.specs.Limits.{max_tables, max_duration, max_points, max_tasks_of_point, max_tasks}
use Rattle.theory.specs.Counting.{in_range}
use Rattle.plan.specs.Content.{Content, table_count, point_count, task_count, duration_of, table_of_point, position_of_point, task_at, table_of, points_of, tasks_of}
use Rattle.plan.specs.Rules.{hyperperiod_of, good_name, after, table_rule, point_rule, task_rule, lawful}
use Rattle.plan.proofs.Counted.{each_at, each_from}

pub record TableKept (c : Content) (i : ℕ) : Type 0 where
  pub long : 1 ≤ duration_of c i
  pub short : duration_of c i ≤ max_duration
  pub filled : 1 ≤ points_of c i
  pub few : points_of c i ≤ max_points

pub record PointKept (c : Content) (j : ℕ) : Type 0 where
  pub table_in : table_of_point c j < table_count c
  pub position_in : position_of_point c j < duration_of c (table_of_point c j)
  pub rises : 0 < j → after c (j - 1) j ≡ true
  pub filled : 1 ≤ tasks_of c j
  pub few : tasks_of c j ≤ max_tasks_of_point

pub record TaskKept (c : Content) (k : ℕ) : Type 0 where
  pub point_in : (task_at c k).point < point_count c
  pub rises : 0 < k → (task_at c (k - 1)).point ≤ (task_at c k).point
  pub named : good_name (task_at c k).name ≡ true
  pub runs : 1 ≤ (task_at c k).execution
  pub fits : (task_at c k).execution ≤ (task_at c k).deadline
  pub due : (task_at c k).deadline ≤ duration_of c (table_of c k)

pub record Lawful (c : Content) : Type 0 where
  pub some : 1 ≤ table_count c
  pub few : table_count c ≤ max_tables
  pub tables : (i : ℕ) → i < table_count c → TableKept c i
  pub points : (j : ℕ) → j < point_count c → PointKept c j
  pub few_tasks : task_count c ≤ max_tasks
  pub tasks : (k : ℕ) → k < task_count c → TaskKept c k
  pub hyperperiod : 0 < hyperperiod_of c

pub range_from : (low high n : ℕ) → in_range low high n ≡ true → (low ≤ n) × (n ≤ high)
range_from low high n e = (grind (arith, nat_tests), grind (arith, nat_tests))

pub range_to : (low high n : ℕ) → low ≤ n → n ≤ high → in_range low high n ≡ true
range_to low high n l h = grind (arith, nat_tests)

module _ (c : Content) where
  table_from : (i : ℕ) → table_rule c i ≡ true → TableKept c i
  table_from i e = record { long = grind (arith, nat_tests); short = grind (arith, nat_tests); filled = grind (arith, nat_tests); few = grind (arith, nat_tests) }

  table_to : (i : ℕ) → TableKept c i → table_rule c i ≡ true
  table_to i h = grind (arith, nat_tests)

  point_from : (j : ℕ) → point_rule c j ≡ true → PointKept c j
  point_from j e =
      record {
        table_in = grind (arith, nat_tests);
        position_in = grind (arith, nat_tests);
        rises = λ pos. grind (arith, nat_tests);
        filled = grind (arith, nat_tests);
        few = grind (arith, nat_tests);
      }

  point_to : (j : ℕ) → PointKept c j → point_rule c j ≡ true
  point_to j h = let rises = h.rises in grind (arith, nat_tests)

  task_from : (k : ℕ) → task_rule c k ≡ true → TaskKept c k
  task_from k e =
      record {
        point_in = grind (arith, nat_tests);
        rises = λ pos. grind (arith, nat_tests);
        named = (and_parts _ _ (and_parts _ _ (and_parts _ _ (and_parts _ _ e).0).0).0).1;
        runs = grind (arith, nat_tests);
        fits = grind (arith, nat_tests);
        due = grind (arith, nat_tests);
      }

  task_to : (k : ℕ) → TaskKept c k → task_rule c k ≡ true
  task_to k h = let rises = h.rises in grind (arith, nat_tests)

  pub lawful_from : lawful c ≡ true → Lawful c
  lawful_from e =
      let p = and_parts _ _ e in
      let q = and_parts _ _ p.0 in
      let r = and_parts _ _ q.0 in
      let s = and_parts _ _ r.0 in
      let t = and_parts _ _ s.0 in
      let n = range_from 1 max_tables (table_count c) t.0 in
      record {
        some = n.0;
        few = n.1;
        tables = λ i lt. table_from i (each_at (table_rule c) (table_count c) i lt t.1);
        points = λ j lt. point_from j (each_at (point_rule c) (point_count c) j lt s.1);
        few_tasks = leb-true _ _ r.1;
        tasks = λ k lt. task_from k (each_at (task_rule c) (task_count c) k lt q.1);
        hyperperiod = ltb-true _ _ p.1;
      }

  pub lawful_to : Lawful c → lawful c ≡ true
  lawful_to h =
      let tables = each_from (table_rule c) (table_count c) (λ i lt. table_to i (h.tables i lt)) in
      let points = each_from (point_rule c) (point_count c) (λ j lt. point_to j (h.points j lt)) in
      let tasks = each_from (task_rule c) (task_count c) (λ k lt. task_to k (h.tasks k lt)) in
      grind (arith, nat_tests)

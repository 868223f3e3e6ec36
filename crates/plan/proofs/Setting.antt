-- Right commands set down a plan that keeps the rules. Assumes nothing.
use Rattle.std.proofs.Common.{◌≡◌, ℕ, zero, suc, ◌+◌, ◌-◌, ◌<◌, ◌≤◌, Bool, true, false, cond, ◌&&◌, ◌||◌, eqb, ltb, leb, ◌⊎◌, List, [], ◌∷◌, ◌++◌, length, get_or, sym, refl, ap, ◌∙◌, subst, subst₂, inl, inr, ⊎_elim, le_refl, add-zero, arith}
use Rattle.std.proofs.lemmas.List.{length_push, get_or_append_left, get_or_push}
use Rattle.std.proofs.lemmas.List.Sums.{sum_by_push}
use Rattle.std.proofs.lemmas.Bool.{and_parts, not-false, leb-true, eqb-true, eq-eqb, ne_eqb, cases_eq, cases_Bool}
use Rattle.std.proofs.lemmas.Bool.Decides.{nat_tests}
use Rattle.plan.specs.declared.records.Table.{Table}
use Rattle.plan.specs.declared.records.Point.{Point}
use Rattle.plan.specs.declared.records.Task.{Task}
use Rattle.plan.specs.Limits.{max_tables, max_duration, max_points, max_tasks_of_point, max_tasks}
use Rattle.theory.specs.Counting.{count}
use Rattle.plan.specs.Content.{Content, holding, no_table, no_point, no_task, table_count, point_count, task_count, duration_of, table_of_point, position_of_point, task_at, table_of, points_of, tasks_of}
use Rattle.plan.specs.Rules.{good_name, after, lawful}
use Rattle.plan.specs.Entries.{Entry, set_table, set_point, set_delay, set_task, ends, blank, points_here, tasks_here, duration_here, position_here, with_point, added}
use Rattle.plan.proofs.Counted.{total_list}
use Rattle.plan.proofs.RowOrder.{Fine}
use Rattle.plan.proofs.Kept.{lawful_to, range_from}

-- a list with one more at its end: as before below its old length, and the new one there
module _ {X : Type 0} (xs : List X) (x d : X) where
  pub older : (i : ℕ) → i < length xs → get_or (xs ++ x ∷ []) i d ≡ get_or xs i d
  older i lt = get_or_append_left xs (x ∷ []) d i lt

  pub newest : get_or (xs ++ x ∷ []) (length xs) d ≡ x
  newest = get_or_push xs x d (length xs) refl

  pub longer : length (xs ++ x ∷ []) ≡ suc (length xs)
  longer = length_push xs x ∙ omega arith

  pub either : (i : ℕ) → i < length (xs ++ x ∷ []) → (i < length xs) ⊎ (i ≡ length xs)
  either i lt = ⊎_elim (λ e. inr e) (λ n. inl (omega (arith, longer, n))) (cases_eq i (length xs))

-- counting in the longer list: one more if the new one passes
counted : {X : Type 0} (p : X → Bool) (xs : List X) (x d : X) → count (length (xs ++ x ∷ [])) (λ i. p (get_or (xs ++ x ∷ []) i d)) ≡ count (length xs) (λ i. p (get_or xs i d)) + cond (p x) 1 0
counted {X} p xs x d =
    let one : X → ℕ = λ y. cond (p y) 1 0 in
    total_list d one (xs ++ x ∷ []) ∙ sum_by_push one xs x ∙ ap (λ n. n + one x) (sym (total_list d one xs))

-- nothing passes below n
count_none : (n : ℕ) (p : ℕ → Bool) → ((k : ℕ) → k < n → p k ≡ false) → count n p ≡ 0
count_none zero p h = refl
count_none (suc n) p h = omega (arith, count_none n p (λ k lt. h k (omega arith)), ap (λ b. cond {A = ℕ} b 1 0) (h n (le_refl (suc n))))

count_some : (n k : ℕ) (p : ℕ → Bool) → k < n → p k ≡ true → 1 ≤ count n p
count_some zero k p lt t = absurd (omega arith)
count_some (suc n) k p lt t =
    ⊎_elim (λ e. omega (arith, ap (λ b. cond {A = ℕ} b 1 0) (subst (λ i. p i ≡ true) e t))) (λ ne. omega (arith, count_some n k p (omega arith) t)) (cases_eq k n)

pub count_has : (n : ℕ) (p : ℕ → Bool) → 1 ≤ count n p → (k : ℕ) × (k < n) × (p k ≡ true)
count_has zero p h = absurd (omega arith)
count_has (suc n) p h =
    ⊎_elim (λ t. (n, le_refl (suc n), t)) (λ f. let r = count_has n p (omega (arith, ap (λ b. cond {A = ℕ} b 1 0) f)) in (r.0, omega (arith, r.1), r.2)) (cases_Bool (p n))

-- What holds of a plan between two commands: the rules, but the last table may have no point yet, and the last point no task.
pub record Partial (c : Content) : Type 0 where
  pub few : table_count c ≤ max_tables
  pub tables : (i : ℕ) → i < table_count c → (1 ≤ duration_of c i) × (duration_of c i ≤ max_duration) × (points_of c i ≤ max_points)
  pub filled : (i : ℕ) → suc i < table_count c → 1 ≤ points_of c i
  pub points : (j : ℕ) → j < point_count c → (table_of_point c j < table_count c) × (position_of_point c j < duration_of c (table_of_point c j)) × (tasks_of c j ≤ max_tasks_of_point)
  pub rises : (j : ℕ) → suc j < point_count c → after c j (suc j) ≡ true
  pub busy : (j : ℕ) → suc j < point_count c → 1 ≤ tasks_of c j
  pub few_tasks : task_count c ≤ max_tasks
  pub tasks : (k : ℕ) → k < task_count c → ((task_at c k).point < point_count c) × (good_name (task_at c k).name ≡ true) × (1 ≤ (task_at c k).execution) × ((task_at c k).execution ≤ (task_at c k).deadline) × ((task_at c k).deadline ≤ duration_of c (table_of c k))
  pub sorted : (k : ℕ) → suc k < task_count c → (task_at c k).point ≤ (task_at c (suc k)).point

pub partial_blank : Partial blank
partial_blank = record {
  few = omega arith;
  tables = λ i lt. absurd (omega arith);
  filled = λ i lt. absurd (omega arith);
  points = λ j lt. absurd (omega arith);
  rises = λ j lt. absurd (omega arith);
  busy = λ j lt. absurd (omega arith);
  few_tasks = omega arith;
  tasks = λ k lt. absurd (omega arith);
  sorted = λ k lt. absurd (omega arith);
}

-- a point stands after another: what `after` tests of two of a plan's points
abbrev follows : Point → Point → Bool
follows a b = ltb a.table b.table || (eqb a.table b.table && ltb a.position b.position)

module _ (c : Content) (h : Partial c) where
  -- a table's duration is as it was once a table is added
  with_table_lem : (t : Table) → ((i : ℕ) → i < table_count c → duration_of (holding (c.tables ++ t ∷ []) c.points c.tasks) i ≡ duration_of c i)
  with_table_lem t i lt = ap (λ x. x.duration) (older c.tables t no_table i lt)

  table_of_task : (k : ℕ) → k < task_count c → table_of c k < table_count c
  table_of_task k lt = (h.points _ (h.tasks k lt).0).0

  keeps_table : (d : ℕ) → Fine c (set_table d) → Partial (added c (set_table d))
  keeps_table d f =
      let n = table_count c in
      let t : Table = record { duration = d } in
      let long = longer c.tables t no_table in
      let range = range_from 1 max_duration d (not-false _ f.range) in
      let same = with_table_lem t in
      let last : 0 < n → 1 ≤ points_here c = λ pos. grind (arith, nat_tests, f.finished) in
      record {
        few = grind (arith, nat_tests, long, f.many);
        tables = λ i lt.
            ⊎_elim
            (λ old. let b = h.tables i old in let e = same i old in (omega (arith, e, b.0), omega (arith, e, b.1), b.2))
            (λ new.
            let e : duration_of (added c (set_table d)) i ≡ d = ap (λ x. x.duration) (ap (λ k. get_or (c.tables ++ t ∷ []) k no_table) new ∙ newest c.tables t no_table) in
            let none : points_of c i ≡ 0 = count_none (point_count c) (λ j. eqb (table_of_point c j) i) (λ j jl. ne_eqb _ _ (λ q. absurd (omega (arith, (h.points j jl).0, q, new)))) in
            (omega (arith, e, range.0), omega (arith, e, range.1), omega (arith, none)))
            (either c.tables t no_table i lt);
        filled = λ i lt. grind (arith, nat_tests, last, h.filled i, long);
        points = λ j lt. let b = h.points j lt in (omega (arith, b.0, long), omega (arith, b.1, same _ b.0), b.2);
        rises = h.rises;
        busy = h.busy;
        few_tasks = h.few_tasks;
        tasks = λ k lt. let b = h.tasks k lt in (b.0, b.1, b.2, b.3, omega (arith, b.4, same _ (table_of_task k lt)));
        sorted = h.sorted;
      }

  -- a point may be added to the last table, after the points that it has
  pub record Fits (p : ℕ) : Type 0 where
    pub some : 1 ≤ table_count c
    pub busy : 0 < point_count c → 1 ≤ tasks_here c
    pub few : points_here c < max_points
    pub within : p < duration_here c
    pub above : 1 ≤ points_here c → position_here c < p

  last_before : (p : ℕ) → Fits p → (j : ℕ) → suc j ≡ point_count c → follows (get_or c.points j no_point) (record { table = table_count c - 1; position = p }) ≡ true
  last_before p f j e =
      let here : table_of_point c j ≡ table_count c - 1 → 1 ≤ points_here c = λ q. count_some (point_count c) j (λ k. eqb (table_of_point c k) (table_count c - 1)) (omega (arith, e)) (eq-eqb _ _ q) in
      grind (arith, nat_tests, (h.points j (omega (arith, e))).0, here, f.above)

  keeps_point : (p : ℕ) → Fits p → Partial (with_point c p)
  keeps_point p f =
      let n = table_count c in
      let m = point_count c in
      let x : Point = record { table = n - 1; position = p } in
      let long = longer c.points x no_point in
      let old : (j : ℕ) → j < m → get_or (c.points ++ x ∷ []) j no_point ≡ get_or c.points j no_point = older c.points x no_point in
      let new : (j : ℕ) → j ≡ m → get_or (c.points ++ x ∷ []) j no_point ≡ x = λ j e. ap (λ k. get_or (c.points ++ x ∷ []) k no_point) e ∙ newest c.points x no_point in
      let more : (i : ℕ) → points_of (with_point c p) i ≡ points_of c i + cond (eqb (n - 1) i) 1 0 = λ i. counted (λ y. eqb y.table i) c.points x no_point in
      record {
        few = h.few;
        tables = λ i lt.
            let b = h.tables i lt in (
              b.0,
              b.1,
              grind (arith, nat_tests, more i, f.few, b.2),
            );
        filled = λ i lt. omega (arith, more i, h.filled i lt);
        points = λ j lt.
            ⊎_elim
            (λ o. subst (λ y. (y.table < n) × (y.position < duration_of c y.table) × (tasks_of c j ≤ max_tasks_of_point)) (sym (old j o)) (h.points j o))
            (λ e.
            let none : tasks_of c j ≡ 0 = count_none (task_count c) (λ k. eqb (task_at c k).point j) (λ k kl. ne_eqb _ _ (λ q. absurd (omega (arith, (h.tasks k kl).0, q, e)))) in
            subst (λ y. (y.table < n) × (y.position < duration_of c y.table) × (tasks_of c j ≤ max_tasks_of_point)) (sym (new j e)) (omega (arith, f.some), f.within, omega (arith, none)))
            (either c.points x no_point j lt);
        rises = λ j lt.
            ⊎_elim
            (λ e. subst₂ (λ a b. follows a b ≡ true) (sym (old j (omega (arith, e)))) (sym (new (suc j) e)) (last_before p f j e))
            (λ ne. subst₂ (λ a b. follows a b ≡ true) (sym (old j (omega (arith, lt, long, ne)))) (sym (old (suc j) (omega (arith, lt, long, ne)))) (h.rises j (omega (arith, lt, long, ne))))
            (cases_eq (suc j) m);
        busy = λ j lt. grind (arith, nat_tests, f.busy, h.busy j, long);
        few_tasks = h.few_tasks;
        tasks = λ k lt. let b = h.tasks k lt in (omega (arith, b.0, long), b.1, b.2, b.3, subst (λ y. (task_at c k).deadline ≤ duration_of c y.table) (sym (old _ b.0)) b.4);
        sorted = h.sorted;
      }

  -- the tables of points never fall
  table_rises : (d j : ℕ) → j + d < point_count c → table_of_point c j ≤ table_of_point c (j + d)
  table_rises zero j lt = omega (arith, ap (table_of_point c) (add-zero j))
  table_rises (suc d) j lt =
      let q : j + suc d ≡ suc (j + d) = omega arith in
      let r = h.rises (j + d) (omega (arith, lt, q)) in
      let s : table_of_point c (j + d) ≤ table_of_point c (suc (j + d)) = grind (arith, nat_tests, r) in
      omega (arith, table_rises d j (omega (arith, lt, q)), s, ap (table_of_point c) q)

  -- where the last table has a point, the last point is one of its
  last_in : 1 ≤ table_count c → 1 ≤ points_here c → (0 < point_count c) × (table_of_point c (point_count c - 1) ≡ table_count c - 1)
  last_in some here =
      let one = count_has (point_count c) (λ j. eqb (table_of_point c j) (table_count c - 1)) here in
      let j = one.0 in
      let up = table_rises (point_count c - 1 - j) j (omega (arith, one.1)) in
      let q : j + (point_count c - 1 - j) ≡ point_count c - 1 = omega (arith, one.1) in
      let inside = (h.points (point_count c - 1) (omega (arith, one.1))).0 in
      (omega (arith, one.1), omega (arith, up, ap (table_of_point c) q, inside, eqb-true _ _ one.2))

  keeps_task : (name : List ℕ) (e d l : ℕ) → Fine c (set_task name e d l) → Partial (added c (set_task name e d l))
  keeps_task name e d l f =
      let n = table_count c in
      let m = point_count c in
      let q = task_count c in
      let x : Task = record { point = m - 1; name = name; execution = e; deadline = d; priority = l } in
      let long = longer c.tasks x no_task in
      let old : (k : ℕ) → k < q → get_or (c.tasks ++ x ∷ []) k no_task ≡ get_or c.tasks k no_task = older c.tasks x no_task in
      let new : (k : ℕ) → k ≡ q → get_or (c.tasks ++ x ∷ []) k no_task ≡ x = λ k s. ap (λ i. get_or (c.tasks ++ x ∷ []) i no_task) s ∙ newest c.tasks x no_task in
      let more : (j : ℕ) → tasks_of (added c (set_task name e d l)) j ≡ tasks_of c j + cond (eqb (m - 1) j) 1 0 = λ j. counted (λ y. eqb y.point j) c.tasks x no_task in
      let here = last_in (grind (arith, nat_tests, f.soon)) (grind (arith, nat_tests, f.soon)) in
      let r1 = and_parts _ (leb d (duration_here c)) (not-false _ f.range) in
      let r2 = and_parts _ (leb e d) r1.0 in
      let r3 = and_parts (good_name name) (leb 1 e) r2.0 in
      record {
        few = h.few;
        tables = h.tables;
        filled = h.filled;
        points = λ j lt.
            let b = h.points j lt in (
              b.0,
              b.1,
              grind (arith, nat_tests, more j, f.many, b.2),
            );
        rises = h.rises;
        busy = λ j lt. omega (arith, more j, h.busy j lt);
        few_tasks = grind (arith, nat_tests, long, f.many);
        tasks = λ k lt.
            ⊎_elim
            (λ o. subst (TaskFine m) (sym (old k o)) (h.tasks k o))
            (λ s. subst (TaskFine m) (sym (new k s)) (omega (arith, here.0), r3.0, leb-true _ _ r3.1, leb-true _ _ r2.1, subst (λ i. d ≤ duration_of c i) (sym here.1) (leb-true _ _ r1.1)))
            (either c.tasks x no_task k lt);
        sorted = λ k lt.
            let within : k < q → (task_at c k).point < m = λ below. (h.tasks k below).0 in
            grind (arith, old k, old (suc k), new (suc k), h.sorted k, within, long);
      }
    where
      TaskFine : ℕ → Task → Type 0
      TaskFine m t = (t.point < m) × (good_name t.name ≡ true) × (1 ≤ t.execution) × (t.execution ≤ t.deadline) × (t.deadline ≤ duration_of c (table_of_point c t.point))

  pub keeps : (e : Entry) → Fine c e → Partial (added c e)
  keeps (set_table d) f = keeps_table d f
  keeps (set_point p) f =
      keeps_point p (record {
        some = grind (arith, nat_tests, f.soon);
        busy = λ pos. grind (arith, nat_tests, f.finished);
        few = grind (arith, nat_tests, f.many);
        within = grind (arith, nat_tests, f.range);
        above = λ some. grind (arith, nat_tests, f.rising);
      })
  keeps (set_delay n) f =
      keeps_point (position_here c + n) (record {
        some = grind (arith, nat_tests, f.soon);
        busy = λ pos. grind (arith, nat_tests, f.finished);
        few = grind (arith, nat_tests, f.many);
        within = grind (arith, nat_tests, f.range);
        above = λ _. grind (arith, nat_tests, f.range);
      })
  keeps (set_task name e d l) f = keeps_task name e d l f
  keeps ends f = h

  pub finishes : Fine c ends → lawful c ≡ true
  finishes f =
      let n = table_count c in
      let m = point_count c in
      let q = task_count c in
      let here : 1 ≤ points_here c = grind (arith, nat_tests, f.finished) in
      let busy : 0 < m → 1 ≤ tasks_here c = λ pos. grind (arith, nat_tests, f.finished) in
      lawful_to c (record {
        some = grind (arith, nat_tests, f.finished);
        few = h.few;
        tables = λ i lt.
            let b = h.tables i lt in
            record { long = b.0; short = b.1; filled = grind (arith, nat_tests, here, h.filled i); few = b.2 };
        points = λ j lt.
            let b = h.points j lt in
            record {
              table_in = b.0;
              position_in = b.1;
              rises = λ pos. let s : suc (j - 1) ≡ j = omega arith in subst (λ k. after c (j - 1) k ≡ true) s (h.rises (j - 1) (omega (arith, s)));
              filled = grind (arith, nat_tests, busy, h.busy j);
              few = b.2;
            };
        few_tasks = h.few_tasks;
        tasks = λ k lt.
            let b = h.tasks k lt in
            record {
              point_in = b.0;
              rises = λ pos. let s : suc (k - 1) ≡ k = omega arith in subst (λ i. (task_at c (k - 1)).point ≤ (task_at c i).point) s (h.sorted (k - 1) (omega (arith, s)));
              named = b.1;
              runs = b.2;
              fits = b.3;
              due = b.4;
            };
        hyperperiod = grind (arith, nat_tests, f.hyper);
      })

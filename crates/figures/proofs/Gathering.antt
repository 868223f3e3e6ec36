-- The tasks of one table are gathered one by one. Assumes nothing.
use Rattle.std.proofs.Common.{◌≡◌, ℕ, ◌+◌, ◌-◌, ◌*◌, ◌<◌, ◌≤◌, Bool, true, cond, eqb, ltb, ◌≢◌, List, [], ◌∷◌, ◌++◌, length, sym, ap, ◌∙◌, subst, mul-zero, sum_by, All, arith}
use Rattle.std.proofs.lemmas.List.{length_push}
use Rattle.std.proofs.lemmas.List.Elements.{All-push}
use Rattle.std.proofs.lemmas.List.Sums.{sum_by_push}
use Rattle.std.proofs.lemmas.Bool.{eq-eqb, cond-true}
use Rattle.std.proofs.lemmas.Bool.Decides.{nat_tests}
use Rattle.theory.specs.Counting.{total}
use Rattle.plan.specs.declared.records.Table.{Table}
use Rattle.plan.specs.declared.records.Point.{Point}
use Rattle.plan.specs.declared.records.Task.{Task}
use Rattle.plan.specs.declared.model.Plan.{Plan}
use Rattle.plan.specs.Content.{Content, holding, table_count, point_count, task_count, duration_of, table_of, position_of, task_at}
use Rattle.plan.specs.Plans.{content}
use Rattle.plan.specs.Rules.{lawful}
use Rattle.plan.proofs.Kept.{lawful_from}
use Rattle.plan.specs.Limits.{max_tables, max_duration}
use Rattle.plan.proofs.Counted.{total_more}
use Rattle.figures.specs.declared.loads.Load.{Load}
use Rattle.figures.specs.declared.subject.Subject.{Subject}
use Rattle.analysis.specs.Bridge.{plan_of}
use Rattle.figures.specs.Loads.{activations, term_of, Small, Fine}
use Rattle.figures.specs.Grouped.{addition, GroupFor}

-- the loads stand for the tasks below k that count
pub record Gathered (c : Content) (t i : ℕ) (loads : List Load) (k : ℕ) : Type 0 where
  pub few : length loads ≤ k
  pub small : All (Small (duration_of c i)) loads
  pub adds : (φ z u : ℕ) → sum_by (λ l. term_of (duration_of c i) l φ z u) loads ≡ total k (addition (plan_of c) t i φ z u)

module _ (c : Content) (t i : ℕ) where
  gathered_skip : (loads : List Load) (k : ℕ) → Gathered c t i loads k → ((φ z u : ℕ) → addition (plan_of c) t i φ z u k ≡ 0) → Gathered c t i loads (k + 1)
  gathered_skip loads k g nothing = record {
    few = omega (arith, g.few);
    small = g.small;
    adds = λ φ z u. omega (arith, g.adds φ z u, total_more (addition (plan_of c) t i φ z u) k, nothing φ z u);
  }

  -- tasks of another table add nothing
  pub gathered_elsewhere : (loads : List Load) (k : ℕ) → table_of c k ≢ i → Gathered c t i loads k → Gathered c t i loads (k + 1)
  unfolding addition
  gathered_elsewhere loads k ne g = gathered_skip loads k g (λ φ z u. grind (arith, nat_tests))

  zeroed : (b : Bool) (p q m v u : ℕ) → q < p → cond b (m * cond (ltb p q) v (cond (eqb p q) u 0)) 0 ≡ 0
  zeroed b p q m v u h = grind (arith, nat_tests, mul-zero)

  -- nor do tasks that are less urgent
  pub gathered_less_urgent : (loads : List Load) (k : ℕ) → (task_at c t).priority < (task_at c k).priority → Gathered c t i loads k → Gathered c t i loads (k + 1)
  unfolding addition
  gathered_less_urgent loads k lt g =
      gathered_skip loads k g (λ φ z u. zeroed (eqb (table_of c k) i) (task_at c k).priority (task_at c t).priority (task_at c k).execution _ _ lt)

  -- the load of task k
  pub record LoadOf (k : ℕ) (l : Load) : Type 0 where
    pub leads : l.lead ≡ duration_of c i - 1 - position_of c k
    pub costs : l.cost ≡ (task_at c k).execution
    pub ranks : l.above ≡ ltb (task_at c k).priority (task_at c t).priority

  counted : (p q a z u : ℕ) (f : ℕ → ℕ) (b : Bool) → p ≤ q → b ≡ ltb p q → a * f (cond b z u) ≡ a * cond (ltb p q) (f z) (cond (eqb p q) (f u) 0)
  counted p q a z u f b le e = grind (arith, nat_tests)

  term_adds : (k : ℕ) (l : Load) → LoadOf k l → table_of c k ≡ i → (task_at c k).priority ≤ (task_at c t).priority → (φ z u : ℕ)
      → term_of (duration_of c i) l φ z u ≡ addition (plan_of c) t i φ z u k
  unfolding term_of addition
  term_adds k l o here urgent φ z u =
      let D = duration_of c i in
      let p = (task_at c k).priority in
      let q = (task_at c t).priority in
      ap (λ v. v * activations D l.lead φ (cond l.above z u)) o.costs
      ∙ ap (λ v. (task_at c k).execution * activations D v φ (cond l.above z u)) o.leads
      ∙ counted p q (task_at c k).execution z u (activations D (D - 1 - position_of c k) φ) l.above urgent o.ranks
      ∙ sym (cond-true _ _ _ (eq-eqb (table_of c k) i here))

  pub gathered_take : (loads : List Load) (k : ℕ) (l : Load) → LoadOf k l → Small (duration_of c i) l → table_of c k ≡ i
      → (task_at c k).priority ≤ (task_at c t).priority → Gathered c t i loads k → Gathered c t i (loads ++ l ∷ []) (k + 1)
  gathered_take loads k l o s here urgent g = record {
    few = omega (arith, g.few, length_push loads l);
    small = All-push (Small (duration_of c i)) loads l g.small s;
    adds = λ φ z u.
        let f = λ (m : Load). term_of (duration_of c i) m φ z u in
        omega (arith, sum_by_push f loads l, term_adds k l o here urgent φ z u, g.adds φ z u, total_more (addition (plan_of c) t i φ z u) k);
  }

-- what is known of each task of a plan
pub record Placed (c : Content) (k : ℕ) : Type 0 where
  pub point_in : (task_at c k).point < point_count c
  pub table_in : table_of c k < table_count c
  pub few : table_of c k < max_tables
  pub within : position_of c k < duration_of c (table_of c k)
  pub short : duration_of c (table_of c k) ≤ max_duration
  pub cheap : (task_at c k).execution ≤ max_duration

pub placed : (c : Content) → lawful c ≡ true → (k : ℕ) → k < task_count c → Placed c k
placed c kept k lt =
    let l = lawful_from c kept in
    let t = l.tasks k lt in
    let p = l.points _ t.point_in in
    let d = l.tables _ p.table_in in
    record {
      point_in = t.point_in;
      table_in = p.table_in;
      few = omega (arith, p.table_in, l.few);
      within = p.position_in;
      short = d.short;
      cheap = omega (arith, t.fits, t.due, d.short);
    }

-- the lists that are read of a plan are the plan's
module _ (p : Plan) {ts : List Table} {ps : List Point} {ks : List Task} (tables : ts ≡ (content p).tables) (points : ps ≡ (content p).points) (tasks : ks ≡ (content p).tasks) where
  pub read_same : holding ts ps ks ≡ content p
  read_same = cc

  pub lawful_read : lawful (holding ts ps ks) ≡ true
  lawful_read = subst (λ c. lawful c ≡ true) (sym read_same) p.kept

  pub placed_read : (k : ℕ) → k < length ks → Placed (holding ts ps ks) k
  placed_read = placed (holding ts ps ks) lawful_read

-- so the task that is looked for stands in them
pub placed_subject : (s : Subject) {ts : List Table} {ps : List Point} {ks : List Task} → ts ≡ (content s.plan.now).tables → ps ≡ (content s.plan.now).points
    → ks ≡ (content s.plan.now).tasks → Placed (holding ts ps ks) s.task
placed_subject s e f g = placed_read s.plan.now e f g s.task (omega (arith, s.inside, ap length g))

-- with all tasks seen, the loads are the table's group
pub gathered_fine : (c : Content) (t i D : ℕ) (loads : List Load) (k : ℕ) → lawful c ≡ true → i < table_count c → D ≡ duration_of c i → k ≤ task_count c
    → Gathered c t i loads k → Fine (record { duration = D; loads = loads })
gathered_fine c t i D loads k kept lt e all g =
    let l = lawful_from c kept in record {
      lasts = omega (arith, (l.tables i lt).long, e);
      short = omega (arith, (l.tables i lt).short, e);
      few = omega (arith, g.few, all, l.few_tasks);
      small = subst (λ m. All (Small m) loads) (sym e) g.small;
    }

pub gathered_all : (c : Content) (t i D : ℕ) (loads : List Load) (k : ℕ) → D ≡ duration_of c i → k ≡ task_count c
    → Gathered c t i loads k → GroupFor c t i (record { duration = D; loads = loads })
gathered_all c t i D loads k e all g = record {
  lasting = e;
  adds = λ φ z u.
      ap (λ m. sum_by (λ l. term_of m l φ z u) loads) e ∙ g.adds φ z u ∙ ap (λ m. total m (addition (plan_of c) t i φ z u)) all;
}

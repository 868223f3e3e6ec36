-- What the search knows of the plan: its windows are open, what it takes is a choice of the theory, and what it passes over is no better. Assumes nothing.
use Rattle.std.proofs.Common.{◌≡◌, ℕ, ◌+◌, ◌-◌, ◌%◌, ◌<◌, ◌≤◌, true, eqb, leb, ◌≢◌, List, length, get_or, set, sym, refl, ap, ◌∙◌, subst, vec_items, ⊎_elim, arith}
use Rattle.std.proofs.lemmas.List.{length-set, get_or-set_same, get_or-set_other}
use Rattle.std.proofs.lemmas.Bool.{cases_eq, cases_lt, eqb-true, leb-true}
use Rattle.theory.specs.Windows.{Choice}
use Rattle.theory.proofs.Reaches.{demand_within, reach_within_lem}
use Rattle.plan.specs.Content.{Content, table_count, task_count, duration_of, table_of, position_of, table_of_point, position_of_point, task_at}
use Rattle.plan.specs.Rules.{lawful, hyperperiod_of}
use Rattle.plan.proofs.Kept.{lawful_from}
use Rattle.plan.proofs.Setting.{count_has}
use Rattle.plan.proofs.Work.{hyperperiod_law}
use Rattle.figures.specs.declared.worst.Worst.{Worst}
use Rattle.figures.specs.declared.search.Search.{Search}
use Rattle.plan.specs.Plans.{content}
use Rattle.figures.specs.declared.windows.Own.{Own}
use Rattle.figures.specs.declared.windows.Window.{Window}
use Rattle.analysis.specs.Bridge.{plan_of}
use Rattle.figures.specs.Loads.{Rivals}
use Rattle.figures.specs.Reaches.{ReachOf}
use Rattle.figures.specs.Grouped.{Grouped}
use Rattle.figures.specs.Choices.{Has, Stands, Listed, ListedFor}
use Rattle.figures.specs.Ceilings.{ceiling_of, Within}
use Rattle.figures.specs.Worsts.{phase_of, Attains, WorstOf}
use Rattle.figures.specs.Tries.{Open, phase_in, Taken, Bettered}
use Rattle.figures.specs.Owns.{Prepared, WindowOf, Topped}
use Rattle.analysis.proofs.LawfulPlans.{plans_are_lawful_lem}
use Rattle.figures.proofs.Demands.{demand_is, reach_to, reach_from}
use Rattle.figures.proofs.Peaks.{ceiling_above}
use Rattle.figures.proofs.Phases.{phase_one}
use Rattle.figures.proofs.Trying.{enough_bounds, reach_same}

module _ (c : Content) (kept : lawful c ≡ true) where
  -- a position of a point is the position of a task
  stands_task : (i q : ℕ) → Stands c.points i q → (k : ℕ) × (k < task_count c) × (table_of c k ≡ i) × (q ≡ position_of c k)
  stands_task i q s =
      let j = s.0 in
      let k = count_has (task_count c) (λ k. eqb (task_at c k).point j) ((lawful_from c kept).points j s.1).filled in
      let at = eqb-true _ _ k.2 in
      (k.0, k.1, ap (table_of_point c) at ∙ s.2, sym (ap (position_of_point c) at ∙ s.3))

  task_stands : (i q k : ℕ) → k < task_count c → table_of c k ≡ i → q ≡ position_of c k → Stands c.points i q
  task_stands i q k lt e f = ((task_at c k).point, ((lawful_from c kept).tasks k lt).point_in, e, sym f)

  stands_below : (i q : ℕ) → Stands c.points i q → q < duration_of c i
  stands_below i q s =
      let p = (lawful_from c kept).points s.0 s.1 in
      omega (arith, p.position_in, ap (duration_of c) s.2, s.3)

  some_position : (i : ℕ) → (q : ℕ) × (i < table_count c → Stands c.points i q)
  some_position i =
      ⊎_elim
      (λ lt. let b = (plans_are_lawful_lem c kept).busy i lt in (position_of c b.0, λ _. task_stands i (position_of c b.0) b.0 b.1 b.2 refl))
      (λ le. (0, λ lt. absurd (omega (arith, lt, le))))
      (cases_lt i (table_count c))

  -- there is a choice
  pub some_choice : (own : ℕ) (choices : List (List ℕ)) → Listed c.points own (table_count c) choices → 0 < length choices
  some_choice own choices listed =
      let found = listed.complete (λ i. (some_position i).0) (λ i lt ne. (some_position i).1 lt) in
      omega (arith, found.1.1)

module _ (c : Content) (t : ℕ) (gs : List Rivals) (kept : lawful c ≡ true) (grouped : Grouped c t gs) where
  -- every point lies within its group
  pub all_within : Within c.points gs
  all_within j lt inside =
      let p = (lawful_from c kept).points j lt in
      omega (arith, p.position_in, (grouped.each (table_of_point c j) p.table_in).lasting)

module _ {c : Content} {t : ℕ} {gs : List Rivals} {choices : List (List ℕ)} {o : Own} (s : Prepared c t gs choices o) where
  own_in : table_of c t < table_count c
  own_in = (plans_are_lawful_lem c s.kept).table_in t s.task

  pub some_ticks : 0 < hyperperiod_of c
  some_ticks = (hyperperiod_law c s.kept).some

  -- the phases of a choice, with the own phase put in
  here : (w : Window) (x : ℕ) (v : List ℕ) → WindowOf o x w → Has choices v → phase_in w v (table_of c t) ≡ w.phase
  here w x v is h =
      let full = (s.listed.sound v h).full in
      let e : w.own ≡ table_of c t = is.owns ∙ s.own.table in
      ap (λ i. get_or (set v i w.phase) (table_of c t) 0) e
      ∙ get_or-set_same v (table_of c t) w.phase 0 (omega (arith, full, own_in, (lawful_from c s.kept).few))

  there : (w : Window) (x : ℕ) (v : List ℕ) (i : ℕ) → WindowOf o x w → i ≢ table_of c t → phase_in w v i ≡ get_or v i 0
  there w x v i is ne = get_or-set_other v w.own i w.phase 0 (λ e. ne (e ∙ is.owns ∙ s.own.table))

  phase_in_lem : (w : Window) (x : ℕ) (v : List ℕ) (i : ℕ) → WindowOf o x w → Has choices v → i < table_count c → phase_in w v i < duration_of c i
  phase_in_lem w x v i is h lt =
      ⊎_elim
      (λ mine. omega (arith, ap (phase_in w v) mine, here w x v is h, is.below, s.own.duration, ap (duration_of c) mine))
      (λ other. omega (arith, there w x v i is other, stands_below c s.kept i (get_or v i 0) ((s.listed.sound v h).stands i lt other)))
      (cases_eq i (table_of c t))

  pub opened : (w : Window) (x : ℕ) → WindowOf o x w → x < hyperperiod_of c → Open gs choices w
  opened w x is early =
      let tick = is.ticks in
      let limit : w.limit ≡ hyperperiod_of c = is.limits ∙ s.own.limit in
      record {
        phased = λ v h. record {
          enough = omega (arith, length-set v w.own w.phase, (s.listed.sound v h).full, s.grouped.all, (lawful_from c s.kept).few);
          below = λ i lt.
              let inside : i < table_count c = omega (arith, lt, s.grouped.all) in
              omega (arith, phase_in_lem w x v i is h inside, (s.grouped.each i inside).lasting);
        };
        light = λ φ.
            let met = demand_within (plan_of c) (plans_are_lawful_lem c s.kept) t w.tick φ (w.limit - w.tick) (omega (arith, tick, early)) (omega (arith, tick, limit, early)) in
            omega (arith, met, demand_is c t (plans_are_lawful_lem c s.kept) gs s.grouped φ w.tick (w.limit - w.tick), s.light, limit);
      }

  -- what is taken in a window is a choice with its reach
  pub taken_attains : (w : Window) (x : ℕ) (b : Worst) → WindowOf o x w → x < hyperperiod_of c → Taken gs choices w b → Attains c t b
  taken_attains w x b is early taken =
      let v = taken.choice.0 in
      let h = taken.choice.1 in
      let same : (i : ℕ) → phase_of b i ≡ phase_in w v i = λ i. ap (λ u. get_or u i 0) taken.choice.2 in
      let mine : phase_of b (table_of c t) ≡ w.phase = same (table_of c t) ∙ here w x v is h in
      let tick : b.tick ≡ x = taken.ticks ∙ is.ticks in
      record {
        choice = record {
          early = omega (arith, tick, early);
          within = omega (arith, mine, is.below, s.own.duration);
          meets = ap (λ q. (q + b.tick) % duration_of c (table_of c t)) mine ∙ ap (λ n. (w.phase + n) % duration_of c (table_of c t)) tick
              ∙ ap (λ D. (w.phase + x) % D) (sym s.own.duration) ∙ is.meets ∙ s.own.position;
          others = λ i lt ne.
              let k = stands_task c s.kept i (get_or v i 0) ((s.listed.sound v h).stands i lt ne) in
              (k.0, k.1, k.2, same i ∙ there w x v i is ne ∙ k.3);
        };
        reach = reach_to c t (plans_are_lawful_lem c s.kept) gs s.grouped b.tick (phase_of b) b.figure
            (subst (λ n. ReachOf gs n (phase_of b) b.figure) (sym taken.ticks) taken.reach);
        within = λ i lt. omega (arith, same i, phase_in_lem w x v i is h lt);
        rest = λ i le. same i ∙ there w x v i is (λ e. absurd (omega (arith, e, le, own_in))) ∙ (s.listed.sound v h).rest i le;
      }

  -- the phases of a choice of the theory
  module _ (w : Window) (x : ℕ) (is : WindowOf o x w) (φ : ℕ → ℕ) (chosen : Choice (plan_of c) t x φ) where
    chosen_own : φ (table_of c t) ≡ w.phase
    chosen_own =
        phase_one (duration_of c (table_of c t)) (φ (table_of c t)) w.phase x (position_of c t) chosen.within (omega (arith, is.below, s.own.duration)) chosen.meets
        (ap (λ D. (w.phase + x) % D) (sym s.own.duration) ∙ is.meets ∙ s.own.position)

    chosen_stands : (i : ℕ) → i < table_count c → i ≢ table_of c t → Stands c.points i (φ i)
    chosen_stands i lt ne = let k = chosen.others i lt ne in task_stands c s.kept i (φ i) k.0 k.1 k.2 k.3

  -- with all choices of the window tried, the best tops it
  pub bettered_tops : (w : Window) (x : ℕ) (a b : Worst) → WindowOf o x w → Bettered gs choices w a b → Topped c t x b.figure
  bettered_tops w x a b is better φ y chosen reached =
      let found = s.listed.complete φ (chosen_stands w x is φ chosen) in
      let v = found.0 in
      let h = found.1 in
      let same : (i : ℕ) → i < length gs → φ i ≡ phase_in w v i = λ i lt.
      ⊎_elim
      (λ mine. ap φ mine ∙ chosen_own w x is φ chosen ∙ sym (here w x v is h) ∙ ap (phase_in w v) (sym mine))
      (λ other. sym (found.2 i (omega (arith, lt, s.grouped.all)) other) ∙ sym (there w x v i is other))
      (cases_eq i (table_of c t)) in
      let r = reach_same gs x φ (phase_in w v) y same (reach_from c t (plans_are_lawful_lem c s.kept) gs s.grouped x φ y reached) in
      better.bounds v y h (subst (λ n. ReachOf gs n (phase_in w v) y) (sym is.ticks) r)

  -- where the ceiling is met, no choice is better
  pub ceiling_tops : (w : Window) (x f : ℕ) → WindowOf o x w → 1 ≤ f
      → true ≡ leb (ceiling_of c.points gs w.own w.phase (w.tick + f) (w.tick + 1)) (w.tick + f) → Topped c t x f
  ceiling_tops w x f is one met φ y chosen reached =
      let e : w.own ≡ table_of c t = is.owns ∙ s.own.table in
      let stands : (i : ℕ) → i < length gs → i ≢ w.own → Stands c.points i (φ i) =
      λ i lt ne. chosen_stands w x is φ chosen i (omega (arith, lt, s.grouped.all)) (λ q. ne (q ∙ sym e)) in
      let above = ceiling_above c.points gs w.own w.phase φ w.tick f (ap φ e ∙ chosen_own w x is φ chosen) stands in
      let r = reach_from c t (plans_are_lawful_lem c s.kept) gs s.grouped x φ y reached in
      enough_bounds gs w.tick φ y f (subst (λ n. ReachOf gs n φ y) (sym is.ticks) r) one (omega (arith, above, leb-true _ _ (sym met)))

  -- a window that lies too late for a better reach
  pub end_tops : (x f : ℕ) → hyperperiod_of c ≤ x + f → Topped c t x f
  end_tops x f late φ y chosen reached =
      omega (arith, reach_within_lem (plan_of c) t x φ y (plans_are_lawful_lem c s.kept) s.light chosen.early reached, late)

  pub worst_from : (w : Worst) → Attains c t w → ((x : ℕ) → x < hyperperiod_of c → Topped c t x w.figure) → WorstOf c t w
  worst_from w a tops = record {
    choice = a.choice;
    reach = a.reach;
    figure = record {
      bounds = λ x φ y chosen reached. tops x chosen.early φ y chosen reached;
      attained = (w.tick, phase_of w, a.choice, a.reach);
    };
    within = a.within;
    rest = a.rest;
  }

  pub bettered_attains : (w : Window) (x : ℕ) (a b : Worst) → WindowOf o x w → x < hyperperiod_of c → Bettered gs choices w a b → Attains c t a → Attains c t b
  bettered_attains w x a b is early better had =
      ⊎_elim (λ same. subst (Attains c t) (sym same) had) (λ taken. taken_attains w x b is early taken) better.origin

-- all that the search begins with, of what a search holds and the choices of its plan
pub prepared : (s : Search) → ListedFor (content s.subject.plan.now) s.subject.task (vec_items s.choices)
    → Prepared (content s.subject.plan.now) s.subject.task (vec_items s.groups) (vec_items s.choices) s.own
prepared s listed = record {
  kept = s.subject.plan.now.kept;
  task = s.subject.inside;
  light = omega (arith, s.subject.light, s.subject.multiple);
  grouped = s.grouped;
  listed = listed;
  own = s.owned;
}

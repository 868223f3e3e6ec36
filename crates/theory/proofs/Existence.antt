-- Every task of a plan that is not overloaded has a figure: the greatest reach is found by trying all choices. Assumes nothing.
use Rattle.std.proofs.Common.{◌≡◌, ℕ, zero, suc, ◌+◌, ◌-◌, ◌*◌, ◌<◌, ◌≤◌, cond, eqb, ◌⊎◌, sym, refl, ap, ◌∙◌, subst, inl, inr, ⊎_elim, arith}
use Rattle.std.proofs.lemmas.Bool.{cases_eq, cases_lt, eq-eqb, ne_eqb, cond-true, cond-false}
use Rattle.theory.specs.Counting.{count}
use Rattle.theory.specs.Plans.{Plan, Lawful, period, work}
use Rattle.theory.specs.Windows.{turned, demand, Choice, Reach, Figure, share}
use Rattle.theory.specs.Theorems.{FigureExists}
use Rattle.theory.proofs.Sums.{total_cong}
use Rattle.theory.proofs.Search.{some_below}
use Rattle.theory.proofs.Clocks.{own_phase, own_phase_below, own_phase_meets}
use Rattle.theory.proofs.Reaches.{lasts, reach, reach_unique_lem}

-- f with the value q at m
abbrev pub placed : (ℕ → ℕ) → ℕ → ℕ → ℕ → ℕ
placed f m q i = cond (eqb i m) q (f i)

pub placed_here : (f : ℕ → ℕ) (m q i : ℕ) → i ≡ m → placed f m q i ≡ q
placed_here f m q i e = cond-true _ _ _ (eq-eqb i m e)

pub placed_other : (f : ℕ → ℕ) (m q i : ℕ) → (i ≡ m → ⊥) → placed f m q i ≡ f i
placed_other f m q i ne = cond-false _ _ _ (ne_eqb i m ne)

module _ (p : Plan) (lawful : Lawful p) where
  -- only the phases of the plan's tables matter
  pub demand_same : (t x : ℕ) (φ ψ : ℕ → ℕ) (y : ℕ) → ((i : ℕ) → i < p.tables → φ i ≡ ψ i) → demand p t x φ y ≡ demand p t x ψ y
  demand_same t x φ ψ y same =
      total_cong p.tasks _ _ (λ k lt.
      ap (λ f. p.cost k * share p (p.pr t) k (count (x + y) (λ τ. eqb (turned (period p k) f τ) (p.pos k))) (count (x + 1) (λ τ. eqb (turned (period p k) f τ) (p.pos k)))) (same (p.tab k) (lawful.table_in k lt)))

  reach_same : (t x : ℕ) (φ ψ : ℕ → ℕ) (y : ℕ) → ((i : ℕ) → i < p.tables → φ i ≡ ψ i) → Reach p t x φ y → Reach p t x ψ y
  reach_same t x φ ψ y same r = record {
    some = r.some;
    ends = omega (arith, r.ends, demand_same t x φ ψ y same);
    first = λ v one less. omega (arith, r.first v one less, demand_same t x φ ψ v same);
  }

  module _ (light : work p ≤ p.hyper) (t : ℕ) (task : t < p.tasks) where
    -- q may be the phase of table i
    record Allowed (x i q : ℕ) : Type 0 where
      below : q < p.dur i
      own : i ≡ p.tab t → turned (p.dur i) q x ≡ p.pos t
      other : (i ≡ p.tab t → ⊥) → (k : ℕ) × (k < p.tasks) × (p.tab k ≡ i) × (q ≡ p.pos k)

    allowed_decided : (x i q : ℕ) → Allowed x i q ⊎ (Allowed x i q → ⊥)
    allowed_decided x i q =
        ⊎_elim
        (λ lt.
        ⊎_elim
        (λ mine.
        ⊎_elim
        (λ e. inl (record { below = lt; own = λ _. e; other = λ ne. absurd (ne mine) }))
        (λ ne. inr (λ o. ne (o.own mine)))
        (cases_eq (turned (p.dur i) q x) (p.pos t)))
        (λ others.
        ⊎_elim
        (λ f. inl (record { below = lt; own = λ e. absurd (others e); other = λ _. (f.0, f.1, f.2.0, f.2.1) }))
        (λ none. inr (λ o. let f = o.other others in none f.0 f.1 (f.2, f.3)))
        (some_below (λ k. (p.tab k ≡ i) × (q ≡ p.pos k))
        (λ k. ⊎_elim (λ e. ⊎_elim (λ g. inl (e, g)) (λ ne. inr (λ h. ne h.1)) (cases_eq q (p.pos k))) (λ ne. inr (λ h. ne h.0)) (cases_eq (p.tab k) i))
        p.tasks))
        (cases_eq i (p.tab t)))
        (λ le. inr (λ o. absurd (omega (arith, o.below))))
        (cases_lt q (p.dur i))

    -- every table has one
    some_allowed : (x i : ℕ) → i < p.tables → (q : ℕ) × Allowed x i q
    some_allowed x i inside =
        ⊎_elim
        (λ mine.
        let q = own_phase (period p t) (p.pos t) x in
        let meets = own_phase_meets (period p t) (p.pos t) x (lawful.position_in t task) in (
          q,
          record {
            below = subst (λ j. q < p.dur j) (sym mine) (own_phase_below (period p t) (p.pos t) x (lasts p lawful t task));
            own = λ _. subst (λ j. turned (p.dur j) q x ≡ p.pos t) (sym mine) meets;
            other = λ ne. absurd (ne mine);
          },
        ))
        (λ others.
        let b = lawful.busy i inside in (
          p.pos b.0,
          record {
            below = subst (λ j. p.pos b.0 < p.dur j) b.2 (lawful.position_in b.0 b.1);
            own = λ e. absurd (others e);
            other = λ _. (b.0, b.1, b.2, refl);
          },
        ))
        (cases_eq i (p.tab t))

    chosen_allowed : (x : ℕ) (φ : ℕ → ℕ) → Choice p t x φ → (i : ℕ) → i < p.tables → Allowed x i (φ i)
    chosen_allowed x φ c i inside =
        ⊎_elim
        (λ mine. record {
          below = subst (λ j. φ j < p.dur j) (sym mine) c.within;
          own = λ _. subst (λ j. turned (p.dur j) (φ j) x ≡ p.pos t) (sym mine) c.meets;
          other = λ ne. absurd (ne mine);
        })
        (λ others.
        let f = c.others i inside others in
        record {
          below = subst (λ q. q < p.dur i) (sym f.3) (subst (λ j. p.pos f.0 < p.dur j) f.2 (lawful.position_in f.0 f.1));
          own = λ e. absurd (others e);
          other = λ _. f;
        })
        (cases_eq i (p.tab t))

    allowed_chosen : (x : ℕ) (φ : ℕ → ℕ) → x < p.hyper → ((i : ℕ) → i < p.tables → Allowed x i (φ i)) → Choice p t x φ
    allowed_chosen x φ early o =
        let mine = o (p.tab t) (lawful.table_in t task) in
        record { early = early; within = mine.below; meets = mine.own refl; others = λ i inside ne. (o i inside).other ne }

    module _ (x : ℕ) (early : x < p.hyper) where
      -- φ has an allowed phase for each table below m, and the phases of ψ for the others
      record Among (m : ℕ) (ψ φ : ℕ → ℕ) : Type 0 where
        free : (i : ℕ) → i < m → Allowed x i (φ i)
        fixed : (i : ℕ) → m ≤ i → i < p.tables → φ i ≡ ψ i

      -- the greatest reach among those with Q
      record Best (m : ℕ) (ψ : ℕ → ℕ) (Q : (ℕ → ℕ) → Type 0) : Type 0 where
        phases : ℕ → ℕ
        value : ℕ
        among : Among m ψ phases
        reached : Reach p t x phases value
        greatest : (χ : ℕ → ℕ) (z : ℕ) → Among m ψ χ → Q χ → Reach p t x χ z → z ≤ value

      -- the same phases are the best among others, if their reach is the greatest there too
      best_of : {m : ℕ} {ψ : ℕ → ℕ} {Q R : (ℕ → ℕ) → Type 0} (b : Best m ψ Q) → ((χ : ℕ → ℕ) (z : ℕ) → Among m ψ χ → R χ → Reach p t x χ z → z ≤ b.value) → Best m ψ R
      best_of b all = record { phases = b.phases; value = b.value; among = b.among; reached = b.reached; greatest = all }

      -- with the phase q of table m, what is among m and among m + 1 is the same
      wider : (m q : ℕ) (ψ φ : ℕ → ℕ) → Allowed x m q → Among m (placed ψ m q) φ → m < p.tables → Among (suc m) ψ φ
      wider m q ψ φ o a inside =
          let here : φ m ≡ q = a.fixed m (omega arith) inside ∙ placed_here ψ m q m refl in
          record {
            free = λ i lt. ⊎_elim (λ e. subst (λ j. Allowed x j (φ j)) (sym e) (subst (Allowed x m) (sym here) o)) (λ ne. a.free i (omega arith)) (cases_eq i m);
            fixed = λ i le lt. a.fixed i (omega arith) lt ∙ placed_other ψ m q i (λ e. absurd (omega arith));
          }

      narrower : (m q : ℕ) (ψ χ : ℕ → ℕ) → χ m ≡ q → Among (suc m) ψ χ → Among m (placed ψ m q) χ
      narrower m q ψ χ here a = record {
        free = λ i lt. a.free i (omega arith);
        fixed = λ i le lt. ⊎_elim (λ e. ap χ e ∙ here ∙ sym (placed_here ψ m q i e)) (λ ne. a.fixed i (omega arith) lt ∙ sym (placed_other ψ m q i ne)) (cases_eq i m);
      }

      -- trying the phases of table m one by one, given the best for the tables before it
      tried : (m : ℕ) → m < p.tables → ((ψ : ℕ → ℕ) → Best m ψ (λ χ. Unit {0})) → (ψ : ℕ → ℕ) (d : ℕ)
          → ((q : ℕ) → q < d → Allowed x m q → ⊥) ⊎ Best (suc m) ψ (λ χ. χ m < d)
      tried m inside before ψ zero = inl (λ q lt o. absurd (omega arith))
      tried m inside before ψ (suc d) =
          ⊎_elim
          (λ o.
          let b = before (placed ψ m d) in
          let new : Best (suc m) ψ (λ χ. χ m ≡ d) = record {
            phases = b.phases;
            value = b.value;
            among = wider m d ψ b.phases o b.among inside;
            reached = b.reached;
            greatest = λ χ z a here r. b.greatest χ z (narrower m d ψ χ here a) tt r;
          } in
          ⊎_elim
          (λ none. inr (best_of new (λ χ z a lt r.
          ⊎_elim (λ here. new.greatest χ z a here r) (λ ne. absurd (none (χ m) (omega (arith, lt, ne)) (a.free m (omega arith)))) (cases_eq (χ m) d))))
          (λ old.
          let either : (χ : ℕ → ℕ) (z : ℕ) → Among (suc m) ψ χ → χ m < suc d → Reach p t x χ z → (z ≤ new.value) ⊎ (z ≤ old.value) = λ χ z a lt r.
          ⊎_elim (λ here. inl (new.greatest χ z a here r)) (λ ne. inr (old.greatest χ z a (omega (arith, lt, ne)) r)) (cases_eq (χ m) d) in
          inr (⊎_elim
          (λ less. best_of new (λ χ z a lt r. omega (arith, either χ z a lt r, less)))
          (λ ge. best_of old (λ χ z a lt r. omega (arith, either χ z a lt r, ge)))
          (cases_lt old.value new.value)))
          (tried m inside before ψ d))
          (λ out.
          ⊎_elim
          (λ none. inl (λ q lt o. ⊎_elim (λ e. out (subst (Allowed x m) e o)) (λ ne. none q (omega arith) o) (cases_eq q d)))
          (λ old. inr (best_of old (λ χ z a lt r.
          ⊎_elim (λ e. absurd (out (subst (Allowed x m) e (a.free m (omega arith))))) (λ ne. old.greatest χ z a (omega (arith, lt, ne)) r) (cases_eq (χ m) d))))
          (tried m inside before ψ d))
          (allowed_decided x m d)

      best : (m : ℕ) → m ≤ p.tables → (ψ : ℕ → ℕ) → Best m ψ (λ χ. Unit {0})
      best zero le ψ =
          let r = reach p lawful light t x ψ early in
          record {
            phases = ψ;
            value = r.0;
            among = record { free = λ i lt. absurd (omega arith); fixed = λ i le lt. refl };
            reached = r.1;
            greatest = λ χ z a u s. omega (arith, reach_unique_lem p t x ψ z r.0 (reach_same t x χ ψ z (λ i lt. a.fixed i (omega arith) lt) s) r.1);
          }
      best (suc m) le ψ =
          ⊎_elim
          (λ none. let o = some_allowed x m le in absurd (none o.0 o.1.below o.1))
          (λ b. best_of b (λ χ z a u r. b.greatest χ z a (a.free m (omega arith)).below r))
          (tried m le (best m (omega arith)) ψ (p.dur m))

      -- the greatest reach of all choices with this x
      record Top : Type 0 where
        phases : ℕ → ℕ
        value : ℕ
        choice : Choice p t x phases
        reached : Reach p t x phases value
        greatest : (χ : ℕ → ℕ) (z : ℕ) → Choice p t x χ → Reach p t x χ z → z ≤ value

      top : Top
      top =
          let b = best p.tables (omega arith) (λ i. 0) in
          record {
            phases = b.phases;
            value = b.value;
            choice = allowed_chosen x b.phases early b.among.free;
            reached = b.reached;
            greatest = λ χ z c r. b.greatest χ z (record { free = chosen_allowed x χ c; fixed = λ i le lt. absurd (omega arith) }) tt r;
          }

    -- the greatest reach of all choices with an x below d
    record Upto (d : ℕ) : Type 0 where
      x : ℕ
      phases : ℕ → ℕ
      value : ℕ
      choice : Choice p t x phases
      reached : Reach p t x phases value
      greatest : (v : ℕ) (χ : ℕ → ℕ) (z : ℕ) → v < d → Choice p t v χ → Reach p t v χ z → z ≤ value

    upto : (d : ℕ) → suc d ≤ p.hyper → Upto (suc d)
    upto zero le =
        let b = top 0 le in
        record {
          x = 0;
          phases = b.phases;
          value = b.value;
          choice = b.choice;
          reached = b.reached;
          greatest = λ v χ z lt c r. let e : v ≡ 0 = omega arith in b.greatest χ z (subst (λ u. Choice p t u χ) e c) (subst (λ u. Reach p t u χ z) e r);
        }
    upto (suc d) le =
        let old = upto d (omega arith) in
        let b = top (suc d) le in
        let either : (v : ℕ) (χ : ℕ → ℕ) (z : ℕ) → v < suc (suc d) → Choice p t v χ → Reach p t v χ z → (z ≤ b.value) ⊎ (z ≤ old.value) = λ v χ z lt c r.
        ⊎_elim
        (λ e. inl (b.greatest χ z (subst (λ u. Choice p t u χ) e c) (subst (λ u. Reach p t u χ z) e r)))
        (λ ne. inr (old.greatest v χ z (omega arith) c r))
        (cases_eq v (suc d)) in
        ⊎_elim
        (λ less. record { x = suc d; phases = b.phases; value = b.value; choice = b.choice; reached = b.reached; greatest = λ v χ z lt c r. omega (arith, either v χ z lt c r, less) })
        (λ ge. record { x = old.x; phases = old.phases; value = old.value; choice = old.choice; reached = old.reached; greatest = λ v χ z lt c r. omega (arith, either v χ z lt c r, ge) })
        (cases_lt old.value b.value)

    found : (f : ℕ) × Figure p t f
    found =
        let e : suc (p.hyper - 1) ≡ p.hyper = omega (arith, lawful.some) in
        let u = upto (p.hyper - 1) (omega (arith, e)) in (
          u.value,
          record {
            bounds = λ x φ y c r. u.greatest x φ y (omega (arith, e, c.early)) c r;
            attained = (u.x, u.phases, u.choice, u.reached);
          },
        )

pub figure_exists_lem : FigureExists
figure_exists_lem p t lawful light task = found p lawful light t task

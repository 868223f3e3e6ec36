-- No stretch of a run activates a task more often than a window of some choice does. Assumes nothing.
use Rattle.std.proofs.Common.{◌≡◌, ℕ, suc, ◌+◌, ◌-◌, ◌<◌, ◌≤◌, Bool, true, false, cond, eqb, sym, refl, ap, ◌∙◌, subst, inl, inr, ⊎_elim, add-zero, add-suc, arith}
use Rattle.std.proofs.lemmas.Bool.{cases_eq, cases_lt, cases_Bool, eq-eqb, ne_eqb, cond-true, cond-false, both_ways}
use Rattle.theory.specs.Counting.{count}
use Rattle.theory.specs.Plans.{Plan, Lawful, period}
use Rattle.theory.specs.Windows.{turned, hits, Choice}
use Rattle.theory.specs.Runs.{Run, Rounds, activated}
use Rattle.theory.proofs.Sums.{total_split, total_reversed, total_zero}
use Rattle.theory.proofs.Search.{find, some_below}
use Rattle.theory.proofs.Trains.{Train, no_more}
use Rattle.theory.proofs.Clocks.{turned_below, turned_start, turned_steps, own_phase, own_phase_below, own_phase_meets}

pub bit_single : (b : Bool) → cond {A = ℕ} b 1 0 ≤ 1
bit_single true = omega arith
bit_single false = omega arith

pub bit_true : (b : Bool) → 1 ≤ cond {A = ℕ} b 1 0 → b ≡ true
bit_true true h = refl
bit_true false h = absurd (omega arith)

bit_some : (a b : ℕ) → a ≡ b → 1 ≤ cond {A = ℕ} (eqb a b) 1 0
bit_some a b e = omega (arith, cond-true {A = ℕ} (eqb a b) 1 0 (eq-eqb a b e))

-- how often task k is activated in the z ticks from tick s on
abbrev pub came : Plan → Run → ℕ → ℕ → ℕ → ℕ
came p r s k z = count z (λ v. activated p r (s + v) k)

module _ (p : Plan) (r : Run) (rounds : Rounds p r) where
  -- one table i and one position q
  module _ (i : ℕ) (inside : i < p.tables) (q : ℕ) (below : q < p.dur i) where
    pub gap : (τ τ' : ℕ) → τ < τ' → r.runs i τ q ≡ true → r.runs i τ' q ≡ true → τ + p.dur i ≤ τ'
    gap τ τ' lt a b = ⊎_elim (λ e. absurd (omega (arith, e))) (λ le. omega (arith, le)) (rounds.apart i τ q τ' q inside a b (omega arith))

    -- counted forwards from tick s + j, in which the table is at o, where it is not at q before
    forward : (s j o z : ℕ) → r.runs i (s + j) o ≡ true → ((v : ℕ) → v < j → r.runs i (s + v) q ≡ true → ⊥)
        → count z (λ v. r.runs i (s + v) q) ≤ count z (λ τ. eqb (turned (p.dur i) o τ) q)
    forward s j o z anchor none =
        let D = p.dur i in
        let train : Train D q z (turned D o) (λ v. cond (r.runs i (s + v) q) 1 0) (λ τ. cond (eqb (turned D o τ) q) 1 0) = record {
          below = below;
          steps = λ v lt. turned_steps D o v (omega arith);
          shows = λ v lt. turned_below D o v (omega arith);
          single = λ v. bit_single _;
          gap = λ u v lt n a b. omega (arith, gap (s + u) (s + v) (omega arith) (bit_true _ a) (bit_true _ b));
          hit = λ v lt e. bit_some _ _ e;
          start = λ v lt e.
              let here = bit_true _ e in
              let later : j ≤ v = ⊎_elim (λ l. absurd (none v l here)) (λ l. l) (cases_lt v j) in
              let w = turned_start D o (rounds.within i (s + j) o inside anchor) in
              let far = rounds.apart i (s + j) o (s + v) q inside anchor here (omega arith) in
              (omega (arith, far, w), λ m. omega (arith, far, w, m, later));
        } in
        no_more train z (omega arith)

    -- in tick s + x the table is at o, and so is the window's in tick x
    module _ (s x o φ : ℕ) (anchor : r.runs i (s + x) o ≡ true) (meets : turned (p.dur i) φ x ≡ o) where
      backward : count (suc x) (λ v. r.runs i (s + v) q) ≤ count (suc x) (λ τ. eqb (turned (p.dur i) φ τ) q)
      backward =
          let D = p.dur i in
          let pos : 0 < D = omega arith in
          let b = λ (v : ℕ). cond {A = ℕ} (r.runs i (s + v) q) 1 0 in
          let g = λ (v : ℕ). cond {A = ℕ} (eqb (turned D φ v) q) 1 0 in
          let train : Train D (D - 1 - q) (suc x) (λ v. D - 1 - turned D φ (x - v)) (λ v. b (x - v)) (λ v. g (x - v)) = record {
            below = omega arith;
            steps = λ v lt.
                let e : x - v ≡ suc (x - suc v) = omega arith in
                let m = turned_below D φ (x - suc v) pos in
                let n = turned_below D φ (x - v) pos in
                let f = ap (turned D φ) e in
                ⊎_elim (λ a. inl (omega (arith, a, f, m, n))) (λ a. inr (omega (arith, a.0, a.1, f), omega (arith, a.0))) (turned_steps D φ (x - suc v) pos);
            shows = λ v lt. omega arith;
            single = λ v. bit_single _;
            gap = λ u v lt n a c. omega (arith, gap (s + (x - v)) (s + (x - u)) (omega arith) (bit_true _ c) (bit_true _ a));
            hit = λ v lt e. bit_some _ _ (omega (arith, e, turned_below D φ (x - v) pos));
            start = λ v lt e.
                let far = rounds.apart i (s + (x - v)) q (s + x) o inside (bit_true _ e) anchor (omega arith) in
                let z : turned D φ (x - 0) ≡ o = ap (turned D φ) (omega arith) ∙ meets in
                let w = rounds.within i (s + x) o inside anchor in
                (omega (arith, far, z, w), λ m. omega (arith, far, z, w, m));
          } in
          omega (arith, no_more train (suc x) (omega arith), total_reversed x b, total_reversed x g)

      after : (y : ℕ) → count y (λ v. r.runs i (s + (suc x + v)) q) ≤ count y (λ τ. eqb (turned (p.dur i) φ (suc x + τ)) q)
      after y =
          let D = p.dur i in
          let pos : 0 < D = omega arith in
          let train : Train D q y (λ v. turned D φ (suc x + v)) (λ v. cond (r.runs i (s + (suc x + v)) q) 1 0) (λ v. cond (eqb (turned D φ (suc x + v)) q) 1 0) = record {
            below = below;
            steps = λ v lt.
                let f = ap (turned D φ) (add-suc (suc x) v) in
                ⊎_elim (λ a. inl (f ∙ a)) (λ a. inr (a.0, f ∙ a.1)) (turned_steps D φ (suc x + v) pos);
            shows = λ v lt. turned_below D φ (suc x + v) pos;
            single = λ v. bit_single _;
            gap = λ u v lt n a c. omega (arith, gap (s + (suc x + u)) (s + (suc x + v)) (omega arith) (bit_true _ a) (bit_true _ c));
            hit = λ v lt e. bit_some _ _ e;
            start = λ v lt e.
                let far = rounds.apart i (s + x) o (s + (suc x + v)) q inside anchor (bit_true _ e) (omega arith) in
                let z : turned D φ (suc x + 0) ≡ turned D φ (suc x) = ap (turned D φ) (add-zero (suc x)) in
                let w = rounds.within i (s + x) o inside anchor in
                ⊎_elim
                (λ a. (omega (arith, far, z, w, a, meets), λ m. omega (arith, far, z, w, a, meets, m)))
                (λ a. (omega (arith, far, z, w, a.0, a.1, meets), λ m. absurd (omega (arith, z, a.1, m))))
                (turned_steps D φ x pos);
          } in
          no_more train y (omega arith)

      around : (y : ℕ) → count (suc x + y) (λ v. r.runs i (s + v) q) ≤ count (suc x + y) (λ τ. eqb (turned (p.dur i) φ τ) q)
      around y =
          omega (arith, backward, after y, total_split (suc x) y (λ v. cond (r.runs i (s + v) q) 1 0), total_split (suc x) y (λ τ. cond (eqb (turned (p.dur i) φ τ) q) 1 0))

  module _ (lawful : Lawful p) where
    -- q is the position of a task of table i, and from tick s on the table's tasks are activated no more often than where it turns from q
    pub record Leads (s i q : ℕ) : Type 0 where
      pub point : (k : ℕ) × (k < p.tasks) × (p.tab k ≡ i) × (q ≡ p.pos k)
      pub counts : (k z : ℕ) → k < p.tasks → p.tab k ≡ i → z ≤ p.hyper → came p r s k z ≤ count z (λ τ. eqb (turned (period p k) q τ) (p.pos k))

    -- the position of the first point that the table reaches
    first_point : (s i : ℕ) → i < p.tables → (q : ℕ) × Leads s i q
    first_point s i inside =
        ⊎_elim
        (λ f.
        let j = f.0 in
        let first = f.1 in
        let k₀ = first.has.0 in (
          p.pos k₀,
          record {
            point = (k₀, first.has.1, first.has.2, refl);
            counts = λ k z lt e le.
                forward (p.tab k) (lawful.table_in k lt) (p.pos k) (lawful.position_in k lt) s j (p.pos k₀) z
                (subst (λ n. r.runs n (s + j) (p.pos k₀) ≡ true) (first.has.2 ∙ sym e) first.has.3)
                (λ v l here. first.before v l (k, lt, e, here));
          },
        ))
        (λ none.
        let b = lawful.busy i inside in (
          p.pos b.0,
          record {
            point = (b.0, b.1, b.2, refl);
            counts = λ k z lt e le.
                omega (
                  arith,
                  total_zero z (λ v. cond (activated p r (s + v) k) 1 0) (λ v l.
                      ⊎_elim (λ t. absurd (none v (omega arith) (k, lt, e, t))) (λ f. cond-false _ 1 0 f) (cases_Bool (activated p r (s + v) k))),
                );
          },
        ))
        (find (λ j. (k : ℕ) × (k < p.tasks) × (p.tab k ≡ i) × (activated p r (s + j) k ≡ true))
        (λ j.
        ⊎_elim
        (λ f. inl (f.0, f.1, f.2.0, f.2.1))
        (λ no. inr (λ h. no h.0 h.1 (h.2, h.3)))
        (some_below (λ k. (p.tab k ≡ i) × (activated p r (s + j) k ≡ true))
        (λ k.
        ⊎_elim
        (λ e. ⊎_elim (λ t. inl (e, t)) (λ f. inr (λ h. both_ways _ f h.1)) (cases_Bool (activated p r (s + j) k)))
        (λ ne. inr (λ h. ne h.0))
        (cases_eq (p.tab k) i))
        p.tasks))
        p.hyper)

    leading : (s i : ℕ) → (q : ℕ) × (i < p.tables → Leads s i q)
    leading s i = ⊎_elim (λ lt. let f = first_point s i lt in (f.0, λ _. f.1)) (λ le. (0, λ lt. absurd (omega arith))) (cases_lt i p.tables)

    -- In a hyperperiod a task is activated no more often than in some window.
    pub came_within : (s k : ℕ) → k < p.tasks → (φ : ℕ → ℕ) × (came p r s k p.hyper ≤ hits p φ k p.hyper)
    came_within s k lt =
        let f = first_point s (p.tab k) (lawful.table_in k lt) in
        ((λ _. f.0), f.1.counts k p.hyper lt refl (omega arith))

    module _ (s t x : ℕ) (task : t < p.tasks) (early : x < p.hyper) (active : activated p r (s + x) t ≡ true) where
      own : ℕ
      own = own_phase (period p t) (p.pos t) x

      pub phases : ℕ → ℕ
      phases i = cond (eqb i (p.tab t)) own (leading s i).0

      own_is : (i : ℕ) → i ≡ p.tab t → phases i ≡ own
      unfolding phases
      own_is i e = cond-true _ _ _ (eq-eqb _ _ e)

      other_is : (i : ℕ) → (i ≡ p.tab t → ⊥) → phases i ≡ (leading s i).0
      unfolding phases
      other_is i ne = cond-false _ _ _ (ne_eqb _ _ ne)

      pub chosen : Choice p t x phases
      unfolding own
      chosen =
          let e = own_is (p.tab t) refl in
          let in-t = lawful.position_in t task in
          record {
            early = early;
            within = omega (arith, e, own_phase_below (period p t) (p.pos t) x (omega (arith, in-t)));
            meets = ap (λ f. turned (period p t) f x) e ∙ own_phase_meets (period p t) (p.pos t) x in-t;
            others = λ i lt ne. let f = ((leading s i).1 lt).point in (f.0, f.1, f.2, other_is i ne ∙ f.3);
          }

      -- tasks of t's own table, and of the others
      own_counts : (k y : ℕ) → k < p.tasks → p.tab k ≡ p.tab t → came p r s k (suc x + y) ≤ hits p phases k (suc x + y)
      own_counts k y lt e =
          around (p.tab k) (lawful.table_in k lt) (p.pos k) (lawful.position_in k lt) s x (p.pos t) (phases (p.tab k))
          (subst (λ n. r.runs n (s + x) (p.pos t) ≡ true) (sym e) active)
          (subst (λ n. turned (p.dur n) (phases n) x ≡ p.pos t) (sym e) chosen.meets) y

      other_counts : (k z : ℕ) → k < p.tasks → (p.tab k ≡ p.tab t → ⊥) → z ≤ p.hyper → came p r s k z ≤ hits p phases k z
      other_counts k z lt ne le =
          subst (λ f. came p r s k z ≤ count z (λ τ. eqb (turned (period p k) f τ) (p.pos k))) (sym (other_is (p.tab k) ne)) (((leading s (p.tab k)).1 (lawful.table_in k lt)).counts k z lt refl le)

      -- No task is activated more often in the run than in the window, up to any tick of it from x on.
      pub dominated : (k y : ℕ) → k < p.tasks → suc x + y ≤ p.hyper → came p r s k (suc x + y) ≤ hits p phases k (suc x + y)
      dominated k y lt le = ⊎_elim (λ e. own_counts k y lt e) (λ ne. other_counts k (suc x + y) lt ne le) (cases_eq (p.tab k) (p.tab t))

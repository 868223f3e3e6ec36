-- Choices are spread over the points of one table, one choice and one point after another. Assumes nothing.
use Rattle.std.proofs.Common.{◌≡◌, ℕ, zero, suc, ◌+◌, ◌<◌, ◌≤◌, ◌≢◌, ◌⊎◌, List, [], ◌∷◌, ◌++◌, length, get_or, set, sym, refl, ap, ◌∙◌, subst, inl, inr, ⊎_elim, below_more, arith}
use Rattle.std.proofs.lemmas.List.{length_push, get_or_push, get_or_append_left, length-set, get_or-set_same, get_or-set_other}
use Rattle.std.proofs.lemmas.Bool.{cases_eq}
use Rattle.plan.specs.declared.records.Point.{Point}
use Rattle.plan.specs.Content.{no_point}
use Rattle.plan.specs.Limits.{max_tables}
use Rattle.figures.specs.Choices.{Has, Stands, Spread, Sound, Listed}

has_old : (xs : List (List ℕ)) (x v : List ℕ) → Has xs v → Has (xs ++ x ∷ []) v
has_old xs x v h = (h.0, omega (arith, h.1, length_push xs x), get_or_append_left xs (x ∷ []) [] h.0 h.1 ∙ h.2)

has_new : (xs : List (List ℕ)) (x : List ℕ) → Has (xs ++ x ∷ []) x
has_new xs x = (length xs, omega (arith, length_push xs x), get_or_push xs x [] (length xs) refl)

has_either : (xs : List (List ℕ)) (x v : List ℕ) → Has (xs ++ x ∷ []) v → Has xs v ⊎ (v ≡ x)
has_either xs x v h =
    ⊎_elim
    (λ e. inr (sym h.2 ∙ ap (λ m. get_or (xs ++ x ∷ []) m []) e ∙ get_or_push xs x [] (length xs) refl))
    (λ ne. let lt : h.0 < length xs = omega (arith, h.1, length_push xs x, ne) in inl (h.0, lt, sym (get_or_append_left xs (x ∷ []) [] h.0 lt) ∙ h.2))
    (cases_eq h.0 (length xs))

-- after all points for the first m choices, and the first j points for the next
pub record Spreading (points : List Point) (i : ℕ) (earlier later : List (List ℕ)) (m j : ℕ) : Type 0 where
  pub sound : (v : List ℕ) → Has later v → (w : List ℕ) × (q : ℕ) × Has earlier w × Stands points i q × (v ≡ set w i q)
  pub done : (n q : ℕ) → n < m → Stands points i q → Has later (set (get_or earlier n []) i q)
  pub here : (k : ℕ) → k < j → (get_or points k no_point).table ≡ i → Has later (set (get_or earlier m []) i (get_or points k no_point).position)

module _ (points : List Point) (i : ℕ) (earlier : List (List ℕ)) where
  pub spreading_row : (later : List (List ℕ)) (m j : ℕ) → length points ≤ j → Spreading points i earlier later m j → Spreading points i earlier later (m + 1) 0
  spreading_row later m j all s = record {
    sound = s.sound;
    done = λ n q lt p.
        below_more (λ k. Has later (set (get_or earlier k []) i q)) m (λ k less. s.done k q less p)
        (subst (λ r. Has later (set (get_or earlier m []) i r)) p.3 (s.here p.0 (omega (arith, p.1, all)) p.2)) n lt;
    here = λ k lt e. absurd (omega arith);
  }

  pub spreading_skip : (later : List (List ℕ)) (m j : ℕ) → (get_or points j no_point).table ≢ i → Spreading points i earlier later m j → Spreading points i earlier later m (j + 1)
  spreading_skip later m j other s = record {
    sound = s.sound;
    done = s.done;
    here = below_more (λ k. (get_or points k no_point).table ≡ i → Has later (set (get_or earlier m []) i (get_or points k no_point).position)) j s.here
        (λ e. absurd (other e));
  }

  pub spreading_push : (later more : List (List ℕ)) (m j q : ℕ) → m < length earlier → j < length points → (get_or points j no_point).table ≡ i → q ≡ (get_or points j no_point).position
      → more ≡ later ++ set (get_or earlier m []) i q ∷ [] → Spreading points i earlier later m j → Spreading points i earlier more m (j + 1)
  spreading_push later more m j q ml jl at is e s =
      let x = set (get_or earlier m []) i q in
      let new : Spreading points i earlier (later ++ x ∷ []) m (j + 1) = record {
        sound = λ v h.
            ⊎_elim
            (λ old. s.sound v old)
            (λ same. (get_or earlier m [], q, (m, ml, refl), (j, jl, at, sym is), same))
            (has_either later x v h);
        done = λ n r lt p. has_old later x (set (get_or earlier n []) i r) (s.done n r lt p);
        here = below_more (λ k. (get_or points k no_point).table ≡ i → Has (later ++ x ∷ []) (set (get_or earlier m []) i (get_or points k no_point).position)) j
            (λ k lt f. has_old later x _ (s.here k lt f))
            (λ f. subst (λ r. Has (later ++ x ∷ []) (set (get_or earlier m []) i r)) is (has_new later x));
      } in
      subst (λ l. Spreading points i earlier l m (j + 1)) (sym e) new

  pub spreading_all : (later : List (List ℕ)) (m : ℕ) → length earlier ≤ m → Spreading points i earlier later m 0 → Spread points i earlier later
  spreading_all later m all s = record {
    sound = s.sound;
    complete = λ w q h p. subst (λ v. Has later (set v i q)) h.2 (s.done h.0 q (omega (arith, h.1, all)) p);
  }

abbrev unset : List ℕ
unset = 0 ∷ 0 ∷ 0 ∷ 0 ∷ []

zeros : (i : ℕ) → get_or unset i 0 ≡ 0
zeros zero = refl
zeros (suc zero) = refl
zeros (suc (suc zero)) = refl
zeros (suc (suc (suc zero))) = refl
zeros (suc (suc (suc (suc i)))) = refl

module _ (points : List Point) (own : ℕ) where
  -- the choice that has set nothing yet
  pub listed_none : (choices : List (List ℕ)) → choices ≡ unset ∷ [] → Listed points own 0 choices
  listed_none choices e = subst (Listed points own 0) (sym e) (record {
    sound = λ v h.
        let zeroth : h.0 ≡ 0 = omega (arith, h.1) in
        let first : unset ≡ v = subst (λ m. get_or (unset ∷ []) m [] ≡ v) zeroth h.2 in
        subst (Sound points own 0) first (record { full = refl; stands = λ i lt ne. absurd (omega arith); rest = λ i le. zeros i });
    complete = λ φ all. (unset, (0, omega arith, refl), λ i lt ne. absurd (omega arith));
  })

  -- the task's own table is passed over
  pub listed_own : (choices : List (List ℕ)) (n : ℕ) → n ≡ own → Listed points own n choices → Listed points own (n + 1) choices
  listed_own choices n mine l = record {
    sound = λ v h.
        let s = l.sound v h in
        record {
          full = s.full;
          stands = below_more (λ i. i ≢ own → Stands points i (get_or v i 0)) n s.stands (λ ne. absurd (ne mine));
          rest = λ i le. s.rest i (omega (arith, le));
        };
    complete = λ φ all.
        let r = l.complete φ (λ i lt ne. all i (omega (arith, lt)) ne) in
        (r.0, r.1, below_more (λ i. i ≢ own → get_or r.0 i 0 ≡ φ i) n r.2 (λ ne. absurd (ne mine)));
  }

  pub listed_spread : (choices more : List (List ℕ)) (n : ℕ) → n < max_tables → n ≢ own → Spread points n choices more → Listed points own n choices → Listed points own (n + 1) more
  listed_spread choices more n few other spread l = record {
    sound = λ v h.
        let r = spread.sound v h in
        let w = r.0 in
        let q = r.1 in
        let s = l.sound w r.2 in
        let inside : n < length w = omega (arith, s.full, few) in
        subst (Sound points own (n + 1)) (sym r.4) (record {
          full = length-set w n q ∙ s.full;
          stands = below_more (λ i. i ≢ own → Stands points i (get_or (set w n q) i 0)) n
              (λ i lt ne. subst (Stands points i) (sym (get_or-set_other w n i q 0 (λ e. absurd (omega (arith, e, lt))))) (s.stands i lt ne))
              (λ ne. subst (Stands points n) (sym (get_or-set_same w n q 0 inside)) r.3);
          rest = λ i le. get_or-set_other w n i q 0 (λ e. absurd (omega (arith, e, le))) ∙ s.rest i (omega (arith, le));
        });
    complete = λ φ all.
        let r = l.complete φ (λ i lt ne. all i (omega (arith, lt)) ne) in
        let w = r.0 in
        let s = l.sound w r.1 in
        let inside : n < length w = omega (arith, s.full, few) in (
          set w n (φ n),
          spread.complete w (φ n) r.1 (all n (omega arith) other),
          below_more (λ i. i ≢ own → get_or (set w n (φ n)) i 0 ≡ φ i) n
              (λ i lt ne. get_or-set_other w n i (φ n) 0 (λ e. absurd (omega (arith, e, lt))) ∙ r.2 i lt ne)
              (λ ne. get_or-set_same w n (φ n) 0 inside),
        );
  }

-- The front of a list of jobs, and what one more job makes of it. Assumes nothing.
use Rattle.std.specs.Prelude.{◌≡◌, ℕ, Bool, true, false, cond, not, ◌&&◌, ◌⊎◌, List, [], ◌∷◌, ◌++◌, Some, None, Option, ◌≢◌, refl}
use Rattle.std.proofs.Common.{sym, ap, ◌∙◌, subst, inl, inr, ⊎_elim, arith}
use Rattle.std.specs.Cmp.{IsStrictWeakOrder}
use Rattle.std.specs.Option.{option_to_list}
use Rattle.std.proofs.lemmas.List.{append-nil}
use Rattle.std.proofs.lemmas.Bool.{both_ways, cases_Bool, and_parts, and_from, cond-true, cond-false, not-true, not_from_false}
use Rattle.ready.specs.Calls.{Jobs, FrontBy}
use Rattle.ready.specs.Fronts.{unbeaten, first_passing, front_of, front_with}
use Rattle.ready.specs.declared.job.Job.{Job}

-- j is one of the list
abbrev pub In : List Job → Job → Type 0
In [] j = ⊥
In (x ∷ xs) j = (x ≡ j) ⊎ In xs j

pub in_left : (xs ys : List Job) (j : Job) → In xs j → In (xs ++ ys) j
in_left [] ys j h = absurd h
in_left (x ∷ xs) ys j (inl e) = inl e
in_left (x ∷ xs) ys j (inr h) = inr (in_left xs ys j h)

pub in_right : (xs ys : List Job) (j : Job) → In ys j → In (xs ++ ys) j
in_right [] ys j h = h
in_right (x ∷ xs) ys j h = inr (in_right xs ys j h)

pub in_either : (xs ys : List Job) (j : Job) → In (xs ++ ys) j → In xs j ⊎ In ys j
in_either [] ys j h = inr h
in_either (x ∷ xs) ys j (inl e) = inl (inl e)
in_either (x ∷ xs) ys j (inr h) = ⊎_elim (λ k. inl (inr k)) (λ k. inr k) (in_either xs ys j h)

-- ---- the first that passes
module _ (pass : Job → Bool) where
  pub first_in : (xs : List Job) (j : Job) → first_passing pass xs ≡ Some j → In xs j × (pass j ≡ true)
  first_in [] j e = let z : ◌≡◌ {A = ℕ} 0 1 = cc in absurd (omega arith)
  first_in (x ∷ xs) j e =
      ⊎_elim
      (λ h. let is : Some x ≡ Some j = sym (cond-true (pass x) (Some x) (first_passing pass xs) h) ∙ e in
      let same : x ≡ j = cc in (inl same, ap pass (sym same) ∙ h))
      (λ h. let f = first_in xs j (sym (cond-false (pass x) (Some x) (first_passing pass xs) h) ∙ e) in (inr f.0, f.1))
      (cases_Bool (pass x))

  pub first_none : (xs : List Job) → first_passing pass xs ≡ None → (i : Job) → In xs i → pass i ≡ false
  first_none [] e i h = absurd h
  first_none (x ∷ xs) e i h =
      ⊎_elim
      (λ k. let is : Some x ≡ None = sym (cond-true (pass x) (Some x) (first_passing pass xs) k) ∙ e in
      let z : ◌≡◌ {A = ℕ} 0 1 = cc in absurd (omega arith))
      (λ k. ⊎_elim (λ same. ap pass (sym same) ∙ k) (first_none xs (sym (cond-false (pass x) (Some x) (first_passing pass xs) k) ∙ e) i) h)
      (cases_Bool (pass x))

  pub none_first : (xs : List Job) → ((i : Job) → In xs i → pass i ≡ false) → first_passing pass xs ≡ None
  none_first [] h = refl
  none_first (x ∷ xs) h = cond-false (pass x) (Some x) (first_passing pass xs) (h x (inl refl)) ∙ none_first xs (λ i k. h i (inr k))

  -- the list and one more job
  pub first_more : (xs : List Job) (y : Job) → first_passing pass xs ≡ None → first_passing pass (xs ++ y ∷ []) ≡ cond (pass y) (Some y) None
  first_more [] y e = refl
  first_more (x ∷ xs) y e =
      let h = first_none (x ∷ xs) e x (inl refl) in
      cond-false (pass x) (Some x) (first_passing pass (xs ++ y ∷ [])) h
      ∙ first_more xs y (sym (cond-false (pass x) (Some x) (first_passing pass xs) h) ∙ e)

  -- under a test that fails wherever this one does, the same job is the first
  pub first_under : (under : Job → Bool) → ((i : Job) → pass i ≡ false → under i ≡ false) → (xs ys : List Job) (j : Job) → first_passing pass xs ≡ Some j → under j ≡ true → first_passing under (xs ++ ys) ≡ Some j
  first_under under falls [] ys j e u = let z : ◌≡◌ {A = ℕ} 0 1 = cc in absurd (omega arith)
  first_under under falls (x ∷ xs) ys j e u =
      ⊎_elim
      (λ h. let is : Some x ≡ Some j = sym (cond-true (pass x) (Some x) (first_passing pass xs) h) ∙ e in
      let same : x ≡ j = cc in
      cond-true (under x) (Some x) (first_passing under (xs ++ ys)) (ap under same ∙ u) ∙ is)
      (λ h. cond-false (under x) (Some x) (first_passing under (xs ++ ys)) (falls x h)
      ∙ first_under under falls xs ys j (sym (cond-false (pass x) (Some x) (first_passing pass xs) h) ∙ e) u)
      (cases_Bool (pass x))

-- ---- the front
module _ (beats : Job → Job → Bool) where
  pub unbeaten_by : (xs : List Job) (j : Job) → unbeaten beats xs j ≡ true → (i : Job) → In xs i → beats i j ≡ false
  unbeaten_by [] j u i h = absurd h
  unbeaten_by (x ∷ xs) j u i h =
      let p = and_parts (not (beats x j)) (unbeaten beats xs j) u in
      ⊎_elim (λ same. ap (λ k. beats k j) (sym same) ∙ not-true (beats x j) p.0) (unbeaten_by xs j p.1 i) h

  pub by_unbeaten : (xs : List Job) (j : Job) → ((i : Job) → In xs i → beats i j ≡ false) → unbeaten beats xs j ≡ true
  by_unbeaten [] j h = refl
  by_unbeaten (x ∷ xs) j h =
      and_from (not (beats x j)) (unbeaten beats xs j) (not_from_false (beats x j) (h x (inl refl))) (by_unbeaten xs j (λ i k. h i (inr k)))

  pub front_in : (xs : List Job) (j : Job) → front_of beats xs ≡ Some j → In xs j × ((i : Job) → In xs i → beats i j ≡ false)
  front_in xs j e = let f = first_in (unbeaten beats xs) xs j e in (f.0, unbeaten_by xs j f.1)

module _ (beats : Job → Job → Bool) (order : IsStrictWeakOrder beats) where
  not_self : (x : Job) → beats x x ≡ false
  not_self x = ⊎_elim (λ h. order.one_way x x h) (λ h. h) (cases_Bool (beats x x))

  -- a list with a job has one that none of it beats
  some_unbeaten : (x : Job) (xs : List Job) → (b : Job) × In (x ∷ xs) b × ((i : Job) → In (x ∷ xs) i → beats i b ≡ false)
  some_unbeaten x [] = (x, inl refl, λ i h. ⊎_elim (λ same. ap (λ k. beats k x) (sym same) ∙ not_self x) (λ k. absurd k) h)
  some_unbeaten x (y ∷ ys) =
      let r = some_unbeaten y ys in
      let b = r.0 in
      ⊎_elim
      (λ h. (x, inl refl, λ i k. ⊎_elim (λ same. ap (λ z. beats z x) (sym same) ∙ not_self x) (λ l. order.chain i b x (r.2 i l) (order.one_way x b h)) k))
      (λ h. (b, inr r.1, λ i k. ⊎_elim (λ same. ap (λ z. beats z b) (sym same) ∙ h) (r.2 i) k))
      (cases_Bool (beats x b))

  pub front_none : (xs : List Job) → front_of beats xs ≡ None → xs ≡ []
  front_none [] e = refl
  front_none (x ∷ xs) e =
      let r = some_unbeaten x xs in
      absurd (both_ways (unbeaten beats (x ∷ xs) r.0) (first_none (unbeaten beats (x ∷ xs)) (x ∷ xs) e r.0 r.1) (by_unbeaten beats (x ∷ xs) r.0 r.2))

  module _ (xs : List Job) (y : Job) where
    -- a job that neither a job of the list nor y beats
    in_all : (j : Job) → ((i : Job) → In xs i → beats i j ≡ false) → beats y j ≡ false → unbeaten beats (xs ++ y ∷ []) j ≡ true
    in_all j of-xs of-y =
        by_unbeaten beats (xs ++ y ∷ []) j
        (λ i k. ⊎_elim (of-xs i) (λ l. ⊎_elim (λ same. ap (λ z. beats z j) (sym same) ∙ of-y) (λ z. absurd z) l) (in_either xs (y ∷ []) i k))

    beaten_still : (i : Job) → (unbeaten beats (xs ++ y ∷ []) i ≢ true) → unbeaten beats (xs ++ y ∷ []) i ≡ false
    beaten_still i h = ⊎_elim (λ u. absurd (h u)) (λ u. u) (cases_Bool (unbeaten beats (xs ++ y ∷ []) i))

    takes_lead : (b : Job) → front_of beats xs ≡ Some b → beats y b ≡ true → front_of beats (xs ++ y ∷ []) ≡ Some y
    takes_lead b e h =
        let f = front_in beats xs b e in
        let none = none_first (unbeaten beats (xs ++ y ∷ [])) xs
        (λ i k. beaten_still i (λ u. both_ways (beats y b) (order.chain y i b (unbeaten_by beats (xs ++ y ∷ []) i u y (in_right xs (y ∷ []) y (inl refl))) (f.1 i k)) h)) in
        first_more (unbeaten beats (xs ++ y ∷ [])) xs y none
        ∙ cond-true (unbeaten beats (xs ++ y ∷ []) y) (Some y) None (in_all y (λ i k. order.chain i b y (f.1 i k) (order.one_way y b h)) (not_self y))

    keeps_lead : (b : Job) → front_of beats xs ≡ Some b → beats y b ≡ false → front_of beats (xs ++ y ∷ []) ≡ Some b
    keeps_lead b e h =
        let f = front_in beats xs b e in
        first_under (unbeaten beats xs) (unbeaten beats (xs ++ y ∷ []))
        (λ i no_more. beaten_still i (λ u. both_ways (unbeaten beats xs i) no_more (by_unbeaten beats xs i (λ k l. unbeaten_by beats (xs ++ y ∷ []) i u k (in_left xs (y ∷ []) k l)))))
        xs (y ∷ []) b e (in_all b f.1 h)

  -- the front of a list and what follows it, by the list's front
  pub front_more : (xs : List Job) (given : Option Job) → front_of beats (xs ++ option_to_list given) ≡ front_with beats (front_of beats xs) given
  front_more xs None = ap (front_of beats) (append-nil xs) ∙ kept (front_of beats xs)
    where
      kept : (o : Option Job) → o ≡ front_with beats o None
      kept None = refl
      kept (Some b) = refl
  front_more xs (Some y) = go (front_of beats xs) refl
    where
      go : (o : Option Job) → front_of beats xs ≡ o → front_of beats (xs ++ y ∷ []) ≡ front_with beats o (Some y)
      go None e =
          ap (λ l. front_of beats (l ++ y ∷ [])) (front_none xs e)
          ∙ cond-true (not (beats y y) && true) (Some y) None (and_from (not (beats y y)) true (not_from_false (beats y y) (not_self y)) refl)
      go (Some b) e =
          ⊎_elim
          (λ h. takes_lead xs y b e h ∙ sym (cond-true (beats y b) (Some y) (Some b) h))
          (λ h. keeps_lead xs y b e h ∙ sym (cond-false (beats y b) (Some y) (Some b) h))
          (cases_Bool (beats y b))

  -- a list that has just the jobs of a map has the map's front
  pub front_by : (js : Jobs) (xs : List Job) → ((t : ℕ) (i : Job) → js t ≡ Some i → In xs i) → ((i : Job) → In xs i → js i.task ≡ Some i) → FrontBy beats js (front_of beats xs)
  front_by js xs held is = go (front_of beats xs) refl
    where
      nothing : (o : Option Job) → ((i : Job) → o ≢ Some i) → o ≡ None
      nothing None h = refl
      nothing (Some i) h = absurd (h i refl)

      go : (o : Option Job) → front_of beats xs ≡ o → FrontBy beats js o
      go None e = λ t. nothing (js t) (λ i h. let none : In [] i = subst (λ l. In l i) (front_none xs e) (held t i h) in none)
      go (Some j) e = let f = front_in beats xs j e in (is j f.0, λ t i h. f.1 i (held t i h))

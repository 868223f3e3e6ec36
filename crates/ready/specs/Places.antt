-- The place of a task's job in a list: whether there is one, and the list with another job there. Assumes nothing.
use Rattle.std.specs.Prelude.{◌≡◌, ℕ, zero, suc, ◌<◌, Bool, true, false, cond, List, [], ◌∷◌, length, is_some, Some, None, Option, IfSome, ◌==◌, ◌≢◌, slice_index_or, slice_set, refl}
use Rattle.std.proofs.Common.{sym, ap, ◌∙◌, arith}
use Rattle.std.specs.List.{remove}
use Rattle.std.proofs.lemmas.Bool.{eq-eqb, ne_eqb, cond-true, cond-false}
use Rattle.ready.specs.Arrivals.{job_of, blank, PlaceOf, replaced}
use Rattle.ready.specs.declared.job.Job.{Job}

-- the same place in a list without its first job
past : (x : Job) (xs : List Job) (t k : ℕ) → PlaceOf (x ∷ xs) t (suc k) → PlaceOf xs t k
past x xs t k p = (omega (arith, p.0), p.1, λ m h e. p.2 (suc m) (omega arith) e)

-- the first job is not of the task, or is
apart : (x : Job) (xs : List Job) (t k : ℕ) → PlaceOf (x ∷ xs) t (suc k) → (t == x.task) ≡ false
apart x xs t k p = ne_eqb t x.task (λ e. p.2 0 (omega arith) (sym e))

here : (x : Job) (xs : List Job) (t : ℕ) → PlaceOf (x ∷ xs) t 0 → (t == x.task) ≡ true
here x xs t p = eq-eqb t x.task (sym p.1)

pub place_held : (xs : List Job) (t k : ℕ) → PlaceOf xs t k → is_some (job_of xs t) ≡ true
place_held [] t k p = let none : ⊥ = omega (arith, p.0) in absurd none
place_held (x ∷ xs) t zero p = ap is_some (cond-true (t == x.task) (Some x) (job_of xs t) (here x xs t p))
place_held (x ∷ xs) t (suc k) p =
    ap is_some (cond-false (t == x.task) (Some x) (job_of xs t) (apart x xs t k p)) ∙ place_held xs t k (past x xs t k p)

pub none_held : (xs : List Job) (t : ℕ) → ((m : ℕ) → m < length xs → (slice_index_or xs m blank).task ≢ t) → is_some (job_of xs t) ≡ false
none_held [] t h = refl
none_held (x ∷ xs) t h =
    ap is_some (cond-false (t == x.task) (Some x) (job_of xs t) (ne_eqb t x.task (λ e. h 0 (omega arith) (sym e))))
    ∙ none_held xs t (λ m l e. h (suc m) (omega arith) e)

-- whether a place is known is whether a job is held, if what is known is right
pub known_held : (xs : List Job) (t : ℕ) (o : Option ℕ) → IfSome o (PlaceOf xs t) → (o ≡ None → (m : ℕ) → m < length xs → (slice_index_or xs m blank).task ≢ t) → is_some o ≡ is_some (job_of xs t)
known_held xs t None f n = sym (none_held xs t (n refl))
known_held xs t (Some k) f n = sym (place_held xs t k f)

place_set : (xs : List Job) (t k : ℕ) (j : Job) → PlaceOf xs t k → replaced xs t (Some j) ≡ slice_set xs k j
place_set [] t k j p = refl
place_set (x ∷ xs) t zero j p = cond-true (t == x.task) (j ∷ xs) (x ∷ replaced xs t (Some j)) (here x xs t p)
place_set (x ∷ xs) t (suc k) j p =
    cond-false (t == x.task) (j ∷ xs) (x ∷ replaced xs t (Some j)) (apart x xs t k p) ∙ ap (λ l. x ∷ l) (place_set xs t k j (past x xs t k p))

place_removed : (xs : List Job) (t k : ℕ) → PlaceOf xs t k → replaced xs t None ≡ remove xs k
place_removed [] t k p = let none : ⊥ = omega (arith, p.0) in absurd none
place_removed (x ∷ xs) t zero p = cond-true (t == x.task) xs (x ∷ replaced xs t None) (here x xs t p)
place_removed (x ∷ xs) t (suc k) p =
    cond-false (t == x.task) xs (x ∷ replaced xs t None) (apart x xs t k p) ∙ ap (λ l. x ∷ l) (place_removed xs t k (past x xs t k p))

-- the list with the job at its task's place, or without a job there once no tick is left
pub place_settled : (xs : List Job) (t k : ℕ) (j : Job) → PlaceOf xs t k → (b : Bool) → cond b (slice_set xs k j) (remove xs k) ≡ replaced xs t (cond b (Some j) None)
place_settled xs t k j p true = sym (place_set xs t k j p)
place_settled xs t k j p false = sym (place_removed xs t k p)

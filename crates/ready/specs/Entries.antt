-- A sound list of jobs: what it holds, and what a put and a serve make of it. Assumes nothing.
use Rattle.std.specs.Prelude.{◌≡◌, ℕ, Bool, true, false, cond, List, [], ◌∷◌, ◌++◌, is_some, Some, None, Option, ◌==◌, nat_eq, nat_lt, slice_set, refl}
use Rattle.std.proofs.Common.{sym, ap, ◌∙◌, subst, inl, inr, ⊎_elim, arith}
use Rattle.std.specs.List.{remove}
use Rattle.std.specs.Option.{option_to_list}
use Rattle.std.specs.Map.{update}
use Rattle.std.proofs.lemmas.Bool.{both_ways, cases_Bool, cond-true, cond-false, eq-eqb}
use Rattle.std.proofs.lemmas.Bool.Decides.{nat_tests}
use Rattle.ready.specs.Jobs.{task_limit, fit, ahead, remaining}
use Rattle.ready.specs.Calls.{placed, FrontBy}
use Rattle.ready.specs.Fronts.{front_of}
use Rattle.ready.specs.Arrivals.{job_of, sound, PlaceOf, replaced}
use Rattle.ready.specs.declared.job.Job.{Job}
use Rattle.ready.specs.Leads.{In, front_by}
use Rattle.ready.specs.Places.{place_held, place_settled}
use Rattle.ready.specs.Ranks.{ahead_ranks}

-- ---- what the list holds
pub held_entry : (xs : List Job) (t : ℕ) (i : Job) → job_of xs t ≡ Some i → In xs i
held_entry [] t i e = let z : ◌≡◌ {A = ℕ} 0 1 = cc in absurd (omega arith)
held_entry (x ∷ xs) t i e =
    ⊎_elim
    (λ h. let is : Some x ≡ Some i = sym (cond-true (t == x.task) (Some x) (job_of xs t) h) ∙ e in let same : x ≡ i = cc in inl same)
    (λ h. inr (held_entry xs t i (sym (cond-false (t == x.task) (Some x) (job_of xs t) h) ∙ e)))
    (cases_Bool (t == x.task))

-- the parts of a sound list
pub free_rest : (x : Job) (xs : List Job) → sound (x ∷ xs) ≡ true → is_some (job_of xs x.task) ≡ false
free_rest x xs s = grind (arith, nat_tests)

pub sound_rest : (x : Job) (xs : List Job) → sound (x ∷ xs) ≡ true → sound xs ≡ true
sound_rest x xs s = grind (arith, nat_tests)

pub entry_held : (xs : List Job) → sound xs ≡ true → (i : Job) → In xs i → job_of xs i.task ≡ Some i
entry_held [] s i h = absurd h
entry_held (x ∷ xs) s i (inl e) =
    subst (λ k. job_of (x ∷ xs) k.task ≡ Some k) e (cond-true (x.task == x.task) (Some x) (job_of xs x.task) (eq-eqb x.task x.task refl))
entry_held (x ∷ xs) s i (inr h) =
    let IH = entry_held xs (sound_rest x xs s) i h in grind (arith, nat_tests, IH, free_rest x xs s)

pub entry_placed : (xs : List Job) → sound xs ≡ true → (t : ℕ) → placed t (job_of xs t) ≡ true
entry_placed [] s t = refl
entry_placed (x ∷ xs) s t = let IH = entry_placed xs (sound_rest x xs s) t in grind (arith, nat_tests, IH)

pub arrival_front : (xs : List Job) → sound xs ≡ true → FrontBy ahead (job_of xs) (front_of ahead xs)
arrival_front xs s = front_by ahead ahead_ranks (job_of xs) xs (held_entry xs) (entry_held xs s)

-- ---- one job more
pub pushed : (xs : List Job) (j : Job) → is_some (job_of xs j.task) ≡ false → (t : ℕ) → job_of (xs ++ j ∷ []) t ≡ update nat_eq (job_of xs) j.task (Some j) t
pushed [] j free t = grind (arith, nat_tests)
pushed (x ∷ xs) j free t = let IH = pushed xs j in grind (arith, nat_tests, IH)

pub pushed_sound : (xs : List Job) (j : Job) → sound xs ≡ true → fit j ≡ true → is_some (job_of xs j.task) ≡ false → sound (xs ++ j ∷ []) ≡ true
pushed_sound [] j s f free = grind (arith, nat_tests)
pushed_sound (x ∷ xs) j s f free = let IH = pushed_sound xs j in grind (arith, nat_tests, IH, pushed xs j)

-- ---- another job, or nothing, in the place of one
head_jobs : (xs : List Job) (u : ℕ) (given : Option Job) → is_some (job_of xs u) ≡ false → placed u given ≡ true → (t : ℕ) → job_of (option_to_list given ++ xs) t ≡ update nat_eq (job_of xs) u given t
head_jobs xs u None free p t = grind (arith, nat_tests)
head_jobs xs u (Some j) free p t = grind (arith, nat_tests)

head_sound : (xs : List Job) (u : ℕ) (given : Option Job) → sound xs ≡ true → is_some (job_of xs u) ≡ false → placed u given ≡ true → sound (option_to_list given ++ xs) ≡ true
head_sound xs u None s free p = s
head_sound xs u (Some j) s free p = grind (arith, nat_tests)

at_head : (x : Job) (xs : List Job) (u : ℕ) → sound (x ∷ xs) ≡ true → (u == x.task) ≡ true → is_some (job_of xs u) ≡ false
at_head x xs u s h = grind (arith, nat_tests, free_rest x xs s)

past_head : (x : Job) (xs : List Job) (u : ℕ) → is_some (job_of (x ∷ xs) u) ≡ true → (u == x.task) ≡ false → is_some (job_of xs u) ≡ true
past_head x xs u held h = grind (arith, nat_tests)

pub replaced_jobs : (xs : List Job) (u : ℕ) (given : Option Job) → sound xs ≡ true → is_some (job_of xs u) ≡ true → placed u given ≡ true → (t : ℕ) → job_of (replaced xs u given) t ≡ update nat_eq (job_of xs) u given t
replaced_jobs [] u given s held p t = absurd (both_ways false refl held)
replaced_jobs (x ∷ xs) u given s held p t =
    ⊎_elim
    (λ h. ap (λ l. job_of l t) (cond-true (u == x.task) (option_to_list given ++ xs) (x ∷ replaced xs u given) h)
    ∙ head_jobs xs u given (at_head x xs u s h) p t ∙ grind (arith, nat_tests, h))
    (λ h. ap (λ l. job_of l t) (cond-false (u == x.task) (option_to_list given ++ xs) (x ∷ replaced xs u given) h)
    ∙ grind (arith, nat_tests, h, replaced_jobs xs u given (sound_rest x xs s) (past_head x xs u held h) p t))
    (cases_Bool (u == x.task))

pub replaced_sound : (xs : List Job) (u : ℕ) (given : Option Job) → sound xs ≡ true → is_some (job_of xs u) ≡ true → placed u given ≡ true → sound (replaced xs u given) ≡ true
replaced_sound [] u given s held p = refl
replaced_sound (x ∷ xs) u given s held p =
    ⊎_elim
    (λ h. ap sound (cond-true (u == x.task) (option_to_list given ++ xs) (x ∷ replaced xs u given) h)
    ∙ head_sound xs u given (sound_rest x xs s) (at_head x xs u s h) p)
    (λ h. ap sound (cond-false (u == x.task) (option_to_list given ++ xs) (x ∷ replaced xs u given) h)
    ∙ grind (arith, nat_tests, h, replaced_sound xs u given (sound_rest x xs s) (past_head x xs u held h) p, replaced_jobs xs u given (sound_rest x xs s) (past_head x xs u held h) p x.task))
    (cases_Bool (u == x.task))

-- ---- a change of the whole list
pub record Appended (xs : List Job) (j : Job) (after : List Job) : Type 0 where
  pub stays : sound after ≡ true
  pub change : (t : ℕ) → job_of after t ≡ update nat_eq (job_of xs) j.task (Some j) t

pub appended : (xs : List Job) (j : Job) (after : List Job) → sound xs ≡ true → fit j ≡ true → is_some (job_of xs j.task) ≡ false → after ≡ xs ++ j ∷ [] → Appended xs j after
appended xs j after s f free is = subst (Appended xs j) (sym is) (record { stays = pushed_sound xs j s f free; change = pushed xs j free })

-- what stays of a job of a task that is held may stand at its number
below_limit : (t : ℕ) (o : Option Job) → is_some o ≡ true → placed t o ≡ true → nat_lt t task_limit ≡ true
below_limit t None held p = absurd (both_ways false refl held)
below_limit t (Some i) held p = grind (arith, nat_tests)

remaining_placed : (j : Job) → nat_lt j.task task_limit ≡ true → placed j.task (remaining j) ≡ true
remaining_placed j below = go (nat_lt 0 j.left) refl
  where
    go : (b : Bool) → nat_lt 0 j.left ≡ b → placed j.task (cond b (Some j) None) ≡ true
    go true h = grind (arith, nat_tests)
    go false h = refl

pub record Settled (xs : List Job) (j : Job) (after : List Job) : Type 0 where
  pub is : after ≡ replaced xs j.task (remaining j)
  pub stays : sound after ≡ true
  pub change : (t : ℕ) → job_of after t ≡ update nat_eq (job_of xs) j.task (remaining j) t

pub settled : (xs : List Job) (j : Job) (k : ℕ) (after : List Job) → sound xs ≡ true → PlaceOf xs j.task k → after ≡ cond (nat_lt 0 j.left) (slice_set xs k j) (remove xs k) → Settled xs j after
settled xs j k after s p is =
    let at = is ∙ place_settled xs j.task k j p (nat_lt 0 j.left) in
    let held = place_held xs j.task k p in
    let fits = remaining_placed j (below_limit j.task (job_of xs j.task) held (entry_placed xs s j.task)) in
    subst (Settled xs j) (sym at) (record { is = refl; stays = replaced_sound xs j.task (remaining j) s held fits; change = replaced_jobs xs j.task (remaining j) s held fits })

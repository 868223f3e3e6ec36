-- A sound list has at most as many jobs as there are task numbers. Assumes nothing.
use Rattle.std.proofs.Common.{◌≡◌, ℕ, zero, suc, ◌+◌, ◌<◌, ◌≤◌, true, false, cond, not, ◌&&◌, ltb, List, [], ◌∷◌, ◌++◌, length, is_some, refl, ⊎_elim, arith}
use Rattle.std.proofs.lemmas.List.{length_push}
use Rattle.std.proofs.lemmas.Bool.{cases_lt, and_parts, ltb-true, not-true}
use Rattle.std.proofs.lemmas.Bool.Decides.{nat_tests}
use Rattle.ready.specs.Jobs.{task_limit, fit}
use Rattle.ready.specs.Arrivals.{job_of, sound}
use Rattle.ready.specs.declared.job.Job.{Job}
use Rattle.ready.specs.Entries.{pushed_sound}

-- how many task numbers below n have a job in the list
abbrev held_below : ℕ → List Job → ℕ
held_below zero xs = 0
held_below (suc n) xs = held_below n xs + cond (is_some (job_of xs n)) 1 0

held_few : (n : ℕ) (xs : List Job) → held_below n xs ≤ n
held_few zero xs = omega arith
held_few (suc n) xs = grind (arith, nat_tests, held_few n xs)

-- one job more adds nothing below its number, and one above
held_under : (n : ℕ) (x : Job) (xs : List Job) → n ≤ x.task → held_below n (x ∷ xs) ≡ held_below n xs
held_under zero x xs h = refl
held_under (suc n) x xs h = grind (arith, nat_tests, held_under n x xs)

held_over : (n : ℕ) (x : Job) (xs : List Job) → x.task < n → is_some (job_of xs x.task) ≡ false → held_below n (x ∷ xs) ≡ suc (held_below n xs)
held_over zero x xs h free = let none : ⊥ = omega arith in absurd none
held_over (suc n) x xs h free =
    ⊎_elim
    (λ l. grind (arith, nat_tests, held_over n x xs l free))
    (λ g. let same : x.task ≡ n = omega arith in grind (arith, nat_tests, held_under n x xs g))
    (cases_lt x.task n)

-- over any n that is the limit, so that the count stays folded
few : (n : ℕ) → n ≡ task_limit → (xs : List Job) → sound xs ≡ true → length xs ≤ held_below n xs
few n is [] s = omega arith
few n is (x ∷ xs) s =
    let p = and_parts (fit x) (not (is_some (job_of xs x.task)) && sound xs) s in
    let q = and_parts (not (is_some (job_of xs x.task))) (sound xs) p.1 in
    let below : x.task < n = omega (arith, is, ltb-true x.task task_limit (and_parts (ltb x.task task_limit) (ltb 0 x.left) p.0).0) in
    omega (arith, few n is xs q.1, held_over n x xs below (not-true (is_some (job_of xs x.task)) q.0))

bounded : (n : ℕ) → n ≡ task_limit → (xs : List Job) → sound xs ≡ true → length xs ≤ n
bounded n is xs s = omega (arith, few n is xs s, held_few n xs)

sound_few : (xs : List Job) → sound xs ≡ true → length xs ≤ task_limit
sound_few xs s = bounded task_limit refl xs s

-- there is room for one job more that the list may take
pub room_left : (xs : List Job) (j : Job) → sound xs ≡ true → fit j ≡ true → is_some (job_of xs j.task) ≡ false → length xs < task_limit
room_left xs j s f free = omega (arith, sound_few (xs ++ j ∷ []) (pushed_sound xs j s f free), length_push xs j)

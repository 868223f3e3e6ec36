-- The phase that brings a table to a position in a tick: it does, and no other does. Assumes nothing.
use Rattle.std.proofs.Common.{◌≡◌, ℕ, ◌+◌, ◌-◌, ◌*◌, ◌/◌, ◌%◌, ◌<◌, ◌≤◌, ap, ◌∙◌, ⊎_elim, mod-lt, mod-eq_of_lt, arith}
use native.Mathlib.Nat.{mod-eq-sub-mod, mod-add-mod, add-mod-mod, add-mod_right, add-mul-mod_self_left, div-add-mod}
use Rattle.std.proofs.lemmas.Bool.{cases_lt}

pub phase_meets : (D q x : ℕ) → q < D → ((q + (D - x % D)) % D + x) % D ≡ q
phase_meets D q x h =
    let d = div-add-mod x D in
    let m = mod-lt x {m = D} (omega arith) in
    let e : q + (D - x % D) + x ≡ (q + D) + D * (x / D) = omega (arith, d, m) in
    mod-add-mod (q + (D - x % D)) D x ∙ ap (λ n. n % D) e ∙ add-mul-mod_self_left (q + D) D (x / D) ∙ add-mod_right q D ∙ mod-eq_of_lt h

-- below twice D, a remainder is found by one subtraction
wraps : (D n : ℕ) → n < D + D → (D ≤ n) → n % D ≡ n - D
wraps D n h le = mod-eq-sub-mod le ∙ mod-eq_of_lt (omega arith)

pub phase_one : (D a b x q : ℕ) → a < D → b < D → (a + x) % D ≡ q → (b + x) % D ≡ q → a ≡ b
phase_one D a b x q la lb ea eb =
    let r = x % D in
    let lr = mod-lt x {m = D} (omega (arith, la)) in
    let fa : (a + r) % D ≡ q = add-mod-mod a x D ∙ ea in
    let fb : (b + r) % D ≡ q = add-mod-mod b x D ∙ eb in
    ⊎_elim
    (λ sa.
    let ga = mod-eq_of_lt sa in
    ⊎_elim
    (λ sb. let gb = mod-eq_of_lt sb in omega (arith, fa, fb, ga, gb))
    (λ tb. let gb = wraps D (b + r) (omega (arith, lb, lr)) tb in absurd (omega (arith, fa, fb, ga, gb, la, lb, lr, tb)))
    (cases_lt (b + r) D))
    (λ ta.
    let ga = wraps D (a + r) (omega (arith, la, lr)) ta in
    ⊎_elim
    (λ sb. let gb = mod-eq_of_lt sb in absurd (omega (arith, fa, fb, ga, gb, la, lb, lr, ta)))
    (λ tb. let gb = wraps D (b + r) (omega (arith, lb, lr)) tb in omega (arith, fa, fb, ga, gb, ta, tb))
    (cases_lt (b + r) D))
    (cases_lt (a + r) D)

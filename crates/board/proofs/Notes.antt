-- The note of activation ticks stays right over puts and serves. Assumes nothing.
use Rattle.std.proofs.Common.{◌≡◌, ℕ, ◌<◌, Bool, true, false, cond, eqb, ltb, List, length, get_or, set, is_some, is_ok, Some, None, Ok, Err, Option, Result, sym, refl, ap, ◌∙◌, subst, arith}
use Rattle.std.proofs.lemmas.Option.{same_Some, none-some}
use Rattle.std.proofs.lemmas.List.{get_or-set_same, get_or-set_other}
use Rattle.std.proofs.lemmas.Bool.{eqb-true, eqb-false, both_ways}
use Rattle.std.proofs.lemmas.Bool.Decides.{nat_tests}
use Rattle.ready.specs.Jobs.{ahead, fit, ticked}
use Rattle.ready.specs.Refusals.{told}
use Rattle.ready.specs.Calls.{Jobs, FrontBy, put_number, after_put, after_serve}
use Rattle.ready.specs.declared.job.Job.{Job}
use Rattle.ready.specs.declared.refusal.PutRefusal.{PutRefusal}
use Rattle.board.specs.Waits.{Noted, activation_of}

pub noted_tells : (js : Jobs) (since : List ℕ) (t : ℕ) → Noted js since → is_some (js t) ≡ true → Some (get_or since t 0) ≡ activation_of (js t)
noted_tells js since t h s = go (js t) refl s
  where
    go : (o : Option Job) → js t ≡ o → is_some o ≡ true → Some (get_or since t 0) ≡ activation_of o
    go (Some j) e x = ap Some (h t j e)
    go None e x = absurd (both_ways false refl x)

-- a job that is there after a serve was there before it, with the same activation
pub served_from : (js : Jobs) (front : Option Job) (t : ℕ) (j : Job) → FrontBy ahead js front → after_serve js front t ≡ Some j → (i : Job) × (js t ≡ Some i) × (j.activation ≡ i.activation)
served_from js None t j f e = (j, e, refl)
served_from js (Some i) t j f e = go (eqb i.task t) refl (ltb 0 (ticked i).left) e
  where
    go : (b : Bool) → eqb i.task t ≡ b → (l : Bool) → cond b (cond l (Some (ticked i)) None) (js t) ≡ Some j → (k : Job) × (js t ≡ Some k) × (j.activation ≡ k.activation)
    go true q true x = (i, subst (λ n. js n ≡ Some i) (eqb-true _ _ q) f.0, sym (ap (λ k. k.activation) (same_Some _ _ x)))
    go true q false x = absurd (none-some _ x)
    go false q l x = (j, x, refl)

pub noted_served : (js ks : Jobs) (since : List ℕ) (front : Option Job) → FrontBy ahead js front → ((t : ℕ) → ks t ≡ after_serve js front t) → Noted js since → Noted ks since
noted_served js ks since front f is h t j e =
    let was = served_from js front t j f (sym (is t) ∙ e) in
    h t was.0 was.1 ∙ sym was.2

-- a put that is not refused
pub put_free : (js : Jobs) (j : Job) (t : ℕ) → put_number js j ≡ None → after_put js j t ≡ cond (eqb t j.task) (Some j) (js t)
put_free js j t e = rw e (grind (arith, nat_tests))

pub free_number : (js : Jobs) (j : Job) → fit j ≡ true → js j.task ≡ None → put_number js j ≡ None
free_number js j f n = rw (f, n)

pub ok_number : (r : Result (Unit {0}) PutRefusal) (n : Option ℕ) → told r ≡ n → is_ok r ≡ true → n ≡ None
ok_number (Ok u) n e o = sym e
ok_number (Err w) n e o = absurd (both_ways false refl o)

pub noted_put : (js ks : Jobs) (since : List ℕ) (j : Job) → j.task < length since → put_number js j ≡ None → ((t : ℕ) → ks t ≡ after_put js j t) → Noted js since → Noted ks (set since j.task j.activation)
noted_put js ks since j lt free is h t k e = go (eqb t j.task) refl (sym (put_free js j t free) ∙ sym (is t) ∙ e)
  where
    go : (b : Bool) → eqb t j.task ≡ b → cond b (Some j) (js t) ≡ Some k → get_or (set since j.task j.activation) t 0 ≡ k.activation
    go true q x = subst (λ n. get_or (set since j.task j.activation) n 0 ≡ k.activation) (sym (eqb-true _ _ q)) (get_or-set_same since j.task j.activation 0 lt ∙ ap (λ i. i.activation) (same_Some _ _ x))
    go false q x = get_or-set_other since j.task t j.activation 0 (eqb-false _ _ q) ∙ h t k x

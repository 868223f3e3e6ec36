-- The front of a pair, from the fronts of its sides. Assumes nothing.
use Rattle.std.specs.Prelude.{◌≡◌, ℕ, Bool, true, false, cond, ◌&&◌, ◌⊎◌, is_some, Some, None, Option, refl}
use Rattle.std.proofs.Common.{ap, ◌∙◌, inl, inr, ⊎_elim, arith}
use Rattle.ready.specs.Jobs.{ahead}
use Rattle.ready.specs.Calls.{Jobs, placed, FrontBy}
use Rattle.ready.specs.Fronts.{front_with}
use Rattle.ready.specs.Pairs.{or_else, both_jobs, Apart}
use Rattle.ready.specs.declared.job.Job.{Job}
use Rattle.ready.specs.Ranks.{ahead_ranks}

pub either_side : (o p : Option Job) (i : Job) → or_else o p ≡ Some i → (o ≡ Some i) ⊎ (p ≡ Some i)
either_side None p i e = inr e
either_side (Some j) p i e = inl e

-- what the second side holds, the first does not
pub none_first : (o p : Option Job) (b : Job) → (is_some o && is_some p) ≡ false → p ≡ Some b → o ≡ None
none_first None p b h e = refl
none_first (Some j) p b h e = grind (arith, ap is_some e)

-- each job of both sides stands at its own number if each job of a side does
pub both_stand : (js ks : Jobs) → ((t : ℕ) → placed t (js t) ≡ true) → ((t : ℕ) → placed t (ks t) ≡ true) → (t : ℕ) → placed t (both_jobs js ks t) ≡ true
both_stand js ks first second t = either (js t) (ks t) (first t) (second t)
  where
    either : (o p : Option Job) → placed t o ≡ true → placed t p ≡ true → placed t (or_else o p) ≡ true
    either None p f s = s
    either (Some j) p f s = f

module _ (js ks : Jobs) (apart : Apart js ks) where
  held_first : (a : Job) → js a.task ≡ Some a → both_jobs js ks a.task ≡ Some a
  held_first a h = ap (λ o. or_else o (ks a.task)) h

  held_second : (b : Job) → ks b.task ≡ Some b → both_jobs js ks b.task ≡ Some b
  held_second b h = ap (λ o. or_else o (ks b.task)) (none_first (js b.task) (ks b.task) b (apart b.task) h) ∙ h

  -- a job that is ahead of none on either side is ahead of none
  none_ahead : (j : Job) → ((t : ℕ) (i : Job) → js t ≡ Some i → ahead i j ≡ false) → ((t : ℕ) (i : Job) → ks t ≡ Some i → ahead i j ≡ false) → (t : ℕ) (i : Job) → both_jobs js ks t ≡ Some i → ahead i j ≡ false
  none_ahead j f s t i e = ⊎_elim (f t i) (s t i) (either_side (js t) (ks t) i e)

  pub pair_fronts : (a b : Option Job) → FrontBy ahead js a → FrontBy ahead ks b → FrontBy ahead (both_jobs js ks) (front_with ahead a b)
  pair_fronts None None f s = λ t. ap (λ o. or_else o (ks t)) (f t) ∙ s t
  pair_fronts None (Some b) f s =
      (held_second b s.0, none_ahead b (λ t i e. grind (arith, f t, e)) s.1)
  pair_fronts (Some a) None f s =
      (held_first a f.0, none_ahead a f.1 (λ t i e. grind (arith, s t, e)))
  pair_fronts (Some a) (Some b) f s = go (ahead b a) refl
    where
      go : (x : Bool) → ahead b a ≡ x → FrontBy ahead (both_jobs js ks) (cond x (Some b) (Some a))
      go true h =
          (held_second b s.0, none_ahead b (λ t i e. ahead_ranks.chain i a b (f.1 t i e) (ahead_ranks.one_way b a h)) s.1)
      go false h =
          (held_first a f.0, none_ahead a f.1 (λ t i e. ahead_ranks.chain i b a (s.1 t i e) h))

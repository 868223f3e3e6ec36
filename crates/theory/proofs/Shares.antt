-- What counts of a task for a job of some priority number. Assumes nothing.
use Rattle.std.proofs.Common.{◌≡◌, ℕ, ◌*◌, ◌<◌, ◌≤◌, Bool, true, false, cond, eqb, ltb, refl, ap, ◌∙◌, le_refl, mul-zero, arith}
use Rattle.std.proofs.lemmas.Bool.{lt-ltb}
use Rattle.theory.specs.Counting.{total}
use Rattle.theory.specs.Plans.{Plan}
use Rattle.theory.specs.Windows.{share}
use Rattle.theory.proofs.Sums.{total_zero}

cond_mono : (b : Bool) (x y x' y' : ℕ) → x ≤ x' → y ≤ y' → cond b x y ≤ cond b x' y'
cond_mono true x y x' y' h k = h
cond_mono false x y x' y' h k = k

pub share_mono : (p : Plan) (l k v u v' u' : ℕ) → v ≤ v' → u ≤ u' → share p l k v u ≤ share p l k v' u'
share_mono p l k v u v' u' hv hu = cond_mono (ltb (p.pr k) l) v _ v' _ hv (cond_mono (eqb (p.pr k) l) u 0 u' 0 hu (le_refl 0))

cond_within : (b : Bool) (x y z : ℕ) → x ≤ z → y ≤ z → cond b x y ≤ z
cond_within true x y z h k = h
cond_within false x y z h k = k

pub share_within : (p : Plan) (l k v u z : ℕ) → v ≤ z → u ≤ z → share p l k v u ≤ z
share_within p l k v u z hv hu = cond_within (ltb (p.pr k) l) v _ z hv (cond_within (eqb (p.pr k) l) u 0 z hu (omega arith))

cond_total : (b : Bool) (n : ℕ) (f g : ℕ → ℕ) → total n (λ j. cond b (f j) (g j)) ≡ cond b (total n f) (total n g)
cond_total true n f g = refl
cond_total false n f g = refl

-- shares add up
pub share_total : (p : Plan) (l k n : ℕ) (f g : ℕ → ℕ) → total n (λ j. share p l k (f j) (g j)) ≡ share p l k (total n f) (total n g)
share_total p l k n f g =
    cond_total (ltb (p.pr k) l) n f (λ j. cond (eqb (p.pr k) l) (g j) 0)
    ∙ ap (λ x. cond (ltb (p.pr k) l) (total n f) x)
    (cond_total (eqb (p.pr k) l) n g (λ j. 0) ∙ ap (λ x. cond (eqb (p.pr k) l) (total n g) x) (total_zero n (λ j. 0) (λ j lt. refl)))

cond_scale : (b : Bool) (c x y : ℕ) → c * cond b x y ≡ cond b (c * x) (c * y)
cond_scale true c x y = refl
cond_scale false c x y = refl

-- and scale
pub share_scale : (p : Plan) (l k c v u : ℕ) → c * share p l k v u ≡ share p l k (c * v) (c * u)
share_scale p l k c v u =
    cond_scale (ltb (p.pr k) l) c v (cond (eqb (p.pr k) l) u 0)
    ∙ ap (λ x. cond (ltb (p.pr k) l) (c * v) x) (cond_scale (eqb (p.pr k) l) c u 0 ∙ ap (λ x. cond (eqb (p.pr k) l) (c * u) x) (mul-zero c))

-- all of a task that is more urgent counts
pub share_all : (p : Plan) (l k v u : ℕ) → p.pr k < l → share p l k v u ≡ v
share_all p l k v u h = ap (λ b. cond b v (cond (eqb (p.pr k) l) u 0)) (lt-ltb (p.pr k) l h)

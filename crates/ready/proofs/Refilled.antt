-- A value that carries a fact of one of its parts, with that part replaced by an equal one. Assumes nothing.
use Rattle.std.proofs.Common.{◌≡◌, ap, subst}
use Rattle.std.proofs.Props.{props}
use Rattle.ready.specs.Calls.{Jobs}
use Rattle.ready.specs.Pairs.{Apart}

pub apart_prop : (js ks : Jobs) → IsProp (Apart js ks)
apart_prop js ks = hlevel props

pub refilled : {S T : Type 0} (holds : S → Type 0) → ((s : S) → IsProp (holds s)) → (make : (s : S) → holds s → T) → (s t : S) → s ≡ t → (a : holds s) (b : holds t) → make s a ≡ make t b
refilled holds prop make s t e = subst (λ u. (a : holds s) (b : holds u) → make s a ≡ make u b) e (λ a b. ap (make s) (prop s a b))

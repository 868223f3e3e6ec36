-- The number of each refusal. Assumes nothing.
use Rattle.std.specs.Prelude.{ℕ, Some, None, Ok, Err, Option, Result}
use Rattle.ready.specs.declared.refusal.PutRefusal.{PutRefusal}
use Rattle.ready.specs.declared.refusal.PutRefusal.TheVariants.{BadJob, Held}

-- The number by which a refusal goes.
abbrev pub number_of : PutRefusal → ℕ
number_of BadJob = 42
number_of Held = 41

-- The number that an answer tells: none where the call was not refused.
abbrev pub told : {R : Type 0} → Result R PutRefusal → Option ℕ
told (Ok x) = None
told (Err e) = Some (number_of e)

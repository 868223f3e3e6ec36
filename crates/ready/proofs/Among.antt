-- The front among slots, one slot after another, by any rule that is an order in which any two jobs compare. Assumes nothing.
use Rattle.std.proofs.Common.{◌≡◌, ℕ, ◌+◌, ◌<◌, Bool, List, [], ◌∷◌, ◌++◌, length, get_or, take, Some, Option, sym, refl, ap, ◌∙◌}
use Rattle.std.specs.Cmp.{IsStrictWeakOrder}
use Rattle.std.specs.List.{flat_map}
use Rattle.std.specs.Option.{option_to_list}
use Rattle.std.proofs.lemmas.List.{take_more, flat_map_more}
use Rattle.ready.specs.Fronts.{front_of, front_with}
use Rattle.ready.specs.Leads.{front_more}
use Rattle.ready.specs.declared.job.Job.{Job}

-- the jobs held, in the order of the slots
abbrev pub held_jobs : {S : Type 0} → (S → Option Job) → List S → List Job
held_jobs held xs = flat_map (λ s. option_to_list (held s)) xs

pub among_more : {S : Type 0} (held : S → Option Job) (beats : Job → Job → Bool) → IsStrictWeakOrder beats → (xs : List S) (k : ℕ) (s : S) → k < length xs → s ≡ get_or xs k s
    → front_with beats (front_of beats (held_jobs held (take k xs))) (held s) ≡ front_of beats (held_jobs held (take (k + 1) xs))
among_more held beats ranks xs k s within read =
    sym (ap (λ l. front_of beats (held_jobs held l)) (take_more xs k s within ∙ ap (λ y. take k xs ++ y ∷ []) (sym read))
    ∙ ap (front_of beats) (sym (flat_map_more (λ y. option_to_list (held y)) [] (take k xs) s))
    ∙ front_more beats ranks (held_jobs held (take k xs)) (held s))

-- a list of jobs holds just these
pub held_itself : (xs : List Job) → held_jobs (λ j. Some j) xs ≡ xs
held_itself [] = refl
held_itself (x ∷ xs) = ap (λ l. x ∷ l) (held_itself xs)

-- What one task, one table and all tables add to the demand: how it is counted, its bounds, and that it never falls. Assumes nothing.
use Rattle.std.proofs.Common.{◌≡◌, ℕ, ◌+◌, ◌-◌, ◌*◌, ◌/◌, ◌%◌, ◌<◌, ◌≤◌, cond, ◌⊎◌, List, length, get_or, All, sym, ap, ◌∙◌, ⊎_elim, mod-lt, mod-eq_of_lt, mul-le-mul, mul-le-mul_left, div-le_self, arith}
use native.Mathlib.Nat.{mod-eq-sub-mod}
use Rattle.std.proofs.lemmas.Nat.{div-add-mod', le-div}
use Rattle.std.proofs.lemmas.List.Sums.{sum_by-le, sum_by-le-sum_by}
use Rattle.std.proofs.lemmas.Bool.Decides.{nat_tests}
use Rattle.theory.proofs.Sums.{total_mono}
use Rattle.plan.specs.Limits.{max_duration, max_hyperperiod}
use Rattle.figures.specs.declared.loads.Load.{Load}
use Rattle.figures.specs.Loads.{Rivals, no_rivals, activations, term_of, part_of, demand_of, Fine, most_of_task, most_of_table}

div_rises : (a b k : ℕ) → 0 < k → a ≤ b → a / k ≤ b / k
div_rises a b k pos h = le-div (a / k) b k pos (omega (arith, div-add-mod' a k, h))

-- s is the phase with the lead, less a round if that is past the round
pub wrapped : (D a s : ℕ) → a < D + D → ((D ≤ a) × (s ≡ a - D)) ⊎ ((a < D) × (s ≡ a)) → s ≡ a % D
wrapped D a s h w =
    ⊎_elim
    (λ past. past.1 ∙ sym (mod-eq-sub-mod past.0 ∙ mod-eq_of_lt (omega (arith, past.0))))
    (λ within. within.1 ∙ sym (mod-eq_of_lt within.0))
    w

pub term_is : (D : ℕ) (l : Load) (φ z u s ticks : ℕ) → s ≡ (φ + l.lead) % D → ticks ≡ cond l.above z u → l.cost * ((s + ticks) / D) ≡ term_of D l φ z u
unfolding term_of
term_is D l φ z u s ticks e f = ap (λ n. l.cost * ((n + ticks) / D)) e ∙ ap (λ n. l.cost * (((φ + l.lead) % D + n) / D)) f

term_most : (D : ℕ) (l : Load) (φ z u : ℕ) → 0 < D → D ≤ max_duration → l.cost ≤ max_duration → z ≤ max_hyperperiod → u ≤ max_hyperperiod → term_of D l φ z u ≤ most_of_task
unfolding term_of
term_most D l φ z u pos short cheap hz hu =
    let ticks : cond l.above z u ≤ max_hyperperiod = grind (arith, nat_tests) in
    let start = mod-lt (φ + l.lead) pos in
    let few : activations D l.lead φ (cond l.above z u) ≤ max_duration + max_hyperperiod =
    omega (arith, div-le_self ((φ + l.lead) % D + cond l.above z u) D, ticks, start) in
    mul-le-mul cheap few

pub part_most : (g : Rivals) (φ z u : ℕ) → Fine g → z ≤ max_hyperperiod → u ≤ max_hyperperiod → part_of g φ z u ≤ most_of_table
part_most g φ z u fine hz hu =
    let each : All (λ l. term_of g.duration l φ z u ≤ most_of_task) g.loads =
    λ j d lt. term_most g.duration (get_or g.loads j d) φ z u fine.lasts fine.short (fine.small j d lt).costs hz hu in
    omega (arith, sum_by-le (λ l. term_of g.duration l φ z u) most_of_task g.loads each, fine.few)

term_rises : (D : ℕ) (l : Load) (φ z z' u : ℕ) → 0 < D → z ≤ z' → term_of D l φ z u ≤ term_of D l φ z' u
unfolding term_of
term_rises D l φ z z' u pos h =
    let ticks : cond l.above z u ≤ cond l.above z' u = grind (arith, nat_tests) in
    mul-le-mul_left l.cost (div_rises _ _ D pos (omega arith))

part_rises : (g : Rivals) (φ z z' u : ℕ) → 0 < g.duration → z ≤ z' → part_of g φ z u ≤ part_of g φ z' u
part_rises g φ z z' u pos h = sum_by-le-sum_by _ _ g.loads (λ l. term_rises g.duration l φ z z' u pos h)

-- of tables that are in some phase, the demand never falls
pub demand_rises_lem : (gs : List Rivals) (φ : ℕ → ℕ) (x y y' : ℕ) → ((i : ℕ) → i < length gs → φ i < (get_or gs i no_rivals).duration) → y ≤ y'
    → demand_of gs φ x y ≤ demand_of gs φ x y'
unfolding demand_of
demand_rises_lem gs φ x y y' phased h =
    total_mono (length gs) _ _ (λ i lt. part_rises (get_or gs i no_rivals) (φ i) (x + y) (x + y') (x + 1) (omega (arith, phased i lt)) (omega arith))

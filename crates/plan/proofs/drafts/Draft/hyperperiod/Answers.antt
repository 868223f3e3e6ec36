use Rattle.std.proofs.Common.{◌≡◌, ℕ, ◌≤◌, ◌*◌, ◌/◌, sym, ap, vec_items, ◌∙◌, rules, tests, arith}
use Rattle.std.proofs.lemmas.Iterator.{YieldsList-from_map}
use Rattle.std.proofs.lemmas.Iterator.Adapters.{option_map_id, serves_from_places}
use Rattle.std.proofs.lemmas.Iterator.Consumers.{YieldsList-at}
use Rattle.std.proofs.lemmas.Iterator.Search.{find_from_yields_List}
use Rattle.plan.specs.Limits.{max_hyperperiod}
use Rattle.plan.specs.Rules.{common_to}
use Rattle.plan.proofs.Ranges.{YieldsList-from_1_to}
use Rattle.plan.proofs.Multiples.{product_small, find_multiple}
use Rattle.plan.proofs.drafts.Draft.hyperperiod.Goals as goal

pub find-requires-clause-can : goal.find-requires-clause-can
find-requires-clause-can c =
    let d = c.longest-step.result in
    let factors = YieldsList-from_1_to (max_hyperperiod / d) c.new.result (search rules) (search rules) (search rules) in
    let at_step : (x : ℕ) → x * c.map.result.f.0.now ≡ x * d = λ x. ap (λ f. x * f.0.now) c.map.ensures.closure in
    (tt, serves_from_places (YieldsList-at c.map.ensures.source factors) (λ x q k. search (rules, tests)) (λ x k lt e. let fits : x * c.map.result.f.0.now ≤ max_hyperperiod = omega (arith, at_step x, product_small max_hyperperiod d x k lt e) in search rules))

pub returns : goal.returns
returns c =
    let common = common_to (vec_items c.args.self.now.tables) in
    let step = c.longest-step in
    let d = step.result in
    let factors = YieldsList-at c.map.ensures.source (YieldsList-from_1_to (max_hyperperiod / d) c.new.result (search rules) (search rules) (search rules)) in
    let found = find_from_yields_List common _ _ _ c.find.ensures.ran
    (YieldsList-from_map _ (λ n. n * d) factors c.map.ensures.closure (λ x r q k. search (rules, tests)))
    (λ x b q k. search (rules, tests)) in
    sym (option_map_id c.find.result) ∙ found ∙ find_multiple common d step.ensures.positive step.ensures.divides_all max_hyperperiod

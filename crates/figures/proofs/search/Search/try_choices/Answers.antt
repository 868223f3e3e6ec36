use Rattle.std.proofs.Common.{◌+◌, vec_items, ap, sym, subst, length, arith, rules}
use Rattle.figures.proofs.Trying.{turned_from, turned_reach, Tried, tried_skip, tried_keep, tried_better, tried_all, reach_ends}
use Rattle.figures.proofs.search.Search.try_choices.Goals as goal
use Rattle.figures.proofs.search.Search.try_choices.Goals.{then-figure-most, else-figure-most}

pub choices-preserved-then-is_enough : goal.choices-preserved-then-is_enough
choices-preserved-then-is_enough c =
    tried_skip (vec_items c.args.self.now.groups) (vec_items c.args.self.now.choices) c.args.window c.args.best.worst _ c.choices.choice-index c.guess-guess.result _ _
    (turned_from _ _ _ _ _ _ _ c.phasing-phasing.ensures.groups c.deref-choice-items.ensures.value c.choices-test.true c.phasing-phasing.ensures.phases) c.guess-guess.ensures.some c.guess-guess.ensures.within c.if-is_enough.ensures c.choices.invariant

pub choices-preserved-then-is_enough-2 : goal.choices-preserved-then-is_enough-2
choices-preserved-then-is_enough-2 c =
    tried_skip (vec_items c.args.self.now.groups) (vec_items c.args.self.now.choices) c.args.window c.args.best.worst _ c.choices.choice-index c.choices.best.0.figure _ _
    (turned_from _ _ _ _ _ _ _ c.phasing-phasing.ensures.groups c.deref-choice-items.ensures.value c.choices-test.true c.phasing-phasing.ensures.phases) c.choices.invariant.some (omega arith) c.if-is_enough-2.ensures c.choices.invariant

pub overflow_add-best : goal.overflow_add-best
overflow_add-best c =
    let gs = vec_items c.args.self.now.groups in
    let chosen = vec_items c.args.self.now.choices in
    let w = c.args.window in
    let found = turned_reach gs chosen w c.choices.choice-index c.reach-figure.result _ _
    (turned_from _ _ _ _ _ _ _ c.phasing-phasing.ensures.groups c.deref-choice-items.ensures.value c.choices-test.true c.phasing-phasing.ensures.phases)
    c.reach-figure.ensures in
    let ends = reach_ends gs chosen w c.args.best.worst _ c.reach-figure.result c.requires.can found in
    search rules

pub choices-preserved : goal.choices-preserved
choices-preserved c =
    let gs = vec_items c.args.self.now.groups in
    let chosen = vec_items c.args.self.now.choices in
    let w = c.args.window in
    let m = c.choices.choice-index in
    elim c.if-figure-most.branch [
      | then-figure-most v ↦
          subst (λ b. Tried gs chosen w c.args.best.worst b.0 (m + 1)) (sym v.best-is)
          (tried_better gs chosen w c.args.best.worst _ m c.reach-figure.result _ _ (turned_from _ _ _ _ _ _ _ c.phasing-phasing.ensures.groups c.deref-choice-items.ensures.value c.choices-test.true c.phasing-phasing.ensures.phases) c.requires.can v.if-figure-most.true c.reach-figure.ensures c.choices.invariant)
      | else-figure-most v ↦
          subst (λ b. Tried gs chosen w c.args.best.worst b.0 (m + 1)) (sym v.best-is)
          (tried_keep gs chosen w c.args.best.worst _ m c.reach-figure.result _ _ (turned_from _ _ _ _ _ _ _ c.phasing-phasing.ensures.groups c.deref-choice-items.ensures.value c.choices-test.true c.phasing-phasing.ensures.phases) v.if-figure-most.false c.reach-figure.ensures c.choices.invariant)
    ]

pub returns : goal.returns
returns c =
    tried_all (vec_items c.args.self.now.groups) (vec_items c.args.self.now.choices) c.args.window c.args.best.worst _ c.choices.choice-index
    (omega (arith, c.choices-test.false, ap length c.deref-choice-items.ensures.value)) c.choices.invariant

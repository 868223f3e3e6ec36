use Rattle.std.proofs.Common.{[], ◌∷◌, ◌++◌, get_or, vec_items, sym, subst, below_more, arith}
use Rattle.std.proofs.lemmas.List.{length_push, get_or_push, get_or_append_left}
use Rattle.plan.specs.Plans.{content}
use Rattle.figures.specs.Worsts.{no_worst, WorstOf}
use Rattle.figures.proofs.search.figures.Goals as goal

pub loop-task-preserved : goal.loop-task-preserved
loop-task-preserved c =
    let p = content c.args.plan.now in
    let old = vec_items c.loop-task.worsts in
    let new = c.worst.result in
    let n = c.loop-task.task in
    let inv = c.loop-task.invariant in
    let is = subst (λ s. WorstOf (content s.plan.now) s.task new) c.in_ok-search.ensures.subject c.worst.ensures in
    rw c.in_ok-push.ensures.items (
      omega (arith, length_push old new, inv.0),
      below_more (λ t. WorstOf p t (get_or (old ++ new ∷ []) t no_worst)) n
          (λ t lt. subst (WorstOf p t) (sym (get_or_append_left old (new ∷ []) no_worst t (omega (arith, lt, inv.0)))) (inv.1 t lt))
          (subst (WorstOf p n) (sym (get_or_push old new no_worst n inv.0)) is),
    )

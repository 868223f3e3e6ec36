use Rattle.std.proofs.lemmas.Result.{err_from_is_err_and}
use Rattle.plan.proofs.Taking.{add_fails}
use Rattle.plan.proofs.drafts.Draft.take_command.Goals as goal

pub returns-in_err-add : goal.returns-in_err-add
returns-in_err-add c =
    let p = err_from_is_err_and c.from_residual-in_err-add.result c.from_residual-in_err-add.ensures.1 in
    rw (p.1, p.2) (add_fails _ _ c.in_ok-placed.placed _ _ _ _ c.in_ok-placed.ensures c.in_err-add.ensures)

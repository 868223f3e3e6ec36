use Rattle.std.proofs.lemmas.Result.{err_from_is_err_and}
use Rattle.plan.specs.Drafts.{drafted}
use Rattle.plan.proofs.Taking.{file_fails, file_goes_on}
use Rattle.plan.proofs.drafts.Draft.take_file.Goals as goal

pub returns-in_err-take_command : goal.returns-in_err-take_command
returns-in_err-take_command c =
    let p = err_from_is_err_and c.from_residual.result c.from_residual.ensures.1 in
    rw (p.1, p.2)
    (file_fails c.args.file.now (drafted c.loop.self) c.loop.reader c.loop.invariant.0 c.loop.invariant.1 _ _ _ c.in_err-take_command.ensures)

pub loop-preserved : goal.loop-preserved
loop-preserved c =
    file_goes_on c.args.file.now (drafted c.loop.self) c.loop.reader c.loop.invariant.0 c.loop.invariant.1 _ _
    (rw c.if-branch.true at c.in_ok-take_command.ensures)

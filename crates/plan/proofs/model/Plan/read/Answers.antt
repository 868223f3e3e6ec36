use Rattle.std.proofs.Common.{sym, ap, ◌∙◌}
use Rattle.std.proofs.lemmas.Result.{err_from_is_err_and}
use Rattle.plan.specs.Drafts.{drafted}
use Rattle.plan.specs.File.{sets}
use Rattle.plan.specs.Plans.{content}
use Rattle.plan.proofs.FileLaws.{sets_lawful, sets_whole, fails}
use Rattle.plan.proofs.model.Plan.read.Goals as goal

pub finish-requires : goal.finish-requires
finish-requires c = sets_lawful c.args.file.now (drafted c.take_file.new.self) c.in_ok-take_file.ensures

pub returns-in_err-take_file-clause-law : goal.returns-in_err-take_file-clause-law
returns-in_err-take_file-clause-law c =
    let p = err_from_is_err_and c.from_residual.result c.from_residual.ensures.1 in
    rw (p.1, p.2) (fails c.args.file.now (content c.args.self.now) c.take_file.new.self _ c.in_err-take_file.ensures)

pub returns-clause-law : goal.returns-clause-law
returns-clause-law c = sets_whole c.args.file.now _ (c.in_ok-take_file.ensures ∙ ap sets (sym c.finish.ensures))

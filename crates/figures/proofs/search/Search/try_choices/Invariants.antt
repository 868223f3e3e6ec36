use Rattle.std.proofs.Common.{vec_items}
use Rattle.figures.proofs.Trying.{Tried}
use Rattle.figures.proofs.search.Search.try_choices.Given as goal

-- (`l.best` stands apart in the loop: its first part is the worst choice)
abbrev pub invariant-choices : goal.invariant-choices
invariant-choices l = Tried (vec_items l.self.groups) (vec_items l.self.choices) l.window l.fn.best.worst l.best.0 l.choice-index

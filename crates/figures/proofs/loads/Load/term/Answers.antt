use Rattle.std.proofs.Common.{◌≡◌, ◌+◌, ◌%◌, cond, sym, ◌∙◌, inl, inr, arith}
use Rattle.std.proofs.lemmas.Bool.{cond-true, cond-false}
use Rattle.figures.proofs.Terms.{wrapped, term_is}
use Rattle.figures.proofs.loads.Load.term.Goals as goal
use Rattle.figures.proofs.loads.Load.term.Goals.{then-start-duration, else-start-duration, then-self, else-self}

pub returns-clause-value : goal.returns-clause-value
returns-clause-value c =
    let a = c.args in
    let l = a.self.now in
    let start : c.if-start-duration.start ≡ (a.phase + l.lead) % a.duration =
    wrapped a.duration (a.phase + l.lead) c.if-start-duration.start (omega (arith, c.requires.below, c.requires.small.leads))
    (elim c.if-start-duration.branch [
      | then-start-duration w ↦ inl (w.if-start-duration.true, w.start-is)
      | else-start-duration w ↦ inr (w.if-start-duration.false, w.start-is)
    ]) in
    let ticks : c.if-self.ticks ≡ cond l.above (a.span.tick + a.span.ticks) (a.span.tick + 1) =
    elim c.if-self.branch [
      | then-self w ↦ w.ticks-is ∙ w.end-ticks.ensures ∙ sym (cond-true _ _ _ w.if-self.true)
      | else-self w ↦ w.ticks-is ∙ sym (cond-false _ _ _ w.if-self.false)
    ] in
    term_is a.duration l a.phase (a.span.tick + a.span.ticks) (a.span.tick + 1) c.if-start-duration.start c.if-self.ticks start ticks

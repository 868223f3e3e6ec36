use Rattle.std.proofs.Common.{◌<◌, sym, ⊎_elim, vec_items, arith, below_more}
use Rattle.std.proofs.lemmas.Bool.{cases_lt, leb-true}
use Rattle.plan.specs.Plans.{content}
use Rattle.plan.specs.Content.{table_of}
use Rattle.plan.specs.Rules.{hyperperiod_of}
use Rattle.figures.specs.Owns.{Topped}
use Rattle.figures.proofs.Searching.{prepared, some_choice, opened, some_ticks, taken_attains, bettered_tops, bettered_attains, ceiling_tops, end_tops, worst_from}
use Rattle.figures.proofs.search.Search.worst.Goals as goal
use Rattle.figures.proofs.search.Search.worst.Goals.{else-windows-test, then-windows-test+then-is_late}

pub first_choice-worst-requires-clause-some : goal.first_choice-worst-requires-clause-some
first_choice-worst-requires-clause-some c =
    let s = c.args.self.now in
    some_choice (content s.subject.plan.now) s.subject.plan.now.kept (table_of (content s.subject.plan.now) s.subject.task) (vec_items s.choices) c.requires

pub first_choice-worst-requires-clause-can : goal.first_choice-worst-requires-clause-can
first_choice-worst-requires-clause-can c =
    let s = prepared c.args.self.now c.requires in
    opened s c.window.result 0 c.window.ensures (some_ticks s)

pub windows-init : goal.windows-init
windows-init c =
    let s = prepared c.args.self.now c.requires in record {
      attains = taken_attains s c.window.result 0 c.first_choice-worst.result c.window.ensures (some_ticks s) c.first_choice-worst.ensures;
      tops = λ x lt. absurd (omega (arith, lt));
    }

pub windows-preserved-then-is_topped : goal.windows-preserved-then-is_topped
windows-preserved-then-is_topped c =
    let s = prepared c.args.self.now c.requires in
    let f = c.windows.best.0.figure in
    let inv = c.windows.invariant in record {
      attains = inv.attains;
      tops = below_more (λ n. Topped (content c.args.self.now.subject.plan.now) c.args.self.now.subject.task n f) c.windows.x inv.tops
          (ceiling_tops s c.window-window.result c.windows.x f c.window-window.ensures inv.attains.reach.some c.if-is_topped.ensures);
    }

pub try_choices-best-requires-clause-can : goal.try_choices-best-requires-clause-can
try_choices-best-requires-clause-can c =
    opened (prepared c.args.self.now c.requires) c.window-window.result c.windows.x c.window-window.ensures
    (omega (arith, c.windows-test.true, c.args.self.now.owned.limit))

pub windows-preserved : goal.windows-preserved
windows-preserved c =
    let s = prepared c.args.self.now c.requires in
    let w = c.window-window.result in
    let x = c.windows.x in
    let early : x < hyperperiod_of (content c.args.self.now.subject.plan.now) = omega (arith, c.windows-test.true, c.args.self.now.owned.limit) in
    let better = c.try_choices-best.ensures in record {
      attains = bettered_attains s w x _ _ c.window-window.ensures early better c.windows.invariant.attains;
      tops = below_more (λ n. Topped (content c.args.self.now.subject.plan.now) c.args.self.now.subject.task n c.try_choices-best.result.worst.figure) x
          (λ n lt φ y chosen reached. omega (arith, c.windows.invariant.tops n lt φ y chosen reached, better.keeps))
          (bettered_tops s w x _ _ c.window-window.ensures better);
    }

pub returns : goal.returns
returns c =
    let s = prepared c.args.self.now c.requires in
    let worst = c.windows.best.0 in
    worst_from s worst c.windows.invariant.attains (λ x early.
    ⊎_elim
    (λ before. c.windows.invariant.tops x before)
    (λ after.
    end_tops s x worst.figure
    (elim c.windows-test.branch [
      | else-windows-test w ↦ omega (arith, w.windows-test.false, c.args.self.now.owned.limit, early, after)
      | then-windows-test+then-is_late w ↦ omega (arith, leb-true _ _ (sym w.if-is_late.ensures), c.args.self.now.owned.limit, after)
    ]))
    (cases_lt x c.windows.x))

-- `rules::cuts::cut_by_stop` meets its contract: both cuts of the stop, or one. Assumes nothing.
use mathlib.Core.Path.{ap, ◌∙◌}
use borrow.Author.Tests.{ltb-true}
use Rattle.laws.proofs.Bools.{both}
use Rattle.rules.specs.Cuts.{cut_marks}
use Rattle.stops.proofs.Cuts.{both-cuts, one-cut}
use Rattle.rules.proofs.cuts.cut_by_stop.Goals as goal

pub overflow_sub-p : goal.overflow_sub-p
overflow_sub-p c =
    ltb-true 0 c.args.p (both c.args.moving _ c.if-moving-p.true).1

pub returns-then-moving-p : goal.returns-then-moving-p
returns-then-moving-p c =
    let a = c.args in
    c.cut_before-then-moving-p.ensures
    ∙ ap (cut_marks a.p) c.cut_before.ensures
    ∙ both-cuts cut_marks a.p a.moving a.marks.now c.if-moving-p.true

pub returns : goal.returns
returns c =
    let a = c.args in
    c.cut_before-2.ensures ∙ one-cut cut_marks a.p a.moving a.marks.now c.if-moving-p.false

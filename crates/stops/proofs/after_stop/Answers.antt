-- `stops::after_stop` meets its contract: both cuts of the stop, or one. Assumes nothing.
use mathlib.Core.Path.{ap, ◌∙◌}
use borrow.Author.Tests.{ltb-true}
use Rattle.laws.proofs.Bools.{both}
use Rattle.stops.specs.Cuts.{nearer}
use Rattle.stops.proofs.Cuts.{both-cuts, one-cut}
use Rattle.stops.proofs.after_stop.Goals as goal

pub overflow_sub-p : goal.overflow_sub-p
overflow_sub-p c =
    ltb-true 0 c.args.p (both c.args.moving _ c.if-moving-p.true).1

pub returns-then-moving-p : goal.returns-then-moving-p
returns-then-moving-p c =
    let a = c.args in
    c.nearer-then-moving-p.ensures
    ∙ ap (nearer a.at a.p) c.nearer.ensures
    ∙ both-cuts (nearer a.at) a.p a.moving a.first c.if-moving-p.true

pub returns : goal.returns
returns c =
    let a = c.args in
    c.nearer-2.ensures ∙ one-cut (nearer a.at) a.p a.moving a.first c.if-moving-p.false

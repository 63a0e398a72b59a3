-- `plots::sigmas` meets its contract: the entries are changed one after the other. Assumes nothing.
use Rattle.std.proofs.Common.{ap, ◌∙◌, arith}
use lib.Ieee.{nan}
use Rattle.laws.proofs.Filling.{tabling-starts, tabling-goes-on, tabling-all, in_place}
use Rattle.arith.specs.Arith.{or_nan}
use Rattle.attributes.specs.Evaluating.{sigma_of}
use Rattle.attributes.proofs.plots.sigmas.Goals as goal

pub loop-variance-init : goal.loop-variance-init
loop-variance-init c =
    tabling-starts _ _ _ (omega arith)

pub loop-variance-preserved : goal.loop-variance-preserved
unfolding sigma_of
loop-variance-preserved c =
    tabling-goes-on _ _ _ _ _ c.loop-variance.invariant _ c.loop-variance-test.true
    (c.or_nan.ensures ∙ ap or_nan c.root.ensures.is ∙ ap sigma_of (in_place _ _ _ _ _ c.loop-variance.invariant nan))

pub returns : goal.returns
returns c =
    tabling-all _ _ _ _ _ c.loop-variance.invariant (omega arith) c.loop-variance-test.false

-- `plots::variances` meets its contract: the entries are changed one after the other. Assumes nothing.
use Rattle.std.proofs.Common.{ap, arith}
use lib.Ieee.{nan, binary64, div}
use Rattle.laws.proofs.Filling.{tabling-starts, tabling-goes-on, tabling-all, in_place}
use Rattle.attributes.proofs.plots.variances.Goals as goal

pub loop-size-init : goal.loop-size-init
loop-size-init c =
    tabling-starts _ _ _ (omega arith)

pub loop-size-preserved : goal.loop-size-preserved
loop-size-preserved c =
    tabling-goes-on _ _ _ _ _ c.loop-size.invariant _ c.loop-size-test.true (ap (div binary64 c.args.variance) (in_place _ _ _ _ _ c.loop-size.invariant nan))

pub returns : goal.returns
returns c =
    tabling-all _ _ _ _ _ c.loop-size.invariant (omega arith) c.loop-size-test.false

-- `Size::fill` of parcels meets its contract: the entries are written one after the other. Assumes nothing.
use Rattle.std.proofs.Common.{arith}
use Rattle.laws.proofs.Lists.{length-tabulate}
use Rattle.laws.proofs.Filling.{tabling-starts, tabling-goes-on, tabling-ends}
use Rattle.attributes.proofs.Held.{inspected}
use Rattle.attributes.proofs.proportions.U64Size.fill.Goals as goal

pub loop-i-init : goal.loop-i-init
loop-i-init c =
    tabling-starts _ _ _ c.requires.1

pub overflow_cast-sizes : goal.overflow_cast-sizes
overflow_cast-sizes c =
    omega (arith, inspected _ (c.requires.2 c.loop-i.i c.loop-i-test.true))

pub loop-i-preserved : goal.loop-i-preserved
loop-i-preserved c =
    tabling-goes-on _ _ _ _ _ c.loop-i.invariant _ c.loop-i-test.true c.from.ensures

pub returns : goal.returns
returns c =
    record { value = tabling-ends _ _ _ _ _ c.loop-i.invariant c.loop-i-test.false; many = length-tabulate _ c.args.n }

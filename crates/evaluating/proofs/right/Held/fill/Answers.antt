-- `Held::fill` meets its contract. The points are written one after the other. Assumes nothing.
use Rattle.std.proofs.Common.{arith}
use Rattle.laws.proofs.Filling.{tabling-starts, tabling-goes-on, tabling-ends}
use Rattle.evaluating.specs.Series.{series_of}
use Rattle.evaluating.proofs.right.Held.fill.Goals as goal

pub loop-i-init : goal.loop-i-init
loop-i-init c =
    tabling-starts _ _ _ c.requires

pub loop-i-preserved : goal.loop-i-preserved
loop-i-preserved c =
    tabling-goes-on _ _ _ _ _ c.loop-i.invariant c.point.result (omega (arith, c.points_in-n.ensures)) c.point.ensures

pub returns : goal.returns
unfolding series_of
returns c =
    tabling-ends _ _ _ _ _ c.loop-i.invariant (omega (arith, c.points_in-n.ensures))

-- `columns::fill_all` meets its contract: the entries of all are written one after the other, and each point is asked. Assumes nothing.
use Rattle.points.proofs.Filled.{columns-start, columns-go-on, columns-sound}
use Rattle.points.proofs.columns.fill_all.Goals as goal

pub loop-i-init : goal.loop-i-init
loop-i-init c =
    columns-start _ _ _ _ _ _ _ c.requires

pub loop-i-preserved : goal.loop-i-preserved
loop-i-preserved c =
    columns-go-on _ _ _ _ _ _ _ _ _ _ _ _ _ _ c.loop-i.invariant c.upper-upper.result c.lower-lower.result c.standardized.result c.is_finite-all.result c.loop-i-test.true
    c.upper-upper.ensures c.lower-lower.ensures c.standardized.ensures c.is_finite-all.ensures

pub returns-clause-sound : goal.returns-clause-sound
returns-clause-sound c =
    columns-sound _ _ _ _ _ _ _ _ _ _ _ _ _ _ c.loop-i.invariant c.requires.0 c.loop-i-test.false c.is_finite-centre.ensures

-- `point::standardized` meets its contract, by its test. Assumes nothing.

use Rattle.points.proofs.point.standardized.Goals as goal

pub returns-then-sigma : goal.returns-then-sigma
returns-then-sigma c =
    simp c.if-sigma.true

pub returns-else-sigma : goal.returns-else-sigma
returns-else-sigma c =
    simp c.if-sigma.false

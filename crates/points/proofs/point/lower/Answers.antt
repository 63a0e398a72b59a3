-- `point::lower` meets its contract, by its test. Assumes nothing.
use lib.Ieee.{of_bits, round}
use Rattle.points.specs.Points.{lower_of}
use Rattle.points.proofs.point.lower.Goals as goal

pub returns-then-computed : goal.returns-then-computed
unfolding lower_of of_bits round
returns-then-computed c =
    simp c.if-computed.true

pub returns-else-computed : goal.returns-else-computed
unfolding lower_of of_bits round
returns-else-computed c =
    simp c.if-computed.false

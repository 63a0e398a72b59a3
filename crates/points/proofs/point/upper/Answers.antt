-- `point::upper` meets its contract: the operations are the same, in the same order. Assumes nothing.
use mathlib.Core.Path.{refl}
use lib.Ieee.{of_bits, round}
use Rattle.points.specs.Points.{upper_of}
use Rattle.points.proofs.point.upper.Goals as goal

pub returns : goal.returns
unfolding upper_of of_bits round
returns c =
    refl

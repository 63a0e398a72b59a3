-- `Right::dispersion_limits` meets its contract, by what it is told of the factors. Assumes nothing.
use lib.Ieee.{of_bits, round}
use Rattle.evaluating.specs.Limits.{dispersion_limits}
use Rattle.evaluating.proofs.right.Right.dispersion_limits.Goals as goal

pub returns : goal.returns
unfolding dispersion_limits of_bits round
returns c =
    rw (c.factor_for.ensures, c.lower_limit.ensures)

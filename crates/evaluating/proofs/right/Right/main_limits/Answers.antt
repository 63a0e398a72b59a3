-- `Right::main_limits` meets its contract, by what it is told of the factor. Assumes nothing.
use Rattle.std.proofs.Common.{refl}
use lib.Ieee.{of_bits, round}
use Rattle.evaluating.specs.Limits.{main_limits}
use Rattle.evaluating.proofs.right.Right.main_limits.Goals as goal

pub returns : goal.returns
unfolding main_limits of_bits round
returns c =
    rw c.factor_for.ensures refl

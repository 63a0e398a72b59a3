-- `sigma::equivalent_df` meets its contract: the operations are the same, in the same order. Assumes nothing.
use Rattle.std.proofs.Common.{refl}
use lib.Ieee.{of_bits, round}
use Rattle.evaluating.specs.Sigma.{equivalent_df}
use Rattle.evaluating.proofs.sigma.equivalent_df.Goals as goal

pub returns : goal.returns
unfolding equivalent_df of_bits round
returns c =
    refl

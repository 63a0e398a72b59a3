-- `sigma::deviation_cv2` meets its contract: the operations are the same, in the same order. Assumes nothing.
use Rattle.std.proofs.Common.{refl}
use lib.Ieee.{of_bits, round}
use Rattle.evaluating.specs.Sigma.{deviation_cv2}
use Rattle.evaluating.proofs.sigma.deviation_cv2.Goals as goal

pub returns : goal.returns
unfolding deviation_cv2 of_bits round
returns c =
    refl

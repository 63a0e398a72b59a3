-- `Size::variance` of parcels meets its contract: the operations are the same, in the same order. Assumes nothing.
use Rattle.std.proofs.Common.{refl}
use lib.Ieee.{of_bits, round}
use Rattle.attributes.proofs.proportions.U64Size.variance.Goals as goal

pub returns : goal.returns
unfolding of_bits round
returns c =
    refl

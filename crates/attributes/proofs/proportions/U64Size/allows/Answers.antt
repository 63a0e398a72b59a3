-- `Size::allows` of parcels meets its contract. Assumes nothing.
use Rattle.std.proofs.Common.{Bool, ◌&&◌, ap}
use lib.Ieee.{of_bits, round, lt}
use Rattle.floats.specs.Values.{plus_zero, decimal}
use Rattle.attributes.proofs.proportions.U64Size.allows.Goals as goal

pub returns : goal.returns
unfolding of_bits round
returns c =
    let p = c.args.centre in
    ap (λ (b : Bool). b && lt plus_zero p && lt p (decimal 1 10)) c.is_finite.ensures
